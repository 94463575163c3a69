-- The outcomes of lines, from the last one to the first.
use Rattle.std.proofs.Common.{◌≡◌, ℕ, ◌+◌, ◌<◌, List, [], ◌∷◌, ◌++◌, append_assoc, Bool, count_by, cond, length, length-append, reverse, Option, Some, None, is_none, inl, inr, refl, sym, ap, ◌∙◌, subst, arith}
use Rattle.std.specs.List.{AllZip}
use Rattle.std.proofs.lemmas.List.{append-nil, nil_from_length, reverse-append}
use Rattle.topk_theory.proofs.Counts.{count_append, count_first}
use Rattle.query_core.specs.declared.ready.Ready.{Ready}
use Rattle.query_admission.specs.View.{View}
use Rattle.query_admission.specs.declared.line_outcome.LineOutcome.{LineOutcome}
use Rattle.query_run.specs.declared.ended.Ended.{Ended}
use Rattle.query_run.specs.declared.running_query.RunningQuery.{RunningQuery}
use Rattle.query_run.specs.Made.{IsOf}
use Rattle.query_run.specs.Endings.{EndsAs, IsRight}
use Rattle.line_outcome.specs.LineOutcomes.{IsEndedAs}
use Rattle.catalog_open.specs.Admissions.{AreAdmitted}
use Rattle.catalog_run.specs.Runs.{AreOutcomes}

-- whatever lines these were admitted as, they have these outcomes by how their queries ended
abbrev pub EndsLines : List (Option LineOutcome) → List Ready → List Ended → List LineOutcome → Type 0
EndsLines lines readies endings outcomes =
    (view : View) (number : ℕ) (texts : List (List ℕ)) (queries : List RunningQuery) → AreAdmitted view number texts lines readies
    → AllZip IsOf readies queries → AllZip EndsAs queries endings → AllZip IsRight readies endings → AreOutcomes view queries number texts outcomes

-- the lines behind those that are left have their outcomes, which stand in the opposite order
pub record EndsFrom (lines left_lines : List (Option LineOutcome)) (readies left_readies : List Ready) (endings left_endings : List Ended)
    (outcomes : List LineOutcome) : Type 0 where
  pub done_lines : List (Option LineOutcome)
  pub done_readies : List Ready
  pub done_endings : List Ended
  pub lines_are : lines ≡ left_lines ++ done_lines
  pub readies_are : readies ≡ left_readies ++ done_readies
  pub endings_are : endings ≡ left_endings ++ done_endings
  pub waiting : count_by is_none left_lines ≡ length left_readies
  pub many : length left_endings ≡ length left_readies
  pub ends : EndsLines done_lines done_readies done_endings (reverse outcomes)

ends_nothing : EndsLines [] [] [] []
ends_nothing view number [] [] are of ends right = refl
ends_nothing view number [] (q ∷ queries) are of ends right = absurd of
ends_nothing view number (bytes ∷ texts) queries are of ends right = absurd are

ends_refused : (lines : List (Option LineOutcome)) (readies : List Ready) (endings : List Ended) (outcomes : List LineOutcome) (o : LineOutcome)
    → EndsLines lines readies endings outcomes → EndsLines (Some o ∷ lines) readies endings (o ∷ outcomes)
ends_refused lines readies endings outcomes o ended view number [] queries are of ends right = absurd are
ends_refused lines readies endings outcomes o ended view number (bytes ∷ texts) queries are of ends right =
    inl (are.0, ended view (number + 1) texts queries are.1 of ends right)

ends_ready : (lines : List (Option LineOutcome)) (readies : List Ready) (endings : List Ended) (outcomes : List LineOutcome) (ready : Ready) (e : Ended)
    (o : LineOutcome) → IsEndedAs ready e o → EndsLines lines readies endings outcomes → EndsLines (None ∷ lines) (ready ∷ readies) (e ∷ endings) (o ∷ outcomes)
ends_ready lines readies endings outcomes ready e o is ended view number [] queries are of ends right = absurd are
ends_ready lines readies endings outcomes ready e o is ended view number (bytes ∷ texts) [] are of ends right = absurd of
ends_ready lines readies endings outcomes ready e o is ended view number (bytes ∷ texts) (q ∷ queries) are of ends right =
    inr (
      q,
      queries,
      refl,
      record { ready = ready; admitted = are.0; of = of.0; ended = e; ends = ends.0; right = right.0; outcome = is },
      ended view (number + 1) texts queries are.1 of.1 ends.1 right.1,
    )

pub ends_none : (lines : List (Option LineOutcome)) (readies : List Ready) (endings : List Ended) (outcomes : List LineOutcome)
    → count_by is_none lines ≡ length readies → length endings ≡ length readies → outcomes ≡ [] → EndsFrom lines lines readies readies endings endings outcomes
ends_none lines readies endings outcomes waiting many none = record {
  done_lines = [];
  done_readies = [];
  done_endings = [];
  lines_are = sym (append-nil lines);
  readies_are = sym (append-nil readies);
  endings_are = sym (append-nil endings);
  waiting = waiting;
  many = many;
  ends = subst (λ os. EndsLines [] [] [] (reverse os)) (sym none) ends_nothing;
}

-- the last of what is left goes to what is done
moved : {X : Type 0} (xs left rest done : List X) (x : X) → xs ≡ left ++ done → left ≡ rest ++ x ∷ [] → xs ≡ rest ++ x ∷ done
moved xs left rest done x are popped = are ∙ ap (λ ys. ys ++ done) popped ∙ append_assoc rest (x ∷ []) done

turned : (outcomes now : List LineOutcome) (o : LineOutcome) → now ≡ outcomes ++ o ∷ [] → o ∷ reverse outcomes ≡ reverse now
turned outcomes now o pushed = sym (ap reverse pushed ∙ reverse-append outcomes (o ∷ []))

-- how many pass, with one member more
counted_with : {X : Type 0} (p : X → Bool) (xs rest : List X) (x : X) → xs ≡ rest ++ x ∷ [] → count_by p xs ≡ count_by p rest + cond (p x) 1 0
counted_with p xs rest x popped =
    let all = count_append p rest (x ∷ []) in
    let last : count_by p (x ∷ []) ≡ cond (p x) 1 0 + count_by p [] = count_first p x [] in
    let none : count_by p [] ≡ 0 = refl in
    ap (count_by p) popped ∙ omega (arith, all, last, none)

-- a line that has its outcome
pub keeps_more : (lines left rest : List (Option LineOutcome)) (readies left_readies : List Ready) (endings left_endings : List Ended)
    (outcomes now : List LineOutcome) (line : Option LineOutcome) (o : LineOutcome)
    → EndsFrom lines left readies left_readies endings left_endings outcomes → left ≡ rest ++ line ∷ [] → line ≡ Some o → now ≡ outcomes ++ o ∷ []
    → EndsFrom lines rest readies left_readies endings left_endings now
keeps_more lines left rest readies left_readies endings left_endings outcomes now line o from popped some pushed =
    let last : left ≡ rest ++ Some o ∷ [] = popped ∙ ap (λ l. rest ++ l ∷ []) some in
    let waiting : count_by is_none left ≡ count_by is_none rest + 0 = counted_with is_none left rest (Some o) last in
    record {
      done_lines = Some o ∷ from.done_lines;
      done_readies = from.done_readies;
      done_endings = from.done_endings;
      lines_are = moved lines left rest from.done_lines (Some o) from.lines_are last;
      readies_are = from.readies_are;
      endings_are = from.endings_are;
      waiting = omega (arith, waiting, from.waiting);
      many = from.many;
      ends = subst (EndsLines (Some o ∷ from.done_lines) from.done_readies from.done_endings) (turned outcomes now o pushed)
          (ends_refused from.done_lines from.done_readies from.done_endings (reverse outcomes) o from.ends);
    }

-- a query is left for a line that has none, and how it ended
pub some_left : (lines left rest : List (Option LineOutcome)) (readies left_readies : List Ready) (endings left_endings : List Ended)
    (outcomes : List LineOutcome) (line : Option LineOutcome)
    → EndsFrom lines left readies left_readies endings left_endings outcomes → left ≡ rest ++ line ∷ [] → line ≡ None
    → (0 < length left_readies) × (0 < length left_endings)
some_left lines left rest readies left_readies endings left_endings outcomes line from popped none =
    let waiting : count_by is_none left ≡ count_by is_none rest + 1 = counted_with is_none left rest None (popped ∙ ap (λ l. rest ++ l ∷ []) none) in
    (omega (arith, waiting, from.waiting), omega (arith, waiting, from.waiting, from.many))

-- a line whose query ended
pub ends_more : (lines left rest : List (Option LineOutcome)) (readies left_readies rest_readies : List Ready)
    (endings left_endings rest_endings : List Ended) (outcomes now : List LineOutcome) (line : Option LineOutcome) (ready : Ready) (e : Ended) (o : LineOutcome)
    → EndsFrom lines left readies left_readies endings left_endings outcomes → left ≡ rest ++ line ∷ [] → line ≡ None
    → left_readies ≡ rest_readies ++ ready ∷ [] → left_endings ≡ rest_endings ++ e ∷ [] → IsEndedAs ready e o → now ≡ outcomes ++ o ∷ []
    → EndsFrom lines rest readies rest_readies endings rest_endings now
ends_more lines left rest readies left_readies rest_readies endings left_endings rest_endings outcomes now line ready e o from popped none popped_ready popped_ending is pushed =
    let last : left ≡ rest ++ None ∷ [] = popped ∙ ap (λ l. rest ++ l ∷ []) none in
    let waiting : count_by is_none left ≡ count_by is_none rest + 1 = counted_with is_none left rest None last in
    let fewer : length left_readies ≡ length rest_readies + 1 = ap length popped_ready ∙ length-append rest_readies (ready ∷ []) in
    let fewer_endings : length left_endings ≡ length rest_endings + 1 = ap length popped_ending ∙ length-append rest_endings (e ∷ []) in
    record {
      done_lines = None ∷ from.done_lines;
      done_readies = ready ∷ from.done_readies;
      done_endings = e ∷ from.done_endings;
      lines_are = moved lines left rest from.done_lines None from.lines_are last;
      readies_are = moved readies left_readies rest_readies from.done_readies ready from.readies_are popped_ready;
      endings_are = moved endings left_endings rest_endings from.done_endings e from.endings_are popped_ending;
      waiting = omega (arith, waiting, from.waiting, fewer);
      many = omega (arith, from.many, fewer, fewer_endings);
      ends = subst (EndsLines (None ∷ from.done_lines) (ready ∷ from.done_readies) (e ∷ from.done_endings)) (turned outcomes now o pushed)
          (ends_ready from.done_lines from.done_readies from.done_endings (reverse outcomes) ready e o is from.ends);
    }

-- all have theirs
pub ends_all : (lines left : List (Option LineOutcome)) (readies left_readies : List Ready) (endings left_endings : List Ended)
    (outcomes now : List LineOutcome) → EndsFrom lines left readies left_readies endings left_endings outcomes → left ≡ [] → now ≡ reverse outcomes
    → EndsLines lines readies endings now
ends_all lines left readies left_readies endings left_endings outcomes now from none turns =
    let waiting : count_by is_none left ≡ 0 = ap (count_by is_none) none in
    let no_readies : left_readies ≡ [] = nil_from_length left_readies (omega (arith, waiting, from.waiting)) in
    let no_endings : left_endings ≡ [] = nil_from_length left_endings (omega (arith, waiting, from.waiting, from.many)) in
    let all_lines : from.done_lines ≡ lines = sym (from.lines_are ∙ ap (λ ls. ls ++ from.done_lines) none) in
    let all_readies : from.done_readies ≡ readies = sym (from.readies_are ∙ ap (λ rs. rs ++ from.done_readies) no_readies) in
    let all_endings : from.done_endings ≡ endings = sym (from.endings_are ∙ ap (λ es. es ++ from.done_endings) no_endings) in
    subst (EndsLines lines readies endings) (sym turns)
    (subst (λ es. EndsLines lines readies es (reverse outcomes)) all_endings
    (subst (λ rs. EndsLines lines rs from.done_endings (reverse outcomes)) all_readies
    (subst (λ ls. EndsLines ls from.done_readies from.done_endings (reverse outcomes)) all_lines from.ends)))

-- as many lines have no outcome yet as queries are ready
pub as_many_wait : (view : View) (number : ℕ) (texts : List (List ℕ)) (lines : List (Option LineOutcome)) (readies : List Ready)
    → AreAdmitted view number texts lines readies → count_by is_none lines ≡ length readies
as_many_wait view number [] [] readies are = sym (ap length are)
as_many_wait view number [] (line ∷ lines) readies are = absurd are
as_many_wait view number (bytes ∷ texts) [] readies are = absurd are
as_many_wait view number (bytes ∷ texts) (Some o ∷ lines) readies are =
    let first : count_by is_none (Some o ∷ lines) ≡ 0 + count_by is_none lines = count_first is_none (Some o) lines in
    let others = as_many_wait view (number + 1) texts lines readies are.1 in
    omega (arith, first, others)
as_many_wait view number (bytes ∷ texts) (None ∷ lines) [] are = absurd are
as_many_wait view number (bytes ∷ texts) (None ∷ lines) (ready ∷ readies) are =
    let first : count_by is_none (None ∷ lines) ≡ 1 + count_by is_none lines = count_first {X = Option LineOutcome} is_none None lines in
    let others = as_many_wait view (number + 1) texts lines readies are.1 in
    omega (arith, first, others)
