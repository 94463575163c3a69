-- What the reading of lines finds out: a bundle that they spell, or the first line at fault.
use Rattle.std.proofs.Common.{◌≡◌, ◌≢◌, ◌<◌, ◌≤◌, ◌+◌, ◌-◌, ℕ, suc, Bool, true, false, List, [], ◌∷◌, ◌++◌, length, take, Result, Ok, Err, refl, sym, ap, ◌∙◌, subst, ⊎_elim, arith, append_assoc, append-nil, IfOk, IfErr}
use Rattle.std.specs.List.{All}
use Rattle.std.proofs.lemmas.List.Elements.{All-head, All-tail, All-drop, All-weaker}
use Rattle.std.proofs.lemmas.Bool.{cases_Bool}
use Rattle.bundle_text.specs.Bundle.{Content, IsBundle, Spells, BeginsBundle, IsFirstFault, bundle_lines, query_line}
use Rattle.bundle_text.specs.Reading.{InsideList, Part, list_part, row_part, query_part, no_part, part_of, takes_row, with_row, takes_list, with_list, is_whole, with_query, takes_part, with_part, first_front, read_part, read_on, read_first, read_all}
use Rattle.bundle_text.proofs.PartLaws.{PartMeans, part_means}
use Rattle.bundle_text.proofs.ReadLaws.{read_on-nil, read_on-cons, read_part-takes, read_part-refuses, ends_alone, ends_before_more, ends_short}
use Rattle.bundle_text.proofs.FrontLaws.{IsFront, IsFront-row, IsFront-list, IsFront-first, front_lines, front_lines-row, front_lines-list, whole_bundle}
use Rattle.bundle_text.proofs.Viable.{viable}
use Rattle.bundle_text.proofs.Complete.{complete}
use Rattle.bundle_text.specs.declared.bundle.Bundle.{Bundle}
use Rattle.bundle_text.specs.declared.bundle.BundleFault.{BundleFault}
use Rattle.bundle_text.specs.declared.bundle.BundleFault.TheVariants.{BadBundle, Memory}
use Rattle.bundle_text.specs.Bundle.{content, IsReadAs, IsCause}
use Rattle.bundle_text.specs.Tracking.{GivesBundle}

-- the text of a query that a line is has no LF
abbrev pub HasOneLine : List ℕ → Type 0
HasOneLine line = (query : List ℕ) → part_of line ≡ query_part query → All (λ byte. byte ≢ 10) query

-- no line is a query with an LF
abbrev pub AreLines : List (List ℕ) → Type 0
AreLines ls = All HasOneLine ls

-- a line at fault: the lines before it begin some bundle's after those of a front, and with it reading fails whatever follows
pub record Fails (lines : List (List ℕ)) (read : List (List ℕ) → Result Content ℕ) (from fault : ℕ) (ls : List (List ℕ)) : Type 0 where
  pub before : ℕ
  pub at : fault ≡ from + before
  pub within : before ≤ length ls
  pub begins : BeginsBundle (lines ++ take before ls)
  pub fails : before < length ls → (more : List (List ℕ)) → read (take (suc before) ls ++ more) ≡ Err fault

-- what a reading of the lines after a front's says
abbrev pub Outcome : List (List ℕ) → (List (List ℕ) → Result Content ℕ) → ℕ → List (List ℕ) → Result Content ℕ → Type 0
Outcome lines read from ls (Ok c) = IsBundle c × (lines ++ ls ≡ bundle_lines c)
Outcome lines read from ls (Err fault) = Fails lines read from fault ls

-- the first line is at fault
pub outcome_fault : (lines : List (List ℕ)) (read : List (List ℕ) → Result Content ℕ) (from : ℕ) (next : List ℕ) (ls : List (List ℕ)) → BeginsBundle lines
    → ((rest : List (List ℕ)) → read (next ∷ rest) ≡ Err from) → Outcome lines read from (next ∷ ls) (read (next ∷ ls))
outcome_fault lines read from next ls begins fails =
    subst (Outcome lines read from (next ∷ ls)) (sym (fails ls)) (record {
      before = 0;
      at = omega arith;
      within = omega arith;
      begins = subst BeginsBundle (sym (append-nil lines)) begins;
      fails = λ l more. fails more;
    })

-- the first line is taken in
pub outcome_taken : (lines after : List (List ℕ)) (read then : List (List ℕ) → Result Content ℕ) (from : ℕ) (next : List ℕ) (ls : List (List ℕ))
    → ((rest : List (List ℕ)) → read (next ∷ rest) ≡ then rest) → after ≡ lines ++ next ∷ []
    → Outcome after then (from + 1) ls (then ls) → Outcome lines read from (next ∷ ls) (read (next ∷ ls))
outcome_taken lines after read then from next ls goes grown outcome =
    subst (Outcome lines read from (next ∷ ls)) (sym (goes ls)) (shifted (then ls) outcome)
  where
    joined : (more : List (List ℕ)) → after ++ more ≡ lines ++ next ∷ more
    joined more = ap (λ ls. ls ++ more) grown ∙ append_assoc lines (next ∷ []) more

    shifted : (r : Result Content ℕ) → Outcome after then (from + 1) ls r → Outcome lines read from (next ∷ ls) r
    shifted (Ok c) h = (h.0, sym (joined ls) ∙ h.1)
    shifted (Err fault) h = record {
      before = suc h.before;
      at = let at = h.at in omega arith;
      within = let within = h.within in omega arith;
      begins = subst BeginsBundle (joined (take h.before ls)) h.begins;
      fails = λ l more. goes (take (suc h.before) ls ++ more) ∙ h.fails (omega arith) more;
    }

-- ---- one line after a front

step : (front : InsideList) (from : ℕ) (next : List ℕ) (part : Part) → part_of next ≡ part → (rest : List (List ℕ))
    → read_on front from (next ∷ rest) ≡ read_part front from rest (λ f. read_on f (from + 1) rest) part
step front from next part is rest = read_on-cons front from next rest ∙ ap (read_part front from rest (λ f. read_on f (from + 1) rest)) is

refused : (front : InsideList) (from : ℕ) (next : List ℕ) (ls : List (List ℕ)) (part : Part) → IsFront front → part_of next ≡ part
    → ((text : List ℕ) → part ≡ query_part text → ⊥) → takes_part front part ≡ false
    → Outcome (front_lines front) (read_on front from) from (next ∷ ls) (read_on front from (next ∷ ls))
refused front from next ls part f is other refuses =
    outcome_fault (front_lines front) (read_on front from) from next ls (viable front f) (λ rest.
    step front from next part is rest ∙ read_part-refuses front from rest (λ f. read_on f (from + 1) rest) part other refuses)

taken : (front : InsideList) (from : ℕ) (next : List ℕ) (ls : List (List ℕ)) (part : Part) → part_of next ≡ part → takes_part front part ≡ true
    → front_lines (with_part front part) ≡ front_lines front ++ next ∷ []
    → Outcome (front_lines (with_part front part)) (read_on (with_part front part) (from + 1)) (from + 1) ls (read_on (with_part front part) (from + 1) ls)
    → Outcome (front_lines front) (read_on front from) from (next ∷ ls) (read_on front from (next ∷ ls))
taken front from next ls part is takes grown outcome =
    outcome_taken (front_lines front) (front_lines (with_part front part)) (read_on front from) (read_on (with_part front part) (from + 1)) from next ls
    (λ rest. step front from next part is rest ∙ read_part-takes front from rest (λ f. read_on f (from + 1) rest) part takes) grown outcome

queried : (front : InsideList) (from : ℕ) (next : List ℕ) (ls : List (List ℕ)) (query : List ℕ) → IsFront front → part_of next ≡ query_part query
    → next ≡ query_line query → All (λ byte. byte ≢ 10) query
    → (b : Bool) → is_whole front ≡ b → Outcome (front_lines front) (read_on front from) from (next ∷ ls) (read_on front from (next ∷ ls))
queried front from next ls query f is spelled one_line false short =
    outcome_fault (front_lines front) (read_on front from) from next ls (viable front f) (λ rest.
    step front from next (query_part query) is rest ∙ ends_short front from rest (λ f. read_on f (from + 1) rest) query short)
queried front from next [] query f is spelled one_line true whole =
    subst (Outcome (front_lines front) (read_on front from) from (next ∷ []))
    (sym (step front from next (query_part query) is [] ∙ ends_alone front from [] (λ f. read_on f (from + 1) []) query whole refl))
    (whole_bundle front query f whole one_line, ap (λ line. front_lines front ++ line ∷ []) spelled)
queried front from next (after ∷ ls) query f is spelled one_line true whole =
    subst (Outcome (front_lines front) (read_on front from) from (next ∷ after ∷ ls)) (sym (fails after ls)) (record {
      before = 1;
      at = refl;
      within = omega arith;
      begins = (
        [],
        with_query front query,
        record {
          bundle = whole_bundle front query f whole one_line;
          spelled = append-nil (front_lines front ++ next ∷ []) ∙ ap (λ line. front_lines front ++ line ∷ []) spelled;
        },
      );
      fails = λ l more. fails after more;
    })
  where
    fails : (after : List ℕ) (rest : List (List ℕ)) → read_on front from (next ∷ after ∷ rest) ≡ Err (from + 1)
    fails after rest =
        step front from next (query_part query) is (after ∷ rest)
        ∙ ends_before_more front from (after ∷ rest) rest after (λ f. read_on f (from + 1) (after ∷ rest)) query whole refl

-- the text of a query has no LF where its line has none
one_line : (line : List ℕ) → All (λ byte. byte ≢ 10) line → HasOneLine line
one_line line all query is =
    let spelled : line ≡ query_line query = subst (PartMeans line) is (part_means line) in
    All-drop (λ byte. byte ≢ 10) 6 (query_line query) (subst (All (λ byte. byte ≢ 10)) spelled all)

-- so it is with lines of a text
pub lines_of_text : (ls : List (List ℕ)) → All (λ line. All (λ byte. byte ≢ 10) line) ls → AreLines ls
lines_of_text ls all = All-weaker (λ line. All (λ byte. byte ≢ 10) line) HasOneLine one_line ls all

-- what the reading after a front finds out
pub outcome : (front : InsideList) (from : ℕ) (ls : List (List ℕ)) → IsFront front → AreLines ls
    → Outcome (front_lines front) (read_on front from) from ls (read_on front from ls)
outcome front from [] f lines =
    subst (Outcome (front_lines front) (read_on front from) from []) (sym (read_on-nil front from)) (record {
      before = 0;
      at = omega arith;
      within = omega arith;
      begins = subst BeginsBundle (sym (append-nil (front_lines front))) (viable front f);
      fails = λ l more. absurd (omega arith);
    })
outcome front from (next ∷ ls) f lines =
    by_part front from next ls f (All-head HasOneLine next ls lines) (part_of next) refl (part_means next)
    (λ after g. outcome after (from + 1) ls g (All-tail HasOneLine next ls lines))
  where
    by_part : (front : InsideList) (from : ℕ) (next : List ℕ) (ls : List (List ℕ)) → IsFront front → HasOneLine next → (part : Part)
        → part_of next ≡ part → PartMeans next part
        → ((after : InsideList) → IsFront after → Outcome (front_lines after) (read_on after (from + 1)) (from + 1) ls (read_on after (from + 1) ls))
        → Outcome (front_lines front) (read_on front from) from (next ∷ ls) (read_on front from (next ∷ ls))
    by_part front from next ls f line (list_part name) is means more =
        ⊎_elim
        (λ takes.
        taken front from next ls (list_part name) is takes (front_lines-list front name f.each ∙ ap (λ l. front_lines front ++ l ∷ []) (sym means.0))
        (more (with_list front name) (IsFront-list front name f takes means.1)))
        (λ refuses. refused front from next ls (list_part name) f is (λ text e. cc) refuses)
        (cases_Bool (takes_list front name))
    by_part front from next ls f line (row_part row) is means more =
        ⊎_elim
        (λ takes.
        taken front from next ls (row_part row) is takes (front_lines-row front row f.each ∙ ap (λ l. front_lines front ++ l ∷ []) (sym means.0))
        (more (with_row front row) (IsFront-row front row f takes means.1)))
        (λ refuses. refused front from next ls (row_part row) f is (λ text e. cc) refuses)
        (cases_Bool (takes_row front row))
    by_part front from next ls f line (query_part query) is means more = queried front from next ls query f is means (line query is) (is_whole front) refl
    by_part front from next ls f line no_part is means more = refused front from next ls no_part f is (λ text e. cc) refl

-- ---- all lines

-- some bundle has a first line, so nothing begins each bundle's
pub begins_none : BeginsBundle []
begins_none =
    let v = viable (first_front (65 ∷ [])) (IsFront-first (65 ∷ []) refl) in
    (front_lines (first_front (65 ∷ [])) ++ v.0, v.1, v.2)

pub outcome_all : (ls : List (List ℕ)) → AreLines ls → Outcome [] read_all 1 ls (read_all ls)
outcome_all [] lines = record { before = 0; at = refl; within = omega arith; begins = begins_none; fails = λ l more. absurd (omega arith) }
outcome_all (next ∷ ls) lines =
    by_first (part_of next) refl (part_means next)
  where
    first_fault : (part : Part) → part_of next ≡ part → ((rest : List (List ℕ)) → read_first rest part ≡ Err 1)
        → Outcome [] read_all 1 (next ∷ ls) (read_all (next ∷ ls))
    first_fault part is fails = outcome_fault [] read_all 1 next ls begins_none (λ rest. ap (read_first rest) is ∙ fails rest)

    by_first : (part : Part) → part_of next ≡ part → PartMeans next part → Outcome [] read_all 1 (next ∷ ls) (read_all (next ∷ ls))
    by_first (list_part name) is means =
        outcome_taken [] (front_lines (first_front name)) read_all (read_on (first_front name) 2) 1 next ls (λ rest. ap (read_first rest) is) (ap (λ l. l ∷ []) (sym means.0))
        (outcome (first_front name) 2 ls (IsFront-first name means.1) (All-tail HasOneLine next ls lines))
    by_first (row_part row) is means = first_fault (row_part row) is (λ rest. refl)
    by_first (query_part query) is means = first_fault (query_part query) is (λ rest. refl)
    by_first no_part is means = first_fault no_part is (λ rest. refl)

-- ---- the clauses of the reader

-- the line at fault is the first with which no bundle begins
pub first_fault : (ls : List (List ℕ)) (fault : ℕ) → Fails [] read_all 1 fault ls → IsFirstFault ls fault
first_fault ls fault f = record {
  counted = let at = f.at in omega arith;
  within = let at = f.at in let within = f.within in omega arith;
  begins = let before : fault - 1 ≡ f.before = (let at = f.at in omega arith) in subst (λ n. BeginsBundle (take n ls)) (sym before) f.begins;
  ends = λ l begun.
      let at = f.at in
      let place : fault ≡ suc f.before = omega arith in
      let spells = begun.2 in
      let lines : take (suc f.before) ls ++ begun.0 ≡ bundle_lines begun.1 = ap (λ n. take n ls ++ begun.0) (sym place) ∙ spells.spelled in
      let bad : read_all (take (suc f.before) ls ++ begun.0) ≡ Err fault = f.fails (omega arith) begun.0 in
      let good : read_all (take (suc f.before) ls ++ begun.0) ≡ Ok begun.1 = ap read_all lines ∙ complete begun.1 spells.bundle in
      absurd cc;
}

-- what was read is spelled so
pub found_spells : (ls : List (List ℕ)) → AreLines ls → (c : Content) → read_all ls ≡ Ok c → Spells ls c
found_spells ls lines c e =
    let out = subst (Outcome [] read_all 1 ls) e (outcome_all ls lines) in
    record { bundle = out.0; spelled = out.1 }

-- a fault is the first
pub fault_first : (ls : List (List ℕ)) → AreLines ls → (fault : ℕ) → read_all ls ≡ Err fault → IsFirstFault ls fault
fault_first ls lines fault e = first_fault ls fault (subst (Outcome [] read_all 1 ls) e (outcome_all ls lines))

pub result_found : (ls : List (List ℕ)) (r : Result Bundle BundleFault) → AreLines ls → GivesBundle r (read_all ls) → IfOk r (λ bundle. Spells ls (content bundle))
result_found ls (Ok bundle) lines gives = found_spells ls lines (content bundle) gives
result_found ls (Err fault) lines gives = tt

pub result_reads : (ls : List (List ℕ)) (r : Result Bundle BundleFault) → GivesBundle r (read_all ls) → (c : Content) → Spells ls c → IsReadAs c r
result_reads ls (Ok bundle) gives c s =
    let good : read_all ls ≡ Ok c = ap read_all s.spelled ∙ complete c s.bundle in
    let same : Ok (content bundle) ≡ Ok c = sym gives ∙ good in cc
result_reads ls (Err (BadBundle line)) gives c s =
    let good : read_all ls ≡ Ok c = ap read_all s.spelled ∙ complete c s.bundle in
    let bad : read_all ls ≡ Err line = gives in
    absurd cc
result_reads ls (Err Memory) gives c s = tt

pub result_fault : (ls : List (List ℕ)) (r : Result Bundle BundleFault) → AreLines ls → GivesBundle r (read_all ls) → IfErr r (IsCause ls)
result_fault ls (Ok bundle) lines gives = tt
result_fault ls (Err (BadBundle line)) lines gives = fault_first ls lines line gives
result_fault ls (Err Memory) lines gives = tt
