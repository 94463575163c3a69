-- Pages that are asked for one behind another.
use Rattle.std.proofs.Common.{◌≡◌, ℕ, ◌+◌, ◌-◌, ◌^◌, ◌<◌, ◌≤◌, ◌⊎◌, inl, inr, List, [], ◌∷◌, ◌++◌, length, take, drop, Option, Some, None, IfSome, Ok, Err, refl, sym, ap, subst, ◌∙◌, arith, append_assoc, length-append}
use Rattle.std.proofs.lemmas.List.{append-nil, take_all, length-drop, drop-drop, nil_from_length}
use Rattle.std.proofs.Math.Seq.{take-add}
use Rattle.std.proofs.lemmas.Bool.{cases_lt}
use Rattle.ranked_list.specs.declared.row.Row.{Row}
use Rattle.source_api.specs.declared.counts.Counts.{Counts}
use Rattle.source_api.specs.declared.source.Trouble.{Trouble}
use Rattle.source_api.specs.declared.source.FailKind.TheVariants as kind
use Rattle.source_api.specs.declared.source.Trouble.TheVariants as trouble
use Rattle.source_api.specs.Calls.{Call, with_call}
use Rattle.source_api.specs.Counting.{NoneFell, TroubleHasCause, CountsAlone, gave_rows, gave_grade}
use Rattle.source_api.specs.Told.{IsPage}
use Rattle.source_node.specs.declared.asked.Asked.TheVariants as asked
use Rattle.source_node.specs.Serving.{Seen, with_calls, given_by, IfAny, InTurn, StopsInTurn, IsQuiet, Fails, GivesPage, GivesRows, StopsRows, GivesSome}

-- one call is noted as a list of one
pub noted_one : (call : Call) (calls : Option (List Call)) → with_call call calls ≡ with_calls (call ∷ []) calls
noted_one call None = refl
noted_one call (Some calls) = refl

-- no calls are noted
pub noted_none : (calls : Option (List Call)) → calls ≡ with_calls [] calls
noted_none None = refl
noted_none (Some calls) = ap Some (sym (append-nil calls))

-- calls are noted behind others
pub noted_then : (made more : List Call) (calls : Option (List Call)) → with_calls more (with_calls made calls) ≡ with_calls (made ++ more) calls
noted_then made more None = refl
noted_then made more (Some calls) = ap Some (append_assoc calls made more)

-- one call more is noted behind others
pub noted_more : (made : List Call) (call : Call) (calls : Option (List Call)) → with_call call (with_calls made calls) ≡ with_calls (made ++ call ∷ []) calls
noted_more made call calls = noted_one call (with_calls made calls) ∙ noted_then made (call ∷ []) calls

-- calls count behind others
pub given_then : (made more : List Call) (counts : Counts) → given_by (made ++ more) counts ≡ given_by more (given_by made counts)
given_then [] more counts = refl
given_then (Call.Size answer ∷ made) more counts = given_then made more counts
given_then (Call.Page from count (Ok page) ∷ made) more counts = given_then made more (gave_rows (length page) counts)
given_then (Call.Page from count (Err why) ∷ made) more counts = given_then made more counts
given_then (Call.Grade object (Ok grade) ∷ made) more counts = given_then made more (gave_grade counts)
given_then (Call.Grade object (Err why) ∷ made) more counts = given_then made more counts

-- no trouble was counted in two steps
pub quiet_then : (a b c : Counts) → IsQuiet a b → IsQuiet b c → IsQuiet a c
quiet_then a b c first second = record {
  faults = second.faults ∙ first.faults;
  garbles = second.garbles ∙ first.garbles;
  moves = second.moves ∙ first.moves;
}

-- rows that are given count no trouble
pub quiet_rows : (before now : Counts) (rows : ℕ) → now ≡ gave_rows rows before → IsQuiet before now
quiet_rows before now rows is = record {
  faults = ap (λ (c : Counts). c.faults) is;
  garbles = ap (λ (c : Counts). c.garbles) is;
  moves = ap (λ (c : Counts). c.moves) is;
}

-- what stays the same counts no trouble
pub quiet_same : (before now : Counts) → now ≡ before → IsQuiet before now
quiet_same before now is = record {
  faults = ap (λ (c : Counts). c.faults) is;
  garbles = ap (λ (c : Counts). c.garbles) is;
  moves = ap (λ (c : Counts). c.moves) is;
}

-- where a page is empty or not, what follows is said of it
either : (page : List Row) (A B : Type 0) → A → B → IfAny page A B
either [] A B a b = b
either (row ∷ page) A B a b = a

-- a page was asked for and didn't come
pub page_stopped : (from count : ℕ) (counts counts_now : Counts) (calls calls_now : Option (List Call)) (why : Trouble)
    → calls_now ≡ with_call (Call.Page from count (Err why)) calls → TroubleHasCause counts counts_now why → CountsAlone counts counts_now why
    → StopsRows from count counts counts_now calls calls_now why
page_stopped from count counts counts_now calls calls_now why noted cause alone = record {
  made = Call.Page from count (Err why) ∷ [];
  in_turn = inl (refl, refl);
  noted = noted ∙ noted_one (Call.Page from count (Err why)) calls;
  cause = cause;
  alone = alone;
}

-- a page came, and no memory was left for its rows
pub page_starved : (from count : ℕ) (page : List Row) (counts counts_now : Counts) (calls calls_now : Option (List Call))
    → calls_now ≡ with_call (Call.Page from count (Ok page)) calls → counts_now ≡ gave_rows (length page) counts
    → StopsRows from count counts counts_now calls calls_now (trouble.Fail kind.Memory)
page_starved from count page counts counts_now calls calls_now noted counted = record {
  made = Call.Page from count (Ok page) ∷ [];
  in_turn =
      let none : List Call = [] in
      inr (
        page,
        refl,
        either page (StopsInTurn (from + length page) (count - length page) (trouble.Fail kind.Memory) none)
            ((none ≡ []) × (trouble.Fail kind.Memory ≡ trouble.Fail kind.Memory)) refl (refl, refl),
      );
  noted = noted ∙ noted_one (Call.Page from count (Ok page)) calls;
  cause = tt;
  alone = counted;
}

-- the cause of a trouble, behind calls that counted none
cause_later : (a b c : Counts) (why : Trouble) → IsQuiet a b → TroubleHasCause b c why → TroubleHasCause a c why
cause_later a b c (trouble.Fail kind.Failed) quiet cause = let same = quiet.faults in omega (arith, same, cause)
cause_later a b c (trouble.Fail kind.Garbled) quiet cause = let same = quiet.garbles in omega (arith, same, cause)
cause_later a b c (trouble.Fail kind.Memory) quiet cause = tt
cause_later a b c (trouble.Moved had other) quiet cause = let same = quiet.moves in omega (arith, same, cause)

-- pages in turn came, and the next one didn't
pub stops_later : (from count : ℕ) (list : Option (List Row)) (counts counts_now counts_next : Counts) (calls calls_now calls_next : Option (List Call)) (rows : List Row) (why : Trouble)
    → GivesSome from count list counts counts_now calls calls_now rows
    → StopsRows (from + length rows) (count - length rows) counts_now counts_next calls_now calls_next why
    → StopsRows from count counts counts_next calls calls_next why
stops_later from count list counts counts_now counts_next calls calls_now calls_next rows why had stops = record {
  made = had.made ++ stops.made;
  in_turn = had.stops_on stops.made why stops.in_turn;
  noted = stops.noted ∙ ap (with_calls stops.made) had.noted ∙ noted_then had.made stops.made calls;
  cause = cause_later counts counts_now counts_next why had.quiet stops.cause;
  alone = subst (λ (c : Counts). CountsAlone c counts_next why) (ap (given_by stops.made) had.counted ∙ sym (given_then had.made stops.made counts)) stops.alone;
}

-- the same by equal places
pub stops_as : (p q n m : ℕ) (counts counts_now : Counts) (calls calls_now : Option (List Call)) (why : Trouble) → p ≡ q → n ≡ m
    → StopsRows p n counts counts_now calls calls_now why → StopsRows q m counts counts_now calls calls_now why
stops_as p q n m counts counts_now calls calls_now why place left stops =
    subst (λ k. StopsRows k m counts counts_now calls calls_now why) place (subst (λ k. StopsRows p k counts counts_now calls calls_now why) left stops)

-- a page of which all rows were asked for and didn't come
pub rows_failed : (from count : ℕ) (before now : Seen) (why : Trouble) → StopsRows from count before.counts now.counts before.calls now.calls why
    → now.at_hand ≡ before.at_hand → Fails (asked.Page from count) before now why
rows_failed from count before now why stops same = record {
  calls = stops.made;
  stopped = stops.in_turn;
  noted = stops.noted;
  cause = stops.cause;
  alone = stops.alone;
  at_hand = same;
}

-- a call for the size that gave no answer
pub size_failed : (before now : Seen) (why : Trouble) → now.calls ≡ with_call (Call.Size (Err why)) before.calls → TroubleHasCause before.counts now.counts why
    → CountsAlone before.counts now.counts why → now.at_hand ≡ before.at_hand → Fails asked.Size before now why
size_failed before now why noted cause alone same = record {
  calls = Call.Size (Err why) ∷ [];
  stopped = refl;
  noted = noted ∙ noted_one (Call.Size (Err why)) before.calls;
  cause = cause;
  alone = alone;
  at_hand = same;
}

-- a call for a grade that gave no answer
pub grade_failed : (object : ℕ) (before now : Seen) (why : Trouble) → now.calls ≡ with_call (Call.Grade object (Err why)) before.calls
    → TroubleHasCause before.counts now.counts why → CountsAlone before.counts now.counts why → now.at_hand ≡ before.at_hand → Fails (asked.Grade object) before now why
grade_failed object before now why noted cause alone same = record {
  calls = Call.Grade object (Err why) ∷ [];
  stopped = refl;
  noted = noted ∙ noted_one (Call.Grade object (Err why)) before.calls;
  cause = cause;
  alone = alone;
  at_hand = same;
}

-- no count falls where none changes, and in two steps
pub fell_none : (c : Counts) → NoneFell c c
fell_none c = record { faults = omega arith; garbles = omega arith; moves = omega arith; rows_given = omega arith; grades_given = omega arith }

pub fell_then : (a b c : Counts) → NoneFell a b → NoneFell b c → NoneFell a c
fell_then a b c first second = record {
  faults = let one = first.faults in let two = second.faults in omega (arith, one, two);
  garbles = let one = first.garbles in let two = second.garbles in omega (arith, one, two);
  moves = let one = first.moves in let two = second.moves in omega (arith, one, two);
  rows_given = let one = first.rows_given in let two = second.rows_given in omega (arith, one, two);
  grades_given = let one = first.grades_given in let two = second.grades_given in omega (arith, one, two);
}

-- where a page has rows, what follows is said of it
any : (page : List Row) (A B : Type 0) → 0 < length page → A → IfAny page A B
any [] A B some a = absurd (omega arith)
any (row ∷ page) A B some a = a

-- nothing came yet
pub none_given : (from count : ℕ) (list : Option (List Row)) (counts : Counts) (calls : Option (List Call)) → GivesSome from count list counts counts calls calls []
none_given from count list counts calls = record {
  made = [];
  goes_on = λ more rest h.
      let place : from + 0 ≡ from = omega arith in
      let left : count - 0 ≡ count = omega arith in
      subst (λ n. InTurn n count more rest) place (subst (λ n. InTurn (from + 0) n more rest) left h);
  stops_on = λ more why h.
      let place : from + 0 ≡ from = omega arith in
      let left : count - 0 ≡ count = omega arith in
      subst (λ n. StopsInTurn n count why more) place (subst (λ n. StopsInTurn (from + 0) n why more) left h);
  few = omega arith;
  noted = noted_none calls;
  counted = refl;
  quiet = record { faults = refl; garbles = refl; moves = refl };
  told = by list;
}
  where
    by : (o : Option (List Row)) → IfSome o (λ all. [] ≡ take 0 (drop from all))
    by None = tt
    by (Some all) = refl

-- the rows of one page more
page_told : (from : ℕ) (rows page : List Row) (list : Option (List Row)) → IfSome list (λ all. rows ≡ take (length rows) (drop from all))
    → IfSome list (λ all. IsPage all (from + length rows) page) → IfSome list (λ all. rows ++ page ≡ take (length (rows ++ page)) (drop from all))
page_told from rows page None had came = tt
page_told from rows page (Some all) had came =
    ap (λ (xs : List Row). xs ++ page) had
    ∙ ap (λ (xs : List Row). take (length rows) (drop from all) ++ xs) (came.follows ∙ ap (take (length page)) (sym (drop-drop (length rows) from all)))
    ∙ sym (take-add (length rows) (length page) (drop from all)) ∙ ap (λ n. take n (drop from all)) (sym (length-append rows page))

-- one page came that has rows
pub some_given : (from count : ℕ) (list : Option (List Row)) (counts counts_now counts_next : Counts) (calls calls_now calls_next : Option (List Call)) (rows rows_next : List Row) (len : ℕ)
    → GivesSome from count list counts counts_now calls calls_now rows
    → GivesPage (from + length rows) (count - length rows) list counts_now counts_next calls_now calls_next rows rows_next len → 0 < len
    → GivesSome from count list counts counts_next calls calls_next rows_next
some_given from count list counts counts_now counts_next calls calls_now calls_next rows rows_next len had came some =
    let call = Call.Page (from + length rows) (count - length rows) (Ok came.page) in
    let long : length (rows ++ came.page) ≡ length rows + length came.page = length-append rows came.page in
    let nonempty : 0 < length came.page = let is = came.is in omega (arith, is) in
    subst (λ (xs : List Row). GivesSome from count list counts counts_next calls calls_next xs) (sym came.added) record {
      made = had.made ++ call ∷ [];
      goes_on = λ more rest h.
          let first : (from + length rows) + length came.page ≡ from + length (rows ++ came.page) = omega (arith, long) in
          let left : (count - length rows) - length came.page ≡ count - length (rows ++ came.page) = omega (arith, long) in
          let below : InTurn ((from + length rows) + length came.page) ((count - length rows) - length came.page) more rest =
          subst (λ n. InTurn n ((count - length rows) - length came.page) more rest) (sym first) (subst (λ n. InTurn (from + length (rows ++ came.page)) n more rest) (sym left) h) in
          let whole = had.goes_on (call ∷ more) (came.page ++ rest) (came.page, rest, refl, refl, any came.page (InTurn ((from + length rows) + length came.page) ((count - length rows) - length came.page) more rest) ((more ≡ []) × (rest ≡ [])) nonempty below) in
          subst (λ (cs : List Call). InTurn from count cs ((rows ++ came.page) ++ rest)) (sym (append_assoc had.made (call ∷ []) more))
          (subst (λ (xs : List Row). InTurn from count (had.made ++ call ∷ more) xs) (sym (append_assoc rows came.page rest)) whole);
      stops_on = λ more why h.
          let first : (from + length rows) + length came.page ≡ from + length (rows ++ came.page) = omega (arith, long) in
          let left : (count - length rows) - length came.page ≡ count - length (rows ++ came.page) = omega (arith, long) in
          let below : StopsInTurn ((from + length rows) + length came.page) ((count - length rows) - length came.page) why more =
          subst (λ n. StopsInTurn n ((count - length rows) - length came.page) why more) (sym first) (subst (λ n. StopsInTurn (from + length (rows ++ came.page)) n why more) (sym left) h) in
          let whole = had.stops_on (call ∷ more) why (inr (came.page, refl, any came.page (StopsInTurn ((from + length rows) + length came.page) ((count - length rows) - length came.page) why more) ((more ≡ []) × (why ≡ trouble.Fail kind.Memory)) nonempty below)) in
          subst (λ (cs : List Call). StopsInTurn from count why cs) (sym (append_assoc had.made (call ∷ []) more)) whole;
      few = let is = came.is in let few = came.few in let before = had.few in omega (arith, long, is, few, before);
      noted = came.noted ∙ ap (with_call call) had.noted ∙ noted_more had.made call calls;
      counted = came.counted ∙ ap (gave_rows (length came.page)) had.counted ∙ sym (given_then had.made (call ∷ []) counts);
      quiet = quiet_then counts counts_now counts_next had.quiet (quiet_rows counts_now counts_next (length came.page) came.counted);
      told = page_told from rows came.page list had.told came.told;
    }

-- rows that end a list are all that are asked for
whole_told : (from count : ℕ) (rows all : List Row) → rows ≡ take (length rows) (drop from all) → length rows ≤ count → length all ≤ from + length rows → rows ≡ take count (drop from all)
whole_told from count rows all is few ends =
    let long : length (drop from all) ≡ length all - from = length-drop from all in
    is ∙ take_all (length rows) (drop from all) (omega (arith, long)) ∙ sym (take_all count (drop from all) (omega (arith, long)))

-- all rows are there
pub all_given : (from count : ℕ) (list : Option (List Row)) (counts counts_now : Counts) (calls calls_now : Option (List Call)) (rows : List Row)
    → GivesSome from count list counts counts_now calls calls_now rows → (count ≤ length rows) ⊎ (2 ^ 32 ≤ from + length rows)
    → GivesRows from count list counts counts_now calls calls_now rows
all_given from count list counts counts_now calls calls_now rows had over = record {
  made = had.made;
  in_turn = subst (λ (cs : List Call). InTurn from count cs rows) (append-nil had.made)
      (subst (λ (xs : List Row). InTurn from count (had.made ++ []) xs) (append-nil rows) (had.goes_on [] [] (refl, ends over)));
  noted = had.noted;
  counted = had.counted;
  told = by list had.told;
}
  where
    ends : (count ≤ length rows) ⊎ (2 ^ 32 ≤ from + length rows) → (count - length rows ≡ 0) ⊎ (2 ^ 32 ≤ from + length rows)
    ends (inl whole) = inl (omega arith)
    ends (inr far) = inr far

    told : (all : List Row) → rows ≡ take (length rows) (drop from all) → length rows ≤ count → (count ≤ length rows) ⊎ (2 ^ 32 ≤ from + length rows) → length all ≤ 2 ^ 32 → rows ≡ take count (drop from all)
    told all is few (inl whole) small = let same : length rows ≡ count = omega arith in is ∙ ap (λ n. take n (drop from all)) same
    told all is few (inr far) small = whole_told from count rows all is few (omega (arith, far, small))

    by : (o : Option (List Row)) → IfSome o (λ all. rows ≡ take (length rows) (drop from all)) → IfSome o (λ all. length all ≤ 2 ^ 32 → rows ≡ take count (drop from all))
    by None had_told = tt
    by (Some all) had_told = λ small. told all had_told had.few over small

-- an empty page came
pub end_given : (from count : ℕ) (list : Option (List Row)) (counts counts_now counts_next : Counts) (calls calls_now calls_next : Option (List Call)) (rows rows_next : List Row) (len : ℕ)
    → GivesSome from count list counts counts_now calls calls_now rows
    → GivesPage (from + length rows) (count - length rows) list counts_now counts_next calls_now calls_next rows rows_next len → len ≡ 0
    → GivesRows from count list counts counts_next calls calls_next rows_next
end_given from count list counts counts_now counts_next calls calls_now calls_next rows rows_next len had came none =
    let call = Call.Page (from + length rows) (count - length rows) (Ok came.page) in
    let empty : came.page ≡ [] = nil_from_length came.page (sym came.is ∙ none) in
    subst (λ (xs : List Row). GivesRows from count list counts counts_next calls calls_next xs) (sym (came.added ∙ ap (λ (p : List Row). rows ++ p) empty ∙ append-nil rows)) record {
      made = had.made ++ call ∷ [];
      in_turn = subst (λ (xs : List Row). InTurn from count (had.made ++ call ∷ []) xs) (append-nil rows)
          (had.goes_on (call ∷ []) [] ([], [], ap (λ (p : List Row). Call.Page (from + length rows) (count - length rows) (Ok p)) empty, refl, (refl, refl)));
      noted = came.noted ∙ ap (with_call call) had.noted ∙ noted_more had.made call calls;
      counted = came.counted ∙ ap (gave_rows (length came.page)) had.counted ∙ sym (given_then had.made (call ∷ []) counts);
      told = by list had.told came.told;
    }
  where
    ended : (all : List Row) → IsPage all (from + length rows) came.page → length all ≤ from + length rows
    ended all page =
        let is : len ≡ length came.page = came.is in
        elim (cases_lt (from + length rows) (length all)) [ inl before ↦ let some : 0 < length came.page = page.moves before in omega (arith, is, none, some) | inr past ↦ past ]

    by : (o : Option (List Row)) → IfSome o (λ all. rows ≡ take (length rows) (drop from all)) → IfSome o (λ all. IsPage all (from + length rows) came.page)
        → IfSome o (λ all. length all ≤ 2 ^ 32 → rows ≡ take count (drop from all))
    by None had_told page = tt
    by (Some all) had_told page = λ small. whole_told from count rows all had_told had.few (ended all page)

-- a page by equal places
pub page_as : (p q n m : ℕ) (list other : Option (List Row)) (counts counts_now : Counts) (calls calls_now : Option (List Call)) (rows rows_now : List Row) (len : ℕ)
    → p ≡ q → n ≡ m → list ≡ other → GivesPage p n list counts counts_now calls calls_now rows rows_now len → GivesPage q m other counts counts_now calls calls_now rows rows_now len
page_as p q n m list other counts counts_now calls calls_now rows rows_now len place left told page =
    subst (λ k. GivesPage k m other counts counts_now calls calls_now rows rows_now len) place
    (subst (λ k. GivesPage p k other counts counts_now calls calls_now rows rows_now len) left
    (subst (λ (o : Option (List Row)). GivesPage p n o counts counts_now calls calls_now rows rows_now len) told page))
