-- How a call is to end, what it answers and what it leaves.
use Rattle.std.proofs.Common.{◌≡◌, ◌==◌, ◌≤◌, ◌<◌, ◌^◌, ◌||◌, ◌&&◌, ℕ, suc, Bool, true, false, cond, inl, inr, List, [], ◌∷◌, length, take, drop, Option, Some, None, Ok, Err, vec_len, refl, sym, ap, ap₂, subst, ◌∙◌, arith, eqb-true, eq-eqb}
use Rattle.std.specs.Prelude.{IfSome}
use Rattle.std.specs.List.{Contains, list_any}
use Rattle.std.proofs.lemmas.Bool.{cases_Bool, false≢true}
use Rattle.std.proofs.lemmas.List.Folds.{list_any_at}
use Rattle.std.specs.Global.{Vec}
use Rattle.tk_io.specs.Faults.{counted}
use Rattle.ranked_list.specs.declared.row.Row.{Row}
use Rattle.source_api.specs.declared.counts.Counts.{Counts}
use Rattle.source_api.specs.declared.source.Trouble.{Trouble}
use Rattle.source_api.specs.declared.source.FailKind.TheVariants as kind
use Rattle.source_api.specs.declared.source.Trouble.TheVariants as trouble
use Rattle.source_api.specs.Counting.{TroubleHasCause, CountsAlone, MovedHasCause, GaveNothing, GaveRows, NoneFell, troubled, gave_rows, gave_grade}
use Rattle.test_mem_source.specs.Stored.{Stored}
use Rattle.test_mem_source.specs.InMemory.{IsDue, trouble_in, next_call, after_page, after_grade, page_called, grade_called, version_in, rows_in, size_or, told_unless}
use Rattle.test_mem_source.specs.Editions.{Edition, editions_of, standing}
use Rattle.test_mem_source.specs.declared.edition.Later.{Later}
use Rattle.source_api.specs.Told.{IsPage, IsGrade, first_grade, or_else, told_of, is_empty, each_once}
use Rattle.source_api.proofs.ToldLaws.{told_page, told_grade}

-- ---- whether a number is among others

pub among : (xs : List ℕ) (x : ℕ) → list_any (λ y. y == x) xs ≡ true → Contains xs x
among [] x h = absurd (false≢true h)
among (y ∷ xs) x h =
    elim (cases_Bool (y == x)) [
      | inl t ↦ (0, omega arith, eqb-true y x t)
      | inr f ↦
          let rest = among xs x (subst (λ b. (b || list_any (λ y. y == x) xs) ≡ true) f h) in
          (suc rest.0, omega (arith, rest.1), rest.2)
    ]

pub not_among : (xs : List ℕ) (x : ℕ) → list_any (λ y. y == x) xs ≡ false → Contains xs x → ⊥
not_among xs x off has = false≢true (sym off ∙ list_any_at (λ y. y == x) xs has.0 x has.1 (eq-eqb _ x has.2))

-- ---- how a call is to end

due_in_error : (T : Type 0) (fails garbles : List ℕ) (call at_hand now : ℕ) (t : Trouble) → IsDue fails garbles call at_hand now (Some t)
    → IsDue fails garbles call at_hand now (trouble_in {T = T} (Err t))
due_in_error T fails garbles call at_hand now (trouble.Fail kind.Failed) h = h
due_in_error T fails garbles call at_hand now (trouble.Fail kind.Garbled) h = h
due_in_error T fails garbles call at_hand now (trouble.Fail kind.Memory) h = absurd h
due_in_error T fails garbles call at_hand now (trouble.Moved had other) h = h

due_as : (f g fails garbles : List ℕ) (n call at_hand v now : ℕ) (found : Option Trouble) → f ≡ fails → g ≡ garbles → n ≡ call → v ≡ now
    → IsDue f g n at_hand v found → IsDue fails garbles call at_hand now found
due_as f g fails garbles n call at_hand v now found same_fails same_garbles same_call same_version h =
    subst (λ v. IsDue fails garbles call at_hand v found) same_version
    (subst (λ n. IsDue fails garbles n at_hand v found) same_call
    (subst (λ g. IsDue fails g n at_hand v found) same_garbles (subst (λ f. IsDue f g n at_hand v found) same_fails h)))

-- what is found of a call that isn't answered is how it ends
pub ends_as_due : (T : Type 0) (f g fails garbles : List ℕ) (n call at_hand v now : ℕ) (t : Trouble) → f ≡ fails → g ≡ garbles → n ≡ call → v ≡ now
    → IsDue f g n at_hand v (Some t) → IsDue fails garbles call at_hand now (trouble_in {T = T} (Err t))
ends_as_due T f g fails garbles n call at_hand v now t same_fails same_garbles same_call same_version h =
    due_in_error T fails garbles call at_hand now t (due_as f g fails garbles n call at_hand v now (Some t) same_fails same_garbles same_call same_version h)

-- what is found of a call that is answered
pub answered_as_due : (f g fails garbles : List ℕ) (n call at_hand v now : ℕ) → f ≡ fails → g ≡ garbles → n ≡ call → v ≡ now
    → IsDue f g n at_hand v None → IsDue fails garbles call at_hand now None
answered_as_due f g fails garbles n call at_hand v now = due_as f g fails garbles n call at_hand v now None

-- ---- the version and the rows at a call

pub version_now : (first n call v : ℕ) (given later : List Later) → v ≡ version_in first (standing n None (editions_of given)) → n ≡ call → given ≡ later
    → v ≡ version_in first (standing call None (editions_of later))
version_now first n call v given later is same_call same_later =
    is ∙ ap (λ n. version_in first (standing n None (editions_of given))) same_call ∙ ap (λ ls. version_in first (standing call None (editions_of ls))) same_later

pub rows_now : (looked first rows : List Row) (n call : ℕ) (given later : List Later) → rows ≡ rows_in looked (standing n None (editions_of given))
    → looked ≡ first → n ≡ call → given ≡ later → rows ≡ rows_in first (standing call None (editions_of later))
rows_now looked first rows n call given later is same_rows same_call same_later =
    is ∙ ap (λ rs. rows_in rs (standing n None (editions_of given))) same_rows
    ∙ ap (λ n. rows_in first (standing n None (editions_of given))) same_call ∙ ap (λ ls. rows_in first (standing call None (editions_of ls))) same_later

-- a version that is told is the one at each call
pub told_now : (first call : ℕ) (later : List Edition) → IfSome (told_unless later (Some first)) (λ told. version_in first (standing call None later) ≡ told)
told_now first call [] = refl
told_now first call (next ∷ later) = tt

-- a call is answered only of the version at hand
pub answered_version : (told : Option ℕ) (now at_hand : ℕ) → IfSome told (λ version. now ≡ version) → now ≡ at_hand → IfSome told (λ version. version ≡ at_hand)
answered_version None now at_hand h same = tt
answered_version (Some version) now at_hand h same = sym h ∙ same

-- a move has its cause
pub moved_cause : (f g : List ℕ) (call at_hand now : ℕ) (told : Option ℕ) (t : Trouble) → IfSome told (λ version. now ≡ version) → IsDue f g call at_hand now (Some t)
    → MovedHasCause at_hand told t
moved_cause f g call at_hand now told (trouble.Fail what) is h = tt
moved_cause f g call at_hand now told (trouble.Moved had other) is h = record {
  at_hand = h.1;
  stated = subst (λ v. IfSome told (λ version. v ≡ version)) (sym h.2) is;
  differ = h.3;
}

-- ---- what is told, of a source that changes never

pub told_size : (stated : Option ℕ) (lies rows : List Row) (later : List Edition) (call size : ℕ) → size ≡ size_or stated (rows_in rows (standing call None later))
    → IfSome (told_unless later (told_of stated lies rows)) (λ list. size ≡ length list)
told_size None lies rows [] call size is = by (is_empty lies && each_once rows)
  where
    by : (b : Bool) → IfSome (cond b (Some rows) None) (λ list. size ≡ length list)
    by true = is
    by false = tt
told_size (Some n) lies rows [] call size is = tt
told_size stated lies rows (next ∷ later) call size is = tt

pub told_page_at : (stated : Option ℕ) (lies rows page : List Row) (later : List Edition) (call from count : ℕ) → 1 ≤ count
    → page ≡ take count (drop from (rows_in rows (standing call None later))) → IfSome (told_unless later (told_of stated lies rows)) (λ list. IsPage list from page)
told_page_at stated lies rows page [] call from count one is = told_page stated lies rows page from count one is
told_page_at stated lies rows page (next ∷ later) call from count one is = tt

pub told_grade_at : (stated : Option ℕ) (lies rows : List Row) (later : List Edition) (call object : ℕ) (grade : Option ℕ)
    → grade ≡ or_else (first_grade lies object) (first_grade (rows_in rows (standing call None later)) object)
    → IfSome (told_unless later (told_of stated lies rows)) (λ list. IsGrade list object grade)
told_grade_at stated lies rows [] call object grade is = told_grade stated lies rows object grade is
told_grade_at stated lies rows (next ∷ later) call object grade is = tt

-- ---- what is counted of a call that isn't answered

pub cause_counted : (before now : Counts) (t : Trouble) → now ≡ troubled t before → TroubleHasCause before now t
cause_counted before now (trouble.Fail kind.Failed) e = let same : now.faults ≡ counted before.faults = ap (λ (c : Counts). c.faults) e in omega arith
cause_counted before now (trouble.Fail kind.Garbled) e = let same : now.garbles ≡ counted before.garbles = ap (λ (c : Counts). c.garbles) e in omega arith
cause_counted before now (trouble.Fail kind.Memory) e = tt
cause_counted before now (trouble.Moved had other) e = let same : now.moves ≡ counted before.moves = ap (λ (c : Counts). c.moves) e in omega arith

pub counted_alone : (before now : Counts) (t : Trouble) → now ≡ troubled t before → CountsAlone before now t
counted_alone before now (trouble.Fail kind.Failed) e = e ∙ ap (λ n. let c : Counts = record before { faults = n } in c) (sym (ap (λ (c : Counts). c.faults) e))
counted_alone before now (trouble.Fail kind.Garbled) e = e ∙ ap (λ n. let c : Counts = record before { garbles = n } in c) (sym (ap (λ (c : Counts). c.garbles) e))
counted_alone before now (trouble.Fail kind.Memory) e = e
counted_alone before now (trouble.Moved had other) e = e

pub nothing_given : (before now : Counts) (t : Trouble) → now ≡ troubled t before → GaveNothing before now
nothing_given before now (trouble.Fail kind.Failed) e = record { rows = ap (λ (c : Counts). c.rows_given) e; grades = ap (λ (c : Counts). c.grades_given) e }
nothing_given before now (trouble.Fail kind.Garbled) e = record { rows = ap (λ (c : Counts). c.rows_given) e; grades = ap (λ (c : Counts). c.grades_given) e }
nothing_given before now (trouble.Fail kind.Memory) e = record { rows = ap (λ (c : Counts). c.rows_given) e; grades = ap (λ (c : Counts). c.grades_given) e }
nothing_given before now (trouble.Moved had other) e = record { rows = ap (λ (c : Counts). c.rows_given) e; grades = ap (λ (c : Counts). c.grades_given) e }

pub none_fell_counted : (before now : Counts) (t : Trouble) → before.faults < 2 ^ 64 → before.garbles < 2 ^ 64 → before.moves < 2 ^ 64 → now ≡ troubled t before
    → NoneFell before now
none_fell_counted before now t faults garbles moves e = subst (λ (c : Counts). NoneFell before c) (sym e) (none_fell_by t)
  where
    none_fell_by : (t : Trouble) → NoneFell before (troubled t before)
    none_fell_by (trouble.Fail kind.Failed) = record { faults = omega arith; garbles = omega arith; moves = omega arith; rows_given = omega arith; grades_given = omega arith }
    none_fell_by (trouble.Fail kind.Garbled) = record { faults = omega arith; garbles = omega arith; moves = omega arith; rows_given = omega arith; grades_given = omega arith }
    none_fell_by (trouble.Fail kind.Memory) = record { faults = omega arith; garbles = omega arith; moves = omega arith; rows_given = omega arith; grades_given = omega arith }
    none_fell_by (trouble.Moved had other) = record { faults = omega arith; garbles = omega arith; moves = omega arith; rows_given = omega arith; grades_given = omega arith }

-- ---- what a call leaves

page_is_called : (before : Stored) (n all : ℕ) (counts now : Counts) → n ≡ next_call before.page_calls → all ≡ next_call before.calls → counts ≡ now
    → record before { page_calls = n; calls = all; counts = counts } ≡ page_called before now
page_is_called before n all counts now called all_called is =
    ap₂ (λ (n : ℕ) (all : ℕ). record before { page_calls = n; calls = all; counts = counts }) called all_called ∙ ap (page_called before) is

-- a call for a page that isn't answered
pub page_troubled : (before m : Stored) (f g : List ℕ) (call at_hand now n all : ℕ) (counts : Counts) (t : Trouble) → before ≡ m → n ≡ next_call before.page_calls
    → all ≡ next_call before.calls → counts ≡ troubled t before.counts → IsDue f g call at_hand now (Some t)
    → record before { page_calls = n; calls = all; counts = counts } ≡ after_page (Err t) m
page_troubled before m f g call at_hand now n all counts (trouble.Fail kind.Failed) same called all_called is due =
    page_is_called before n all counts _ called all_called is ∙ ap (after_page (Err (trouble.Fail kind.Failed))) same
page_troubled before m f g call at_hand now n all counts (trouble.Fail kind.Garbled) same called all_called is due =
    page_is_called before n all counts _ called all_called is ∙ ap (after_page (Err (trouble.Fail kind.Garbled))) same
page_troubled before m f g call at_hand now n all counts (trouble.Fail kind.Memory) same called all_called is due = absurd due
page_troubled before m f g call at_hand now n all counts (trouble.Moved had other) same called all_called is due =
    page_is_called before n all counts _ called all_called is ∙ ap (after_page (Err (trouble.Moved had other))) same

-- a page that was given
pub page_given : (before m : Stored) (n all rows : ℕ) (counts : Counts) (page : Vec Row) → before ≡ m → n ≡ next_call before.page_calls
    → all ≡ next_call before.calls → rows ≡ vec_len page → counts ≡ gave_rows rows before.counts
    → record before { page_calls = n; calls = all; counts = counts } ≡ after_page (Ok page) m
page_given before m n all rows counts page same called all_called long is =
    page_is_called before n all counts _ called all_called (is ∙ ap (λ (n : ℕ). gave_rows n before.counts) long) ∙ ap (after_page (Ok page)) same

pub rows_given : (before now : Counts) (rows number : ℕ) → rows ≡ number → now ≡ gave_rows rows before → GaveRows number before now
rows_given before now rows number long e =
    let same = e ∙ ap (λ (n : ℕ). gave_rows n before) long in
    record { rows = ap (λ (c : Counts). c.rows_given) same; grades = ap (λ (c : Counts). c.grades_given) same }

grade_is_called : (before : Stored) (n all : ℕ) (counts now : Counts) → n ≡ next_call before.grade_calls → all ≡ next_call before.calls → counts ≡ now
    → record before { grade_calls = n; calls = all; counts = counts } ≡ grade_called before now
grade_is_called before n all counts now called all_called is =
    ap₂ (λ (n : ℕ) (all : ℕ). record before { grade_calls = n; calls = all; counts = counts }) called all_called ∙ ap (grade_called before) is

-- a call for a grade that isn't answered
pub grade_troubled : (before m : Stored) (f g : List ℕ) (call at_hand now n all : ℕ) (counts : Counts) (t : Trouble) → before ≡ m → n ≡ next_call before.grade_calls
    → all ≡ next_call before.calls → counts ≡ troubled t before.counts → IsDue f g call at_hand now (Some t)
    → record before { grade_calls = n; calls = all; counts = counts } ≡ after_grade (Err t) m
grade_troubled before m f g call at_hand now n all counts (trouble.Fail kind.Failed) same called all_called is due =
    grade_is_called before n all counts _ called all_called is ∙ ap (after_grade (Err (trouble.Fail kind.Failed))) same
grade_troubled before m f g call at_hand now n all counts (trouble.Fail kind.Garbled) same called all_called is due =
    grade_is_called before n all counts _ called all_called is ∙ ap (after_grade (Err (trouble.Fail kind.Garbled))) same
grade_troubled before m f g call at_hand now n all counts (trouble.Fail kind.Memory) same called all_called is due = absurd due
grade_troubled before m f g call at_hand now n all counts (trouble.Moved had other) same called all_called is due =
    grade_is_called before n all counts _ called all_called is ∙ ap (after_grade (Err (trouble.Moved had other))) same

-- a grade that was given
pub grade_given : (before m : Stored) (n all : ℕ) (counts : Counts) (grade : Option ℕ) → before ≡ m → n ≡ next_call before.grade_calls
    → all ≡ next_call before.calls → counts ≡ gave_grade before.counts
    → record before { grade_calls = n; calls = all; counts = counts } ≡ after_grade (Ok grade) m
grade_given before m n all counts grade same called all_called is = grade_is_called before n all counts _ called all_called is ∙ ap (after_grade (Ok grade)) same
