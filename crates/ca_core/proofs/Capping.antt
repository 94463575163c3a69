-- No high passes the cap of a list whose grade of the object is unknown; and what leads the ties of lists.
use Rattle.std.proofs.Common.{◌≡◌, ◌≢◌, ◌⊎◌, inl, inr, ℕ, ◌+◌, ◌<◌, ◌≤◌, List, length, set, map, take, replicate, Option, Some, None, is_none, unwrap_or, IfSome, refl, sym, ap, subst, ◌∙◌, arith, get_or}
use Rattle.std.specs.declared.cmp.Reverse.{Reverse}
use Rattle.std.proofs.lemmas.Bool.{cases_eq, cases_lt}
use Rattle.std.proofs.lemmas.List.{length-set, length-replicate, get_or-set_same, get_or-set_other, get_or-replicate, take-replicate}
use Rattle.std.proofs.lemmas.List.FromFn.{get_or-map-range_with_len, length-map-range_with_len}
use Rattle.std.proofs.lemmas.List.Elements.{All-set}
use Rattle.std.proofs.Math.Seq.{take-set-lt}
use Rattle.ranked_list.specs.Table.{top_grade}
use Rattle.topk_theory.specs.declared.access.Access.{Access}
use Rattle.topk_theory.specs.Transcript.{seen_objects, bottom_of, list_numbers}
use Rattle.topk_theory.specs.Bounds.{known_grade, high_grades, high}
use Rattle.topk_theory.specs.Combined.{unknown_lists}
use Rattle.topk_theory.specs.Consistent.{SomeAgrees}
use Rattle.topk_theory.proofs.AgreementLists.{slice_get_contains}
use Rattle.topk_theory.proofs.BoundsLaws.{bottoms_filled}
use Rattle.topk_theory.proofs.ListNumbers.{number_in}
use Rattle.topk_theory.proofs.ThresholdLists.{contains_filter}
use Rattle.monotone_fn.specs.Value.{IsMonotone}
use Rattle.monotone_fn.specs.Limits.{AreGrades}
use Rattle.monotone_fn.proofs.Fills.{AreGrades-with_bottoms}
use Rattle.access_log.proofs.Readers.{known_capped, bottoms_capped}
use Rattle.ca_core.specs.declared.kept_high.KeptHigh.{KeptHigh}
use Rattle.ca_core.specs.declared.ties.Tied.{Tied}
use Rattle.ca_core.specs.Ties.{ties_of, HasTied, HasNone, IsSmallest}
use Rattle.ca_core.specs.Open.{AreOpen, cap, IsCapped}
use Rattle.ca_core.specs.Leading.{LeadsOver, LeadsTies, IsPresent, IsFirstTied, IsFallen}
use Rattle.ca_core.proofs.AtPlaces.{with_tie, among_tied}

-- the grades of a high are grades
high_capped : (m n : ℕ) (A : List Access) (object : ℕ) → SomeAgrees m n A → AreGrades (high_grades m A object)
high_capped m n A object some =
    subst AreGrades (bottoms_filled (known_grade A object) (λ list. bottom_of list A) (list_numbers m))
    (AreGrades-with_bottoms (map (λ list. known_grade A object list) (list_numbers m)) (map (λ list. bottom_of list A) (list_numbers m))
    (known_capped m n A object (map (λ list. known_grade A object list) (list_numbers m)) some refl)
    (bottoms_capped m n A (map (λ list. bottom_of list A) (list_numbers m)) some refl))

-- no high of an object whose grade in the list is unknown passes the cap
pub under_cap : (V : List ℕ → ℕ) (m n : ℕ) (A : List Access) (object list : ℕ) → IsMonotone V → SomeAgrees m n A → list < m → known_grade A object list ≡ None
    → high V m A object ≤ cap V m A list
under_cap V m n A object list monotone some l none =
    let grade : ℕ → ℕ = λ other. unwrap_or (known_grade A object other) (bottom_of other A) in
    let size : length (high_grades m A object) ≡ m = length-map-range_with_len grade 0 m in
    let caps : List ℕ = set (replicate m top_grade) list (bottom_of list A) in
    let many : length (replicate m top_grade) ≡ m = length-replicate m top_grade in
    let sized : length caps ≡ m = length-set (replicate m top_grade) list (bottom_of list A) ∙ many in
    monotone (high_grades m A object) caps (record {
      same_length = size ∙ sym sized;
      each = λ i within.
          let lt : i < m = omega (arith, within, size) in
          let here : get_or (high_grades m A object) i 0 ≡ grade i = get_or-map-range_with_len grade 0 m i i 0 lt (omega arith) in
          elim (cases_eq i list) [
            | inl e ↦
                let cap_here : get_or caps list 0 ≡ bottom_of list A = get_or-set_same (replicate m top_grade) list (bottom_of list A) 0 (omega (arith, l, many)) in
                let mine : grade list ≡ bottom_of list A = ap (λ o. unwrap_or o (bottom_of list A)) none in
                subst (λ j. get_or (high_grades m A object) j 0 ≤ get_or caps j 0) (sym e)
                (let here : get_or (high_grades m A object) list 0 ≡ grade list = get_or-map-range_with_len grade 0 m list list 0 l (omega arith) in omega (arith, here, mine, cap_here))
            | inr n' ↦
                let cap_there : get_or caps i 0 ≡ top_grade = get_or-set_other (replicate m top_grade) list i (bottom_of list A) 0 n' ∙ get_or-replicate m i top_grade 0 lt in
                let capped : get_or (high_grades m A object) i 0 ≤ top_grade = high_capped m n A object some i 0 within in
                omega (arith, capped, cap_there)
          ];
    })

-- ---- what leads the ties
unknown_some : (m : ℕ) (A : List Access) (object list : ℕ) → list < m → known_grade A object list ≡ None → 0 < length (unknown_lists m A object)
unknown_some m A object list l none =
    let c = contains_filter (λ other. is_none (known_grade A object other)) (list_numbers m) list (number_in m list l) (ap (λ (o : Option ℕ). is_none o) none) in
    let within = c.1 in
    omega (arith, within)

-- the smallest of the ties of a list leads them, where it is at the cap still
pub leads_ties : (V : List ℕ → ℕ) (m n : ℕ) (A : List Access) (heaps : List (List (Option (Reverse ℕ)))) (list : ℕ) (smallest : Tied) (rank : KeptHigh)
    → IsMonotone V → SomeAgrees m n A → IsSmallest (ties_of heaps list) smallest → smallest.object ≡ rank.object → IsCapped V m A rank list
    → LeadsTies V m A (Some rank) heaps list
leads_ties V m n A heaps list smallest rank monotone some is same capped = λ place object has none.
    let under : high V m A object ≤ cap V m A list = under_cap V m n A object list monotone some capped.within none in
    let at_cap : rank.high ≡ cap V m A list = capped.is_cap in
    let upto : smallest.object ≤ object = is.least place object has in
    elim (cases_lt (high V m A object) rank.high) [
      | inl lt ↦ inl lt
      | inr ge ↦ inr ((omega (arith, under, at_cap, ge)), (omega (arith, upto, same)))
    ]

pub leads_no_ties : (V : List ℕ → ℕ) (m : ℕ) (A : List Access) (heaps : List (List (Option (Reverse ℕ)))) (list : ℕ) (first : Option KeptHigh) → HasNone (ties_of heaps list)
    → LeadsTies V m A first heaps list
leads_no_ties V m A heaps list first none = λ place object has unknown. absurd (none place object has)

pub tied_present : (V : List ℕ → ℕ) (m : ℕ) (A : List Access) (highs : List (Option KeptHigh)) (heaps : List (List (Option (Reverse ℕ)))) (list : ℕ) (smallest : Tied) (rank : KeptHigh)
    → AreOpen V m A highs heaps → IsSmallest (ties_of heaps list) smallest → smallest.object ≡ rank.object → IsCapped V m A rank list
    → rank.high ≡ high V m A rank.object → IsPresent V m A rank
tied_present V m A highs heaps list smallest rank opens is same capped present = record {
  seen = slice_get_contains (seen_objects A) smallest.place rank.object (opens.tied list smallest.place smallest.object is.there ∙ ap (λ o. Some o) same);
  unknown = unknown_some m A rank.object list capped.within capped.unknown;
  present = sym present;
}

-- the ties of one list more
pub first_start : (V : List ℕ → ℕ) (m : ℕ) (A : List Access) (heaps : List (List (Option (Reverse ℕ)))) → IsFirstTied V m A 0 heaps None
first_start V m A heaps = record {
  present = λ rank e. absurd (none_some rank e);
  leads = λ list l. absurd (omega arith);
}
  where
    none_some : (rank : KeptHigh) → None ≡ Some rank → ⊥
    none_some rank e = cc

pub first_more : (V : List ℕ → ℕ) (m : ℕ) (A : List Access) (list : ℕ) (heaps after : List (List (Option (Reverse ℕ)))) (first more now : Option KeptHigh)
    → IsFirstTied V m A list heaps first → ((rank : KeptHigh) → more ≡ Some rank → IsPresent V m A rank) → LeadsTies V m A more after list
    → ((other : ℕ) → other ≢ list → ties_of after other ≡ ties_of heaps other)
    → ((here object : ℕ) → LeadsOver first here object → LeadsOver now here object) → ((here object : ℕ) → LeadsOver more here object → LeadsOver now here object)
    → ((now ≡ first) ⊎ (now ≡ more)) → IsFirstTied V m A (list + 1) after now
first_more V m A list heaps after first more now was present leads others from_first from_more either = record {
  present = λ rank e. elim either [ inl one ↦ was.present rank (sym one ∙ e) | inr other ↦ present rank (sym other ∙ e) ];
  leads = λ other l place object has none.
      elim (cases_eq other list) [
        | inl e ↦ from_more (high V m A object) object
            (leads place object (subst (λ x. HasTied (ties_of after x) place object) e has) (subst (λ x. known_grade A object x ≡ None) e none))
        | inr n ↦ from_first (high V m A object) object
            (was.leads other (omega (arith, l, n)) place object (subst (λ (ties : List (Option (Reverse ℕ))). HasTied ties place object) (others other n) has) none)
      ];
}

-- one object more is tied
pub first_with : (V : List ℕ → ℕ) (m : ℕ) (A : List Access) (highs : List (Option KeptHigh)) (heaps after : List (List (Option (Reverse ℕ)))) (list place : ℕ) (rank : KeptHigh)
    (first now : Option KeptHigh)
    → AreOpen V m A highs heaps → IsFallen V m A highs place rank → IsCapped V m A rank list → IsFirstTied V m A m heaps first
    → after ≡ with_tie heaps list place (Some (record { 0 = rank.object }))
    → ((here object : ℕ) → LeadsOver first here object → LeadsOver now here object)
    → ((here object : ℕ) → LeadsOver (Some rank) here object → LeadsOver now here object)
    → ((now ≡ first) ⊎ (now ≡ Some rank)) → IsFirstTied V m A m after now
first_with V m A highs heaps after list place rank first now opens fallen capped was is from_first from_rank either =
    let held = opens.held place fallen.kept fallen.there in
    let present : high V m A rank.object ≡ rank.high = ap (high V m A) fallen.object ∙ sym fallen.present in
    let mine : IsPresent V m A rank = record {
      seen = slice_get_contains (seen_objects A) place rank.object (held.there ∙ ap (λ o. Some o) (sym fallen.object));
      unknown = subst (λ o. 0 < length (unknown_lists m A o)) (sym fallen.object) held.unknown;
      present = present;
    } in
    record {
      present = λ one e. elim either [
        | inl same ↦ was.present one (sym same ∙ e)
        | inr new ↦ subst (IsPresent V m A) (some_same rank one (sym new ∙ e)) mine
      ];
      leads = λ other l at object has none.
          elim (among_tied V m A highs heaps list place rank other at object fallen capped opens
          (subst (λ hs. HasTied (ties_of hs other) at object) is has)) [
            | inl e ↦ from_rank (high V m A object) object (inr (ap (high V m A) e ∙ present, (omega (arith, e))))
            | inr old ↦ from_first (high V m A object) object (was.leads other l at object old none)
          ];
    }
  where
    some_same : (a b : KeptHigh) → Some a ≡ Some b → a ≡ b
    some_same a b e = cc

-- the grades at a cap, as they are written
pub cap_written : (m room list bottom : ℕ) → m ≤ room → list < m
    → take m (set (replicate room top_grade) list bottom) ≡ set (replicate m top_grade) list bottom
cap_written m room list bottom le l = take-set-lt m (replicate room top_grade) list bottom l ∙ ap (λ xs. set xs list bottom) (take-replicate m room top_grade le)

-- a bottom, as it is read
pub bottom_read : (m list : ℕ) (A : List Access) (bottoms : List ℕ) → list < m → bottoms ≡ map (λ l. bottom_of l A) (list_numbers m)
    → get_or bottoms list 0 ≡ bottom_of list A
bottom_read m list A bottoms l e =
    let here : 0 + list ≡ list = omega arith in
    ap (λ xs. get_or xs list 0) e ∙ get_or-map-range_with_len (λ l. bottom_of l A) 0 m list list 0 l here

pub bottoms_length : (m : ℕ) (A : List Access) (bottoms : List ℕ) → bottoms ≡ map (λ l. bottom_of l A) (list_numbers m) → length bottoms ≡ m
bottoms_length m A bottoms e = ap length e ∙ length-map-range_with_len (λ l. bottom_of l A) 0 m

pub caps_are_grades : (m room list bottom : ℕ) → m ≤ room → list < m → bottom ≤ top_grade
    → AreGrades (take m (set (replicate room top_grade) list bottom))
caps_are_grades m room list bottom le l capped =
    subst AreGrades (sym (cap_written m room list bottom le l))
    (All-set (λ g. g ≤ top_grade) (replicate m top_grade) list bottom capped (λ k d lt.
    let many : length (replicate m top_grade) ≡ m = length-replicate m top_grade in
    let is : get_or (replicate m top_grade) k d ≡ top_grade = get_or-replicate m k top_grade d (omega (arith, lt, many)) in
    omega (arith, is)))

pub present_if : (V : List ℕ → ℕ) (m : ℕ) (A : List Access) (first : Option KeptHigh) → IfSome first (IsPresent V m A) → (rank : KeptHigh) → first ≡ Some rank
    → IsPresent V m A rank
present_if V m A None h rank e = cc
present_if V m A (Some first) h rank e = subst (IsPresent V m A) (cc) h
