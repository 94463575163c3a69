-- What is kept of the open objects through a change at one place: a high is lowered, an object is tied or its tie is taken away.
use Rattle.std.proofs.Common.{◌≡◌, ◌≢◌, ◌⊎◌, inl, inr, ℕ, ◌+◌, ◌<◌, List, [], length, set, sum_by, Option, Some, None, slice_index_or, slice_set, refl, sym, ap, subst, ◌∙◌, arith}
use Rattle.std.specs.List.{slice_get}
use Rattle.std.specs.declared.cmp.Reverse.{Reverse}
use Rattle.std.specs.declared.cmp.Ordering.TheVariants.{Greater}
use Rattle.std.specs.Ordering.{nat_cmp}
use Rattle.std.proofs.lemmas.Bool.{cases_eq}
use Rattle.std.proofs.lemmas.List.{length-set, get_or-set_same, get_or-set_other}
use Rattle.std.proofs.lemmas.List.Sums.{sum_by-set}
use Rattle.std.proofs.lemmas.Option.{none-some, same_Some, slice_get_within}
use Rattle.topk_theory.specs.declared.access.Access.{Access}
use Rattle.topk_theory.specs.Transcript.{seen_objects}
use Rattle.topk_theory.specs.Bounds.{high}
use Rattle.topk_theory.specs.Combined.{unknown_lists}
use Rattle.containers.specs.Ranks.{rank_at}
use Rattle.containers.proofs.SlotChanges.{no_greater}
use Rattle.access_log.proofs.AheadKept.{at_any}
use Rattle.ca_core.specs.declared.kept_high.KeptHigh.{KeptHigh}
use Rattle.ca_core.specs.Ties.{ties_of, HasTied, IsSmallest}
use Rattle.ca_core.specs.Open.{IsOpen, IsKept, AreOpen, IsCapped}
use Rattle.ca_core.specs.Leading.{IsFallen}

-- ---- one place of one list is written
abbrev pub with_tie : List (List (Option (Reverse ℕ))) → ℕ → ℕ → Option (Reverse ℕ) → List (List (Option (Reverse ℕ)))
with_tie heaps list place tie = slice_set heaps list (slice_set (ties_of heaps list) place tie)

pub tie_same : (heaps : List (List (Option (Reverse ℕ)))) (list place : ℕ) (tie : Option (Reverse ℕ)) → list < length heaps → place < length (ties_of heaps list)
    → rank_at (ties_of (with_tie heaps list place tie) list) place ≡ tie
tie_same heaps list place tie l p =
    ap (λ (ties : List (Option (Reverse ℕ))). rank_at ties place) (get_or-set_same heaps list (set (ties_of heaps list) place tie) [] l)
    ∙ get_or-set_same (ties_of heaps list) place tie None p

pub tie_list : (heaps : List (List (Option (Reverse ℕ)))) (list place other : ℕ) (tie : Option (Reverse ℕ)) → other ≢ list
    → ties_of (with_tie heaps list place tie) other ≡ ties_of heaps other
tie_list heaps list place other tie n = get_or-set_other heaps list other (set (ties_of heaps list) place tie) [] n

pub tie_place : (heaps : List (List (Option (Reverse ℕ)))) (list place other at : ℕ) (tie : Option (Reverse ℕ)) → list < length heaps → at ≢ place
    → rank_at (ties_of (with_tie heaps list place tie) other) at ≡ rank_at (ties_of heaps other) at
tie_place heaps list place other at tie l n =
    elim (cases_eq other list) [
      | inl e ↦ subst (λ x. rank_at (ties_of (with_tie heaps list place tie) x) at ≡ rank_at (ties_of heaps x) at) (sym e)
          (ap (λ (ties : List (Option (Reverse ℕ))). rank_at ties at) (get_or-set_same heaps list (set (ties_of heaps list) place tie) [] l)
          ∙ get_or-set_other (ties_of heaps list) place at tie None n)
      | inr o ↦ ap (λ (ties : List (Option (Reverse ℕ))). rank_at ties at) (tie_list heaps list place other tie o)
    ]

pub tie_room : (heaps : List (List (Option (Reverse ℕ)))) (list place other : ℕ) (tie : Option (Reverse ℕ)) → list < length heaps
    → length (ties_of (with_tie heaps list place tie) other) ≡ length (ties_of heaps other)
tie_room heaps list place other tie l =
    elim (cases_eq other list) [
      | inl e ↦ subst (λ x. length (ties_of (with_tie heaps list place tie) x) ≡ length (ties_of heaps x)) (sym e)
          (ap (length {A = Option (Reverse ℕ)}) (get_or-set_same heaps list (set (ties_of heaps list) place tie) [] l) ∙ length-set (ties_of heaps list) place tie)
      | inr o ↦ ap (length {A = Option (Reverse ℕ)}) (tie_list heaps list place other tie o)
    ]

-- ---- a change at one place
record AtPlace (V : List ℕ → ℕ) (m : ℕ) (A : List Access) (highs after : List (Option KeptHigh)) (heaps ties : List (List (Option (Reverse ℕ)))) (place object : ℕ) : Type 0 where
  pub at : slice_get (seen_objects A) place ≡ Some object
  pub size : length after ≡ length highs
  pub lists : length ties ≡ length heaps
  pub rooms : (list : ℕ) → length (ties_of ties list) ≡ length (ties_of heaps list)
  pub other_highs : (other : ℕ) → other ≢ place → rank_at after other ≡ rank_at highs other
  pub other_ties : (list other : ℕ) → other ≢ place → rank_at (ties_of ties list) other ≡ rank_at (ties_of heaps list) other
  pub held : (kept : KeptHigh) → rank_at after place ≡ Some kept → IsOpen V m A place kept
  pub tied : (list other : ℕ) → HasTied (ties_of ties list) place other → other ≡ object
  pub kept : 0 < length (unknown_lists m A object) → IsKept m A after ties place object

other_kept : (m : ℕ) (A : List Access) (highs after : List (Option KeptHigh)) (heaps ties : List (List (Option (Reverse ℕ)))) (place object : ℕ)
    → rank_at after place ≡ rank_at highs place → ((list : ℕ) → rank_at (ties_of ties list) place ≡ rank_at (ties_of heaps list) place)
    → IsKept m A highs heaps place object → IsKept m A after ties place object
other_kept m A highs after heaps ties place object same stays (inl kept) = inl (kept.0, same ∙ kept.1)
other_kept m A highs after heaps ties place object same stays (inr tied) = inr (tied.0, tied.1, tied.2, stays tied.0 ∙ tied.3)

changed : (V : List ℕ → ℕ) (m : ℕ) (A : List Access) (highs after : List (Option KeptHigh)) (heaps ties : List (List (Option (Reverse ℕ)))) (place object : ℕ)
    → AreOpen V m A highs heaps → AtPlace V m A highs after heaps ties place object → AreOpen V m A after ties
changed V m A highs after heaps ties place object opens to = record {
  fits = (let fits = opens.fits in let size = to.size in omega (arith, fits, size));
  lists = to.lists ∙ opens.lists;
  rooms = λ list l. to.rooms list ∙ opens.rooms list l ∙ sym to.size;
  held = λ other kept is.
      elim (cases_eq other place) [
        | inl e ↦ subst (λ p. IsOpen V m A p kept) (sym e) (to.held kept (subst (λ p. rank_at after p ≡ Some kept) e is))
        | inr n ↦ opens.held other kept (sym (to.other_highs other n) ∙ is)
      ];
  tied = λ list other o is.
      elim (cases_eq other place) [
        | inl e ↦ ap (slice_get (seen_objects A)) e ∙ to.at ∙ ap (λ x. Some x) (sym (to.tied list o (subst (λ p. HasTied (ties_of ties list) p o) e is)))
        | inr n ↦ opens.tied list other o (sym (to.other_ties list other n) ∙ is)
      ];
  all = λ other o there unknown.
      elim (cases_eq other place) [
        | inl e ↦
            let same : o ≡ object = same_Some o object (sym there ∙ ap (slice_get (seen_objects A)) e ∙ to.at) in
            subst (λ p. IsKept m A after ties p o) (sym e)
            (subst (λ x. IsKept m A after ties place x) (sym same) (to.kept (subst (λ x. 0 < length (unknown_lists m A x)) same unknown)))
        | inr n ↦ other_kept m A highs after heaps ties other o (to.other_highs other n) (λ list. to.other_ties list other n) (opens.all other o there unknown)
      ];
}

-- ---- places are within the room
pub place_within : (V : List ℕ → ℕ) (m : ℕ) (A : List Access) (highs : List (Option KeptHigh)) (heaps : List (List (Option (Reverse ℕ)))) (place object : ℕ)
    → AreOpen V m A highs heaps → slice_get (seen_objects A) place ≡ Some object → place < length highs
place_within V m A highs heaps place object opens at =
    let fits = opens.fits in
    let within = slice_get_within (seen_objects A) place object at in
    omega arith

pub tie_within : (V : List ℕ → ℕ) (m : ℕ) (A : List Access) (highs : List (Option KeptHigh)) (heaps : List (List (Option (Reverse ℕ)))) (list place object : ℕ)
    → AreOpen V m A highs heaps → list < m → slice_get (seen_objects A) place ≡ Some object → place < length (ties_of heaps list)
tie_within V m A highs heaps list place object opens l at =
    let within = place_within V m A highs heaps place object opens at in
    let room = opens.rooms list l in
    omega arith

pub list_within : (V : List ℕ → ℕ) (m : ℕ) (A : List Access) (highs : List (Option KeptHigh)) (heaps : List (List (Option (Reverse ℕ)))) (list : ℕ)
    → AreOpen V m A highs heaps → list < m → list < length heaps
list_within V m A highs heaps list opens l = (let same = opens.lists in omega arith)

-- a kept high that is put stands there
put_there : (highs : List (Option KeptHigh)) (place : ℕ) (rank kept : KeptHigh) → place < length highs → rank_at (set highs place (Some rank)) place ≡ Some kept
    → rank ≡ kept
put_there highs place rank kept l is = same_Some rank kept (sym (get_or-set_same highs place (Some rank) None l) ∙ is)

gone_there : (highs : List (Option KeptHigh)) (place : ℕ) (kept : KeptHigh) → place < length highs → rank_at (set highs place None) place ≡ Some kept → ⊥
gone_there highs place kept l is = none-some kept (sym (get_or-set_same highs place None None l) ∙ is)

-- ---- a tie is taken away
one_tied : (V : List ℕ → ℕ) (m : ℕ) (A : List Access) (highs : List (Option KeptHigh)) (heaps : List (List (Option (Reverse ℕ)))) (place object list other : ℕ)
    → AreOpen V m A highs heaps → slice_get (seen_objects A) place ≡ Some object → HasTied (ties_of heaps list) place other → other ≡ object
one_tied V m A highs heaps place object list other opens at has = same_Some other object (sym (opens.tied list place other has) ∙ at)

left_tied : (V : List ℕ → ℕ) (m : ℕ) (A : List Access) (highs : List (Option KeptHigh)) (heaps : List (List (Option (Reverse ℕ)))) (list place object one other : ℕ)
    → AreOpen V m A highs heaps → list < m → slice_get (seen_objects A) place ≡ Some object → HasTied (ties_of (with_tie heaps list place None) one) place other
    → other ≡ object
left_tied V m A highs heaps list place object one other opens l at has =
    elim (cases_eq one list) [
      | inl e ↦ absurd (none-some {A = Reverse ℕ} (record { 0 = other })
          (sym (tie_same heaps list place None (list_within V m A highs heaps list opens l) (tie_within V m A highs heaps list place object opens l at))
          ∙ subst (λ x. HasTied (ties_of (with_tie heaps list place None) x) place other) e has))
      | inr n ↦ one_tied V m A highs heaps place object one other opens at (subst (λ (ties : List (Option (Reverse ℕ))). HasTied ties place other) (tie_list heaps list place one None n) has)
    ]

pub released : (V : List ℕ → ℕ) (m : ℕ) (A : List Access) (highs : List (Option KeptHigh)) (heaps : List (List (Option (Reverse ℕ)))) (list place : ℕ) (rank : KeptHigh)
    → list < m → HasTied (ties_of heaps list) place rank.object → 0 < length (unknown_lists m A rank.object)
    → rank.high ≡ high V m A rank.object → AreOpen V m A highs heaps
    → AreOpen V m A (set highs place (Some rank)) (with_tie heaps list place None)
released V m A highs heaps list place rank l has unknown present opens =
    let at : slice_get (seen_objects A) place ≡ Some rank.object = opens.tied list place rank.object has in
    let lt = place_within V m A highs heaps place rank.object opens at in
    let within = list_within V m A highs heaps list opens l in
    let mine : IsOpen V m A place rank = record { there = at; unknown = unknown; above = (let e = present in omega (arith, e)) } in
    changed V m A highs (set highs place (Some rank)) heaps (with_tie heaps list place None) place rank.object opens (record {
      at = at;
      size = length-set highs place (Some rank);
      lists = length-set heaps list (set (ties_of heaps list) place None);
      rooms = λ other. tie_room heaps list place other None within;
      other_highs = λ other n. get_or-set_other highs place other (Some rank) None n;
      other_ties = λ one other n. tie_place heaps list place one other None within n;
      held = λ kept is. subst (IsOpen V m A place) (put_there highs place rank kept lt is) mine;
      tied = λ one other. left_tied V m A highs heaps list place rank.object one other opens l at;
      kept = λ more. inl (rank, get_or-set_same highs place (Some rank) None lt);
    })

pub released_known : (V : List ℕ → ℕ) (m : ℕ) (A : List Access) (highs : List (Option KeptHigh)) (heaps : List (List (Option (Reverse ℕ)))) (list place object : ℕ)
    → list < m → HasTied (ties_of heaps list) place object → unknown_lists m A object ≡ [] → AreOpen V m A highs heaps
    → AreOpen V m A highs (with_tie heaps list place None)
released_known V m A highs heaps list place object l has gone opens =
    let at : slice_get (seen_objects A) place ≡ Some object = opens.tied list place object has in
    let within = list_within V m A highs heaps list opens l in
    let size : length (unknown_lists m A object) ≡ 0 = ap length gone in
    changed V m A highs highs heaps (with_tie heaps list place None) place object opens (record {
      at = at;
      size = refl;
      lists = length-set heaps list (set (ties_of heaps list) place None);
      rooms = λ other. tie_room heaps list place other None within;
      other_highs = λ other n. refl;
      other_ties = λ one other n. tie_place heaps list place one other None within n;
      held = λ kept is. opens.held place kept is;
      tied = λ one other. left_tied V m A highs heaps list place object one other opens l at;
      kept = λ more. absurd (omega (arith, size, more));
    })

-- ---- a kept high is lowered
pub lowered : (V : List ℕ → ℕ) (m : ℕ) (A : List Access) (highs : List (Option KeptHigh)) (heaps : List (List (Option (Reverse ℕ)))) (place : ℕ) (rank : KeptHigh)
    → IsFallen V m A highs place rank → AreOpen V m A highs heaps → AreOpen V m A (set highs place (Some rank)) heaps
lowered V m A highs heaps place rank fallen opens =
    let was = opens.held place fallen.kept fallen.there in
    let at : slice_get (seen_objects A) place ≡ Some rank.object = was.there ∙ ap (λ o. Some o) (sym fallen.object) in
    let lt = place_within V m A highs heaps place rank.object opens at in
    let present : rank.high ≡ high V m A rank.object = fallen.present ∙ ap (high V m A) (sym fallen.object) in
    let mine : IsOpen V m A place rank = record {
      there = at;
      unknown = subst (λ o. 0 < length (unknown_lists m A o)) (sym fallen.object) was.unknown;
      above = omega (arith, present);
    } in
    changed V m A highs (set highs place (Some rank)) heaps heaps place rank.object opens (record {
      at = at;
      size = length-set highs place (Some rank);
      lists = refl;
      rooms = λ other. refl;
      other_highs = λ other n. get_or-set_other highs place other (Some rank) None n;
      other_ties = λ one other n. refl;
      held = λ kept is. subst (IsOpen V m A place) (put_there highs place rank kept lt is) mine;
      tied = λ one other has. one_tied V m A highs heaps place rank.object one other opens at has;
      kept = λ more. inl (rank, get_or-set_same highs place (Some rank) None lt);
    })

-- ---- an object is tied
new_tied : (V : List ℕ → ℕ) (m : ℕ) (A : List Access) (highs : List (Option KeptHigh)) (heaps : List (List (Option (Reverse ℕ)))) (list place object one other : ℕ)
    → AreOpen V m A highs heaps → list < m → slice_get (seen_objects A) place ≡ Some object
    → HasTied (ties_of (with_tie heaps list place (Some (record { 0 = object }))) one) place other → other ≡ object
new_tied V m A highs heaps list place object one other opens l at has =
    let tie : Option (Reverse ℕ) = Some (record { 0 = object }) in
    elim (cases_eq one list) [
      | inl e ↦ sym (ap (λ (r : Reverse ℕ). r.0) (same_Some {A = Reverse ℕ} (record { 0 = object }) (record { 0 = other })
          (sym (tie_same heaps list place tie (list_within V m A highs heaps list opens l) (tie_within V m A highs heaps list place object opens l at))
          ∙ subst (λ x. HasTied (ties_of (with_tie heaps list place tie) x) place other) e has)))
      | inr n ↦ one_tied V m A highs heaps place object one other opens at (subst (λ (ties : List (Option (Reverse ℕ))). HasTied ties place other) (tie_list heaps list place one tie n) has)
    ]

pub tied : (V : List ℕ → ℕ) (m : ℕ) (A : List Access) (highs : List (Option KeptHigh)) (heaps : List (List (Option (Reverse ℕ)))) (list place : ℕ) (rank : KeptHigh)
    → IsFallen V m A highs place rank → IsCapped V m A rank list → AreOpen V m A highs heaps
    → AreOpen V m A (set highs place None) (with_tie heaps list place (Some (record { 0 = rank.object })))
tied V m A highs heaps list place rank fallen capped opens =
    let tie : Option (Reverse ℕ) = Some (record { 0 = rank.object }) in
    let was = opens.held place fallen.kept fallen.there in
    let at : slice_get (seen_objects A) place ≡ Some rank.object = was.there ∙ ap (λ o. Some o) (sym fallen.object) in
    let lt = place_within V m A highs heaps place rank.object opens at in
    let l : list < m = capped.within in
    let within = list_within V m A highs heaps list opens l in
    changed V m A highs (set highs place None) heaps (with_tie heaps list place tie) place rank.object opens (record {
      at = at;
      size = length-set highs place None;
      lists = length-set heaps list (set (ties_of heaps list) place tie);
      rooms = λ other. tie_room heaps list place other tie within;
      other_highs = λ other n. get_or-set_other highs place other None None n;
      other_ties = λ one other n. tie_place heaps list place one other tie within n;
      held = λ kept is. absurd (gone_there highs place kept lt is);
      tied = λ one other. new_tied V m A highs heaps list place rank.object one other opens l at;
      kept = λ more. inr (list, l, capped.unknown, tie_same heaps list place tie within (tie_within V m A highs heaps list place rank.object opens l at));
    })

-- what is tied at a list after an object was
pub among_tied : (V : List ℕ → ℕ) (m : ℕ) (A : List Access) (highs : List (Option KeptHigh)) (heaps : List (List (Option (Reverse ℕ)))) (list place : ℕ) (rank : KeptHigh)
    (one at object : ℕ)
    → IsFallen V m A highs place rank → IsCapped V m A rank list → AreOpen V m A highs heaps
    → HasTied (ties_of (with_tie heaps list place (Some (record { 0 = rank.object }))) one) at object
    → (object ≡ rank.object) ⊎ HasTied (ties_of heaps one) at object
among_tied V m A highs heaps list place rank one at object fallen capped opens has =
    let tie : Option (Reverse ℕ) = Some (record { 0 = rank.object }) in
    let was = opens.held place fallen.kept fallen.there in
    let there : slice_get (seen_objects A) place ≡ Some rank.object = was.there ∙ ap (λ o. Some o) (sym fallen.object) in
    elim (cases_eq at place) [
      | inl e ↦ inl (new_tied V m A highs heaps list place rank.object one object opens capped.within there
          (subst (λ p. HasTied (ties_of (with_tie heaps list place tie) one) p object) e has))
      | inr n ↦ inr (sym (tie_place heaps list place one at tie (list_within V m A highs heaps list opens capped.within) n) ∙ has)
    ]

-- ---- how many are tied at a list
abbrev pub one_tie : Option (Reverse ℕ) → ℕ
one_tie None = 0
one_tie (Some tie) = 1

abbrev pub ties_left : List (List (Option (Reverse ℕ))) → ℕ → ℕ
ties_left heaps list = sum_by one_tie (ties_of heaps list)

pub fewer_ties : (heaps after : List (List (Option (Reverse ℕ)))) (list place object : ℕ) → list < length heaps → place < length (ties_of heaps list)
    → HasTied (ties_of heaps list) place object → after ≡ with_tie heaps list place None → ties_left after list < ties_left heaps list
fewer_ties heaps after list place object l p has is =
    let ties : List (Option (Reverse ℕ)) = ties_of heaps list in
    let sums : sum_by one_tie (set ties place None) + one_tie (rank_at ties place) ≡ sum_by one_tie ties + 0 = sum_by-set one_tie ties place None None p in
    let was : one_tie (rank_at ties place) ≡ 1 = ap one_tie has in
    let now : ties_left after list ≡ sum_by one_tie (set ties place None) =
    ap (λ hs. ties_left hs list) is ∙ ap (sum_by one_tie) (get_or-set_same heaps list (set ties place None) [] l) in
    omega arith

-- the smallest of the ties of a list, as a heap has it
pub smallest_found : (heaps : List (List (Option (Reverse ℕ)))) (list : ℕ) (heap d : List (Option (Reverse ℕ))) (key : ℕ) (rank : Reverse ℕ) → list < length heaps
    → heap ≡ slice_index_or heaps list d → rank_at heap key ≡ Some rank
    → ((other : ℕ) (another : Reverse ℕ) → rank_at heap other ≡ Some another → nat_cmp rank.0 another.0 ≢ Greater)
    → IsSmallest (ties_of heaps list) (record { place = key; object = rank.0 })
smallest_found heaps list heap d key rank l is there none_above =
    subst (λ (ties : List (Option (Reverse ℕ))). IsSmallest ties (record { place = key; object = rank.0 })) (is ∙ at_any heaps list d [] l)
    (record { there = there; least = λ place other has. no_greater rank.0 other (none_above place (record { 0 = other }) has) })
