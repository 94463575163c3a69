-- What leads the kept highs and the ties decides the choice.
use Rattle.std.proofs.Common.{◌≡◌, ◌≢◌, ◌⊎◌, inl, inr, ℕ, ◌+◌, ◌<◌, ◌≤◌, true, false, List, length, set, sum_by, Option, Some, None, nat_eq, position, refl, sym, ap, subst, ◌∙◌, arith}
use Rattle.std.specs.List.{slice_get}
use Rattle.std.specs.declared.cmp.Ordering.{Ordering}
use Rattle.std.specs.declared.cmp.Reverse.{Reverse}
use Rattle.std.specs.declared.cmp.Ordering.TheVariants.{Equal, Greater}
use Rattle.std.specs.Ordering.{ordering_then, nat_cmp}
use Rattle.std.specs.Cmp.{nat_cmp_is}
use Rattle.std.proofs.lemmas.Bool.{cases_lt, lt-ltb, ltb-true, true≢false}
use Rattle.std.proofs.lemmas.List.{length-set}
use Rattle.std.proofs.lemmas.List.Sums.{sum_by-set}
use Rattle.std.proofs.lemmas.Option.{none-some, same_Some}
use Rattle.topk_theory.specs.declared.access.Access.{Access}
use Rattle.topk_theory.specs.Order.{kth_low}
use Rattle.topk_theory.specs.Transcript.{seen_objects}
use Rattle.topk_theory.specs.Bounds.{high}
use Rattle.topk_theory.specs.NoRandom.{seen_items, exceeds}
use Rattle.topk_theory.specs.Combined.{MayBeAsked, IsChoice, choice}
use Rattle.topk_theory.proofs.AgreementLists.{slice_get_contains}
use Rattle.topk_theory.proofs.CombinedChoice.{choice_law, one_choice}
use Rattle.access_log.proofs.RecordKept.{placed, not_placed}
use Rattle.containers.specs.Ranks.{rank_at, IsGreatest}
use Rattle.ranked_list.proofs.OptionLaws.{option_cases}
use Rattle.ca_core.specs.declared.kept_high.KeptHigh.{KeptHigh}
use Rattle.ca_core.specs.Open.{AreOpen}
use Rattle.ca_core.specs.Leading.{LeadsOver, LeadsHighs, LeadsTies, IsPresent, IsFirstTied, IsAhead, IsLowered}
use Rattle.ca_core.proofs.AtPlaces.{place_within}

-- which is chosen first
abbrev pub kept_cmp : KeptHigh → KeptHigh → Ordering
kept_cmp a b = ordering_then (nat_cmp a.high b.high) (nat_cmp b.object a.object)

cmp_greater : (x y : ℕ) → y < x → nat_cmp x y ≡ Greater
cmp_greater x y lt = sym (nat_cmp_is x y Greater lt)

not_after : (a b : KeptHigh) → kept_cmp a b ≢ Greater → (a.high < b.high) ⊎ ((a.high ≡ b.high) × (b.object ≤ a.object))
not_after a b not =
    elim (cases_lt a.high b.high) [
      | inl lt ↦ inl lt
      | inr ge ↦ elim (cases_lt b.high a.high) [
        | inl gt ↦ absurd (not (ap (λ o. ordering_then o (nat_cmp b.object a.object)) (cmp_greater a.high b.high gt)))
        | inr le ↦
            let same : a.high ≡ b.high = omega arith in
            elim (cases_lt a.object b.object) [
              | inl less ↦ absurd (not (ap (λ o. ordering_then o (nat_cmp b.object a.object)) (sym (nat_cmp_is a.high b.high Equal same)) ∙ cmp_greater b.object a.object less))
              | inr up ↦ inr (same, up)
            ]
      ]
    ]

-- what stands no higher than what is led is led
over_lower : (first : Option KeptHigh) (above here object : ℕ) → LeadsOver first above object → here ≤ above → LeadsOver first here object
over_lower None above here object leads le = leads
over_lower (Some first) above here object (inl lt) le = inl (omega arith)
over_lower (Some first) above here object (inr tie) le =
    elim (cases_lt here first.high) [
      | inl lt ↦ inl lt
      | inr ge ↦ inr ((let e = tie.0 in omega arith), tie.1)
    ]

-- what is led by what is led
pub leads_on : (first : Option KeptHigh) (rank : KeptHigh) (here object : ℕ) → LeadsOver first rank.high rank.object → LeadsOver (Some rank) here object
    → LeadsOver first here object
leads_on None rank here object leads under = leads
leads_on (Some first) rank here object (inl lt) (inl less) = inl (omega arith)
leads_on (Some first) rank here object (inl lt) (inr tie) = inl (let e = tie.0 in omega arith)
leads_on (Some first) rank here object (inr tie) (inl less) = inl (let e = tie.0 in omega arith)
leads_on (Some first) rank here object (inr tie) (inr other) = inr (other.0 ∙ tie.0, (let up = tie.1 in let more = other.1 in omega arith))

-- one that may be asked is led by what leads the kept highs and the ties
led : (V : List ℕ → ℕ) (k m : ℕ) (A : List Access) (highs : List (Option KeptHigh)) (heaps : List (List (Option (Reverse ℕ)))) (first : Option KeptHigh) (object : ℕ)
    → AreOpen V m A highs heaps → LeadsHighs first highs → ((list : ℕ) → list < m → LeadsTies V m A first heaps list) → MayBeAsked V k m A object
    → LeadsOver first (high V m A object) object
led V k m A highs heaps first object opens leads ties may =
    elim (option_cases (position (nat_eq object) (seen_objects A))) [
      | inl none ↦ absurd (not_placed object (seen_objects A) none may.seen)
      | inr some ↦
          let at : slice_get (seen_objects A) some.0 ≡ Some object = placed object some.0 (seen_objects A) some.1 in
          elim (opens.all some.0 object at may.unknown) [
            | inl kept ↦
                let held = opens.held some.0 kept.0 kept.1 in
                let same : kept.0.object ≡ object = same_Some kept.0.object object (sym held.there ∙ at) in
                over_lower first kept.0.high (high V m A object) object
                (subst (λ o. LeadsOver first kept.0.high o) same (leads some.0 kept.0 kept.1))
                (subst (λ o. high V m A o ≤ kept.0.high) same held.above)
            | inr tied ↦ ties tied.0 tied.1 some.0 object tied.3 tied.2
          ]
    ]

-- a higher number is no less above a bound
exceeds_up : (bound : Option ℕ) (x y : ℕ) → x ≤ y → exceeds bound x ≡ true → exceeds bound y ≡ true
exceeds_up None x y le t = refl
exceeds_up (Some b) x y le t = let lt = ltb-true b x t in lt-ltb b y (omega arith)

-- the choice is the object that leads, where its high is its present one
pub chosen_first : (V : List ℕ → ℕ) (k m : ℕ) (A : List Access) (highs : List (Option KeptHigh)) (heaps : List (List (Option (Reverse ℕ)))) (rank : KeptHigh) (bound : Option ℕ)
    → AreOpen V m A highs heaps → LeadsHighs (Some rank) highs → ((list : ℕ) → list < m → LeadsTies V m A (Some rank) heaps list)
    → IsPresent V m A rank → bound ≡ kth_low k (seen_items V m A) → exceeds bound rank.high ≡ true → Some rank.object ≡ choice V k m A
chosen_first V k m A highs heaps rank bound opens leads ties is_present is above =
    let present : high V m A rank.object ≡ rank.high = is_present.present in
    let is_choice : IsChoice V k m A rank.object = record {
      may = record {
        seen = is_present.seen;
        viable = subst (λ b. exceeds b (high V m A rank.object) ≡ true) is (subst (λ h. exceeds bound h ≡ true) (sym present) above);
        unknown = is_present.unknown;
      };
      greatest = λ other may.
          subst (λ h. (high V m A other < h) ⊎ ((high V m A other ≡ h) × (rank.object ≤ other))) (sym present)
          (led V k m A highs heaps (Some rank) other opens leads ties may);
    } in
    elim (choice_law V k m A) [
      | inl some ↦ ap (λ o. Some o) (one_choice V k m A rank.object some.0 is_choice some.2) ∙ sym some.1
      | inr none ↦ absurd (none.1 rank.object is_choice.may)
    ]

-- and where it leads the ties and they lead the kept highs
pub chosen_some : (V : List ℕ → ℕ) (k m : ℕ) (A : List Access) (highs : List (Option KeptHigh)) (heaps : List (List (Option (Reverse ℕ)))) (first : Option KeptHigh) (rank : KeptHigh)
    (bound : Option ℕ)
    → AreOpen V m A highs heaps → LeadsHighs first highs → IsFirstTied V m A m heaps first → first ≡ Some rank → bound ≡ kth_low k (seen_items V m A)
    → exceeds bound rank.high ≡ true → Some rank.object ≡ choice V k m A
chosen_some V k m A highs heaps first rank bound opens leads tied is bounded above =
    chosen_first V k m A highs heaps rank bound opens (subst (λ f. LeadsHighs f highs) is leads)
    (λ list l. subst (λ f. LeadsTies V m A f heaps list) is (tied.leads list l)) (tied.present rank is) bounded above

-- nobody is chosen where what leads isn't above the bound
pub chosen_none : (V : List ℕ → ℕ) (k m : ℕ) (A : List Access) (highs : List (Option KeptHigh)) (heaps : List (List (Option (Reverse ℕ)))) (first : Option KeptHigh)
    (bound : Option ℕ)
    → AreOpen V m A highs heaps → LeadsHighs first highs → ((list : ℕ) → list < m → LeadsTies V m A first heaps list)
    → bound ≡ kth_low k (seen_items V m A) → ((rank : KeptHigh) → first ≡ Some rank → exceeds bound rank.high ≡ false) → None ≡ choice V k m A
chosen_none V k m A highs heaps first bound opens leads ties is within =
    elim (choice_law V k m A) [
      | inl some ↦ absurd (
          let viable : exceeds bound (high V m A some.0) ≡ true = subst (λ b. exceeds b (high V m A some.0) ≡ true) (sym is) some.2.may.viable in
          refused first bound (high V m A some.0) some.0 (led V k m A highs heaps first some.0 opens leads ties some.2.may) within viable)
      | inr none ↦ sym none.0
    ]
  where
    refused : (first : Option KeptHigh) (bound : Option ℕ) (here object : ℕ) → LeadsOver first here object
        → ((rank : KeptHigh) → first ≡ Some rank → exceeds bound rank.high ≡ false) → exceeds bound here ≡ true → ⊥
    refused None bound here object leads within t = leads
    refused (Some first) bound here object leads within t =
        true≢false (sym (exceeds_up bound here first.high (elim leads [ inl lt ↦ omega arith | inr tie ↦ (let e = tie.0 in omega arith) ]) t) ∙ within first refl)

-- ---- the greatest kept high leads the others
pub leads_highs : (highs : List (Option KeptHigh)) (key : ℕ) (top : KeptHigh) → IsGreatest kept_cmp highs key top → LeadsHighs (Some top) highs
leads_highs highs key top greatest = λ place kept at. not_after kept top (greatest.none_above place kept at)

pub is_ahead : (highs : List (Option KeptHigh)) (key : ℕ) (top : KeptHigh) (first : Option KeptHigh) → IsGreatest kept_cmp highs key top
    → ((rank : KeptHigh) → first ≡ Some rank → LeadsOver (Some top) rank.high rank.object) → IsAhead first highs key top
is_ahead highs key top first greatest leads = record {
  there = greatest.there;
  leads = leads_highs highs key top greatest;
  passes = λ here object under. behind first leads here object under;
}
  where
    behind : (first : Option KeptHigh) → ((rank : KeptHigh) → first ≡ Some rank → LeadsOver (Some top) rank.high rank.object) → (here object : ℕ)
        → LeadsOver first here object → LeadsOver (Some top) here object
    behind None leads here object under = absurd under
    behind (Some rank) leads here object under = leads_on (Some top) rank here object (leads rank refl) under

pub leads_top : (highs : List (Option KeptHigh)) (key : ℕ) (top rank : KeptHigh) → IsGreatest kept_cmp highs key top → LeadsOver (Some rank) top.high top.object
    → LeadsHighs (Some rank) highs
leads_top highs key top rank greatest leads = λ place kept at. leads_on (Some rank) top kept.high kept.object leads (leads_highs highs key top greatest place kept at)

pub leads_none : (highs : List (Option KeptHigh)) (first : Option KeptHigh) → ((place : ℕ) → rank_at highs place ≡ None) → LeadsHighs first highs
leads_none highs first none place kept at = absurd (none-some kept (sym (none place) ∙ at))

-- the object of a kept high that is its present one
pub is_present : (V : List ℕ → ℕ) (m : ℕ) (A : List Access) (highs : List (Option KeptHigh)) (heaps : List (List (Option (Reverse ℕ)))) (key : ℕ) (kept : KeptHigh)
    → AreOpen V m A highs heaps → rank_at highs key ≡ Some kept → high V m A kept.object ≡ kept.high → IsPresent V m A kept
is_present V m A highs heaps key kept opens at present =
    let held = opens.held key kept at in
    record { seen = slice_get_contains (seen_objects A) key kept.object held.there; unknown = held.unknown; present = present }

-- ---- a kept high falls
-- how much may fall still
abbrev pub height : Option KeptHigh → ℕ
height None = 0
height (Some kept) = kept.high + 1

abbrev pub heights : List (Option KeptHigh) → ℕ
heights highs = sum_by height highs

pub heights_fall : (V : List ℕ → ℕ) (m : ℕ) (A : List Access) (highs after : List (Option KeptHigh)) (heaps : List (List (Option (Reverse ℕ)))) (key present : ℕ) (kept : KeptHigh)
    → AreOpen V m A highs heaps → rank_at highs key ≡ Some kept → present ≡ high V m A kept.object → present ≢ kept.high
    → IsLowered highs key (record { high = present; object = kept.object }) after → heights after < heights highs
heights_fall V m A highs after heaps key present kept opens at is other lower =
    let new : KeptHigh = record { high = present; object = kept.object } in
    let lt = place_within V m A highs heaps key kept.object opens (opens.held key kept at).there in
    let above : high V m A kept.object ≤ kept.high = (opens.held key kept at).above in
    let less : present < kept.high = elim (cases_lt present kept.high) [ inl l ↦ l | inr ge ↦ absurd (other (omega arith)) ] in
    let was : height (rank_at highs key) ≡ kept.high + 1 = ap height at in
    elim lower [
      | inl put ↦
          let sums : heights (set highs key (Some new)) + height (rank_at highs key) ≡ heights highs + (present + 1) = sum_by-set height highs key (Some new) None lt in
          let now : heights after ≡ heights (set highs key (Some new)) = ap heights put in
          omega arith
      | inr gone ↦
          let sums : heights (set highs key None) + height (rank_at highs key) ≡ heights highs + 0 = sum_by-set height highs key None None lt in
          let now : heights after ≡ heights (set highs key None) = ap heights gone in
          omega arith
    ]

pub lowered_room : (highs after : List (Option KeptHigh)) (place : ℕ) (rank : KeptHigh) → IsLowered highs place rank after → length after ≡ length highs
lowered_room highs after place rank (inl put) = ap length put ∙ length-set highs place (Some rank)
lowered_room highs after place rank (inr gone) = ap length gone ∙ length-set highs place None
