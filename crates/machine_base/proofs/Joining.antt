-- The ranks of all places, however they are parted.
use Rattle.std.proofs.Common.{◌≡◌, ◌≢◌, ◌⊎◌, inl, inr, ℕ, zero, suc, ◌+◌, ◌<◌, ◌≤◌, List, [], ◌∷◌, Option, Some, None, length, set, is_some, replicate, refl, sym, ap, ◌∙◌, subst, arith}
use Rattle.std.specs.declared.cmp.Reverse.{Reverse}
use Rattle.std.specs.List.{count_by}
use Rattle.std.proofs.lemmas.Bool.{cases_eq}
use Rattle.std.proofs.lemmas.List.{length-set, length-replicate, ext_get_or}
use Rattle.std.proofs.lemmas.List.Sums.{sum_by-cons}
use Rattle.std.proofs.lemmas.Option.{none-some}
use Rattle.containers.specs.Ranks.{rank_at}
use Rattle.containers.proofs.Within.{none_ranked}
use Rattle.machine_base.specs.declared.rank.Rank.{Rank}
use Rattle.machine_base.specs.Halves.{either, joined, IsHalved, IsHalvedBut}
use Rattle.machine_base.proofs.Halving.{at_same, at_other, within_at, count_none, one}

pub length-joined : (top : List (Option Rank)) (rest : List (Option (Reverse Rank))) → length (joined top rest) ≡ length top
length-joined [] rest = refl
length-joined (first ∷ top) [] = ap suc (length-joined top [])
length-joined (first ∷ top) (other ∷ rest) = ap suc (length-joined top rest)

pub at-joined : (top : List (Option Rank)) (rest : List (Option (Reverse Rank))) → length rest ≡ length top → (place : ℕ)
    → rank_at (joined top rest) place ≡ either (rank_at top place) (rank_at rest place)
at-joined [] [] same place = refl
at-joined [] (other ∷ rest) same place = absurd (omega arith)
at-joined (first ∷ top) [] same place = absurd (omega arith)
at-joined (first ∷ top) (other ∷ rest) same zero = refl
at-joined (first ∷ top) (other ∷ rest) same (suc place) = at-joined top rest (omega arith) place

-- lists of ranks that have the same at each place
pub same_ranks : (ranks others : List (Option Rank)) → length ranks ≡ length others → ((place : ℕ) → rank_at ranks place ≡ rank_at others place)
    → ranks ≡ others
same_ranks ranks others sizes same = ext_get_or None ranks others sizes (λ place _. same place)

-- where a place has a rank among the first it has that one
pub either_top : (rank : Rank) (first : Option Rank) (other : Option (Reverse Rank)) → first ≡ Some rank → either first other ≡ Some rank
either_top rank first other is = ap (λ (r : Option Rank). either r other) is

either_rest : (rank : Reverse Rank) (first : Option Rank) (other : Option (Reverse Rank)) → first ≡ None → other ≡ Some rank → either first other ≡ Some rank.0
either_rest rank first other none is = ap (λ (r : Option Rank). either r other) none ∙ ap (either None) is

-- a rank of the first that is written
pub joined_top : (top : List (Option Rank)) (rest : List (Option (Reverse Rank))) (place : ℕ) (rank : Rank) → length rest ≡ length top → place < length top
    → joined (set top place (Some rank)) rest ≡ set (joined top rest) place (Some rank)
joined_top top rest place rank same within =
    same_ranks (joined (set top place (Some rank)) rest) (set (joined top rest) place (Some rank))
    (length-joined (set top place (Some rank)) rest ∙ length-set top place (Some rank) ∙ sym (length-set (joined top rest) place (Some rank) ∙ length-joined top rest))
    (λ p. at-joined (set top place (Some rank)) rest (same ∙ sym (length-set top place (Some rank))) p ∙ at p (cases_eq p place))
  where
    at : (p : ℕ) → (p ≡ place) ⊎ (p ≢ place)
        → either (rank_at (set top place (Some rank)) p) (rank_at rest p) ≡ rank_at (set (joined top rest) place (Some rank)) p
    at p (inl e) =
        let inside : place < length (joined top rest) = rw length-joined within in
        either_top rank (rank_at (set top place (Some rank)) p) (rank_at rest p) (ap (rank_at (set top place (Some rank))) e ∙ at_same top place (Some rank) within)
        ∙ sym (ap (rank_at (set (joined top rest) place (Some rank))) e ∙ at_same (joined top rest) place (Some rank) inside)
    at p (inr other) =
        ap (λ (r : Option Rank). either r (rank_at rest p)) (at_other top place p (Some rank) other)
        ∙ sym (at_other (joined top rest) place p (Some rank) other ∙ at-joined top rest same p)

-- a rank of the others that is written, where the place has none among the first
pub joined_rest : (top : List (Option Rank)) (rest : List (Option (Reverse Rank))) (place : ℕ) (rank : Reverse Rank) → length rest ≡ length top
    → place < length top → rank_at top place ≡ None → joined top (set rest place (Some rank)) ≡ set (joined top rest) place (Some rank.0)
joined_rest top rest place rank same within none =
    same_ranks (joined top (set rest place (Some rank))) (set (joined top rest) place (Some rank.0))
    (length-joined top (set rest place (Some rank)) ∙ sym (length-set (joined top rest) place (Some rank.0) ∙ length-joined top rest))
    (λ p. at-joined top (set rest place (Some rank)) (length-set rest place (Some rank) ∙ same) p ∙ at p (cases_eq p place))
  where
    at : (p : ℕ) → (p ≡ place) ⊎ (p ≢ place)
        → either (rank_at top p) (rank_at (set rest place (Some rank)) p) ≡ rank_at (set (joined top rest) place (Some rank.0)) p
    at p (inl e) =
        let inside : place < length (joined top rest) = rw length-joined within in
        let room : place < length rest = omega arith in
        either_rest rank (rank_at top p) (rank_at (set rest place (Some rank)) p) (ap (rank_at top) e ∙ none) (ap (rank_at (set rest place (Some rank))) e ∙ at_same rest place (Some rank) room)
        ∙ sym (ap (rank_at (set (joined top rest) place (Some rank.0))) e ∙ at_same (joined top rest) place (Some rank.0) inside)
    at p (inr other) =
        ap (either (rank_at top p)) (at_other rest place p (Some rank) other)
        ∙ sym (at_other (joined top rest) place p (Some rank.0) other ∙ at-joined top rest same p)

-- a rank that moves from the others to the first
pub joined_raised : (top : List (Option Rank)) (rest : List (Option (Reverse Rank))) (place : ℕ) (rank : Reverse Rank) → length rest ≡ length top
    → rank_at top place ≡ None → rank_at rest place ≡ Some rank → joined (set top place (Some rank.0)) (set rest place None) ≡ joined top rest
joined_raised top rest place rank same none is =
    same_ranks (joined (set top place (Some rank.0)) (set rest place None)) (joined top rest)
    (length-joined (set top place (Some rank.0)) (set rest place None) ∙ length-set top place (Some rank.0) ∙ sym (length-joined top rest))
    (λ p. at-joined (set top place (Some rank.0)) (set rest place None) (length-set rest place None ∙ same ∙ sym (length-set top place (Some rank.0))) p ∙ at p (cases_eq p place) ∙ sym (at-joined top rest same p))
  where
    at : (p : ℕ) → (p ≡ place) ⊎ (p ≢ place)
        → either (rank_at (set top place (Some rank.0)) p) (rank_at (set rest place None) p) ≡ either (rank_at top p) (rank_at rest p)
    at p (inl e) =
        let within : place < length top = let w = within_at rest place rank is in omega arith in
        either_top rank.0 (rank_at (set top place (Some rank.0)) p) (rank_at (set rest place None) p) (ap (rank_at (set top place (Some rank.0))) e ∙ at_same top place (Some rank.0) within)
        ∙ sym (either_rest rank (rank_at top p) (rank_at rest p) (ap (rank_at top) e ∙ none) (ap (rank_at rest) e ∙ is))
    at p (inr other) =
        ap (λ (r : Option Rank). either r (rank_at (set rest place None) p)) (at_other top place p (Some rank.0) other)
        ∙ ap (either (rank_at top p)) (at_other rest place p None other)

-- a rank that moves from the first to the others
pub joined_lowered : (top : List (Option Rank)) (rest : List (Option (Reverse Rank))) (place : ℕ) (rank : Rank) → length rest ≡ length top
    → rank_at top place ≡ Some rank → joined (set top place None) (set rest place (Some (record { 0 = rank }))) ≡ joined top rest
joined_lowered top rest place rank same is =
    same_ranks (joined (set top place None) (set rest place (Some (record { 0 = rank })))) (joined top rest)
    (length-joined (set top place None) (set rest place (Some (record { 0 = rank }))) ∙ length-set top place None ∙ sym (length-joined top rest))
    (λ p. at-joined (set top place None) (set rest place (Some (record { 0 = rank }))) (length-set rest place (Some (record { 0 = rank })) ∙ same ∙ sym (length-set top place None)) p ∙ at p (cases_eq p place) ∙ sym (at-joined top rest same p))
  where
    at : (p : ℕ) → (p ≡ place) ⊎ (p ≢ place)
        → either (rank_at (set top place None) p) (rank_at (set rest place (Some (record { 0 = rank }))) p) ≡ either (rank_at top p) (rank_at rest p)
    at p (inl e) =
        let within = within_at top place rank is in
        let room : place < length rest = omega arith in
        either_rest (record { 0 = rank }) (rank_at (set top place None) p) (rank_at (set rest place (Some (record { 0 = rank }))) p) (ap (rank_at (set top place None)) e ∙ at_same top place None within) (ap (rank_at (set rest place (Some (record { 0 = rank })))) e ∙ at_same rest place (Some (record { 0 = rank })) room)
        ∙ sym (either_top rank (rank_at top p) (rank_at rest p) (ap (rank_at top) e ∙ is))
    at p (inr other) =
        ap (λ (r : Option Rank). either r (rank_at (set rest place (Some (record { 0 = rank }))) p)) (at_other top place p None other)
        ∙ ap (either (rank_at top p)) (at_other rest place p (Some (record { 0 = rank })) other)

-- as many ranks as among the first and the others together
pub count-joined : (top : List (Option Rank)) (rest : List (Option (Reverse Rank))) → length rest ≡ length top
    → ((place : ℕ) (a : Rank) (b : Reverse Rank) → rank_at top place ≡ Some a → rank_at rest place ≡ Some b → ⊥)
    → count_by is_some (joined top rest) ≡ count_by is_some top + count_by is_some rest
count-joined [] [] same apart = refl
count-joined [] (other ∷ rest) same apart = absurd (omega arith)
count-joined (first ∷ top) [] same apart = absurd (omega arith)
count-joined (first ∷ top) (other ∷ rest) same apart =
    let more = count-joined top rest (omega arith) (λ place. apart (suc place)) in
    let here = of_either first other (apart 0) in
    omega (arith, sum_by-cons (λ (r : Option Rank). one r) (either first other) (joined top rest), sum_by-cons (λ (r : Option Rank). one r) first top, sum_by-cons (λ (r : Option (Reverse Rank)). one r) other rest)
  where
    of_either : (a : Option Rank) (b : Option (Reverse Rank)) → ((x : Rank) (y : Reverse Rank) → a ≡ Some x → b ≡ Some y → ⊥) → one (either a b) ≡ one a + one b
    of_either None None clash = refl
    of_either None (Some y) clash = refl
    of_either (Some x) None clash = refl
    of_either (Some x) (Some y) clash = absurd (clash x y refl refl)

-- where some ranks are counted, one has a place
pub some_counted : {T : Type 0} (ranks : List (Option T)) → (count_by is_some ranks ≡ 0) ⊎ ((place : ℕ) × (rank : T) × (rank_at ranks place ≡ Some rank))
some_counted [] = inl refl
some_counted {T = T} (Some rank ∷ ranks) = inr (0, rank, refl)
some_counted {T = T} (None ∷ ranks) =
    elim (some_counted ranks) as (λ _. (count_by is_some (None ∷ ranks) ≡ 0) ⊎ ((place : ℕ) × (rank : T) × (rank_at (None ∷ ranks) place ≡ Some rank))) [
      | inl none ↦ inl (sum_by-cons (λ (r : Option T). one r) None ranks ∙ (let e : 0 + count_by is_some ranks ≡ 0 = omega arith in e))
      | inr found ↦ inr (suc found.0, found.1, found.2)
    ]

pub joined_none : (room : ℕ) (top : List (Option Rank)) (rest : List (Option (Reverse Rank))) → top ≡ replicate room None → rest ≡ replicate room None
    → joined top rest ≡ replicate room None
joined_none room top rest top_is rest_is =
    ap (λ (t : List (Option Rank)). joined t rest) top_is ∙ ap (joined (replicate room None)) rest_is ∙ of_none room
  where
    of_none : (n : ℕ) → joined (replicate n None) (replicate n None) ≡ replicate n None
    of_none zero = refl
    of_none (suc n) = ap (λ (ranks : List (Option Rank)). None ∷ ranks) (of_none n)

-- two that change sides
pub joined_exchanged : (top : List (Option Rank)) (rest : List (Option (Reverse Rank))) (key lastkey : ℕ) (best : Reverse Rank) (last : Rank)
    → length rest ≡ length top → rank_at top key ≡ None → rank_at rest key ≡ Some best → rank_at top lastkey ≡ Some last
    → joined (set (set top key (Some best.0)) lastkey None) (set (set rest key None) lastkey (Some (record { 0 = last }))) ≡ joined top rest
joined_exchanged top rest key lastkey best last same none at_rest at_top =
    let apart : lastkey ≢ key = λ e. none-some last (sym none ∙ ap (rank_at top) (sym e) ∙ at_top) in
    joined_lowered (set top key (Some best.0)) (set rest key None) lastkey last (length-set rest key None ∙ same ∙ sym (length-set top key (Some best.0))) (at_other top key lastkey (Some best.0) apart ∙ at_top)
    ∙ joined_raised top rest key best same none at_rest

-- ---- along equations
pub same_joined : (top others : List (Option Rank)) (rest left : List (Option (Reverse Rank))) → top ≡ others → rest ≡ left
    → joined top rest ≡ joined others left
same_joined top others rest left e e' = ap (λ (t : List (Option Rank)). joined t rest) e ∙ ap (joined others) e'

pub same_halved : (k : ℕ) (top others : List (Option Rank)) (rest left : List (Option (Reverse Rank))) → top ≡ others → rest ≡ left → IsHalved k others left
    → IsHalved k top rest
same_halved k top others rest left e e' halved =
    subst (λ (t : List (Option Rank)). IsHalved k t rest) (sym e) (subst (λ (r : List (Option (Reverse Rank))). IsHalved k others r) (sym e') halved)

pub same_halved_but : (changed k : ℕ) (top others : List (Option Rank)) (rest left : List (Option (Reverse Rank))) → top ≡ others → rest ≡ left
    → IsHalvedBut changed k others left → IsHalvedBut changed k top rest
same_halved_but changed k top others rest left e e' halved =
    subst (λ (t : List (Option Rank)). IsHalvedBut changed k t rest) (sym e) (subst (λ (r : List (Option (Reverse Rank))). IsHalvedBut changed k others r) (sym e') halved)

-- ---- where nobody has a rank
pub halved_none : (k room : ℕ) (top : List (Option Rank)) (rest : List (Option (Reverse Rank))) → 1 ≤ k → top ≡ replicate room None
    → rest ≡ replicate room None → IsHalved k top rest
halved_none k room top rest positive top_is rest_is =
    let counted : count_by is_some (replicate {A = Option Rank} room None) ≡ 0 = count_none (replicate room None) (none_ranked {T = Rank} room) in
    same_halved k top (replicate room None) rest (replicate room None) top_is rest_is (record {
      positive = positive;
      same_room = length-replicate room None ∙ sym (length-replicate room None);
      apart = λ place a b at_top at_rest. none-some a (sym (none_ranked room place) ∙ at_top);
      before = λ p q a b at_top at_rest. absurd (none-some a (sym (none_ranked room p) ∙ at_top));
      few = omega (arith, counted);
      full = λ q b at. absurd (none-some b (sym (none_ranked room q) ∙ at));
    })
