-- The order of a heap: what a node leaves that rises or sinks, and that the first node is the greatest.
use Rattle.std.proofs.Common.{◌≡◌, ◌≢◌, ◌⊎◌, inl, inr, ℕ, zero, suc, ◌+◌, ◌*◌, ◌<◌, ◌≤◌, Bool, true, false, List, [], ◌∷◌, ◌++◌, Option, Some, None, length, set, refl, sym, ap, ◌∙◌, subst, arith, length-append}
use Rattle.std.specs.declared.cmp.Ordering.{Ordering}
use Rattle.std.specs.declared.cmp.Ordering.TheVariants.{Less, Equal, Greater}
use Rattle.std.specs.Cmp.{IsTotalOrder, on_total, tied_itself}
use Rattle.std.specs.Cmp.Lexicographic.{options_total}
use Rattle.std.specs.Ordering.{is_lt, is_gt, ordering_reverse}
use Rattle.std.proofs.lemmas.Bool.{cases_lt, cases_eq, false≢true}
use Rattle.std.proofs.lemmas.Cmp.{upto}
use Rattle.std.proofs.lemmas.List.{length-set}
use Rattle.std.proofs.lemmas.Option.{slice_get_past}
use Rattle.containers.specs.declared.tree.Ranked.{Ranked}
use Rattle.containers.specs.Tree.{node_at, above, node_cmp, IsUpTo, IsHeap, IsLoose, IsRising, IsSinking, CoversUnder, IsGreatestUnder, IsExchanged}
use Rattle.containers.proofs.Getting.{get_set_other, get_before}

not_above : (r : Ordering) → is_lt r ≡ true → is_gt r ≡ false
not_above Less e = refl
not_above Equal e = refl
not_above Greater e = absurd (false≢true e)

turned : (r : Ordering) → is_lt r ≡ false → is_gt (ordering_reverse r) ≡ false
turned Less e = absurd (false≢true (sym e))
turned Equal e = refl
turned Greater e = refl

module _ {T : Type 0} (cmp : T → T → Ordering) (total : IsTotalOrder cmp) where
  nodes_total : IsTotalOrder (node_cmp cmp)
  nodes_total = options_total (on_total (λ (node : Ranked T). node.rank) total)

  -- a node's rank is no greater than another one's
  abbrev UpTo : Option (Ranked T) → Option (Ranked T) → Type 0
  UpTo a b = is_gt (node_cmp cmp a b) ≡ false

  itself : (a : Option (Ranked T)) → UpTo a a
  itself a = ap is_gt (tied_itself nodes_total a)

  through : (a b c : Option (Ranked T)) → UpTo a b → UpTo b c → UpTo a c
  through a b c = upto nodes_total a b c

  none_upto : (a : Option (Ranked T)) → UpTo None a
  none_upto None = refl
  none_upto (Some a) = refl

  same_upto : (a x b y : Option (Ranked T)) → x ≡ a → y ≡ b → UpTo a b → UpTo x y
  same_upto a x b y one other order = ap (λ n. is_gt (node_cmp cmp n y)) one ∙ ap (λ n. is_gt (node_cmp cmp a n)) other ∙ order

  -- what a test says
  pub less_upto : (a b : Option (Ranked T)) (test : Bool) → test ≡ is_lt (node_cmp cmp a b) → test ≡ true → UpTo a b
  less_upto a b test is holds = not_above (node_cmp cmp a b) (sym is ∙ holds)

  pub not_less : (a b : Option (Ranked T)) (test : Bool) → test ≡ is_lt (node_cmp cmp a b) → test ≡ false → UpTo b a
  not_less a b test is fails = ap is_gt (nodes_total.antisymm b a) ∙ turned (node_cmp cmp a b) (sym is ∙ fails)

  -- ---- a node rises
  pub rising_on : (place up : ℕ) (nodes after : List (Ranked T)) → IsRising cmp place nodes → 1 ≤ place → up ≡ above place → IsUpTo cmp nodes up place
      → IsExchanged up place nodes after → IsRising cmp up after
  rising_on place up nodes after rising positive is order exchanged =
      let size = exchanged.size in
      let within = rising.within in
      record {
        within = omega arith;
        others = λ c below apart. others c below apart (cases_eq c place) (cases_eq (above c) up) (cases_eq (above c) place);
        around = λ c below under high. around c below under high (cases_eq c place);
      }
    where
      node : ℕ → Option (Ranked T)
      node at = node_at nodes at

      others : (c : ℕ) → 1 ≤ c → c ≢ up → (c ≡ place) ⊎ (c ≢ place) → (above c ≡ up) ⊎ (above c ≢ up) → (above c ≡ place) ⊎ (above c ≢ place)
          → IsUpTo cmp after c (above c)
      others c below apart (inl e) _ _ =
          let up_is : above c ≡ up = ap above e ∙ sym is in
          same_upto (node_at nodes up) (node_at after c) (node_at nodes place) (node_at after (above c)) (ap (node_at after) e ∙ exchanged.at_other) (ap (node_at after) up_is ∙ exchanged.at_one) order
      others c below apart (inr n) (inl e) _ =
          let old = rising.others c below n in
          same_upto (node_at nodes c) (node_at after c) (node_at nodes place) (node_at after (above c)) (exchanged.rest c apart n) (ap (node_at after) e ∙ exchanged.at_one)
          (through (node_at nodes c) (node_at nodes up) (node_at nodes place) (same_upto (node_at nodes c) (node_at nodes c) (node_at nodes (above c)) (node_at nodes up) refl (ap (node_at nodes) (sym e)) old) order)
      others c below apart (inr n) (inr _) (inl e) =
          let old = rising.around c below e positive in
          same_upto (node_at nodes c) (node_at after c) (node_at nodes (above place)) (node_at after (above c)) (exchanged.rest c apart n)
          (ap (node_at after) e ∙ exchanged.at_other ∙ ap (node_at nodes) is) old
      others c below apart (inr n) (inr not_up) (inr not_place) =
          same_upto (node_at nodes c) (node_at after c) (node_at nodes (above c)) (node_at after (above c)) (exchanged.rest c apart n) (exchanged.rest (above c) not_up not_place) (rising.others c below n)

      around : (c : ℕ) → 1 ≤ c → above c ≡ up → 1 ≤ up → (c ≡ place) ⊎ (c ≢ place) → IsUpTo cmp after c (above up)
      around c below under high (inl e) =
          let not_up : above up ≢ up = λ h. absurd (omega arith) in
          let not_place : above up ≢ place = λ h. absurd (omega arith) in
          let lower : up ≢ place = λ h. absurd (omega arith) in
          same_upto (node_at nodes up) (node_at after c) (node_at nodes (above up)) (node_at after (above up)) (ap (node_at after) e ∙ exchanged.at_other) (exchanged.rest (above up) not_up not_place)
          (rising.others up high lower)
      around c below under high (inr n) =
          let not_up : above up ≢ up = λ h. absurd (omega arith) in
          let not_place : above up ≢ place = λ h. absurd (omega arith) in
          let lower : up ≢ place = λ h. absurd (omega arith) in
          let apart : c ≢ up = λ h. absurd (omega arith) in
          same_upto (node_at nodes c) (node_at after c) (node_at nodes (above up)) (node_at after (above up)) (exchanged.rest c apart n) (exchanged.rest (above up) not_up not_place)
          (through (node_at nodes c) (node_at nodes up) (node_at nodes (above up))
          (same_upto (node_at nodes c) (node_at nodes c) (node_at nodes (above c)) (node_at nodes up) refl (ap (node_at nodes) (sym under)) (rising.others c below n)) (rising.others up high lower))

  -- it has risen
  pub risen : (place : ℕ) (nodes : List (Ranked T)) → IsRising cmp place nodes → (1 ≤ place → IsUpTo cmp nodes place (above place)) → IsHeap cmp nodes
  risen place nodes rising order c below =
      elim (cases_eq c place) as (λ _. IsUpTo cmp nodes c (above c)) [
        | inl e ↦ subst (λ (at : ℕ). IsUpTo cmp nodes at (above at)) (sym e) (order (omega arith))
        | inr n ↦ rising.others c below n
      ]

  -- ---- a node sinks
  pub sinking_on : (place down : ℕ) (nodes after : List (Ranked T)) → IsSinking cmp place nodes → IsGreatestUnder cmp nodes place down → IsUpTo cmp nodes place down
      → IsExchanged place down nodes after → IsSinking cmp down after
  sinking_on place down nodes after sinking under order exchanged =
      let size = exchanged.size in
      let within = under.within in
      record {
        within = omega arith;
        others = λ c below apart. others c below apart (cases_eq c place) (cases_eq c down) (cases_eq (above c) place);
        around = λ c below beneath high. around c below beneath;
      }
    where
      lower : place ≢ down
      lower = λ h. let is = under.is in let positive = under.positive in absurd (omega arith)

      others : (c : ℕ) → 1 ≤ c → above c ≢ down → (c ≡ place) ⊎ (c ≢ place) → (c ≡ down) ⊎ (c ≢ down) → (above c ≡ place) ⊎ (above c ≢ place)
          → IsUpTo cmp after c (above c)
      others c below apart (inl e) _ _ =
          let high : 1 ≤ place = omega arith in
          let not_place : above c ≢ place = λ h. absurd (omega arith) in
          same_upto (node_at nodes down) (node_at after c) (node_at nodes (above place)) (node_at after (above c)) (ap (node_at after) e ∙ exchanged.at_one)
          (exchanged.rest (above c) not_place apart ∙ ap (λ at. node_at nodes (above at)) e) (sinking.around down under.positive under.is high)
      others c below apart (inr _) (inl e) _ =
          let up_is : above c ≡ place = ap above e ∙ under.is in
          same_upto (node_at nodes place) (node_at after c) (node_at nodes down) (node_at after (above c)) (ap (node_at after) e ∙ exchanged.at_other) (ap (node_at after) up_is ∙ exchanged.at_one) order
      others c below apart (inr n) (inr m) (inl e) =
          same_upto (node_at nodes c) (node_at after c) (node_at nodes down) (node_at after (above c)) (exchanged.rest c n m) (ap (node_at after) e ∙ exchanged.at_one) (under.covers c below e)
      others c below apart (inr n) (inr m) (inr k) =
          same_upto (node_at nodes c) (node_at after c) (node_at nodes (above c)) (node_at after (above c)) (exchanged.rest c n m) (exchanged.rest (above c) k apart) (sinking.others c below k)

      around : (c : ℕ) → 1 ≤ c → above c ≡ down → IsUpTo cmp after c (above down)
      around c below beneath =
          let is = under.is in
          let positive = under.positive in
          let n : c ≢ place = λ h. absurd (omega arith) in
          let m : c ≢ down = λ h. absurd (omega arith) in
          let k : above c ≢ place = λ h. lower (sym h ∙ beneath) in
          same_upto (node_at nodes c) (node_at after c) (node_at nodes (above c)) (node_at after (above down)) (exchanged.rest c n m)
          (ap (node_at after) under.is ∙ exchanged.at_one ∙ ap (node_at nodes) (sym beneath)) (sinking.others c below k)

  -- it has sunk
  pub sunk : (place : ℕ) (nodes : List (Ranked T)) → IsSinking cmp place nodes → CoversUnder cmp nodes place place → IsHeap cmp nodes
  sunk place nodes sinking covers c below =
      elim (cases_eq (above c) place) as (λ _. IsUpTo cmp nodes c (above c)) [
        | inl e ↦ subst (λ (at : ℕ). IsUpTo cmp nodes c at) (sym e) (covers c below e)
        | inr n ↦ sinking.others c below n
      ]

  -- none is under the last places
  pub covers_none : (place : ℕ) (nodes : List (Ranked T)) (other : ℕ) → length nodes ≤ 2 * place + 1 → CoversUnder cmp nodes place other
  covers_none place nodes other few c below under =
      let past : length nodes ≤ c = omega arith in
      same_upto None (node_at nodes c) (node_at nodes other) (node_at nodes other) (slice_get_past nodes c past) refl (none_upto (node_at nodes other))

  -- a greatest one under a place that is no greater covers none but those that are no greater
  pub covers_less : (place down : ℕ) (nodes : List (Ranked T)) → IsGreatestUnder cmp nodes place down → IsUpTo cmp nodes down place → CoversUnder cmp nodes place place
  covers_less place down nodes under order c below beneath = through (node_at nodes c) (node_at nodes down) (node_at nodes place) (under.covers c below beneath) order

  -- of two under a place the greater, or the first where it is alone
  pub second_under : (place : ℕ) (nodes : List (Ranked T)) → 2 * place + 2 < length nodes → IsUpTo cmp nodes (2 * place + 1) (2 * place + 2)
      → IsGreatestUnder cmp nodes place (2 * place + 2)
  second_under place nodes within order = record {
    within = within;
    positive = omega arith;
    is = omega arith;
    covers = λ c below under. at c (cases_eq c (2 * place + 1)) below under;
  }
    where
      at : (c : ℕ) → (c ≡ 2 * place + 1) ⊎ (c ≢ 2 * place + 1) → 1 ≤ c → above c ≡ place → IsUpTo cmp nodes c (2 * place + 2)
      at c (inl e) below under = subst (λ (i : ℕ). IsUpTo cmp nodes i (2 * place + 2)) (sym e) order
      at c (inr n) below under =
          let e : c ≡ 2 * place + 2 = omega arith in
          subst (λ (i : ℕ). IsUpTo cmp nodes i (2 * place + 2)) (sym e) (itself (node_at nodes (2 * place + 2)))

  pub first_under : (place : ℕ) (nodes : List (Ranked T)) → 2 * place + 1 < length nodes
      → (2 * place + 2 < length nodes → IsUpTo cmp nodes (2 * place + 2) (2 * place + 1)) → IsGreatestUnder cmp nodes place (2 * place + 1)
  first_under place nodes within order = record {
    within = within;
    positive = omega arith;
    is = omega arith;
    covers = λ c below under. at c (cases_eq c (2 * place + 1)) (cases_lt c (length nodes)) below under;
  }
    where
      at : (c : ℕ) → (c ≡ 2 * place + 1) ⊎ (c ≢ 2 * place + 1) → (c < length nodes) ⊎ (length nodes ≤ c) → 1 ≤ c → above c ≡ place
          → IsUpTo cmp nodes c (2 * place + 1)
      at c (inl e) _ below under = subst (λ (i : ℕ). IsUpTo cmp nodes i (2 * place + 1)) (sym e) (itself (node_at nodes (2 * place + 1)))
      at c (inr n) (inl here) below under =
          let e : c ≡ 2 * place + 2 = omega arith in
          subst (λ (i : ℕ). IsUpTo cmp nodes i (2 * place + 1)) (sym e) (order (omega arith))
      at c (inr n) (inr past) below under =
          same_upto None (node_at nodes c) (node_at nodes (2 * place + 1)) (node_at nodes (2 * place + 1)) (slice_get_past nodes c past) refl (none_upto (node_at nodes (2 * place + 1)))

  -- ---- a node that may have any rank
  pub loose_rises : (place up : ℕ) (nodes : List (Ranked T)) → IsLoose cmp place nodes → 1 ≤ place → up ≡ above place → IsUpTo cmp nodes up place
      → IsRising cmp place nodes
  loose_rises place up nodes loose positive is order = record {
    within = loose.within;
    others = λ c below apart. at c below apart (cases_eq (above c) place);
    around = loose.around;
  }
    where
      at : (c : ℕ) → 1 ≤ c → c ≢ place → (above c ≡ place) ⊎ (above c ≢ place) → IsUpTo cmp nodes c (above c)
      at c below apart (inl e) =
          same_upto (node_at nodes c) (node_at nodes c) (node_at nodes place) (node_at nodes (above c)) refl (ap (node_at nodes) e)
          (through (node_at nodes c) (node_at nodes (above place)) (node_at nodes place) (loose.around c below e positive)
          (subst (λ (i : ℕ). IsUpTo cmp nodes i place) is order))
      at c below apart (inr n) = loose.others c below apart n

  pub loose_sinks : (place : ℕ) (nodes : List (Ranked T)) → IsLoose cmp place nodes → (1 ≤ place → IsUpTo cmp nodes place (above place)) → IsSinking cmp place nodes
  loose_sinks place nodes loose order = record {
    within = loose.within;
    others = λ c below apart. at c below apart (cases_eq c place);
    around = loose.around;
  }
    where
      at : (c : ℕ) → 1 ≤ c → above c ≢ place → (c ≡ place) ⊎ (c ≢ place) → IsUpTo cmp nodes c (above c)
      at c below apart (inl e) = subst (λ (i : ℕ). IsUpTo cmp nodes i (above i)) (sym e) (order (omega arith))
      at c below apart (inr n) = loose.others c below n apart

  -- the node at a place is what it was, or has left
  abbrev Stays : List (Ranked T) → List (Ranked T) → ℕ → Type 0
  Stays nodes after other = (node_at after other ≡ node_at nodes other) ⊎ ((node_at after other ≡ None) × (length after ≤ other))

  -- where one node alone is another one
  pub loose_but : (place : ℕ) (nodes after : List (Ranked T)) → IsHeap cmp nodes → place < length after
      → ((other : ℕ) → other ≢ place → Stays nodes after other)
      → IsLoose cmp place after
  loose_but place nodes after heap within same = record {
    within = within;
    others = λ c below apart under. at c below (same c apart) (same (above c) under);
    around = λ c below under high.
        let apart : c ≢ place = λ h. absurd (omega arith) in
        let higher : above place ≢ place = λ h. absurd (omega arith) in
        near c below under high (same c apart) (same (above place) higher);
  }
    where
      none_at : (c other : ℕ) → node_at after c ≡ None → IsUpTo cmp after c other
      none_at c other none = same_upto None (node_at after c) (node_at after other) (node_at after other) none refl (none_upto (node_at after other))

      at : (c : ℕ) → 1 ≤ c → Stays nodes after c → Stays nodes after (above c) → IsUpTo cmp after c (above c)
      at c below (inl e) (inl f) = same_upto (node_at nodes c) (node_at after c) (node_at nodes (above c)) (node_at after (above c)) e f (heap c below)
      at c below (inr none) _ = none_at c (above c) none.0
      at c below (inl e) (inr none) = none_at c (above c) (slice_get_past after c (let past = none.1 in omega arith))

      near : (c : ℕ) → 1 ≤ c → above c ≡ place → 1 ≤ place → Stays nodes after c → Stays nodes after (above place) → IsUpTo cmp after c (above place)
      near c below under high (inl e) (inl f) =
          same_upto (node_at nodes c) (node_at after c) (node_at nodes (above place)) (node_at after (above place)) e f
          (through (node_at nodes c) (node_at nodes place) (node_at nodes (above place)) (subst (λ (i : ℕ). IsUpTo cmp nodes c i) under (heap c below)) (heap place high))
      near c below under high (inr none) _ = none_at c (above place) none.0
      near c below under high (inl e) (inr none) = absurd (let past = none.1 in omega arith)

  -- another node is written at a place
  pub loose_set : (place : ℕ) (nodes : List (Ranked T)) (node : Ranked T) → IsHeap cmp nodes → place < length nodes → IsLoose cmp place (set nodes place node)
  loose_set place nodes node heap within =
      let size = length-set nodes place node in
      loose_but place nodes (set nodes place node) heap (omega arith) (λ other apart. inl (get_set_other nodes place other node apart))

  -- a node comes last
  pub loose_last : (nodes : List (Ranked T)) (node : Ranked T) → IsHeap cmp nodes → IsLoose cmp (length nodes) (nodes ++ node ∷ [])
  loose_last nodes node heap =
      let size : length (nodes ++ node ∷ []) ≡ length nodes + 1 = omega (arith, length-append nodes (node ∷ [])) in
      loose_but (length nodes) nodes (nodes ++ node ∷ []) heap (omega arith) (λ other apart. inl (get_before nodes node other apart))

  -- the last node went to a place, and leaves
  pub loose_front : (place : ℕ) (nodes exchanged front : List (Ranked T)) (last : Ranked T) → IsHeap cmp nodes → IsExchanged place (length front) nodes exchanged
      → exchanged ≡ front ++ last ∷ [] → place < length front → IsLoose cmp place front
  loose_front place nodes exchanged front last heap swapped is within = loose_but place nodes front heap within (λ other apart. at other apart (cases_lt other (length front)))
    where
      at : (other : ℕ) → other ≢ place → (other < length front) ⊎ (length front ≤ other)
          → Stays nodes front other
      at other apart (inl here) =
          let before : other ≢ length front = λ h. absurd (omega arith) in
          inl (sym (get_before front last other before) ∙ ap (λ (ns : List (Ranked T)). node_at ns other) (sym is) ∙ swapped.rest other apart before)
      at other apart (inr past) = inr (slice_get_past front other past, past)

  -- and where the place was the last one
  pub heap_front : (place : ℕ) (nodes exchanged front : List (Ranked T)) (last : Ranked T) → IsHeap cmp nodes → IsExchanged place (length front) nodes exchanged
      → exchanged ≡ front ++ last ∷ [] → length front ≤ place → place < length exchanged → IsHeap cmp front
  heap_front place nodes exchanged front last heap swapped is past within c below = at (cases_lt c (length front))
    where
      same : (other : ℕ) → other < length front → node_at front other ≡ node_at nodes other
      same other here =
          let before : other ≢ length front = λ h. absurd (omega arith) in
          let apart : other ≢ place = λ h. absurd (omega arith) in
          sym (get_before front last other before) ∙ ap (λ (ns : List (Ranked T)). node_at ns other) (sym is) ∙ swapped.rest other apart before

      at : (c < length front) ⊎ (length front ≤ c) → IsUpTo cmp front c (above c)
      at (inl here) =
          same_upto (node_at nodes c) (node_at front c) (node_at nodes (above c)) (node_at front (above c)) (same c here) (same (above c) (omega arith)) (heap c below)
      at (inr gone) = same_upto None (node_at front c) (node_at front (above c)) (node_at front (above c)) (slice_get_past front c gone) refl (none_upto (node_at front (above c)))

  -- ---- the first node
  pub upto_first : (turns : ℕ) (nodes : List (Ranked T)) → IsHeap cmp nodes → (place : ℕ) → place ≤ turns → IsUpTo cmp nodes place 0
  upto_first zero nodes heap place near =
      let e : place ≡ 0 = omega arith in
      subst (λ (i : ℕ). IsUpTo cmp nodes i 0) (sym e) (itself (node_at nodes 0))
  upto_first (suc turns) nodes heap place near =
      elim (cases_lt place 1) as (λ _. IsUpTo cmp nodes place 0) [
        | inl first ↦
            let e : place ≡ 0 = omega arith in
            subst (λ (i : ℕ). IsUpTo cmp nodes i 0) (sym e) (itself (node_at nodes 0))
        | inr below ↦
            through (node_at nodes place) (node_at nodes (above place)) (node_at nodes 0) (heap place below) (upto_first turns nodes heap (above place) (omega arith))
      ]

  not_greater : (a b : T) → is_gt (cmp a b) ≡ false → cmp a b ≢ Greater
  not_greater a b upto greater = false≢true (sym upto ∙ ap is_gt greater)

  pub none_greater : (nodes : List (Ranked T)) (place : ℕ) (node top : Ranked T) → IsHeap cmp nodes → node_at nodes place ≡ Some node → node_at nodes 0 ≡ Some top
      → cmp node.rank top.rank ≢ Greater
  none_greater nodes place node top heap there first =
      not_greater node.rank top.rank
      (same_upto (node_at nodes place) (Some node) (node_at nodes 0) (Some top) (sym there) (sym first) (upto_first place nodes heap place (omega arith)))
