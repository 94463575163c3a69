-- A step on one seat keeps the core of the rule where the seat's new view fits, its ticket is nobody's, and the others still fit.
use Rattle.std.proofs.Common.{◌≡◌, ◌<◌, ◌≢◌, ℕ, ◌≤◌, List, set, length, Contains, Option, Some, None, refl, sym, ap, ◌∙◌, subst, ⊎_elim, arith}
use mathlib.Core.Option as slot
use mathlib.Core.Option.{some, some-injective, some-ne-none}
use mathlib.Core.Logic.{dite}
use native.Mathlib.Decide.{ℕ_discrete}
use lib.ListN.{get_elem?}
use Rattle.atomic_table.proofs.Lists.{at_set, set_else}
use Rattle.turn_lock.specs.declared.facts.Facts.{Facts}
use Rattle.turn_lock.specs.declared.known.Known.{Known}
use Rattle.turn_lock.specs.declared.view.View.{View}
use Rattle.turn_lock.specs.Known.{all_parts, IsPastOf}
use Rattle.turn_lock.specs.Rule.{LockState, total, count_some, parts_of, asked_of, drew, has_turn, queue, nobody, Knows, Fits, Reached, IsAdded, words_of, Shelf, Core, Ruled}
use Rattle.turn_lock.proofs.Growth.{begins_nothing}
use Rattle.turn_lock.proofs.Totals.{total_set, total_below, set_there}

pub none_where : {A : Type 0} (o : Option A) → ((a : A) → o ≡ Some a → ⊥) → o ≡ None
none_where None h = refl
none_where (Some a) h = absurd (h a refl)

pub not_some : {A : Type 0} (o : Option A) (a : A) → o ≡ None → o ≡ Some a → ⊥
not_some o a e d = cc

pub some_same : {A : Type 0} (o : Option A) (a b : A) → o ≡ Some a → o ≡ Some b → a ≡ b
some_same o a b e d = cc

pub count_at_most : {A : Type 0} (o : Option A) → count_some o ≤ 1
count_at_most None = omega arith
count_at_most (Some a) = omega arith

module _ {E : Type 0} where
  pub nobody_is_past : (now : Facts E) → IsPastOf now nobody
  nobody_is_past now = record {
    seen = begins_nothing now.log;
    met = begins_nothing now.asks;
    tally =
        record { failed = omega arith; garbled = omega arith; memory = omega arith };
  }

  -- what is known is the same with and without the turn
  pub knows_turn : (writer seat : ℕ) (now : Facts E) (k : Known E) (held : Option (Facts E)) → Knows writer now seat k
      → Knows writer now seat (record k { held = held })
  knows_turn writer seat now k held x = record {
    name = x.name;
    past = record { seen = x.past.seen; met = x.past.met; tally = x.past.tally };
    role = λ w. let r = x.role w in (r.0, record { seen = r.1.seen; tally = r.1.tally });
    sight = x.sight;
    high = x.high;
    spent = x.spent;
    mine = x.mine;
  }

  pub fits_longer : (serving length more writer seat : ℕ) (now : Facts E) (v : View E) → length ≤ more → Fits serving length writer now seat v
      → Fits serving more writer now seat v
  fits_longer serving length more writer seat now v le x = record {
    ticket = λ k e. let t = x.ticket k e in (t.0, let u = t.1 in omega arith);
    turn = x.turn;
    spent = x.spent;
    knows = x.knows;
    one = x.one;
    other = x.other;
    twin = x.twin;
  }

  pub queue_same : (views : List (View E)) (id : ℕ) (v w : View E) → get_elem? views id ≡ some v → w.ticket ≡ v.ticket
      → queue (set views id w) ≡ queue views
  queue_same views id v w at e = let t = total_set drew views id v w at in let c : count_some w.ticket ≡ count_some v.ticket = ap count_some e in
      omega arith

  pub turns_same : (views : List (View E)) (id : ℕ) (v w : View E) → get_elem? views id ≡ some v → w.known.held ≡ v.known.held
      → total has_turn (set views id w) ≡ total has_turn views
  turns_same views id v w at e = let t = total_set has_turn views id v w at in let c : count_some w.known.held ≡ count_some v.known.held =
      ap count_some e in omega arith

  pub reached_on : (mark : ℕ) (views : List (View E)) (id : ℕ) (v w : View E) → get_elem? views id ≡ some v → v.known.high ≤ w.known.high
      → Reached mark views → Reached mark (set views id w)
  reached_on mark views id v w at le r = dite (ℕ_discrete r.0 id)
      (λ (e : r.0 ≡ id). let same : r.1 ≡ v = some-injective r.1 v (sym r.2 ∙ (ap (λ j. get_elem? views j) e ∙ at)) in
      let h : r.1.known.high ≡ v.known.high = ap (λ (u : View E). u.known.high) same in let m = r.3 in
      (id, w, set_there views id v w at, omega arith))
      (λ (ne : r.0 ≢ id). (r.0, r.1, set_else views id r.0 w ne ∙ r.2, r.3))

  pub added_on : (ask : ℕ) (views : List (View E)) (id : ℕ) (v w : View E) → get_elem? views id ≡ some v
      → (Contains v.known.mine ask → Contains w.known.mine ask) → IsAdded ask views → IsAdded ask (set views id w)
  added_on ask views id v w at more a = dite (ℕ_discrete a.0 id)
      (λ (e : a.0 ≡ id). let same : a.1 ≡ v = some-injective a.1 v (sym a.2 ∙ (ap (λ j. get_elem? views j) e ∙ at)) in
      (id, w, set_there views id v w at, more (subst (λ (u : View E). Contains u.known.mine ask) same a.3)))
      (λ (ne : a.0 ≢ id). (a.0, a.1, set_else views id a.0 w ne ∙ a.2, a.3))

module _ {V E : Type 0} (facts : V → Facts E) where
  -- at most 2^32 passes are in the queue
  pub queue_bounded : (s : LockState V E) (r : Ruled facts s) → queue s.views ≤ all_parts
  queue_bounded s r = let w = r.whole in let b = total_below drew parts_of s.views (λ j v at. dite (ℕ_discrete v.known.parts 0)
      (λ e. let c : count_some v.ticket ≡ 0 = ap count_some ((r.core.each j v at).spent e) in omega arith)
      (λ ne. let c = count_at_most v.ticket in omega arith)) in omega arith

  -- who has the turn has it alone
  pub alone : (serving writer : ℕ) (now : Facts E) (s : LockState V E) (i : ℕ) (v : View E) → Core facts serving writer now s
      → get_elem? s.views i ≡ some v → v.ticket ≡ Some serving
      → (j : ℕ) (u : View E) → j ≢ i → get_elem? s.views j ≡ some u → u.known.held ≡ None
  alone serving writer now s i v core at mine j u ne there = none_where u.known.held
      (λ f e. ne (core.apart j i serving u v there at ((core.each j u there).turn f e).0 mine))

  pub carries : (s : LockState V E) (serving writer : ℕ) (now : Facts E) (serving' writer' : ℕ) (now' : Facts E) (id : ℕ) (v w : View E)
      (ws : List ℕ) (hs : List (slot.Option (Option V)))
      → Core facts serving writer now s
      → get_elem? s.views id ≡ some v
      → ws ≡ words_of serving' (queue (set s.views id w)) (length now'.log)
      → ((j : ℕ) (u : View E) → j ≢ id → get_elem? s.views j ≡ some u → Fits serving' (queue (set s.views id w)) writer' now' j u)
      → Fits serving' (queue (set s.views id w)) writer' now' id w
      → ((j k : ℕ) (u : View E) → j ≢ id → get_elem? s.views j ≡ some u → w.ticket ≡ Some k → u.ticket ≡ Some k → ⊥)
      → Shelf facts (total has_turn (set s.views id w)) now' hs
      → Core facts serving' writer' now' record { words = ws; homes = hs; views = set s.views id w }
  carries s serving writer now serving' writer' now' id v w ws hs core at words others mine nobodys shelf = record {
    words = words;
    each = λ j u e. ⊎_elim
        (λ (t : (j ≡ id) × (w ≡ u)). subst (λ (z : ℕ × View E). Fits serving' (queue (set s.views id w)) writer' now' z.0 z.1)
        (λ i. (sym t.0 i, t.1 i)) mine)
        (λ (t : (j ≢ id) × (get_elem? s.views j ≡ some u)). others j u t.0 t.1)
        (at_set s.views id j w u e);
    apart = λ i j k a b ea eb ta tb. ⊎_elim
        (λ (x : (i ≡ id) × (w ≡ a)). ⊎_elim
        (λ (y : (j ≡ id) × (w ≡ b)). x.0 ∙ sym y.0)
        (λ (y : (j ≢ id) × (get_elem? s.views j ≡ some b)). absurd (nobodys j k b y.0 y.1 (ap (λ (z : View E). z.ticket) x.1 ∙ ta) tb))
        (at_set s.views id j w b eb))
        (λ (x : (i ≢ id) × (get_elem? s.views i ≡ some a)). ⊎_elim
        (λ (y : (j ≡ id) × (w ≡ b)). absurd (nobodys i k a x.0 x.1 (ap (λ (z : View E). z.ticket) y.1 ∙ tb) ta))
        (λ (y : (j ≢ id) × (get_elem? s.views j ≡ some b)). core.apart i j k a b x.1 y.1 ta tb)
        (at_set s.views id j w b eb))
        (at_set s.views id i w a ea);
    shelf = shelf;
  }

  -- a step that leaves what the pass did, and what is in force
  pub rules_on : (s : LockState V E) (r : Ruled facts s) (serving : ℕ) (id : ℕ) (v w : View E) (ws : List ℕ) (hs : List (slot.Option (Option V)))
      → get_elem? s.views id ≡ some v
      → w.known.parts ≡ v.known.parts → w.known.asked ≡ v.known.asked → w.known.high ≡ v.known.high → w.known.mine ≡ v.known.mine
      → Core facts serving r.writer r.now record { words = ws; homes = hs; views = set s.views id w }
      → Ruled facts record { words = ws; homes = hs; views = set s.views id w }
  rules_on s r serving id v w ws hs at parts asked high mine core = record {
    serving = serving;
    writer = r.writer;
    now = r.now;
    core = core;
    whole = let t = total_set parts_of s.views id v w at in let o = r.whole in omega arith;
    asked = let t = total_set asked_of s.views id v w at in let o = r.asked in omega arith;
    reached = reached_on r.now.mark s.views id v w at (omega arith) r.reached;
    mine = λ ask c. added_on ask s.views id v w at (subst (λ (l : List ℕ). Contains l ask) (sym mine)) (r.mine ask c);
  }

  -- a step that leaves the words, the slot, and what the pass knows
  pub stays : (s : LockState V E) (r : Ruled facts s) (id : ℕ) (v w : View E) (ws : List ℕ) → get_elem? s.views id ≡ some v → ws ≡ s.words
      → w.ticket ≡ v.ticket → w.known ≡ v.known → IsPastOf r.now w.one → IsPastOf r.now w.other → (0 < w.other.parts → w.other.name ≡ w.known.name)
      → Ruled facts record { words = ws; homes = s.homes; views = set s.views id w }
  stays s r id v w ws at same ticket known one other twin = let x = r.core.each id v at in let q = queue_same s.views id v w at ticket in
      let le : queue s.views ≤ queue (set s.views id w) = omega arith in
      let held : w.known.held ≡ v.known.held = ap (λ (k : Known E). k.held) known in
      rules_on s r r.serving id v w ws s.homes at (ap (λ (k : Known E). k.parts) known) (ap (λ (k : Known E). k.asked) known)
      (ap (λ (k : Known E). k.high) known) (ap (λ (k : Known E). k.mine) known)
      (carries s r.serving r.writer r.now r.serving r.writer r.now id v w ws s.homes r.core at
      (same ∙ (r.core.words ∙ ap (λ n. words_of r.serving n (length r.now.log)) (sym q)))
      (λ j u ne e. fits_longer r.serving (queue s.views) (queue (set s.views id w)) r.writer j r.now u le (r.core.each j u e))
      record {
        ticket = λ k e. let t = x.ticket k (sym ticket ∙ e) in (t.0, let u = t.1 in omega arith);
        turn = λ f e. let t = x.turn f (sym held ∙ e) in (ticket ∙ t.0, t.1);
        spent = λ none. ticket ∙ x.spent (ap (λ (k : Known E). k.parts) (sym known) ∙ none);
        knows = subst (λ (k : Known E). Knows r.writer r.now id k) (sym known) x.knows;
        one = one;
        other = other;
        twin = twin;
      }
      (λ j k u ne e mine theirs. ne (r.core.apart j id k u v e at theirs (sym ticket ∙ mine)))
      (subst (λ n. Shelf facts n r.now s.homes) (sym (turns_same s.views id v w at held)) r.core.shelf))
