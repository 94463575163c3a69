-- The steps of a turn keep the rule: a ticket is drawn, watched until it is served, the new log is counted, and the turn passed on.
use Rattle.std.proofs.Common.{◌≡◌, ◌≢◌, ◌⊎◌, ℕ, ◌+◌, ◌%◌, ◌^◌, ◌<◌, ◌≤◌, List, [], ◌∷◌, set, length, Contains, true, false, Bool, Option, Some, None, refl, sym, ap, ◌∙◌, subst, ⊎_elim, inl, inr, arith, le_refl, length-append, length-drop}
use Rattle.std.specs.Prelude.{slice_set, slice_index, nat_lt, if◌then◌else◌, unwrap_or}
use Rattle.std.proofs.lemmas.Bool.{ltb-false}
use Rattle.std.proofs.lemmas.List.Elements.{Contains-append_left, Contains-append_right, Contains-append_cases}
use mathlib.Core.Option as slot
use mathlib.Core.Option.{some, some-injective, some-ne-none}
use mathlib.Core.Logic.{dite}
use native.Mathlib.Decide.{ℕ_discrete}
use lib.ListN.{get_elem?}
use prog.Atomic.{either}
use lib.Dec.{eqb}
use Rattle.atomic_table.specs.Table.{Act, step, keeps, takes, gives, Allows, Valid, stepped, carried_after, homes_after, put_back}
use Rattle.atomic_table.proofs.Lists.{set_else, one_turn, exchanged}
use Rattle.turn_lock.specs.declared.facts.Facts.{Facts}
use Rattle.turn_lock.specs.declared.known.Known.{Known}
use Rattle.turn_lock.specs.declared.view.View.{View}
use Rattle.turn_lock.specs.Facts.{IsFrontOf, FactsGrow, AreFactsKept}
use Rattle.turn_lock.specs.Known.{IsPastOf, HasAll, KnowsOf, holding, raised, new_asks, after_turn}
use Rattle.turn_lock.specs.Rule.{LockState, PassState, total, count_some, parts_of, asked_of, drew, has_turn, queue, Knows, Fits, Reached, words_of, Shelf, Ruled}
use Rattle.turn_lock.specs.Steps.{IsDrawn, Grabs, Watches, Counts, PassesOn}
use Rattle.turn_lock.proofs.Growth.{begins_on, begins_same, at_most_on, at_most_same, new_asks_are}
use Rattle.turn_lock.proofs.Totals.{total_set, total_at, total_none, total_alone, total_two, set_there}
use Rattle.turn_lock.proofs.Carrying.{not_some, some_same, knows_turn, fits_longer, queue_same, turns_same, reached_on, added_on, queue_bounded, alone, carries, rules_on, stays}

-- one more, modulo 2^64
one_more : (a : ℕ) → (a % 2 ^ 64 + 1) % 2 ^ 64 ≡ (a + 1) % 2 ^ 64
one_more a = omega arith

-- the highest mark that a pass set doesn't fall, doesn't pass the value's mark, and is this mark where the turn raised it
pub raised_from : (a b h : ℕ) → a ≤ b → h ≤ a → (h ≤ raised a b h) × (raised a b h ≤ b) × ((b ≤ raised a b h) ⊎ (a ≡ b))
raised_from a b h le low = go (nat_lt a b) refl
  where
    go : (t : Bool) → nat_lt a b ≡ t → (h ≤ (if t then b else h)) × ((if t then b else h) ≤ b) × ((b ≤ (if t then b else h)) ⊎ (a ≡ b))
    go true e = (omega arith, omega arith, inl (omega arith))
    go false e = let under : b ≤ a = ltb-false a b e in (omega arith, omega arith, inr (omega arith))

-- the value in the first slot of a hand, or the other one
abbrev pub in_hand : {V : Type 0} → V → List (ℕ × Option V) → V
in_hand d [] = d
in_hand d (x ∷ _) = unwrap_or x.1 d

begins_length : {A : Type 0} (xs ys : List A) → IsFrontOf xs ys → length xs ≤ length ys
begins_length xs ys b = let e = ap length b.goes_on in let f = length-append xs b.rest in omega arith

-- an empty list has nothing in it
none_there : {A : Type 0} (xs : List A) (x : A) → length xs ≡ 0 → Contains xs x → ⊥
none_there xs x none c = let within = c.1 in absurd (omega arith)

-- an ask in force after a turn was in force before it, or the turn added it
asks_of_turn : {E : Type 0} (taken given : Facts E) (ask : ℕ) → IsFrontOf taken.asks given.asks → Contains given.asks ask
    → Contains taken.asks ask ⊎ Contains (new_asks taken given) ask
asks_of_turn taken given ask b c =
    elim (Contains-append_cases taken.asks b.rest ask (subst (λ (l : List ℕ). Contains l ask) b.goes_on c)) [
      | inl old ↦ inl old
      | inr more ↦ inr (subst (λ (l : List ℕ). Contains l ask) (sym (new_asks_are taken given b)) more)
    ]

module _ {V E : Type 0} (facts : V → Facts E) where
  -- what the rule says of a live pass and what is in force
  pub agrees : (s : LockState V E) (r : Ruled facts s) (id : ℕ) (v : View E) → get_elem? s.views id ≡ some v → 0 < v.known.parts
      → KnowsOf r.now v.known
  agrees s r id v at live = let x = (r.core.each id v at).knows in record {
    name = x.name live;
    past = x.past;
    writer = λ w. (x.role w).1;
    sight = x.sight;
    high = x.high;
    asked = let t = total_at asked_of s.views id v at in let o = r.asked in omega arith;
    mine = x.mine;
    whole = λ all.
        let idle : (j : ℕ) (u : View E) → j ≢ id → get_elem? s.views j ≡ some u → (u.known.high ≡ 0) × (u.known.asked ≡ 0) =
        λ j u ne e. (r.core.each j u e).knows.spent (let t = total_two parts_of s.views j id u v ne e at in let o = r.whole in omega arith) in
        record {
          mark = let m = r.reached in let up = x.high in let le = m.3 in dite (ℕ_discrete m.0 id)
              (λ (e : m.0 ≡ id). let same : m.1 ≡ v = some-injective m.1 v (sym m.2 ∙ (ap (λ j. get_elem? s.views j) e ∙ at)) in
              let h : m.1.known.high ≡ v.known.high = ap (λ (u : View E). u.known.high) same in omega arith)
              (λ (ne : m.0 ≢ id). let i = idle m.0 m.1 ne m.2 in let h = i.0 in omega arith);
          asks = let t = total_alone asked_of s.views id v at (λ j u ne e. (idle j u ne e).1) in let o = r.asked in omega arith;
          mine = λ ask c. let a = r.mine ask c in dite (ℕ_discrete a.0 id)
              (λ (e : a.0 ≡ id). let same : a.1 ≡ v = some-injective a.1 v (sym a.2 ∙ (ap (λ j. get_elem? s.views j) e ∙ at)) in
              subst (λ (u : View E). Contains u.known.mine ask) same a.3)
              (λ (ne : a.0 ≢ id). absurd (none_there a.1.known.mine ask ((r.core.each a.0 a.1 a.2).knows.mine ∙ (idle a.0 a.1 ne a.2).1) a.3));
        };
  }

  draws : (slots id : ℕ) (me : PassState V E) → me.0.ticket ≡ None → 0 < me.0.known.parts
      → Allows (Ruled facts) slots id me 0 (λ n. (n + 1) % 2 ^ 64) (λ n m'. IsDrawn n me m')
  draws slots id me free live s r _ at _ =
      let v : View E = me.0 in
      let q : ℕ = queue s.views in
      let k : ℕ = r.serving + q in
      let w : View E = record v { ticket = Some k } in
      let x = r.core.each id v at in
      let none_drawn : count_some v.ticket ≡ 0 = ap count_some free in
      let t : queue (set s.views id w) + count_some v.ticket ≡ queue s.views + 1 = total_set drew s.views id v w at in
      let up : queue (set s.views id w) ≡ q + 1 = omega arith in
      let le : q ≤ queue (set s.views id w) = omega arith in
      let words : slice_set s.words 0 ((slice_index s.words 0 + 1) % 2 ^ 64) ≡ words_of r.serving (queue (set s.views id w)) (length r.now.log) =
      ap (λ l. slice_set l 0 ((slice_index l 0 + 1) % 2 ^ 64)) r.core.words
      ∙ ap (λ n. n ∷ (r.serving % 2 ^ 64) ∷ length r.now.log ∷ []) (one_more k ∙ ap (λ n. n % 2 ^ 64)
      (let e : k + 1 ≡ r.serving + queue (set s.views id w) = omega arith in e)) in (
        w,
        keeps,
        tt,
        rules_on facts s r r.serving id v w _ s.homes at refl refl refl refl
            (carries facts s r.serving r.writer r.now r.serving r.writer r.now id v w _ s.homes r.core at words
            (λ j u ne e. fits_longer r.serving q (queue (set s.views id w)) r.writer j r.now u le (r.core.each j u e))
            record {
              ticket = λ n e. let same : k ≡ n = some_same (Some k) k n refl e in (omega arith, omega arith);
              turn = λ f e. absurd (not_some v.ticket r.serving free (x.turn f e).0);
              spent = λ none. absurd (omega arith);
              knows = x.knows;
              one = x.one;
              other = x.other;
              twin = x.twin;
            }
            (λ j n u ne e mine theirs. let same : k ≡ n = some_same (Some k) k n refl mine in let b = ((r.core.each j u e).ticket n theirs).1 in
            absurd (omega arith))
            (subst (λ n. Shelf facts n r.now s.homes) (sym (turns_same s.views id v w at refl)) r.core.shelf)),
        (k, refl, ap (λ l. slice_index l 0) (sym r.core.words)),
      )

  -- a ticket is drawn where it is the one that was expected
  pub grabs : (slots id : ℕ) (me : PassState V E) (old new : ℕ) → me.0.ticket ≡ None → 0 < me.0.known.parts → new ≡ (old + 1) % 2 ^ 64
      → Allows (Ruled facts) slots id me 0 (λ n. either (eqb n old) new n) (Grabs (step slots 0 old new slot.none) me)
  grabs slots id me old new free live next s r sized at bound =
      let v : View E = me.0 in
      let x = r.core.each id v at in
      let n : ℕ = slice_index s.words 0 in
      let same_words : slice_set s.words 0 n ≡ s.words = (λ i. slice_set (r.core.words i) 0 (slice_index (r.core.words i) 0)) ∙ sym r.core.words in
      exchanged n old new
      (λ m. (w : View E) × (a : Act (Option V)) × Valid s.homes me.1 a × Ruled facts (stepped s 0 m id me.1 w a)
      × Grabs (step slots 0 old new slot.none) me n (w, carried_after me.1 a))
      (λ hit. let d = draws slots id me free live s r sized at bound in
      subst (λ m. (w : View E) × (a : Act (Option V)) × Valid s.homes me.1 a × Ruled facts (stepped s 0 m id me.1 w a)
      × Grabs (step slots 0 old new slot.none) me n (w, carried_after me.1 a))
      (ap (λ m. (m + 1) % 2 ^ 64) hit ∙ sym next)
      (d.0, d.1, d.2, d.3, ((λ _. d.4), λ miss. absurd (miss hit))))
      (λ miss. (v, keeps, tt, stays facts s r id v v _ at same_words refl refl x.one x.other x.twin, ((λ hit. absurd (miss hit)), λ _. refl)))

  -- the ticket of the pass is served
  serves : (slots id : ℕ) (v : View E) (k : ℕ) (s : LockState V E) (r : Ruled facts s) → get_elem? s.views id ≡ some v → v.ticket ≡ Some k
      → k ≡ r.serving → v.known.held ≡ None → 0 < v.known.parts
      → (y : V) × (a : get_elem? s.homes 0 ≡ some (some (Some y))) × KnowsOf (facts y) v.known
      × Ruled facts record {
        words = s.words;
        homes = slice_set s.homes 0 slot.none;
        views = set s.views id
            (record v { known = holding (facts y) v.known });
      }
  serves slots id v k s r at drawn served free live =
      let x = r.core.each id v at in
      let mine : v.ticket ≡ Some r.serving = drawn ∙ ap (λ (n : ℕ). Some n) served in
      let none_inside : total has_turn s.views ≡ 0 = total_none has_turn s.views (λ j u e. dite (ℕ_discrete j id)
      (λ (same : j ≡ id). let is : u ≡ v = some-injective u v (sym e ∙ (ap (λ i. get_elem? s.views i) same ∙ at)) in ap
      (λ (z : View E). count_some z.known.held) is ∙ ap count_some free)
      (λ (ne : j ≢ id). ap count_some (alone facts r.serving r.writer r.now s id v r.core at mine j u ne e))) in
      let home : Shelf facts 0 r.now s.homes = subst (λ n. Shelf facts n r.now s.homes) none_inside r.core.shelf in
      let y : V = home.0 in
      let w : View E = record v { known = holding (facts y) v.known } in
      let t : total has_turn (set s.views id w) + count_some v.known.held ≡ total has_turn s.views + 1 = total_set has_turn s.views id v w at in
      let none_held : count_some v.known.held ≡ 0 = ap count_some free in
      let one_inside : total has_turn (set s.views id w) ≡ 1 = omega arith in
      let out : slice_set s.homes 0 slot.none ≡ slot.none ∷ [] = ap (λ l. slice_set l 0 slot.none) home.1 in
      let q = queue_same s.views id v w at refl in
      let le : queue s.views ≤ queue (set s.views id w) = omega arith in (
        y,
        ap (λ l. get_elem? l 0) home.1,
        subst (λ (f : Facts E). KnowsOf f v.known) (sym home.2) (agrees s r id v at live),
        rules_on facts s r r.serving id v w s.words _ at refl refl refl refl
            (carries facts s r.serving r.writer r.now r.serving r.writer r.now id v w s.words _ r.core at
            (r.core.words ∙ ap (λ n. words_of r.serving n (length r.now.log)) (sym q))
            (λ j u ne e. fits_longer r.serving (queue s.views) (queue (set s.views id w)) r.writer j r.now u le (r.core.each j u e))
            record {
              ticket = λ n e. let b = x.ticket n e in (b.0, let u = b.1 in omega arith);
              turn = λ f e. (mine, some_same (Some f) f (facts y) refl (sym e) ∙ home.2);
              spent = x.spent;
              knows = knows_turn r.writer id r.now v.known (Some (facts y)) x.knows;
              one = x.one;
              other = x.other;
              twin = x.twin;
            }
            (λ j n u ne e a b. ne (r.core.apart j id n u v e at b a))
            (subst (λ n. Shelf facts n r.now (slice_set s.homes 0 slot.none)) (sym one_inside) out)),
      )

  told_hit : (m m' : PassState V E) (k n : ℕ) → m.0.ticket ≡ Some k → k % 2 ^ 64 ≡ n
      → (y : V) × (m' ≡ (record m.0 { known = holding (facts y) m.0.known }, (0, Some y) ∷ [])) × KnowsOf (facts y) m.0.known
      → Watches facts (step 0 0 0 0 slot.none) m n m'
  told_hit m m' k n drawn hit took k' e = ((λ _. took), λ miss. absurd (miss (ap (λ j. j % 2 ^ 64) (some_same m.0.ticket k' k e drawn) ∙ hit)))

  told_miss : (m : PassState V E) (k n : ℕ) → m.0.ticket ≡ Some k → k % 2 ^ 64 ≢ n → Watches facts (step 0 0 0 0 slot.none) m n m
  told_miss m k n drawn miss k' e = ((λ hit. absurd (miss (ap (λ j. j % 2 ^ 64) (some_same m.0.ticket k k' drawn e) ∙ hit))), λ _. refl)

  pub watches : (slots id : ℕ) (me : PassState V E) (k : ℕ) → me.0.ticket ≡ Some k → me.0.known.held ≡ None → 0 < me.0.known.parts → me.1 ≡ []
      → Allows (Ruled facts) slots id me 1 (λ n. n) (Watches facts (step slots 1 0 0 slot.none) me)
  watches slots id me k drawn free live empty s r _ at _ =
      let v : View E = me.0 in
      let x = r.core.each id v at in
      let n : ℕ = slice_index s.words 1 in
      let is : n ≡ r.serving % 2 ^ 64 = ap (λ l. slice_index l 1) r.core.words in
      let same_words : slice_set s.words 1 n ≡ s.words = (λ i. slice_set (r.core.words i) 1 (slice_index (r.core.words i) 1)) ∙ sym r.core.words in
      let bound = x.ticket k drawn in
      let few = queue_bounded facts s r in
      let low = bound.0 in
      let high = bound.1 in
      dite (ℕ_discrete (k % 2 ^ 64) n)
      (λ hit.
      let served : r.serving ≡ k = one_turn r.serving k (2 ^ 64) low (omega arith) (sym is ∙ sym hit) in
      let d = serves slots id v k s r at drawn (sym served) free live in
      let y : V = d.0 in
      let w : View E = record v { known = holding (facts y) v.known } in (
        w,
        takes 0 (Some y),
        d.1,
        subst (λ ws. Ruled facts record { words = ws; homes = slice_set s.homes 0 slot.none; views = set s.views id w }) (sym same_words) d.3,
        told_hit me (w, (0, Some y) ∷ me.1) k n drawn hit (y, ap (λ l. (w, (0, Some y) ∷ l)) empty, d.2),
      ))
      (λ miss. (
        v,
        keeps,
        tt,
        stays facts s r id v v _ at same_words refl refl x.one x.other x.twin,
        told_miss me k n drawn miss,
      ))

  -- the others still fit once the value in the hand of the pass that has the turn is in force
  others_fit : (s : LockState V E) (r : Ruled facts s) (id : ℕ) (v : View E) (g : Facts E) → get_elem? s.views id ≡ some v
      → v.ticket ≡ Some r.serving → FactsGrow r.now g
      → (v.known.writer ≡ false → AreFactsKept r.now g) → (more : ℕ) → queue s.views ≤ more
      → (j : ℕ) (u : View E) → j ≢ id → get_elem? s.views j ≡ some u → Fits r.serving more r.writer g j u
  others_fit s r id v g at mine grows kept more le j u ne e = let x = r.core.each j u e in let k = x.knows in record {
    ticket = λ n d. let b = x.ticket n d in (b.0, let h = b.1 in omega arith);
    turn = λ f d. absurd (not_some u.known.held f (alone facts r.serving r.writer r.now s id v r.core at mine j u ne e) d);
    spent = x.spent;
    knows = record {
      name = λ live. grows.name ∙ k.name live;
      past = past_on k.past;
      role = λ w. let o = k.role w in (o.0, both (o.0) o.1);
      sight = let a = k.sight in let b = grows.mark in omega arith;
      high = let a = k.high in let b = grows.mark in omega arith;
      spent = k.spent;
      mine = k.mine;
    };
    one = past_on x.one;
    other = past_on x.other;
    twin = x.twin;
  }
    where
      past_on : {p : Known E} → IsPastOf r.now p → IsPastOf g p
      past_on p = record { seen = begins_on p.seen grows.log; met = begins_on p.met grows.asks; tally = at_most_on p.tally grows.tally }

      reader : j ≡ r.writer → (b : Bool) → v.known.writer ≡ b → v.known.writer ≡ false
      reader is true w = absurd (ne (is ∙ sym (((r.core.each id v at).knows.role w).0)))
      reader is false w = w

      both : j ≡ r.writer → HasAll r.now u.known → HasAll g u.known
      both is o = let stay = kept (reader is v.known.writer refl) in record { seen = o.seen ∙ sym stay.log; tally = o.tally ∙ sym stay.tally }

  -- who has the turn has it alone, whatever its new view is
  turns_of : (s : LockState V E) (r : Ruled facts s) (id : ℕ) (v w : View E) → get_elem? s.views id ≡ some v → v.ticket ≡ Some r.serving
      → total has_turn (set s.views id w) ≡ count_some w.known.held
  turns_of s r id v w at mine = total_alone has_turn (set s.views id w) id w (set_there s.views id v w at)
      (λ j u ne e. ap count_some (alone facts r.serving r.writer r.now s id v r.core at mine j u ne (sym (set_else s.views id j w ne) ∙ e)))

  -- the slot is out with who has the turn
  held_out : (s : LockState V E) (r : Ruled facts s) (id : ℕ) (v : View E) (f : Facts E) → get_elem? s.views id ≡ some v → v.ticket ≡ Some r.serving
      → v.known.held ≡ Some f → total has_turn s.views ≡ 1
  held_out s r id v f at mine holds = total_alone has_turn s.views id v at
      (λ j u ne e. ap count_some (alone facts r.serving r.writer r.now s id v r.core at mine j u ne e)) ∙ ap count_some holds

  -- what the pass knows after its turn fits what it gave
  turn_known : (s : LockState V E) (r : Ruled facts s) (id : ℕ) (v : View E) (f g : Facts E) → get_elem? s.views id ≡ some v → f ≡ r.now
      → FactsGrow r.now g
      → (0 < v.known.parts) → Knows r.writer g id (after_turn f g v.known)
  turn_known s r id v f g at taken grows live = let k = (r.core.each id v at).knows in
      let mark : f.mark ≡ r.now.mark = ap (λ (z : Facts E). z.mark) taken in
      let low = k.high in
      let up = grows.mark in
      let high = raised_from f.mark g.mark v.known.high (omega arith) (omega arith) in
      record {
        name = λ _. grows.name ∙ k.name live;
        past = record { seen = begins_same g.log; met = begins_same g.asks; tally = at_most_same g.tally };
        role = λ w. ((k.role w).0, record { seen = refl; tally = refl });
        sight = le_refl g.mark;
        high = high.1;
        spent = λ none. absurd (omega arith);
        mine = let a = length-append v.known.mine (new_asks f g) in let b = length-drop (length f.asks) g.asks in let c = k.mine in omega arith;
      }

  pub counts : (slots id : ℕ) (me : PassState V E) (f : Facts E) (y : V) (n : ℕ) → me.0.known.held ≡ Some f → me.1 ≡ (0, Some y) ∷ []
      → 0 < me.0.known.parts
      → FactsGrow f (facts y) → (me.0.known.writer ≡ false → AreFactsKept f (facts y)) → n ≡ length (facts y).log
      → Allows (Ruled facts) slots id me 2 (λ _. n) (λ _. Counts facts (step slots 2 n 0 slot.none) me n)
  counts slots id me f y n holds hand live grows kept long s r _ at _ =
      let v : View E = me.0 in
      let g : Facts E = facts y in
      let x = r.core.each id v at in
      let turn = x.turn f holds in
      let mine : v.ticket ≡ Some r.serving = turn.0 in
      let grows' : FactsGrow r.now g = subst (λ (z : Facts E). FactsGrow z g) turn.1 grows in
      let kept' : v.known.writer ≡ false → AreFactsKept r.now g = λ b. subst (λ (z : Facts E). AreFactsKept z g) turn.1 (kept b) in
      let w : View E = record v { known = holding g (after_turn f g v.known) } in
      let mark : f.mark ≡ r.now.mark = ap (λ (z : Facts E). z.mark) turn.1 in
      let asks : length f.asks ≡ length r.now.asks = ap (λ (z : Facts E). length z.asks) turn.1 in
      let low = x.knows.high in
      let up = grows'.mark in
      let high = raised_from f.mark g.mark v.known.high (omega arith) (omega arith) in
      let rise = high.0 in
      let past_on : (p : Known E) → IsPastOf r.now p → IsPastOf g p = λ p h.
      record { seen = begins_on h.seen grows'.log; met = begins_on h.met grows'.asks; tally = at_most_on h.tally grows'.tally } in
      let q = queue_same s.views id v w at refl in
      let le : queue s.views ≤ queue (set s.views id w) = omega arith in (
        w,
        keeps,
        tt,
        record {
          serving = r.serving;
          writer = r.writer;
          now = g;
          core = carries facts s r.serving r.writer r.now r.serving r.writer g id v w _ s.homes r.core at
              (ap (λ l. slice_set l 2 n) r.core.words ∙ (λ i. words_of r.serving (sym q i) (long i)))
              (others_fit s r id v g at mine grows' kept' (queue (set s.views id w)) le)
              record {
                ticket = λ m e. let b = x.ticket m e in (b.0, let u = b.1 in omega arith);
                turn = λ f' e. (mine, some_same (Some g) f' g e refl);
                spent = x.spent;
                knows = knows_turn r.writer id g (after_turn f g v.known) (Some g) (turn_known s r id v f g at turn.1 grows' live);
                one = past_on v.one x.one;
                other = past_on v.other x.other;
                twin = x.twin;
              }
              (λ j m u ne e a b. ne (r.core.apart j id m u v e at b a))
              (subst (λ m. Shelf facts m g s.homes) (sym (turns_of s r id v w at mine))
              (subst (λ m. Shelf facts m r.now s.homes) (held_out s r id v f at mine holds) r.core.shelf));
          whole = let t = total_set parts_of s.views id v w at in let o = r.whole in omega arith;
          asked = let t = total_set asked_of s.views id v w at in let o = r.asked in let b = begins_length r.now.asks g.asks grows'.asks in
              omega arith;
          reached = ⊎_elim (λ (top : g.mark ≤ raised f.mark g.mark v.known.high). (id, w, set_there s.views id v w at, top))
              (λ (same : f.mark ≡ g.mark). subst (λ m. Reached m (set s.views id w)) (sym mark ∙ same)
              (reached_on r.now.mark s.views id v w at rise r.reached))
              high.2;
          mine = λ ask c. ⊎_elim
              (λ (old : Contains f.asks ask). added_on ask s.views id v w at (Contains-append_left v.known.mine (new_asks f g) ask)
              (r.mine ask (subst (λ (z : Facts E). Contains z.asks ask) turn.1 old)))
              (λ (new : Contains (new_asks f g) ask). (id, w, set_there s.views id v w at, Contains-append_right v.known.mine (new_asks f g) ask new))
              (asks_of_turn f g ask grows.asks c);
        },
        λ f' y' holds' hand'. let same_f : f ≡ f' = some_same v.known.held f f' holds holds' in let same_y : y ≡ y' = hands y y' me.1 hand hand' in
            (λ i. (record v { known = holding (facts (same_y i)) (after_turn (same_f i) (facts (same_y i)) v.known) }, me.1)),
      )
    where
      hands : (a b : V) (l : List (ℕ × Option V)) → l ≡ (0, Some a) ∷ [] → l ≡ (0, Some b) ∷ [] → a ≡ b
      hands a b l e d = ap (in_hand a) (sym e ∙ d)

  pub passes_on : (slots id : ℕ) (me : PassState V E) (y : V) → me.0.known.held ≡ Some (facts y) → me.1 ≡ (0, Some y) ∷ []
      → Allows (Ruled facts) slots id me 1 (λ n. (n + 1) % 2 ^ 64) (PassesOn (step slots 1 1 0 slot.none) me)
  passes_on slots id me y holds hand s r _ at _ =
      let v : View E = me.0 in
      let x = r.core.each id v at in
      let turn = x.turn (facts y) holds in
      let mine : v.ticket ≡ Some r.serving = turn.0 in
      let w : View E = record v { ticket = None; known = record v.known { held = None } } in
      let t : queue (set s.views id w) + count_some v.ticket ≡ queue s.views + 0 = total_set drew s.views id v w at in
      let drawn : count_some v.ticket ≡ 1 = ap count_some mine in
      let one_less : queue (set s.views id w) + 1 ≡ queue s.views = omega arith in
      let out : s.homes ≡ slot.none ∷ [] = subst (λ m. Shelf facts m r.now s.homes) (held_out s r id v (facts y) at mine holds) r.core.shelf in
      let home : homes_after s.homes me.1 gives ≡ some (Some y) ∷ [] = (λ i. put_back (out i) (hand i)) in
      let words : slice_set s.words 1 ((slice_index s.words 1 + 1) % 2 ^ 64) ≡ words_of (r.serving + 1) (queue (set s.views id w))
      (length r.now.log) =
      ap (λ l. slice_set l 1 ((slice_index l 1 + 1) % 2 ^ 64)) r.core.words
      ∙ (λ i. ((let e : r.serving + queue s.views ≡ r.serving + 1 + queue (set s.views id w) = omega arith in
      e) i % 2 ^ 64) ∷ one_more r.serving i ∷ length r.now.log ∷ []) in (
        w,
        gives,
        tt,
        rules_on facts s r (r.serving + 1) id v w _ _ at refl refl refl refl
            (carries facts s r.serving r.writer r.now (r.serving + 1) r.writer r.now id v w _ _ r.core at words
            (λ j u ne e. let o = r.core.each j u e in record {
              ticket = λ k d. let b = o.ticket k d in let low = b.0 in let high = b.1 in
                  let after : k ≢ r.serving = λ same. ne (r.core.apart j id r.serving u v e at (d ∙ ap (λ (m : ℕ). Some m) same) mine) in
                  (omega arith, omega arith);
              turn = λ f d. absurd (not_some u.known.held f (alone facts r.serving r.writer r.now s id v r.core at mine j u ne e) d);
              spent = o.spent;
              knows = o.knows;
              one = o.one;
              other = o.other;
              twin = o.twin;
            })
            record {
              ticket = λ k e. absurd (not_some None k refl e);
              turn = λ f e. absurd (not_some None f refl e);
              spent = λ _. refl;
              knows = knows_turn r.writer id r.now v.known None x.knows;
              one = x.one;
              other = x.other;
              twin = x.twin;
            }
            (λ j k u ne e a b. not_some None k refl a)
            (subst (λ m. Shelf facts m r.now (homes_after s.homes me.1 gives)) (sym (turns_of s r id v w at mine)) (y, home, turn.1))),
        refl,
      )
