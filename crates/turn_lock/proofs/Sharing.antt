-- The steps with which passes are split and joined keep the rule, and so does the opening. What the last pass finds at the close.
use Rattle.std.proofs.Common.{◌≡◌, ◌≢◌, ◌⊎◌, ℕ, zero, suc, ◌-◌, ◌<◌, ◌≤◌, List, [], ◌∷◌, ◌++◌, set, length, Contains, true, false, Bool, ◌||◌, Option, Some, None, refl, sym, ap, ◌∙◌, subst, ⊎_elim, inl, inr, arith, le_refl, length-append}
use Rattle.std.specs.Prelude.{slice_set, slice_index, nat_lt, if◌then◌else◌, max}
use Rattle.std.proofs.lemmas.Bool.{ltb-true, ltb-false}
use Rattle.std.proofs.lemmas.List.Elements.{Contains-append_left, Contains-append_right}
use Rattle.std.proofs.Math.Nat.{le-max_left, le-max_right, max-le}
use mathlib.Core.Option as slot
use mathlib.Core.Option.{some, some-injective, some-ne-none}
use mathlib.Core.Logic.{dite}
use native.Mathlib.Decide.{ℕ_discrete}
use prog.Atomic.{either}
use lib.Dec.{eqb}
use lib.ListN.{get_elem?}
use Rattle.atomic_table.specs.Table.{step, keeps, Allows, Splits, Joins, opening, Final, Seen}
use Rattle.atomic_table.proofs.Lists.{at_snoc, set_else, exchanged, at_longer}
use Rattle.turn_lock.specs.declared.facts.Tally.{Tally}
use Rattle.turn_lock.specs.declared.facts.Facts.{Facts}
use Rattle.turn_lock.specs.declared.known.Known.{Known}
use Rattle.turn_lock.specs.declared.view.View.{View}
use Rattle.turn_lock.specs.Facts.{IsFrontOf, AtMost}
use Rattle.turn_lock.specs.Known.{all_parts, IsPastOf, HasAll, KnowsOf, Follows, longer, greatest, writers, joined}
use Rattle.turn_lock.specs.Rule.{PassState, total, count_some, parts_of, asked_of, drew, has_turn, queue, nobody, first_view, spent_view, Knows, Fits, words_of, Shelf, Core, Ruled}
use Rattle.turn_lock.specs.Steps.{Offers, Compares, kept_view, given_view, joined_view}
use Rattle.turn_lock.proofs.Growth.{begins_nothing, begins_same, at_most_same}
use Rattle.turn_lock.proofs.Totals.{total_set, total_none, total_two, total_snoc, set_there, set_swapped}
use Rattle.turn_lock.proofs.Carrying.{none_where, not_some, nobody_is_past, fits_longer, queue_same, turns_same, reached_on, added_on, carries, stays}
use Rattle.turn_lock.proofs.Turning.{agrees}

module _ {A : Type 0} where
  -- of two beginnings of one list the shorter begins the longer
  pub begins_both : (xs ys zs : List A) → IsFrontOf xs zs → IsFrontOf ys zs → length xs ≤ length ys → IsFrontOf xs ys
  begins_both xs ys zs b c = go xs ys b.rest c.rest (sym b.goes_on ∙ c.goes_on)
    where
      go : (xs ys r t : List A) → xs ++ r ≡ ys ++ t → length xs ≤ length ys → IsFrontOf xs ys
      go [] ys r t e le = begins_nothing ys
      go (x ∷ xs) [] r t e le = absurd (omega arith)
      go (x ∷ xs) (y ∷ ys) r t e le = let here : x ≡ y = cc in let there : xs ++ r ≡ ys ++ t = cc in
          let b = go xs ys r t there (omega arith) in record { rest = b.rest; goes_on = (λ i. sym here i ∷ b.goes_on i) }

  -- what holds of both holds of the longer
  pub longer_of : (P : List A → Type 0) (xs ys : List A) → P xs → P ys → P (longer xs ys)
  longer_of P xs ys p q = go (nat_lt (length xs) (length ys))
    where
      go : (t : Bool) → P (if t then ys else xs)
      go true = q
      go false = p

  pub longer_is : (xs ys : List A) → (longer xs ys ≡ xs) ⊎ (longer xs ys ≡ ys)
  longer_is xs ys = go (nat_lt (length xs) (length ys))
    where
      go : (t : Bool) → ((if t then ys else xs) ≡ xs) ⊎ ((if t then ys else xs) ≡ ys)
      go true = inr refl
      go false = inl refl

  pub longer_covers : (xs ys : List A) → (length xs ≤ length (longer xs ys)) × (length ys ≤ length (longer xs ys))
  longer_covers xs ys = go (nat_lt (length xs) (length ys)) refl
    where
      go : (t : Bool) → nat_lt (length xs) (length ys) ≡ t → (length xs ≤ length (if t then ys else xs)) × (length ys ≤ length (if t then ys else xs))
      go true e = let h = ltb-true (length xs) (length ys) e in (omega arith, omega arith)
      go false e = let h = ltb-false (length xs) (length ys) e in (omega arith, omega arith)

  pub writers_of : (P : A → Type 0) (a b : Bool) (x y z : A) → P x → P y → P z → P (writers a b x y z)
  writers_of P true b x y z p q r = p
  writers_of P false true x y z p q r = q
  writers_of P false false x y z p q r = r

  pub writers_whole : (a b : Bool) (x y z whole : A) → (a ≡ true → x ≡ whole) → (b ≡ true → y ≡ whole) → (a || b) ≡ true → writers a b x y z ≡ whole
  writers_whole true b x y z whole p q e = p refl
  writers_whole false true x y z whole p q e = q refl
  writers_whole false false x y z whole p q e = absurd (cc)

  pub writers_else : (a b : Bool) (x y z : A) → (a || b) ≡ false → writers a b x y z ≡ z
  writers_else true b x y z e = absurd (cc)
  writers_else false true x y z e = absurd (cc)
  writers_else false false x y z e = refl

pub greatest_least : (s t u : Tally) → AtMost s u → AtMost t u → AtMost (greatest s t) u
greatest_least s t u a b = record { failed = max-le a.failed b.failed; garbled = max-le a.garbled b.garbled; memory = max-le a.memory b.memory }

pub greatest_left : (s t : Tally) → AtMost s (greatest s t)
greatest_left s t = record { failed = le-max_left _ _; garbled = le-max_left _ _; memory = le-max_left _ _ }

pub greatest_right : (s t : Tally) → AtMost t (greatest s t)
greatest_right s t = record { failed = le-max_right _ _; garbled = le-max_right _ _; memory = le-max_right _ _ }

module _ {E : Type 0} where
  -- a pass has seen as many entries and asks as another, and as high a tally, or it is the writer
  pub record Covers (before after : Known E) : Type 0 where
    pub seen : after.writer ≡ false → length before.seen ≤ length after.seen
    pub met : length before.met ≤ length after.met
    pub tally : after.writer ≡ false → AtMost before.tally after.tally

  pub covers_first : (a b : Known E) → Covers a (joined a b)
  covers_first a b = record {
    seen = λ w. let e = ap length (writers_else a.writer b.writer a.seen b.seen (longer a.seen b.seen) w) in let c =
        (longer_covers a.seen b.seen).0 in omega arith;
    met = (longer_covers a.met b.met).0;
    tally = λ w. subst (λ (t : Tally). AtMost a.tally t) (sym (writers_else a.writer b.writer a.tally b.tally (greatest a.tally b.tally) w))
        (greatest_left a.tally b.tally);
  }

  pub covers_second : (a b : Known E) → Covers b (joined a b)
  covers_second a b = record {
    seen = λ w. let e = ap length (writers_else a.writer b.writer a.seen b.seen (longer a.seen b.seen) w) in let c =
        (longer_covers a.seen b.seen).1 in omega arith;
    met = (longer_covers a.met b.met).1;
    tally = λ w. subst (λ (t : Tally). AtMost b.tally t) (sym (writers_else a.writer b.writer a.tally b.tally (greatest a.tally b.tally) w))
        (greatest_right a.tally b.tally);
  }

  -- of two beginnings of what is in force the one that covers the other follows it
  pub follows_past : (now : Facts E) (before after : Known E) → IsPastOf now before → IsPastOf now after → (after.writer ≡ true → HasAll now after)
      → Covers before after → Follows before after
  follows_past now before after p q all c = record {
    seen = go_seen after.writer refl;
    met = begins_both before.met after.met now.asks p.met q.met c.met;
    tally = go_tally after.writer refl;
  }
    where
      go_seen : (t : Bool) → after.writer ≡ t → IsFrontOf before.seen after.seen
      go_seen true w = subst (λ (l : List E). IsFrontOf before.seen l) (sym ((all w).seen)) p.seen
      go_seen false w = begins_both before.seen after.seen now.log p.seen q.seen (c.seen w)

      go_tally : (t : Bool) → after.writer ≡ t → AtMost before.tally after.tally
      go_tally true w = subst (λ (u : Tally). AtMost before.tally u) (sym ((all w).tally)) p.tally
      go_tally false w = c.tally w

module _ {V E : Type 0} (facts : V → Facts E) where
  pub offers : (slots id : ℕ) (me : PassState V E) (parts : ℕ) → Allows (Ruled facts) slots id me 0 (λ n. either (eqb n parts) parts n)
      (Offers (step slots 0 parts parts slot.none) me)
  offers slots id me parts s r _ at _ =
      let v : View E = me.0 in
      let x = r.core.each id v at in
      let w : View E = record v { offer = parts } in
      let n : ℕ = slice_index s.words 0 in
      let same : either (eqb n parts) parts n ≡ n = exchanged n parts parts (λ (m : ℕ). m ≡ n) (λ e. sym e) (λ _. refl) in
      let words : slice_set s.words 0 (either (eqb n parts) parts n) ≡ s.words = ap (λ m. slice_set s.words 0 m) same
      ∙ ((λ i. slice_set (r.core.words i) 0 (slice_index (r.core.words i) 0)) ∙ sym r.core.words) in
      (w, keeps, tt, stays facts s r id v w _ at words refl refl x.one x.other x.twin, refl)

  pub compares : (slots id : ℕ) (me : PassState V E) → Covers me.0.one me.0.known → Covers me.0.other me.0.known
      → Allows (Ruled facts) slots id me 0 (λ n. n) (Compares (step slots 0 0 0 slot.none) me)
  compares slots id me one other s r _ at _ =
      let v : View E = me.0 in
      let x = r.core.each id v at in
      let w : View E = record v { one = nobody; other = nobody } in
      let words : slice_set s.words 0 (slice_index s.words 0) ≡ s.words = (λ i. slice_set (r.core.words i) 0 (slice_index (r.core.words i) 0))
      ∙ sym r.core.words in
      let all : v.known.writer ≡ true → HasAll r.now v.known = λ b. (x.knows.role b).1 in (
        w,
        keeps,
        tt,
        stays facts s r id v w _ at words refl refl (nobody_is_past r.now) (nobody_is_past r.now) (λ live. absurd (omega arith)),
        (refl, follows_past r.now v.one v.known x.one x.knows.past all one, follows_past r.now v.other v.known x.other x.knows.past all other, x.twin),
      )

  -- a new pass that waits for nothing fits beside the others
  seated : (ws : List ℕ) (hs : List (slot.Option (Option V))) (views : List (View E)) (serving writer : ℕ) (now : Facts E) (w : View E)
      → Core facts serving writer now record { words = ws; homes = hs; views = views } → w.ticket ≡ None → w.known.held ≡ None
      → ((j : ℕ) → Fits serving (queue (views ++ w ∷ [])) writer now j w)
      → Core facts serving writer now record { words = ws; homes = hs; views = views ++ w ∷ [] }
  seated ws hs views serving writer now w core free idle fits =
      let none_drawn : count_some w.ticket ≡ 0 = ap count_some free in
      let none_held : count_some w.known.held ≡ 0 = ap count_some idle in
      let q : queue (views ++ w ∷ []) ≡ queue views = (let t = total_snoc drew views w in omega arith) in
      let h : total has_turn (views ++ w ∷ []) ≡ total has_turn views = (let t = total_snoc has_turn views w in omega arith) in
      let le : queue views ≤ queue (views ++ w ∷ []) = omega arith in
      record {
        words = core.words ∙ ap (λ n. words_of serving n (length now.log)) (sym q);
        each = λ j u e. ⊎_elim (λ (at : get_elem? views j ≡ some u). fits_longer serving (queue views) (queue (views ++ w ∷ [])) writer j now u le
            (core.each j u at))
            (λ (same : w ≡ u). subst (λ (z : View E). Fits serving (queue (views ++ w ∷ [])) writer now j z) same (fits j))
            (at_snoc views w u j e);
        apart = λ i j k a b ea eb ta tb. ⊎_elim
            (λ (x : get_elem? views i ≡ some a). ⊎_elim (λ (y : get_elem? views j ≡ some b). core.apart i j k a b x y ta tb)
            (λ (y : w ≡ b). absurd (not_some b.ticket k (ap (λ (z : View E). z.ticket) (sym y) ∙ free) tb)) (at_snoc views w b j eb))
            (λ (x : w ≡ a). absurd (not_some a.ticket k (ap (λ (z : View E). z.ticket) (sym x) ∙ free) ta))
            (at_snoc views w a i ea);
        shelf = subst (λ n. Shelf facts n now hs) (sym h) core.shelf;
      }

  pub splits : (id : ℕ) (v : View E) → v.ticket ≡ None → v.known.held ≡ None → 0 < v.offer → v.offer < v.known.parts
      → Splits (Ruled facts) id v (kept_view v) (given_view v)
  splits id v free idle some_parts some_left s r at =
      let x = r.core.each id v at in
      let k = x.knows in
      let left : View E = kept_view v in
      let right : View E = given_view v in
      let views : List (View E) = set s.views id left in
      let q = queue_same s.views id v left at refl in
      let le : queue s.views ≤ queue views = omega arith in
      let name = k.name (let p : 0 < v.known.parts = omega arith in p) in
      let past : (parts high asked turns : ℕ) (mine : List ℕ) (gave : List (Facts E)) (w : Bool) → IsPastOf r.now
      (record v.known { parts = parts; high = high; asked = asked; mine = mine; turns = turns; gave = gave; writer = w }) =
      λ _ _ _ _ _ _ _. record { seen = k.past.seen; met = k.past.met; tally = k.past.tally } in
      let cut : Core facts r.serving r.writer r.now record { words = s.words; homes = s.homes; views = views } =
      carries facts s r.serving r.writer r.now r.serving r.writer r.now id v left s.words s.homes r.core at
      (r.core.words ∙ ap (λ n. words_of r.serving n (length r.now.log)) (sym q))
      (λ j u ne e. fits_longer r.serving (queue s.views) (queue views) r.writer j r.now u le (r.core.each j u e))
      record {
        ticket = λ n e. absurd (not_some v.ticket n free e);
        turn = λ f e. absurd (not_some v.known.held f idle e);
        spent = λ _. free;
        knows = record {
          name = λ _. name;
          past = past (v.known.parts - v.offer) v.known.high v.known.asked v.known.turns v.known.mine v.known.gave v.known.writer;
          role = λ w. let o = k.role w in (o.0, record { seen = o.1.seen; tally = o.1.tally });
          sight = k.sight;
          high = k.high;
          spent = λ none. absurd (omega arith);
          mine = k.mine;
        };
        one = x.one;
        other = x.other;
        twin = x.twin;
      }
      (λ j n u ne e a b. not_some v.ticket n free a)
      (subst (λ n. Shelf facts n r.now s.homes) (sym (turns_same s.views id v left at refl)) r.core.shelf) in
      record {
        serving = r.serving;
        writer = r.writer;
        now = r.now;
        core = seated s.words s.homes views r.serving r.writer r.now right cut refl idle (λ j. record {
          ticket = λ n e. absurd (not_some None n refl e);
          turn = λ f e. absurd (not_some v.known.held f idle e);
          spent = λ _. refl;
          knows = record {
            name = λ _. name;
            past = past v.offer 0 0 0 [] [] false;
            role = λ w. absurd (cc);
            sight = k.sight;
            high = omega arith;
            spent = λ _. (refl, refl);
            mine = refl;
          };
          one = nobody_is_past r.now;
          other = nobody_is_past r.now;
          twin = λ live. absurd (omega arith);
        });
        whole = let t = total_set parts_of s.views id v left at in let a = total_snoc parts_of views right in let o = r.whole in omega arith;
        asked = let t = total_set asked_of s.views id v left at in let a = total_snoc asked_of views right in let o = r.asked in omega arith;
        reached = let m = reached_on r.now.mark s.views id v left at (le_refl v.known.high) r.reached in
            (m.0, m.1, at_longer views (right ∷ []) m.0 m.1 m.2, m.3);
        mine = λ ask c. let a = added_on ask s.views id v left at (λ here. here) (r.mine ask c) in
            (a.0, a.1, at_longer views (right ∷ []) a.0 a.1 a.2, a.3);
      }

  spent_fits : (serving length writer seat : ℕ) (now : Facts E) → Fits serving length writer now seat spent_view
  spent_fits serving length writer seat now = record {
    ticket = λ n e. absurd (not_some None n refl e);
    turn = λ f e. absurd (not_some None f refl e);
    spent = λ _. refl;
    knows = record {
      name = λ live. absurd (omega arith);
      past = nobody_is_past now;
      role = λ w. absurd (cc);
      sight = omega arith;
      high = omega arith;
      spent = λ _. (refl, refl);
      mine = refl;
    };
    one = nobody_is_past now;
    other = nobody_is_past now;
    twin = λ live. absurd (omega arith);
  }

  fits_writer : (serving length writer writer' seat : ℕ) (now : Facts E) (u : View E) → (u.known.writer ≡ true → seat ≡ writer → seat ≡ writer')
      → Fits serving length writer now seat u → Fits serving length writer' now seat u
  fits_writer serving length writer writer' seat now u is x = let k = x.knows in record {
    ticket = x.ticket;
    turn = x.turn;
    spent = x.spent;
    knows = record { name = k.name; past = k.past; role = λ w. let o = k.role w in (is w o.0, o.1); sight = k.sight; high = k.high; spent = k.spent; mine = k.mine };
    one = x.one;
    other = x.other;
    twin = x.twin;
  }

  or_left : (a b : Bool) → (a || b) ≡ true → b ≡ false → a ≡ true
  or_left true b e f = refl
  or_left false true e f = absurd (cc)
  or_left false false e f = absurd (cc)

  -- what two passes know as one fits where each did
  joined_knows : (writer writer' id other : ℕ) (now : Facts E) (a b : Known E) → Knows writer now id a → Knows writer now other b → 0 < a.parts
      → ((a.writer || b.writer) ≡ true → id ≡ writer') → Knows writer' now id (joined a b)
  joined_knows writer writer' id other now a b x y live is = record {
    name = λ _. x.name live;
    past = record {
      seen = writers_of (λ (l : List E). IsFrontOf l now.log) a.writer b.writer a.seen b.seen (longer a.seen b.seen) x.past.seen y.past.seen
          (longer_of (λ (l : List E). IsFrontOf l now.log) a.seen b.seen x.past.seen y.past.seen);
      met = longer_of (λ (l : List ℕ). IsFrontOf l now.asks) a.met b.met x.past.met y.past.met;
      tally = writers_of (λ (t : Tally). AtMost t now.tally) a.writer b.writer a.tally b.tally (greatest a.tally b.tally) x.past.tally y.past.tally
          (greatest_least a.tally b.tally now.tally x.past.tally y.past.tally);
    };
    role = λ w. (
      is w,
      record {
        seen = writers_whole a.writer b.writer a.seen b.seen (longer a.seen b.seen) now.log (λ e. (x.role e).1.seen) (λ e. (y.role e).1.seen) w;
        tally = writers_whole a.writer b.writer a.tally b.tally (greatest a.tally b.tally) now.tally (λ e. (x.role e).1.tally)
            (λ e. (y.role e).1.tally) w;
      },
    );
    sight = x.sight;
    high = max-le x.high y.high;
    spent = λ none. absurd (omega arith);
    mine = let both = length-append a.mine b.mine in let p = x.mine in let q = y.mine in omega arith;
  }

  pub joins : (id : ℕ) (v : View E) (other : ℕ) (w : View E) → v.ticket ≡ None → v.known.held ≡ None → w.ticket ≡ None → w.known.held ≡ None
      → 0 < v.known.parts
      → Joins (Ruled facts) id v other w (joined_view v w) spent_view
  joins id v other w free idle free' idle' live s r at apart there =
      let both : View E = joined_view v w in
      let at' : get_elem? s.views other ≡ some w = sym (set_else s.views id other both apart) ∙ there in
      let x = r.core.each id v at in
      let y = r.core.each other w at' in
      let middle : List (View E) = set s.views other spent_view in
      let views : List (View E) = set middle id both in
      let q = queue_same s.views other w spent_view at' (sym free') in
      let le : queue s.views ≤ queue middle = omega arith in
      let first : Core facts r.serving r.writer r.now record { words = s.words; homes = s.homes; views = middle } =
      carries facts s r.serving r.writer r.now r.serving r.writer r.now other w spent_view s.words s.homes r.core at'
      (r.core.words ∙ ap (λ n. words_of r.serving n (length r.now.log)) (sym q))
      (λ j u ne e. fits_longer r.serving (queue s.views) (queue middle) r.writer j r.now u le (r.core.each j u e))
      (spent_fits r.serving (queue middle) r.writer other r.now)
      (λ j n u ne e a b. not_some None n refl a)
      (subst (λ n. Shelf facts n r.now s.homes) (sym (turns_same s.views other w spent_view at' (sym idle'))) r.core.shelf) in
      let away : id ≢ other = λ e. apart (sym e) in
      let here : get_elem? middle id ≡ some v = set_else s.views other id spent_view away ∙ at in
      let writer : ℕ = if w.known.writer then id else r.writer in
      let q' = queue_same middle id v both here (sym free) in
      let le' : queue middle ≤ queue views = omega arith in
      let second : Core facts r.serving writer r.now record { words = s.words; homes = s.homes; views = views } =
      carries facts record {
        words = s.words;
        homes = s.homes;
        views =
            middle;
      } r.serving r.writer r.now r.serving writer r.now id v both s.words s.homes first here
      (first.words ∙ ap (λ n. words_of r.serving n (length r.now.log)) (sym q'))
      (λ j u ne e. fits_writer r.serving (queue views) r.writer writer j r.now u
      (λ writes is. stays_writer w.known.writer refl r.writer id other j u is writes (λ b. (y.knows.role b).0)
      (λ same. some_same_view middle j other u (spent_view) e (set_there s.views other w spent_view at') same))
      (fits_longer r.serving (queue middle) (queue views) r.writer j r.now u le' (first.each j u e)))
      record {
        ticket = λ n e. absurd (not_some None n refl e);
        turn = λ f e. absurd (not_some None f refl e);
        spent = λ _. refl;
        knows = joined_knows r.writer writer id other r.now v.known w.known x.knows y.knows live
            (λ e. new_writer v.known.writer w.known.writer r.writer id e (λ b. (x.knows.role b).0));
        one = record { seen = x.knows.past.seen; met = x.knows.past.met; tally = x.knows.past.tally };
        other = record { seen = y.knows.past.seen; met = y.knows.past.met; tally = y.knows.past.tally };
        twin = λ his. sym (y.knows.name his) ∙ x.knows.name live;
      }
      (λ j n u ne e a b. not_some None n refl a)
      (subst (λ n. Shelf facts n r.now s.homes) (sym (turns_same middle id v both here (sym idle))) first.shelf) in
      let ruled : Ruled facts record { words = s.words; homes = s.homes; views = views } = record {
        serving = r.serving;
        writer = writer;
        now = r.now;
        core = second;
        whole = let t = total_set parts_of s.views other w spent_view at' in let u = total_set parts_of middle id v both here in let o = r.whole in
            omega arith;
        asked = let t = total_set asked_of s.views other w spent_view at' in let u = total_set asked_of middle id v both here in let o = r.asked in
            omega arith;
        reached = let m = r.reached in let low = m.3 in let left = le-max_left v.known.high w.known.high in let right =
            le-max_right v.known.high w.known.high in
            dite (ℕ_discrete m.0 id)
            (λ (e : m.0 ≡ id). let same : m.1 ≡ v = some_same_view s.views m.0 id m.1 v m.2 at e in let h : m.1.known.high ≡ v.known.high = ap
            (λ (u : View E). u.known.high) same in
            (id, both, set_there middle id v both here, let top : r.now.mark ≤ max v.known.high w.known.high = omega arith in top))
            (λ (ne : m.0 ≢ id). dite (ℕ_discrete m.0 other)
            (λ (e : m.0 ≡ other). let same : m.1 ≡ w = some_same_view s.views m.0 other m.1 w m.2 at' e in let h : m.1.known.high ≡ w.known.high =
            ap (λ (u : View E). u.known.high) same in
            (id, both, set_there middle id v both here, let top : r.now.mark ≤ max v.known.high w.known.high = omega arith in top))
            (λ (ne' : m.0 ≢ other). (m.0, m.1, set_else middle id m.0 both ne ∙ (set_else s.views other m.0 spent_view ne' ∙ m.2), m.3)));
        mine = λ ask c. let a = r.mine ask c in dite (ℕ_discrete a.0 id)
            (λ (e : a.0 ≡ id). let same : a.1 ≡ v = some_same_view s.views a.0 id a.1 v a.2 at e in (
              id,
              both,
              set_there middle id v both here,
              Contains-append_left v.known.mine w.known.mine ask
                  (subst (λ (u : View E). Contains u.known.mine ask) same a.3),
            ))
            (λ (ne : a.0 ≢ id). dite (ℕ_discrete a.0 other)
            (λ (e : a.0 ≡ other). let same : a.1 ≡ w = some_same_view s.views a.0 other a.1 w a.2 at' e in (
              id,
              both,
              set_there middle id v both here,
              Contains-append_right v.known.mine w.known.mine ask
                  (subst (λ (u : View E). Contains u.known.mine ask) same a.3),
            ))
            (λ (ne' : a.0 ≢ other). (a.0, a.1, set_else middle id a.0 both ne ∙ (set_else s.views other a.0 spent_view ne' ∙ a.2), a.3)));
      } in
      subst (λ (vs : List (View E)). Ruled facts record { words = s.words; homes = s.homes; views = vs })
      (sym (set_swapped s.views id other both spent_view apart)) ruled
    where
      some_same_view : (l : List (View E)) (i j : ℕ) (a b : View E) → get_elem? l i ≡ some a → get_elem? l j ≡ some b → i ≡ j → a ≡ b
      some_same_view l i j a b e d same = some-injective a b (sym e ∙ (ap (λ k. get_elem? l k) same ∙ d))

      new_writer : (a b : Bool) (old id : ℕ) → (a || b) ≡ true → (a ≡ true → id ≡ old) → id ≡ (if b then id else old)
      new_writer a true old id e is = refl
      new_writer a false old id e is = is (or_left a false e refl)

      stays_writer : (b : Bool) → w.known.writer ≡ b → (old id other j : ℕ) (u : View E) → j ≡ old → u.known.writer ≡ true
          → (w.known.writer ≡ true → other ≡ old) → (j ≡ other → u ≡ spent_view) → j ≡ (if b then id else old)
      stays_writer true e old id other j u is writes theirs gone = let g = ap (λ (z : View E). z.known.writer) (gone (is ∙ sym (theirs e))) in
          absurd (cc)
      stays_writer false e old id other j u is writes theirs gone = is

  pub opens : (y : V) → Ruled facts (opening (0 ∷ 0 ∷ length (facts y).log ∷ []) (Some y ∷ []) (first_view (facts y)))
  opens y =
      let f : Facts E = facts y in
      let v : View E = first_view f in
      let only : (j : ℕ) (u : View E) → get_elem? (v ∷ []) j ≡ some u → (j ≡ 0) × (v ≡ u) = λ j u e. first_only j v u e in
      record {
        serving = 0;
        writer = 0;
        now = f;
        core = record {
          words = refl;
          each = λ j u e. let o = only j u e in subst (λ (z : ℕ × View E). Fits 0 0 0 f z.0 z.1) (λ i. (sym o.0 i, o.1 i)) record {
            ticket = λ n d. absurd (not_some None n refl d);
            turn = λ g d. absurd (not_some None g refl d);
            spent = λ _. refl;
            knows = record {
              name = λ _. refl;
              past = record { seen = begins_same f.log; met = begins_same f.asks; tally = at_most_same f.tally };
              role = λ _. (refl, record { seen = refl; tally = refl });
              sight = le_refl f.mark;
              high = le_refl f.mark;
              spent = λ none. absurd (omega arith);
              mine = refl;
            };
            one = nobody_is_past f;
            other = nobody_is_past f;
            twin = λ live. absurd (omega arith);
          };
          apart = λ i j k a b ea eb ta tb. (only i a ea).0 ∙ sym ((only j b eb).0);
          shelf = (y, refl, refl);
        };
        whole = refl;
        asked = omega arith;
        reached = (0, v, refl, le_refl f.mark);
        mine = λ ask c. (0, v, refl, c);
      }
    where
      first_only : (j : ℕ) (v u : View E) → get_elem? (v ∷ []) j ≡ some u → (j ≡ 0) × (v ≡ u)
      first_only zero v u e = (refl, some-injective v u e)
      first_only (suc j) v u e = absurd (some-ne-none u (sym e))

  -- the one slot of a lock that the pass with all parts closes has a value that agrees with the pass
  pub closes : (id : ℕ) (v : View E) (ws : List ℕ) (xs : List (Option V)) → Final (Seen (Ruled facts) id v) ws xs → v.ticket ≡ None
      → v.known.held ≡ None → v.known.parts ≡ all_parts
      → (y : V) × (get_elem? xs 0 ≡ some (Some y)) × KnowsOf (facts y) v.known
  closes id v ws xs f free idle all =
      let s = f.0 in
      let r : Ruled facts s = f.1.0 in
      let at : get_elem? s.views id ≡ some v = f.1.1 in
      let none_inside : total has_turn s.views ≡ 0 = total_none has_turn s.views (λ j u e. dite (ℕ_discrete j id)
      (λ (same : j ≡ id). ap (λ (z : View E). count_some z.known.held) (some-injective u v (sym e ∙ (ap (λ i. get_elem? s.views i) same ∙ at)))
      ∙ ap count_some idle)
      (λ (ne : j ≢ id). let x = r.core.each j u e in
      let none_left : u.known.parts ≡ 0 = (let t = total_two parts_of s.views j id u v ne e at in let o = r.whole in omega arith) in
      ap count_some (none_where u.known.held (λ g d. not_some u.ticket r.serving (x.spent none_left) (x.turn g d).0)))) in
      let home : Shelf facts 0 r.now s.homes = subst (λ n. Shelf facts n r.now s.homes) none_inside r.core.shelf in (
        home.0,
        f.4 0 (Some home.0) (ap (λ l. get_elem? l 0) home.1),
        subst (λ (g : Facts E). KnowsOf g v.known) (sym home.2)
            (agrees facts s r id v at (omega arith)),
      )
