-- The steps keep the rule: a number is drawn, parts are offered, passes are split and joined. The opening, and the close.
use Rattle.std.proofs.Common.{◌≡◌, ◌≢◌, ℕ, zero, suc, ◌+◌, ◌<◌, List, [], ◌∷◌, ◌++◌, set, length, refl, sym, ap, ◌∙◌, subst, ⊎_elim, arith}
use Rattle.std.specs.Prelude.{slice_set, slice_index}
use Rattle.std.proofs.lemmas.List.{get_or-set_same, length-set}
use mathlib.Core.Option as slot
use mathlib.Core.Option.{some, some-injective, some-ne-none}
use prog.Atomic.{either}
use lib.Dec.{eqb}
use lib.ListN.{get_elem?}
use Rattle.atomic_table.specs.Table.{Act, step, keeps, Allows, Splits, Joins, Valid, stepped, carried_after, opening, Final, Seen}
use Rattle.atomic_table.proofs.Lists.{at_set, at_snoc, exchanged}
use Rattle.turn_lock.specs.Rule.{total}
use Rattle.turn_lock.proofs.Totals.{total_set, total_two, total_snoc, total_alone}
use Rattle.tickets.specs.declared.draws.Draws.{Draws}
use Rattle.tickets.specs.declared.view.View.{View}
use Rattle.tickets.specs.Draws.{all_parts, times, drawing}
use Rattle.tickets.specs.Rule.{TicketState, PassState, parts_of, times_of, first_view, spent_view, drawn_before, Ruled, Takes, Offers, kept_view, given_view, joined_view, Poised}

pub times_append : (number : ℕ) (xs ys : List ℕ) → times number (xs ++ ys) ≡ times number xs + times number ys
times_append number [] ys = omega arith
times_append number (x ∷ xs) ys = let h = times_append number xs ys in omega (arith, h)

-- one more number is drawn: this one once more, and the others as often
pub drawn_more : (next number : ℕ) → drawn_before (next + 1) number ≡ drawn_before next number + times number (next ∷ [])
drawn_more next number = grind arith

set_same : (l : List ℕ) (i : ℕ) → i < length l → set l i (slice_index l i) ≡ l
set_same [] i h = absurd (omega arith)
set_same (x ∷ xs) zero h = refl
set_same (x ∷ xs) (suc i) h = ap (λ l. x ∷ l) (set_same xs i (omega arith))

-- a step that leaves the word, and what the pass has
stays : (s : TicketState) (id : ℕ) (v w : View) (ws : List ℕ) (hs : List (slot.Option (Unit {0}))) → Ruled s → get_elem? s.views id ≡ some v
    → w.has ≡ v.has → ws ≡ s.words → Ruled record { words = ws; homes = hs; views = set s.views id w }
stays s id v w ws hs r at same words = record {
  some_word = subst (λ (l : List ℕ). 0 < length l) (sym words) r.some_word;
  once = λ number.
      let c = total_set (times_of number) s.views id v w at in
      let e : times_of number w ≡ times_of number v = ap (λ (h : Draws). times number h.drawn) same in
      let o = r.once number in
      let t : total (times_of number) (set s.views id w) ≡ total (times_of number) s.views = omega (arith, c, e) in
      t ∙ (o ∙ ap (λ (l : List ℕ). drawn_before (slice_index l 0) number) (sym words));
  spent = λ j u e none. ⊎_elim
      (λ (y : (j ≡ id) × (w ≡ u)). let f : w.has ≡ u.has = ap (λ (z : View). z.has) y.1 in
      subst (λ (h : Draws). h.drawn ≡ []) (sym same ∙ f) (r.spent id v at (ap (λ (h : Draws). h.parts) (sym same ∙ f) ∙ none)))
      (λ (y : (j ≢ id) × (get_elem? s.views j ≡ some u)). r.spent j u y.1 none)
      (at_set s.views id j w u e);
  whole = let c = total_set parts_of s.views id v w at in let e : w.has.parts ≡ v.has.parts = ap (λ (h : Draws). h.parts) same in
      let o = r.whole in omega (arith, c, e, o);
}

pub draws : (slots id next : ℕ) (me : PassState) → Poised me
    → Allows Ruled slots id me 0 (λ n. either (eqb n next) (next + 1) n) (Takes (step slots 0 next (next + 1) slot.none) me)
draws slots id next me h s r sized at _ =
    let v : View = me.0 in
    let n : ℕ = slice_index s.words 0 in
    let w : View = record v { has = drawing next v.has } in
    exchanged n next (next + 1)
    (λ m. (u : View) × (a : Act (Unit {0})) × Valid s.homes me.1 a × Ruled (stepped s 0 m id me.1 u a)
    × Takes (step slots 0 next (next + 1) slot.none) me n (u, carried_after me.1 a))
    (λ hit. (
      w,
      keeps,
      tt,
      record {
        some_word = let l = length-set s.words 0 (next + 1) in let o = r.some_word in omega (arith, l, o);
        once = λ number.
            let c = total_set (times_of number) s.views id v w at in
            let e : times_of number w ≡ times_of number v + times number (next ∷ []) = times_append number v.has.drawn (next ∷ []) in
            let o : total (times_of number) s.views ≡ drawn_before next number = r.once number ∙ ap (λ (k : ℕ). drawn_before k number) hit in
            let m = drawn_more next number in
            let t : total (times_of number) (set s.views id w) ≡ drawn_before (next + 1) number = omega (arith, c, e, o, m) in
            t ∙ ap (λ (k : ℕ). drawn_before k number) (sym (get_or-set_same s.words 0 (next + 1) 0 r.some_word));
        spent = λ j u e none. ⊎_elim
            (λ (y : (j ≡ id) × (w ≡ u)). let p : w.has.parts ≡ u.has.parts = ap (λ (z : View). z.has.parts) y.1 in let l = h.live in absurd (omega (arith, p, l, none)))
            (λ (y : (j ≢ id) × (get_elem? s.views j ≡ some u)). r.spent j u y.1 none)
            (at_set s.views id j w u e);
        whole = let c = total_set parts_of s.views id v w at in let o = r.whole in omega (arith, c, o);
      },
      ((λ _. ap (λ (k : ℕ). (record v { has = drawing k v.has }, me.1)) (sym hit)), λ miss. absurd (miss hit)),
    ))
    (λ miss. (v, keeps, tt, stays s id v v _ _ r at refl (set_same s.words 0 r.some_word), ((λ hit. absurd (miss hit)), λ _. refl)))

pub offers : (slots id : ℕ) (me : PassState) (parts : ℕ)
    → Allows Ruled slots id me 0 (λ n. either (eqb n parts) parts n) (Offers (step slots 0 parts parts slot.none) me)
offers slots id me parts s r _ at _ =
    let v : View = me.0 in
    let n : ℕ = slice_index s.words 0 in
    let same : either (eqb n parts) parts n ≡ n = exchanged n parts parts (λ (m : ℕ). m ≡ n) (λ e. sym e) (λ _. refl) in
    let words : slice_set s.words 0 (either (eqb n parts) parts n) ≡ s.words = ap (λ m. slice_set s.words 0 m) same ∙ set_same s.words 0 r.some_word in
    (record v { offer = parts }, keeps, tt, stays s id v (record v { offer = parts }) _ _ r at refl words, refl)

pub splits : (id : ℕ) (v : View) → 0 < v.offer → v.offer < v.has.parts → Splits Ruled id v (kept_view v) (given_view v)
splits id v some_parts some_left s r at =
    let left : View = kept_view v in
    let right : View = given_view v in
    let views : List View = set s.views id left in
    record {
      some_word = r.some_word;
      once = λ number.
          let a : total (times_of number) views + times_of number v ≡ total (times_of number) s.views + times_of number v = total_set (times_of number) s.views id v left at in
          let b : total (times_of number) (views ++ right ∷ []) ≡ total (times_of number) views + 0 = total_snoc (times_of number) views right in
          let o = r.once number in
          omega (arith, a, b, o);
      spent = λ j u e none. ⊎_elim
          (λ (lies : get_elem? views j ≡ some u). ⊎_elim
          (λ (y : (j ≡ id) × (left ≡ u)). let p : left.has.parts ≡ u.has.parts = ap (λ (z : View). z.has.parts) y.1 in absurd (omega (arith, p, none, some_left)))
          (λ (y : (j ≢ id) × (get_elem? s.views j ≡ some u)). r.spent j u y.1 none)
          (at_set s.views id j left u lies))
          (λ (same : right ≡ u). subst (λ (z : View). z.has.drawn ≡ []) same refl)
          (at_snoc views right u j e);
      whole = let a = total_set parts_of s.views id v left at in let b = total_snoc parts_of views right in let o = r.whole in
          omega (arith, a, b, o, some_left);
    }

pub joins : (id : ℕ) (v : View) (other : ℕ) (w : View) → 0 < v.has.parts → Joins Ruled id v other w (joined_view v w) spent_view
joins id v other w live s r at apart lies =
    let both : View = joined_view v w in
    let middle : List View = set s.views id both in
    let views : List View = set middle other spent_view in
    record {
      some_word = r.some_word;
      once = λ number.
          let e : times_of number both ≡ times_of number v + times_of number w = times_append number v.has.drawn w.has.drawn in
          let a = total_set (times_of number) s.views id v both at in
          let b : total (times_of number) views + times_of number w ≡ total (times_of number) middle + 0 = total_set (times_of number) middle other w spent_view lies in
          let o = r.once number in
          omega (arith, a, b, o, e);
      spent = λ j z e none. ⊎_elim
          (λ (y : (j ≡ other) × (spent_view ≡ z)). subst (λ (u : View). u.has.drawn ≡ []) y.1 refl)
          (λ (y : (j ≢ other) × (get_elem? middle j ≡ some z)). ⊎_elim
          (λ (o : (j ≡ id) × (both ≡ z)). let p : both.has.parts ≡ z.has.parts = ap (λ (u : View). u.has.parts) o.1 in absurd (omega (arith, p, none, live)))
          (λ (o : (j ≢ id) × (get_elem? s.views j ≡ some z)). r.spent j z o.1 none)
          (at_set s.views id j both z y.1))
          (at_set middle other j spent_view z e);
      whole = let a = total_set parts_of s.views id v both at in let b : total parts_of views + w.has.parts ≡ total parts_of middle + 0 = total_set parts_of middle other w spent_view lies in
          let o = r.whole in omega (arith, a, b, o);
    }

none_yet : (number : ℕ) → 0 ≡ drawn_before 0 number
none_yet number = grind arith

pub opens : (ws : List ℕ) (xs : List (Unit {0})) → ws ≡ 0 ∷ [] → Ruled (opening ws xs first_view)
opens ws xs one = subst (λ (l : List ℕ). Ruled (opening l xs first_view)) (sym one) record {
  some_word = omega arith;
  once = λ number. none_yet number;
  spent = λ j u e none. subst (λ (z : View). z.has.drawn ≡ []) (first_only j first_view u e) refl;
  whole = refl;
}
  where
    first_only : (j : ℕ) (v u : View) → get_elem? (v ∷ []) j ≡ some u → v ≡ u
    first_only zero v u e = some-injective v u e
    first_only (suc j) v u e = absurd (some-ne-none u (sym e))

-- at the close by the pass with all parts each number below the word was drawn once by it, and no other
pub closes : (id : ℕ) (v : View) (ws : List ℕ) (xs : List (Unit {0})) → Final (Seen Ruled id v) ws xs → v.has.parts ≡ all_parts
    → (number : ℕ) → times number v.has.drawn ≡ drawn_before (slice_index ws 0) number
closes id v ws xs f all number =
    let s = f.0 in
    let r : Ruled s = f.1.0 in
    let at : get_elem? s.views id ≡ some v = f.1.1 in
    let mine : total (times_of number) s.views ≡ times_of number v = total_alone (times_of number) s.views id v at
    (λ j u ne e. let t = total_two parts_of s.views j id u v ne e at in let o = r.whole in
    ap (times number) (r.spent j u e (omega (arith, t, o, all)))) in
    sym mine ∙ (r.once number ∙ ap (λ (l : List ℕ). drawn_before (slice_index l 0) number) f.2)

pub splits_at : (id : ℕ) (m m' : PassState) (parts : ℕ) → 0 < parts → parts < m.0.has.parts → m' ≡ (record m.0 { offer = parts }, m.1)
    → Splits Ruled id m'.0 (kept_view m'.0) (given_view m'.0)
splits_at id m m' parts some_parts some_left e =
    subst (λ (z : PassState). Splits Ruled id z.0 (kept_view z.0) (given_view z.0)) (sym e) (splits id (record m.0 { offer = parts }) some_parts some_left)

-- what was drawn, by the word that was read of the closed table
pub closed_at : (id next : ℕ) (m : PassState) (has : Draws) (ws : List ℕ) (xs : List (Unit {0})) → Final (Seen Ruled id m.0) ws xs → m.0.has ≡ has
    → has.parts ≡ all_parts → get_elem? ws 0 ≡ some next → (number : ℕ) → times number has.drawn ≡ drawn_before next number
closed_at id next m has ws xs f is all read number =
    subst (λ (h : Draws). times number h.drawn ≡ drawn_before next number) is
    (closes id m.0 ws xs f (ap (λ (h : Draws). h.parts) is ∙ all) number ∙ ap (λ (k : ℕ). drawn_before k number) (at_zero ws next read))
  where
    at_zero : (l : List ℕ) (k : ℕ) → get_elem? l 0 ≡ some k → slice_index l 0 ≡ k
    at_zero [] k e = absurd (some-ne-none k (sym e))
    at_zero (x ∷ xs) k e = some-injective x k e
