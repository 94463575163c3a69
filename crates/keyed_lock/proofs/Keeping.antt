-- The steps on a lock keep its rule: a value is taken and given back, parts are offered, passes are split and joined. The opening, and the close.
use Rattle.std.proofs.Common.{◌≡◌, ◌≢◌, ℕ, zero, suc, ◌+◌, ◌<◌, List, [], ◌∷◌, ◌++◌, set, length, map, Option, Some, None, slice_index_or, refl, sym, ap, ◌∙◌, subst, ⊎_elim, arith}
use Rattle.std.specs.Prelude.{slice_set, slice_index}
use Rattle.std.proofs.lemmas.List.{get_or-set_same, get_or-set_other, length-set, length-map}
use mathlib.Core.Option as slot
use mathlib.Core.Option.{some, some-injective, some-ne-none}
use mathlib.Core.Logic.{dite}
use native.Mathlib.Decide.{ℕ_discrete}
use prog.Atomic.{either}
use lib.Dec.{eqb}
use lib.ListN.{get_elem?}
use Rattle.atomic_table.specs.Table.{Act, step, keeps, takes, gives, Allows, Splits, Joins, Valid, stepped, carried_after, homes_after, put_back, opening, Final, Seen}
use Rattle.atomic_table.proofs.Lists.{at_set, at_snoc, set_else, exchanged}
use Rattle.turn_lock.specs.Rule.{total}
use Rattle.turn_lock.proofs.Totals.{total_set, total_at, total_none, total_two, total_snoc, set_there}
use Rattle.keyed_lock.proofs.Places.{held_here, held_else, there, placed, at_map, set_same}
use Rattle.keyed_lock.specs.declared.hold.Hold.{Hold}
use Rattle.keyed_lock.specs.declared.view.View.{View}
use Rattle.keyed_lock.specs.Hold.{all_parts, holding, KeepAll, KeepsFact}
use Rattle.keyed_lock.specs.Rule.{LockState, PassState, count_held, parts_of, has_value, first_view, spent_view, Fits, Home, IsKept, Ruled}
use Rattle.keyed_lock.specs.Steps.{Grabs, Releases, Offers, kept_view, given_view, joined_view}
use Rattle.keyed_lock.specs.Seats.{Poised}

same_key : {K : Type 0} (o : Option K) (a b : K) → o ≡ Some a → o ≡ Some b → a ≡ b
same_key o a b e d = cc

module _ {V K : Type 0} (fact : K → ℕ → V → Type 0) where
  -- what holds of a place still does where its word, its slot, and how many have its value stay
  kept_on : (key : K) (place : ℕ) (s t : LockState V K) → IsKept fact key place s → slice_index t.words place ≡ slice_index s.words place
      → total (has_value place) t.views ≡ total (has_value place) s.views → get_elem? t.homes place ≡ get_elem? s.homes place → IsKept fact key place t
  kept_on key place s t k word count home = record {
    word = word ∙ (k.word ∙ sym count);
    alone = let a = k.alone in omega arith;
    home = subst (λ n. Home fact key place n (get_elem? t.homes place)) (sym count)
        (subst (λ h. Home fact key place (total (has_value place) s.views) h) (sym home) k.home);
  }

  -- a step at one place keeps the rule where the parts of the pass stay, its new view fits, and what holds of this place still does
  carries : (key : K) (s : LockState V K) (id place : ℕ) (v w : View K) (ws : List ℕ) (hs : List (slot.Option (Option V))) → Ruled fact key s
      → get_elem? s.views id ≡ some v → w.hold.parts ≡ v.hold.parts → Fits key w → length ws ≡ length s.words → length hs ≡ length s.homes
      → ((other : ℕ) → other ≢ place → slice_index ws other ≡ slice_index s.words other)
      → ((other : ℕ) → other ≢ place → get_elem? hs other ≡ get_elem? s.homes other)
      → ((other : ℕ) → other ≢ place → has_value other w ≡ has_value other v)
      → IsKept fact key place record { words = ws; homes = hs; views = set s.views id w }
      → Ruled fact key record { words = ws; homes = hs; views = set s.views id w }
  carries key s id place v w ws hs r at parts fits long wide words homes counts here =
      let t : LockState V K = record { words = ws; homes = hs; views = set s.views id w } in
      record {
        long = let l = r.long in omega arith;
        places = λ other l. dite (ℕ_discrete other place)
            (λ (e : other ≡ place). subst (λ p. IsKept fact key p t) (sym e) here)
            (λ (ne : other ≢ place). kept_on key other s t (r.places other (omega arith)) (words other ne)
            (let c = total_set (has_value other) s.views id v w at in let e = counts other ne in omega arith) (homes other ne));
        each = λ j u e. ⊎_elim
            (λ (x : (j ≡ id) × (w ≡ u)). subst (λ (z : View K). Fits key z) x.1 fits)
            (λ (x : (j ≢ id) × (get_elem? s.views j ≡ some u)). r.each j u x.1)
            (at_set s.views id j w u e);
        whole = let c = total_set parts_of s.views id v w at in let o = r.whole in omega arith;
      }

  -- a step that leaves the words, the slots, and what the pass has
  stays : (key : K) (s : LockState V K) (id : ℕ) (v w : View K) (ws : List ℕ) → Ruled fact key s → get_elem? s.views id ≡ some v
      → w.hold ≡ v.hold → ws ≡ s.words → Ruled fact key record { words = ws; homes = s.homes; views = set s.views id w }
  stays key s id v w ws r at same words =
      let x = r.each id v at in
      let t : LockState V K = record { words = ws; homes = s.homes; views = set s.views id w } in
      record {
        long = let l = r.long in let e : length ws ≡ length s.words = ap length words in omega arith;
        places = λ place l. kept_on key place s t (r.places place l) (ap (λ xs. slice_index xs place) words)
            (let c = total_set (has_value place) s.views id v w at in
            let e : has_value place w ≡ has_value place v = ap (λ (h : Hold K). count_held place h.held) same in omega arith) refl;
        each = λ j u e. ⊎_elim
            (λ (y : (j ≡ id) × (w ≡ u)). subst (λ (z : View K). Fits key z) y.1 record {
              live = λ l. ap (λ (h : Hold K). h.key) same ∙ x.live (subst (λ (h : Hold K). 0 < h.parts) same l);
              spent = λ none. ap (λ (h : Hold K). h.held) same ∙ x.spent (ap (λ (h : Hold K). h.parts) (sym same) ∙ none);
            })
            (λ (y : (j ≢ id) × (get_elem? s.views j ≡ some u)). r.each j u y.1)
            (at_set s.views id j w u e);
        whole = let c = total_set parts_of s.views id v w at in let e : w.hold.parts ≡ v.hold.parts = ap (λ (h : Hold K). h.parts) same in
            let o = r.whole in omega arith;
      }

  pub grabs : (slots id place : ℕ) (key : K) (me : PassState V K) → place < slots → Poised me → me.0.hold.held ≡ None
      → Allows (Ruled fact key) slots id me place (λ n. either (eqb n 0) 1 n) (Grabs fact (step slots place 0 1 slot.none) me)
  grabs slots id place key me below h idle s r sized at _ =
      let v : View K = me.0 in
      let x = r.each id v at in
      let long = r.long in
      let inside : place < length s.homes = omega arith in
      let lies : place < length s.words = omega arith in
      let k = r.places place inside in
      let n : ℕ = slice_index s.words place in
      let none_mine : has_value place v ≡ 0 = ap (count_held place) idle in
      let w : View K = record v { hold = holding (Some place) v.hold } in
      let t : total (has_value place) (set s.views id w) + has_value place v ≡ total (has_value place) s.views + has_value place w =
      total_set (has_value place) s.views id v w at in
      let mine : has_value place w ≡ 1 = held_here place in
      exchanged n 0 1
      (λ m. (u : View K) × (a : Act (Option V)) × Valid s.homes me.1 a × Ruled fact key (stepped s place m id me.1 u a)
      × Grabs fact (step slots place 0 1 slot.none) me n (u, carried_after me.1 a))
      (λ hit.
      let free : total (has_value place) s.views ≡ 0 = sym k.word ∙ hit in
      let home : Home fact key place 0 (get_elem? s.homes place) = subst (λ m. Home fact key place m (get_elem? s.homes place)) free k.home in
      let y : V = home.0 in
      let one : total (has_value place) (set s.views id w) ≡ 1 = omega arith in (
        w,
        takes place (Some y),
        home.1,
        carries key s id place v w _ _ r at refl record { live = x.live; spent = λ none. absurd (let l = h.live in omega arith) }
            (length-set s.words place 1) (length-set s.homes place slot.none)
            (λ other ne. get_or-set_other s.words place other 1 0 ne)
            (λ other ne. set_else s.homes place other slot.none ne)
            (λ other ne. held_else other place (λ e. ne (sym e)) ∙ sym (ap (count_held other) idle))
            record {
              word = get_or-set_same s.words place 1 0 lies ∙ sym one;
              alone = omega arith;
              home = subst (λ m. Home fact key place m (get_elem? (set s.homes place slot.none) place)) (sym one)
                  (set_there s.homes place (some (Some y)) slot.none home.1);
            },
        (
          (λ _. (
            y,
            ap (λ l. (w, (place, Some y) ∷ l)) (h.rests idle),
            record { kept = λ own e. subst (λ (z : K). fact z place y) (same_key v.hold.key key own (x.live h.live) e) home.2 },
          )),
          λ miss. absurd (miss hit),
        ),
      ))
      (λ miss. (
        v,
        keeps,
        tt,
        stays key s id v v _ r at refl (set_same s.words place 0 lies),
        ((λ hit. absurd (miss hit)), λ _. refl),
      ))

  pub releases : (slots id place : ℕ) (key : K) (me : PassState V K) (y : V) → place < slots → 0 < me.0.hold.parts → me.0.hold.held ≡ Some place
      → me.1 ≡ (place, Some y) ∷ [] → KeepsFact fact me.0.hold place y
      → Allows (Ruled fact key) slots id me place (λ _. 0) (λ _. Releases (step slots place 0 0 slot.none) me 0)
  releases slots id place key me y below live held handle kept s r sized at _ =
      let v : View K = me.0 in
      let x = r.each id v at in
      let long = r.long in
      let inside : place < length s.homes = omega arith in
      let lies : place < length s.words = omega arith in
      let k = r.places place inside in
      let mine : has_value place v ≡ 1 = ap (count_held place) held ∙ held_here place in
      let w : View K = record v { hold = holding None v.hold } in
      let t : total (has_value place) (set s.views id w) + has_value place v ≡ total (has_value place) s.views + 0 =
      total_set (has_value place) s.views id v w at in
      let most = k.alone in
      let least = total_at (has_value place) s.views id v at in
      let taken : total (has_value place) s.views ≡ 1 = omega arith in
      let none_left : total (has_value place) (set s.views id w) ≡ 0 = omega arith in
      let out : get_elem? s.homes place ≡ some slot.none = subst (λ m. Home fact key place m (get_elem? s.homes place)) taken k.home in
      let back : homes_after s.homes me.1 gives ≡ set s.homes place (some (Some y)) = ap (put_back s.homes) handle in (
        w,
        gives,
        tt,
        carries key s id place v w _ _ r at refl record { live = x.live; spent = λ _. refl }
            (length-set s.words place 0) (ap length back ∙ length-set s.homes place (some (Some y)))
            (λ other ne. get_or-set_other s.words place other 0 0 ne)
            (λ other ne. ap (λ l. get_elem? l other) back ∙ set_else s.homes place other (some (Some y)) ne)
            (λ other ne. sym (ap (count_held other) held ∙ held_else other place (λ e. ne (sym e))))
            record {
              word = get_or-set_same s.words place 0 0 lies ∙ sym none_left;
              alone = omega arith;
              home = subst (λ m. Home fact key place m (get_elem? (homes_after s.homes me.1 gives) place)) (sym none_left)
                  (y, ap (λ l. get_elem? l place) back ∙ set_there s.homes place slot.none (some (Some y)) out, kept.kept key (x.live live));
            },
        refl,
      )

  pub offers : (slots id : ℕ) (key : K) (me : PassState V K) (parts : ℕ)
      → Allows (Ruled fact key) slots id me 0 (λ n. either (eqb n parts) parts n) (Offers (step slots 0 parts parts slot.none) me)
  offers slots id key me parts s r _ at _ =
      let v : View K = me.0 in
      let n : ℕ = slice_index s.words 0 in
      let long = r.long in
      let lies : 0 < length s.words = omega arith in
      let same : either (eqb n parts) parts n ≡ n = exchanged n parts parts (λ (m : ℕ). m ≡ n) (λ e. sym e) (λ _. refl) in
      let words : slice_set s.words 0 (either (eqb n parts) parts n) ≡ s.words = ap (λ m. slice_set s.words 0 m) same ∙ set_same s.words 0 0 lies in
      (record v { offer = parts }, keeps, tt, stays key s id v (record v { offer = parts }) _ r at refl words, refl)

  pub splits : (id : ℕ) (key : K) (v : View K) → v.hold.held ≡ None → 0 < v.offer → v.offer < v.hold.parts
      → Splits (Ruled fact key) id v (kept_view v) (given_view v)
  splits id key v idle some_parts some_left s r at =
      let x = r.each id v at in
      let left : View K = kept_view v in
      let right : View K = given_view v in
      let views : List (View K) = set s.views id left in
      let t : LockState V K = record { words = s.words; homes = s.homes; views = views ++ right ∷ [] } in
      let live : v.hold.key ≡ Some key = x.live (omega arith) in
      record {
        long = r.long;
        places = λ place l. kept_on key place s t (r.places place l) refl
            (let none_mine : has_value place v ≡ 0 = ap (count_held place) idle in
            let a : total (has_value place) views + has_value place v ≡ total (has_value place) s.views + has_value place v =
            total_set (has_value place) s.views id v left at in
            let b : total (has_value place) (views ++ right ∷ []) ≡ total (has_value place) views + has_value place v =
            total_snoc (has_value place) views right in omega arith) refl;
        each = λ j u e. ⊎_elim
            (λ (lies : get_elem? views j ≡ some u). ⊎_elim
            (λ (y : (j ≡ id) × (left ≡ u)). subst (λ (z : View K). Fits key z) y.1 record { live = λ _. live; spent = λ _. idle })
            (λ (y : (j ≢ id) × (get_elem? s.views j ≡ some u)). r.each j u y.1)
            (at_set s.views id j left u lies))
            (λ (same : right ≡ u). subst (λ (z : View K). Fits key z) same record { live = λ _. live; spent = λ _. idle })
            (at_snoc views right u j e);
        whole = let a = total_set parts_of s.views id v left at in let b = total_snoc parts_of views right in let o = r.whole in omega arith;
      }

  pub joins : (id : ℕ) (key : K) (v : View K) (other : ℕ) (w : View K) → v.hold.held ≡ None → w.hold.held ≡ None → 0 < v.hold.parts
      → Joins (Ruled fact key) id v other w (joined_view v w) spent_view
  joins id key v other w idle idle' live s r at apart lies =
      let both : View K = joined_view v w in
      let middle : List (View K) = set s.views id both in
      let views : List (View K) = set middle other spent_view in
      let t : LockState V K = record { words = s.words; homes = s.homes; views = views } in
      let x = r.each id v at in
      record {
        long = r.long;
        places = λ place l. kept_on key place s t (r.places place l) refl
            (let none_theirs : has_value place w ≡ 0 = ap (count_held place) idle' in
            let a : total (has_value place) middle + has_value place v ≡ total (has_value place) s.views + has_value place v =
            total_set (has_value place) s.views id v both at in
            let b : total (has_value place) views + has_value place w ≡ total (has_value place) middle + 0 =
            total_set (has_value place) middle other w spent_view lies in omega arith) refl;
        each = λ j z e. ⊎_elim
            (λ (y : (j ≡ other) × (spent_view ≡ z)). subst (λ (o : View K). Fits key o) y.1
            record { live = λ none. absurd (omega arith); spent = λ _. refl })
            (λ (y : (j ≢ other) × (get_elem? middle j ≡ some z)). ⊎_elim
            (λ (o : (j ≡ id) × (both ≡ z)). subst (λ (k : View K). Fits key k) o.1 record { live = λ _. x.live live; spent = λ _. idle })
            (λ (o : (j ≢ id) × (get_elem? s.views j ≡ some z)). r.each j z o.1)
            (at_set s.views id j both z y.1))
            (at_set middle other j spent_view z e);
        whole = let a = total_set parts_of s.views id v both at in let b = total_set parts_of middle other w spent_view lies in let o = r.whole in
            omega arith;
      }

  pub opens : (key : K) (ws : List ℕ) (values : List V) → length values < length ws → ((i : ℕ) → i < length ws → slice_index ws i ≡ 0)
      → KeepAll fact key values → Ruled fact key (opening ws (map Some values) (first_view key))
  opens key ws values more zeros keep =
      let long : length (map some (map Some values)) ≡ length values = length-map (map Some values) some ∙ length-map values Some in
      record {
        long = omega arith;
        places = λ place l.
            let d = (there values place (omega arith)).0 in
            let mine = placed values place d (omega arith) in
            record {
              word = zeros place (omega arith);
              alone = omega arith;
              home = (
                slice_index_or values place d,
                at_map some (map Some values) place (Some (slice_index_or values place d)) (at_map Some values place (slice_index_or values place d) mine),
                keep.each place d (omega arith),
              );
            };
        each = λ j u e. subst (λ (z : View K). Fits key z) (first_only j (first_view key) u e) record { live = λ _. refl; spent = λ _. refl };
        whole = refl;
      }
    where
      first_only : (j : ℕ) (v u : View K) → get_elem? (v ∷ []) j ≡ some u → v ≡ u
      first_only zero v u e = some-injective v u e
      first_only (suc j) v u e = absurd (some-ne-none u (sym e))

  -- at the close by the pass with all parts each slot has a value that keeps the fact
  pub closes : (id : ℕ) (key : K) (v : View K) (ws : List ℕ) (xs : List (Option V)) → Final (Seen (Ruled fact key) id v) ws xs
      → v.hold.held ≡ None → v.hold.parts ≡ all_parts
      → (place : ℕ) → place < length xs → (y : V) × (get_elem? xs place ≡ some (Some y)) × fact key place y
  closes id key v ws xs f idle all place below =
      let s = f.0 in
      let r : Ruled fact key s = f.1.0 in
      let at : get_elem? s.views id ≡ some v = f.1.1 in
      let wide : length s.homes ≡ length xs = f.3 in
      let none_out : total (has_value place) s.views ≡ 0 = total_none (has_value place) s.views (λ j u e. dite (ℕ_discrete j id)
      (λ (same : j ≡ id). ap (λ (z : View K). has_value place z) (some-injective u v (sym e ∙ (ap (λ i. get_elem? s.views i) same ∙ at)))
      ∙ ap (count_held place) idle)
      (λ (ne : j ≢ id). let t = total_two parts_of s.views j id u v ne e at in let o = r.whole in
      ap (count_held place) ((r.each j u e).spent (omega arith)))) in
      let home : Home fact key place 0 (get_elem? s.homes place) = subst (λ n. Home fact key place n (get_elem? s.homes place)) none_out
      (r.places place (omega arith)).home in
      (home.0, f.4 place (Some home.0) home.1, home.2)
