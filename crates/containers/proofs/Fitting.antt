-- What a map of distinct keys within its room promises.
use Rattle.std.proofs.Common.{◌≡◌, ◌≢◌, ◌<◌, ◌≤◌, ◌+◌, ℕ, suc, Bool, true, false, cond, eqb, List, [], ◌∷◌, ◌++◌, Option, Some, None, length, nat_eq, Contains, refl, sym, ap, subst, ◌∙◌, arith, eqb-true}
use Rattle.std.specs.List.{position, position_from}
use Rattle.std.proofs.lemmas.Bool.Decides.{nat_tests}
use Rattle.std.proofs.lemmas.List.{length_push, get_or_default}
use Rattle.std.proofs.lemmas.List.Quantifiers.{all_pairs_push}
use Rattle.std.proofs.lemmas.Iterator.Adapters.{position_from-zero}
use Rattle.containers.specs.Values.{Values, IsSame, IsSet}
use Rattle.containers.specs.Keys.{Keys, FitsRoom, AreKeysKept}
use Rattle.topk_base.specs.declared.TheConstants.{MAX_OBJECTS}

pub keys_fit : (map : Keys) (room : ℕ) (keys : List ℕ) (capacity : ℕ) (places : Values ℕ)
    → (let shown : Keys = record { room = room; keys = keys } in shown ≡ map)
    → AreKeysKept room keys capacity places → FitsRoom map
keys_fit map room keys capacity places e kept = subst FitsRoom e (record { few = kept.few; within = kept.within; distinct = kept.distinct })

-- what holds of no key of a longer list holds of none of a shorter one
no_more : (key first : ℕ) (keys : List ℕ) → (¬ Contains (first ∷ keys) key) → (key ≢ first) × (¬ Contains keys key)
no_more key first keys absent = (λ e. absent (0, omega arith, sym e), λ there. absent (suc there.0, omega (arith, there.1), there.2))

differ : (a b : ℕ) → a ≢ b → eqb a b ≡ false
differ a b ne = grind (arith, nat_tests)

-- a key that is added has the last place, and each other keeps its own
from_more : (key other i : ℕ) (keys : List ℕ) → (¬ Contains keys key)
    → position_from (nat_eq other) i (keys ++ key ∷ []) ≡ cond (eqb key other) (Some (i + length keys)) (position_from (nat_eq other) i keys)
from_more key other i [] absent = let same : i ≡ i + 0 = omega arith in by_test (eqb other key) (eqb key other) (eqb_comm other key) ∙ ap (λ n. cond (eqb key other) (Some n) None) same
  where
    eqb_comm : (a b : ℕ) → eqb a b ≡ eqb b a
    eqb_comm a b = grind (arith, nat_tests)

    by_test : (t u : Bool) → t ≡ u → cond {A = Option ℕ} t (Some i) None ≡ cond u (Some i) None
    by_test t u e = ap (λ b. cond b (Some i) None) e
from_more key other i (first ∷ keys) absent =
    let less = no_more key first keys absent in
    let same : (i + 1) + length keys ≡ i + suc (length keys) = omega arith in
    by_test (eqb other first) refl (from_more key other (i + 1) keys less.1 ∙ ap (λ n. cond (eqb key other) (Some n) (position_from (nat_eq other) (i + 1) keys)) same) less.0
  where
    by_test : (t : Bool) → eqb other first ≡ t
        → position_from (nat_eq other) (i + 1) (keys ++ key ∷ []) ≡ cond (eqb key other) (Some (i + suc (length keys))) (position_from (nat_eq other) (i + 1) keys)
        → key ≢ first
        → cond t (Some i) (position_from (nat_eq other) (i + 1) (keys ++ key ∷ []))
        ≡ cond (eqb key other) (Some (i + suc (length keys))) (cond t (Some i) (position_from (nat_eq other) (i + 1) keys))
    by_test true is more ne =
        let apart : eqb key other ≡ false = differ key other (λ e. ne (e ∙ eqb-true other first is)) in
        sym (ap (λ b. cond b (Some (i + suc (length keys))) (Some i)) apart)
    by_test false is more ne = more

pub position_more : (key other : ℕ) (keys : List ℕ) → (¬ Contains keys key)
    → position (nat_eq other) (keys ++ key ∷ []) ≡ cond (eqb key other) (Some (length keys)) (position (nat_eq other) keys)
position_more key other keys absent =
    let same : 0 + length keys ≡ length keys = omega arith in
    position_from-zero (nat_eq other) (keys ++ key ∷ [])
    ∙ from_more key other 0 keys absent
    ∙ ap (λ n. cond (eqb key other) (Some n) (position_from (nat_eq other) 0 keys)) same
    ∙ ap (λ o. cond (eqb key other) (Some (length keys)) o) (sym (position_from-zero (nat_eq other) keys))

-- what is kept once a key is added
pub kept_more : (room key : ℕ) (keys others : List ℕ) (capacity wide : ℕ) (places after : Values ℕ) → AreKeysKept room keys capacity places
    → (¬ Contains keys key) → length keys < room → others ≡ keys ++ key ∷ [] → capacity ≤ wide → IsSet places after key (length keys)
    → places.spare ≤ after.spare + 1 → AreKeysKept room others wide after
kept_more room key keys others capacity wide places after kept absent fits is wider set spare =
    subst (λ (ks : List ℕ). AreKeysKept room ks wide after) (sym is) (record {
      few = kept.few;
      within = let size = length_push keys key in omega arith;
      held = let held = kept.held in omega arith;
      spare = let size = length_push keys key in let had = kept.spare in omega arith;
      distinct = all_pairs_push (λ (a : ℕ) (b : ℕ). a ≢ b) keys key kept.distinct (λ k d within e. absent (k, within, get_or_default keys k key d within ∙ e));
      placed = λ other. set other ∙ ap (cond (eqb key other) (Some (length keys))) (kept.placed other) ∙ sym (position_more key other keys absent);
    })

-- what is kept once the room is greater, and memory is held for it
pub kept_wider : (old room : ℕ) (keys now : List ℕ) (capacity wide : ℕ) (places held after : Values ℕ) → AreKeysKept old keys capacity places
    → room ≤ MAX_OBJECTS → old < room → now ≡ keys → room ≤ wide → room ≤ length keys + after.spare → IsSame places held → IsSame held after
    → AreKeysKept room now wide after
kept_wider old room keys now capacity wide places held after kept few more is roomy spare reserved widened =
    subst (λ (ks : List ℕ). AreKeysKept room ks wide after) (sym is) (record {
      few = few;
      within = let fits = kept.within in omega arith;
      held = roomy;
      spare = spare;
      distinct = kept.distinct;
      placed = λ key. widened key ∙ reserved key ∙ kept.placed key;
    })

pub no_less : (map : Keys) (old room : ℕ) (keys : List ℕ) → (let shown : Keys = record { room = old; keys = keys } in shown ≡ map) → old < room → map.room ≤ room
no_less map old room keys is more =
    let fits : old ≤ room = omega arith in
    subst (λ (k : Keys). k.room ≤ room) is fits
