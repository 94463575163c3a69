-- Names, expressions and terms that are passed one after another.
use Rattle.std.proofs.Common.{◌≡◌, ◌<◌, ℕ, List, length, map, get_or, slice_get, option_map, Some, sym, ap, subst, ◌∙◌}
use Rattle.std.specs.Global.{Vec}
use Rattle.std.specs.Slice.Iter.{iter_rest}
use Rattle.std.proofs.lemmas.Fn.{fronts}
use Rattle.std.proofs.lemmas.List.{length-map}
use Rattle.std.proofs.lemmas.Option.{slice_get-get_or, slice_get-map}
use Rattle.std.proofs.lemmas.Iterator.{YieldsList}
use Rattle.std.proofs.lemmas.Iterator.Consumers.{YieldsList-from_shown}
use Rattle.query_text.specs.Bytes.{bytes_of}

-- an iterator over texts gives the names that they spell
pub names_given : {s : _} (names : List (List ℕ)) → bytes_of (iter_rest s) ≡ names → YieldsList fronts (λ y. y.now.items) s names
names_given {s} names e =
    subst (YieldsList fronts (λ y. y.now.items) s) e
    (YieldsList-from_shown fronts (λ y. y.now.items) (λ t. bytes_of (iter_rest t)) (λ t u h. length-map (iter_rest t) _ ∙ h.0) (λ t x u h. ap bytes_of h) s)

-- an iterator over values that a contract sees through f gives what it sees
pub shown_given : {A B : Type 0} {s : _} (f : A → B) (ys : List B) → map f (iter_rest s) ≡ ys → YieldsList fronts (λ y. f y.now) s ys
shown_given {A} {B} {s} f ys e =
    subst (YieldsList fronts (λ y. f y.now) s) e
    (YieldsList-from_shown fronts (λ y. f y.now) (λ t. map f (iter_rest t)) (λ t u h. length-map (iter_rest t) f ∙ h.0) (λ t x u h. ap (map f) h) s)

-- what a turn at a place gives stands there
pub stands_there : {B : Type 0} (ys : List B) (place : ℕ) (y : B) {past : ℕ} → place ≡ past → (past < length ys) × (y ≡ get_or ys past y) → slice_get ys place ≡ Some y
stands_there ys place y {past} e t = rw e (slice_get-get_or ys past y t.0 ∙ ap Some (sym t.1))

-- the name of a text that stands at a place
pub name_there : (texts : List (Vec ℕ)) (place : ℕ) (text : Vec ℕ) (bytes : List ℕ) → place < length texts → text ≡ get_or texts place text → bytes ≡ text.items
    → Some bytes ≡ slice_get (bytes_of texts) place
name_there texts place text bytes within at is =
    ap Some is
    ∙ sym (slice_get-map (λ (t : Vec ℕ). t.items) texts place ∙ ap (option_map (λ (t : Vec ℕ). t.items)) (slice_get-get_or texts place text within ∙ ap Some (sym at)))
