-- Rows, one more, and the objects of two lists.
use Rattle.std.proofs.Common.{◌≡◌, ℕ, Bool, true, false, cond, eqb, ◌||◌, List, [], ◌∷◌, ◌++◌, Some, refl, sym, ap, ◌∙◌, arith}
use Rattle.std.specs.Prelude.{nat_eq}
use Rattle.std.specs.List.{Contains}
use Rattle.std.specs.Set.{is_member}
use Rattle.std.proofs.lemmas.List.{map_push}
use Rattle.std.proofs.lemmas.List.Folds.{list_any-append}
use Rattle.std.proofs.lemmas.Bool.Decides.{nat_tests}
use Rattle.ranked_list.specs.declared.row.Row.{Row}
use Rattle.ranked_list.specs.Table.{objects}
use Rattle.ranked_list.specs.Rows.{last_row, TellsObjects}
use Rattle.ranked_list.proofs.Members.{Within, member_from_contains, contains_from_member}

pub last_row-push : (rows : List Row) (row : Row) → last_row (rows ++ row ∷ []) ≡ Some row
last_row-push [] row = refl
last_row-push (first ∷ []) row = refl
last_row-push (first ∷ next ∷ rows) row = last_row-push (next ∷ rows) row

-- a row more has its object among the objects
pub is_member-push : (rows : List Row) (row : Row) (object : ℕ)
    → is_member nat_eq (objects (rows ++ row ∷ [])) object ≡ (is_member nat_eq (objects rows) object || eqb object row.object)
is_member-push rows row object =
    ap (λ xs. is_member nat_eq xs object) (map_push (λ (r : Row). r.object) rows row)
    ∙ list_any-append (eqb object) (objects rows) (row.object ∷ [])
    ∙ ap (λ b. is_member nat_eq (objects rows) object || b) (or_none (eqb object row.object))
  where
    or_none : (b : Bool) → (b || false) ≡ b
    or_none true = refl
    or_none false = refl

eqb_comm : (a b : ℕ) → eqb a b ≡ eqb b a
eqb_comm a b = grind (arith, nat_tests)

-- a set with the object more tells the objects of the rows with the row more
pub TellsObjects-push : (before after : ℕ → Bool) (rows : List Row) (row : Row) → TellsObjects before rows
    → ((object : ℕ) → after object ≡ cond (eqb row.object object) true (before object)) → TellsObjects after (rows ++ row ∷ [])
TellsObjects-push before after rows row tells adds = λ object.
    adds object ∙ ap (cond (eqb row.object object) true) (tells object) ∙ by_test (eqb row.object object) (eqb object row.object) (is_member nat_eq (objects rows) object) (eqb_comm row.object object)
    ∙ sym (is_member-push rows row object)
  where
    by_test : (t u b : Bool) → t ≡ u → cond t true b ≡ (b || u)
    by_test true true true e = refl
    by_test true true false e = refl
    by_test false false true e = refl
    by_test false false false e = refl
    by_test true false b e = absurd cc
    by_test false true b e = absurd cc

-- each object of the one list is an object of the other
abbrev pub SameObjects : List Row → List Row → Type 0
SameObjects rows others = (object : ℕ) → Contains (objects rows) object → Contains (objects others) object

pub same_from_within : (rows others : List Row) → Within (objects rows) (objects others) → SameObjects rows others
same_from_within rows others within object has = contains_from_member (objects others) object (within object (member_from_contains (objects rows) object has))

pub within_from_same : (rows others : List Row) → SameObjects rows others → Within (objects rows) (objects others)
within_from_same rows others same object has = member_from_contains (objects others) object (same object (contains_from_member (objects rows) object has))
