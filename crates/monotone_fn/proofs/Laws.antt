-- The laws of expressions: each is monotone, the value lies between low and high, and the value at the top grades bounds it.
use Rattle.std.proofs.Common.{◌≡◌, ℕ, ◌<◌, ◌≤◌, List, [], ◌∷◌, length, get_or, sum, replicate, ◌++◌, Option, Some, None, Contains, refl, sym, ap, ◌∙◌, subst, ⊎_elim, arith}
use Rattle.std.specs.Prelude.{zip, unwrap_or, MatchOption}
use Rattle.std.proofs.Math.Nat.{mul-le-mul_left}
use Rattle.std.proofs.lemmas.Bool.{cases_lt}
use Rattle.std.proofs.lemmas.List.{get_or_past, get_or-map, get_or-replicate, length-map}
use Rattle.std.proofs.lemmas.List.Elements.{All-contains, Contains-push}
use Rattle.std.proofs.lemmas.List.Sums.{sum_by-cons}
use Rattle.std.proofs.lemmas.Option.{slice_get-get_or}
use Rattle.std.proofs.lemmas.Slice.Zip.{get_or-zip, length-zip}
use Rattle.monotone_fn.specs.Tree.{Tree, Trees, Terms}
use Rattle.monotone_fn.specs.Shape.{greatest, nodes_of, nodes_below, list_count}
use Rattle.monotone_fn.specs.Value.{least, value, values, products, with_zeros, with_bottoms, low, high, NoSmaller, IsMonotone, IsWithin}
use Rattle.monotone_fn.specs.Limits.{AreGrades, top_value, IsExpr}
use Rattle.monotone_fn.proofs.Medians.{AllLe, median-AllLe}
use Rattle.topk_base.specs.declared.TheConstants.{MAX_LISTS, MAX_VALUE, TOP_GRADE}

-- ---- each operator is monotone
least-AllLe : (ms ns : List ℕ) → AllLe ms ns → least ms ≤ least ns
least-AllLe [] [] h = omega arith
least-AllLe [] (n ∷ ns) h = absurd h
least-AllLe (m ∷ ms) [] h = absurd h
least-AllLe (m ∷ []) (n ∷ []) h = h.0
least-AllLe (m ∷ []) (n ∷ n' ∷ ns) h = absurd h.1
least-AllLe (m ∷ m' ∷ ms) (n ∷ []) h = absurd h.1
least-AllLe (m ∷ m' ∷ ms) (n ∷ n' ∷ ns) h =
    omega (arith, h.0, least-AllLe (m' ∷ ms) (n' ∷ ns) h.1)

greatest-AllLe : (ms ns : List ℕ) → AllLe ms ns → greatest ms ≤ greatest ns
greatest-AllLe [] [] h = omega arith
greatest-AllLe [] (n ∷ ns) h = absurd h
greatest-AllLe (m ∷ ms) [] h = absurd h
greatest-AllLe (m ∷ ms) (n ∷ ns) h = omega (arith, h.0, greatest-AllLe ms ns h.1)

sum-AllLe : (ms ns : List ℕ) → AllLe ms ns → sum ms ≤ sum ns
sum-AllLe [] [] h = omega arith
sum-AllLe [] (n ∷ ns) h = absurd h
sum-AllLe (m ∷ ms) [] h = absurd h
sum-AllLe (m ∷ ms) (n ∷ ns) h =
    omega (arith, sum_by-cons (λ x. x) m ms, sum_by-cons (λ x. x) n ns, h.0, sum-AllLe ms ns h.1)

-- no grade of x is greater than the one of y in its place, where those past the end are 0
abbrev pub NoLess : List ℕ → List ℕ → Type 0
NoLess x y = (i : ℕ) → get_or x i 0 ≤ get_or y i 0

mutual
  pub value-le : (t : Tree) (x y : List ℕ) → NoLess x y → value t x ≤ value t y
  value-le (Tree.Grade l) x y h = h l
  value-le (Tree.Min ts) x y h = least-AllLe (values ts x) (values ts y) (values-le ts x y h)
  value-le (Tree.Max ts) x y h = greatest-AllLe (values ts x) (values ts y) (values-le ts x y h)
  value-le (Tree.Sum ts) x y h = sum-AllLe (values ts x) (values ts y) (values-le ts x y h)
  value-le (Tree.Median ts) x y h = median-AllLe (values ts x) (values ts y) (values-le ts x y h)
  value-le (Tree.Wsum us) x y h = sum-AllLe (products us x) (products us y) (products-le us x y h)

  pub values-le : (ts : Trees) (x y : List ℕ) → NoLess x y → AllLe (values ts x) (values ts y)
  values-le Trees.no_tree x y h = tt
  values-le (Trees.tree_then t ts) x y h = (value-le t x y h, values-le ts x y h)

  pub products-le : (us : Terms) (x y : List ℕ) → NoLess x y → AllLe (products us x) (products us y)
  products-le Terms.no_term x y h = tt
  products-le (Terms.term_then w t us) x y h = (mul-le-mul_left w (value-le t x y h), products-le us x y h)

-- ---- monotone
pub NoLess-NoSmaller : (x y : List ℕ) → NoSmaller x y → NoLess x y
NoLess-NoSmaller x y h =
    λ i. ⊎_elim (h.each i) (λ l. omega (arith, get_or_past x i 0 l)) (cases_lt i (length x))

pub value-monotone : (t : Tree) → IsMonotone (value t)
value-monotone t = λ x y h. value-le t x y (NoLess-NoSmaller x y h)

-- ---- low and high
known_low : (k : Option ℕ) (g b : ℕ) → MatchOption k (g ≤ b) (λ v. g ≡ v) → unwrap_or k 0 ≤ g
known_low None g b h = omega arith
known_low (Some v) g b h = omega (arith, h)

known_high : (k : Option ℕ) (g b : ℕ) → MatchOption k (g ≤ b) (λ v. g ≡ v) → g ≤ unwrap_or k b
known_high None g b h = h
known_high (Some v) g b h = omega (arith, h)

with_zeros-NoLess : (known : List (Option ℕ)) (bottoms grades : List ℕ) → IsWithin known bottoms grades → NoLess (with_zeros known) grades
with_zeros-NoLess known bottoms grades h i =
    ⊎_elim (λ l.
    let at = get_or-map (λ g. unwrap_or g 0) known i None 0 l in
    let le = known_low (get_or known i None) (get_or grades i 0) (get_or bottoms i 0) (h.each i (get_or known i None) (slice_get-get_or known i None l)) in
    omega (arith, at, le)) (λ l. omega (arith, get_or_past (with_zeros known) i 0 (omega (arith, length-map known (λ g. unwrap_or g 0))))) (cases_lt i (length known))

with_bottoms-NoLess : (known : List (Option ℕ)) (bottoms grades : List ℕ) → IsWithin known bottoms grades → NoLess grades (with_bottoms known bottoms)
with_bottoms-NoLess known bottoms grades h i =
    ⊎_elim (λ l.
    let pairs = zip known bottoms in
    let in_known : i < length known = omega (arith, h.as_many_known) in
    let in_bottoms : i < length bottoms = omega (arith, h.as_many_bottoms) in
    let in_pairs : i < length pairs = omega (arith, length-zip known bottoms) in
    let at = get_or-map (λ p. unwrap_or p.0 p.1) pairs i (None, 0) 0 in_pairs ∙ ap (λ p. unwrap_or p.0 p.1) (get_or-zip known bottoms i (None, 0) in_known in_bottoms) in
    let le = known_high (get_or known i None) (get_or grades i 0) (get_or bottoms i 0) (h.each i (get_or known i None) (slice_get-get_or known i None in_known)) in
    omega (arith, at, le)) (λ l. omega (arith, get_or_past grades i 0 l)) (cases_lt i (length grades))

pub low-le-value : (t : Tree) (known : List (Option ℕ)) (bottoms grades : List ℕ) → IsWithin known bottoms grades → low t known ≤ value t grades
low-le-value t known bottoms grades h =
    value-le t (with_zeros known) grades (with_zeros-NoLess known bottoms grades h)

pub value-le-high : (t : Tree) (known : List (Option ℕ)) (bottoms grades : List ℕ) → IsWithin known bottoms grades → value t grades ≤ high t known bottoms
value-le-high t known bottoms grades h =
    value-le t grades (with_bottoms known bottoms) (with_bottoms-NoLess known bottoms grades h)

-- ---- the value at the top grades bounds each value
pub NoLess-top : (x : List ℕ) → length x ≤ MAX_LISTS → AreGrades x → NoLess x (replicate MAX_LISTS TOP_GRADE)
NoLess-top x few h i =
    ⊎_elim (λ l. let at = get_or-replicate MAX_LISTS i TOP_GRADE 0 (omega arith) in let le = h i 0 l in omega (arith, at, le)) (λ l. omega (arith, get_or_past x i 0 l)) (cases_lt i (length x))

pub value-le-top_value : (t : Tree) (x : List ℕ) → length x ≤ MAX_LISTS → AreGrades x → value t x ≤ top_value t
value-le-top_value t x few h = value-le t x (replicate MAX_LISTS TOP_GRADE) (NoLess-top x few h)

-- a tree is the last of its nodes
pub nodes_of-below : (t : Tree) → nodes_of t ≡ nodes_below t ++ t ∷ []
nodes_of-below (Tree.Grade l) = refl
nodes_of-below (Tree.Min ts) = refl
nodes_of-below (Tree.Max ts) = refl
nodes_of-below (Tree.Sum ts) = refl
nodes_of-below (Tree.Median ts) = refl
nodes_of-below (Tree.Wsum us) = refl

pub top_value-IsExpr : (t : Tree) → IsExpr t → top_value t ≤ MAX_VALUE
top_value-IsExpr t e =
    let last : Contains (nodes_below t ++ t ∷ []) t = Contains-push (nodes_below t) t in
    All-contains (λ n. top_value n ≤ MAX_VALUE) (nodes_of t) t e.small (subst (λ ns. Contains ns t) (sym (nodes_of-below t)) last)

-- each value of an expression is at most the one at the top grades
pub value-IsExpr : (t : Tree) (x : List ℕ) → IsExpr t → length x ≡ list_count t → AreGrades x → value t x ≤ top_value t
value-IsExpr t x e n g = value-le-top_value t x (omega (arith, e.lists.few)) g
