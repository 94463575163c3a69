-- A walk over the nodes of a tree: what it needs of the children of a node, and what it tells of the node.
use Rattle.std.proofs.Common.{◌≡◌, ℕ, zero, suc, ◌+◌, ◌*◌, ◌-◌, ◌^◌, ◌<◌, ◌≤◌, Bool, true, false, cond, ltb, List, [], ◌∷◌, ◌++◌, length, get_or, map, drop, sum, Option, Some, None, All, refl, sym, ap, ◌∙◌, subst, arith, length-append, append_assoc, leb, min, replicate, rules}
use Rattle.std.specs.List.{position_from}
use Rattle.std.specs.Bool.{then_some}
use Rattle.std.specs.Prelude.{IsSome, is_some}
use Rattle.std.proofs.Math.Seq.{drop-cons}
use Rattle.std.proofs.lemmas.List.Sums.{sum_by-cons}
use Rattle.std.proofs.lemmas.Bool.{false≢true, ltb-false, ltb-true, leb-false, leb-true, lt-ltb, cond-true, cond-false}
use Rattle.std.proofs.lemmas.List.Elements.{All-nil, All-cons, All-head, All-tail}
use Rattle.monotone_fn.specs.Tree.{Tree, Trees, Terms}
use Rattle.monotone_fn.specs.Shape.{nodes_of, nodes_below, nodes_in, nodes_under, depth}
use Rattle.monotone_fn.specs.Falls.{deepest, deepest_term}
use Rattle.monotone_fn.specs.Shown.{tree_of, term_of}
use Rattle.monotone_fn.specs.declared.node.Node.{Node}
use Rattle.monotone_fn.specs.declared.node.Term.{Term}
use Rattle.monotone_fn.specs.Value.{value, values, products}
use Rattle.monotone_fn.specs.Limits.{passes, Passes, top_value, AreGrades}
use Rattle.monotone_fn.proofs.Laws.{value-le-top_value, nodes_of-below}
use Rattle.topk_base.specs.declared.TheConstants.{MAX_LISTS, MAX_VALUE, TOP_GRADE}

-- ---- the first that passes, of two lists
pub position_from-append_none : {A : Type 0} (p : A → Bool) (i : ℕ) (xs ys : List A) → position_from p i xs ≡ None
    → position_from p i (xs ++ ys) ≡ position_from p (i + length xs) ys
position_from-append_none p i [] ys h = ap (λ n. position_from p n ys) (omega arith)
position_from-append_none {A} p i (x ∷ xs) ys h =
    pick (p x) h (λ e. position_from-append_none p (i + 1) xs ys e)
  where
    pick : (b : Bool) → cond b (Some i) (position_from p (i + 1) xs) ≡ None
        → (position_from p (i + 1) xs ≡ None → position_from p (i + 1) (xs ++ ys) ≡ position_from p (i + 1 + length xs) ys)
        → cond b (Some i) (position_from p (i + 1) (xs ++ ys)) ≡ position_from p (i + length (x ∷ xs)) ys
    pick true e k = cc
    pick false e k =
        let n : i + 1 + length xs ≡ i + length (x ∷ xs) = omega arith in
        k e ∙ ap (λ m. position_from p m ys) n

pub position_from-append_some : {A : Type 0} (p : A → Bool) (i k : ℕ) (xs ys : List A) → position_from p i xs ≡ Some k → position_from p i (xs ++ ys) ≡ Some k
position_from-append_some p i k [] ys h = cc
position_from-append_some {A} p i k (x ∷ xs) ys h =
    pick (p x) h (λ e. position_from-append_some p (i + 1) k xs ys e)
  where
    pick : (b : Bool) → cond b (Some i) (position_from p (i + 1) xs) ≡ Some k
        → (position_from p (i + 1) xs ≡ Some k → position_from p (i + 1) (xs ++ ys) ≡ Some k) → cond b (Some i) (position_from p (i + 1) (xs ++ ys)) ≡ Some k
    pick true e rest = e
    pick false e rest = rest e

-- ---- a walk: these nodes are left of all, where so many have ended
pub record Walking (x : List ℕ) (all rest : List Tree) (before ended : ℕ) : Type 0 where
  pub from : before ≤ ended
  pub nodes : ended + length rest ≡ before + length all
  pub first : position_from (passes x) (before + 1) all ≡ position_from (passes x) (ended + 1) rest

pub Walking-start : (x : List ℕ) (all : List Tree) (before : ℕ) → Walking x all all before before
Walking-start x all before = record { from = omega arith; nodes = refl; first = refl }

pub Walking-some : {A : Type 0} (x : List ℕ) (all ns rest : List Tree) (before e e' : ℕ) (r : A) → Walking x all (ns ++ rest) before e
    → Passes x ns e e' (Some r) → Walking x all rest before e'
Walking-some x all ns rest before e e' r w h =
    record {
      from = omega (arith, w.from, h.1);
      nodes = omega (arith, w.nodes, h.1, length-append ns rest);
      first = w.first ∙ position_from-append_none (passes x) (e + 1) ns rest h.0 ∙ (let n : e + 1 + length ns ≡ e' + 1 = omega (arith, h.1) in ap (λ m. position_from (passes x) m rest) n);
    }

pub Walking-none : (x : List ℕ) (all ns rest : List Tree) (before e e' : ℕ) → Walking x all (ns ++ rest) before e
    → position_from (passes x) (e + 1) ns ≡ Some e' → position_from (passes x) (before + 1) all ≡ Some e'
Walking-none x all ns rest before e e' w h = w.first ∙ position_from-append_some (passes x) (e + 1) e' ns rest h

pub Walking-end : {A : Type 0} (x : List ℕ) (all : List Tree) (before e : ℕ) (r : A) → Walking x all [] before e → Passes x all before e (Some r)
Walking-end x all before e r w = (w.first, omega (arith, w.nodes))

-- ---- a node, after all that it is made of
pub Passes-node_some : {A B : Type 0} (x : List ℕ) (ns : List Tree) (t : Tree) (before e : ℕ) (r : A) (r' : B) → Passes x ns before e (Some r)
    → value t x ≤ MAX_VALUE → Passes x (ns ++ t ∷ []) before (e + 1) (Some r')
Passes-node_some x ns t before e r r' h le =
    (position_from-append_none (passes x) (before + 1) ns (t ∷ []) h.0 ∙ cond-false (passes x t) (Some (before + 1 + length ns)) None (pick (passes x t) refl), omega (arith, h.1, length-append ns (t ∷ [])))
  where
    pick : (b : Bool) → passes x t ≡ b → passes x t ≡ false
    pick false e = e
    pick true e = absurd (omega (arith, ltb-true MAX_VALUE (value t x) e, le))

pub Passes-node_none : {A : Type 0} (x : List ℕ) (ns : List Tree) (t : Tree) (before e : ℕ) (r : A) → Passes x ns before e (Some r) → MAX_VALUE < value t x
    → position_from (passes x) (before + 1) (ns ++ t ∷ []) ≡ Some (e + 1)
Passes-node_none x ns t before e r h lt =
    let n : before + 1 + length ns ≡ e + 1 = omega (arith, h.1) in
    position_from-append_none (passes x) (before + 1) ns (t ∷ []) h.0 ∙ cond-true (passes x t) (Some (before + 1 + length ns)) None (lt-ltb MAX_VALUE (value t x) lt) ∙ ap Some n

pub Passes-child_none : (x : List ℕ) (ns : List Tree) (t : Tree) (before e : ℕ) → position_from (passes x) (before + 1) ns ≡ Some e
    → position_from (passes x) (before + 1) (ns ++ t ∷ []) ≡ Some e
Passes-child_none x ns t before e h = position_from-append_some (passes x) (before + 1) e ns (t ∷ []) h

-- ---- where each node is small at the top grades, none passes at any grades
pub position_from-none : (x : List ℕ) → length x ≤ MAX_LISTS → AreGrades x → (i : ℕ) (ns : List Tree) → All (λ n. top_value n ≤ MAX_VALUE) ns
    → position_from (passes x) i ns ≡ None
position_from-none x few g i [] h = refl
position_from-none x few g i (n ∷ ns) h =
    cond-false (passes x n) (Some i) (position_from (passes x) (i + 1) ns) (pick (passes x n) refl) ∙ position_from-none x few g (i + 1) ns (All-tail (λ m. top_value m ≤ MAX_VALUE) n ns h)
  where
    pick : (b : Bool) → passes x n ≡ b → passes x n ≡ false
    pick false e = e
    pick true e =
        absurd (omega (arith, ltb-true MAX_VALUE (value n x) e, value-le-top_value n x few g, All-head (λ m. top_value m ≤ MAX_VALUE) n ns h))

pub All-position_from : (i : ℕ) (ns : List Tree) → position_from (λ n. ltb MAX_VALUE (top_value n)) i ns ≡ None → All (λ n. top_value n ≤ MAX_VALUE) ns
All-position_from i [] h = All-nil (λ n. top_value n ≤ MAX_VALUE)
All-position_from i (n ∷ ns) h = pick (ltb MAX_VALUE (top_value n)) refl h (λ e. All-position_from (i + 1) ns e)
  where
    pick : (b : Bool) → ltb MAX_VALUE (top_value n) ≡ b → cond b (Some i) (position_from (λ m. ltb MAX_VALUE (top_value m)) (i + 1) ns) ≡ None
        → (position_from (λ m. ltb MAX_VALUE (top_value m)) (i + 1) ns ≡ None → All (λ m. top_value m ≤ MAX_VALUE) ns)
        → All (λ m. top_value m ≤ MAX_VALUE) (n ∷ ns)
    pick true b e rest = cc
    pick false b e rest = All-cons (λ m. top_value m ≤ MAX_VALUE) n ns (ltb-false MAX_VALUE (top_value n) b) (rest e)

-- ---- no more children than nodes
one_node : (t : Tree) → 0 < length (nodes_of t)
one_node (Tree.Grade l) = omega arith
one_node (Tree.Min ts) = omega (arith, length-append (nodes_in ts) (Tree.Min ts ∷ []))
one_node (Tree.Max ts) = omega (arith, length-append (nodes_in ts) (Tree.Max ts ∷ []))
one_node (Tree.Sum ts) = omega (arith, length-append (nodes_in ts) (Tree.Sum ts ∷ []))
one_node (Tree.Median ts) = omega (arith, length-append (nodes_in ts) (Tree.Median ts ∷ []))
one_node (Tree.Wsum us) = omega (arith, length-append (nodes_under us) (Tree.Wsum us ∷ []))

pub length-values-le : (ts : Trees) (x : List ℕ) → length (values ts x) ≤ length (nodes_in ts)
length-values-le Trees.no_tree x = omega arith
length-values-le (Trees.tree_then t ts) x = omega (arith, one_node t, length-append (nodes_of t) (nodes_in ts), length-values-le ts x)

-- ---- the whole of a node, from what it is made of
pub Passes-below_none : (x : List ℕ) (t : Tree) (before e : ℕ) → position_from (passes x) (before + 1) (nodes_below t) ≡ Some e
    → position_from (passes x) (before + 1) (nodes_of t) ≡ Some e
Passes-below_none x t before e h =
    ap (position_from (passes x) (before + 1)) (nodes_of-below t) ∙ Passes-child_none x (nodes_below t) t before e h

-- a value that is held to the last u64 tells whether the whole passes
pub Passes-checked : {A : Type 0} (x : List ℕ) (t : Tree) (before e v : ℕ) (r : A) → Passes x (nodes_below t) before e (Some r)
    → v ≡ min (value t x) (2 ^ 64 - 1) → Passes x (nodes_of t) before (e + 1) (then_some (leb v MAX_VALUE) v)
Passes-checked x t before e v r h is =
    subst (λ ns. Passes x ns before (e + 1) (then_some (leb v MAX_VALUE) v)) (sym (nodes_of-below t)) (pick (leb v MAX_VALUE) refl)
  where
    pick : (b : Bool) → leb v MAX_VALUE ≡ b → Passes x (nodes_below t ++ t ∷ []) before (e + 1) (then_some b v)
    pick true le = Passes-node_some x (nodes_below t) t before e r v h (omega (arith, leb-true v MAX_VALUE le))
    pick false gt = Passes-node_none x (nodes_below t) t before e r h (omega (arith, leb-false v MAX_VALUE gt))

-- ---- one more item of a loop
pub drop-item : {A : Type 0} (xs : List A) (i : ℕ) (x : A) → i < length xs → x ≡ get_or xs i x → drop i xs ≡ x ∷ drop (i + 1) xs
drop-item xs i x h e =
    drop-cons xs i x h ∙ (λ j. sym e j ∷ drop (suc i) xs) ∙ (let n : suc i ≡ i + 1 = omega arith in ap (λ k. x ∷ drop k xs) n)

-- an item nests no deeper than the deepest
pub item_depth : (items : List Node) (i : ℕ) (node : Node) → i < length items → node ≡ get_or items i node
    → depth (tree_of node) ≤ deepest (map tree_of items)
item_depth [] i node h e = absurd (omega arith)
item_depth (n ∷ items) zero node h e = omega (arith, ap (λ (m : Node). depth (tree_of m)) e)
item_depth (n ∷ items) (suc i) node h e = omega (arith, item_depth items i node (omega arith) e)

pub term_depth : (items : List Term) (i : ℕ) (term : Term) → i < length items → term ≡ get_or items i term
    → depth (tree_of term.node) ≤ deepest_term (map term_of items)
term_depth [] i term h e = absurd (omega arith)
term_depth (u ∷ items) zero term h e = omega (arith, ap (λ (m : Term). depth (tree_of m.node)) e)
term_depth (u ∷ items) (suc i) term h e = omega (arith, term_depth items i term (omega arith) e)

pub values-room : (x vs : List ℕ) (all : Trees) (t : Tree) (rest : Trees) → vs ++ values (Trees.tree_then t rest) x ≡ values all x
    → length vs < length (nodes_in all) + 1
values-room x vs all t rest e =
    omega (arith, ap length e, length-append vs (values (Trees.tree_then t rest) x), length-values-le all x)

pub values-step : (x vs : List ℕ) (all : List ℕ) (t : Tree) (rest : Trees) (r : ℕ) → vs ++ values (Trees.tree_then t rest) x ≡ all → r ≡ value t x
    → (vs ++ r ∷ []) ++ values rest x ≡ all
values-step x vs all t rest r e is =
    append_assoc vs (r ∷ []) (values rest x) ∙ ap (λ n. vs ++ n ∷ values rest x) is ∙ e

pub products-step : (x : List ℕ) (total s all w v c : ℕ) (t : Tree) (rest : Terms) → min (total + sum (products (Terms.term_then w t rest) x)) c ≡ min all c
    → v ≡ value t x → s ≡ min (total + min (w * v) c) c → min (s + sum (products rest x)) c ≡ min all c
products-step x total s all w v c t rest e is new =
    let whole : sum (products (Terms.term_then w t rest) x) ≡ w * value t x + sum (products rest x) = sum_by-cons (λ n. n) (w * value t x) (products rest x) in
    let same : w * v ≡ w * value t x = ap (λ n. w * n) is in
    omega (arith, e, new, whole, same)

-- ---- where no value passes there is a result, and where there is one no value passes
pub Passes-is_some : {A : Type 0} (x : List ℕ) (ns : List Tree) (before e : ℕ) (r : Option A) → Passes x ns before e r
    → position_from (passes x) (before + 1) ns ≡ None → IsSome r
Passes-is_some x ns before e (Some v) h none = search rules
Passes-is_some x ns before e None h none = cc

pub Passes-small : {A : Type 0} (t : Tree) (e : ℕ) (r : Option A) → Passes (replicate MAX_LISTS TOP_GRADE) (nodes_of t) 0 e r → is_some r ≡ true
    → All (λ n. top_value n ≤ MAX_VALUE) (nodes_of t)
Passes-small t e (Some v) h some = All-position_from 1 (nodes_of t) h.0
Passes-small t e None h some = absurd (false≢true some)
