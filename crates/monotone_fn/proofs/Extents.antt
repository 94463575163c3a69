-- A walk over the nodes of a tree that counts them, with how deep they nest and how many lists they name.
use Rattle.std.proofs.Common.{◌≡◌, ℕ, ◌+◌, length, max, length-append, arith, ap, sym, ◌∙◌}
use Rattle.monotone_fn.specs.Tree.{Tree, Trees, Terms}
use Rattle.monotone_fn.specs.Shape.{nodes_of, nodes_in, nodes_under}
use Rattle.monotone_fn.specs.Limits.{counted}

count_more : (e r n rest all new : ℕ) → r ≡ counted n → new ≡ counted (e + r) → counted (e + (n + rest)) ≡ all → counted (new + rest) ≡ all
count_more e r n rest all new own is before = omega (arith, own, is, before)

-- of the nodes of a tree and of those behind it, when the tree's are counted
pub nodes_more : (e r new all : ℕ) (t : Tree) (rest : Trees) → r ≡ counted (length (nodes_of t)) → new ≡ counted (e + r)
    → counted (e + length (nodes_in (Trees.tree_then t rest))) ≡ all → counted (new + length (nodes_in rest)) ≡ all
nodes_more e r new all t rest own is before =
    count_more e r (length (nodes_of t)) (length (nodes_in rest)) all new own is (ap (λ n. counted (e + n)) (sym (length-append (nodes_of t) (nodes_in rest))) ∙ before)

pub terms_more : (e r new all w : ℕ) (t : Tree) (rest : Terms) → r ≡ counted (length (nodes_of t)) → new ≡ counted (e + r)
    → counted (e + length (nodes_under (Terms.term_then w t rest))) ≡ all → counted (new + length (nodes_under rest)) ≡ all
terms_more e r new all w t rest own is before =
    count_more e r (length (nodes_of t)) (length (nodes_under rest)) all new own is (ap (λ n. counted (e + n)) (sym (length-append (nodes_of t) (nodes_under rest))) ∙ before)

pub deeper : (e r d rest all new : ℕ) → r ≡ counted d → new ≡ max e r → counted (max e (max d rest)) ≡ all → counted (max new rest) ≡ all
deeper e r d rest all new own is before = omega (arith, own, is, before)

pub greater : (e r l rest all new : ℕ) → r ≡ l → new ≡ max e r → max e (max l rest) ≡ all → max new rest ≡ all
greater e r l rest all new own is before = omega (arith, own, is, before)
