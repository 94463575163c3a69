use Rattle.std.proofs.Common.{◌≡◌, ℕ, ◌+◌, List, length, map, drop, max, ap, ◌∙◌, subst, arith}
use Rattle.std.proofs.lemmas.List.{drop_all}
use Rattle.monotone_fn.specs.Tree.{Tree, trees, terms}
use Rattle.monotone_fn.specs.Shape.{nodes_in, nodes_under, depth, depth_in, depth_under, list_count, list_count_in, list_count_under}
use Rattle.monotone_fn.specs.Limits.{counted}
use Rattle.monotone_fn.specs.Shown.{tree_of, term_of}
use Rattle.monotone_fn.specs.Falls.{deepest, deepest_term}
use Rattle.monotone_fn.specs.NodesFall.{deep-Node-le}
use Rattle.monotone_fn.specs.declared.node.Node.{Node}
use Rattle.monotone_fn.specs.declared.node.Term.{Term}
use Rattle.monotone_fn.proofs.Extents.{nodes_more, terms_more, deeper, greater}
use Rattle.monotone_fn.proofs.Walks.{drop-item, item_depth, term_depth}
use Rattle.monotone_fn.proofs.shape.+extent.Goals as goal

pub extent_of_nodes-loop-node-preserved : goal.extent_of_nodes-loop-node-preserved
extent_of_nodes-loop-node-preserved t c =
    let items = c.deref-node-items.result.now in
    let node = c.node-item.result in
    let e = c.loop-node.extent in
    let all = trees c.args.nodes.now in
    let rest = trees (map tree_of (drop (c.loop-node.node-index + 1) items)) in
    let left = drop-item items c.loop-node.node-index node (omega arith) c.node-item.is in
    let count = subst (λ (ns : List Node). counted (e.nodes + length (nodes_in (trees (map tree_of ns)))) ≡ counted (length (nodes_in all))) left c.loop-node.invariant.count in
    let deepest = subst (λ (ns : List Node). counted (max e.depth (depth_in (trees (map tree_of ns)))) ≡ counted (depth_in all)) left c.loop-node.invariant.deepest in
    let lists = subst (λ (ns : List Node). max e.lists (list_count_in (trees (map tree_of ns))) ≡ list_count_in all) left c.loop-node.invariant.lists in
    record {
      count_fits = omega (arith, c.with-extent.ensures.nodes);
      count = nodes_more e.nodes c.extent_of.result.nodes c.with-extent.result.nodes (counted (length (nodes_in all))) (tree_of node) rest c.extent_of.ensures.nodes c.with-extent.ensures.nodes count;
      depth_fits = omega (arith, c.with-extent.ensures.depth, c.loop-node.invariant.depth_fits, c.extent_of.ensures.depth);
      deepest = deeper e.depth c.extent_of.result.depth (depth (tree_of node)) (depth_in rest) (counted (depth_in all)) c.with-extent.result.depth c.extent_of.ensures.depth c.with-extent.ensures.depth deepest;
      lists = greater e.lists c.extent_of.result.lists (list_count (tree_of node)) (list_count_in rest) (list_count_in all) c.with-extent.result.lists c.extent_of.ensures.lists c.with-extent.ensures.lists lists;
    }

pub extent_of_terms-loop-term-preserved : goal.extent_of_terms-loop-term-preserved
extent_of_terms-loop-term-preserved t c =
    let items = c.deref-term-items.result.now in
    let term = c.term-item.result in
    let e = c.loop-term.extent in
    let all = terms c.args.weighted.now in
    let rest = terms (map term_of (drop (c.loop-term.term-index + 1) items)) in
    let left = drop-item items c.loop-term.term-index term (omega arith) c.term-item.is in
    let count = subst (λ (us : List Term). counted (e.nodes + length (nodes_under (terms (map term_of us)))) ≡ counted (length (nodes_under all))) left c.loop-term.invariant.count in
    let deepest = subst (λ (us : List Term). counted (max e.depth (depth_under (terms (map term_of us)))) ≡ counted (depth_under all)) left c.loop-term.invariant.deepest in
    let lists = subst (λ (us : List Term). max e.lists (list_count_under (terms (map term_of us))) ≡ list_count_under all) left c.loop-term.invariant.lists in
    record {
      count_fits = omega (arith, c.with-extent.ensures.nodes);
      count = terms_more e.nodes c.extent_of.result.nodes c.with-extent.result.nodes (counted (length (nodes_under all))) term.weight (tree_of term.node) rest c.extent_of.ensures.nodes c.with-extent.ensures.nodes count;
      depth_fits = omega (arith, c.with-extent.ensures.depth, c.loop-term.invariant.depth_fits, c.extent_of.ensures.depth);
      deepest = deeper e.depth c.extent_of.result.depth (depth (tree_of term.node)) (depth_under rest) (counted (depth_under all)) c.with-extent.result.depth c.extent_of.ensures.depth c.with-extent.ensures.depth deepest;
      lists = greater e.lists c.extent_of.result.lists (list_count (tree_of term.node)) (list_count_under rest) (list_count_under all) c.with-extent.result.lists c.extent_of.ensures.lists c.with-extent.ensures.lists lists;
    }

pub extent_of_nodes-loop-node-init : goal.extent_of_nodes-loop-node-init
extent_of_nodes-loop-node-init t c =
    let shown : map tree_of c.deref-node-items.result.now ≡ c.args.nodes.now = ap (map tree_of) c.deref-node-items.ensures.value ∙ c.nodes.view_is in
    record {
      count_fits = omega arith;
      count = omega (arith, ap (λ (all : List Tree). length (nodes_in (trees all))) shown);
      depth_fits = omega arith;
      deepest = omega (arith, ap (λ (all : List Tree). depth_in (trees all)) shown);
      lists = omega (arith, ap (λ (all : List Tree). list_count_in (trees all)) shown);
    }

pub extent_of_nodes-returns-clause-nodes : goal.extent_of_nodes-returns-clause-nodes
extent_of_nodes-returns-clause-nodes t c =
    let e = c.loop-node.extent in
    let all = trees c.args.nodes.now in
    let none = drop_all c.loop-node.node-index c.deref-node-items.result.now (omega arith) in
    let count = subst (λ (left : List Node). counted (e.nodes + length (nodes_in (trees (map tree_of left)))) ≡ counted (length (nodes_in all))) none c.loop-node.invariant.count in
    omega (arith, count, c.loop-node.invariant.count_fits)

pub extent_of_nodes-returns-clause-depth : goal.extent_of_nodes-returns-clause-depth
extent_of_nodes-returns-clause-depth t c =
    let e = c.loop-node.extent in
    let all = trees c.args.nodes.now in
    let none = drop_all c.loop-node.node-index c.deref-node-items.result.now (omega arith) in
    let deepest = subst (λ (left : List Node). counted (max e.depth (depth_in (trees (map tree_of left)))) ≡ counted (depth_in all)) none c.loop-node.invariant.deepest in
    omega (arith, deepest, c.loop-node.invariant.depth_fits)

pub extent_of_nodes-returns-clause-lists : goal.extent_of_nodes-returns-clause-lists
extent_of_nodes-returns-clause-lists t c =
    let e = c.loop-node.extent in
    let all = trees c.args.nodes.now in
    let none = drop_all c.loop-node.node-index c.deref-node-items.result.now (omega arith) in
    let lists = subst (λ (left : List Node). max e.lists (list_count_in (trees (map tree_of left))) ≡ list_count_in all) none c.loop-node.invariant.lists in
    omega (arith, lists)

pub extent_of_terms-loop-term-init : goal.extent_of_terms-loop-term-init
extent_of_terms-loop-term-init t c =
    let shown : map term_of c.deref-term-items.result.now ≡ c.args.weighted.now = ap (map term_of) c.deref-term-items.ensures.value ∙ c.weighted.view_is in
    record {
      count_fits = omega arith;
      count = omega (arith, ap (λ (all : List (ℕ × Tree)). length (nodes_under (terms all))) shown);
      depth_fits = omega arith;
      deepest = omega (arith, ap (λ (all : List (ℕ × Tree)). depth_under (terms all)) shown);
      lists = omega (arith, ap (λ (all : List (ℕ × Tree)). list_count_under (terms all)) shown);
    }

pub extent_of_terms-returns-clause-nodes : goal.extent_of_terms-returns-clause-nodes
extent_of_terms-returns-clause-nodes t c =
    let e = c.loop-term.extent in
    let all = terms c.args.weighted.now in
    let none = drop_all c.loop-term.term-index c.deref-term-items.result.now (omega arith) in
    let count = subst (λ (left : List Term). counted (e.nodes + length (nodes_under (terms (map term_of left)))) ≡ counted (length (nodes_under all))) none c.loop-term.invariant.count in
    omega (arith, count, c.loop-term.invariant.count_fits)

pub extent_of_terms-returns-clause-depth : goal.extent_of_terms-returns-clause-depth
extent_of_terms-returns-clause-depth t c =
    let e = c.loop-term.extent in
    let all = terms c.args.weighted.now in
    let none = drop_all c.loop-term.term-index c.deref-term-items.result.now (omega arith) in
    let deepest = subst (λ (left : List Term). counted (max e.depth (depth_under (terms (map term_of left)))) ≡ counted (depth_under all)) none c.loop-term.invariant.deepest in
    omega (arith, deepest, c.loop-term.invariant.depth_fits)

pub extent_of_terms-returns-clause-lists : goal.extent_of_terms-returns-clause-lists
extent_of_terms-returns-clause-lists t c =
    let e = c.loop-term.extent in
    let all = terms c.args.weighted.now in
    let none = drop_all c.loop-term.term-index c.deref-term-items.result.now (omega arith) in
    let lists = subst (λ (left : List Term). max e.lists (list_count_under (terms (map term_of left))) ≡ list_count_under all) none c.loop-term.invariant.lists in
    omega (arith, lists)

pub extent_of_nodes-extent_of-requires : goal.extent_of_nodes-extent_of-requires
extent_of_nodes-extent_of-requires t c =
    let items = c.deref-node-items.result.now in
    let node = c.node-item.result in
    let shown : map tree_of items ≡ c.args.nodes.now = ap (map tree_of) c.deref-node-items.ensures.value ∙ c.nodes.view_is in
    let deep = item_depth items c.loop-node.node-index node c.loop-node-test.true c.node-item.is in
    (omega (arith, c.decreases, deep-Node-le node, deep, ap deepest shown), tt)

pub extent_of_terms-extent_of-requires : goal.extent_of_terms-extent_of-requires
extent_of_terms-extent_of-requires t c =
    let items = c.deref-term-items.result.now in
    let term = c.term-item.result in
    let shown : map term_of items ≡ c.args.weighted.now = ap (map term_of) c.deref-term-items.ensures.value ∙ c.weighted.view_is in
    let deep = term_depth items c.loop-term.term-index term c.loop-term-test.true c.term-item.is in
    (omega (arith, c.decreases, deep-Node-le term.node, deep, ap deepest_term shown), tt)
