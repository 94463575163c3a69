use Rattle.std.proofs.Common.{map, ap, sym, ◌∙◌, arith}
use Rattle.monotone_fn.specs.Tree.{Tree, trees, terms}
use Rattle.monotone_fn.specs.Shown.{tree_of, term_of}
use Rattle.monotone_fn.specs.declared.node.Term.{Term}
use Rattle.monotone_fn.proofs.Copied.{copied_next, copied_all}
use Rattle.monotone_fn.proofs.copies.+copy.Goals as goal

pub copy_nodes-loop-node-preserved : goal.copy_nodes-loop-node-preserved
copy_nodes-loop-node-preserved t c = record {
  many = omega (arith, c.in_ok-push.ensures.len, c.loop-node.invariant.many);
  trees = copied_next tree_of c.loop-node.items.items c.push.new.self.items c.deref-node-items.result.now c.loop-node.node-index c.node-item.result c.in_ok-copy.copy (omega arith) c.node-item.is c.in_ok-push.ensures.items c.in_ok-copy.ensures c.loop-node.invariant.trees;
}

pub copy_terms-loop-term-preserved : goal.copy_terms-loop-term-preserved
copy_terms-loop-term-preserved t c =
    let term = c.term-item.result in
    let copy : Term = record { weight = term.weight; node = c.in_ok-node.node } in
    record {
      many = omega (arith, c.in_ok-push.ensures.len, c.loop-term.invariant.many);
      terms = copied_next term_of c.loop-term.items.items c.push.new.self.items c.deref-term-items.result.now c.loop-term.term-index term copy (omega arith) c.term-item.is c.in_ok-push.ensures.items (ap (λ n. (term.weight, n)) c.in_ok-node.ensures) c.loop-term.invariant.terms;
    }

pub copy_node-returns-in_ok-copy_nodes-in-Min : goal.copy_node-returns-in_ok-copy_nodes-in-Min
copy_node-returns-in_ok-copy_nodes-in-Min t c =
    ap (λ ns. Tree.Min (trees ns)) c.in_ok-copy_nodes-in-Min.ensures ∙ sym (ap tree_of c.in-Min.is)

pub copy_node-returns-in_ok-copy_nodes-in-Max : goal.copy_node-returns-in_ok-copy_nodes-in-Max
copy_node-returns-in_ok-copy_nodes-in-Max t c =
    ap (λ ns. Tree.Max (trees ns)) c.in_ok-copy_nodes-in-Max.ensures ∙ sym (ap tree_of c.in-Max.is)

pub copy_node-returns-in_ok-copy_nodes-in-Sum : goal.copy_node-returns-in_ok-copy_nodes-in-Sum
copy_node-returns-in_ok-copy_nodes-in-Sum t c =
    ap (λ ns. Tree.Sum (trees ns)) c.in_ok-copy_nodes-in-Sum.ensures ∙ sym (ap tree_of c.in-Sum.is)

pub copy_node-returns-in_ok-copy_nodes-in-Median : goal.copy_node-returns-in_ok-copy_nodes-in-Median
copy_node-returns-in_ok-copy_nodes-in-Median t c =
    ap (λ ns. Tree.Median (trees ns)) c.in_ok-copy_nodes-in-Median.ensures ∙ sym (ap tree_of c.in-Median.is)

pub copy_node-returns-in_ok-copy_terms-in-Wsum : goal.copy_node-returns-in_ok-copy_terms-in-Wsum
copy_node-returns-in_ok-copy_terms-in-Wsum t c =
    ap (λ us. Tree.Wsum (terms us)) c.in_ok-copy_terms-in-Wsum.ensures ∙ sym (ap tree_of c.in-Wsum.is)

pub copy_node-returns-in-List : goal.copy_node-returns-in-List
copy_node-returns-in-List t c = sym (ap tree_of c.in-List.is)

pub copy_nodes-loop-node-init : goal.copy_nodes-loop-node-init
copy_nodes-loop-node-init t c = record { many = omega (arith, c.in_ok-items.ensures.len); trees = ap (map tree_of) c.in_ok-items.ensures.items }

pub copy_terms-loop-term-init : goal.copy_terms-loop-term-init
copy_terms-loop-term-init t c = record { many = omega (arith, c.in_ok-items.ensures.len); terms = ap (map term_of) c.in_ok-items.ensures.items }

pub copy_nodes-returns : goal.copy_nodes-returns
copy_nodes-returns t c =
    copied_all tree_of c.loop-node.items.items c.deref-node-items.result.now c.nodes.inside.items.items c.loop-node.node-index c.args.nodes.now
    c.loop-node-test.false c.loop-node.invariant.trees c.deref-node-items.ensures.value c.nodes.view_is

pub copy_terms-returns : goal.copy_terms-returns
copy_terms-returns t c =
    copied_all term_of c.loop-term.items.items c.deref-term-items.result.now c.weighted.inside.items.items c.loop-term.term-index c.args.weighted.now
    c.loop-term-test.false c.loop-term.invariant.terms c.deref-term-items.ensures.value c.weighted.view_is
