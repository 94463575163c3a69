use Rattle.std.proofs.Common.{◌≡◌, Some, slice_get, refl, sym, subst, codes, append-nil, arith, rules}
use Rattle.std.proofs.lemmas.List.{length_push}
use Rattle.std.proofs.lemmas.Iterator.Consumers.{YieldsList-turn, YieldsList-end}
use Rattle.monotone_fn.specs.Shown.{tree_of, term_of}
use Rattle.monotone_fn.specs.Tree.{trees, terms}
use Rattle.tk_io.specs.Pieces.{Puts}
use Rattle.tk_io.proofs.Putting.{puts_then}
use Rattle.query_text.proofs.NamesPassed.{shown_given, stands_there}
use Rattle.query_text.proofs.PutLaws.{puts_as, call_text, nodes_step, nodes_end, terms_step, terms_end, depth_at, depth_of_term}
use Rattle.query_text.specs.Query.{name_of, arguments, weighted}
use Rattle.query_text.specs.declared.operator.Operator.TheVariants.{Min, Max, Sum, Median, Wsum}
use Rattle.query_text.proofs.printing.+put.Goals as goal

pub put_nodes-put_expr-requires : goal.put_nodes-put_expr-requires
put_nodes-put_expr-requires g t c =
    let at : slice_get c.args.nodes.now c.loop-place.place ≡ Some (tree_of c.in-Some.node.now) = stands_there c.args.nodes.now c.loop-place.place (tree_of c.in-Some.node.now) c.loop-place.invariant.place
    (YieldsList-turn (shown_given tree_of c.args.nodes.now c.iter-node-items.ensures.rest) c.loop-place.yielded _ c.loop-place.yielded_by _ _ c.in-Some.node c.in-Some.is c.next.ensures.steps) in
    let d = depth_at c.args.nodes.now c.loop-place.place (tree_of c.in-Some.node.now) at in
    search rules

pub put_nodes-loop-place-init : goal.put_nodes-loop-place-init
put_nodes-loop-place-init g t c = record {
  place = refl;
  puts = subst (Puts (g.P.Put.at c.args.out.now) (g.P.Put.at c.put.new.self)) (sym (append-nil c.args.opening.now)) c.put.ensures.puts;
}

pub put_nodes-loop-place-preserved : goal.put_nodes-loop-place-preserved
put_nodes-loop-place-preserved g t c =
    let at : slice_get c.args.nodes.now c.loop-place.place ≡ Some (tree_of c.in-Some.node.now) = stands_there c.args.nodes.now c.loop-place.place (tree_of c.in-Some.node.now) c.loop-place.invariant.place
    (YieldsList-turn (shown_given tree_of c.args.nodes.now c.iter-node-items.ensures.rest) c.loop-place.yielded _ c.loop-place.yielded_by _ _ c.in-Some.node c.in-Some.is c.next.ensures.steps) in
    record {
      place = omega (arith, c.loop-place.invariant.place, length_push c.loop-place.yielded c.in-Some.node);
      puts = subst (Puts (g.P.Put.at c.args.out.now) (g.P.Put.at c.put_expr.new.out))
          (nodes_step c.args.names.now c.args.opening.now c.args.nodes.now c.loop-place.place (tree_of c.in-Some.node.now) (sym at))
          (puts_then _ _ _ _ _ c.loop-place.invariant.puts (puts_then _ _ _ _ _ c.put_comma.ensures c.put_expr.ensures));
    }

pub put_nodes-returns : goal.put_nodes-returns
put_nodes-returns g t c =
    let whole = YieldsList-end (shown_given tree_of c.args.nodes.now c.iter-node-items.ensures.rest) c.loop-place.yielded _ c.loop-place.yielded_by _ _ c.in-None.is c.next.ensures.steps in
    subst (Puts (g.P.Put.at c.args.out.now) (g.P.Put.at c.put-2.new.self))
    (nodes_end c.args.names.now c.args.opening.now c.args.nodes.now c.loop-place.place (omega (arith, whole.1, c.loop-place.invariant.place)))
    (puts_then _ _ _ _ _ c.loop-place.invariant.puts c.put-2.ensures.puts)

pub put_terms-put_expr-requires : goal.put_terms-put_expr-requires
put_terms-put_expr-requires g t c =
    let at : slice_get c.args.weighted.now c.loop-place.place ≡ Some (term_of c.in-Some.term.now) = stands_there c.args.weighted.now c.loop-place.place (term_of c.in-Some.term.now) c.loop-place.invariant.place
    (YieldsList-turn (shown_given term_of c.args.weighted.now c.iter-term-items.ensures.rest) c.loop-place.yielded _ c.loop-place.yielded_by _ _ c.in-Some.term c.in-Some.is c.next.ensures.steps) in
    let d = depth_of_term c.args.weighted.now c.loop-place.place (term_of c.in-Some.term.now) at in
    search rules

pub put_terms-loop-place-init : goal.put_terms-loop-place-init
put_terms-loop-place-init g t c = record {
  place = refl;
  puts = subst (Puts (g.P.Put.at c.args.out.now) (g.P.Put.at c.put.new.self)) (sym (append-nil (codes "wsum("))) c.put.ensures.puts;
}

pub put_terms-loop-place-preserved : goal.put_terms-loop-place-preserved
put_terms-loop-place-preserved g t c =
    let at : slice_get c.args.weighted.now c.loop-place.place ≡ Some (term_of c.in-Some.term.now) = stands_there c.args.weighted.now c.loop-place.place (term_of c.in-Some.term.now) c.loop-place.invariant.place
    (YieldsList-turn (shown_given term_of c.args.weighted.now c.iter-term-items.ensures.rest) c.loop-place.yielded _ c.loop-place.yielded_by _ _ c.in-Some.term c.in-Some.is c.next.ensures.steps) in
    record {
      place = omega (arith, c.loop-place.invariant.place, length_push c.loop-place.yielded c.in-Some.term);
      puts = subst (Puts (g.P.Put.at c.args.out.now) (g.P.Put.at c.put_expr.new.out))
          (terms_step c.args.names.now (codes "wsum(") c.args.weighted.now c.loop-place.place (term_of c.in-Some.term.now) (sym at))
          (puts_then _ _ _ _ _ c.loop-place.invariant.puts (puts_then _ _ _ _ _ c.put_comma.ensures
          (puts_then _ _ _ _ _ c.put_number.ensures.puts (puts_then _ _ _ _ _ c.put-in-loop-place.ensures.puts c.put_expr.ensures))));
    }

pub put_terms-returns : goal.put_terms-returns
put_terms-returns g t c =
    let whole = YieldsList-end (shown_given term_of c.args.weighted.now c.iter-term-items.ensures.rest) c.loop-place.yielded _ c.loop-place.yielded_by _ _ c.in-None.is c.next.ensures.steps in
    subst (Puts (g.P.Put.at c.args.out.now) (g.P.Put.at c.put-2.new.self))
    (terms_end c.args.names.now c.args.weighted.now c.loop-place.place (omega (arith, whole.1, c.loop-place.invariant.place)))
    (puts_then _ _ _ _ _ c.loop-place.invariant.puts c.put-2.ensures.puts)

pub put_expr-returns-in-List : goal.put_expr-returns-in-List
put_expr-returns-in-List g t c =
    rw c.in-List.is (puts_as _ _ _ _ (sym (append-nil (name_of c.args.names.now c.in-List.list))) c.put_name.ensures)

pub put_expr-returns-in-Min : goal.put_expr-returns-in-Min
put_expr-returns-in-Min g t c = rw c.in-Min.is (puts_as _ _ _ _ (call_text Min (arguments c.args.names.now (trees c.in-Min.nodes))) c.put_nodes.ensures)

pub put_expr-returns-in-Max : goal.put_expr-returns-in-Max
put_expr-returns-in-Max g t c = rw c.in-Max.is (puts_as _ _ _ _ (call_text Max (arguments c.args.names.now (trees c.in-Max.nodes))) c.put_nodes-in-Max.ensures)

pub put_expr-returns-in-Sum : goal.put_expr-returns-in-Sum
put_expr-returns-in-Sum g t c = rw c.in-Sum.is (puts_as _ _ _ _ (call_text Sum (arguments c.args.names.now (trees c.in-Sum.nodes))) c.put_nodes-in-Sum.ensures)

pub put_expr-returns-in-Median : goal.put_expr-returns-in-Median
put_expr-returns-in-Median g t c = rw c.in-Median.is (puts_as _ _ _ _ (call_text Median (arguments c.args.names.now (trees c.in-Median.nodes))) c.put_nodes-in-Median.ensures)

pub put_expr-returns-in-Wsum : goal.put_expr-returns-in-Wsum
put_expr-returns-in-Wsum g t c = rw c.in-Wsum.is (puts_as _ _ _ _ (call_text Wsum (weighted c.args.names.now (terms c.in-Wsum.terms))) c.put_terms.ensures)
