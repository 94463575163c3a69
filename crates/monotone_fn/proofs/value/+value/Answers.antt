-- Each step of a walk over nodes.
use Rattle.std.proofs.Common.{◌≡◌, ℕ, [], ◌+◌, ◌*◌, ◌-◌, ◌^◌, ◌<◌, ◌≤◌, ◌++◌, min, List, length, map, drop, sum, sym, ap, ◌∙◌, subst, arith, length-append}
use Rattle.std.proofs.lemmas.List.{drop_all, append-nil}
use Rattle.topk_base.specs.declared.TheConstants.{MAX_NODES}
use Rattle.monotone_fn.specs.Tree.{Tree, trees, terms}
use Rattle.monotone_fn.specs.Shape.{nodes_of, nodes_in, nodes_under, list_count_in, list_count_under}
use Rattle.monotone_fn.specs.Value.{value, values, products}
use Rattle.monotone_fn.specs.Shown.{tree_of, term_of}
use Rattle.monotone_fn.specs.Falls.{deepest, deepest_term}
use Rattle.monotone_fn.specs.NodesFall.{deep-Node-le}
use Rattle.monotone_fn.specs.declared.node.Node.{Node}
use Rattle.monotone_fn.specs.declared.node.Term.{Term}
use Rattle.monotone_fn.proofs.Extremes.{least_kept, greatest_kept}
use Rattle.monotone_fn.proofs.Summaries.{SummarizesSoFar, summarizes_more, summarizes_all}
use Rattle.monotone_fn.proofs.Walks.{Walking, Walking-start, Walking-end, Walking-some, Walking-none, Passes-below_none, Passes-checked, drop-item, item_depth, term_depth, values-room, values-step, products-step}
use Rattle.monotone_fn.proofs.value.+value.Goals as goal

-- what is left of a walk has no more nodes than all, and ends no later
few_left : (x : List ℕ) (all ns rest : List Tree) (before ended : ℕ) → Walking x all (ns ++ rest) before ended → length all < MAX_NODES → length ns ≤ MAX_NODES
few_left x all ns rest before ended w few = omega (arith, w.from, w.nodes, length-append ns rest)

room_left : (x : List ℕ) (all ns rest : List Tree) (before ended : ℕ) → Walking x all (ns ++ rest) before ended → before + length all < 2 ^ 32
    → ended + length ns < 2 ^ 32
room_left x all ns rest before ended w room = omega (arith, w.from, w.nodes, length-append ns rest)

pub value_at-returns-in_err-value-clause-passes : goal.value_at-returns-in_err-value-clause-passes
value_at-returns-in_err-value-clause-passes t c =
    rw c.from_residual.ensures (Passes-below_none c.args.grades.now (tree_of c.args.node.now) c.args.ended.now c.value_of_parts.new.ended c.in_err-value.ensures.passes)

pub value_at-returns-clause-passes : goal.value_at-returns-clause-passes
value_at-returns-clause-passes t c =
    rw c.then_some.ensures (Passes-checked c.args.grades.now (tree_of c.args.node.now) c.args.ended.now c.value_of_parts.new.ended c.in_ok-value.value c.in_ok-value.value c.in_ok-value.ensures.passes c.in_ok-value.ensures.value)

pub values_at-returns-in_err-value_at-clause-passes :
    goal.values_at-returns-in_err-value_at-clause-passes
values_at-returns-in_err-value_at-clause-passes t c =
    let x = c.args.grades.now in
    let all = nodes_in (trees c.args.nodes.now) in
    let items = c.deref-node-items.result.now in
    let node = c.node-item.result in
    let left = drop-item items c.loop-node.node-index node (omega arith) c.node-item.is in
    let at = subst (λ (ns : List Node). Walking x all (nodes_in (trees (map tree_of ns))) c.args.ended.now c.loop-node.ended) left c.loop-node.invariant.walking in
    rw c.from_residual.ensures (Walking-none x all (nodes_of (tree_of node)) (nodes_in (trees (map tree_of (drop (c.loop-node.node-index + 1) items)))) c.args.ended.now c.loop-node.ended c.value_at.new.ended at c.in_err-value_at.ensures.passes)

pub values_at-push-requires : goal.values_at-push-requires
values_at-push-requires t c =
    let x = c.args.grades.now in
    let all = trees c.args.nodes.now in
    let items = c.deref-node-items.result.now in
    let node = c.node-item.result in
    let left = drop-item items c.loop-node.node-index node (omega arith) c.node-item.is in
    let at = subst (λ (ns : List Node). c.loop-node.values ++ values (trees (map tree_of ns)) x ≡ values all x) left c.loop-node.invariant.values in
    omega (arith, values-room x c.loop-node.values all (tree_of node) (trees (map tree_of (drop (c.loop-node.node-index + 1) items))) at, c.requires.few)

pub values_at-loop-node-preserved : goal.values_at-loop-node-preserved
values_at-loop-node-preserved t c =
    let x = c.args.grades.now in
    let all = trees c.args.nodes.now in
    let items = c.deref-node-items.result.now in
    let node = c.node-item.result in
    let rest = trees (map tree_of (drop (c.loop-node.node-index + 1) items)) in
    let left = drop-item items c.loop-node.node-index node (omega arith) c.node-item.is in
    let lists = subst (λ (ns : List Node). list_count_in (trees (map tree_of ns)) ≤ length x) left c.loop-node.invariant.lists in
    let walking = subst (λ (ns : List Node). Walking x (nodes_in all) (nodes_in (trees (map tree_of ns))) c.args.ended.now c.loop-node.ended) left c.loop-node.invariant.walking in
    let values' = subst (λ (ns : List Node). c.loop-node.values ++ values (trees (map tree_of ns)) x ≡ values all x) left c.loop-node.invariant.values in
    record {
      lists = omega (arith, lists);
      walking = Walking-some x (nodes_in all) (nodes_of (tree_of node)) (nodes_in rest) c.args.ended.now c.loop-node.ended c.value_at.new.ended c.in_ok-value_at.field-0 walking c.in_ok-value_at.ensures.passes;
      values = rw c.push.ensures (values-step x c.loop-node.values (values all x) (tree_of node) rest c.in_ok-value_at.field-0 values' c.in_ok-value_at.ensures.value);
    }

pub value_of_parts-returns-in_ok-summary_at-in-Min-clause-value :
    goal.value_of_parts-returns-in_ok-summary_at-in-Min-clause-value
value_of_parts-returns-in_ok-summary_at-in-Min-clause-value t c =
    let summary = c.in_ok-summary_at-in-Min in
    let is = c.unwrap_or.ensures ∙ least_kept summary.field-0.least (values (trees c.in-Min.nodes) c.args.grades.now) summary.ensures.summary.least in
    let node = ap (λ t. value t c.args.grades.now) (ap tree_of c.in-Min.is) in
    omega (arith, is, node)

pub value_of_parts-returns-in_ok-summary_at-in-Max-clause-value :
    goal.value_of_parts-returns-in_ok-summary_at-in-Max-clause-value
value_of_parts-returns-in_ok-summary_at-in-Max-clause-value t c =
    let summary = c.in_ok-summary_at-in-Max in
    let is = c.unwrap_or-in-Max.ensures ∙ greatest_kept summary.field-0.greatest (values (trees c.in-Max.nodes) c.args.grades.now) summary.ensures.summary.greatest in
    let node = ap (λ t. value t c.args.grades.now) (ap tree_of c.in-Max.is) in
    omega (arith, is, node)

pub summary_at-returns-in_err-value_at-clause-passes :
    goal.summary_at-returns-in_err-value_at-clause-passes
summary_at-returns-in_err-value_at-clause-passes t c =
    let x = c.args.grades.now in
    let all = nodes_in (trees c.args.nodes.now) in
    let items = c.deref-node-items.result.now in
    let node = c.node-item.result in
    let left = drop-item items c.loop-node.node-index node (omega arith) c.node-item.is in
    let at = subst (λ (ns : List Node). Walking x all (nodes_in (trees (map tree_of ns))) c.args.ended.now c.loop-node.ended) left c.loop-node.invariant.walking in
    rw c.from_residual.ensures (Walking-none x all (nodes_of (tree_of node)) (nodes_in (trees (map tree_of (drop (c.loop-node.node-index + 1) items)))) c.args.ended.now c.loop-node.ended c.value_at.new.ended at c.in_err-value_at.ensures.passes)

pub summary_at-loop-node-preserved : goal.summary_at-loop-node-preserved
summary_at-loop-node-preserved t c =
    let x = c.args.grades.now in
    let all = trees c.args.nodes.now in
    let items = c.deref-node-items.result.now in
    let node = c.node-item.result in
    let rest = trees (map tree_of (drop (c.loop-node.node-index + 1) items)) in
    let left = drop-item items c.loop-node.node-index node (omega arith) c.node-item.is in
    let lists = subst (λ (ns : List Node). list_count_in (trees (map tree_of ns)) ≤ length x) left c.loop-node.invariant.lists in
    let walking = subst (λ (ns : List Node). Walking x (nodes_in all) (nodes_in (trees (map tree_of ns))) c.args.ended.now c.loop-node.ended) left c.loop-node.invariant.walking in
    let so_far = subst (λ (ns : List Node). SummarizesSoFar c.loop-node.summary (values (trees (map tree_of ns)) x) (values all x)) left c.loop-node.invariant.so_far in
    record {
      lists = omega (arith, lists);
      walking = Walking-some x (nodes_in all) (nodes_of (tree_of node)) (nodes_in rest) c.args.ended.now c.loop-node.ended c.value_at.new.ended c.in_ok-value_at.field-0 walking c.in_ok-value_at.ensures.passes;
      so_far = summarizes_more x (values all x) (tree_of node) rest c.in_ok-value_at.field-0 c.loop-node.summary c.with-summary.result so_far c.in_ok-value_at.ensures.value c.with-summary.ensures;
    }

pub summary_at-returns-clause-summary : goal.summary_at-returns-clause-summary
summary_at-returns-clause-summary t c =
    let x = c.args.grades.now in
    let items = c.deref-node-items.result.now in
    let none = drop_all c.loop-node.node-index items (omega arith) in
    summarizes_all c.loop-node.summary (values (trees c.args.nodes.now) x)
    (subst (λ (ns : List Node). SummarizesSoFar c.loop-node.summary (values (trees (map tree_of ns)) x) (values (trees c.args.nodes.now) x)) none c.loop-node.invariant.so_far)

pub weighted_at-returns-in_err-value-clause-passes :
    goal.weighted_at-returns-in_err-value-clause-passes
weighted_at-returns-in_err-value-clause-passes t c =
    let x = c.args.grades.now in
    let all = nodes_under (terms c.args.weighted.now) in
    let items = c.deref-term-items.result.now in
    let term = c.term-item.result in
    let left = drop-item items c.loop-term.term-index term (omega arith) c.term-item.is in
    let at = subst (λ (us : List Term). Walking x all (nodes_under (terms (map term_of us))) c.args.ended.now c.loop-term.ended) left c.loop-term.invariant.walking in
    rw c.from_residual.ensures (Walking-none x all (nodes_of (tree_of term.node)) (nodes_under (terms (map term_of (drop (c.loop-term.term-index + 1) items)))) c.args.ended.now c.loop-term.ended c.value_at.new.ended at c.in_err-value.ensures.passes)

pub weighted_at-loop-term-preserved : goal.weighted_at-loop-term-preserved
weighted_at-loop-term-preserved t c =
    let x = c.args.grades.now in
    let all = terms c.args.weighted.now in
    let items = c.deref-term-items.result.now in
    let term = c.term-item.result in
    let rest = terms (map term_of (drop (c.loop-term.term-index + 1) items)) in
    let left = drop-item items c.loop-term.term-index term (omega arith) c.term-item.is in
    let lists = subst (λ (us : List Term). list_count_under (terms (map term_of us)) ≤ length x) left c.loop-term.invariant.lists in
    let walking = subst (λ (us : List Term). Walking x (nodes_under all) (nodes_under (terms (map term_of us))) c.args.ended.now c.loop-term.ended) left c.loop-term.invariant.walking in
    let total = subst (λ (us : List Term). min (c.loop-term.total + sum (products (terms (map term_of us)) x)) (2 ^ 64 - 1) ≡ min (sum (products all x)) (2 ^ 64 - 1)) left c.loop-term.invariant.total in
    let new : c.saturating_add-total.result ≡ min (c.loop-term.total + min (term.weight * c.in_ok-value.value) (2 ^ 64 - 1)) (2 ^ 64 - 1) = rw (c.saturating_add-total.ensures, c.saturating_mul.ensures) in
    record {
      lists = omega (arith, lists);
      walking = Walking-some x (nodes_under all) (nodes_of (tree_of term.node)) (nodes_under rest) c.args.ended.now c.loop-term.ended c.value_at.new.ended c.in_ok-value.value walking c.in_ok-value.ensures.passes;
      fits = omega (arith, new);
      total = products-step x c.loop-term.total c.saturating_add-total.result (sum (products all x)) term.weight c.in_ok-value.value (2 ^ 64 - 1) (tree_of term.node) rest total c.in_ok-value.ensures.value new;
    }

pub weighted_at-returns-clause-total : goal.weighted_at-returns-clause-total
weighted_at-returns-clause-total t c =
    let x = c.args.grades.now in
    let items = c.deref-term-items.result.now in
    let none = drop_all c.loop-term.term-index items (omega arith) in
    let total = subst (λ (us : List Term). min (c.loop-term.total + sum (products (terms (map term_of us)) x)) (2 ^ 64 - 1) ≡ min (sum (products (terms c.args.weighted.now) x)) (2 ^ 64 - 1)) none c.loop-term.invariant.total in
    omega (arith, total)

pub values_at-loop-node-init : goal.values_at-loop-node-init
values_at-loop-node-init t c =
    let x = c.args.grades.now in
    let all = trees c.args.nodes.now in
    let shown : map tree_of c.deref-node-items.result.now ≡ c.args.nodes.now = ap (map tree_of) c.deref-node-items.ensures.value ∙ c.nodes.view_is in
    record {
      lists = subst (λ (ts : List Tree). list_count_in (trees ts) ≤ length x) (sym shown) c.requires.lists;
      walking = subst (λ (ts : List Tree). Walking x (nodes_in all) (nodes_in (trees ts)) c.args.ended.now c.args.ended.now) (sym shown) (Walking-start x (nodes_in all) c.args.ended.now);
      values = ap (λ (vs : List ℕ). vs ++ values (trees (map tree_of c.deref-node-items.result.now)) x) c.new-values.ensures ∙ ap (λ (ts : List Tree). values (trees ts) x) shown;
    }

pub values_at-returns-clause-values : goal.values_at-returns-clause-values
values_at-returns-clause-values t c =
    let x = c.args.grades.now in
    let none = drop_all c.loop-node.node-index c.deref-node-items.result.now (omega arith) in
    let at = subst (λ (ns : List Node). c.loop-node.values ++ values (trees (map tree_of ns)) x ≡ values (trees c.args.nodes.now) x) none c.loop-node.invariant.values in
    sym (append-nil c.loop-node.values) ∙ at

pub values_at-returns-clause-passes : goal.values_at-returns-clause-passes
values_at-returns-clause-passes t c =
    let x = c.args.grades.now in
    let all = nodes_in (trees c.args.nodes.now) in
    let none = drop_all c.loop-node.node-index c.deref-node-items.result.now (omega arith) in
    Walking-end {A = ℕ} x all c.args.ended.now c.loop-node.ended 0
    (subst (λ (ns : List Node). Walking x all (nodes_in (trees (map tree_of ns))) c.args.ended.now c.loop-node.ended) none c.loop-node.invariant.walking)

pub summary_at-loop-node-init : goal.summary_at-loop-node-init
summary_at-loop-node-init t c =
    let x = c.args.grades.now in
    let all = trees c.args.nodes.now in
    let shown : map tree_of c.deref-node-items.result.now ≡ c.args.nodes.now = ap (map tree_of) c.deref-node-items.ensures.value ∙ c.nodes.view_is in
    record {
      lists = subst (λ (ts : List Tree). list_count_in (trees ts) ≤ length x) (sym shown) c.requires.lists;
      walking = subst (λ (ts : List Tree). Walking x (nodes_in all) (nodes_in (trees ts)) c.args.ended.now c.args.ended.now) (sym shown) (Walking-start x (nodes_in all) c.args.ended.now);
      so_far = record { done = []; parts = ap (λ (ts : List Tree). values (trees ts) x) shown; of = c.start-summary.ensures };
    }

pub summary_at-returns-clause-passes : goal.summary_at-returns-clause-passes
summary_at-returns-clause-passes t c =
    let x = c.args.grades.now in
    let all = nodes_in (trees c.args.nodes.now) in
    let none = drop_all c.loop-node.node-index c.deref-node-items.result.now (omega arith) in
    Walking-end {A = ℕ} x all c.args.ended.now c.loop-node.ended 0
    (subst (λ (ns : List Node). Walking x all (nodes_in (trees (map tree_of ns))) c.args.ended.now c.loop-node.ended) none c.loop-node.invariant.walking)

pub weighted_at-loop-term-init : goal.weighted_at-loop-term-init
weighted_at-loop-term-init t c =
    let x = c.args.grades.now in
    let all = terms c.args.weighted.now in
    let shown : map term_of c.deref-term-items.result.now ≡ c.args.weighted.now = ap (map term_of) c.deref-term-items.ensures.value ∙ c.weighted.view_is in
    record {
      lists = subst (λ (us : List (ℕ × Tree)). list_count_under (terms us) ≤ length x) (sym shown) c.requires.lists;
      walking = subst (λ (us : List (ℕ × Tree)). Walking x (nodes_under all) (nodes_under (terms us)) c.args.ended.now c.args.ended.now) (sym shown) (Walking-start x (nodes_under all) c.args.ended.now);
      fits = omega arith;
      total = omega (arith, ap (λ (us : List (ℕ × Tree)). sum (products (terms us) x)) shown);
    }

pub weighted_at-returns-clause-passes : goal.weighted_at-returns-clause-passes
weighted_at-returns-clause-passes t c =
    let x = c.args.grades.now in
    let all = nodes_under (terms c.args.weighted.now) in
    let none = drop_all c.loop-term.term-index c.deref-term-items.result.now (omega arith) in
    Walking-end {A = ℕ} x all c.args.ended.now c.loop-term.ended 0
    (subst (λ (us : List Term). Walking x all (nodes_under (terms (map term_of us))) c.args.ended.now c.loop-term.ended) none c.loop-term.invariant.walking)

pub values_at-value_at-requires : goal.values_at-value_at-requires
values_at-value_at-requires t c =
    let x = c.args.grades.now in
    let all = nodes_in (trees c.args.nodes.now) in
    let items = c.deref-node-items.result.now in
    let node = c.node-item.result in
    let rest = nodes_in (trees (map tree_of (drop (c.loop-node.node-index + 1) items))) in
    let left = drop-item items c.loop-node.node-index node c.loop-node-test.true c.node-item.is in
    let lists = subst (λ (ns : List Node). list_count_in (trees (map tree_of ns)) ≤ length x) left c.loop-node.invariant.lists in
    let walking = subst (λ (ns : List Node). Walking x all (nodes_in (trees (map tree_of ns))) c.args.ended.now c.loop-node.ended) left c.loop-node.invariant.walking in
    let shown : map tree_of items ≡ c.args.nodes.now = ap (map tree_of) c.deref-node-items.ensures.value ∙ c.nodes.view_is in
    let deep = item_depth items c.loop-node.node-index node c.loop-node-test.true c.node-item.is in
    (omega (arith, c.decreases, deep-Node-le node, deep, ap deepest shown), (omega (arith, lists), (few_left x all (nodes_of (tree_of node)) rest c.args.ended.now c.loop-node.ended walking c.requires.few, room_left x all (nodes_of (tree_of node)) rest c.args.ended.now c.loop-node.ended walking c.requires.room)))

pub summary_at-value_at-requires : goal.summary_at-value_at-requires
summary_at-value_at-requires t c =
    let x = c.args.grades.now in
    let all = nodes_in (trees c.args.nodes.now) in
    let items = c.deref-node-items.result.now in
    let node = c.node-item.result in
    let rest = nodes_in (trees (map tree_of (drop (c.loop-node.node-index + 1) items))) in
    let left = drop-item items c.loop-node.node-index node c.loop-node-test.true c.node-item.is in
    let lists = subst (λ (ns : List Node). list_count_in (trees (map tree_of ns)) ≤ length x) left c.loop-node.invariant.lists in
    let walking = subst (λ (ns : List Node). Walking x all (nodes_in (trees (map tree_of ns))) c.args.ended.now c.loop-node.ended) left c.loop-node.invariant.walking in
    let shown : map tree_of items ≡ c.args.nodes.now = ap (map tree_of) c.deref-node-items.ensures.value ∙ c.nodes.view_is in
    let deep = item_depth items c.loop-node.node-index node c.loop-node-test.true c.node-item.is in
    (omega (arith, c.decreases, deep-Node-le node, deep, ap deepest shown), (omega (arith, lists), (few_left x all (nodes_of (tree_of node)) rest c.args.ended.now c.loop-node.ended walking c.requires.few, room_left x all (nodes_of (tree_of node)) rest c.args.ended.now c.loop-node.ended walking c.requires.room)))

pub weighted_at-value_at-requires : goal.weighted_at-value_at-requires
weighted_at-value_at-requires t c =
    let x = c.args.grades.now in
    let all = nodes_under (terms c.args.weighted.now) in
    let items = c.deref-term-items.result.now in
    let term = c.term-item.result in
    let rest = nodes_under (terms (map term_of (drop (c.loop-term.term-index + 1) items))) in
    let left = drop-item items c.loop-term.term-index term (omega arith) c.term-item.is in
    let lists = subst (λ (us : List Term). list_count_under (terms (map term_of us)) ≤ length x) left c.loop-term.invariant.lists in
    let walking = subst (λ (us : List Term). Walking x all (nodes_under (terms (map term_of us))) c.args.ended.now c.loop-term.ended) left c.loop-term.invariant.walking in
    let shown : map term_of items ≡ c.args.weighted.now = ap (map term_of) c.deref-term-items.ensures.value ∙ c.weighted.view_is in
    let deep = term_depth items c.loop-term.term-index term c.loop-term-test.true c.term-item.is in
    (omega (arith, c.decreases, deep-Node-le term.node, deep, ap deepest_term shown), (omega (arith, lists), (few_left x all (nodes_of (tree_of term.node)) rest c.args.ended.now c.loop-term.ended walking c.requires.few, room_left x all (nodes_of (tree_of term.node)) rest c.args.ended.now c.loop-term.ended walking c.requires.room)))
