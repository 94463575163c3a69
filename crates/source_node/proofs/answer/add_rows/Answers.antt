use Rattle.std.proofs.Common.{◌≡◌, ◌+◌, ◌-◌, ◌^◌, ◌<◌, ◌≤◌, List, length, inl, inr, refl, sym, subst, ◌∙◌, arith}
use Rattle.ranked_list.specs.declared.row.Row.{Row}
use Rattle.source_node.specs.Serving.{GivesSome}
use Rattle.source_node.proofs.PageLaws.{page_as, none_given, some_given, all_given, end_given, stops_as, stops_later, fell_none, fell_then}
use Rattle.source_node.proofs.answer.add_rows.Goals as goal

pub loop-alloc-init : goal.loop-alloc-init
loop-alloc-init g c = (
  refl,
  refl,
  refl,
  fell_none (g.S.Source.counts c.args.source.now),
  subst (λ (rows : List Row). GivesSome c.args.from c.args.count (g.S.Source.list c.args.source.now) (g.S.Source.counts c.args.source.now)
      (g.S.Source.counts c.args.source.now) (g.S.Source.calls c.args.source.now) (g.S.Source.calls c.args.source.now) rows) (sym c.requires)
      (none_given c.args.from c.args.count (g.S.Source.list c.args.source.now) (g.S.Source.counts c.args.source.now) (g.S.Source.calls c.args.source.now)),
)

pub returns-clause-rows : goal.returns-clause-rows
returns-clause-rows g c =
    let whole : c.args.count ≤ length c.loop-alloc.rows.items = omega (arith, c.loop-alloc.rows.ok.0) in
    all_given _ _ _ _ _ _ _ _ c.loop-alloc.invariant.4 (inl whole)

pub returns-in_default-clause-rows : goal.returns-in_default-clause-rows
returns-in_default-clause-rows g c =
    let far : 2 ^ 32 ≤ c.args.from + length c.loop-alloc.rows.items = omega (arith, c.in_default.ensures, c.loop-alloc.rows.ok.0) in
    all_given _ _ _ _ _ _ _ _ c.loop-alloc.invariant.4 (inr far)

pub returns-then-len-eq0-clause-rows : goal.returns-then-len-eq0-clause-rows
returns-then-len-eq0-clause-rows g c =
    let place : c.in-Some.place ≡ c.args.from + length c.loop-alloc.rows.items = let sum = c.in-Some.ensures in omega (arith, sum.1, c.loop-alloc.rows.ok.0) in
    let left : c.args.count - c.len-came.result ≡ c.args.count - length c.loop-alloc.rows.items = omega (arith, c.loop-alloc.rows.ok.0) in
    let came = page_as _ (c.args.from + length c.loop-alloc.rows.items) _ (c.args.count - length c.loop-alloc.rows.items) _ (g.S.Source.list c.args.source.now) _ _ _ _ _ _ _ place left
    c.loop-alloc.invariant.0 c.in-Ok.ensures.page in
    end_given _ _ _ _ _ _ _ _ _ _ _ _ c.loop-alloc.invariant.4 came c.if-len-eq0.true

pub returns-in-Err-clause-stops : goal.returns-in-Err-clause-stops
returns-in-Err-clause-stops g c =
    let place : c.in-Some.place ≡ c.args.from + length c.loop-alloc.rows.items = let sum = c.in-Some.ensures in omega (arith, sum.1, c.loop-alloc.rows.ok.0) in
    let left : c.args.count - c.len-came.result ≡ c.args.count - length c.loop-alloc.rows.items = omega (arith, c.loop-alloc.rows.ok.0) in
    stops_later _ _ _ _ _ _ _ _ _ _ _ c.loop-alloc.invariant.4
    (stops_as _ (c.args.from + length c.loop-alloc.rows.items) _ (c.args.count - length c.loop-alloc.rows.items) _ _ _ _ _ place left c.in-Err.ensures.stops)

pub loop-alloc-preserved : goal.loop-alloc-preserved
loop-alloc-preserved g c =
    let place : c.in-Some.place ≡ c.args.from + length c.loop-alloc.rows.items = let sum = c.in-Some.ensures in omega (arith, sum.1, c.loop-alloc.rows.ok.0) in
    let left : c.args.count - c.len-came.result ≡ c.args.count - length c.loop-alloc.rows.items = omega (arith, c.loop-alloc.rows.ok.0) in
    let came = page_as _ (c.args.from + length c.loop-alloc.rows.items) _ (c.args.count - length c.loop-alloc.rows.items) _ (g.S.Source.list c.args.source.now) _ _ _ _ _ _ _ place left
    c.loop-alloc.invariant.0 c.in-Ok.ensures.page in
    let some : 0 < c.in-Ok.len = omega arith in (
      c.add_page.ensures.list ∙ c.loop-alloc.invariant.0,
      c.add_page.ensures.states ∙ c.loop-alloc.invariant.1,
      c.add_page.ensures.at_hand ∙ c.loop-alloc.invariant.2,
      fell_then _ _ _ c.loop-alloc.invariant.3 c.add_page.ensures.later,
      some_given _ _ _ _ _ _ _ _ _ _ _ _ c.loop-alloc.invariant.4 came some,
    )
