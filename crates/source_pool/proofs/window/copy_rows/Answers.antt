use Rattle.std.proofs.Common.{◌≡◌, ◌-◌, ◌++◌, ◌∷◌, [], List, take, drop, sym, ap, ◌∙◌, arith}
use Rattle.ranked_list.specs.declared.row.Row.{Row}
use Rattle.source_state.specs.Log.{rows_in}
use Rattle.source_pool.specs.Windows.{most_rows}
use Rattle.source_pool.proofs.WindowLaws.{copied_more, copied_all}
use Rattle.source_pool.proofs.window.copy_rows.Goals as goal

pub loop-place-preserved : goal.loop-place-preserved
loop-place-preserved c = record {
  copied = c.push_reserved.ensures.items ∙ (ap (λ (rows : List Row). rows ++ c.in-Some.row ∷ []) c.loop-place.invariant.copied
      ∙ copied_more (rows_in c.args.state.now.log) (c.args.depth - 1) c.loop-place.place c.in-Some.row (sym c.row.ensures ∙ c.in-Some.is));
  many = omega (arith, c.push_reserved.ensures.len, c.loop-place.invariant.many);
  room = omega (arith, c.push_reserved.ensures.capacity, c.loop-place.invariant.room);
}

pub returns-in_default-clause-rows : goal.returns-in_default-clause-rows
returns-in_default-clause-rows c =
    c.loop-place.invariant.copied ∙ copied_all (rows_in c.args.state.now.log) (c.args.depth - 1) c.loop-place.place (sym c.row.ensures ∙ c.in_default.is)
    (omega (arith, c.loop-place-test.true))

pub returns-clause-rows : goal.returns-clause-rows
returns-clause-rows c =
    let all : c.loop-place.place ≡ most_rows = omega (arith, c.loop-place-test.false, c.loop-place.auto.place-end) in
    c.loop-place.invariant.copied ∙ ap (λ n. take n (drop (c.args.depth - 1) (rows_in c.args.state.now.log))) all
