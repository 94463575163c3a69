use Rattle.std.proofs.Common.{rules, tests, ◌≡◌, length, sym, subst, All}
use Rattle.std.proofs.lemmas.List.Elements.{All-drop}
use Rattle.line_outcome.specs.LineOutcomes.{CanBeWritten}
use Rattle.catalog_run.proofs.LineTexts.{front_none, front_more, front_whole}
use Rattle.catalog_run.proofs.texts.put_outcomes.Goals as goal

pub loop-rest-init : goal.loop-rest-init
loop-rest-init g c = record { front = front_none _ _; written = c.requires }

pub loop-rest-preserved : goal.loop-rest-preserved
loop-rest-preserved g c = record {
  front =
      front_more _ _ _ c.args.outcomes.now c.loop-rest.rest.now c.split_at.result.0.now c.split_at.result.1.now c.loop-rest.number c.min.result
      c.split_at.ensures.front c.split_at.ensures.back c.loop-rest.invariant.front c.put_group.ensures;
  written = subst (All CanBeWritten) (sym c.split_at.ensures.back) (All-drop CanBeWritten c.min.result c.loop-rest.rest.now c.loop-rest.invariant.written);
}

pub returns : goal.returns
returns g c =
    let none : length c.loop-rest.rest.now ≡ 0 = search (rules, tests) in
    front_whole _ _ c.args.outcomes.now c.loop-rest.rest.now c.loop-rest.number none c.loop-rest.invariant.front
