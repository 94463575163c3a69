use Rattle.std.proofs.Common.{◌∙◌}
use Rattle.topk_theory.specs.Adversary.{chosen, against}
use Rattle.cert_judge.proofs.Completing.{few_rest, filled_from}
use Rattle.cert_judge.proofs.beating.completed_list.Goals as goal

pub add_rows-requires : goal.add_rows-requires
add_rows-requires c =
    let log = c.args.transcript.now in
    few_rest log.lists log.count c.args.list log.accesses (chosen (against c.args.inside log.accesses) log.accesses c.args.list) c.args.objects.now c.in_ok-rows.rows c.deref.result.now
    c.requires.agrees c.requires.list c.requires.limits.few_objects c.requires.objects c.in_ok-rows.ensures (c.deref.ensures.value ∙ c.in_ok-rest.ensures)

pub returns : goal.returns
returns c =
    let log = c.args.transcript.now in
    filled_from c.args.list log.accesses (chosen (against c.args.inside log.accesses) log.accesses c.args.list) c.args.objects.now c.in_ok-rows.rows c.deref.result.now c.add_rows.new.rows
    c.in_ok-rows.ensures (c.deref.ensures.value ∙ c.in_ok-rest.ensures) c.in_ok-add_rows.ensures
