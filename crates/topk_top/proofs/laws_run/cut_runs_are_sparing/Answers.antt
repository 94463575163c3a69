use Rattle.topk_base.specs.Lines.{lines}
use Rattle.catalog_run.specs.Running.{lines_run}
use Rattle.topk_top.proofs.laws_run.cut_runs_are_sparing.Goals as goal

pub returns : goal.returns
returns c = λ settings text call left.
    let run = lines_run settings left.catalog (lines left.bytes) call.before.shelf call.after.shelf in
    record {
      gave = c.cut_runs_give_what_is_asked.ensures.sources run left.cut;
      counted = c.cut_runs_give_what_is_asked.ensures.places run left.cut;
    }
