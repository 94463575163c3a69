use Rattle.catalog_run.specs.Running.{lines_run}
use Rattle.topk_base.specs.Lines.{lines}
use Rattle.topk_top.proofs.laws_run.replies_are_sparing.Goals as goal

pub returns : goal.returns
returns c = λ settings text bytes before after status said r.
    let run = lines_run settings r.catalog (lines bytes) before after in
    record {
      gave = c.sources_give_what_is_asked.ensures.sources run r.outcomes r.run;
      counted = c.sources_give_what_is_asked.ensures.places run r.outcomes r.run;
      refused = c.failures_refuse_few_lines.ensures run r.outcomes r.run;
    }
