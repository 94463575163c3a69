use Rattle.std.proofs.Common.{refl}
use Rattle.std.proofs.lemmas.List.Elements.{same_from_all_zip}
use Rattle.query_run.proofs.running_query.RunningQuery.make.Goals as goal

pub returns-in-Ok-make : goal.returns-in-Ok-make
returns-in-Ok-make c = record {
  is = c.requires;
  machine = c.in-Ok-make.ensures.begun;
  run = c.in-Ok-make.ensures.run;
  sources = same_from_all_zip _ c.args.ready.now.sources.items c.in-Ok.sources.items c.in-Ok.ensures.cases.0 (λ x y e. e);
  waits = c.no_waiting.ensures;
  refusal = refl;
}
