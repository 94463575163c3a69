use Rattle.std.proofs.Common.{◌≡◌, true, List, All, ap, subst, ◌∙◌}
use Rattle.query_run.specs.Inquiries.{is_ended}
use Rattle.query_run.specs.declared.running_query.RunningQuery.{RunningQuery}
use Rattle.test_worlds.specs.Worlds.{WorldState}
use Rattle.test_worlds.specs.Steps.{IsTestOf}
use Rattle.test_worlds.proofs.world.World.all_ended.Goals as goal

pub returns : goal.returns
returns c =
    subst (λ (queries : List RunningQuery). IsTestOf c.are_ended.result (All (λ (query : RunningQuery). is_ended query ≡ true) queries))
    (c.deref.ensures.value ∙ ap (λ (w : WorldState). w.queries) c.self.view_is) c.are_ended.ensures
