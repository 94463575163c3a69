use Rattle.std.proofs.Common.{position, nat_eq, ap, ◌∙◌}
use Rattle.topk_theory.specs.Transcript.{seen_objects}
use Rattle.access_log.specs.Log.{Log}
use Rattle.access_log.proofs.Readers.{record_found, unnamed_at, unseen_at}
use Rattle.access_log.proofs.transcript.Transcript.sight_of.Goals as goal

pub returns-in-Some : goal.returns-in-Some
returns-in-Some c = (record_found c.self.inside.lists c.args.object c.in-Some.place c.self.inside.accesses.items c.self.inside.objects c.index.result.now c.self.invariant.objects c.in-Some.ensures c.index.ensures).sight
    ∙ ap (λ (z : Log). position (nat_eq c.args.object) (seen_objects z.accesses)) c.self.view_is

pub returns-in-None : goal.returns-in-None
returns-in-None c = unseen_at c.self.inside.accesses.items c.args.object (unnamed_at c.self.inside.lists c.args.object c.self.inside.accesses.items c.self.inside.objects c.self.invariant.objects c.in-None.ensures)
    ∙ ap (λ (z : Log). position (nat_eq c.args.object) (seen_objects z.accesses)) c.self.view_is
