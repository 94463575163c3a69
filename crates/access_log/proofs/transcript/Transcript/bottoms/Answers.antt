use Rattle.topk_theory.specs.Transcript.{bottom_of}
use Rattle.access_log.proofs.Readers.{in_view, bottoms_taken, bottoms_capped}
use Rattle.access_log.proofs.transcript.Transcript.bottoms.Goals as goal

pub returns-clause-bottoms : goal.returns-clause-bottoms
returns-clause-bottoms c = in_view c.args.self.now c.self.inside.lists c.self.inside.count c.self.inside.spare_objects c.self.inside.spare_accesses c.self.inside.accesses.items (λ A list. bottom_of list A) _ c.self.view_is (bottoms_taken c.self.inside.lists c.self.inside.accesses.items c.self.inside.ends c.self.invariant.limits.few_lists c.self.invariant.ends)

pub returns-clause-capped : goal.returns-clause-capped
returns-clause-capped c = bottoms_capped c.self.inside.lists c.self.inside.count c.self.inside.accesses.items _ c.self.invariant.agrees (bottoms_taken c.self.inside.lists c.self.inside.accesses.items c.self.inside.ends c.self.invariant.limits.few_lists c.self.invariant.ends)
