use Rattle.std.proofs.Common.{refl}
use Rattle.topk_theory.specs.Bounds.{known_grade}
use Rattle.access_log.proofs.Readers.{in_view, known_taken, none_taken, known_capped, record_found, unnamed_at}
use Rattle.access_log.proofs.transcript.Transcript.known.Goals as goal

pub returns-in-Some-clause-known : goal.returns-in-Some-clause-known
returns-in-Some-clause-known c = in_view c.args.self.now c.self.inside.lists c.self.inside.count c.self.inside.spare_objects c.self.inside.spare_accesses c.self.inside.accesses.items (λ A list. known_grade A c.args.object list) _ c.self.view_is (known_taken c.self.inside.lists c.self.inside.accesses.items c.args.object c.index.result.now c.self.invariant.limits.few_lists (record_found c.self.inside.lists c.args.object c.in-Some.place c.self.inside.accesses.items c.self.inside.objects c.index.result.now c.self.invariant.objects c.in-Some.ensures c.index.ensures))

pub returns-in-Some-clause-capped : goal.returns-in-Some-clause-capped
returns-in-Some-clause-capped c = known_capped c.self.inside.lists c.self.inside.count c.self.inside.accesses.items c.args.object _ c.self.invariant.agrees (known_taken c.self.inside.lists c.self.inside.accesses.items c.args.object c.index.result.now c.self.invariant.limits.few_lists (record_found c.self.inside.lists c.args.object c.in-Some.place c.self.inside.accesses.items c.self.inside.objects c.index.result.now c.self.invariant.objects c.in-Some.ensures c.index.ensures))

pub returns-in-None-clause-known : goal.returns-in-None-clause-known
returns-in-None-clause-known c = in_view c.args.self.now c.self.inside.lists c.self.inside.count c.self.inside.spare_objects c.self.inside.spare_accesses c.self.inside.accesses.items (λ A list. known_grade A c.args.object list) _ c.self.view_is (none_taken c.self.inside.lists c.self.inside.accesses.items c.args.object _ c.self.invariant.limits.few_lists refl (unnamed_at c.self.inside.lists c.args.object c.self.inside.accesses.items c.self.inside.objects c.self.invariant.objects c.in-None.ensures))

pub returns-in-None-clause-capped : goal.returns-in-None-clause-capped
returns-in-None-clause-capped c = known_capped c.self.inside.lists c.self.inside.count c.self.inside.accesses.items c.args.object _ c.self.invariant.agrees (none_taken c.self.inside.lists c.self.inside.accesses.items c.args.object _ c.self.invariant.limits.few_lists refl (unnamed_at c.self.inside.lists c.args.object c.self.inside.accesses.items c.self.inside.objects c.self.invariant.objects c.in-None.ensures))
