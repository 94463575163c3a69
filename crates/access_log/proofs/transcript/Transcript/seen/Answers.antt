use Rattle.std.proofs.Common.{arith}
use Rattle.access_log.proofs.Readers.{seen_small}
use Rattle.access_log.proofs.transcript.Transcript.seen.Goals as goal

pub overflow_cast-result : goal.overflow_cast-result
overflow_cast-result c = omega (arith, c.self.inside.objects.sights.ok.0, seen_small c.self.inside.lists c.self.inside.accesses.items c.self.inside.objects c.self.inside.spare_objects c.self.invariant.objects c.self.invariant.room c.self.invariant.object_room)
