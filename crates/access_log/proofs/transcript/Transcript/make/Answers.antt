use Rattle.access_log.proofs.Pushing.{kept_empty}
use Rattle.access_log.proofs.transcript.Transcript.make.Goals as goal

pub invariant_of-result : goal.invariant_of-result
invariant_of-result c = kept_empty c.args.lists c.args.count _ c.new.result.items c.in_ok-objects.objects c.start.result c.requires c.new.ensures.items c.in_ok-objects.ensures.empty (c.start.ensures c.args.lists c.requires.few_lists) c.in_ok-objects.ensures.room
