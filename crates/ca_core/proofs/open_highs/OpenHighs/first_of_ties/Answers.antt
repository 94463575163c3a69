use Rattle.std.proofs.Common.{◌∙◌}
use Rattle.monotone_fn.specs.Value.{value}
use Rattle.ca_core.proofs.Capping.{first_more, present_if}
use Rattle.ca_core.proofs.open_highs.OpenHighs.first_of_ties.Goals as goal

pub loop-list-preserved : goal.loop-list-preserved
loop-list-preserved c =
    let log = c.args.transcript.now in
    let before = c.loop-list.invariant in
    let made = c.first_tied.ensures in
    record {
      kept = made.kept;
      room = made.room ∙ before.room;
      first = first_more (value c.args.expr.now) log.lists log.accesses c.loop-list.list c.loop-list.self.ties.heaps.items c.first_tied.new.self.ties.heaps.items c.loop-list.first
          c.first_tied.result c.first_of-first.result before.first (present_if (value c.args.expr.now) log.lists log.accesses c.first_tied.result made.present) made.leads made.others
          c.first_of-first.ensures.one c.first_of-first.ensures.other c.first_of-first.ensures.either;
    }
