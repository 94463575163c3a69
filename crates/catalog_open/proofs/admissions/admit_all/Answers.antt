use Rattle.std.proofs.Common.{arith}
use Rattle.catalog_open.specs.Views.{view_over, nothing_told}
use Rattle.catalog_open.proofs.Admits.{next_line, refused_more, ready_more}
use Rattle.catalog_open.proofs.admissions.admit_all.Goals as goal

pub admit_read-requires : goal.admit_read-requires
admit_read-requires c =
    let next =
    next_line (view_over c.args.lists.now.catalog.now c.args.lists.now.openings.now nothing_told) c.args.read.items c.loop-line.read.items c.pop.new.self.items c.in-Some.line
    c.loop-line.outcomes.items c.loop-line.readies.items c.requires.0 c.loop-line.invariant.from c.in-Some.ensures.items c.requires.1 in
    (_, next.bytes, next.read)

pub loop-line-preserved-in-Refused : goal.loop-line-preserved-in-Refused
loop-line-preserved-in-Refused c =
    let room = c.loop-line.invariant.room in
    let popped = c.in-Some.ensures.len in
    let pushed = c.push_reserved.ensures.len in
    let capacity = c.push_reserved.ensures.capacity in
    record {
      from = refused_more (view_over c.args.lists.now.catalog.now c.args.lists.now.openings.now nothing_told) c.args.read.items c.loop-line.read.items c.pop.new.self.items c.in-Some.line
          c.loop-line.outcomes.items c.push_reserved.new.self.items c.loop-line.readies.items c.in_ok-refusal.field-0 c.in-Refused.refusal c.in-Refused.query c.line_refused.result
          c.loop-line.invariant.from c.in-Some.ensures.items c.in_ok-refusal.ensures c.in-Refused.is c.line_refused.ensures c.push_reserved.ensures.items;
      room = omega (arith, room, popped, pushed, capacity);
    }

pub loop-line-preserved : goal.loop-line-preserved
loop-line-preserved c =
    let room = c.loop-line.invariant.room in
    let popped = c.in-Some.ensures.len in
    let pushed = c.push_reserved-in-Ready.ensures.len in
    let capacity = c.push_reserved-in-Ready.ensures.capacity in
    record {
      from = ready_more (view_over c.args.lists.now.catalog.now c.args.lists.now.openings.now nothing_told) c.args.read.items c.loop-line.read.items c.pop.new.self.items c.in-Some.line
          c.loop-line.outcomes.items c.push_reserved-in-Ready.new.self.items c.loop-line.readies.items c.push.new.self.items c.in_ok-refusal.field-0 c.in-Ready.ready
          c.loop-line.invariant.from c.in-Some.ensures.items c.in_ok-refusal.ensures c.in-Ready.is c.push_reserved-in-Ready.ensures.items c.in_ok-push-in-Ready.ensures.items;
      room = omega (arith, room, popped, pushed, capacity);
    }
