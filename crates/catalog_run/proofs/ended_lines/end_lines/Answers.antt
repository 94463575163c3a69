use Rattle.std.proofs.Common.{rules, ◌≡◌, ◌++◌, ◌∷◌, [], arith}
use Rattle.catalog_run.proofs.EndedLines.{ends_none, keeps_more, ends_more}
use Rattle.catalog_run.proofs.ended_lines.end_lines.Goals as goal

pub loop-line-init : goal.loop-line-init
loop-line-init c =
    let none = c.in_ok-outcomes.ensures.len in
    let room = c.in_ok-outcomes.ensures.capacity in
    record {
      from = ends_none c.args.admissions.outcomes.items c.args.admissions.readies.items c.args.endings.items c.in_ok-outcomes.outcomes.items c.requires.waiting c.requires.endings
          c.in_ok-outcomes.ensures.items;
      room = omega (arith, none, room);
    }

pub loop-line-preserved-in-Some-line : goal.loop-line-preserved-in-Some-line
loop-line-preserved-in-Some-line c =
    let room = c.loop-line.invariant.room in
    let popped = c.in-Some.ensures.len in
    let pushed = c.push_reserved.ensures.len in
    let capacity = c.push_reserved.ensures.capacity in
    record {
      from = keeps_more c.args.admissions.outcomes.items c.loop-line.lines.items c.pop.new.self.items c.args.admissions.readies.items c.loop-line.readies.items
          c.args.endings.items c.loop-line.endings.items c.loop-line.outcomes.items c.push_reserved.new.self.items c.in-Some.line c.in-Some-line.outcome
          c.loop-line.invariant.from c.in-Some.ensures.items c.in-Some-line.is c.push_reserved.ensures.items;
      room = omega (arith, room, popped, pushed, capacity);
    }

pub loop-line-preserved : goal.loop-line-preserved
loop-line-preserved c =
    let ready : c.loop-line.readies.items ≡ c.pop-in-None.new.self.items ++ c.unwrap-ready.result ∷ [] = search rules in
    let ended : c.loop-line.endings.items ≡ c.pop-in-None-2.new.self.items ++ c.unwrap-ended.result ∷ [] = search rules in
    let room = c.loop-line.invariant.room in
    let popped = c.in-Some.ensures.len in
    let pushed = c.push_reserved-in-None.ensures.len in
    let capacity = c.push_reserved-in-None.ensures.capacity in
    record {
      from = ends_more c.args.admissions.outcomes.items c.loop-line.lines.items c.pop.new.self.items c.args.admissions.readies.items c.loop-line.readies.items c.pop-in-None.new.self.items
          c.args.endings.items c.loop-line.endings.items c.pop-in-None-2.new.self.items c.loop-line.outcomes.items c.push_reserved-in-None.new.self.items
          c.in-Some.line c.unwrap-ready.result c.unwrap-ended.result c.in_ok-line_ended-in-None.field-0
          c.loop-line.invariant.from c.in-Some.ensures.items c.in-None.is ready ended c.in_ok-line_ended-in-None.ensures c.push_reserved-in-None.ensures.items;
      room = omega (arith, room, popped, pushed, capacity);
    }
