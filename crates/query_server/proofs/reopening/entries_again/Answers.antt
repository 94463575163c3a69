use Rattle.std.proofs.Common.{◌<◌, length, map, arith, rules}
use Rattle.query_server.specs.Homes.{home_of}
use Rattle.query_server.proofs.HomeLaws.{home_there, reopened_all, reopened_more}
use Rattle.query_server.proofs.ReopenLaws.{asked_none, asked_more, asked_all, asks_there, became_more, became_all}
use Rattle.query_server.proofs.reopening.entries_again.Goals as goal

pub entry_again-requires-clause-within : goal.entry_again-requires-clause-within
entry_again-requires-clause-within g c κs within =
    λ source is.
    let inside : c.loop-place.place < length c.args.entries.now = search rules in
    let size = c.loop-place.invariant.asked.size in
    let l = c.requires.homes.within c.loop-place.place source (home_there c.args.entries.now c.loop-place.place source _ inside is) in
    omega (arith, l, size)

pub loop-place-preserved : goal.loop-place-preserved
loop-place-preserved g c =
    let before = c.loop-place.invariant in
    let again = c.in-Ok-entry_again.ensures in
    let room = before.room in
    let same = c.push_reserved.ensures.capacity in
    let within : c.loop-place.place < length c.args.entries.now = search rules in
    record {
      asked = asked_more g.S.Source.list g.S.Source.counts g.S.Source.calls _ c.loop-place.place (map home_of c.args.entries.now) c.args.slots.now.items c.loop-place.slots.items c.entry_again.new.slots.items
          c.requires.homes before.asked
          (asks_there g.S.Source.list g.S.Source.counts g.S.Source.calls c.args.entries.now c.loop-place.place _ c.loop-place.slots.items c.entry_again.new.slots.items within again.asks);
      empty = λ none. again.empty (before.empty none);
      became = became_more g.S.Source.list g.S.Source.counts g.S.Source.calls g.S.Source.at_hand _ c.loop-place.place c.args.entries.now c.loop-place.now.items
          c.push_reserved.new.self.items _ c.in-Ok-entry_again.entry c.args.slots.now.items c.loop-place.slots.items c.entry_again.new.slots.items
          within c.requires.homes before.asked before.became again.asks again.reopens c.push_reserved.ensures.items;
      so = reopened_more c.loop-place.place c.args.entries.now c.loop-place.now.items c.push_reserved.new.self.items _ c.in-Ok-entry_again.entry within before.so
          again.sized again.home c.push_reserved.ensures.items;
      room = omega (arith, room, same);
    }

pub returns-clause-homes : goal.returns-clause-homes
returns-clause-homes g c = reopened_all c.loop-place.place c.args.entries.now c.loop-place.now.items (search rules) c.loop-place.invariant.so

pub returns-clause-asks : goal.returns-clause-asks
returns-clause-asks g c =
    asked_all g.S.Source.list g.S.Source.counts g.S.Source.calls c.loop-place.place (map home_of c.args.entries.now) c.args.slots.now.items c.loop-place.slots.items c.loop-place.invariant.asked

pub returns-clause-reopens : goal.returns-clause-reopens
returns-clause-reopens g c =
    became_all g.S.Source.list g.S.Source.counts g.S.Source.calls g.S.Source.at_hand c.loop-place.place c.args.entries.now c.loop-place.now.items
    c.args.slots.now.items c.loop-place.slots.items (search rules) c.loop-place.invariant.became

pub returns-clause-empty : goal.returns-clause-empty
returns-clause-empty g c = c.loop-place.invariant.empty

pub returns-in_default-clause-asks : goal.returns-in_default-clause-asks
returns-in_default-clause-asks g c =
    asked_all g.S.Source.list g.S.Source.counts g.S.Source.calls 0 (map home_of c.args.entries.now) c.args.slots.now.items c.args.slots.now.items
    (asked_none g.S.Source.list g.S.Source.counts g.S.Source.calls (map home_of c.args.entries.now) c.args.slots.now.items)

pub returns-in_default-clause-empty : goal.returns-in_default-clause-empty
returns-in_default-clause-empty g c = λ none. none

pub returns-in_default-entry_again-clause-asks : goal.returns-in_default-entry_again-clause-asks
returns-in_default-entry_again-clause-asks g c =
    let within : c.loop-place.place < length c.args.entries.now = search rules in
    asked_all g.S.Source.list g.S.Source.counts g.S.Source.calls _ (map home_of c.args.entries.now) c.args.slots.now.items c.entry_again.new.slots.items
    (asked_more g.S.Source.list g.S.Source.counts g.S.Source.calls _ c.loop-place.place (map home_of c.args.entries.now) c.args.slots.now.items c.loop-place.slots.items c.entry_again.new.slots.items
    c.requires.homes c.loop-place.invariant.asked
    (asks_there g.S.Source.list g.S.Source.counts g.S.Source.calls c.args.entries.now c.loop-place.place _ c.loop-place.slots.items c.entry_again.new.slots.items within c.entry_again.ensures.asks))

pub returns-in_default-entry_again-clause-empty : goal.returns-in_default-entry_again-clause-empty
returns-in_default-entry_again-clause-empty g c = λ none. c.entry_again.ensures.empty (c.loop-place.invariant.empty none)
