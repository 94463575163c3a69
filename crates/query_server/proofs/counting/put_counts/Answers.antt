use Rattle.std.proofs.Common.{rules, ◌<◌, length, map, sym, subst}
use Rattle.query_server.specs.Homes.{AreHomes, home_of}
use Rattle.query_server.proofs.HomeLaws.{counted_all, counted_more, is_within}
use Rattle.query_server.proofs.counting.put_counts.Goals as goal

pub put_count-requires : goal.put_count-requires
put_count-requires c =
    let within : c.loop-place.place < length c.args.entries.now = search rules in
    is_within (length c.loop-place.counts) c.args.entries.now c.loop-place.place _ within
    (subst (λ n. AreHomes n (map home_of c.args.entries.now)) (sym c.loop-place.invariant.size) c.requires.homes)

pub loop-place-preserved : goal.loop-place-preserved
loop-place-preserved c =
    counted_more c.loop-place.place c.args.entries.now _ c.args.counts.now c.loop-place.counts c.put_count.new.counts (search rules) c.requires.homes c.requires.sized
    c.loop-place.invariant c.put_count.ensures

pub returns-clause-counted : goal.returns-clause-counted
returns-clause-counted c = counted_all c.loop-place.place c.args.entries.now c.args.counts.now c.loop-place.counts (search rules) c.loop-place.invariant
