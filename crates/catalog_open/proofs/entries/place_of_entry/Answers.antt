use Rattle.std.proofs.Common.{sym, arith}
use Rattle.ranked_list.proofs.Members.{past_end}
use Rattle.catalog_text.specs.Listed.{listed}
use Rattle.catalog_open.proofs.Opens.{entry_place}
use Rattle.catalog_open.proofs.entries.place_of_entry.Goals as goal

pub unreachable-requires : goal.unreachable-requires
unreachable-requires c =
    let past = past_end c.args.catalog.now c.args.entry (sym c.in_default.ensures) in
    omega (arith, past, c.requires)

pub returns : goal.returns
returns c = sym (entry_place c.args.catalog.now c.args.entry (listed c.in-Some.entry.now) c.as_str.result.now c.in-Some.ensures c.as_str.ensures.value)
