use Rattle.std.proofs.Common.{◌≤◌, length, sym, ◌∙◌, arith}
use Rattle.std.specs.List.{position_or_len}
use Rattle.std.proofs.lemmas.List.Sums.{prefix_len-le-length}
use Rattle.wire.specs.Targets.{ends_authority}
use Rattle.wire.proofs.TargetLaws.{found_at, found_nowhere}
use Rattle.wire.proofs.target.authority_len.Goals as goal

pub returns-in-Some-clause-len : goal.returns-in-Some-clause-len
returns-in-Some-clause-len c =
    found_at (position_or_len ends_authority c.args.bytes.now) (length c.args.bytes.now) c.in-Some.place (sym c.authority_end.ensures ∙ c.in-Some.is)

pub returns-in-Some-clause-within : goal.returns-in-Some-clause-within
returns-in-Some-clause-within c =
    let same = found_at (position_or_len ends_authority c.args.bytes.now) (length c.args.bytes.now) c.in-Some.place (sym c.authority_end.ensures ∙ c.in-Some.is) in
    let within : position_or_len ends_authority c.args.bytes.now ≤ length c.args.bytes.now = prefix_len-le-length _ c.args.bytes.now in
    omega (arith, same, within)

pub returns-in-None-clause-len : goal.returns-in-None-clause-len
returns-in-None-clause-len c =
    found_nowhere (position_or_len ends_authority c.args.bytes.now) (length c.args.bytes.now) (prefix_len-le-length _ c.args.bytes.now) (sym c.authority_end.ensures ∙ c.in-None.is)
