use Rattle.std.proofs.Common.{◌≡◌}
use Rattle.form_urlencoded.specs.Parse.{raw_pairs_left}
use Rattle.wire.specs.Queries.{value_in, first_value}
use Rattle.wire.proofs.query.value_in.Given as goal

-- no pair so far has the name
abbrev pub invariant-loop-pair : goal.invariant-loop-pair
invariant-loop-pair l =
    (goal.iterator-loop-pair).can_next l.pair-iterator
    × (goal.iterator-loop-pair).is_finite l.pair-iterator
    × (value_in l.name l.query ≡ first_value l.name (raw_pairs_left l.pair-iterator))
