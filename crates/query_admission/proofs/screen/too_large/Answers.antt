use Rattle.std.proofs.Common.{nat_lt, sym, ◌∙◌, refl}
use Rattle.query_admission.specs.View.{most_objects, is_large}
use Rattle.query_admission.proofs.Positions.{found_within, found_passes, passing_stated, size_there}
use Rattle.query_admission.proofs.screen.too_large.Goals as goal

pub unreachable-requires : goal.unreachable-requires
unreachable-requires c =
    passing_stated (nat_lt most_objects) _ (found_passes is_large c.args.lists.now c.in-Some.list (sym c.first_large.ensures ∙ c.in-Some.is)) c.in_default-size.is

pub returns-clause-why : goal.returns-clause-why
returns-clause-why c = λ query.
    let found = sym c.first_large.ensures ∙ c.in-Some.is in
    (c.in-Some.list, c.in-Some-size.count, refl, found, size_there c.args.lists.now c.in-Some.list (found_within is_large c.args.lists.now c.in-Some.list found) ∙ c.in-Some-size.is)
