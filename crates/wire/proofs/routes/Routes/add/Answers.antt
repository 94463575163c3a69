use Rattle.std.proofs.Common.{◌≡◌, true, rules}
use Rattle.std.specs.List.{list_all}
use Rattle.wire.specs.Routes.{is_plain_byte}
use Rattle.wire.proofs.PathLaws.{plain_still, all_added}
use Rattle.wire.proofs.routes.Routes.add.Goals as goal

pub invariant_of-self : goal.invariant_of-self
invariant_of-self g c =
    let plain : list_all is_plain_byte c.args.path.now ≡ true = search rules in
    plain_still c.args.path.now c.args.value c.self.inside.router c.insert.new.self c.insert.result plain c.self.invariant c.insert.ensures

pub returns-clause-added : goal.returns-clause-added
returns-clause-added g c =
    let plain : list_all is_plain_byte c.args.path.now ≡ true = search rules in
    let same : c.self.inside.router ≡ c.args.self.now = search rules in
    all_added c.args.path.now c.args.value c.self.inside.router c.args.self.now c.insert.new.self c.insert.result plain c.self.invariant same c.insert.ensures
