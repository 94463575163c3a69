use Rattle.std.proofs.Common.{◌≡◌, sym, ap, ◌∙◌, rules}
use Rattle.wire.specs.Routes.{value_at}
use Rattle.wire.proofs.PathLaws.{no_text}
use Rattle.wire.proofs.routes.Routes.find.Goals as goal

pub returns-in_default : goal.returns-in_default
returns-in_default g c =
    let same : c.self.inside.router ≡ c.args.self.now = search rules in
    sym (no_text c.self.inside.router c.args.path.now c.self.invariant c.in_default.ensures.cases.0) ∙ ap (λ rows. value_at rows c.args.path.now) same
