use Rattle.std.proofs.Common.{rules, ◌≡◌, None, Some, subst, sym, ap, ◌∙◌}
use Rattle.catalog_open.specs.Takings.{IsAsked, seen}
use Rattle.catalog_open.specs.declared.taking.OpenEntry.TheVariants.{Taken}
use Rattle.catalog_open.proofs.Taken.{asked_now, calls_once}
use Rattle.catalog_open.proofs.taking.ask.Goals as goal

pub returns-then-is_none : goal.returns-then-is_none
returns-then-is_none g c =
    let view = seen g.S.Source.list g.S.Source.states g.S.Source.at_hand g.S.Source.counts g.S.Source.calls in
    let none : c.in-Taken.size ≡ None = search rules in
    subst (λ entry. IsAsked view entry (Taken c.size.new.self (Some c.size.result))) (sym (c.in-Taken.is ∙ ap (Taken c.in-Taken.source) none))
    (asked_now view c.in-Taken.source c.size.new.self c.size.result c.size.ensures.list c.size.ensures.given c.size.ensures.quiet c.size.ensures.cause c.size.ensures.unmoved
    c.size.ensures.size c.size.ensures.version
    (calls_once view (g.S.Source.calls c.in-Taken.source) (g.S.Source.calls c.size.new.self) c.size.result c.size.ensures.answered c.size.ensures.refused))
