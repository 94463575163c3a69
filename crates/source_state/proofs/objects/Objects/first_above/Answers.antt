use Rattle.std.proofs.Common.{◌≡◌, ◌∙◌, None, sym, subst, arith}
use Rattle.source_state.specs.Asks.{first_above}
use Rattle.source_state.specs.ObjectKeeping.{ObjectList}
use Rattle.source_state.proofs.Caching.{no_tops, low_tops}
use Rattle.source_state.proofs.objects.Objects.first_above.Goals as goal

pub returns-in_err-top : goal.returns-in_err-top
returns-in_err-top c =
    c.from_residual.ensures
    ∙ sym (subst (λ (list : ObjectList). first_above c.args.bottom list.asks ≡ None) c.self.view_is
    (no_tops _ c.self.inside.spots c.self.inside.tops c.self.inside.cursor _ _ c.args.bottom c.self.invariant c.in_err-top.ensures.none))

pub returns-then-top-bottom : goal.returns-then-top-bottom
returns-then-top-bottom c =
    sym (subst (λ (list : ObjectList). first_above c.args.bottom list.asks ≡ None) c.self.view_is
    (low_tops _ c.self.inside.spots c.self.inside.tops c.self.inside.cursor _ _ c.args.bottom c.in_ok-top.top.key c.in_ok-top.top.rank c.self.invariant c.in_ok-top.ensures.greatest (omega arith)))
