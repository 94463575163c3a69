use Rattle.std.proofs.Common.{◌≡◌, slice_get, ◌∙◌, sym, ap, subst}
use Rattle.std.specs.List.{position_or_len}
use Rattle.std.proofs.lemmas.List.Folds.{find_at}
use Rattle.source_state.specs.Asks.{is_due}
use Rattle.source_state.specs.ObjectKeeping.{ObjectList}
use Rattle.source_state.proofs.objects.Objects.first_due.Goals as goal

pub returns : goal.returns
returns c =
    c.ask_at.ensures
    ∙ ap (slice_get c.args.self.now.asks) (subst (λ (list : ObjectList). c.self.inside.cursor ≡ position_or_len is_due list.asks) c.self.view_is c.self.invariant.cursor)
    ∙ sym (find_at is_due c.args.self.now.asks)
