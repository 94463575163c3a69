use Rattle.std.proofs.Common.{◌≡◌, ◌≤◌, Some, List, nat_eq, set, sym, ap, subst, ◌∙◌}
use Rattle.std.specs.List.{position, position_or_len}
use Rattle.source_state.specs.declared.ask.Ask.{Ask}
use Rattle.source_state.specs.declared.spots.Request.{Request}
use Rattle.source_state.specs.Asks.{is_due, open_grade, settled_asks}
use Rattle.source_state.specs.ObjectKeeping.{ObjectList, ask_objects, standings}
use Rattle.source_state.proofs.Caching.{settle_passed, settle_shown, keeps_settled}
use Rattle.source_state.proofs.objects.Objects.settle_at.Goals as goal

pub next_due-self-inside-requires-clause-passed : goal.next_due-self-inside-requires-clause-passed
next_due-self-inside-requires-clause-passed c =
    subst (λ (rs : List Request). c.self.inside.cursor ≤ position_or_len is_due (standings c.self.inside.spots rs)) (sym c.deref.ensures.value)
    (settle_passed c.self.inside.room c.self.inside.spots c.self.inside.rows.items c.self.inside.requests.items c.self.inside.tops c.self.inside.cursor _ _ c.self.invariant
    c.args.object c.args.place c.args.settling
    (subst (λ (list : ObjectList). position (nat_eq c.args.object) (ask_objects list.asks) ≡ Some c.args.place) (sym c.self.view_is) c.requires))

pub invariant_of-self : goal.invariant_of-self
invariant_of-self c =
    keeps_settled c.self.inside.room c.self.inside.spots c.self.inside.rows.items c.self.inside.requests.items c.self.inside.tops c.self.inside.cursor _ _ c.self.invariant
    c.args.object c.args.place c.args.settling
    (subst (λ (list : ObjectList). position (nat_eq c.args.object) (ask_objects list.asks) ≡ Some c.args.place) (sym c.self.view_is) c.requires)
    c.set_top.new.tops c.next_due-self-inside.result
    (c.set_top.ensures ∙ ap (set c.self.inside.tops c.args.place) (c.open_grade.ensures ∙ ap (λ (ask : Ask). open_grade ask) c.standing-ask.ensures))
    (c.next_due-self-inside.ensures ∙ ap (λ (rs : List Request). position_or_len is_due (standings c.self.inside.spots rs)) c.deref.ensures.value)

pub returns : goal.returns
returns c =
    settle_shown c.self.inside.room c.self.inside.spots c.self.inside.rows.items c.self.inside.requests.items c.self.inside.tops c.self.inside.cursor _ _ c.self.invariant
    c.args.object c.args.place c.args.settling
    (subst (λ (list : ObjectList). position (nat_eq c.args.object) (ask_objects list.asks) ≡ Some c.args.place) (sym c.self.view_is) c.requires)
    ∙ ap (λ (list : ObjectList). let shown : ObjectList = record list { asks = settled_asks c.args.object c.args.settling list.asks } in shown) c.self.view_is
