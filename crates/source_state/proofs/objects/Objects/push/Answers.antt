use Rattle.std.proofs.Common.{◌≡◌, ◌<◌, ◌≤◌, ◌++◌, [], ◌∷◌, None, Some, List, length, nat_eq, refl, sym, ap, subst, ◌∙◌, arith, vec_capacity}
use Rattle.std.specs.List.{position, position_or_len}
use Rattle.ranked_list.specs.declared.row.Row.{Row}
use Rattle.topk_theory.specs.Bounds.{grade_among}
use Rattle.source_state.specs.declared.spots.Request.{Request}
use Rattle.source_state.specs.Asks.{is_due, held_asks}
use Rattle.source_state.specs.ObjectKeeping.{ObjectList, KeepsObjects, ask_objects, standings, listed}
use Rattle.source_state.proofs.Caching.{row_passed, row_asked, row_unasked, row_shown}
use Rattle.source_state.proofs.objects.Objects.push.Goals as goal

pub next_due-self-inside-requires-clause-passed : goal.next_due-self-inside-requires-clause-passed
next_due-self-inside-requires-clause-passed c =
    subst (λ (rs : List Request). c.self.inside.cursor ≤ position_or_len is_due (standings c.put_spot.new.spots rs)) (sym c.deref.ensures.value)
    (row_passed c.self.inside.room c.self.inside.spots c.self.inside.rows.items c.self.inside.requests.items c.self.inside.tops c.self.inside.cursor _ _ c.self.invariant
    c.put_spot.new.spots c.args.row _ c.put_spot.ensures.set refl c.in-Some.place
    (subst (λ (list : ObjectList). position (nat_eq c.args.row.object) (ask_objects list.asks) ≡ Some c.in-Some.place) (sym c.self.view_is) (sym c.spot-spot.ensures.place ∙ c.in-Some.is)))

pub invariant_of-self : goal.invariant_of-self
invariant_of-self c =
    subst (λ (rs : List Row). KeepsObjects (listed c.self.inside.room c.put_spot.new.spots rs c.self.inside.requests.items) c.put_spot.new.spots c.set_top.new.tops c.next_due-self-inside.result (vec_capacity c.push_reserved.new.self) (vec_capacity c.self.inside.requests))
    (sym c.push_reserved.ensures.items)
    (row_asked c.self.inside.room c.self.inside.spots c.self.inside.rows.items c.self.inside.requests.items c.self.inside.tops c.self.inside.cursor _ _ c.self.invariant
    c.put_spot.new.spots c.args.row _ c.put_spot.ensures.set refl c.in-Some.place
    (subst (λ (list : ObjectList). position (nat_eq c.args.row.object) (ask_objects list.asks) ≡ Some c.in-Some.place) (sym c.self.view_is) (sym c.spot-spot.ensures.place ∙ c.in-Some.is))
    c.set_top.new.tops c.next_due-self-inside.result _
    (subst (λ (list : ObjectList). grade_among list.rows c.args.row.object ≡ None) (sym c.self.view_is) c.requires.absent)
    (subst (λ (list : ObjectList). length list.rows < list.room) (sym c.self.view_is) c.requires.room)
    (subst (λ (list : ObjectList). c.spot-spot.result.place ≡ position (nat_eq c.args.row.object) (ask_objects list.asks)) (sym c.self.view_is) c.spot-spot.ensures.place ∙ sym (c.self.invariant.placed c.args.row.object))
    c.put_spot.ensures.spare c.set_top.ensures
    (c.next_due-self-inside.ensures ∙ ap (λ (rs : List Request). position_or_len is_due (standings c.put_spot.new.spots rs)) c.deref.ensures.value)
    (let wider : vec_capacity c.self.inside.rows ≤ vec_capacity c.push_reserved.new.self = omega (arith, c.push_reserved.ensures.capacity) in wider))

pub invariant_of-self-in_default : goal.invariant_of-self-in_default
invariant_of-self-in_default c =
    subst (λ (rs : List Row). KeepsObjects (listed c.self.inside.room c.put_spot.new.spots rs c.self.inside.requests.items) c.put_spot.new.spots c.self.inside.tops c.self.inside.cursor (vec_capacity c.push_reserved.new.self) (vec_capacity c.self.inside.requests))
    (sym c.push_reserved.ensures.items)
    (row_unasked c.self.inside.room c.self.inside.spots c.self.inside.rows.items c.self.inside.requests.items c.self.inside.tops c.self.inside.cursor _ _ c.self.invariant
    c.put_spot.new.spots c.args.row _ c.put_spot.ensures.set refl _
    (subst (λ (list : ObjectList). grade_among list.rows c.args.row.object ≡ None) (sym c.self.view_is) c.requires.absent)
    (subst (λ (list : ObjectList). length list.rows < list.room) (sym c.self.view_is) c.requires.room)
    (subst (λ (list : ObjectList). c.spot-spot.result.place ≡ position (nat_eq c.args.row.object) (ask_objects list.asks)) (sym c.self.view_is) c.spot-spot.ensures.place ∙ sym (c.self.invariant.placed c.args.row.object))
    (subst (λ (list : ObjectList). position (nat_eq c.args.row.object) (ask_objects list.asks) ≡ None) (sym c.self.view_is) (sym c.spot-spot.ensures.place ∙ c.in_default.is))
    c.put_spot.ensures.spare
    (let wider : vec_capacity c.self.inside.rows ≤ vec_capacity c.push_reserved.new.self = omega (arith, c.push_reserved.ensures.capacity) in wider))

pub returns-in-Some : goal.returns-in-Some
returns-in-Some c =
    ap (λ (rs : List Row). listed c.self.inside.room c.put_spot.new.spots rs c.self.inside.requests.items) c.push_reserved.ensures.items
    ∙ row_shown c.self.inside.room c.self.inside.spots c.self.inside.rows.items c.self.inside.requests.items c.self.inside.tops c.self.inside.cursor _ _ c.self.invariant
    c.put_spot.new.spots c.args.row _ c.put_spot.ensures.set refl
    ∙ ap (λ (list : ObjectList). let shown : ObjectList = record list { rows = list.rows ++ c.args.row ∷ []; asks = held_asks c.args.row.object list.asks } in shown) c.self.view_is

pub returns-in_default : goal.returns-in_default
returns-in_default c =
    ap (λ (rs : List Row). listed c.self.inside.room c.put_spot.new.spots rs c.self.inside.requests.items) c.push_reserved.ensures.items
    ∙ row_shown c.self.inside.room c.self.inside.spots c.self.inside.rows.items c.self.inside.requests.items c.self.inside.tops c.self.inside.cursor _ _ c.self.invariant
    c.put_spot.new.spots c.args.row _ c.put_spot.ensures.set refl
    ∙ ap (λ (list : ObjectList). let shown : ObjectList = record list { rows = list.rows ++ c.args.row ∷ []; asks = held_asks c.args.row.object list.asks } in shown) c.self.view_is
