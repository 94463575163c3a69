use Rattle.std.proofs.Common.{◌≡◌, ◌<◌, ◌≤◌, ◌++◌, [], ◌∷◌, None, Some, List, length, is_some, sym, ap, subst, ◌∙◌, arith, vec_capacity}
use Rattle.std.specs.List.{position_or_len}
use Rattle.topk_theory.specs.Bounds.{grade_among}
use Rattle.source_state.specs.declared.spots.Request.{Request}
use Rattle.source_state.specs.Asks.{ask_of, is_due, new_ask}
use Rattle.source_state.specs.ObjectKeeping.{ObjectList, KeepsObjects, standings, listed}
use Rattle.source_state.proofs.Caching.{ask_passed, ask_shown, keeps_ask}
use Rattle.source_state.proofs.objects.Objects.push_ask.Goals as goal

pub next_due-self-inside-requires-clause-passed : goal.next_due-self-inside-requires-clause-passed
next_due-self-inside-requires-clause-passed c =
    subst (λ (rs : List Request). c.self.inside.cursor ≤ position_or_len is_due (standings c.put_spot.new.spots rs)) (sym (c.deref.ensures.value ∙ c.push_reserved.ensures.items))
    (ask_passed c.self.inside.room c.self.inside.spots c.self.inside.rows.items c.self.inside.requests.items c.self.inside.tops c.self.inside.cursor _ _ c.self.invariant
    c.put_spot.new.spots c.args.object _ c.put_spot.ensures.set
    (subst (λ (list : ObjectList). c.spot-spot.result.sorted ≡ grade_among list.rows c.args.object) (sym c.self.view_is) c.spot-spot.ensures.sorted))

pub invariant_of-self : goal.invariant_of-self
invariant_of-self c =
    subst (λ (rs : List Request). KeepsObjects (listed c.self.inside.room c.put_spot.new.spots c.self.inside.rows.items rs) c.put_spot.new.spots c.self.inside.tops c.next_due-self-inside.result (vec_capacity c.self.inside.rows) (vec_capacity c.push_reserved.new.self))
    (sym c.push_reserved.ensures.items)
    (keeps_ask c.self.inside.room c.self.inside.spots c.self.inside.rows.items c.self.inside.requests.items c.self.inside.tops c.self.inside.cursor _ _ c.self.invariant
    c.put_spot.new.spots c.args.object _ c.put_spot.ensures.set
    (subst (λ (list : ObjectList). c.spot-spot.result.sorted ≡ grade_among list.rows c.args.object) (sym c.self.view_is) c.spot-spot.ensures.sorted)
    c.next_due-self-inside.result _
    (subst (λ (list : ObjectList). ask_of list.asks c.args.object ≡ None) (sym c.self.view_is) c.requires.absent)
    (subst (λ (list : ObjectList). length list.asks < list.room) (sym c.self.view_is) c.requires.room)
    (let count : c.len.result ≡ length c.self.inside.requests.items = omega (arith, c.len.ensures, c.self.inside.requests.ok.0) in ap (λ n. Some n) count)
    c.put_spot.ensures.spare
    (c.next_due-self-inside.ensures ∙ ap (λ (rs : List Request). position_or_len is_due (standings c.put_spot.new.spots rs)) (c.deref.ensures.value ∙ c.push_reserved.ensures.items))
    (let wider : vec_capacity c.self.inside.requests ≤ vec_capacity c.push_reserved.new.self = omega (arith, c.push_reserved.ensures.capacity) in wider))

pub returns : goal.returns
returns c =
    ap (λ (rs : List Request). listed c.self.inside.room c.put_spot.new.spots c.self.inside.rows.items rs) c.push_reserved.ensures.items
    ∙ ask_shown c.self.inside.room c.self.inside.spots c.self.inside.rows.items c.self.inside.requests.items c.self.inside.tops c.self.inside.cursor _ _ c.self.invariant
    c.put_spot.new.spots c.args.object _ c.put_spot.ensures.set
    (subst (λ (list : ObjectList). c.spot-spot.result.sorted ≡ grade_among list.rows c.args.object) (sym c.self.view_is) c.spot-spot.ensures.sorted)
    ∙ ap (λ (list : ObjectList). let shown : ObjectList = record list { asks = list.asks ++ new_ask c.args.object (is_some (grade_among list.rows c.args.object)) ∷ [] } in shown) c.self.view_is
