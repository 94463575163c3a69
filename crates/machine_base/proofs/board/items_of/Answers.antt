use Rattle.std.proofs.Common.{◌<◌, ◌≤◌, ◌++◌, [], ◌∷◌, List, Vec, Global, length, sym, ap, ◌∙◌, arith}
use Rattle.std.proofs.lemmas.List.{take_all}
use Rattle.ranked_list.specs.declared.item.Item.{Item}
use Rattle.machine_base.specs.Rank.{item_of}
use Rattle.machine_base.specs.Kept.{items_in}
use Rattle.machine_base.proofs.Rising.{items_more, items_same}
use Rattle.machine_base.proofs.board.items_of.Goals as goal
use Rattle.machine_base.proofs.board.items_of.Goals.{in-Some+in-Ok, in_default}

pub loop-place-preserved : goal.loop-place-preserved
loop-place-preserved c =
    let top = c.args.top.now in
    let place = c.loop-place.place in
    let within : place < length top = omega arith in
    elim c.match-get.branch [
      | in-Some+in-Ok w ↦
          let at = sym c.get.ensures ∙ w.in-Some.is in
          ap (λ (v : Vec Item Global). v.items) w.items-is ∙ w.in-Ok.ensures.items
          ∙ ap (λ (item : Item). c.loop-place.items.items ++ item ∷ []) w.item.ensures
          ∙ ap (λ (items : List Item). items ++ item_of w.in-Some.rank ∷ []) c.loop-place.invariant
          ∙ sym (items_more top place w.in-Some.rank within at)
      | in_default w ↦ ap (λ (v : Vec Item Global). v.items) w.items-is ∙ c.loop-place.invariant ∙ sym (items_same top place within (sym c.get.ensures ∙ w.in_default.is))
    ]

pub loop-place-init : goal.loop-place-init
loop-place-init c = c.requires

pub returns : goal.returns
returns c =
    let top = c.args.top.now in
    let all : length top ≤ c.loop-place.place = omega arith in
    c.loop-place.invariant ∙ ap items_in (take_all c.loop-place.place top all)
