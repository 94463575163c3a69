use Rattle.std.proofs.Common.{◌≡◌, ◌<◌, ◌++◌, ◌∷◌, [], ◌∙◌, Some, length, ap}
use Rattle.std.specs.Prelude.{option_to_list}
use Rattle.std.proofs.lemmas.List.Elements.{All-pop}
use Rattle.tickets.proofs.PlaceLaws.{placed_more}
use Rattle.tickets.proofs.placing.place_all.Goals as goal

pub loop-place-preserved-in-Some : goal.loop-place-preserved-in-Some
loop-place-preserved-in-Some g c =
    let rest = c.pop.new.self.items in
    let one = c.in-Some.field-0 in
    let popped : c.loop-place.done.items ≡ rest ++ one ∷ [] = c.pop.ensures.items ∙ ap (λ r. rest ++ option_to_list r) c.in-Some.is in
    let both = All-pop (λ one. one.place < length c.args.answers.now) c.loop-place.done.items rest (Some one) popped c.loop-place.invariant.within in
    placed_more c.args.answers.now c.loop-place.answers c.args.done.items c.loop-place.done.items rest one popped both.0 both.1 c.loop-place.invariant

pub loop-place-preserved : goal.loop-place-preserved
loop-place-preserved g c =
    let rest = c.pop.new.self.items in
    let one = c.in-Some.field-0 in
    let popped : c.loop-place.done.items ≡ rest ++ one ∷ [] = c.pop.ensures.items ∙ ap (λ r. rest ++ option_to_list r) c.in-Some.is in
    let both = All-pop (λ one. one.place < length c.args.answers.now) c.loop-place.done.items rest (Some one) popped c.loop-place.invariant.within in
    placed_more c.args.answers.now c.loop-place.answers c.args.done.items c.loop-place.done.items rest one popped both.0 both.1 c.loop-place.invariant
