use Rattle.std.proofs.Common.{◌≡◌, ℕ, ◌+◌, ◌<◌, List, [], ◌∷◌, ◌++◌, length, get_or, map, take, sym, ap, ◌∙◌}
use Rattle.std.proofs.lemmas.List.{get_or_default, map-append, take_all, take_more}
use Rattle.ranked_list.specs.declared.row.Row.{Row}
use Rattle.topk_theory.specs.Transcript.{list_at}
use Rattle.bundle_text.specs.Bundle.{content}
use Rattle.bundle_calls.specs.Bundled.{lists_at}
use Rattle.bundle_calls.proofs.bundled.told_lists.Goals as goal

-- the list at one place more
list_more : (lists : List (List Row)) (places : List ℕ) (so_far now : List (List Row)) (at : ℕ) (list rows : List Row) → at < length places
    → get_or places at 0 < length lists → list ≡ rows → rows ≡ get_or lists (get_or places at 0) rows → so_far ≡ map (list_at lists) (take at places)
    → now ≡ so_far ++ list ∷ [] → now ≡ map (list_at lists) (take (at + 1) places)
list_more lists places so_far now at list rows here within of is before put =
    let place : ℕ = get_or places at 0 in
    let told : list ≡ list_at lists place = of ∙ is ∙ get_or_default lists place rows [] within in
    put ∙ ap (λ l. so_far ++ l ∷ []) told ∙ ap (λ ls. ls ++ list_at lists place ∷ []) before
    ∙ sym (map-append (list_at lists) (take at places) (place ∷ [])) ∙ sym (ap (map (list_at lists)) (take_more places at 0 here))

pub loop-place-preserved : goal.loop-place-preserved
loop-place-preserved c =
    let c' = content c.args.bundle.now in
    list_more c'.lists c.args.places.now c.loop-place.lists.items c.push.new.self.items c.loop-place.place-index c.of-list.result c.index.result.now c.loop-place-test.true
    (c.requires c.loop-place.place-index 0 c.loop-place-test.true) c.of-list.ensures c.index.ensures c.loop-place.invariant c.in-Ok.ensures.items

pub returns : goal.returns
returns c =
    c.loop-place.invariant ∙ ap (lists_at (content c.args.bundle.now)) (take_all c.loop-place.place-index c.args.places.now c.loop-place-test.false)
