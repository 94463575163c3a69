use Rattle.std.proofs.Common.{◌≡◌, true, None, Some, option_map, sym, ap, ◌∙◌, subst}
use Rattle.bundle_text.specs.Bundle.{content}
use Rattle.bundle_calls.specs.Bundled.{bundle_place, bundle_listed, bundle_view}
use Rattle.bundle_calls.proofs.Bundling.{found_at, listed_here}
use Rattle.bundle_calls.proofs.bundled.BundledLists.find.Goals as goal

pub returns-in_default : goal.returns-in_default
returns-in_default c =
    let bundle = c.self.inside.bundle.now in
    let name = c.args.name.now in
    let at = found_at bundle name c.deref.result.now c.place_of_name.result c.deref.ensures.value c.place_of_name.ensures ∙ c.in_default.is in
    subst (λ d. None ≡ option_map (bundle_listed d) (bundle_place d name)) c.self.view_is (ap (option_map (bundle_listed (content bundle))) (sym at))

pub returns : goal.returns
returns c =
    let bundle = c.self.inside.bundle.now in
    let name = c.args.name.now in
    let at = found_at bundle name c.deref.result.now c.place_of_name.result c.deref.ensures.value c.place_of_name.ensures ∙ c.in-Some.is in
    subst (λ d. Some (record { size = Some c.from.result; random = true; sorted = true; source = c.in-Some.place; version = 0 }) ≡ (bundle_view d).listed name) c.self.view_is
    (listed_here (content bundle) name c.in-Some.place c.from.result c.index.result.now c.self.invariant at c.index.ensures (c.from.ensures ∙ c.len.ensures))
