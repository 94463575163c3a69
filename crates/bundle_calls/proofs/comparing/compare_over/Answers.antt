use Rattle.std.proofs.Common.{◌≡◌, ◌<◌, All, length, IfOk, sym, ap, ◌∙◌, subst}
use Rattle.bundle_text.specs.Bundle.{content}
use Rattle.bundle_calls.specs.Bundled.{lists_at}
use Rattle.bundle_calls.specs.Comparing.{IsOver, compared_by}
use Rattle.bundle_calls.proofs.Bundling.{places_within}
use Rattle.bundle_calls.proofs.CompareLaws.{over_bundle}
use Rattle.bundle_calls.proofs.comparing.compare_over.Goals as goal

pub told_lists-requires : goal.told_lists-requires
told_lists-requires c =
    subst (All (λ place. place < length c.args.bundle.now.lists.items)) (sym c.deref.ensures.value) (places_within (content c.args.bundle.now) c.args.ready.now c.requires.bundle c.requires.admitted)

pub compare_all-requires : goal.compare_all-requires
compare_all-requires c =
    let bundle = content c.args.bundle.now in
    let same = c.deref_mut.ensures.value ∙ (c.in-Ok.ensures ∙ ap (lists_at bundle) c.deref.ensures.value) in
    subst (IsOver c.args.ready.now) (sym same) (over_bundle bundle c.args.ready.now c.requires.bundle c.requires.admitted)

pub returns : goal.returns
returns c =
    let bundle = content c.args.bundle.now in
    let same = c.deref_mut.ensures.value ∙ (c.in-Ok.ensures ∙ ap (lists_at bundle) c.deref.ensures.value) in
    subst (λ D. IfOk c.compare_all.result (λ compared. compared ≡ compared_by c.args.ready.now.query D)) same c.compare_all.ensures
