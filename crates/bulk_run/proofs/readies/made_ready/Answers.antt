use Rattle.std.proofs.Common.{◌≡◌, ℕ, Bool, true, replicate, ap, refl, ◌∙◌}
use Rattle.monotone_fn.specs.Shape.{list_count}
use Rattle.topk_theory.specs.Transcript.{list_numbers}
use Rattle.query_text.specs.declared.query.Query.{Query}
use Rattle.made_inputs.specs.MadeQueries.{made_tree}
use Rattle.made_inputs.proofs.Trees.{made_fits}
use Rattle.bulk_run.proofs.Readying.{ready_made}
use Rattle.bulk_run.proofs.readies.made_ready.Goals as goal

pub returns : goal.returns
returns c =
    let input = c.args.input in
    let tree : c.in-Ok.query.expr ≡ made_tree c.args.number input.lists = ap (λ (q : Query). q.expr) c.in-Ok.ensures.made in
    let many : c.lists-lists.result ≡ input.lists =
    c.lists-lists.ensures.lists ∙ ap list_count tree ∙ (made_fits c.args.number input.lists c.requires.some_lists c.requires.few_lists).names in
    ready_made input c.args.number _ c.requires c.in-Ok.ensures.made refl (c.in-Ok-source_numbers.ensures ∙ ap list_numbers many)
    (c.in-Ok-first_versions.ensures ∙ ap (λ lists. replicate {A = ℕ} lists 0) many)
    (c.in-Ok-all_sorted.ensures ∙ ap (λ lists. replicate {A = Bool} lists true) many) c.in-Ok.ensures.lawful c.lists-lists.ensures.made
