-- A made table that is written is what is written of it.
use Rattle.std.proofs.Common.{◌≡◌, ℕ, List, length, ap, ◌∙◌}
use Rattle.std.proofs.lemmas.List.FromFn.{length-map-range_with_len}
use Rattle.topk_base.specs.Lines.{unlines}
use Rattle.ranked_list.specs.declared.row.Row.{Row}
use Rattle.bundle_text.specs.Bundle.{sections}
use Rattle.made_inputs.specs.Made.{made_list, made_table}
use Rattle.bundle_text.specs.Numbered.{list_names}
use Rattle.bundle_calls.specs.Made.{made_text}

pub text_is : (start count lists : ℕ) (table : List (List Row)) → table ≡ made_table start count lists
    → unlines (sections (list_names (length table)) table) ≡ made_text start count lists
text_is start count lists table is =
    let as_many : length table ≡ lists = ap length is ∙ length-map-range_with_len (made_list start count) 0 lists in
    ap (λ n. unlines (sections (list_names n) table)) as_many ∙ ap (λ D. unlines (sections (list_names lists) D)) is
