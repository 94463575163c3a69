-- The batch of the queries that are ready.
use Rattle.std.proofs.Common.{◌≡◌, ℕ, List, Option, length, map, sym, ◌∙◌}
use Rattle.std.proofs.lemmas.List.{length-map}
use Rattle.source_api.specs.declared.counts.Counts.{Counts}
use Rattle.source_api.specs.Calls.{Call}
use Rattle.query_core.specs.declared.ready.Ready.{Ready}
use Rattle.topk_base.specs.declared.settings.Settings.{Settings}
use Rattle.catalog_open.specs.Openings.{Sources}
use Rattle.catalog_run.specs.OpenSources.{batch_over}

-- the batch of these queries, in other words
pub same_batch : (settings : Settings) (s : Sources) (sizes : List ℕ) (begun now : List Counts) (made calls : List (Option (List Call))) (lent readies : List Ready) → sizes ≡ s.counts
    → lent ≡ readies → batch_over settings (record s { counts = sizes }) begun now made calls lent ≡ batch_over settings s begun now made calls readies
same_batch settings s sizes begun now made calls lent readies counts are = λ i. batch_over settings (record s { counts = counts i }) begun now made calls (are i)

-- as many sources are there as lists that they may tell
pub as_many : {X A B : Type 0} → (f : X → A) (g : X → B) (xs : List X) → length (map f xs) ≡ length (map g xs)
as_many f g xs = length-map xs f ∙ sym (length-map xs g)
