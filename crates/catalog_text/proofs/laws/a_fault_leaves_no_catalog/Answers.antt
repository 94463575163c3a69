use Rattle.catalog_text.proofs.Exclusion.{broken_is_none, repeated_is_none}
use Rattle.catalog_text.proofs.laws.a_fault_leaves_no_catalog.Goals as goal

pub returns : goal.returns
returns c = record { form = broken_is_none; name = repeated_is_none }
