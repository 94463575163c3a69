-- What is written of a made table.
use Rattle.std.specs.Prelude.{ℕ, List}
use Rattle.topk_base.specs.Lines.{unlines}
use Rattle.bundle_text.specs.Bundle.{sections}
use Rattle.made_inputs.specs.Made.{made_table}
use Rattle.bundle_text.specs.Numbered.{list_names}

-- the sections of the table of so many lists over `count` objects that is made from `start`; its lists are named `l1`, `l2` and so on
abbrev pub made_text : ℕ → ℕ → ℕ → List ℕ
made_text start count lists = unlines (sections (list_names lists) (made_table start count lists))
