-- How a text begins.
use Rattle.std.specs.Prelude.{◌≡◌, ◌<◌, ℕ, List, ◌∷◌, length}
use Rattle.topk_base.specs.Lines.{lines}
use Rattle.bundle_text.specs.Reading.{Part, part_of}

-- the first line of the text is this part of a bundle, and the text goes on with the rest
pub record BeginsWithPart (text : List ℕ) (part : Part) (rest : List ℕ) : Type 0 where
  pub line : List ℕ
  pub whole : lines text ≡ line ∷ lines rest
  pub is : part ≡ part_of line
  pub shorter : length rest < length text
