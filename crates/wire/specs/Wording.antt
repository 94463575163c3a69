-- The parts of a text that is written.
use Rattle.std.specs.Prelude.{ℕ, List, decimal}
use Rattle.wire.specs.declared.writing.Part.{Part}
use Rattle.wire.specs.declared.writing.Part.TheVariants.{Text, Number}

-- the bytes of a part
abbrev pub part_text : Part → List ℕ
part_text (Text text) = text.now
part_text (Number number) = decimal number
