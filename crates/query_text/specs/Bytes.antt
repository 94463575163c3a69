-- Texts as contracts see them.
use Rattle.std.specs.Prelude.{ℕ, List, map}
use Rattle.std.specs.Global.{Vec}

-- the bytes of each of some texts
abbrev pub bytes_of : List (Vec ℕ) → List (List ℕ)
bytes_of texts = map (λ text. text.items) texts
