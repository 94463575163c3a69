-- The records of a CSV text, each a list of fields.
use Rattle.std.specs.Prelude.{◌≡◌, ℕ, List, Some}
use Rattle.std.specs.Borrow.{Bor}
use Rattle.csv.specs.Reading.{Ready, default_config, records, source_of, strip_bom}
use Rattle.csv.specs.declared.parser.State.TheVariants as st
use Rattle.csv.specs.declared.reader.Reader.{Reader}
use Rattle.csv.specs.declared.reader.Trim.TheVariants as trim

-- the records of a text that has no byte order mark
abbrev pub records_from_start : List ℕ → List (List (List ℕ))
records_from_start text = records default_config text

-- the records of a text, from which a byte order mark at the beginning is dropped
abbrev pub records_of : List ℕ → List (List (List ℕ))
records_of text = records_from_start (strip_bom text)

-- a reader of bytes that trims nothing, takes no header apart, and is about to read this text
pub record IsAtStart (r : Reader (Bor (List ℕ))) (text : List ℕ) : Type 0 where
  pub trim : r.trim ≡ trim.None
  pub ready : Ready r
  pub config : r.config ≡ default_config
  pub state : r.state ≡ st.StartRecord
  pub source : source_of (λ (s : Bor (List ℕ)). Some s.now) r ≡ Some text
