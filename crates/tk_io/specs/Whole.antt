-- Whole texts through streams.
use Rattle.std.specs.Prelude.{◌≡◌, ℕ, ◌+◌, ◌≤◌, List, ◌++◌, Option, length}
use Rattle.std.specs.Io.KnownBytes.{Appends, Consumes, IsAtEnd, Keeps}
use Rattle.tk_io.specs.Faults.{Rose}
use Rattle.tk_io.specs.declared.whole.ReadError.{ReadError}
use Rattle.tk_io.specs.declared.whole.ReadError.TheVariants.{Failed, Long, Memory}

-- the stream gave some bytes, no more than these
abbrev pub GaveUpTo : ℕ → Option (List ℕ) → Option (List ℕ) → Type 0
GaveUpTo most before now = (text : List ℕ) × (length text ≤ most) × Consumes before now text

-- the stream gave one byte more than the limit, and was asked for no further one
abbrev pub GaveMore : ℕ → Option (List ℕ) → Option (List ℕ) → Type 0
GaveMore limit before now = (text : List ℕ) × (length text ≡ limit + 1) × Consumes before now text

-- the stream gave this text, no longer than the limit, and has ended
pub record GaveAll (limit : ℕ) (before now : Option (List ℕ)) (text : List ℕ) : Type 0 where
  pub within : length text ≤ limit
  pub given : Consumes before now text
  pub ended : IsAtEnd now

-- why a stream wasn't read to its end: its count of faults rose before it gave more bytes than the limit, it gave more, or memory was refused
abbrev pub StopsReading : ℕ → Option (List ℕ) → Option (List ℕ) → ℕ → ℕ → ReadError → Type 0
StopsReading limit before now faults_before faults_now Failed = GaveUpTo limit before now × Rose faults_before faults_now
StopsReading limit before now faults_before faults_now Long = GaveMore limit before now × (faults_now ≡ faults_before)
StopsReading limit before now faults_before faults_now Memory = GaveUpTo (limit + 1) before now × (faults_now ≡ faults_before)

-- the stream took a front of the text
abbrev pub TookFront : Option (List ℕ) → Option (List ℕ) → List ℕ → Type 0
TookFront before now text = (front rest : List ℕ) × (text ≡ front ++ rest) × Appends before now front

-- why one piece wasn't read: the count of faults rose and nothing came, or memory was refused
abbrev pub StopsPiece : Option (List ℕ) → Option (List ℕ) → ℕ → ℕ → ReadError → Type 0
StopsPiece before now faults_before faults_now Failed = Keeps before now × Rose faults_before faults_now
StopsPiece before now faults_before faults_now Long = ⊥
StopsPiece before now faults_before faults_now Memory = faults_now ≡ faults_before
