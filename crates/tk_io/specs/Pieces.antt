-- What a text that is written in pieces does to its stream.
use Rattle.std.specs.Prelude.{◌≡◌, ℕ, ◌+◌, ◌≤◌, List, ◌++◌, length, Option, None, Some, Result, OnOk, OnErr, Ok, Err}
use Rattle.std.specs.Io.KnownBytes.{Appends, Keeps}
use Rattle.std.specs.Borrow.{GName, MutBor}
use Rattle.tk_io.specs.Faults.{HasCause, Rose}
use Rattle.tk_io.specs.Sides.{Side}
use Rattle.tk_io.specs.Whole.{TookFront}

-- the stream took some of the bytes, and the rest waits
abbrev pub Passes : Option (List ℕ) → Option (List ℕ) → List ℕ → List ℕ → Type 0
Passes held held_now bytes rest = (sent : List ℕ) × Appends held held_now sent × (bytes ≡ sent ++ rest)

-- the stream took a front of the bytes, and its count of faults rose
pub record Stops (held held_now : Option (List ℕ)) (faults faults_now : ℕ) (bytes : List ℕ) : Type 0 where
  pub front : TookFront held held_now bytes
  pub later : faults ≤ faults_now
  pub rose : Rose faults faults_now

-- what texts are put to: the bytes that its stream holds, where it tells them, the stream's count of faults, what the stream is besides, which one it is, and
-- the bytes that wait for it, or None once a write has failed
pub record Written : Type 0 where
  pub held : Option (List ℕ)
  pub faults : ℕ
  pub aside : Side
  pub stream : GName
  pub waiting : Option (List ℕ)

-- a stream behind a reference, and the bytes that wait for it
abbrev pub written_to : {K : Type 0} → (K → Option (List ℕ)) → (K → ℕ) → (K → Side) → MutBor K → Option (List ℕ) → Written
written_to held faults aside out waiting = record {
  held = held out.now;
  faults = faults out.now;
  aside = aside out.now;
  stream = out.ghost_name;
  waiting = waiting;
}

-- a text is sent behind the bytes that wait: the stream takes some of both and the rest waits, or a write fails: then nothing waits and nothing is written
unfoldable pub Sends : Option (List ℕ) → Option (List ℕ) → ℕ → ℕ → Option (List ℕ) → Option (List ℕ) → List ℕ → Type 0
Sends held held_now faults faults_now None now text = (now ≡ None) × (held_now ≡ held) × (faults_now ≡ faults)
Sends held held_now faults faults_now (Some waiting) (Some rest) text = Passes held held_now (waiting ++ text) rest × (faults_now ≡ faults)
Sends held held_now faults faults_now (Some waiting) None text = Stops held held_now faults faults_now (waiting ++ text)

-- a text is put behind the bytes that wait for a stream, which stays what it is besides
pub record Puts (before now : Written) (text : List ℕ) : Type 0 where
  pub sends : Sends before.held now.held before.faults now.faults before.waiting now.waiting text
  pub apart : now.aside ≡ before.aside
  pub same : now.stream ≡ before.stream

-- a text that fits into one piece with the bytes that wait is written later
unfoldable pub WaitsWhole : ℕ → Option (List ℕ) → Option (List ℕ) → Option (List ℕ) → Option (List ℕ) → List ℕ → Type 0
WaitsWhole piece held held_now None now text = Unit {0}
WaitsWhole piece held held_now (Some waiting) now text = length waiting + length text ≤ piece → (now ≡ Some (waiting ++ text)) × Keeps held held_now

-- the end of a text: the stream takes all bytes that wait, or a write fails, now or before
unfoldable pub Ends : {T E : Type 0} → Option (List ℕ) → Option (List ℕ) → ℕ → ℕ → Option (List ℕ) → Result T E → Type 0
Ends held held_now faults faults_now None (Ok done) = ⊥
Ends held held_now faults faults_now None (Err failed) = (held_now ≡ held) × (faults_now ≡ faults)
Ends held held_now faults faults_now (Some waiting) (Ok done) = Appends held held_now waiting × (faults_now ≡ faults)
Ends held held_now faults faults_now (Some waiting) (Err failed) = Stops held held_now faults faults_now waiting

-- a whole text is written: the stream took it and no fault was counted, or it took a front of it and the count of faults rose
pub record Writes {T E : Type 0} (held held_now : Option (List ℕ)) (faults faults_now : ℕ) (result : Result T E) (text : List ℕ) : Type 0 where
  pub whole : OnOk result (Appends held held_now text)
  pub front : OnErr result (TookFront held held_now text)
  pub cause : HasCause faults faults_now result
