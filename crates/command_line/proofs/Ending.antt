-- What was written ends a call, or a write fault does.
use Rattle.std.proofs.Common.{◌≡◌, ℕ, List, [], arith, Option, Result, Ok, Err, OnOk, OnErr, MatchResult, inl, inr, sym, subst}
use Rattle.std.specs.Io.KnownBytes.{Appends, Consumes, Keeps}
use Rattle.std.proofs.KnownBytes.{Consumes-kept, Consumes-nil}
use Rattle.tk_io.specs.declared.Failed.{Failed}
use Rattle.tk_io.specs.Faults.{HasCause}
use Rattle.tk_io.specs.Whole.{TookFront}
use Rattle.ranked_list.specs.declared.row.Row.{Row}
use Rattle.source_api.specs.declared.ledger.PlaceCounts.{PlaceCounts}
use Rattle.command_line.specs.Calls.{Call, Output, Outside, LeftAlone, ReadSome, ReadWhole}
use Rattle.command_line.specs.Shelves.{Shelf}
use Rattle.command_line.specs.Ends.{Says, EndsWriting}
use Rattle.command_line.specs.declared.status.Status.{Status}
use Rattle.command_line.specs.declared.status.Status.TheVariants.{Done, WriteFault}

abbrev pub outside_at : Option (List ℕ) → ℕ → Option (List ℕ) → ℕ → Shelf → Outside
outside_at left reads held writes shelf = record { input = record { left = left; faults = reads }; output = record { held = held; faults = writes }; shelf = shelf }

abbrev pub shelf_at : (List ℕ → Option (List ℕ)) → (List ℕ → Option (List Row)) → (List ℕ → Option ℕ) → (List ℕ → PlaceCounts) → Shelf
shelf_at texts lists versions at = record { texts = texts; lists = lists; versions = versions; at = at }

-- nothing of the input was read, or all of it
consumed_none : (before now : Option (List ℕ)) → Keeps before now → Consumes before now []
consumed_none before now kept = Consumes-kept before before now [] (Consumes-nil before) kept

pub read_none : (c : Call) → LeftAlone c → ReadSome c
read_none c alone = record { given = ([], omega arith, consumed_none c.before.input.left c.after.input.left alone.left); faults = alone.faults }

pub read_all : (c : Call) (bytes : List ℕ) → ReadWhole c bytes → ReadSome c
read_all c bytes read = let within = read.given.within in record { given = (bytes, omega (arith, within), read.given.given); faults = read.faults }

-- a text that was written, or wasn't, is said
abbrev pub out_at : Option (List ℕ) → ℕ → Output
out_at held faults = record { held = held; faults = faults }

pub said : {T : Type 0} → (before now : Option (List ℕ)) (faults_before faults_now : ℕ) (text : List ℕ) (status result : Status) (written : Result T Failed)
    → OnOk written (Appends before now text) → OnErr written (TookFront before now text) → HasCause faults_before faults_now written
    → MatchResult written (λ _. result ≡ status) (λ _. result ≡ WriteFault) → Says (out_at before faults_before) (out_at now faults_now) text status result
said before now faults_before faults_now text status result (Ok done) whole front cause ended = inl (ended, whole, cause.stays)
said before now faults_before faults_now text status result (Err failed) whole front cause ended = inr (ended, front, cause.failed)

pub said_as : (before now : Option (List ℕ)) (faults_before faults_now : ℕ) (text other : List ℕ) (status another result : Status) → text ≡ other
    → status ≡ another → Says (out_at before faults_before) (out_at now faults_now) text status result → Says (out_at before faults_before) (out_at now faults_now) other another result
said_as before now faults_before faults_now text other status another result same_text same_status h =
    subst (λ t. Says (out_at before faults_before) (out_at now faults_now) t another result) same_text
    (subst (λ s. Says (out_at before faults_before) (out_at now faults_now) text s result) same_status h)

-- what is said without reading the input ends so
pub ends_written : (text : List ℕ) (c : Call) (result : Status) → LeftAlone c
    → Says c.before.output c.after.output text Done result → EndsWriting text c result
ends_written text c result alone said = elim said [
  | inl whole ↦ subst (λ s. EndsWriting text c s) (sym whole.0) (alone, record { held = whole.1; faults = whole.2 })
  | inr front ↦ subst (λ s. EndsWriting text c s) (sym front.0) (alone, record { held = front.1; faults = front.2 })
]
