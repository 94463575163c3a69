-- Calls: their words, and what stands outside of them.
use Rattle.std.specs.Prelude.{◌≡◌, ◌+◌, ℕ, List, Option}
use Rattle.std.specs.Io.KnownBytes.{Appends, Keeps}
use Rattle.tk_io.specs.Faults.{Rose}
use Rattle.tk_io.specs.Whole.{GaveAll, GaveMore, GaveUpTo, TookFront}
use Rattle.ranked_list.specs.declared.row.Row.{Row}
use Rattle.source_api.specs.declared.ledger.PlaceCounts.{PlaceCounts}
use Rattle.command_line.specs.Shelves.{Shelf}
use Rattle.topk_base.specs.declared.TheConstants.{MAX_INPUT}

-- an input: what it has left, where it tells it, and its count of faults
pub record Input : Type 0 where
  pub left : Option (List ℕ)
  pub faults : ℕ

-- an output: what it holds, where it tells it, and its count of faults
pub record Output : Type 0 where
  pub held : Option (List ℕ)
  pub faults : ℕ

-- what stands outside of a call at one moment
pub record Outside : Type 0 where
  pub input : Input
  pub output : Output
  pub shelf : Shelf

-- a call: its words, and what stands outside before it and after it
pub record Call : Type 0 where
  pub words : List (List ℕ)
  pub before : Outside
  pub after : Outside

-- an input, an output and a shelf by what they tell and count
abbrev pub input_as : {R : Type 0} → (R → Option (List ℕ)) → (R → ℕ) → R → Input
input_as left faults input = record { left = left input; faults = faults input }

abbrev pub output_as : {K : Type 0} → (K → Option (List ℕ)) → (K → ℕ) → K → Output
output_as held faults out = record { held = held out; faults = faults out }

abbrev pub shelf_as : {H : Type 0} → (H → List ℕ → Option (List ℕ)) → (H → List ℕ → Option (List Row)) → (H → List ℕ → Option ℕ)
    → (H → List ℕ → PlaceCounts) → H → Shelf
shelf_as texts lists versions at shelf = record { texts = texts shelf; lists = lists shelf; versions = versions shelf; at = at shelf }

-- the call with these words, between what stands outside before it and after it
abbrev pub outside_of : Input → Output → Shelf → Outside
outside_of input output shelf = record { input = input; output = output; shelf = shelf }

abbrev pub call_at : List (List ℕ) → Outside → Outside → Call
call_at words before after = record { words = words; before = before; after = after }

-- the call with these words, between an input, an output and a shelf as they stand before it and as they stand after it
abbrev pub call_of : {R K H : Type 0} → (R → Option (List ℕ)) → (R → ℕ) → (K → Option (List ℕ)) → (K → ℕ) → (H → List ℕ → Option (List ℕ))
    → (H → List ℕ → Option (List Row)) → (H → List ℕ → Option ℕ) → (H → List ℕ → PlaceCounts) → List (List ℕ) → R × K × H → R × K × H → Call
call_of left reads held writes texts lists versions at words before after =
    call_at words (outside_of (input_as left reads before.0) (output_as held writes before.1) (shelf_as texts lists versions at before.2))
    (outside_of (input_as left reads after.0) (output_as held writes after.1) (shelf_as texts lists versions at after.2))

-- the most bytes of an input
abbrev pub input_limit : ℕ
input_limit = MAX_INPUT

-- the input was left as it was
pub record LeftAlone (c : Call) : Type 0 where
  pub left : Keeps c.before.input.left c.after.input.left
  pub faults : c.after.input.faults ≡ c.before.input.faults

-- the input gave these bytes, no more than the limit, and ended, and no read failed
pub record ReadWhole (c : Call) (bytes : List ℕ) : Type 0 where
  pub given : GaveAll input_limit c.before.input.left c.after.input.left bytes
  pub faults : c.after.input.faults ≡ c.before.input.faults

-- no more was read than one byte beyond the limit, and no read failed
pub record ReadSome (c : Call) : Type 0 where
  pub given : GaveUpTo (input_limit + 1) c.before.input.left c.after.input.left
  pub faults : c.after.input.faults ≡ c.before.input.faults

-- a read failed, before the input gave more bytes than the limit
pub record ReadFailed (c : Call) : Type 0 where
  pub given : GaveUpTo input_limit c.before.input.left c.after.input.left
  pub faults : Rose c.before.input.faults c.after.input.faults

-- the input gave more bytes than the limit, and no read failed
pub record ReadLong (c : Call) : Type 0 where
  pub given : GaveMore input_limit c.before.input.left c.after.input.left
  pub faults : c.after.input.faults ≡ c.before.input.faults

-- nothing was written, and no write failed
pub record WroteNothing (c : Call) : Type 0 where
  pub held : Keeps c.before.output.held c.after.output.held
  pub faults : c.after.output.faults ≡ c.before.output.faults

-- the text was written whole, and no write failed
pub record WroteWhole (c : Call) (text : List ℕ) : Type 0 where
  pub held : Appends c.before.output.held c.after.output.held text
  pub faults : c.after.output.faults ≡ c.before.output.faults

-- a front of the text was written, and a write failed
pub record WroteFront (c : Call) (text : List ℕ) : Type 0 where
  pub held : TookFront c.before.output.held c.after.output.held text
  pub faults : Rose c.before.output.faults c.after.output.faults

-- the shelf was left as it was
abbrev pub KeepsShelf : Call → Type 0
KeepsShelf c = c.after.shelf ≡ c.before.shelf
