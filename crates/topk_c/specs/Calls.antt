-- What a call of the library leaves: its status, what is told of a text, and the caller's buffer.
use Rattle.std.specs.Prelude.{◌≡◌, ◌≤◌, ◌<◌, ◌++◌, ℕ, List, [], length, drop}
use Rattle.topk_base.specs.declared.TheConstants.{MAX_INPUT}
use Rattle.command_line.specs.Ends.{Replying}
use Rattle.command_line.specs.Codes.{exit_code}
use Rattle.command_line.specs.declared.status.Status.{Status}
use Rattle.command_line.specs.declared.status.Status.TheVariants.{LongInput, Memory}

-- a text is told by its length: a buffer that has room for it begins with it and is else as it was, and one that hasn't is as it was
pub record Tells (text before now : List ℕ) (told : ℕ) : Type 0 where
  pub length_is : told ≡ length text
  pub fits : length text ≤ length before → now ≡ text ++ drop (length text) before
  pub short : length before < length text → now ≡ before

-- how a call over these bytes ends: memory was refused or the bytes are more than the limit, and no text is told, or they are replied to, and the reply is told
abbrev pub Ends : Replying → List ℕ → List ℕ → List ℕ → ℕ → Status → Type 0
Ends replies bytes before now told Memory = Tells [] before now told
Ends replies bytes before now told LongInput = (MAX_INPUT < length bytes) × Tells [] before now told
Ends replies bytes before now told status = (length bytes ≤ MAX_INPUT) × (text : List ℕ) × replies bytes status text × Tells text before now told

-- the same, by the number that the caller gets: the program's exit status
abbrev pub EndsWith : Replying → List ℕ → List ℕ → List ℕ → ℕ → ℕ → Type 0
EndsWith replies bytes before now told code = (status : Status) × (code ≡ exit_code status) × Ends replies bytes before now told status

-- how a call ends that is replied to so, whatever is given: memory was refused and no text is told, or the reply is told
abbrev pub EndsReplying : (Status → List ℕ → Type 0) → List ℕ → List ℕ → ℕ → Status → Type 0
EndsReplying replies before now told Memory = Tells [] before now told
EndsReplying replies before now told status = (text : List ℕ) × replies status text × Tells text before now told

-- the same, by the number that the caller gets: the program's exit status
abbrev pub EndsReplyingWith : (Status → List ℕ → Type 0) → List ℕ → List ℕ → ℕ → ℕ → Type 0
EndsReplyingWith replies before now told code = (status : Status) × (code ≡ exit_code status) × EndsReplying replies before now told status
