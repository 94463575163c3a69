-- A command over bytes in memory, and how it ends for the caller.
use Rattle.std.proofs.Common.{◌≡◌, ◌≤◌, ◌<◌, ◌++◌, ◌+◌, ◌∙◌, ℕ, List, [], length, None, Some, sym, ap, subst, arith, append-nil}
use Rattle.std.proofs.lemmas.List.{length-append}
use Rattle.topk_base.specs.declared.TheConstants.{MAX_INPUT}
use Rattle.source_api.specs.Places.{nothing_at}
use Rattle.command_line.specs.Shelves.{Shelf}
use Rattle.command_line.specs.Calls.{Call, call_at, outside_of}
use Rattle.command_line.specs.Ends.{Replying, Replied, EndsReading}
use Rattle.command_line.specs.declared.status.Status.{Status}
use Rattle.command_line.specs.declared.status.Status.TheVariants.{Done, Partial, BadWords, BadCatalog, BadInput, LongInput, Memory}
use Rattle.command_line.specs.declared.status.Status.TheVariants.{ReadFault, WriteFault, OpenFault, PortFault}
use Rattle.topk_c.specs.Calls.{Tells, Ends}
use Rattle.topk_c.specs.Telling.{Kept, told_status, told_text}

-- a shelf that has nothing and counts nothing
abbrev pub no_shelf : Shelf
no_shelf = record { texts = λ _. None; lists = λ _. None; versions = λ _. None; at = λ _. nothing_at }

-- the call that finds these bytes and leaves some of them, and that has written a text
abbrev pub in_memory : List ℕ → List ℕ → List ℕ → ℕ → Call
in_memory bytes left text faults =
    call_at [] (outside_of (record { left = Some bytes; faults = 0 }) (record { held = Some []; faults = 0 }) no_shelf)
    (outside_of (record { left = Some left; faults = 0 }) (record { held = Some text; faults = faults }) no_shelf)

-- a reply that was written is told
replied : (replies : Replying) (bytes left text : List ℕ) (faults : ℕ) (status : Status) (before now : List ℕ) (told : ℕ)
    → Replied replies (in_memory bytes left text faults) status → Tells text before now told
    → (length bytes ≤ MAX_INPUT) × (written : List ℕ) × replies bytes status written × Tells written before now told
replied replies bytes left text faults status before now told (read_bytes, written, read, says, wrote) tells =
    let same : bytes ≡ read_bytes = read.given.given ∙ ap (λ l. read_bytes ++ l) read.given.ended ∙ append-nil read_bytes in (
      subst (λ l. length l ≤ MAX_INPUT) (sym same) read.given.within,
      written,
      subst (λ l. replies l status written) (sym same) says,
      subst (λ l. Tells l before now told) wrote.held tells,
    )

-- more bytes came than the limit, so there are more
longer : (bytes front rest : List ℕ) → bytes ≡ front ++ rest → length front ≡ MAX_INPUT + 1 → MAX_INPUT < length bytes
longer bytes front rest is long =
    let all : length bytes ≡ length front + length rest = ap length is ∙ length-append front rest in
    omega (arith, all, long)

-- what a command wrote into memory, told to the caller
ends_told : (replies : Replying) (bytes left text : List ℕ) (faults : ℕ) (status : Status) (before now : List ℕ) (told : ℕ)
    → EndsReading replies (in_memory bytes left text faults) status → Tells (told_text status text) before now told
    → Ends replies bytes before now told (told_status status)
ends_told replies bytes left text faults Done before now told ends tells = replied replies bytes left text faults Done before now told ends tells
ends_told replies bytes left text faults Partial before now told ends tells = replied replies bytes left text faults Partial before now told ends tells
ends_told replies bytes left text faults BadInput before now told ends tells = replied replies bytes left text faults BadInput before now told ends tells
ends_told replies bytes left text faults WriteFault before now told ends tells = tells
ends_told replies bytes left text faults LongInput before now told ends tells =
    (longer bytes ends.0.given.0 left ends.0.given.2 ends.0.given.1, subst (λ l. Tells l before now told) ends.1.held tells)
ends_told replies bytes left text faults Memory before now told ends tells = subst (λ l. Tells l before now told) ends.1.held tells
ends_told replies bytes left text faults ReadFault before now told ends tells = absurd (let rose = ends.0.faults in omega (arith, rose))
ends_told replies bytes left text faults BadWords before now told ends tells = absurd ends
ends_told replies bytes left text faults BadCatalog before now told ends tells = absurd ends
ends_told replies bytes left text faults OpenFault before now told ends tells = absurd ends
ends_told replies bytes left text faults PortFault before now told ends tells = absurd ends

-- the call that reads a text and writes another one, as the code has them
abbrev pub between : List ℕ → List ℕ → Kept → Kept → Call
between start left empty kept =
    call_at [] (outside_of (record { left = Some start; faults = 0 }) (record { held = Some empty.bytes; faults = empty.faults }) no_shelf)
    (outside_of (record { left = Some left; faults = 0 }) (record { held = Some kept.bytes; faults = kept.faults }) no_shelf)

-- a command over the bytes of a caller, which wrote into memory, and what is told of its text
pub ends_command : (replies : Replying) (bytes start left shown : List ℕ) (empty kept : Kept) (status ended : Status) (before now : List ℕ) (told : ℕ)
    → start ≡ bytes → empty ≡ record { bytes = []; faults = 0 } → shown ≡ kept.bytes → ended ≡ told_status status
    → EndsReading replies (between start left empty kept) status → Tells (told_text status shown) before now told
    → Ends replies bytes before now told ended
ends_command replies bytes start left shown empty kept status ended before now told given none same is ends tells =
    let from_start : EndsReading replies (between bytes left empty kept) status =
    subst (λ (l : List ℕ). EndsReading replies (between l left empty kept) status) given ends in
    let from_none : EndsReading replies (in_memory bytes left kept.bytes kept.faults) status =
    subst (λ (k : Kept). EndsReading replies (between bytes left k kept) status) none from_start in
    subst (λ (s : Status). Ends replies bytes before now told s) (sym is)
    (ends_told replies bytes left kept.bytes kept.faults status before now told from_none
    (subst (λ (l : List ℕ). Tells (told_text status l) before now told) same tells))
