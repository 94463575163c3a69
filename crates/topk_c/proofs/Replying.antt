-- A reply that was written into memory, and how it is told to the caller.
use Rattle.std.proofs.Common.{◌≡◌, inl, inr, ℕ, List, [], Some, sym, subst}
use Rattle.bundle_text.specs.declared.given.GivenList.{GivenList}
use Rattle.bundle_calls.specs.Reply.{RepliesToLines, outcome_status}
use Rattle.bundle_calls.specs.Lists.{RepliesToLists, printed_lines}
use Rattle.bundle_calls.specs.Outcomes.{SaysSome}
use Rattle.cert_text.specs.declared.outcome.Outcome.{Outcome}
use Rattle.cert_text.specs.declared.outcome.Outcome.TheVariants.{Answered, Refused}
use Rattle.command_line.specs.Calls.{Output}
use Rattle.command_line.specs.Ends.{Says}
use Rattle.command_line.specs.declared.status.Status.{Status}
use Rattle.command_line.specs.declared.status.Status.TheVariants.{Done, Partial, BadWords, BadCatalog, BadInput, LongInput, Memory}
use Rattle.command_line.specs.declared.status.Status.TheVariants.{ReadFault, WriteFault, OpenFault, PortFault}
use Rattle.topk_c.specs.Calls.{Tells, EndsReplying}
use Rattle.topk_c.specs.Telling.{Kept, told_status, told_text}

-- a status that a reply has
abbrev IsReplied : Status → Type 0
IsReplied Done = Unit {0}
IsReplied Partial = Unit {0}
IsReplied BadInput = Unit {0}
IsReplied _ = ⊥

outcome_replied : (outcome : Outcome) → IsReplied (outcome_status outcome)
outcome_replied (Answered answer) = tt
outcome_replied (Refused refusal) = tt

replied_status : (ls : List (List ℕ)) (status : Status) (text : List ℕ) → RepliesToLines ls status text → IsReplied status
replied_status ls status text replies = elim replies [
  | inl refused ↦ subst IsReplied (sym refused.status_is) tt
  | inr bundle ↦ subst IsReplied (sym bundle.status_is) (outcome_replied bundle.outcome)
]

-- such a reply is told
replied : (replies : Status → List ℕ → Type 0) (status : Status) (text before now : List ℕ) (told : ℕ) → IsReplied status → replies status text
    → Tells (told_text status text) before now told → EndsReplying replies before now told (told_status status)
replied replies Done text before now told is replies_so tells = (text, replies_so, tells)
replied replies Partial text before now told is replies_so tells = (text, replies_so, tells)
replied replies BadInput text before now told is replies_so tells = (text, replies_so, tells)
replied replies BadWords text before now told is replies_so tells = absurd is
replied replies BadCatalog text before now told is replies_so tells = absurd is
replied replies LongInput text before now told is replies_so tells = absurd is
replied replies Memory text before now told is replies_so tells = absurd is
replied replies ReadFault text before now told is replies_so tells = absurd is
replied replies WriteFault text before now told is replies_so tells = absurd is
replied replies OpenFault text before now told is replies_so tells = absurd is
replied replies PortFault text before now told is replies_so tells = absurd is

-- what holds a text
abbrev holding : List ℕ → ℕ → Output
holding bytes faults = record { held = Some bytes; faults = faults }

-- what was said into memory, told to the caller
said_told : (replies : Status → List ℕ → Type 0) (kept : Kept) (status : Status) (before now : List ℕ) (told : ℕ)
    → ((s : Status) (t : List ℕ) → replies s t → IsReplied s) → SaysSome replies (holding [] 0) (holding kept.bytes kept.faults) status
    → Tells (told_text status kept.bytes) before now told → EndsReplying replies before now told (told_status status)
said_told replies kept status before now told each says tells = elim says [
  | inl none ↦
      let tells_none : Tells (told_text Memory kept.bytes) before now told = subst (λ (s : Status). Tells (told_text s kept.bytes) before now told) none.0 tells in
      subst (λ (s : Status). EndsReplying replies before now told (told_status s)) (sym none.0)
      (subst (λ (t : List ℕ). Tells t before now told) none.1 tells_none)
  | inr reply ↦ by_writing reply.0 reply.1 reply.2 reply.3
]
  where
    by_writing : (s : Status) (t : List ℕ) → replies s t → Says (holding [] 0) (holding kept.bytes kept.faults) t s status
        → EndsReplying replies before now told (told_status status)
    by_writing s t replies_so said = elim said [
      | inl whole ↦
          let tells_whole : Tells (told_text s kept.bytes) before now told = subst (λ (u : Status). Tells (told_text u kept.bytes) before now told) whole.0 tells in
          subst (λ (u : Status). EndsReplying replies before now told (told_status u)) (sym whole.0)
          (replied replies s t before now told (each s t replies_so) replies_so
          (subst (λ (text : List ℕ). Tells (told_text s text) before now told) whole.1 tells_whole))
      | inr front ↦
          let tells_none : Tells [] before now told = subst (λ (u : Status). Tells (told_text u kept.bytes) before now told) front.0 tells in
          subst (λ (u : Status). EndsReplying replies before now told (told_status u)) (sym front.0) tells_none
    ]

-- a call over lists, which wrote into memory, and what is told of its text
pub ends_lists : (lists : List GivenList) (query : List ℕ) (shown : List ℕ) (empty kept : Kept) (status ended : Status) (before now : List ℕ) (told : ℕ)
    → empty ≡ record { bytes = []; faults = 0 } → shown ≡ kept.bytes → ended ≡ told_status status
    → SaysSome (RepliesToLists lists query) (holding empty.bytes empty.faults) (holding kept.bytes kept.faults) status
    → Tells (told_text status shown) before now told → EndsReplying (RepliesToLists lists query) before now told ended
ends_lists lists query shown empty kept status ended before now told none same is says tells =
    let from_none : SaysSome (RepliesToLists lists query) (holding [] 0) (holding kept.bytes kept.faults) status =
    subst (λ (k : Kept). SaysSome (RepliesToLists lists query) (holding k.bytes k.faults) (holding kept.bytes kept.faults) status) none says in
    subst (λ (s : Status). EndsReplying (RepliesToLists lists query) before now told s) (sym is)
    (said_told (RepliesToLists lists query) kept status before now told (λ s t reply. replied_status (printed_lines lists query) s t reply) from_none
    (subst (λ (text : List ℕ). Tells (told_text status text) before now told) same tells))
