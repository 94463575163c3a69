-- A call that comes to its text ends with it, or with a write fault.
use Rattle.std.proofs.Common.{◌≡◌, ℕ, List, inl, inr, sym, subst}
use Rattle.cert_judge.specs.declared.judgement.Judgement.{Judgement}
use Rattle.cert_judge.specs.declared.judgement.Judgement.TheVariants.{BadLine, Inconsistent, WildGuess, WrongSize, UnseenAnswer, Figure, Fixes, Beaten}
use Rattle.cert_text.specs.declared.outcome.Outcome.{Outcome}
use Rattle.cert_text.specs.declared.outcome.Outcome.TheVariants.{Answered, Refused}
use Rattle.bundle_calls.specs.Judge.{JudgeReplies, told_status}
use Rattle.bundle_calls.specs.Reply.{Replies, outcome_status}
use Rattle.bundle_calls.specs.Outcomes.{SaysReply}
use Rattle.command_line.specs.Calls.{Call, ReadWhole, WroteWhole}
use Rattle.command_line.specs.Ends.{EndsReading, Says}
use Rattle.command_line.specs.declared.status.Status.{Status}
use Rattle.command_line.specs.declared.status.Status.TheVariants.{Done, Partial}
use Rattle.command_line.proofs.Ending.{read_all}

-- the status of an outcome is Done or Partial
is_outcome_status : {A : Type 0} (outcome : Outcome) (status : Status) → status ≡ outcome_status outcome → (status ≡ Done → A) → (status ≡ Partial → A) → A
is_outcome_status (Answered answer) status e done partial = done e
is_outcome_status (Refused refusal) status e done partial = partial e

-- a reply that was written whole ends with its status
ends_whole : (c : Call) (bytes : List ℕ) (status : Status) (text : List ℕ) → ReadWhole c bytes → Replies bytes status text → WroteWhole c text
    → EndsReading Replies c status
ends_whole c bytes status text read replied wrote = elim replied [
  | inl bundle ↦ subst (λ s. EndsReading Replies c s) (sym bundle.status_is) (bytes, text, read, subst (λ s. Replies bytes s text) bundle.status_is (inl bundle), wrote)
  | inr line ↦ is_outcome_status line.outcome status line.status_is
      (λ is. subst (λ s. EndsReading Replies c s) (sym is) (bytes, text, read, subst (λ s. Replies bytes s text) is (inr line), wrote))
      (λ is. subst (λ s. EndsReading Replies c s) (sym is) (bytes, text, read, subst (λ s. Replies bytes s text) is (inr line), wrote))
]

-- what is said in reply to the whole input ends so
pub ends_replied : (c : Call) (bytes : List ℕ) (status result : Status) (text : List ℕ) → ReadWhole c bytes → Replies bytes status text
    → Says c.before.output c.after.output text status result → EndsReading Replies c result
ends_replied c bytes status result text read replied said = elim said [
  | inl whole ↦ subst (λ s. EndsReading Replies c s) (sym whole.0) (ends_whole c bytes status text read replied (record { held = whole.1; faults = whole.2 }))
  | inr front ↦ subst (λ s. EndsReading Replies c s) (sym front.0) (bytes, status, text, read, replied, record { held = front.1; faults = front.2 })
]

-- the status of what is told is Done or Partial
is_told_status : {A : Type 0} (told : Judgement) (status : Status) → status ≡ told_status told → (status ≡ Done → A) → (status ≡ Partial → A) → A
is_told_status (BadLine line) status e done partial = partial e
is_told_status (Inconsistent at kind) status e done partial = partial e
is_told_status (WildGuess at) status e done partial = partial e
is_told_status (WrongSize given k) status e done partial = partial e
is_told_status (UnseenAnswer object) status e done partial = partial e
is_told_status (Figure line) status e done partial = partial e
is_told_status Fixes status e done partial = done e
is_told_status (Beaten inside outside low high counter) status e done partial = partial e

-- what was told and written whole ends with its status
ends_told : (c : Call) (bytes : List ℕ) (status : Status) (text : List ℕ) → ReadWhole c bytes → JudgeReplies bytes status text → WroteWhole c text
    → EndsReading JudgeReplies c status
ends_told c bytes status text read replied wrote = is_told_status replied.told status replied.status_is
    (λ is. subst (λ s. EndsReading JudgeReplies c s) (sym is) (bytes, text, read, subst (λ s. JudgeReplies bytes s text) is replied, wrote))
    (λ is. subst (λ s. EndsReading JudgeReplies c s) (sym is) (bytes, text, read, subst (λ s. JudgeReplies bytes s text) is replied, wrote))

-- what is told of the whole input ends so
pub ends_judged : (c : Call) (bytes : List ℕ) (status result : Status) (text : List ℕ) → ReadWhole c bytes → JudgeReplies bytes status text
    → Says c.before.output c.after.output text status result → EndsReading JudgeReplies c result
ends_judged c bytes status result text read replied said = elim said [
  | inl whole ↦ subst (λ s. EndsReading JudgeReplies c s) (sym whole.0) (ends_told c bytes status text read replied (record { held = whole.1; faults = whole.2 }))
  | inr front ↦ subst (λ s. EndsReading JudgeReplies c s) (sym front.0) (bytes, status, text, read, replied, record { held = front.1; faults = front.2 })
]

-- the reply to the whole input ends so, or nothing was said of it for lack of memory
pub ends_one : (c : Call) (bytes : List ℕ) (result : Status) → ReadWhole c bytes → SaysReply Replies bytes c.before.output c.after.output result
    → EndsReading Replies c result
ends_one c bytes result read said = elim said [
  | inl none ↦ subst (λ s. EndsReading Replies c s) (sym none.0) (read_all c bytes read, record { held = none.1; faults = none.2 })
  | inr reply ↦ ends_replied c bytes reply.0 result reply.1 read reply.2 reply.3
]

pub ends_judge : (c : Call) (bytes : List ℕ) (result : Status) → ReadWhole c bytes → SaysReply JudgeReplies bytes c.before.output c.after.output result
    → EndsReading JudgeReplies c result
ends_judge c bytes result read said = elim said [
  | inl none ↦ subst (λ s. EndsReading JudgeReplies c s) (sym none.0) (read_all c bytes read, record { held = none.1; faults = none.2 })
  | inr reply ↦ ends_judged c bytes reply.0 result reply.1 read reply.2 reply.3
]
