-- A comparison that comes to its text ends with it, or with a write fault.
use Rattle.std.proofs.Common.{◌≡◌, ℕ, List, inl, inr, sym, subst}
use Rattle.bundle_calls.specs.Outcomes.{SaysReply}
use Rattle.bundle_calls.specs.Compare.{Compares}
use Rattle.command_line.specs.Calls.{Call, ReadWhole, WroteWhole}
use Rattle.command_line.specs.Ends.{EndsReading, Says}
use Rattle.command_line.specs.declared.status.Status.{Status}
use Rattle.command_line.specs.declared.status.Status.TheVariants.{Done, Partial, BadInput}
use Rattle.command_line.proofs.Ending.{read_all}

-- a reply has one of three statuses
is_status : {A : Type 0} (bytes : List ℕ) (status : Status) (text : List ℕ) → Compares bytes status text → (status ≡ Done → A) → (status ≡ Partial → A)
    → (status ≡ BadInput → A) → A
is_status bytes status text replied done partial bad = elim replied [
  | inl none ↦ bad none.status_is
  | inr bundle ↦ elim bundle.2 [ inl refused ↦ partial refused.status_is | inr compared ↦ done compared.status_is ]
]

-- one that was written whole ends with its status
ends_whole : (c : Call) (bytes : List ℕ) (status : Status) (text : List ℕ) → ReadWhole c bytes → Compares bytes status text → WroteWhole c text
    → EndsReading Compares c status
ends_whole c bytes status text read replied wrote = is_status bytes status text replied
    (λ is. subst (λ s. EndsReading Compares c s) (sym is) (bytes, text, read, subst (λ s. Compares bytes s text) is replied, wrote))
    (λ is. subst (λ s. EndsReading Compares c s) (sym is) (bytes, text, read, subst (λ s. Compares bytes s text) is replied, wrote))
    (λ is. subst (λ s. EndsReading Compares c s) (sym is) (bytes, text, read, subst (λ s. Compares bytes s text) is replied, wrote))

-- what is said in reply to the whole input ends so
ends_said : (c : Call) (bytes : List ℕ) (status result : Status) (text : List ℕ) → ReadWhole c bytes → Compares bytes status text
    → Says c.before.output c.after.output text status result → EndsReading Compares c result
ends_said c bytes status result text read replied said = elim said [
  | inl whole ↦ subst (λ s. EndsReading Compares c s) (sym whole.0) (ends_whole c bytes status text read replied (record { held = whole.1; faults = whole.2 }))
  | inr front ↦ subst (λ s. EndsReading Compares c s) (sym front.0) (bytes, status, text, read, replied, record { held = front.1; faults = front.2 })
]

-- or nothing was said of it for lack of memory
pub ends_compare : (c : Call) (bytes : List ℕ) (result : Status) → ReadWhole c bytes → SaysReply Compares bytes c.before.output c.after.output result
    → EndsReading Compares c result
ends_compare c bytes result read said = elim said [
  | inl none ↦ subst (λ s. EndsReading Compares c s) (sym none.0) (read_all c bytes read, record { held = none.1; faults = none.2 })
  | inr reply ↦ ends_said c bytes reply.0 result reply.1 read reply.2 reply.3
]
