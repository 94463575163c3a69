-- What became of an ask, by the log.
use Rattle.std.proofs.Common.{◌≡◌, ℕ, Option, Some, None, Contains, refl, sym, ap, ◌∙◌, inl, inr}
use Rattle.std.specs.Option.{option_map}
use Rattle.source_state.specs.declared.ask.Ask.{Ask}
use Rattle.source_state.specs.declared.entry.Settling.{Settling}
use Rattle.source_state.specs.declared.entry.Settling.TheVariants.{Graded, Bad, Missed}
use Rattle.source_state.specs.declared.entry.SourceFault.{SourceFault}
use Rattle.source_state.specs.declared.entry.Asked.{Asked}
use Rattle.source_state.specs.declared.entry.Asked.TheVariants as became
use Rattle.source_state.specs.Log.{settling_in}
use Rattle.source_state.specs.Asks.{ask_of}
use Rattle.source_state.specs.State.{State, asks_of, asked_in, asked_as}
use Rattle.source_state.proofs.Lists.{none_not_some}
use Rattle.source_state.proofs.AskLaws.{ask_found, ask_missing}
use Rattle.ranked_list.proofs.OptionLaws.{option_cases}

-- what became of an ask is what the log settles its object as
pub asked_settled : (s : State) (object : ℕ) (became : Asked) → asked_in s object ≡ Some became
    → Contains s.asks object × (asked_as (settling_in s.log object) ≡ became)
asked_settled s object a e =
    elim (option_cases (ask_of (asks_of s) object)) [
      | inl none ↦ absurd (none_not_some (sym (ap (option_map (λ (ask : Ask). asked_as ask.settling)) none) ∙ e))
      | inr some ↦
          let found = ask_found s.log s.asks object some.0 some.1 in
          let is : Some (asked_as some.0.settling) ≡ Some a = sym (ap (option_map (λ (ask : Ask). asked_as ask.settling)) some.1) ∙ e in
          let same : asked_as some.0.settling ≡ a = cc in
          (found.0, sym (ap (λ (ask : Ask). asked_as ask.settling) found.1) ∙ same)
    ]

pub not_asked : (s : State) (object : ℕ) → asked_in s object ≡ None → Contains s.asks object → ⊥
not_asked s object e c =
    elim (option_cases (ask_of (asks_of s) object)) [
      | inl none ↦ ask_missing s.log s.asks object none c
      | inr some ↦ none_not_some (sym e ∙ ap (option_map (λ (ask : Ask). asked_as ask.settling)) some.1)
    ]

-- what an ask settled as, by what became of it
pub as_graded : (o : Option Settling) (grade : ℕ) → asked_as o ≡ became.Graded grade → o ≡ Some (Graded grade)
as_graded None grade e = absurd (cc)
as_graded (Some (Graded other)) grade e = let same : other ≡ grade = cc in ap (λ g. Some (Graded g)) same
as_graded (Some (Bad fault)) grade e = absurd (cc)
as_graded (Some Missed) grade e = absurd (cc)

pub as_bad : (o : Option Settling) (fault : SourceFault) → asked_as o ≡ became.Bad fault → o ≡ Some (Bad fault)
as_bad None fault e = absurd (cc)
as_bad (Some (Graded grade)) fault e = absurd (cc)
as_bad (Some (Bad other)) fault e = let same : other ≡ fault = cc in ap (λ f. Some (Bad f)) same
as_bad (Some Missed) fault e = absurd (cc)

pub as_missed : (o : Option Settling) → asked_as o ≡ became.Missed → o ≡ Some Missed
as_missed None e = absurd (cc)
as_missed (Some (Graded grade)) e = absurd (cc)
as_missed (Some (Bad fault)) e = absurd (cc)
as_missed (Some Missed) e = refl
