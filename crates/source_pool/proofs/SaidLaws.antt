-- What the log of a sound state says is what the state decides; the room for one more ask.
use Rattle.std.proofs.Common.{◌≡◌, ◌==◌, ◌&&◌, inl, inr, ℕ, true, false, Option, Some, None, [], ◌∷◌, length, is_none, Contains, refl, sym, ap, subst, ◌∙◌, eqb-true}
use Rattle.std.specs.Option.{option_map}
use Rattle.std.proofs.lemmas.Bool.{and_parts}
use Rattle.std.proofs.lemmas.List.Elements.{Contains-append_right}
use Rattle.ranked_list.specs.declared.need.Need.{Need}
use Rattle.ranked_list.specs.declared.need.Need.TheVariants as need
use Rattle.ranked_list.proofs.OptionLaws.{option_cases}
use Rattle.topk_theory.specs.Bounds.{grade_among}
use Rattle.topk_theory.proofs.AgreementLists.{contains_here}
use Rattle.source_state.specs.declared.ask.Ask.{Ask}
use Rattle.source_state.specs.declared.entry.Asked.{Asked}
use Rattle.source_state.specs.Log.{rows_in, settling_in}
use Rattle.source_state.specs.Asks.{ask_of}
use Rattle.source_state.specs.State.{State, asks_of, asked_in, asked_as, IsSound}
use Rattle.source_state.specs.Events.{one_asked}
use Rattle.source_state.specs.Looking.{grade_or, decided, is_full}
use Rattle.source_state.proofs.Lists.{none_not_some, eqb_same}
use Rattle.source_state.proofs.LogLaws.{settled_there}
use Rattle.source_state.proofs.AskLaws.{ask_found, ask_is_found, ask_missing, not_asked}
use Rattle.source_pool.specs.Looks.{said_in}

-- what became of an ask that is found
asked_found : (s : State) (object : ℕ) (ask : Ask) → ask_of (asks_of s) object ≡ Some ask
    → Contains s.asks object × (asked_in s object ≡ Some (asked_as (settling_in s.log object)))
asked_found s object ask e =
    let found = ask_found s.log s.asks object ask e in
    (found.0, ap (option_map (λ (one : Ask). asked_as one.settling)) e ∙ ap (λ (one : Ask). Some (asked_as one.settling)) found.1)

-- what became of an ask, by the log
pub asked_settling : (s : State) (object : ℕ) (became : Asked) → asked_in s object ≡ Some became → asked_as (settling_in s.log object) ≡ became
asked_settling s object became e =
    elim (option_cases (ask_of (asks_of s) object)) [
      | inl none ↦ absurd (none_not_some (sym (not_asked s object none) ∙ e))
      | inr some ↦ (let is : Some (asked_as (settling_in s.log object)) ≡ Some became = sym (asked_found s object some.0 some.1).1 ∙ e in cc)
    ]

-- what wasn't asked isn't settled
unsettled : (s : State) (object : ℕ) → IsSound s → ask_of (asks_of s) object ≡ None → settling_in s.log object ≡ None
unsettled s object sound none =
    elim (option_cases (settling_in s.log object)) [
      | inl e ↦ e
      | inr some ↦ absurd (ask_missing s.log s.asks object none (sound.log.asked object (settled_there s.log object some.0 some.1)))
    ]

said_grade : (s : State) (object : ℕ) → IsSound s
    → grade_or object (Some (asked_as (settling_in s.log object))) (grade_among (rows_in s.log) object) ≡ grade_or object (asked_in s object)
    (grade_among (rows_in s.log) object)
said_grade s object sound =
    elim (option_cases (ask_of (asks_of s) object)) [
      | inl none ↦
          ap (λ o. grade_or object (Some (asked_as o)) (grade_among (rows_in s.log) object)) (unsettled s object sound none)
          ∙ sym (ap (λ a. grade_or object a (grade_among (rows_in s.log) object)) (not_asked s object none))
      | inr some ↦ sym (ap (λ a. grade_or object a (grade_among (rows_in s.log) object)) (asked_found s object some.0 some.1).1)
    ]

pub said_is : (s : State) (n : Need) → IsSound s → said_in s.log n ≡ decided s n
said_is s (need.Row list depth) sound = refl
said_is s (need.Grade list object) sound = said_grade s object sound
said_is s need.Done sound = refl

-- an object wasn't asked where no ask of it is found, and was where one is
none_absent : (s : State) (object : ℕ) → is_none (asked_in s object) ≡ true → Contains s.asks object → ⊥
none_absent s object e c = some_there (asked_in s object) (asked_there s object c) e
  where
    asked_there : (s : State) (object : ℕ) → Contains s.asks object → (a : Asked) × (asked_in s object ≡ Some a)
    asked_there s object c = (asked_as (settling_in s.log object), ap (option_map (λ (one : Ask). asked_as one.settling)) (ask_is_found s.log s.asks object c))

    some_there : (o : Option Asked) → (a : Asked) × (o ≡ Some a) → is_none o ≡ true → ⊥
    some_there None p e = none_not_some p.1
    some_there (Some a) p e = absurd (let bad : false ≡ true = e in cc)

absent_none : (s : State) (object : ℕ) → (Contains s.asks object → ⊥) → is_none (asked_in s object) ≡ true
absent_none s object absent =
    elim (option_cases (ask_of (asks_of s) object)) [
      | inl none ↦ ap is_none (not_asked s object none)
      | inr some ↦ absurd (absent (asked_found s object some.0 some.1).0)
    ]

-- where no room is left for the ask of an object, as many were asked as there are, and it wasn't
pub full_parts : (s : State) (list object : ℕ) → is_full s (need.Grade list object) ≡ true → (length s.asks ≡ s.count) × (Contains s.asks object → ⊥)
full_parts s list object full =
    let parts = and_parts (is_none (asked_in s object)) (length s.asks == s.count) full in
    (eqb-true (length s.asks) s.count parts.1, none_absent s object parts.0)

pub full_from : (s : State) (list object : ℕ) → length s.asks ≡ s.count → (Contains s.asks object → ⊥) → is_full s (need.Grade list object) ≡ true
full_from s list object all absent =
    let same : (length s.asks == s.count) ≡ true = subst (λ n. (length s.asks == n) ≡ true) all (eqb_same (length s.asks)) in
    ap (λ b. b && (length s.asks == s.count)) (absent_none s object absent) ∙ same

-- an object that was asked is among the asks
pub asked_member : (s : State) (object : ℕ) → Contains (one_asked (ask_of (asks_of s) object) object s.asks) object
asked_member s object =
    elim (option_cases (ask_of (asks_of s) object)) [
      | inl none ↦ subst (λ o. Contains (one_asked o object s.asks) object) (sym none) (Contains-append_right s.asks (object ∷ []) object (contains_here object []))
      | inr some ↦ subst (λ o. Contains (one_asked o object s.asks) object) (sym some.1) (asked_found s object some.0 some.1).0
    ]
