-- When the seat of a pass is at rest, waits, or has the turn.
use Rattle.std.specs.Prelude.{◌≡◌, ℕ, ◌%◌, ◌^◌, ◌<◌, [], ◌∷◌, length, false, Some, None}
use Rattle.atomic_table.specs.Seated.{TableId}
use Rattle.atomic_table.specs.declared.shared.Seat.{Seat}
use Rattle.turn_lock.specs.declared.facts.Facts.{Facts}
use Rattle.turn_lock.specs.declared.known.Known.{Known}
use Rattle.turn_lock.specs.Rule.{PassState}
use Rattle.turn_lock.specs.Facts.{FactsGrow, AreFactsKept}
use Rattle.turn_lock.specs.Known.{KnowsOf, holding, after_turn}

-- a table of three words, and a seat of this table
abbrev pub IsSeatOf : TableId → TableId → Type 0
IsSeatOf table seat = (seat ≡ table) × (table.words ≡ 3)

-- a step leaves which table and which seat it is
abbrev pub IsSameSeat : {S V : Type 0} → Seat S V → Seat S V → Type 0
IsSameSeat before after = (after.table_id ≡ before.table_id) × (after.id ≡ before.id)

module _ {V E : Type 0} where
  -- a live pass that waits for nothing
  pub record Rests (me : PassState V E) : Type 0 where
    pub live : 0 < me.0.known.parts
    pub free : me.0.ticket ≡ None
    pub idle : me.0.known.held ≡ None
    pub empty : me.1 ≡ []

  -- a live pass that has the turn, and the slot, out of which the value was taken
  pub record InTurn (me : PassState V E) : Type 0 where
    pub live : 0 < me.0.known.parts
    pub taken : Facts E
    pub holds : me.0.known.held ≡ Some taken
    pub out : me.1 ≡ (0, None) ∷ []

  -- a live pass that drew this ticket
  pub record Waits (ticket : ℕ) (me : PassState V E) : Type 0 where
    pub live : 0 < me.0.known.parts
    pub drawn : ℕ
    pub free : me.0.ticket ≡ Some drawn
    pub idle : me.0.known.held ≡ None
    pub empty : me.1 ≡ []
    pub is : drawn % 2 ^ 64 ≡ ticket

  -- a pass whose turn has come: it has the slot with a value that agrees with what it knew
  pub record Took (facts : V → Facts E) (before after : PassState V E) : Type 0 where
    pub value : V
    pub has : after ≡ (record before.0 { known = holding (facts value) before.0.known }, (0, Some value) ∷ [])
    pub agrees : KnowsOf (facts value) before.0.known

-- a pass may give a value of these facts
pub record MayGive {E : Type 0} (given : Facts E) (pass : Known E) : Type 0 where
  pub grows : (taken : Facts E) → pass.held ≡ Some taken → FactsGrow taken given
  pub keeps : (taken : Facts E) → pass.held ≡ Some taken → pass.writer ≡ false → AreFactsKept taken given

module _ {V E : Type 0} (facts : V → Facts E) where
  -- a live pass in its turn with a value in its slot that it may give, with a log of this length
  pub record GivesTurn (entries : ℕ) (me : PassState V E) : Type 0 where
    pub live : 0 < me.0.known.parts
    pub taken : Facts E
    pub holds : me.0.known.held ≡ Some taken
    pub value : V
    pub hand : me.1 ≡ (0, Some value) ∷ []
    pub may : MayGive (facts value) me.0.known
    pub long : entries ≡ length (facts value).log

  -- the value in the slot of the pass is in force
  abbrev pub Counted : PassState V E → PassState V E → Type 0
  Counted before after = (taken : Facts E) (value : V) → before.0.known.held ≡ Some taken → before.1 ≡ (0, Some value) ∷ []
      → after.0.known ≡ holding (facts value) (after_turn taken (facts value) before.0.known)

  -- a live pass in its turn whose value in the slot is in force
  pub record Gave (me : PassState V E) : Type 0 where
    pub live : 0 < me.0.known.parts
    pub value : V
    pub holds : me.0.known.held ≡ Some (facts value)
    pub hand : me.1 ≡ (0, Some value) ∷ []

-- a live pass between two calls: at rest, or in its turn
pub record Poised {V E : Type 0} (me : PassState V E) : Type 0 where
  pub live : 0 < me.0.known.parts
  pub rests : me.0.known.held ≡ None → (me.0.ticket ≡ None) × (me.1 ≡ [])
  pub out : (taken : Facts E) → me.0.known.held ≡ Some taken → me.1 ≡ (0, None) ∷ []
