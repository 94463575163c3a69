-- What a shelf counts, place by place.
use Rattle.std.specs.Prelude.{◌≡◌, ◌≢◌, ℕ, ◌≤◌, Bool, true, false, List, [], ◌∷◌, if◌then◌else◌}
use Rattle.std.specs.List.{list_any}
use Rattle.std.specs.Str.{bytes_eq}
use Rattle.tk_io.specs.Faults.{counted, Rose}
use Rattle.source_api.specs.declared.counts.Counts.{Counts}
use Rattle.source_api.specs.declared.ledger.PlaceCounts.{PlaceCounts}
use Rattle.source_api.specs.declared.source.Trouble.{Trouble}
use Rattle.source_api.specs.declared.source.FailKind.TheVariants.{Failed, Garbled, Memory}
use Rattle.source_api.specs.declared.source.Trouble.TheVariants.{Fail, Moved}
use Rattle.source_api.specs.Counting.{no_counts, added}
use Rattle.topk_base.specs.declared.TheConstants.{MAX_LIST_TEXT}

-- nothing counted at a place yet
abbrev pub nothing_at : PlaceCounts
nothing_at = record { text_faults = 0; take_faults = 0; taken = 0; returned = 0; sources = no_counts }

-- a place and what is counted there
pub record Noted : Type 0 where
  pub place : List ℕ
  pub counts : PlaceCounts

-- what is counted at a place
abbrev pub counts_at : List Noted → List ℕ → PlaceCounts
counts_at [] place = nothing_at
counts_at (noted ∷ more) place = if bytes_eq noted.place place then noted.counts else counts_at more place

-- whether counts of the place are kept
abbrev pub is_known : List Noted → List ℕ → Bool
is_known noted place = list_any (λ n. bytes_eq n.place place) noted

-- the same at each place
abbrev pub SameAtEach : {A : Type 0} → (List ℕ → A) → (List ℕ → A) → Type 0
SameAtEach before now = (place : List ℕ) → now place ≡ before place

-- the same at each place but one
abbrev pub SameElsewhere : {A : Type 0} → List ℕ → (List ℕ → A) → (List ℕ → A) → Type 0
SameElsewhere place before now = (other : List ℕ) → other ≢ place → now other ≡ before other

-- of the counts at a place, that of failed texts alone may have gone up
pub record CountsTexts (before now : PlaceCounts) : Type 0 where
  pub later : before.text_faults ≤ now.text_faults
  pub others : now ≡ record before { text_faults = now.text_faults }

-- of the counts at a place, those of failed takes and of sources taken alone may have gone up
pub record CountsTakes (before now : PlaceCounts) : Type 0 where
  pub later : before.take_faults ≤ now.take_faults
  pub others : now ≡ record before { take_faults = now.take_faults; taken = now.taken }

-- one more source was taken of a place, and nothing else was counted
abbrev pub counts_taken : PlaceCounts → PlaceCounts
counts_taken before = record before { taken = counted before.taken }

-- a text fails only where its count of the place went up, or stands at its last value; lack of memory counts nothing; it never garbles and is never Moved
abbrev pub HasTextCause : PlaceCounts → PlaceCounts → Trouble → Type 0
HasTextCause before now (Fail Failed) = Rose before.text_faults now.text_faults
HasTextCause before now (Fail Memory) = now ≡ before
HasTextCause before now _ = ⊥

-- a take fails or garbles only where its count of the place went up, or stands at its last value; lack of memory counts nothing; it is never Moved
abbrev pub HasTakeCause : PlaceCounts → PlaceCounts → Trouble → Type 0
HasTakeCause before now (Fail Failed) = Rose before.take_faults now.take_faults
HasTakeCause before now (Fail Garbled) = Rose before.take_faults now.take_faults
HasTakeCause before now (Fail Memory) = now ≡ before
HasTakeCause before now (Moved had other) = ⊥

-- one more source was put back at its place, and its counts were added to those there
abbrev pub with_source : Counts → PlaceCounts → PlaceCounts
with_source counts before = record before { returned = counted before.returned; sources = added before.sources counts }

-- a source was put back at a place: it counts there where the place is known, and else nothing changed
abbrev pub put_back_at : Bool → Counts → PlaceCounts → PlaceCounts
put_back_at true counts before = with_source counts before
put_back_at false counts before = before

-- the most bytes of a text
abbrev pub text_limit : ℕ
text_limit = MAX_LIST_TEXT

-- one more call for the text of the place failed
pub record IsTextFault (before now : List Noted) (place : List ℕ) : Type 0 where
  pub known : (other : List ℕ) → is_known before other ≡ true → is_known now other ≡ true
  pub elsewhere : SameElsewhere place (counts_at before) (counts_at now)
  pub here : counts_at now place ≡ record (counts_at before place) { text_faults = counted (counts_at before place).text_faults }
  pub later : (counts_at before place).text_faults ≤ (counts_at now place).text_faults

-- one more call for the source of the place failed
pub record IsTakeFault (before now : List Noted) (place : List ℕ) : Type 0 where
  pub known : (other : List ℕ) → is_known before other ≡ true → is_known now other ≡ true
  pub elsewhere : SameElsewhere place (counts_at before) (counts_at now)
  pub here : counts_at now place ≡ record (counts_at before place) { take_faults = counted (counts_at before place).take_faults }
  pub later : (counts_at before place).take_faults ≤ (counts_at now place).take_faults

-- one more source was taken of the place, which is known from then on
pub record IsTaking (before now : List Noted) (place : List ℕ) : Type 0 where
  pub known : (other : List ℕ) → is_known before other ≡ true → is_known now other ≡ true
  pub knows : is_known now place ≡ true
  pub elsewhere : SameElsewhere place (counts_at before) (counts_at now)
  pub here : counts_at now place ≡ counts_taken (counts_at before place)
