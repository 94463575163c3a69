-- What a source counts, and what one call makes of it.
use Rattle.std.specs.Prelude.{◌≡◌, ◌≢◌, ℕ, ◌+◌, ◌-◌, ◌^◌, ◌≤◌, min, Option, IfSome}
use Rattle.tk_io.specs.Faults.{counted, Rose}
use Rattle.source_api.specs.declared.counts.Counts.{Counts}
use Rattle.source_api.specs.declared.source.Trouble.{Trouble}
use Rattle.source_api.specs.declared.source.FailKind.TheVariants.{Failed, Garbled, Memory}
use Rattle.source_api.specs.declared.source.Trouble.TheVariants.{Fail, Moved}

-- a count that goes up by so many, and stands still at the last value of its type
abbrev pub raised : ℕ → ℕ → ℕ
raised count by = min (count + by) (2 ^ 64 - 1)

-- nothing counted yet
abbrev pub no_counts : Counts
no_counts = record { faults = 0; garbles = 0; moves = 0; rows_given = 0; grades_given = 0 }

-- one more call that ended so; lack of memory isn't counted
abbrev pub troubled : Trouble → Counts → Counts
troubled (Fail Failed) c = record c { faults = counted c.faults }
troubled (Fail Garbled) c = record c { garbles = counted c.garbles }
troubled (Fail Memory) c = c
troubled (Moved had now) c = record c { moves = counted c.moves }

-- one more page, of so many rows
abbrev pub gave_rows : ℕ → Counts → Counts
gave_rows rows c = record c { rows_given = raised c.rows_given rows }

-- one more answer to a call for a grade
abbrev pub gave_grade : Counts → Counts
gave_grade c = record c { grades_given = counted c.grades_given }

-- the counts of two together
abbrev pub added : Counts → Counts → Counts
added c other = record {
  faults = raised c.faults other.faults;
  garbles = raised c.garbles other.garbles;
  moves = raised c.moves other.moves;
  rows_given = raised c.rows_given other.rows_given;
  grades_given = raised c.grades_given other.grades_given;
}

-- no count fell
pub record NoneFell (before now : Counts) : Type 0 where
  pub faults : before.faults ≤ now.faults
  pub garbles : before.garbles ≤ now.garbles
  pub moves : before.moves ≤ now.moves
  pub rows_given : before.rows_given ≤ now.rows_given
  pub grades_given : before.grades_given ≤ now.grades_given

-- the count that stands behind a call that ended so went up, or stands at its last value; lack of memory needs none
abbrev pub TroubleHasCause : Counts → Counts → Trouble → Type 0
TroubleHasCause before now (Fail Failed) = Rose before.faults now.faults
TroubleHasCause before now (Fail Garbled) = Rose before.garbles now.garbles
TroubleHasCause before now (Fail Memory) = Unit {0}
TroubleHasCause before now (Moved had other) = Rose before.moves now.moves

-- of all counts the one of this trouble alone may have changed; a move raised its own by one, and lack of memory changed none
abbrev pub CountsAlone : Counts → Counts → Trouble → Type 0
CountsAlone before now (Fail Failed) = now ≡ record before { faults = now.faults }
CountsAlone before now (Fail Garbled) = now ≡ record before { garbles = now.garbles }
CountsAlone before now (Fail Memory) = now ≡ before
CountsAlone before now (Moved had other) = now ≡ record before { moves = counted before.moves }

-- a reply stated another version than the one at hand: had and now are these two, they differ, and now is the told one where one is told
pub record IsMove (version : ℕ) (told : Option ℕ) (had now : ℕ) : Type 0 where
  pub at_hand : had ≡ version
  pub stated : IfSome told (λ states. now ≡ states)
  pub differ : had ≢ now

-- a call for rows or for a grade is Moved only where its reply stated another version
abbrev pub MovedHasCause : ℕ → Option ℕ → Trouble → Type 0
MovedHasCause version told (Moved had now) = IsMove version told had now
MovedHasCause version told _ = Unit {0}

-- a call that answers no rows and no grade is never Moved
abbrev pub IsNoMove : Trouble → Type 0
IsNoMove (Moved had now) = ⊥
IsNoMove _ = Unit {0}

-- neither a row nor a grade was given
pub record GaveNothing (before now : Counts) : Type 0 where
  pub rows : now.rows_given ≡ before.rows_given
  pub grades : now.grades_given ≡ before.grades_given

-- so many rows were given, and no grade
pub record GaveRows (number : ℕ) (before now : Counts) : Type 0 where
  pub rows : now.rows_given ≡ raised before.rows_given number
  pub grades : now.grades_given ≡ before.grades_given

-- one call for a grade was answered, and no row given
pub record GaveGrade (before now : Counts) : Type 0 where
  pub rows : now.rows_given ≡ before.rows_given
  pub grades : now.grades_given ≡ counted before.grades_given
