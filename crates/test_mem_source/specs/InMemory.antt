-- What the calls on a source in memory answer, and what they make of it.
use Rattle.std.specs.Prelude.{◌≡◌, ◌≢◌, ℕ, List, [], ◌∷◌, Option, Some, None, Result, Ok, Err, length, Contains, vec_len}
use Rattle.std.specs.Global.{Vec}
use Rattle.tk_io.specs.Faults.{counted}
use Rattle.ranked_list.specs.declared.row.Row.{Row}
use Rattle.source_api.specs.declared.source.Trouble.{Trouble}
use Rattle.source_api.specs.declared.source.FailKind.TheVariants.{Failed, Garbled, Memory}
use Rattle.source_api.specs.declared.source.Trouble.TheVariants.{Fail, Moved}
use Rattle.source_api.specs.declared.counts.Counts.{Counts}
use Rattle.source_api.specs.Counting.{no_counts, troubled, gave_rows, gave_grade}
use Rattle.source_api.specs.Told.{first_grade, told_of, or_else}
use Rattle.test_mem_source.specs.Stored.{Stored}
use Rattle.test_mem_source.specs.Editions.{Edition, standing}

-- a source of these rows, of version 0, that changes never, had no call yet, and of which no call is to fail
abbrev pub new_source : List Row → Stored
new_source rows = record {
  rows = rows;
  stated = None;
  stated_version = 0;
  later = [];
  fail_pages = [];
  garble_pages = [];
  fail_grades = [];
  garble_grades = [];
  lies = [];
  page_calls = 0;
  grade_calls = 0;
  calls = 0;
  version = 0;
  counts = no_counts;
}

-- the same source before its first call
abbrev pub unused : Stored → Stored
unused m = record m { page_calls = 0; grade_calls = 0; calls = 0; version = 0; counts = no_counts }

-- what is told where nothing comes later
abbrev pub told_unless : {A : Type 0} → List Edition → Option A → Option A
told_unless [] told = told
told_unless (next ∷ later) told = None

-- the list that it tells
abbrev pub told_list : Stored → Option (List Row)
told_list m = told_unless m.later (told_of m.stated m.lies m.rows)

-- the version that it tells
abbrev pub told_version : Stored → Option ℕ
told_version m = told_unless m.later (Some m.stated_version)

-- the number of the next call, after so many calls
abbrev pub next_call : ℕ → ℕ
next_call calls = counted calls

-- the version and the rows at a call: those of the edition that stands, else the first ones
abbrev pub version_in : ℕ → Option Edition → ℕ
version_in first None = first
version_in first (Some held) = held.version

abbrev pub rows_in : List Row → Option Edition → List Row
rows_in first None = first
rows_in first (Some held) = held.rows

-- the version and the rows at the next call
abbrev pub next_version : Stored → ℕ
next_version m = version_in m.stated_version (standing (next_call m.calls) None m.later)

abbrev pub next_rows : Stored → List Row
next_rows m = rows_in m.rows (standing (next_call m.calls) None m.later)

-- the size that it answers
abbrev pub size_or : Option ℕ → List Row → ℕ
size_or None rows = length rows
size_or (Some stated) rows = stated

abbrev pub size_of : Stored → ℕ
size_of m = size_or m.stated (next_rows m)

-- the grade that it answers: that of the first lie about the object, else that of its first row
abbrev pub answered_grade : Stored → ℕ → Option ℕ
answered_grade m object = or_else (first_grade m.lies object) (first_grade (next_rows m) object)

-- neither fails nor garbles
abbrev pub IsSound : List ℕ → List ℕ → ℕ → Type 0
IsSound fails garbles call = ¬ Contains fails call × ¬ Contains garbles call

-- how a call is to end by its number and by the version at hand and the one at the call: it fails where its number stands among those that fail,
-- else it garbles where its number stands among those that garble, else it is moved where the two versions differ, else it is answered
abbrev pub IsDue : List ℕ → List ℕ → ℕ → ℕ → ℕ → Option Trouble → Type 0
IsDue fails garbles call at_hand now None = IsSound fails garbles call × (now ≡ at_hand)
IsDue fails garbles call at_hand now (Some (Fail Failed)) = Contains fails call
IsDue fails garbles call at_hand now (Some (Fail Garbled)) = ¬ Contains fails call × Contains garbles call
IsDue fails garbles call at_hand now (Some (Fail Memory)) = ⊥
IsDue fails garbles call at_hand now (Some (Moved had other)) = IsSound fails garbles call × (had ≡ at_hand) × (other ≡ now) × (had ≢ other)

-- how a call ended whose end its number decides: lack of memory is none of these
abbrev pub trouble_in : {T : Type 0} → Result T Trouble → Option Trouble
trouble_in (Ok answer) = None
trouble_in (Err (Fail Failed)) = Some (Fail Failed)
trouble_in (Err (Fail Garbled)) = Some (Fail Garbled)
trouble_in (Err (Fail Memory)) = None
trouble_in (Err (Moved had now)) = Some (Moved had now)

-- after a call for the size, which never fails
abbrev pub after_size : Stored → Stored
after_size m = record m { calls = next_call m.calls; version = next_version m }

-- one more call for a page, and for a grade, after which this is counted
abbrev pub page_called : Stored → Counts → Stored
page_called m counts = record m { page_calls = next_call m.page_calls; calls = next_call m.calls; counts = counts }

abbrev pub grade_called : Stored → Counts → Stored
grade_called m counts = record m { grade_calls = next_call m.grade_calls; calls = next_call m.calls; counts = counts }

-- after a call for a page that ended so; lack of memory leaves all as it was
abbrev pub after_page : Result (Vec Row) Trouble → Stored → Stored
after_page (Ok page) m = page_called m (gave_rows (vec_len page) m.counts)
after_page (Err (Fail Failed)) m = page_called m (troubled (Fail Failed) m.counts)
after_page (Err (Fail Garbled)) m = page_called m (troubled (Fail Garbled) m.counts)
after_page (Err (Fail Memory)) m = m
after_page (Err (Moved had now)) m = page_called m (troubled (Moved had now) m.counts)

-- after a call for a grade that ended so
abbrev pub after_grade : Result (Option ℕ) Trouble → Stored → Stored
after_grade (Ok grade) m = grade_called m (gave_grade m.counts)
after_grade (Err (Fail Failed)) m = grade_called m (troubled (Fail Failed) m.counts)
after_grade (Err (Fail Garbled)) m = grade_called m (troubled (Fail Garbled) m.counts)
after_grade (Err (Fail Memory)) m = m
after_grade (Err (Moved had now)) m = grade_called m (troubled (Moved had now) m.counts)
