-- What a call counts, by how it ended: faults as its dial does, and the rest by itself.
use Rattle.std.proofs.Common.{◌≡◌, ◌≤◌, ◌<◌, ◌^◌, ℕ, Option, Result, Ok, Err, refl, ap, arith}
use Rattle.std.specs.Prelude.{IfErr, IfOk, OnOk, OnErr, vec_len}
use Rattle.std.specs.Global.{Vec}
use Rattle.ranked_list.specs.declared.row.Row.{Row}
use Rattle.source_api.specs.declared.counts.Counts.{Counts}
use Rattle.source_api.specs.declared.source.Trouble.{Trouble}
use Rattle.source_api.specs.declared.source.FailKind.TheVariants.{Failed, Garbled, Memory}
use Rattle.source_api.specs.declared.source.Trouble.TheVariants.{Fail, Moved}
use Rattle.source_api.specs.Counting.{troubled, gave_rows, gave_grade, NoneFell, TroubleHasCause, CountsAlone, GaveNothing, GaveRows, GaveGrade}
use Rattle.http_source.specs.Exchanges.{FailsWith}
use Rattle.http_source.specs.Served.{Served, counts_with, size_counted, page_counted, grade_counted}

-- counts that haven't passed the last value of their type
pub record Fit (counts : Counts) : Type 0 where
  pub faults : counts.faults < 2 ^ 64
  pub garbles : counts.garbles < 2 ^ 64
  pub moves : counts.moves < 2 ^ 64
  pub rows : counts.rows_given < 2 ^ 64
  pub grades : counts.grades_given < 2 ^ 64

-- counts that are as a call leaves them
pub counted_is : {D : Type 0} (now : Served D) (counts : Counts) → now.counted ≡ counts → now ≡ record now { counted = counts }
counted_is now counts is = λ i. record {
  dial = now.dial;
  host = now.host;
  port = now.port;
  path = now.path;
  version = now.version;
  counted = is i;
}

-- ---- a call that gave nothing

pub trouble_cause : (T : Type 0) (faults faults_now : ℕ) (counted : Counts) (why : Trouble) → FailsWith {T = T} faults faults_now (Err why)
    → TroubleHasCause (counts_with faults counted) (counts_with faults_now (troubled why counted)) why
trouble_cause T faults faults_now counted (Fail Failed) fails = fails
trouble_cause T faults faults_now counted (Fail Garbled) fails = omega arith
trouble_cause T faults faults_now counted (Fail Memory) fails = tt
trouble_cause T faults faults_now counted (Moved had now) fails = omega arith

pub trouble_alone : (T : Type 0) (faults faults_now : ℕ) (counted : Counts) (why : Trouble) → FailsWith {T = T} faults faults_now (Err why)
    → CountsAlone (counts_with faults counted) (counts_with faults_now (troubled why counted)) why
trouble_alone T faults faults_now counted (Fail Failed) fails = refl
trouble_alone T faults faults_now counted (Fail Garbled) fails = ap (λ n. counts_with n (troubled (Fail Garbled) counted)) fails
trouble_alone T faults faults_now counted (Fail Memory) fails = ap (λ n. counts_with n counted) fails
trouble_alone T faults faults_now counted (Moved had now) fails = ap (λ n. counts_with n (troubled (Moved had now) counted)) fails

pub trouble_gave : (faults faults_now : ℕ) (counted : Counts) (why : Trouble) → GaveNothing (counts_with faults counted) (counts_with faults_now (troubled why counted))
trouble_gave faults faults_now counted (Fail Failed) = record { rows = refl; grades = refl }
trouble_gave faults faults_now counted (Fail Garbled) = record { rows = refl; grades = refl }
trouble_gave faults faults_now counted (Fail Memory) = record { rows = refl; grades = refl }
trouble_gave faults faults_now counted (Moved had now) = record { rows = refl; grades = refl }

-- ---- no count falls

pub trouble_fell : (counted : Counts) (why : Trouble) → Fit counted → NoneFell counted (troubled why counted)
trouble_fell counted (Fail Failed) fit = record { faults = omega arith; garbles = omega arith; moves = omega arith; rows_given = omega arith; grades_given = omega arith }
trouble_fell counted (Fail Garbled) fit = record { faults = omega arith; garbles = omega arith; moves = omega arith; rows_given = omega arith; grades_given = omega arith }
trouble_fell counted (Fail Memory) fit = record { faults = omega arith; garbles = omega arith; moves = omega arith; rows_given = omega arith; grades_given = omega arith }
trouble_fell counted (Moved had now) fit = record { faults = omega arith; garbles = omega arith; moves = omega arith; rows_given = omega arith; grades_given = omega arith }

pub rows_fell : (counted : Counts) (rows : ℕ) → Fit counted → NoneFell counted (gave_rows rows counted)
rows_fell counted rows fit = record { faults = omega arith; garbles = omega arith; moves = omega arith; rows_given = omega arith; grades_given = omega arith }

pub grade_fell : (counted : Counts) → Fit counted → NoneFell counted (gave_grade counted)
grade_fell counted fit = record { faults = omega arith; garbles = omega arith; moves = omega arith; rows_given = omega arith; grades_given = omega arith }

-- with the faults of a dial in place of those that were counted
pub later_with : (faults faults_now : ℕ) (counted counted_now : Counts) → faults ≤ faults_now → NoneFell counted counted_now
    → NoneFell (counts_with faults counted) (counts_with faults_now counted_now)
later_with faults faults_now counted counted_now later fell = record {
  faults = later;
  garbles = fell.garbles;
  moves = fell.moves;
  rows_given = fell.rows_given;
  grades_given = fell.grades_given;
}

-- ---- a call for the size

pub size_cause : (faults faults_now : ℕ) (counted counted_now : Counts) (result : Result ℕ Trouble) → counted_now ≡ size_counted result counted → FailsWith faults faults_now result
    → IfErr result (TroubleHasCause (counts_with faults counted) (counts_with faults_now counted_now))
size_cause faults faults_now counted counted_now (Ok size) is fails = tt
size_cause faults faults_now counted counted_now (Err why) is fails = rw is (trouble_cause ℕ faults faults_now counted why fails)

pub size_alone : (faults faults_now : ℕ) (counted counted_now : Counts) (result : Result ℕ Trouble) → counted_now ≡ size_counted result counted → FailsWith faults faults_now result
    → IfErr result (CountsAlone (counts_with faults counted) (counts_with faults_now counted_now))
size_alone faults faults_now counted counted_now (Ok size) is fails = tt
size_alone faults faults_now counted counted_now (Err why) is fails = rw is (trouble_alone ℕ faults faults_now counted why fails)

pub size_gave : (faults faults_now : ℕ) (counted counted_now : Counts) (result : Result ℕ Trouble) → counted_now ≡ size_counted result counted
    → GaveNothing (counts_with faults counted) (counts_with faults_now counted_now)
size_gave faults faults_now counted counted_now (Ok size) is = rw is (record { rows = refl; grades = refl })
size_gave faults faults_now counted counted_now (Err why) is = rw is (trouble_gave faults faults_now counted why)

pub size_quiet : (faults faults_now : ℕ) (counted counted_now : Counts) (result : Result ℕ Trouble) → counted_now ≡ size_counted result counted → FailsWith faults faults_now result
    → OnOk result (counts_with faults_now counted_now ≡ counts_with faults counted)
size_quiet faults faults_now counted counted_now (Ok size) is fails = λ i. counts_with (fails i) (is i)
size_quiet faults faults_now counted counted_now (Err why) is fails = tt

-- ---- a call for rows

pub page_cause : (faults faults_now : ℕ) (counted counted_now : Counts) (result : Result (Vec Row) Trouble) → counted_now ≡ page_counted result counted → FailsWith faults faults_now result
    → IfErr result (TroubleHasCause (counts_with faults counted) (counts_with faults_now counted_now))
page_cause faults faults_now counted counted_now (Ok page) is fails = tt
page_cause faults faults_now counted counted_now (Err why) is fails = rw is (trouble_cause (Vec Row) faults faults_now counted why fails)

pub page_alone : (faults faults_now : ℕ) (counted counted_now : Counts) (result : Result (Vec Row) Trouble) → counted_now ≡ page_counted result counted → FailsWith faults faults_now result
    → IfErr result (CountsAlone (counts_with faults counted) (counts_with faults_now counted_now))
page_alone faults faults_now counted counted_now (Ok page) is fails = tt
page_alone faults faults_now counted counted_now (Err why) is fails = rw is (trouble_alone (Vec Row) faults faults_now counted why fails)

pub page_gave : (faults faults_now : ℕ) (counted counted_now : Counts) (result : Result (Vec Row) Trouble) → counted_now ≡ page_counted result counted
    → IfOk result (λ page. GaveRows (vec_len page) (counts_with faults counted) (counts_with faults_now counted_now))
page_gave faults faults_now counted counted_now (Ok page) is = rw is (record { rows = refl; grades = refl })
page_gave faults faults_now counted counted_now (Err why) is = tt

pub page_gave_nothing : (faults faults_now : ℕ) (counted counted_now : Counts) (result : Result (Vec Row) Trouble) → counted_now ≡ page_counted result counted
    → OnErr result (GaveNothing (counts_with faults counted) (counts_with faults_now counted_now))
page_gave_nothing faults faults_now counted counted_now (Ok page) is = tt
page_gave_nothing faults faults_now counted counted_now (Err why) is = rw is (trouble_gave faults faults_now counted why)

pub page_quiet : (faults faults_now : ℕ) (counted counted_now : Counts) (result : Result (Vec Row) Trouble) → counted_now ≡ page_counted result counted → FailsWith faults faults_now result
    → IfOk result (λ page. counts_with faults_now counted_now ≡ gave_rows (vec_len page) (counts_with faults counted))
page_quiet faults faults_now counted counted_now (Ok page) is fails = λ i. counts_with (fails i) (is i)
page_quiet faults faults_now counted counted_now (Err why) is fails = tt

-- ---- a call for a grade

pub grade_cause : (faults faults_now : ℕ) (counted counted_now : Counts) (result : Result (Option ℕ) Trouble) → counted_now ≡ grade_counted result counted → FailsWith faults faults_now result
    → IfErr result (TroubleHasCause (counts_with faults counted) (counts_with faults_now counted_now))
grade_cause faults faults_now counted counted_now (Ok grade) is fails = tt
grade_cause faults faults_now counted counted_now (Err why) is fails = rw is (trouble_cause (Option ℕ) faults faults_now counted why fails)

pub grade_alone : (faults faults_now : ℕ) (counted counted_now : Counts) (result : Result (Option ℕ) Trouble) → counted_now ≡ grade_counted result counted → FailsWith faults faults_now result
    → IfErr result (CountsAlone (counts_with faults counted) (counts_with faults_now counted_now))
grade_alone faults faults_now counted counted_now (Ok grade) is fails = tt
grade_alone faults faults_now counted counted_now (Err why) is fails = rw is (trouble_alone (Option ℕ) faults faults_now counted why fails)

pub grade_gave : (faults faults_now : ℕ) (counted counted_now : Counts) (result : Result (Option ℕ) Trouble) → counted_now ≡ grade_counted result counted
    → OnOk result (GaveGrade (counts_with faults counted) (counts_with faults_now counted_now))
grade_gave faults faults_now counted counted_now (Ok grade) is = rw is (record { rows = refl; grades = refl })
grade_gave faults faults_now counted counted_now (Err why) is = tt

pub grade_gave_nothing : (faults faults_now : ℕ) (counted counted_now : Counts) (result : Result (Option ℕ) Trouble) → counted_now ≡ grade_counted result counted
    → OnErr result (GaveNothing (counts_with faults counted) (counts_with faults_now counted_now))
grade_gave_nothing faults faults_now counted counted_now (Ok grade) is = tt
grade_gave_nothing faults faults_now counted counted_now (Err why) is = rw is (trouble_gave faults faults_now counted why)

pub grade_quiet : (faults faults_now : ℕ) (counted counted_now : Counts) (result : Result (Option ℕ) Trouble) → counted_now ≡ grade_counted result counted → FailsWith faults faults_now result
    → OnOk result (counts_with faults_now counted_now ≡ gave_grade (counts_with faults counted))
grade_quiet faults faults_now counted counted_now (Ok grade) is fails = λ i. counts_with (fails i) (is i)
grade_quiet faults faults_now counted counted_now (Err why) is fails = tt
