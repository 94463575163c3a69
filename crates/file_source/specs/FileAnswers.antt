-- What the calls on a source over a list file answer, by the bytes alone.
use Rattle.std.specs.Prelude.{◌≡◌, ℕ, List, Option, Some, None, Result, Ok, Err, map, Contains}
use Rattle.std.specs.Global.{Vec}
use Rattle.ranked_list.specs.declared.row.Row.{Row}
use Rattle.source_api.specs.declared.source.Trouble.{Trouble}
use Rattle.source_api.specs.declared.source.FailKind.TheVariants.{Garbled, Memory}
use Rattle.source_api.specs.declared.source.Trouble.TheVariants.{Fail}
use Rattle.source_api.specs.Counting.{troubled, gave_rows, gave_grade}
use Rattle.source_api.specs.Told.{first_grade}
use Rattle.file_source.specs.Filed.{Filed}
use Rattle.file_source.specs.ListFile.{rows_among}

-- a page is the rows that the records asked for are; it is garbled where one of them is no row
abbrev pub AnswersPage : List (Option Row) → Result (Vec Row) Trouble → Type 0
AnswersPage asked (Ok page) = map Some page.items ≡ asked
AnswersPage asked (Err (Fail Garbled)) = Contains asked None
AnswersPage asked (Err (Fail Memory)) = Unit {0}
AnswersPage asked (Err _) = ⊥

-- a grade is that of the first row with the object; where there is none, it is garbled where some record is no row, and else None
abbrev pub AnswersGrade : List (Option Row) → ℕ → Result (Option ℕ) Trouble → Type 0
AnswersGrade records object (Ok (Some grade)) = first_grade (rows_among records) object ≡ Some grade
AnswersGrade records object (Ok None) = (first_grade (rows_among records) object ≡ None) × ¬ Contains records None
AnswersGrade records object (Err (Fail Garbled)) = (first_grade (rows_among records) object ≡ None) × Contains records None
AnswersGrade _ _ _ = ⊥

-- after a call for a page that ended so
abbrev pub after_page : Result (Vec Row) Trouble → Filed → Filed
after_page (Ok page) f = record f { counts = gave_rows page.len f.counts }
after_page (Err trouble) f = record f { counts = troubled trouble f.counts }

-- after a call for a grade that ended so
abbrev pub after_grade : Result (Option ℕ) Trouble → Filed → Filed
after_grade (Ok grade) f = record f { counts = gave_grade f.counts }
after_grade (Err trouble) f = record f { counts = troubled trouble f.counts }
