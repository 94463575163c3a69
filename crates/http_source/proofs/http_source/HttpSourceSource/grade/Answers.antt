use Rattle.http_source.proofs.CountedLaws.{counted_is, later_with, grade_cause, grade_alone, grade_gave, grade_gave_nothing, grade_quiet}
use Rattle.http_source.proofs.http_source.HttpSourceSource.grade.Goals as goal

pub returns-clause-answers : goal.returns-clause-answers
returns-clause-answers g c =
    rw (← c.self.view_is)
    (c.ask_grade-answer.ensures.answers)

pub returns-clause-unlinked : goal.returns-clause-unlinked
returns-clause-unlinked g c =
    rw (← c.self.view_is)
    (c.ask_grade-answer.ensures.unlinked)

pub returns-clause-failed : goal.returns-clause-failed
returns-clause-failed g c =
    rw (← c.self.view_is)
    (c.ask_grade-answer.ensures.cause)

pub returns-clause-dialled : goal.returns-clause-dialled
returns-clause-dialled g c =
    rw (← c.self.view_is)
    (c.ask_grade-answer.ensures.dialled)

pub returns-clause-link : goal.returns-clause-link
returns-clause-link g c =
    rw (← c.self.view_is)
    (c.ask_grade-answer.ensures.link)

pub returns-clause-after : goal.returns-clause-after
returns-clause-after g c =
    rw (← c.self.view_is)
    (counted_is _ _ c.after_grade-self-inside.ensures.is)

pub returns-clause-later : goal.returns-clause-later
returns-clause-later g c =
    rw (← c.self.view_is)
    (later_with _ _ _ c.after_grade-self-inside.result c.ask_grade-answer.ensures.later c.after_grade-self-inside.ensures.later)

pub returns-clause-cause : goal.returns-clause-cause
returns-clause-cause g c =
    rw (← c.self.view_is)
    (grade_cause _ _ _ _ c.ask_grade-answer.result c.after_grade-self-inside.ensures.is c.ask_grade-answer.ensures.cause)

pub returns-clause-alone : goal.returns-clause-alone
returns-clause-alone g c =
    rw (← c.self.view_is)
    (grade_alone _ _ _ _ c.ask_grade-answer.result c.after_grade-self-inside.ensures.is c.ask_grade-answer.ensures.cause)

pub returns-clause-given : goal.returns-clause-given
returns-clause-given g c =
    rw (← c.self.view_is)
    (grade_gave _ _ _ _ c.ask_grade-answer.result c.after_grade-self-inside.ensures.is)

pub returns-clause-gave_nothing : goal.returns-clause-gave_nothing
returns-clause-gave_nothing g c =
    rw (← c.self.view_is)
    (grade_gave_nothing _ _ _ _ c.ask_grade-answer.result c.after_grade-self-inside.ensures.is)

pub returns-clause-moved : goal.returns-clause-moved
returns-clause-moved g c =
    rw (← c.self.view_is)
    (c.ask_grade-answer.ensures.moved)

pub returns-clause-quiet : goal.returns-clause-quiet
returns-clause-quiet g c =
    rw (← c.self.view_is)
    (grade_quiet _ _ _ _ c.ask_grade-answer.result c.after_grade-self-inside.ensures.is c.ask_grade-answer.ensures.cause)
