use Rattle.std.proofs.Common.{◌≡◌, ◌<◌, ◌^◌, ◌∙◌, ℕ, None, Some, Option, ap, sym, subst, rules}
use Rattle.std.specs.Prelude.{IfSome}
use Rattle.source_api.specs.Told.{first_grade, or_else}
use Rattle.test_mem_source.specs.InMemory.{told_list, told_version, told_unless, next_call, rows_in}
use Rattle.test_mem_source.specs.Editions.{editions_of, standing}
use Rattle.test_mem_source.specs.Stored.{Stored}
use Rattle.test_mem_source.proofs.DueLaws.{ends_as_due, answered_as_due, answered_version, moved_cause, version_now, told_now, told_grade_at, cause_counted, counted_alone, nothing_given, none_fell_counted, grade_troubled, grade_given}
use Rattle.test_mem_source.proofs.source_in_memory.MemSourceSource.grade.Goals as goal

pub returns-in-Some-clause-due : goal.returns-in-Some-clause-due
returns-in-Some-clause-due c =
    rw (← c.self.view_is)
    (ends_as_due (Option ℕ) _ _ _ _ _ _ _ _ _ c.in-Some.trouble c.deref-2.ensures.value c.deref-3.ensures.value c.saturating_add-self-inside.ensures (version_now _ _ _ _ _ _ c.version_at-now.ensures c.saturating_add-self-inside-2.ensures c.deref.ensures.value) c.in-Some.ensures)

pub returns-in-Some-clause-after : goal.returns-in-Some-clause-after
returns-in-Some-clause-after c =
    grade_troubled _ _ _ _ _ _ _ _ _ _ c.in-Some.trouble c.self.view_is c.saturating_add-self-inside.ensures c.saturating_add-self-inside-2.ensures c.count_trouble.ensures c.in-Some.ensures

pub returns-in-Some-clause-list : goal.returns-in-Some-clause-list
returns-in-Some-clause-list c =
    ap told_list c.self.view_is

pub returns-in-Some-clause-states : goal.returns-in-Some-clause-states
returns-in-Some-clause-states c =
    ap told_version c.self.view_is

pub returns-in-Some-clause-at_hand : goal.returns-in-Some-clause-at_hand
returns-in-Some-clause-at_hand c =
    ap (λ (m : Stored). m.version) c.self.view_is

pub returns-in-Some-clause-later : goal.returns-in-Some-clause-later
returns-in-Some-clause-later c =
    let faults : c.self.inside.counts.faults < 2 ^ 64 = search rules in
    let garbles : c.self.inside.counts.garbles < 2 ^ 64 = search rules in
    let moves : c.self.inside.counts.moves < 2 ^ 64 = search rules in
    rw (← c.self.view_is) (none_fell_counted _ _ c.in-Some.trouble faults garbles moves c.count_trouble.ensures)

pub returns-in-Some-clause-cause : goal.returns-in-Some-clause-cause
returns-in-Some-clause-cause c =
    rw (← c.self.view_is) (cause_counted _ _ c.in-Some.trouble c.count_trouble.ensures)

pub returns-in-Some-clause-alone : goal.returns-in-Some-clause-alone
returns-in-Some-clause-alone c =
    rw (← c.self.view_is) (counted_alone _ _ c.in-Some.trouble c.count_trouble.ensures)

pub returns-in-Some-clause-gave_nothing : goal.returns-in-Some-clause-gave_nothing
returns-in-Some-clause-gave_nothing c =
    rw (← c.self.view_is) (nothing_given _ _ c.in-Some.trouble c.count_trouble.ensures)

pub returns-in-Some-clause-moved : goal.returns-in-Some-clause-moved
returns-in-Some-clause-moved c =
    rw (← c.self.view_is)
    (moved_cause _ _ _ _ _ _ c.in-Some.trouble (subst (λ v. IfSome (told_unless (editions_of c.self.inside.later.items) (Some c.self.inside.stated_version)) (λ version. v ≡ version)) (sym (version_now _ _ _ _ _ _ c.version_at-now.ensures c.saturating_add-self-inside-2.ensures c.deref.ensures.value)) (told_now c.self.inside.stated_version (next_call c.self.inside.calls) (editions_of c.self.inside.later.items))) c.in-Some.ensures)

pub returns-clause-list : goal.returns-clause-list
returns-clause-list c =
    ap told_list c.self.view_is

pub returns-clause-states : goal.returns-clause-states
returns-clause-states c =
    ap told_version c.self.view_is

pub returns-clause-at_hand : goal.returns-clause-at_hand
returns-clause-at_hand c =
    ap (λ (m : Stored). m.version) c.self.view_is

pub returns-clause-due : goal.returns-clause-due
returns-clause-due c =
    rw (← c.self.view_is)
    (answered_as_due _ _ _ _ _ _ _ _ _ c.deref-2.ensures.value c.deref-3.ensures.value c.saturating_add-self-inside.ensures (version_now _ _ _ _ _ _ c.version_at-now.ensures c.saturating_add-self-inside-2.ensures c.deref.ensures.value) c.in_default.ensures)

pub returns-clause-answer : goal.returns-clause-answer
returns-clause-answer c =
    rw (← c.self.view_is)
    (c.grade_of.ensures c.self.inside.rows.items (λ object. c.self.invariant object)
    ∙ ap (λ lies. or_else (first_grade lies c.args.object) (first_grade (rows_in c.self.inside.rows.items (standing c.saturating_add-self-inside-2.result None (editions_of c.deref-5.result.now))) c.args.object)) c.deref-4.ensures.value
    ∙ ap (λ n. or_else (first_grade c.self.inside.lies.items c.args.object) (first_grade (rows_in c.self.inside.rows.items (standing n None (editions_of c.deref-5.result.now))) c.args.object)) c.saturating_add-self-inside-2.ensures
    ∙ ap (λ given. or_else (first_grade c.self.inside.lies.items c.args.object) (first_grade (rows_in c.self.inside.rows.items (standing (next_call c.self.inside.calls) None (editions_of given))) c.args.object)) c.deref-5.ensures.value)

pub returns-clause-after : goal.returns-clause-after
returns-clause-after c =
    grade_given _ _ _ _ _ c.grade_of.result c.self.view_is c.saturating_add-self-inside.ensures c.saturating_add-self-inside-2.ensures c.count_grade.ensures

pub returns-clause-grade : goal.returns-clause-grade
returns-clause-grade c =
    rw (← c.self.view_is)
    (told_grade_at c.self.inside.stated c.self.inside.lies.items c.self.inside.rows.items (editions_of c.self.inside.later.items) (next_call c.self.inside.calls) c.args.object c.grade_of.result
    (c.grade_of.ensures c.self.inside.rows.items (λ object. c.self.invariant object)
    ∙ ap (λ lies. or_else (first_grade lies c.args.object) (first_grade (rows_in c.self.inside.rows.items (standing c.saturating_add-self-inside-2.result None (editions_of c.deref-5.result.now))) c.args.object)) c.deref-4.ensures.value
    ∙ ap (λ n. or_else (first_grade c.self.inside.lies.items c.args.object) (first_grade (rows_in c.self.inside.rows.items (standing n None (editions_of c.deref-5.result.now))) c.args.object)) c.saturating_add-self-inside-2.ensures
    ∙ ap (λ given. or_else (first_grade c.self.inside.lies.items c.args.object) (first_grade (rows_in c.self.inside.rows.items (standing (next_call c.self.inside.calls) None (editions_of given))) c.args.object)) c.deref-5.ensures.value))

pub returns-clause-version : goal.returns-clause-version
returns-clause-version c =
    rw (← c.self.view_is)
    (answered_version _ _ _ (told_now c.self.inside.stated_version (next_call c.self.inside.calls) (editions_of c.self.inside.later.items)) (answered_as_due _ _ _ _ _ _ _ _ _ c.deref-2.ensures.value c.deref-3.ensures.value c.saturating_add-self-inside.ensures (version_now _ _ _ _ _ _ c.version_at-now.ensures c.saturating_add-self-inside-2.ensures c.deref.ensures.value) c.in_default.ensures).1)
