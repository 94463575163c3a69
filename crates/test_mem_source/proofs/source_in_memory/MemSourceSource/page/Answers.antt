use Rattle.std.proofs.Common.{◌≡◌, ◌<◌, ◌^◌, ◌∙◌, Some, take, drop, ap, sym, subst, rules}
use Rattle.std.specs.Prelude.{IfSome}
use Rattle.std.specs.Global.{Vec}
use Rattle.ranked_list.specs.declared.row.Row.{Row}
use Rattle.test_mem_source.specs.InMemory.{told_list, told_version, told_unless, next_call}
use Rattle.test_mem_source.specs.Editions.{editions_of}
use Rattle.test_mem_source.specs.Stored.{Stored}
use Rattle.test_mem_source.proofs.DueLaws.{ends_as_due, answered_as_due, answered_version, moved_cause, version_now, rows_now, told_now, told_page_at, cause_counted, counted_alone, nothing_given, none_fell_counted, page_troubled, page_given, rows_given}
use Rattle.test_mem_source.proofs.source_in_memory.MemSourceSource.page.Goals as goal

pub returns-in-Some-clause-due : goal.returns-in-Some-clause-due
returns-in-Some-clause-due c =
    rw (← c.self.view_is)
    (ends_as_due (Vec Row) _ _ _ _ _ _ _ _ _ c.in-Some.trouble c.deref-2.ensures.value c.deref-3.ensures.value c.saturating_add-page_call.ensures (version_now _ _ _ _ _ _ c.version_at-now.ensures c.saturating_add-call.ensures c.deref.ensures.value) c.in-Some.ensures)

pub returns-in-Some-clause-after : goal.returns-in-Some-clause-after
returns-in-Some-clause-after c =
    page_troubled _ _ _ _ _ _ _ _ _ _ c.in-Some.trouble c.self.view_is c.saturating_add-page_call.ensures c.saturating_add-call.ensures c.count_trouble.ensures c.in-Some.ensures

pub returns-in-Some-clause-list : goal.returns-in-Some-clause-list
returns-in-Some-clause-list c =
    ap told_list c.self.view_is

pub returns-in-Some-clause-states : goal.returns-in-Some-clause-states
returns-in-Some-clause-states c =
    ap told_version c.self.view_is

pub returns-in-Some-clause-at_hand : goal.returns-in-Some-clause-at_hand
returns-in-Some-clause-at_hand c =
    ap (λ (m : Stored). m.version) c.self.view_is

pub returns-in-Some-clause-later : goal.returns-in-Some-clause-later
returns-in-Some-clause-later c =
    let faults : c.self.inside.counts.faults < 2 ^ 64 = search rules in
    let garbles : c.self.inside.counts.garbles < 2 ^ 64 = search rules in
    let moves : c.self.inside.counts.moves < 2 ^ 64 = search rules in
    rw (← c.self.view_is) (none_fell_counted _ _ c.in-Some.trouble faults garbles moves c.count_trouble.ensures)

pub returns-in-Some-clause-cause : goal.returns-in-Some-clause-cause
returns-in-Some-clause-cause c =
    rw (← c.self.view_is) (cause_counted _ _ c.in-Some.trouble c.count_trouble.ensures)

pub returns-in-Some-clause-alone : goal.returns-in-Some-clause-alone
returns-in-Some-clause-alone c =
    rw (← c.self.view_is) (counted_alone _ _ c.in-Some.trouble c.count_trouble.ensures)

pub returns-in-Some-clause-gave_nothing : goal.returns-in-Some-clause-gave_nothing
returns-in-Some-clause-gave_nothing c =
    rw (← c.self.view_is) (nothing_given _ _ c.in-Some.trouble c.count_trouble.ensures)

pub returns-in-Some-clause-moved : goal.returns-in-Some-clause-moved
returns-in-Some-clause-moved c =
    rw (← c.self.view_is)
    (moved_cause _ _ _ _ _ _ c.in-Some.trouble (subst (λ v. IfSome (told_unless (editions_of c.self.inside.later.items) (Some c.self.inside.stated_version)) (λ version. v ≡ version)) (sym (version_now _ _ _ _ _ _ c.version_at-now.ensures c.saturating_add-call.ensures c.deref.ensures.value)) (told_now c.self.inside.stated_version (next_call c.self.inside.calls) (editions_of c.self.inside.later.items))) c.in-Some.ensures)

pub returns-clause-list : goal.returns-clause-list
returns-clause-list c =
    ap told_list c.self.view_is

pub returns-clause-states : goal.returns-clause-states
returns-clause-states c =
    ap told_version c.self.view_is

pub returns-clause-at_hand : goal.returns-clause-at_hand
returns-clause-at_hand c =
    ap (λ (m : Stored). m.version) c.self.view_is

pub returns-clause-due : goal.returns-clause-due
returns-clause-due c =
    rw (← c.self.view_is)
    (answered_as_due _ _ _ _ _ _ _ _ _ c.deref-2.ensures.value c.deref-3.ensures.value c.saturating_add-page_call.ensures (version_now _ _ _ _ _ _ c.version_at-now.ensures c.saturating_add-call.ensures c.deref.ensures.value) c.in_default.ensures)

pub returns-clause-rows : goal.returns-clause-rows
returns-clause-rows c =
    rw (← c.self.view_is)
    (c.in-Ok.ensures.items ∙ (c.part_of.ensures ∙ ap (λ rows. take c.args.count (drop c.args.from rows)) (rows_now _ _ _ _ _ _ _ c.rows_at-rows.ensures c.deref-4.ensures.value c.saturating_add-call.ensures c.deref-5.ensures.value)))

pub returns-clause-after : goal.returns-clause-after
returns-clause-after c =
    page_given _ _ _ _ _ _ c.in-Ok.page c.self.view_is c.saturating_add-page_call.ensures c.saturating_add-call.ensures c.len.ensures c.count_rows.ensures

pub returns-clause-given : goal.returns-clause-given
returns-clause-given c =
    rw (← c.self.view_is) (rows_given _ _ _ _ c.len.ensures c.count_rows.ensures)

pub returns-clause-page : goal.returns-clause-page
returns-clause-page c =
    rw (← c.self.view_is)
    (told_page_at c.self.inside.stated c.self.inside.lies.items c.self.inside.rows.items c.in-Ok.page.items (editions_of c.self.inside.later.items) (next_call c.self.inside.calls) c.args.from c.args.count c.requires
    (c.in-Ok.ensures.items ∙ (c.part_of.ensures ∙ ap (λ rows. take c.args.count (drop c.args.from rows)) (rows_now _ _ _ _ _ _ _ c.rows_at-rows.ensures c.deref-4.ensures.value c.saturating_add-call.ensures c.deref-5.ensures.value))))

pub returns-clause-version : goal.returns-clause-version
returns-clause-version c =
    rw (← c.self.view_is)
    (answered_version _ _ _ (told_now c.self.inside.stated_version (next_call c.self.inside.calls) (editions_of c.self.inside.later.items)) (answered_as_due _ _ _ _ _ _ _ _ _ c.deref-2.ensures.value c.deref-3.ensures.value c.saturating_add-page_call.ensures (version_now _ _ _ _ _ _ c.version_at-now.ensures c.saturating_add-call.ensures c.deref.ensures.value) c.in_default.ensures).1)
