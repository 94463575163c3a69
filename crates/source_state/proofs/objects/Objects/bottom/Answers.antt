use Rattle.std.proofs.Common.{◌≡◌, ◌-◌, Some, length, slice_get, sym, subst}
use Rattle.ranked_list.specs.Table.{top_grade}
use Rattle.topk_theory.specs.Transcript.{last_grade}
use Rattle.source_state.specs.ObjectKeeping.{ObjectList}
use Rattle.source_state.proofs.Caching.{last_is}
use Rattle.source_state.proofs.objects.Objects.bottom.Goals as goal

pub returns-in-Some : goal.returns-in-Some
returns-in-Some c =
    sym (subst (λ (list : ObjectList). last_grade top_grade list.rows ≡ c.in-Some.row.now.grade) c.self.view_is
    (last_is top_grade c.self.inside.rows.items c.in-Some.row.now
    (subst (λ rows. slice_get rows (length rows - 1) ≡ Some c.in-Some.row.now) c.deref.ensures.value (sym c.in-Some.ensures.value))))
