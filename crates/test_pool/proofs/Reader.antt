-- A reader of a pool that was opened, and after a look.
use Rattle.std.proofs.Common.{◌≤◌, ◌∷◌, [], ℕ, List, sym, ap, subst, ◌∙◌, arith}
use Rattle.ranked_list.specs.declared.need.Need.TheVariants as need
use Rattle.atomic_table.specs.Seated.{TableId}
use Rattle.source_pool.specs.declared.hold.Hold.{Hold}
use Rattle.source_pool.specs.Passes.{Feed, hold_at, IsPassOf}
use Rattle.source_pool.specs.Looks.{KnowsOn}
use Rattle.source_pool.specs.Sharing.{IsOpened}
use Rattle.test_pool.specs.Reading.{IsReader}

pub opened_reader : (count : ℕ) (pool : List TableId) (holds : List Hold) (feeds : List Feed) → IsOpened (count ∷ []) pool holds feeds
    → IsReader pool count holds
opened_reader count pool holds feeds opened = record { own = opened.pass; one = opened.size; name = ap (λ (h : Hold). h.pass.1.name.1) (opened.held 0 (omega arith)) }

pub looked_reader : (count : ℕ) (pool : List TableId) (before after : List Hold) → IsReader pool count before → IsPassOf pool after
    → KnowsOn (hold_at before 0).pass.1 (hold_at after 0).pass.1 → IsReader pool count after
looked_reader count pool before after h own knows = record { own = own; one = h.one; name = ap (λ (p : ℕ × ℕ). p.1) knows.name ∙ h.name }

pub reader_depth : (count depth : ℕ) (pool : List TableId) (holds : List Hold) → IsReader pool count holds → depth ≤ count
    → depth ≤ (hold_at holds 0).pass.1.name.1
reader_depth count depth pool holds h within = subst (λ n. depth ≤ n) (sym h.name) within
