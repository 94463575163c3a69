use Rattle.std.proofs.Common.{◌≡◌, ◌<◌, ℕ, Option, Some, None, List, length, get_or, sym, ap, subst, ◌∙◌}
use Rattle.std.proofs.lemmas.List.{get_or_read}
use Rattle.std.specs.Option.{IfSome}
use Rattle.atomic_table.specs.Seated.{TableId}
use Rattle.ranked_list.specs.declared.row.Row.{Row}
use Rattle.ranked_list.specs.declared.need.Need.{Need}
use Rattle.source_state.specs.declared.look.Look.TheVariants as look
use Rattle.source_pool.specs.declared.hold.Hold.{Hold}
use Rattle.source_pool.specs.Holds.{no_hold}
use Rattle.source_pool.specs.Looks.{said_in}
use Rattle.source_pool.specs.Windows.{row_held}
use Rattle.source_pool.specs.Passes.{hold_at, IsPassOf}
use Rattle.source_pool.proofs.TurnLaws.{row_said}
use Rattle.source_pool.proofs.pool.Pool.peek.Goals as goal

-- what is read at a source is what the pass holds of it
read_there : (pool : List TableId) (holds items : List Hold) (source : ℕ) (hold : Hold) → items ≡ holds → IsPassOf pool holds
    → source < length pool → hold ≡ get_or items source hold → hold ≡ hold_at holds source
read_there pool holds items source hold holds_is h within held =
    get_or_read holds source hold (subst (λ n. source < n) (sym h.size) within) (held ∙ ap (λ xs. get_or xs source hold) holds_is) no_hold

-- a row that the window has is the one that what was seen says
seen_there : (pool : List TableId) (holds : List Hold) (source : ℕ) (n : Need) (found : Option Row) → IsPassOf pool holds → source < length pool
    → found ≡ row_held (hold_at holds source).remembered.rows n → IfSome found (λ row. said_in (hold_at holds source).pass.1.seen n ≡ Some (look.Row row))
seen_there pool holds source n None h within e = tt
seen_there pool holds source n (Some row) h within e = row_said n (hold_at holds source) row (h.sound source within) (h.remembers source within) (sym e)

pub returns-clause-held : goal.returns-clause-held
returns-clause-held c =
    c.row.ensures ∙ ap (λ (hold : Hold). row_held hold.remembered.rows c.args.need)
    (read_there c.args.self.now c.args.pass.now c.pass.inside.holds.items c.args.source c.index.result.now c.pass.view_is c.requires.own c.requires.source c.index.ensures)

pub returns-clause-seen : goal.returns-clause-seen
returns-clause-seen c =
    seen_there c.args.self.now c.args.pass.now c.args.source c.args.need c.row.result c.requires.own c.requires.source
    (c.row.ensures ∙ ap (λ (hold : Hold). row_held hold.remembered.rows c.args.need)
    (read_there c.args.self.now c.args.pass.now c.pass.inside.holds.items c.args.source c.index.result.now c.pass.view_is c.requires.own c.requires.source c.index.ensures))
