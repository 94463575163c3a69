-- Why a look refused a query, by what the query's own turns at that source gave and saw.
use Rattle.std.specs.Prelude.{◌≡◌, ◌≤◌, Option, Some, None, List, ◌∷◌, ◌++◌, Contains}
use Rattle.ranked_list.specs.declared.need.Need.{Need}
use Rattle.ranked_list.specs.declared.need.Need.TheVariants as need
use Rattle.turn_lock.specs.declared.facts.Facts.{Facts}
use Rattle.turn_lock.specs.declared.facts.Tally.{Tally}
use Rattle.turn_lock.specs.declared.known.Known.{Known}
use Rattle.source_state.specs.declared.entry.LogEntry.{LogEntry}
use Rattle.source_api.specs.declared.source.FailKind.{FailKind}
use Rattle.source_state.specs.declared.look.Look.TheVariants as look
use Rattle.source_state.specs.declared.look.LookFault.{LookFault}
use Rattle.source_state.specs.declared.look.LookFault.TheVariants as why
use Rattle.source_state.specs.Looking.{newer}
use Rattle.source_pool.specs.declared.hold.Hold.{Hold}
use Rattle.source_pool.specs.Passes.{hold_at}
use Rattle.source_pool.specs.Looks.{said_in, HasNoRoom}
use Rattle.query_run.specs.declared.ended.Refusal.{Refusal}
use Rattle.query_run.specs.declared.ended.Refusal.TheVariants.{Core, Look as LookedFor}
use Rattle.query_run.specs.declared.running_query.RunningQuery.{RunningQuery}
use Rattle.query_run.specs.Inquiries.{needed, source_needed}

-- a turn calls for a need: in what it gave the row is wanted, or the object is asked
abbrev pub CallsFor : Need → Facts LogEntry → Type 0
CallsFor (need.Row list depth) given = depth ≤ given.mark
CallsFor (need.Grade list object) given = Contains given.asks object
CallsFor need.Done given = ⊥

-- one of the turns that the pass took since then called for the need, and there the tally was this one
pub record HasCalledFor (need : Need) (noted : Tally) (before now : Known LogEntry) : Type 0 where
  pub earlier : List (Facts LogEntry)
  pub call : Facts LogEntry
  pub later : List (Facts LogEntry)
  pub turns : now.gave ≡ before.gave ++ (earlier ++ call ∷ later)
  pub calls : CallsFor need call
  pub tally : call.tally ≡ noted

-- a fail of this kind came of a need: one of the pass's own turns called for it, and as the pass saw last, more fails have come since
-- then, this kind being the first of which more came, and the log doesn't decide the need
pub record FailCame (what : FailKind) (need : Need) (before after : Known LogEntry) : Type 0 where
  pub noted : Tally
  pub called : HasCalledFor need noted before after
  pub undecided : said_in after.seen need ≡ None
  pub rose : newer noted after.tally ≡ Some what

-- no ask is left for a need that the log doesn't decide
pub record NoAskLeft (need : Need) (after : Known LogEntry) : Type 0 where
  pub undecided : said_in after.seen need ≡ None
  pub full : HasNoRoom after need

-- why a look at a source refused a need, by what the pass knew before the query and what it knows after it
abbrev pub RefusedBy : LookFault → Need → Known LogEntry → Known LogEntry → Type 0
RefusedBy (why.Source fault) need before after = said_in after.seen need ≡ Some (look.Fault (why.Source fault))
RefusedBy (why.Missing object) need before after = said_in after.seen need ≡ Some (look.Fault (why.Missing object))
RefusedBy (why.AsksFull kept) need before after = NoAskLeft need after
RefusedBy (why.Call what) need before after = FailCame what need before after

-- where a look refused the query, what it needed was refused so
abbrev pub LookRefused : RunningQuery → List Hold → List Hold → Option Refusal → Type 0
LookRefused q before after None = Unit {0}
LookRefused q before after (Some (Core fault)) = Unit {0}
LookRefused q before after (Some (LookedFor list fault)) =
    RefusedBy fault (needed q) (hold_at before (source_needed q)).pass.1 (hold_at after (source_needed q)).pass.1
