-- What answering a line leaves of a pass.
use Rattle.std.proofs.Common.{◌≡◌, ◌<◌, List, sym, subst}
use Rattle.std.proofs.lemmas.List.Elements.{All-weaker}
use Rattle.atomic_table.specs.Seated.{TableId}
use Rattle.source_pool.specs.declared.hold.Hold.{Hold}
use Rattle.source_pool.specs.Passes.{IsPassOf}
use Rattle.query_run.specs.Advancing.{WaitsForNothing, KnowsAll}
use Rattle.server_conn.specs.declared.opened.OpenedEntry.{OpenedEntry}
use Rattle.server_conn.specs.declared.opened.OpenedEntry.TheVariants.{Opened, NotOpened, TooLarge}
use Rattle.server_conn.specs.Entries.{Openings, IsThere, MayAnswer}

-- a source that is there stays there
there_still : (before after : List Hold) → KnowsAll before after → (entry : OpenedEntry) → IsThere before entry → IsThere after entry
there_still before after knows (Opened count source version) is =
    (subst (λ n. source < n) (sym knows.size) is.0, subst (λ name. name.1 ≡ count) (sym (knows.each source).name) is.1)
there_still before after knows (NotOpened source) is = tt
there_still before after knows (TooLarge count source) is = tt

pub may_still : (o : Openings) (pool : List TableId) (before after : List Hold) → IsPassOf pool after → WaitsForNothing after → KnowsAll before after
    → MayAnswer o pool before → MayAnswer o pool after
may_still o pool before after own rests knows may = record {
  own = own;
  rests = rests;
  sources = All-weaker (IsThere before) (IsThere after) (there_still before after knows) o.entries may.sources;
}
