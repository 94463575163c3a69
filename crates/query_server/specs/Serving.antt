-- How a server ends, and what it leaves of the sources.
use Rattle.std.specs.Prelude.{◌≡◌, ◌⊎◌, ◌<◌, ℕ, ⊤, List, Option, None, All, length, map, slice_index_or}
use Rattle.ranked_list.specs.declared.row.Row.{Row}
use Rattle.source_api.specs.declared.counts.Counts.{Counts}
use Rattle.source_api.specs.Calls.{Call}
use Rattle.source_api.specs.Counting.{NoneFell}
use Rattle.fetcher.specs.declared.slot.Slot.{Slot}
use Rattle.tk_io.specs.Calls.{PortCall}
use Rattle.server_conn.specs.Entries.{Openings}
use Rattle.server_conn.specs.declared.opened.OpenedEntry.{OpenedEntry}
use Rattle.query_server.specs.Homes.{home_of}
use Rattle.query_server.specs.Reopening.{ReopensAll}
use Rattle.query_server.specs.Accepting.{TookAll, TookSome, GaveAll, GaveBeforeFault, AsksFor}
use Rattle.query_server.specs.declared.accepting.Accepted.{Accepted}
use Rattle.query_server.specs.declared.server.Served.{Served}
use Rattle.query_server.specs.declared.server.Served.TheVariants as served

-- the sources stand at their places, tell the lists that they told, and no count of theirs fell
pub record KeepsSources {S : Type 0} (list : S → Option (List Row)) (counts : S → Counts) (before after : List (Slot S)) : Type 0 where
  pub size : length after ≡ length before
  pub lists : (i : ℕ) (d : Slot S) → i < length before → list (slice_index_or after i d).source ≡ list (slice_index_or before i d).source
  pub later : (i : ℕ) (d : Slot S) → i < length before → NoneFell (counts (slice_index_or before i d).source) (counts (slice_index_or after i d).source)

-- the sources have the versions at hand that they had
pub record KeepsVersions {S : Type 0} (at_hand : S → ℕ) (before after : List (Slot S)) : Type 0 where
  pub each : (i : ℕ) (d : Slot S) → i < length before → at_hand (slice_index_or after i d).source ≡ at_hand (slice_index_or before i d).source

module _ {S : Type 0} (list : S → Option (List Row)) (counts : S → Counts) (calls : S → Option (List Call)) (at_hand : S → ℕ) where
  -- between two moments the sources of lists were asked for their sizes, and this became of the lists, as each answered
  pub record WereReopened (before after : List (Slot S)) (entries now : List OpenedEntry) : Type 0 where
    pub asked : List (Slot S)
    pub answered : List (Slot S)
    pub until : KeepsSources list counts before asked
    pub became : ReopensAll list counts calls at_hand entries now asked answered
    pub since : KeepsSources list counts answered after

  -- what a server leaves: the sources, none of which is being fetched, and the same catalog, whose lists have the sources that they had. The lists
  -- are as they were at first, or as their sources answered when they were asked last
  pub record Leaves (before after : List (Slot S)) (o now : Openings) : Type 0 where
    pub kept : KeepsSources list counts before after
    pub empty : All (λ slot. slot.feeder ≡ None) after
    pub catalog : now.catalog ≡ o.catalog
    pub homes : map home_of now.entries ≡ map home_of o.entries
    pub lists : (now.entries ≡ o.entries) ⊎ WereReopened before after o.entries now.entries

-- how serving at most so many links of a port ends; lack of memory is free
abbrev pub ServesLinks : ℕ → Option (List (List ℕ)) → Option (List (List ℕ)) → ℕ → ℕ → Served → Type 0
ServesLinks asked links links_now faults faults_now (served.Ended count) = TookAll asked links links_now faults faults_now count
ServesLinks asked links links_now faults faults_now served.PortFault = TookSome asked links links_now faults faults_now
ServesLinks asked links links_now faults faults_now served.Memory = ⊤

-- a port was asked for so many links at most, and for nothing else; where memory ran out the side with the port ended in one of its ways
abbrev pub AsksForLinks : ℕ → Option (List PortCall) → Option (List PortCall) → Served → Type 0
AsksForLinks asked calls calls_now (served.Ended count) = GaveAll asked count calls calls_now
AsksForLinks asked calls calls_now served.PortFault = GaveBeforeFault asked calls calls_now
AsksForLinks asked calls calls_now served.Memory = (how : Accepted) × AsksFor asked calls calls_now how
