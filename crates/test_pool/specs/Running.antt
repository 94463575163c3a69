-- What a run of one query over two sources rests on.
use Rattle.std.specs.Prelude.{List}
use Rattle.atomic_table.specs.Seated.{TableId}
use Rattle.source_pool.specs.declared.hold.Hold.{Hold}
use Rattle.source_pool.specs.Passes.{IsPassOf}
use Rattle.query_core.specs.declared.ready.Ready.{Ready}
use Rattle.query_core.specs.Ready.{IsReady}
use Rattle.query_run.specs.Advancing.{WaitsForNothing, HasSourcesIn}

-- a query may run through a pass of a pool
pub record MayRun (pool : List TableId) (holds : List Hold) (ready : Ready) : Type 0 where
  pub is : IsReady ready
  pub own : IsPassOf pool holds
  pub rests : WaitsForNothing holds
  pub sources : HasSourcesIn holds ready
