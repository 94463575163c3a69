-- Queries that are ready to run.
use Rattle.std.specs.Prelude.{◌≡◌, ◌≤◌, Bool, true, List, length, Contains}
use Rattle.monotone_fn.specs.Limits.{IsExpr}
use Rattle.query_text.specs.declared.algorithm.Algorithm.{Algorithm}
use Rattle.query_text.specs.declared.algorithm.Algorithm.TheVariants.{Taz}
use Rattle.query_text.specs.Query.{IsLawful}
use Rattle.query_core.specs.declared.ready.Ready.{Ready}
use Rattle.query_core.specs.Methods.{Method, method_with}
use Rattle.topk_base.specs.declared.TheConstants.{MAX_OBJECTS}

-- an algorithm that reads in order what can be read so has a list to read
abbrev pub HasToRead : Algorithm → List Bool → Type 0
HasToRead Taz sorted = Contains sorted true
HasToRead _ sorted = Unit {0}

-- the query is lawful, asks for no more objects than its lists have, and of each of its lists the source, the version and whether it can be
-- read in order are told; a list has 200,000 objects at most
pub record IsReady (ready : Ready) : Type 0 where
  pub lawful : IsLawful ready.query
  pub expr : IsExpr ready.query.expr
  pub fits : ready.query.k ≤ ready.count
  pub counted : ready.count ≤ MAX_OBJECTS
  pub sources : length ready.sources.items ≡ length ready.query.names
  pub versions : length ready.versions.items ≡ length ready.query.names
  pub sorted : length ready.sorted.items ≡ length ready.query.names
  pub readable : HasToRead ready.query.algorithm ready.sorted.items

-- by what a machine of a ready query runs
abbrev pub method_of_ready : Ready → Method
method_of_ready ready = method_with ready.query.algorithm ready.sorted.items
