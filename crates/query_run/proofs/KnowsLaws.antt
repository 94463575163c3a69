-- What a pass knows of all its sources goes on.
use Rattle.std.proofs.Common.{ℕ, List, [], refl, ◌∙◌}
use Rattle.source_pool.specs.declared.hold.Hold.{Hold}
use Rattle.source_pool.specs.Passes.{hold_at}
use Rattle.query_run.specs.Advancing.{KnowsAll, Advances}
use Rattle.query_run.proofs.Stops.{knows_more, advances_same}

-- nothing is changed
pub knows_same : (holds : List Hold) → KnowsAll holds holds
knows_same holds = record { size = refl; each = (advances_same [] holds).knows }

-- step by step
pub knows_on : (a b c : List Hold) → KnowsAll a b → KnowsAll b c → KnowsAll a c
knows_on a b c one other = record {
  size = other.size ∙ one.size;
  each = λ source. knows_more (hold_at a source) (hold_at b source) (hold_at c source) (one.each source) (other.each source);
}

-- a query ran
pub knows_advanced : (sources : List ℕ) (before after : List Hold) → Advances sources before after → KnowsAll before after
knows_advanced sources before after h = record { size = h.size; each = h.knows }
