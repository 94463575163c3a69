-- What a query pays for its accesses.
use Rattle.std.specs.Prelude.{unwrap_or}
use Rattle.monotone_fn.specs.declared.costs.Costs.{Costs}
use Rattle.query_text.specs.declared.query.Query.{Query}

-- what accesses cost a query; 1 and 1 where it doesn't say
abbrev pub costs_in_force : Query → Costs
costs_in_force query = unwrap_or query.cost (record { sorted = 1; random = 1 })
