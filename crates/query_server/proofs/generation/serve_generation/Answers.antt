use Rattle.std.proofs.Common.{All, sym, subst}
use Rattle.server_conn.specs.Entries.{IsSized}
use Rattle.query_server.proofs.generation.serve_generation.Goals as goal

pub counts_of-requires-clause-sized : goal.counts_of-requires-clause-sized
counts_of-requires-clause-sized g c = subst (All IsSized) (sym c.entries.ensures.value) c.entries.ensures.are.sized
