use Rattle.std.proofs.Common.{◌≡◌}
use Rattle.keyed_lock.specs.Hold.{share_of}
use Rattle.server_conn.specs.Entries.{view_in, MayAnswer}
use Rattle.server_conn.specs.Answers.{Remembers}
use Rattle.query_server.proofs.sides.serve_links.Given as goal

abbrev pub invariant-loop : goal.invariant-loop
invariant-loop g l = record {
  share : l.own ≡ share_of l.table.lock 1;
  fit : MayAnswer l.catalog l.pool l.pass;
  remembers : Remembers (view_in l.catalog) l.pass l.answers;
}
