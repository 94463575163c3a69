use Rattle.std.proofs.Common.{All, length, ap, sym, subst, ◌∙◌}
use Rattle.std.proofs.lemmas.List.{length-map}
use Rattle.server_conn.specs.Entries.{IsSized}
use Rattle.query_server.specs.Homes.{home_of}
use Rattle.query_server.proofs.generation.reopen.Goals as goal

pub entries_again-requires-clause-sized : goal.entries_again-requires-clause-sized
entries_again-requires-clause-sized g c κs within = subst (All IsSized) (sym c.entries.ensures.value) c.entries.ensures.are.sized

pub reopen-requires : goal.reopen-requires
reopen-requires g c = record {
  many = sym (length-map c.in-Ok.entries.items home_of) ∙ (ap length c.in-Ok.ensures.homes ∙ (length-map c.entries.result.now home_of
      ∙ (ap length c.entries.ensures.value ∙ c.entries.ensures.are.many)));
  sized = c.in-Ok.ensures.sized;
}
