-- Lines may be answered over the pool of two sources that was opened.
use Rattle.std.proofs.Common.{◌≡◌, ◌∷◌, [], List, All, length, sym, subst, ap, arith}
use Rattle.std.proofs.lemmas.List.Elements.{All-from_recursion}
use Rattle.source_pool.specs.declared.hold.Hold.{Hold}
use Rattle.query_run.specs.Advancing.{IsSourceIn}
use Rattle.query_run.proofs.Opening.{opened_rests}
use Rattle.catalog_text.specs.Catalog.{Listed as Entry}
use Rattle.server_conn.specs.declared.opened.OpenedEntry.{OpenedEntry}
use Rattle.server_conn.specs.Entries.{Openings, IsSized, AreEntriesOf, IsThere, MayAnswer}
use Rattle.test_query_support.specs.declared.pair.Pair.{Pair}
use Rattle.test_query_support.specs.Pairs.{IsPair}
use Rattle.test_server.specs.Four.{four_entries}

pub are_entries : (catalog : List Entry) (entries : List OpenedEntry) → length catalog ≡ 4 → entries ≡ four_entries → AreEntriesOf catalog entries
are_entries catalog entries four is = subst (AreEntriesOf catalog) (sym is) (record {
  many = sym four;
  sized = All-from_recursion IsSized four_entries (omega arith, (omega arith, (tt, (omega arith, tt))));
})

first_there : (pair : Pair) → IsPair 3 pair → IsSourceIn pair.pass 3 0
first_there pair is =
    let size = is.opened.size in
    let long = is.opened.pass.size in
    (omega (arith, size, long), ap (λ (hold : Hold). hold.pass.1.name.1) (is.opened.held 0 (omega arith)))

second_there : (pair : Pair) → IsPair 3 pair → IsSourceIn pair.pass 3 1
second_there pair is =
    let size = is.opened.size in
    let long = is.opened.pass.size in
    (omega (arith, size, long), ap (λ (hold : Hold). hold.pass.1.name.1) (is.opened.held 1 (omega arith)))

pub may_answer : (o : Openings) (pair : Pair) → o.entries ≡ four_entries → IsPair 3 pair → MayAnswer o pair.pool pair.pass
may_answer o pair four is = record {
  own = is.opened.pass;
  rests = opened_rests (3 ∷ 3 ∷ []) pair.pool pair.pass is.feeds is.opened;
  sources = subst (All (IsThere pair.pass)) (sym four)
      (All-from_recursion (IsThere pair.pass) four_entries (first_there pair is, (second_there pair is, (tt, (tt, tt)))));
}
