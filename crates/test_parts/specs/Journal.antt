-- What a lock remembers of a journal.
use Rattle.std.specs.Prelude.{ℕ}
use Rattle.turn_lock.specs.declared.facts.Facts.{Facts}
use Rattle.test_parts.specs.declared.journal.Journal.{Journal}

-- the facts of a journal, which counts no failures
abbrev pub facts_of : Journal → Facts ℕ
facts_of j = record {
  name = (0, 0);
  log = j.entries.items;
  asks = j.asks.items;
  mark = j.mark;
  tally = record { failed = 0; garbled = 0; memory = 0 };
  due = 0;
}
