-- What a turn may change of the facts of a value, and what it keeps.
use Rattle.std.specs.Prelude.{◌≡◌, ◌≤◌, List, ◌++◌}
use Rattle.turn_lock.specs.declared.facts.Tally.{Tally}
use Rattle.turn_lock.specs.declared.facts.Facts.{Facts}

-- the longer list begins with the shorter one
pub record IsFrontOf {A : Type 0} (shorter longer : List A) : Type 0 where
  pub rest : List A
  pub goes_on : longer ≡ shorter ++ rest

-- no number of the first tally is greater than the second's
pub record AtMost (less more : Tally) : Type 0 where
  pub failed : less.failed ≤ more.failed
  pub garbled : less.garbled ≤ more.garbled
  pub memory : less.memory ≤ more.memory

-- what a turn may do: the log and the asks go on, the mark and the tally don't fall, and the name stays
pub record FactsGrow {E : Type 0} (before after : Facts E) : Type 0 where
  pub name : after.name ≡ before.name
  pub log : IsFrontOf before.log after.log
  pub asks : IsFrontOf before.asks after.asks
  pub mark : before.mark ≤ after.mark
  pub tally : AtMost before.tally after.tally

-- what a turn that isn't the writer's keeps: the log and the tally
pub record AreFactsKept {E : Type 0} (before after : Facts E) : Type 0 where
  pub log : after.log ≡ before.log
  pub tally : after.tally ≡ before.tally
