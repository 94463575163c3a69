use Rattle.source_state.proofs.Counting.{tally_stays, untold_full}
use Rattle.source_state.proofs.laws.full_counts_stand_still.Goals as goal

pub returns-clause-stays : goal.returns-clause-stays
returns-clause-stays c = λ s what full. tally_stays what s.tally full

pub returns-clause-untold : goal.returns-clause-untold
returns-clause-untold c = λ waiting need now what counted full e. untold_full waiting need now what counted full e
