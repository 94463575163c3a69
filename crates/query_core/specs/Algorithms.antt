-- What differs from algorithm to algorithm: a further one adds a line to each of these.
use Rattle.std.specs.Prelude.{ℕ, Bool, true, false, List}
use Rattle.topk_theory.specs.declared.access.Access.{Access}
use Rattle.topk_theory.specs.Asked.{Asked, Run, Answering, threshold_run, threshold_answer, no_random_run, no_random_answer, combined_run, combined_answer}
use Rattle.algorithm_theory.specs.Optimal.{IsNearBest, IsNearShallowest}
use Rattle.algorithm_theory.specs.Fagin.{fagin_run, fagin_answer, IsNoShallower}
use Rattle.algorithm_theory.specs.Nearby.{within_run, within_answer, early_stopped_run, early_stopped_answer}
use Rattle.algorithm_theory.specs.Restricted.{restricted_run, restricted_answer, IsNearBestIn}
use Rattle.restricted_core.specs.Lists.{reads}
use Rattle.query_text.specs.declared.algorithm.Algorithm.{Algorithm}
use Rattle.query_text.specs.declared.algorithm.Algorithm.TheVariants.{Ta, Nra, Ca, Fa, Theta, Early, Taz}

-- the algorithm makes random accesses
abbrev pub asks_grades : Algorithm → Bool
asks_grades Ta = true
asks_grades Nra = false
asks_grades Ca = true
asks_grades Fa = true
asks_grades (Theta p q) = true
asks_grades (Early depth) = true
asks_grades Taz = true

-- the accesses that an algorithm makes of what it is asked and a table, and the items that it answers; only the threshold algorithm over
-- restricted lists looks at which lists can be read in order, the others read all
abbrev pub run_by : Algorithm → List Bool → Run
run_by Ta sorted = threshold_run
run_by Nra sorted = no_random_run
run_by Ca sorted = combined_run
run_by Fa sorted = fagin_run
run_by (Theta p q) sorted = within_run (record { p = p; q = q })
run_by (Early depth) sorted = early_stopped_run depth
run_by Taz sorted = restricted_run (reads sorted)

abbrev pub items_by : Algorithm → List Bool → Answering
items_by Ta sorted = threshold_answer
items_by Nra sorted = no_random_answer
items_by Ca sorted = combined_answer
items_by Fa sorted = fagin_answer
items_by (Theta p q) sorted = within_answer (record { p = p; q = q })
items_by (Early depth) sorted = early_stopped_answer depth
items_by Taz sorted = restricted_answer (reads sorted)

-- how near the best an algorithm's transcript is, over m lists of n objects, on every table that agrees with it: of the threshold algorithm
-- its depth is at most the objects that a tame transcript which fixes an answer there sees, and k more, and its cost within a factor; over
-- restricted lists its depth is at most that, where the other one reads no other lists in order either; without random access its depth is
-- at most that of each transcript which does so, or k; of Fagin's algorithm the threshold algorithm stops no deeper; of the combined
-- algorithm, and of one that stops within a factor or early, nothing is said
abbrev pub IsNearBy : Algorithm → List Bool → Asked → ℕ → ℕ → List Access → Type 0
IsNearBy Ta sorted asked m n A = IsNearBest asked.value asked.k m n asked.costs.sorted asked.costs.random A
IsNearBy Nra sorted asked m n A = IsNearShallowest asked.value asked.k m n A
IsNearBy Ca sorted asked m n A = Unit {0}
IsNearBy Fa sorted asked m n A = IsNoShallower asked.value asked.k m n A
IsNearBy (Theta p q) sorted asked m n A = Unit {0}
IsNearBy (Early depth) sorted asked m n A = Unit {0}
IsNearBy Taz sorted asked m n A = IsNearBestIn asked.value asked.k m n (reads sorted) A
