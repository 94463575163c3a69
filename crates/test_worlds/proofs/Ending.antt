-- How the queries of a world end.
use Rattle.std.proofs.Common.{List, [], ◌∷◌, Contains}
use Rattle.std.specs.List.{AllZip}
use Rattle.topk_theory.proofs.AgreementLists.{contains_here, contains_there, member_of_all}
use Rattle.source_state.specs.State.{State}
use Rattle.query_core.specs.declared.ready.Ready.{Ready}
use Rattle.query_run.specs.declared.ended.Ended.{Ended}
use Rattle.query_run.specs.declared.running_query.RunningQuery.{RunningQuery}
use Rattle.test_worlds.specs.Worlds.{WorldState}
use Rattle.query_run.specs.Kept.{IsServed}
use Rattle.test_worlds.specs.Kept.{IsWorld}
use Rattle.query_run.specs.Made.{IsOf}
use Rattle.test_worlds.specs.Made.{AreOf}
use Rattle.query_run.specs.Endings.{EndsAs, IsRight}
use Rattle.query_run.proofs.Ending.{right}

all_right : (states : List State) (readies : List Ready) (queries : List RunningQuery) (endings : List Ended)
    → ((q : RunningQuery) → Contains queries q → IsServed states q) → AllZip IsOf readies queries → AllZip EndsAs queries endings → AllZip IsRight readies endings
all_right states [] [] [] h are ends = tt
all_right states [] [] (e ∷ endings) h are ends = absurd ends
all_right states [] (q ∷ queries) endings h are ends = absurd are
all_right states (ready ∷ readies) [] endings h are ends = absurd are
all_right states (ready ∷ readies) (q ∷ queries) [] h are ends = absurd ends
all_right states (ready ∷ readies) (q ∷ queries) (e ∷ endings) h are ends =
    (right states ready q e (h q (contains_here q queries)) are.0 ends.0, all_right states readies queries endings (λ r c. h r (contains_there q queries r c)) are.1 ends.1)

pub ended_right : (readies : List Ready) (w : WorldState) (endings : List Ended) → IsWorld w → AreOf readies w → AllZip EndsAs w.queries endings
    → AllZip IsRight readies endings
ended_right readies w endings h are ends = all_right w.states readies w.queries endings (λ q c. member_of_all (IsServed w.states) w.queries q h.queries c) are ends
