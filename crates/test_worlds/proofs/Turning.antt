-- What a step does: an event of a source, and the turn of the query of a number.
use Rattle.std.proofs.Common.{◌≡◌, ℕ, Option, Some, None, List, slice_get, slice_index_or, refl, ap, subst, ◌∙◌}
use Rattle.std.specs.List.{slice_set}
use Rattle.topk_theory.proofs.AgreementLists.{slice_get_reads}
use Rattle.source_state.specs.State.{State}
use Rattle.source_state.specs.declared.event.Event.{Event}
use Rattle.query_run.specs.declared.running_query.RunningQuery.{RunningQuery}
use Rattle.test_worlds.specs.Worlds.{world_of}
use Rattle.query_run.specs.Turns.{Turns}
use Rattle.test_worlds.specs.Steps.{with_event, IsOpen, TakesTurn}

-- an event of a source
pub take_event : (states laters : List State) (queries : List RunningQuery) (source : ℕ) (e : Event) → laters ≡ with_event states source e
    → world_of laters queries ≡ world_of (with_event states source e) queries
take_event states laters queries source e is = ap (λ ss. world_of ss queries) is

-- the turn of the query of a number
pub take_turn : (states laters : List State) (queries : List RunningQuery) (query : ℕ) (q r : RunningQuery) → IsOpen (slice_get queries query)
    → q ≡ slice_index_or queries query q → Turns states laters q r → TakesTurn query (world_of states queries) (world_of laters (slice_set queries query r))
take_turn states laters queries query q r going is turns = by_get (slice_get queries query) refl going
  where
    by_get : (o : Option RunningQuery) → slice_get queries query ≡ o → IsOpen o
        → TakesTurn query (world_of states queries) (world_of laters (slice_set queries query r))
    by_get None e none = absurd none
    by_get (Some p) e more =
        let here : q ≡ p = is ∙ slice_get_reads queries query p q e in
        record { q = p; r = r; is = e; turns = subst (λ x. Turns states laters x r) here turns; others = refl }
