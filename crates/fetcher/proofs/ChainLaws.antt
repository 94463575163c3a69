-- One more turn at the end of others.
use Rattle.std.proofs.Common.{ℕ, Option, List, [], ◌∷◌, ◌++◌, IfSome, refl, subst}
use Rattle.ranked_list.specs.declared.row.Row.{Row}
use Rattle.source_api.specs.Told.{HasEachOnce}
use Rattle.fetcher.specs.Chaining.{Moment, OneTurn, IsTurnOf, AreTurns, IsFetched, Point, CallTurn, AreCallTurns, MadeItsCalls}
use Rattle.fetcher.specs.Calling.{IsFetchTurn}

turns_more : (page ahead : ℕ) (list : Option (List Row)) (before mid : Moment) (turns : List OneTurn) (last : OneTurn)
    → AreTurns page ahead list before turns mid
    → IsTurnOf page ahead list mid last.next last.answer → AreTurns page ahead list before (turns ++ last ∷ []) last.next
turns_more page ahead list before mid [] last h t = (subst (λ m. IsTurnOf page ahead list m last.next last.answer) h t, refl)
turns_more page ahead list before mid (turn ∷ turns) last h t = (h.0, turns_more page ahead list turn.next mid turns last h.1 t)

pub fetched_none : (page ahead : ℕ) (list : Option (List Row)) (before : Moment) → IfSome list HasEachOnce → IsFetched page ahead list before before
fetched_none page ahead list before once = record { distinct = once; turns = []; each = refl }

pub fetched_more : (page ahead : ℕ) (list : Option (List Row)) (before mid : Moment) (last : OneTurn) → IsFetched page ahead list before mid
    → IsTurnOf page ahead list mid last.next last.answer
    → IsFetched page ahead list before last.next
fetched_more page ahead list before mid last h t = record { distinct = h.distinct; turns = h.turns ++ last ∷ []; each = turns_more page ahead list before mid h.turns last h.each t }

call_turns_more : (page ahead : ℕ) (before mid : Point) (turns : List CallTurn) (last : CallTurn) → AreCallTurns page ahead before turns mid
    → IsFetchTurn page ahead mid.calls last.next.calls mid.known last.next.known last.answer → AreCallTurns page ahead before (turns ++ last ∷ []) last.next
call_turns_more page ahead before mid [] last h t = (subst (λ (m : Point). IsFetchTurn page ahead m.calls last.next.calls m.known last.next.known last.answer) h t, refl)
call_turns_more page ahead before mid (turn ∷ turns) last h t = (h.0, call_turns_more page ahead turn.next mid turns last h.1 t)

pub calls_none : (page ahead : ℕ) (before : Point) → MadeItsCalls page ahead before before
calls_none page ahead before = record { turns = []; each = refl }

pub calls_more : (page ahead : ℕ) (before mid : Point) (last : CallTurn) → MadeItsCalls page ahead before mid
    → IsFetchTurn page ahead mid.calls last.next.calls mid.known last.next.known last.answer → MadeItsCalls page ahead before last.next
calls_more page ahead before mid last h t = record { turns = h.turns ++ last ∷ []; each = call_turns_more page ahead before mid h.turns last h.each t }
