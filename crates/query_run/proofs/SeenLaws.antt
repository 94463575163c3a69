-- What a pass saw, as states; and what is told by logs that go on.
use Rattle.std.proofs.Common.{◌≡◌, ℕ, zero, suc, List, [], ◌∷◌, length, map, slice_index_or, Contains, refl, sym, subst}
use Rattle.std.proofs.lemmas.List.{length-map}
use Rattle.turn_lock.specs.Facts.{IsFrontOf}
use Rattle.topk_theory.specs.Transcript as transcript
use Rattle.topk_theory.specs.Transcript.{Grows, list_at}
use Rattle.source_state.specs.Log.{rows_in}
use Rattle.source_state.specs.State.{State, state_at}
use Rattle.source_state.specs.Drawing.{told_by}
use Rattle.source_pool.specs.declared.hold.Hold.{Hold}
use Rattle.source_pool.specs.Passes.{hold_at}
use Rattle.query_run.specs.Inquiries.{logs_of}
use Rattle.query_run.proofs.Causes.{rows_begin, known_more}
use Rattle.query_run.proofs.Serving.{rows_told, known_told}
use Rattle.source_pool.specs.Seen.{state_seen}
use Rattle.query_run.specs.Seen.{states_seen}

-- the state of a source, as its pass saw it
pub state_is : (holds : List Hold) (source : ℕ) → state_at (states_seen holds) source ≡ state_seen (hold_at holds source).pass.1
state_is [] source = refl
state_is (hold ∷ holds) zero = refl
state_is (hold ∷ holds) (suc source) = state_is holds source

pub seen_long : (holds : List Hold) → length (states_seen holds) ≡ length holds
seen_long holds = length-map holds (λ (hold : Hold). state_seen hold.pass.1)

-- where the log of each source goes on, more is told
pub told_goes : (states laters : List State) (sources : List ℕ)
    → ((source : ℕ) → IsFrontOf (state_at states source).log (state_at laters source).log)
    → Grows (length sources) (told_by (logs_of states sources)) (told_by (logs_of laters sources))
told_goes states laters sources on = record {
  rows = λ list l.
      let source = slice_index_or sources list 0 in
      subst (λ rows. transcript.Begins rows (list_at (map rows_in (logs_of laters sources)) list)) (sym (rows_told states sources list l))
      (subst (transcript.Begins (rows_in (state_at states source).log)) (sym (rows_told laters sources list l))
      (rows_begin (state_at states source).log (state_at laters source).log (on source)));
  known = λ list l row c.
      let source = slice_index_or sources list 0 in
      subst (λ rows. Contains rows row) (sym (known_told laters sources list l))
      (known_more (state_at states source).log (state_at laters source).log row (on source)
      (subst (λ rows. Contains rows row) (known_told states sources list l) c));
}
