-- What was used of the sources of a batch.
use Rattle.std.proofs.Common.{◌≡◌, ◌<◌, ◌+◌, inl, inr, ℕ, Option, List, [], ◌∷◌, ◌++◌, length, slice_index_or, sym, ap, subst, arith}
use Rattle.std.proofs.lemmas.Bool.{cases_lt}
use Rattle.std.proofs.lemmas.List.{get_or_append_left, get_or_at}
use Rattle.ranked_list.specs.declared.row.Row.{Row}
use Rattle.source_api.specs.declared.counts.Counts.{Counts}
use Rattle.source_api.specs.Calls.{Call}
use Rattle.source_state.specs.State.{State, state_at}
use Rattle.fetcher.specs.declared.slot.Slot.{Slot}
use Rattle.fetcher.specs.declared.turned.Fetched.{Fetched}
use Rattle.batch_result.specs.declared.batch.Use.{Use}
use Rattle.batch_result.specs.Batches.{use_at}
use Rattle.batch_run.specs.Slots.{SlotState, states_of, slot_at}
use Rattle.batch_run.specs.Finishing.{UsedOf}
use Rattle.batch_run.proofs.SlotLaws.{slot_is}

-- nothing was used
abbrev no_use : Use
no_use = record { rows = 0; grades = 0; want = 0; asks = 0 }

module _ {S : Type 0} (list : S → Option (List Row)) (counts : S → Counts) (calls : S → Option (List Call)) (at_hand : S → ℕ) where
  -- what was used of the sources before a place, and of the one there
  pub uses_more : (states : List State) (slots : List (Slot S)) (uses now : List Use) (source : ℕ) (d : Slot S) (used : Use) → length uses ≡ source
      → source < length slots
      → ((i : ℕ) → i < source → UsedOf (state_at states i) (slot_at (states_of list counts calls at_hand slots) i).fetched (use_at uses i))
      → UsedOf (state_at states source) (slice_index_or slots source d).fetched used → now ≡ uses ++ used ∷ []
      → (i : ℕ) → i < source + 1 → UsedOf (state_at states i) (slot_at (states_of list counts calls at_hand slots) i).fetched (use_at now i)
  uses_more states slots uses now source d used filled l before one push i m =
      subst (λ us. UsedOf (state_at states i) (slot_at (states_of list counts calls at_hand slots) i).fetched (use_at us i)) (sym push)
      (elim (cases_lt i source) [
        | inl front ↦
            subst (UsedOf (state_at states i) (slot_at (states_of list counts calls at_hand slots) i).fetched) (sym (get_or_append_left uses (used ∷ []) no_use i (omega (arith, front, filled)))) (before i front)
        | inr past ↦
            let here : source ≡ i = omega (arith, past, m) in
            let fetched : (slice_index_or slots source d).fetched ≡ (slot_at (states_of list counts calls at_hand slots) source).fetched =
            ap (λ (s : SlotState). s.fetched) (sym (slot_is list counts calls at_hand slots source d l)) in
            let there : UsedOf (state_at states source) (slot_at (states_of list counts calls at_hand slots) source).fetched (use_at (uses ++ used ∷ []) source) =
            subst (UsedOf (state_at states source) (slot_at (states_of list counts calls at_hand slots) source).fetched) (sym (get_or_at uses used [] no_use source filled))
            (subst (λ (f : Fetched). UsedOf (state_at states source) f used) fetched one) in
            subst (λ n. UsedOf (state_at states n) (slot_at (states_of list counts calls at_hand slots) n).fetched (use_at (uses ++ used ∷ []) n)) here there
      ])
