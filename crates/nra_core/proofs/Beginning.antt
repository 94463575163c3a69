-- Before any access.
use Rattle.std.proofs.Common.{◌≡◌, ◌≤◌, ℕ, true, false, min, List, [], Option, Some, None, replicate, slice_get, refl, sym, ◌∙◌, subst, arith}
use Rattle.std.proofs.lemmas.List.{length-replicate}
use Rattle.std.proofs.lemmas.Option.{none-some, slice_get_past}
use Rattle.containers.proofs.Within.{none_ranked}
use Rattle.containers.specs.declared.slots.Entry.{Entry}
use Rattle.containers.specs.Slots.{Slots}
use Rattle.topk_theory.specs.Bounds.{low, high}
use Rattle.topk_theory.proofs.AgreementLists.{contains_nil}
use Rattle.nra_core.specs.Late.{KeepsCandidates}
use Rattle.monotone_fn.specs.Tree.{Tree}
use Rattle.monotone_fn.specs.Value.{value}
use Rattle.nra_core.specs.LatePlaces.{IsLate, IsLateAfter, is_first, is_candidate}

least_of_none : (k : ℕ) → 0 ≡ min k 0
least_of_none k = omega arith

no_slot : (slot : ℕ) (entry : Entry) → slice_get [] slot ≡ Some entry → ⊥
no_slot slot entry at = none-some entry (sym (slice_get_past [] slot (omega arith)) ∙ at)

keeps_none : (low high : ℕ → ℕ) (k room : ℕ) → KeepsCandidates k low high [] (is_first [] []) (is_candidate [] (replicate room None))
keeps_none low high k room = record {
  first = record {
    sized = least_of_none k;
    held = λ object is. let bad : false ≡ true = is in absurd cc;
    greatest = λ inside outside is seen out. absurd (contains_nil outside seen);
  };
  apart = λ object is. let bad : false ≡ true = is in absurd cc;
  given_up = λ inside outside is seen out no. absurd (contains_nil outside seen);
}

late_before : (V : List ℕ → ℕ) (k m room : ℕ) → 1 ≤ k
    → IsLate V k m [] (record { most = k; room = room; entries = [] }) (replicate room None)
late_before V k m room asked = record {
  asked = asked;
  most = refl;
  room = length-replicate room None;
  fits = omega arith;
  full = least_of_none k;
  keeps = keeps_none (low V m []) (high V m []) k room;
  distinct = λ one other a b at_one at_other same. absurd (no_slot one a at_one);
  places = λ slot entry at. absurd (no_slot slot entry at);
  lows = λ slot object entry at seen. absurd (no_slot slot entry at);
  waiting = λ place kept at. absurd (none-some kept (sym (none_ranked {T = ℕ} room place) ∙ at));
  highs = λ place object kept at seen. absurd (none-some kept (sym (none_ranked {T = ℕ} room place) ∙ at));
}

pub late_at_first : (e : Tree) (k m room : ℕ) (first : Slots) (candidates : List (Option ℕ)) → 1 ≤ k
    → first ≡ record { most = k; room = room; entries = [] } → candidates ≡ replicate room None
    → IsLateAfter e m [] (record { k = k; seen = 0; first = first; candidates = candidates })
late_at_first e k m room first candidates asked first_is candidates_are = record {
  seen = refl;
  kept =
      subst (λ (s : Slots). IsLate (value e) k m [] s candidates) (sym first_is)
      (subst (λ (c : List (Option ℕ)). IsLate (value e) k m [] (record { most = k; room = room; entries = [] }) c) (sym candidates_are) (late_before (value e) k m room asked));
}
