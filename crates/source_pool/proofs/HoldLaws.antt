-- What a pass of a pool holds after a change of what it holds of one source.
use Rattle.std.proofs.Common.{◌≡◌, ◌<◌, inl, inr, ℕ, List, length, set, sym, subst, ◌∙◌, length-set}
use Rattle.std.proofs.lemmas.List.{get_or-set_same, get_or-set_other}
use Rattle.std.proofs.lemmas.Bool.Decides.{eqb_tells}
use Rattle.atomic_table.specs.Seated.{TableId}
use Rattle.source_pool.specs.declared.hold.Hold.{Hold}
use Rattle.source_pool.specs.Holds.{no_hold, IsFree}
use Rattle.source_state.specs.State.{IsSound}
use Rattle.source_pool.specs.Seen.{state_seen}
use Rattle.source_pool.specs.Remembering.{Remembers}
use Rattle.source_pool.specs.Passes.{lock_at, hold_at, IsPassOf, OthersStay}

pub read_set : (holds : List Hold) (source : ℕ) (hold : Hold) → source < length holds → hold_at (set holds source hold) source ≡ hold
read_set holds source hold within = get_or-set_same holds source hold no_hold within

pub others_set : (holds : List Hold) (source : ℕ) (hold : Hold) → OthersStay source holds (set holds source hold)
others_set holds source hold = record { stay = λ other apart. get_or-set_other holds source other hold no_hold apart }

pub pass_set : (pool : List TableId) (holds : List Hold) (source : ℕ) (hold : Hold) → IsPassOf pool holds → source < length pool
    → IsFree (lock_at pool source) hold.pass → IsSound (state_seen hold.pass.1) → Remembers hold.pass.1.seen hold.remembered
    → IsPassOf pool (set holds source hold)
pass_set pool holds source hold h within free sound remembers = record {
  size = length-set holds source hold ∙ h.size;
  each = λ other lt. elim (eqb_tells other source) [
    | inl same ↦ subst (λ s. IsFree (lock_at pool s) (hold_at (set holds source hold) s).pass) (sym same.1)
        (subst (λ (one : Hold). IsFree (lock_at pool source) one.pass) (sym (read_set holds source hold (subst (λ n. source < n) (sym h.size) within))) free)
    | inr apart ↦ subst (λ (one : Hold). IsFree (lock_at pool other) one.pass) (sym (get_or-set_other holds source other hold no_hold apart.1)) (h.each other lt)
  ];
  sound = λ other lt. elim (eqb_tells other source) [
    | inl same ↦ subst (λ s. IsSound (state_seen (hold_at (set holds source hold) s).pass.1)) (sym same.1)
        (subst (λ (one : Hold). IsSound (state_seen one.pass.1)) (sym (read_set holds source hold (subst (λ n. source < n) (sym h.size) within))) sound)
    | inr apart ↦ subst (λ (one : Hold). IsSound (state_seen one.pass.1)) (sym (get_or-set_other holds source other hold no_hold apart.1)) (h.sound other lt)
  ];
  remembers = λ other lt. elim (eqb_tells other source) [
    | inl same ↦ subst (λ s. Remembers (hold_at (set holds source hold) s).pass.1.seen (hold_at (set holds source hold) s).remembered) (sym same.1)
        (subst (λ (one : Hold). Remembers one.pass.1.seen one.remembered) (sym (read_set holds source hold (subst (λ n. source < n) (sym h.size) within))) remembers)
    | inr apart ↦ subst (λ (one : Hold). Remembers one.pass.1.seen one.remembered) (sym (get_or-set_other holds source other hold no_hold apart.1))
        (h.remembers other lt)
  ];
}
