-- Sources before any event, and queries before any access.
use Rattle.std.proofs.Common.{◌≡◌, ◌<◌, ◌≤◌, ◌+◌, ℕ, zero, suc, List, [], ◌∷◌, length, slice_index_or, All, Contains, refl, sym, ap, subst, ◌∙◌, arith, inl, inr}
use Rattle.source_state.specs.State.{State, opened, IsSound, state_at}
use Rattle.query_run.specs.declared.running_query.RunningQuery.{RunningQuery}
use Rattle.query_run.specs.Made.{opened_from, IsReadyFor, IsOf, IsFresh}
use Rattle.topk_theory.proofs.AgreementLists.{contains_nil, contains_here, contains_there, contains_cases}
use Rattle.topk_theory.proofs.Agreement.{drawn_none}
use Rattle.source_state.proofs.Lists.{none_not_some}
use Rattle.query_core.specs.declared.ready.Ready.{Ready}
use Rattle.query_core.specs.Machines.{state_of}
use Rattle.query_core.proofs.Feeding.{continues_same}
use Rattle.query_core.proofs.ListCount.{lists_counted}
use Rattle.ranked_list.proofs.RankLaws.{IsRanked-nil}
use Rattle.query_run.specs.Histories.{HasHistory}
use Rattle.query_run.specs.Inquiries.{told_to, source_needed}
use Rattle.query_run.specs.Causes.{IsCause}
use Rattle.query_run.specs.Kept.{IsSourceOf, IsServed}

pub opened_length : (first : ℕ) (counts : List ℕ) → length (opened_from first counts) ≡ length counts
opened_length first [] = refl
opened_length first (count ∷ counts) = let rest = opened_length (first + 1) counts in omega (arith, rest)

-- a state before any event is sound
pub opened_sound : (list count : ℕ) → count ≤ 200000 → IsSound (opened list count)
opened_sound list count small = record {
  log = record {
    ranked = IsRanked-nil;
    fits = omega arith;
    good = λ k d l. absurd (omega (arith, l));
    once = λ i j d l m. absurd (omega (arith, m));
    asked = λ object c. absurd (contains_nil object c);
    one_fault = omega arith;
  };
  distinct = λ i j d l m. absurd (omega (arith, m));
  fits = omega arith;
  small = small;
  want = omega arith;
  tally = record { failed = omega arith; garbled = omega arith; memory = omega arith };
}

-- and of a history without events
pub opened_history : (list count : ℕ) → HasHistory (opened list count)
opened_history list count = record { events = []; may = tt; told = refl }

pub opened_member : (first : ℕ) (counts : List ℕ) (s : State) → Contains (opened_from first counts) s
    → (list : ℕ) × (count : ℕ) × Contains counts count × (opened list count ≡ s)
opened_member first [] s c = absurd (contains_nil s c)
opened_member first (count ∷ counts) s c =
    elim (contains_cases (opened first count) (opened_from (first + 1) counts) s c) [
      | inl same ↦ (first, count, contains_here count counts, same)
      | inr there ↦ let rest = opened_member (first + 1) counts s there in (rest.0, rest.1, contains_there count counts rest.1 rest.2, rest.3)
    ]

opened_at : (first : ℕ) (counts : List ℕ) (source : ℕ) → source < length counts
    → (state_at (opened_from first counts) source).count ≡ slice_index_or counts source 0
opened_at first [] source l = absurd (omega (arith, l))
opened_at first (count ∷ counts) zero l = refl
opened_at first (count ∷ counts) (suc source) l = opened_at (first + 1) counts source (omega (arith, l))

pub fresh_served : (counts : List ℕ) (ready : Ready) (q : RunningQuery) → IsReadyFor counts ready → IsFresh ready q → IsServed (opened_from 0 counts) q
fresh_served counts ready q for fresh =
    let t = state_of q.machine in
    let begun = fresh.machine.begun in
    record {
      sources = record {
        many = ap (length {A = ℕ}) fresh.sources ∙ for.is.sources ∙ sym (lists_counted ready.query for.is.lawful) ∙ sym begun.lists;
        each = subst (All (IsSourceOf (opened_from 0 counts) t.log.count)) (sym fresh.sources)
            (λ k d l.
            let is = for.sources k d l in
            let long = opened_length 0 counts in
            (omega (arith, is.0, long), opened_at 0 counts (slice_index_or ready.sources.items k d) is.0 ∙ is.1 ∙ sym begun.count));
      };
      run = fresh.run;
      drawn = record {
        drawn = subst (λ A. Rattle.topk_theory.specs.Transcript.IsDrawn t.log.lists (told_to (opened_from 0 counts) q) A) (sym begun.none) (drawn_none t.log.lists (told_to (opened_from 0 counts) q));
        roomy = subst (λ A. length (Rattle.topk_theory.specs.Transcript.seen_objects A) ≤ t.room) (sym begun.none) (omega arith);
      };
      waits = λ n e. absurd (none_not_some (sym fresh.waits ∙ e));
      cause = subst (λ o. IsCause (state_at (opened_from 0 counts) (source_needed q)) t q.waiting.noted o) (sym fresh.refusal) tt;
    }

pub fresh_of : (ready : Ready) (q : RunningQuery) → IsFresh ready q → IsOf ready q
fresh_of ready q fresh = record { is = fresh.is; first = state_of q.machine; begun = fresh.machine.begun; goes = continues_same (state_of q.machine); method = fresh.machine.method; sources = fresh.sources }
