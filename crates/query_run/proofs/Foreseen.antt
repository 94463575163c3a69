-- What is asked of each list ahead.
use Rattle.std.proofs.Common.{◌≡◌, ◌<◌, ◌≤◌, ◌+◌, inl, inr, ℕ, Bool, MatchBool, true, false, List, refl, sym, subst, ◌∙◌, arith}
use Rattle.std.proofs.lemmas.Bool.{cases_lt}
use Rattle.ranked_list.specs.declared.need.Need.{Need}
use Rattle.source_pool.specs.declared.hold.Hold.{Hold}
use Rattle.source_pool.specs.Passes.{hold_at, OthersStay}
use Rattle.source_pool.specs.Looks.{AsksAhead}
use Rattle.query_core.specs.Machines.{IsLeftFor}
use Rattle.query_run.specs.declared.running_query.RunningQuery.{RunningQuery}
use Rattle.query_run.specs.Inquiries.{source_of, is_done}
use Rattle.query_run.specs.Looking.{LooksAhead}
use Rattle.query_run.specs.Prefetching.{IsForeseen, ForeseesIfFar, HasForeseenList, HasPrefetchedBelow}
use Rattle.query_run.proofs.Ahead.{ahead_none, ahead_on}

-- what was said of a source is said of the list's source
said_of : (says : ℕ → Bool → Type 0) (source at : ℕ) (far is : Bool) → source ≡ at → far ≡ is → says source far → says at is
said_of says source at far is here same said = subst (λ s. says s is) here (subst (says source) same said)

-- a source that isn't far
pub near_list : (says : ℕ → Bool → Type 0) (holds : List Hold) (q : RunningQuery) (list source : ℕ) (far : Bool) → source ≡ source_of q list → far ≡ false → says source far
    → ForeseesIfFar says q list holds holds
near_list says holds q list source far here near said = record { far = false; said = said_of says source (source_of q list) far false here near said; asked = refl }

-- a list of which nothing is left
pub nothing_left : (says : ℕ → Bool → Type 0) (holds : List Hold) (q : RunningQuery) (list source : ℕ) (far : Bool) (n : Need) → source ≡ source_of q list → far ≡ true → says source far
    → IsLeftFor q.machine list n → is_done n ≡ true → ForeseesIfFar says q list holds holds
nothing_left says holds q list source far n here is said left done = record {
  far = true;
  said = said_of says source (source_of q list) far true here is said;
  asked = record {
    need = n;
    left = left;
    asked = subst (λ b. MatchBool b (holds ≡ holds) (IsForeseen n (source_of q list) holds holds)) (sym done) refl;
  };
}

-- a turn that asks for what is left
pub asked_for_left : (says : ℕ → Bool → Type 0) (before after : List Hold) (q : RunningQuery) (list source : ℕ) (far : Bool) (n : Need) (missing : Bool) → source ≡ source_of q list → far ≡ true
    → says source far → IsLeftFor q.machine list n → is_done n ≡ false → AsksAhead n (hold_at before source) (hold_at after source) missing → OthersStay source before after
    → ForeseesIfFar says q list before after
asked_for_left says before after q list source far n missing here is said left going asks others =
    let turn : IsForeseen n source before after = record { missing = missing; asks = asks; others = others } in
    record {
      far = true;
      said = said_of says source (source_of q list) far true here is said;
      asked = record {
        need = n;
        left = left;
        asked = subst (λ b. MatchBool b (after ≡ before) (IsForeseen n (source_of q list) before after)) (sym going) (subst (λ s. IsForeseen n s before after) here turn);
      };
    }

-- of no list
pub below_none : (says : ℕ → Bool → Type 0) (q : RunningQuery) (needed : ℕ) (holds : List Hold) → HasPrefetchedBelow says q 0 needed holds holds
below_none says q needed holds = record { each = λ list l other. absurd (omega (arith, l)) }

-- one list more, which is the needed one
pub below_needed : (says : ℕ → Bool → Type 0) (q : RunningQuery) (lists needed : ℕ) (before now : List Hold) → lists ≡ needed → HasPrefetchedBelow says q lists needed before now
    → HasPrefetchedBelow says q (lists + 1) needed before now
below_needed says q lists needed before now here h = record {
  each = λ list l other. elim (cases_lt list lists) [
    | inl low ↦ h.each list low other
    | inr high ↦ absurd (other (omega (arith, l, high, here)))
  ];
}

-- one list more, after a look ahead of it
listed_on : (says : ℕ → Bool → Type 0) (q : RunningQuery) (list : ℕ) (before now after : List Hold) → LooksAhead now after q → HasForeseenList says q list before now
    → HasForeseenList says q list before after
listed_on says q list before now after a h = record { first = h.first; last = h.last; earlier = h.earlier; asks = h.asks; later = ahead_on h.last now after q h.later a }

pub below_next : (says : ℕ → Bool → Type 0) (q : RunningQuery) (lists needed : ℕ) (before now after : List Hold) → LooksAhead before now q → ForeseesIfFar says q lists now after
    → LooksAhead now after q → HasPrefetchedBelow says q lists needed before now → HasPrefetchedBelow says q (lists + 1) needed before after
below_next says q lists needed before now after earlier asks later h = record {
  each = λ list l other. elim (cases_lt list lists) [
    | inl low ↦ listed_on says q list before now after later (h.each list low other)
    | inr high ↦
        let here : lists ≡ list = omega (arith, l, high) in
        subst (λ k. HasForeseenList says q k before after) here
        (record { first = now; last = after; earlier = earlier; asks = asks; later = ahead_none after q })
  ];
}

-- once each list was gone through
pub below_all : (says : ℕ → Bool → Type 0) (q : RunningQuery) (gone lists at needed : ℕ) (before after : List Hold) → lists ≤ gone → at ≡ needed → HasPrefetchedBelow says q gone at before after
    → HasPrefetchedBelow says q lists needed before after
below_all says q gone lists at needed before after most same h = record { each = λ list l other. h.each list (omega (arith, l, most)) (λ e. other (e ∙ same)) }
