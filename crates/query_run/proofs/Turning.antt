-- From what the calls of a turn promise to the turn.
use Rattle.std.proofs.Common.{◌≡◌, ◌<◌, ℕ, false, Option, Some, None, List, length, slice_index_or, All, sym, ap, subst, ◌∙◌}
use Rattle.std.specs.List.{slice_set}
use Rattle.std.proofs.lemmas.List.{get_or_read}
use Rattle.ranked_list.specs.declared.row.Row.{Row}
use Rattle.ranked_list.specs.declared.need.Need.{Need}
use Rattle.source_state.specs.declared.look.Waiting.{Waiting}
use Rattle.source_state.specs.declared.look.Look.{Look}
use Rattle.source_state.specs.declared.look.Look.TheVariants as look
use Rattle.source_state.specs.State.{State, opened, IsSound, state_at}
use Rattle.source_state.specs.Looking.{Looks}
use Rattle.query_core.specs.declared.machine.Machine.{Machine}
use Rattle.query_core.specs.Machines.{method_of, state_of, MakesItsRun}
use Rattle.query_run.specs.declared.ended.Refusal.{Refusal}
use Rattle.query_run.specs.declared.ended.Refusal.TheVariants as refusal
use Rattle.query_run.specs.declared.running_query.RunningQuery.{RunningQuery}
use Rattle.query_run.specs.Inquiries.{needed, list_needed, source_needed, is_ended}
use Rattle.query_run.specs.Turns.{MayFeed, RowTaken, Answers, Turns}
use Rattle.query_run.specs.Kept.{IsServed}
use Rattle.query_run.proofs.Serving.{listed, source_there, open_parts, may_feed}

-- a member that was read is read at any other default
read_at : {X : Type 0} (xs : List X) (i : ℕ) (x d : X) → i < length xs → x ≡ slice_index_or xs i x → slice_index_or xs i x ≡ slice_index_or xs i d
read_at xs i x d l is = sym is ∙ get_or_read xs i x l is d

-- the source that is looked at is that of what is needed, and the look is one for that
pub record IsLooked (states : List State) (q : RunningQuery) (u : State) (left : Waiting) (answer : Look) (source : ℕ) : Type 0 where
  pub source_is : source ≡ source_needed q
  pub looks : Looks (needed q) (state_at states (source_needed q)) u q.waiting left answer

looked : (states : List State) (q : RunningQuery) (u : State) (left : Waiting) (answer : Look) (n : Need) (place source : ℕ) (s : State) → IsServed states q
    → is_ended q ≡ false → n ≡ needed q → place ≡ list_needed n
    → source ≡ slice_index_or q.sources.items place source → s ≡ slice_index_or states source s → Looks n s u q.waiting left answer → IsLooked states q u left answer source
looked states q u left answer n place source s h going need list read at looks =
    let more = (open_parts q going).1 in
    let place_is : place ≡ list_needed (needed q) = list ∙ ap list_needed need in
    let within = listed states q h.sources h.run more in
    let here : place < length q.sources.items = subst (λ p. p < length q.sources.items) (sym place_is) within in
    let source_is : source ≡ source_needed q = read ∙ read_at q.sources.items place source 0 here read ∙ ap (λ p. slice_index_or q.sources.items p 0) place_is in
    let there = (source_there states q h.sources h.run more).0 in
    let long : source < length states = subst (λ p. p < length states) (sym source_is) there in
    let state_is : s ≡ state_at states (source_needed q) = get_or_read states source s long at (opened 0 0) ∙ ap (state_at states) source_is in
    record {
      source_is = source_is;
      looks = subst (λ t. Looks (needed q) t u q.waiting left answer) state_is (subst (λ m. Looks m s u q.waiting left answer) need looks);
    }

pub turn_may : (states : List State) (q : RunningQuery) (u : State) (left : Waiting) (answer : Look) (n : Need) (place source : ℕ) (s : State) → IsServed states q
    → is_ended q ≡ false → All IsSound states → n ≡ needed q → place ≡ list_needed n
    → source ≡ slice_index_or q.sources.items place source → s ≡ slice_index_or states source s → Looks n s u q.waiting left answer → MayFeed (state_of q.machine) answer
turn_may states q u left answer n place source s h going sound need list read at looks =
    may_feed states q u left answer sound h (looked states q u left answer n place source s h going need list read at looks).looks

-- what a query makes of an answer rests on its machine alone
row_same : (row : Row) (p q r : RunningQuery) (refused : Option Refusal) → p.machine ≡ q.machine → RowTaken row p r refused → RowTaken row q r refused
row_same row p q r None same h = subst (λ m. Rattle.machine_base.specs.Machine.RowFed row (state_of m) (state_of r.machine) {A = Unit {0}} (Rattle.std.proofs.Common.Ok tt)) same h
row_same row p q r (Some (refusal.Core fault)) same h = subst (λ m. Rattle.machine_base.specs.Machine.RowFed row (state_of m) (state_of r.machine) {A = Unit {0}} (Rattle.std.proofs.Common.Err fault)) same h
row_same row p q r (Some (refusal.Look list fault)) same h = h

answers_same : (p q r : RunningQuery) (answer : Look) → p.machine ≡ q.machine → Answers p r answer → Answers q r answer
answers_same p q r (look.Row row) same h = row_same row p q r r.refusal same h
answers_same p q r (look.Grade grade) same h = (h.0, subst (λ m. Rattle.machine_base.specs.Machine.Takes (Rattle.machine_base.specs.Machine.grade_access (state_of m).need grade) (state_of m) (state_of r.machine)) same h.1)
answers_same p q r look.NotYet same h = (h.0, h.1 ∙ same)
answers_same p q r (look.Fault fault) same h = (h.0 ∙ ap (λ (m : Machine). Some (refusal.Look (list_needed (state_of m).need) fault)) same, h.1 ∙ same)

pub turn_made : (states : List State) (q r : RunningQuery) (u : State) (left : Waiting) (answer : Look) (n : Need) (place source : ℕ) (s : State) (p : RunningQuery)
    → IsServed states q → is_ended q ≡ false → n ≡ needed q → place ≡ list_needed n
    → source ≡ slice_index_or q.sources.items place source → s ≡ slice_index_or states source s → Looks n s u q.waiting left answer
    → p.machine ≡ q.machine → Answers p r answer → MakesItsRun r.machine → method_of r.machine ≡ method_of q.machine → r.sources.items ≡ q.sources.items → r.waiting ≡ left → Turns states (slice_set states source u) q r
turn_made states q r u left answer n place source s p h going need list read at looks same answers run algorithm sources waiting =
    let is = looked states q u left answer n place source s h going need list read at looks in
    record {
      answer = answer;
      state = u;
      looks = subst (λ w. Looks (needed q) (state_at states (source_needed q)) u q.waiting w answer) (sym waiting) is.looks;
      others = ap (λ k. slice_set states k u) is.source_is;
      sources = sources;
      same = algorithm;
      run = run;
      answers = answers_same p q r answer same answers;
    }
