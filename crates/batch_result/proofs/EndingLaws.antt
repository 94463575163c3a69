-- Where sources tell tables and no call fails, each query of a batch ends over its lists.
use Rattle.std.proofs.Common.{◌≡◌, ◌≤◌, ◌<◌, ◌==◌, ◌&&◌, ◌*◌, inl, inr, ℕ, Bool, true, false, Some, List, [], ◌∷◌, length, All, Contains, count_by, refl, sym, ap, subst, ◌∙◌, arith}
use Rattle.std.specs.List.{AllZip}
use Rattle.std.proofs.lemmas.Bool.{cases_lt}
use Rattle.std.proofs.lemmas.Bool.Decides.{eqb_tells}
use Rattle.tk_io.specs.Faults.{Rose}
use Rattle.ranked_list.specs.declared.row.Row.{Row}
use Rattle.ranked_list.specs.declared.need.Need.{Need}
use Rattle.ranked_list.specs.declared.need.Need.TheVariants as need
use Rattle.ranked_list.specs.Table.{IsTable}
use Rattle.topk_theory.proofs.AgreementLists.{member_of_all, contains_here, contains_there}
use Rattle.topk_theory.proofs.Counts.{none_counted}
use Rattle.source_api.specs.declared.source.FailKind.{FailKind}
use Rattle.source_api.specs.declared.source.FailKind.TheVariants as kind
use Rattle.source_state.specs.declared.look.LookFault.{LookFault}
use Rattle.source_state.specs.declared.look.LookFault.TheVariants as why
use Rattle.source_state.specs.State.{State, state_at}
use Rattle.query_core.specs.declared.ready.Ready.{Ready}
use Rattle.query_core.specs.Machines.{state_of}
use Rattle.query_run.specs.declared.ended.Ended.{Ended}
use Rattle.query_run.specs.declared.ended.Refusal.TheVariants as refusal
use Rattle.query_run.specs.declared.running_query.RunningQuery.{RunningQuery}
use Rattle.query_run.specs.Inquiries.{needed, list_needed, source_of, source_needed}
use Rattle.query_run.specs.Causes.{IsOfList, IsCause}
use Rattle.query_run.specs.Endings.{EndsAs}
use Rattle.query_run.specs.Honest.{lists_of, HasTable, IsOnItsRun}
use Rattle.query_run.specs.Kept.{IsServed}
use Rattle.query_run.specs.Made.{IsOf}
use Rattle.query_run.proofs.Serving.{of_some_list, source_there}
use Rattle.batch_result.specs.Using.{is_refused_for, refuses_for, is_fail, IsFewFor}
use Rattle.batch_result.specs.Batches.{BatchState, BatchRun, IsSpared, IsBatch}
use Rattle.batch_result.specs.Tables.{lists_for, TellsTables, EndsOver}
use Rattle.batch_result.proofs.OwnTables.{all_tables, same_lists}
use Rattle.batch_result.proofs.RunOverLists.{ends_over}
use Rattle.batch_result.proofs.TableLaws.{on_their_runs}

-- no call failed where no count rose, and then none refused a query
pub no_calls : (workers lines calls before now : ℕ) → IsFewFor workers lines calls before now → ¬ Rose before now → lines ≤ 0
no_calls workers lines calls before now h none = elim (cases_lt 0 calls) [
  | inl some ↦ absurd (none (let rose = h.rose in omega (arith, rose, some)))
  | inr past ↦
      let zero_calls : calls ≡ 0 = omega (arith, past) in
      let few : lines ≤ workers * 0 = subst (λ n. lines ≤ workers * n) zero_calls h.few in
      let nothing : workers * 0 ≡ 0 = grind arith in
      omega (arith, few, nothing)
]

pub need_list : (n : Need) (list : ℕ) → IsOfList list n → list_needed n ≡ list
need_list (need.Row other depth) list h = h
need_list (need.Grade other object) list h = h
need_list need.Done list h = absurd h

-- a query that is refused for a call that failed is counted at the source of its need
pub counted_for : (what : FailKind) (fault : LookFault) (states : List State) (q : RunningQuery) (list : ℕ) → is_fail what fault ≡ true → IsServed states q
    → q.refusal ≡ Some (refusal.Look list fault) → (source_needed q < length states) × (is_refused_for what (source_needed q) q ≡ true)
counted_for what fault states q list is served e =
    let cause = subst (IsCause (state_at states (source_needed q)) (state_of q.machine) q.waiting.noted) e served.cause in
    let going = of_some_list list (needed q) cause.0 in
    let source : source_of q list ≡ source_needed q = ap (source_of q) (sym (need_list (needed q) list cause.0)) in
    let here : (source_of q list == source_needed q) ≡ true = elim (eqb_tells (source_of q list) (source_needed q)) [ inl t ↦ t.0 | inr f ↦ absurd (f.1 source) ] in (
      (source_there states q served.sources served.run going).0,
      ap (refuses_for what (source_needed q) q) e ∙ (ap (λ b. b && (source_of q list == source_needed q)) is ∙ here),
    )

not_both : (b : Bool) → b ≡ true → b ≡ false → ⊥
not_both b is isnt = let bad : true ≡ false = sym is ∙ isnt in cc

-- three lists, place by place
pub zip_through : {A B C : Type 0} (R : A → B → Type 0) (S : B → C → Type 0) (T : A → C → Type 0) (xs : List A) (ys : List B) (zs : List C)
    → ((x : A) (y : B) (z : C) → Contains ys y → R x y → S y z → T x z) → AllZip R xs ys → AllZip S ys zs → AllZip T xs zs
zip_through R S T [] [] [] f r s = tt
zip_through R S T [] [] (z ∷ zs) f r s = absurd s
zip_through R S T [] (y ∷ ys) zs f r s = absurd r
zip_through R S T (x ∷ xs) [] zs f r s = absurd r
zip_through R S T (x ∷ xs) (y ∷ ys) [] f r s = absurd s
zip_through R S T (x ∷ xs) (y ∷ ys) (z ∷ zs) f r s =
    (f x y z (contains_here y ys) r.0 s.0, zip_through R S T xs ys zs (λ a b c m. f a b c (contains_there y ys b m)) r.1 s.1)

module _ (run : BatchRun) (batch : BatchState) (lists : List (List Row)) (ran : IsBatch run batch) (tells : TellsTables run lists) where
  tables : All (HasTable lists) ran.queries
  tables = all_tables lists run.readies ran.queries ran.of tells.tables

  runs : All (IsOnItsRun lists) ran.queries
  runs = on_their_runs run batch ran lists tells.told (λ source l. (tells.untroubled source l).moves) tables

  -- no query is refused for a call that failed
  none_refused : (what : FailKind) (fault : LookFault) (q : RunningQuery) (list : ℕ) → is_fail what fault ≡ true
      → ((source : ℕ) → source < length run.sizes → count_by (is_refused_for what source) ran.queries ≤ 0) → Contains ran.queries q
      → q.refusal ≡ Some (refusal.Look list fault) → ⊥
  none_refused what fault q list is none c e =
      let counts = counted_for what fault ran.states q list is (member_of_all (IsServed ran.states) ran.queries q ran.served c) e in
      let many = ran.many in
      let within = counts.0 in
      not_both (is_refused_for what (source_needed q) q) counts.1
      (none_counted (is_refused_for what (source_needed q)) ran.queries q (none (source_needed q) (omega (arith, many, within))) c)

  none_failed : (source : ℕ) → source < length run.sizes → count_by (is_refused_for kind.Failed source) ran.queries ≤ 0
  none_failed source l = no_calls run.settings.workers _ _ _ _ (ran.counted source l).failed (tells.untroubled source l).faults

  none_garbled : (source : ℕ) → source < length run.sizes → count_by (is_refused_for kind.Garbled source) ran.queries ≤ 0
  none_garbled source l = no_calls run.settings.workers _ _ _ _ (ran.counted source l).garbled (tells.untroubled source l).garbles

  own_table : (ready : Ready) (q : RunningQuery) → IsOf ready q → Contains ran.queries q → IsTable ready.count (lists_of lists q)
  own_table ready q of c = subst (λ n. IsTable n (lists_of lists q)) (of.goes.count ∙ of.begun.count) (member_of_all (HasTable lists) ran.queries q tables c)

  one_ends : (ready : Ready) (q : RunningQuery) (end : Ended) → Contains ran.queries q → IsOf ready q → EndsAs q end → EndsOver (lists_for lists ready) ready end
  one_ends ready q end c of ends =
      let on = member_of_all (IsOnItsRun lists) ran.queries q runs c in
      subst (λ D. EndsOver D ready end) (sym (same_lists lists ready q of))
      (ends_over lists ran.states ready q (member_of_all (IsServed ran.states) ran.queries q ran.served c) of (own_table ready q of c) on.agrees on
      (λ list. none_refused kind.Failed (why.Call kind.Failed) q list refl none_failed c)
      (λ list. none_refused kind.Garbled (why.Call kind.Garbled) q list refl none_garbled c) (member_of_all IsSpared ran.queries q ran.spared c) end ends)

  pub ends_over_all : AllZip (λ ready. EndsOver (lists_for lists ready) ready) run.readies batch.endings
  ends_over_all = zip_through IsOf EndsAs (λ ready. EndsOver (lists_for lists ready) ready) run.readies ran.queries batch.endings
      (λ ready q end c of ends. one_ends ready q end c of ends) ran.of ran.ends
