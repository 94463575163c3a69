-- What is certain for a query: what it needs, and what was so before it read on.
use Rattle.std.proofs.Common.{◌≡◌, ◌<◌, ◌+◌, ℕ, Option, Some, None, List, [], ◌∷◌, ◌++◌, length, slice_index_or, refl, sym, ap, subst, ◌∙◌, arith}
use Rattle.std.specs.List.{slice_get}
use Rattle.ranked_list.specs.declared.row.Row.{Row}
use Rattle.ranked_list.specs.declared.need.Need.{Need}
use Rattle.ranked_list.specs.declared.need.Need.TheVariants as need
use Rattle.topk_theory.specs.declared.access.Access.{Access}
use Rattle.topk_theory.specs.declared.access.Access.TheVariants.{Sorted, Random}
use Rattle.topk_theory.specs.Asked.{Asked}
use Rattle.topk_theory.specs.Machine.{need_of, IsAt}
use Rattle.topk_theory.specs.Transcript.{Begins, Agrees, depth_of}
use Rattle.topk_theory.proofs.Agreement.{agrees_front, depth_of_sorted}
use Rattle.topk_theory.proofs.AgreementLists.{begins_splits, begins_more, slice_get_contains}
use Rattle.access_log.specs.Log.{AgreesWith}
use Rattle.monotone_fn.specs.Value.{value}
use Rattle.machine_base.specs.Machine.{MachineState, asked_of, Takes}
use Rattle.machine_base.specs.Certain.{Meets, IsCertain}
use Rattle.machine_base.proofs.Certain.{met_more}
use Rattle.query_core.specs.Methods.{Method, run_with}
use Rattle.query_core.specs.Machines.{method_of, state_of}
use Rattle.query_run.specs.declared.running_query.RunningQuery.{RunningQuery}
use Rattle.query_run.specs.Asking.{IsCertainFor, IsAskedFor, AsksGradeOf}

-- what comes next of a run is met by it
next_met : (run made : List Access) (next : Option Access) → Begins made run → slice_get run (length made) ≡ next → Meets run (need_of made next)
next_met run made None begins is = tt
next_met run made (Some (Sorted list object grade)) begins is =
    let front : Begins (made ++ Sorted list object grade ∷ []) run = begins_more made run (Sorted list object grade) begins is in
    let deep : Meets (made ++ Sorted list object grade ∷ []) (need.Row list (depth_of list made + 1)) = let e = depth_of_sorted list made object grade in omega (arith, e) in
    subst (λ A. Meets A (need.Row list (depth_of list made + 1))) (sym (begins_splits (made ++ Sorted list object grade ∷ []) run front))
    (met_more (made ++ Sorted list object grade ∷ []) _ (need.Row list (depth_of list made + 1)) deep)
next_met run made (Some (Random list object grade)) begins is = (grade, slice_get_contains run (length made) (Random list object grade) is)

pub need_met : (run made : List Access) (n : Need) → IsAt run made n → Meets run n
need_met run made n at = subst (Meets run) (sym at.next) (next_met run made (slice_get run (length made)) at.begins refl)

-- what is certain for a query, is for a later one
pub record AsksMore (q r : RunningQuery) : Type 0 where
  pub sources : r.sources.items ≡ q.sources.items
  pub certain : (n : Need) → IsCertainFor q n → IsCertainFor r n

-- a query whose machine stays
pub same_asks : (q r : RunningQuery) → r.sources.items ≡ q.sources.items → method_of r.machine ≡ method_of q.machine → state_of r.machine ≡ state_of q.machine
    → AsksMore q r
same_asks q r sources method same = record {
  sources = sources;
  certain = λ n h. subst (λ (m : Method). IsCertain (run_with m) (state_of r.machine) n) (sym method)
      (subst (λ (t : MachineState). IsCertain (run_with (method_of q.machine)) t n) (sym same) h);
}

-- a query that was given what it needs
pub record WasGiven (q r : RunningQuery) : Type 0 where
  pub sources : r.sources.items ≡ q.sources.items
  pub method : method_of r.machine ≡ method_of q.machine
  pub access : Access
  pub takes : Takes access (state_of q.machine) (state_of r.machine)

asked_same : (access : Access) (t u : MachineState) → Takes access t u → asked_of u ≡ asked_of t
asked_same access t u takes = λ i. record { value = value (takes.expr i); k = takes.k i; costs = takes.costs i }

agrees_before : (D : List (List Row)) (access : Access) (t u : MachineState) → Takes access t u → AgreesWith D u.log → AgreesWith D t.log
agrees_before D access t u takes agrees =
    let lists = subst (λ m. Agrees m u.log.count D u.log.accesses) takes.log.lists agrees in
    let count = subst (λ n. Agrees t.log.lists n D u.log.accesses) takes.log.count lists in
    agrees_front t.log.lists t.log.count D t.log.accesses (access ∷ []) (subst (Agrees t.log.lists t.log.count D) takes.log.accesses count)

pub given_asks : (q r : RunningQuery) → WasGiven q r → AsksMore q r
given_asks q r h = record {
  sources = h.sources;
  certain = λ n c. record {
    met = λ D agrees.
        let t = state_of q.machine in
        let u = state_of r.machine in
        let was : Meets (run_with (method_of q.machine) (asked_of t) D) n = c.met D (agrees_before D h.access t u h.takes agrees) in
        subst (λ (m : Method). Meets (run_with m (asked_of u) D) n) (sym h.method)
        (subst (λ (asked : Asked). Meets (run_with (method_of q.machine) asked D) n) (sym (asked_same h.access t u h.takes)) was);
  };
}

-- what a query wanted, a later one wanted
pub asked_more : (q r : RunningQuery) (source depth : ℕ) → AsksMore q r → IsAskedFor q source depth → IsAskedFor r source depth
asked_more q r source depth more h = record {
  list = h.list;
  listed = subst (λ xs. h.list < length xs) (sym more.sources) h.listed;
  of = ap (λ xs. slice_index_or xs h.list 0) more.sources ∙ h.of;
  deep = more.certain (need.Row h.list depth) h.deep;
}

pub grade_more : (q r : RunningQuery) (source object : ℕ) → AsksMore q r → AsksGradeOf q source object → AsksGradeOf r source object
grade_more q r source object more h = record {
  list = h.list;
  listed = subst (λ xs. h.list < length xs) (sym more.sources) h.listed;
  of = ap (λ xs. slice_index_or xs h.list 0) more.sources ∙ h.of;
  asks = more.certain (need.Grade h.list object) h.asks;
}
