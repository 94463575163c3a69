-- Views all of whose lists can be read in order, as those of bundles.
use Rattle.std.proofs.Common.{◌≡◌, ℕ, true, List, [], ◌∷◌, length, map, replicate, Option, Some, IfSome, refl, sym, ap, ◌∙◌, subst}
use Rattle.query_text.specs.declared.query.Query.{Query}
use Rattle.query_core.specs.declared.ready.Ready.{Ready}
use Rattle.query_core.specs.Methods.{method_with}
use Rattle.query_core.specs.OneAnswer.{method_for}
use Rattle.query_core.specs.Ready.{method_of_ready}
use Rattle.query_admission.specs.View.{View, AreListed, sorted_at, method_over}
use Rattle.query_admission.specs.Causes.{QueryLine}
use Rattle.query_admission.specs.Admission.{IsAdmitted}
use Rattle.query_admission.specs.declared.lists.ListInfo.{ListInfo}
use Rattle.query_admission.proofs.Becoming.{method_ready}

-- each list of a view offers sorted access
abbrev pub ReadsAll : View → Type 0
ReadsAll view = (name : List ℕ) → IfSome (view.listed name) (λ list. list.sorted ≡ true)

all_sorted : (view : View) (names : List (List ℕ)) (lists : List ListInfo) → ReadsAll view → map view.listed names ≡ map Some lists
    → sorted_at lists ≡ replicate (length names) true
all_sorted view [] [] all e = refl
all_sorted view [] (list ∷ lists) all e = absurd cc
all_sorted view (name ∷ names) [] all e = absurd cc
all_sorted view (name ∷ names) (list ∷ lists) all e =
    let here : view.listed name ≡ Some list = cc in
    let rest : map view.listed names ≡ map Some lists = cc in
    let one : list.sorted ≡ true = subst (λ (o : Option ListInfo). IfSome o (λ l. l.sorted ≡ true)) here (all name) in
    ap (λ b. b ∷ sorted_at lists) one ∙ ap (λ bs. true ∷ bs) (all_sorted view names lists all rest)

-- over them a query runs by its own method
pub method_of_all : (view : View) (q : Query) (lists : List ListInfo) → ReadsAll view → AreListed view q lists → method_over q lists ≡ method_for q
method_of_all view q lists all listed = ap (method_with q.algorithm) (all_sorted view q.names lists all listed)

pub ready_of_all : (x : QueryLine) (ready : Ready) → ReadsAll x.view → IsAdmitted x ready → method_of_ready ready ≡ method_for ready.query
ready_of_all x ready all admitted = sym (method_ready x ready admitted) ∙ method_of_all x.view ready.query admitted.lists all admitted.listed
