-- What is read down to a depth at which either stops: what the table gives, with no wild guess, and how the threshold algorithm's run begins.
use Rattle.std.proofs.Common.{◌≡◌, ℕ, zero, suc, ◌+◌, ◌-◌, ◌<◌, ◌≤◌, List, [], ◌++◌, length, Contains, sym, ap, subst, ◌∙◌, arith, append-nil, append_assoc}
use Rattle.std.proofs.lemmas.List.{length-take-le}
use Rattle.ranked_list.specs.declared.row.Row.{Row}
use Rattle.ranked_list.specs.Table.{IsTable}
use Rattle.topk_theory.specs.declared.access.Access.{Access}
use Rattle.topk_theory.specs.Aggregate.{objects_of}
use Rattle.monotone_fn.specs.Value.{IsMonotone}
use Rattle.topk_theory.specs.Transcript.{Begins, Agrees, IsTame, list_at, seen_objects, depth}
use Rattle.topk_theory.specs.Threshold.{IsAsked, stands, objects_to, ta_block, ta_run_to, ta_depth, ta_run, ta_answer}
use Rattle.topk_theory.proofs.AgreementLists.{begins_with}
use Rattle.topk_theory.proofs.AgreementRows.{list_at_length}
use Rattle.topk_theory.proofs.Agreement.{seen_in_table}
use Rattle.topk_theory.proofs.ThresholdLists.{contains_filter, contains_from_filter}
use Rattle.topk_theory.proofs.ThresholdRun.{run_rows, run_agrees, run_tame, run_sees, seen_stands}
use Rattle.algorithm_theory.proofs.NearBestDepths.{depth_is}
use Rattle.algorithm_theory.specs.Within.{Factor}
use Rattle.algorithm_theory.specs.Nearby.{first_at, theta_depth, theta_run, theta_answer, early_depth, early_run, early_answer}
use Rattle.algorithm_theory.proofs.WithinDepths.{theta_is_least, theta_no_deeper, theta_is_ta, early_is_least, early_no_deeper, late_is_ta}

-- down to a depth the run is how it begins down to each lower one
run_more : (D : List (List Row)) (deep more : ℕ) → (rest : List Access) × (ta_run_to D (deep + more) ≡ ta_run_to D deep ++ rest)
run_more D deep zero = let e : deep + 0 ≡ deep = omega arith in ([], ap (ta_run_to D) e ∙ sym (append-nil (ta_run_to D deep)))
run_more D deep (suc more) =
    let before = run_more D deep more in
    let e : deep + suc more ≡ suc (deep + more) = omega arith in
    (before.0 ++ ta_block D (suc (deep + more)), ap (ta_run_to D) e ∙ ap (λ A. A ++ ta_block D (suc (deep + more))) before.1 ∙ append_assoc (ta_run_to D deep) before.0 (ta_block D (suc (deep + more))))

pub run_begins : (D : List (List Row)) (deep deeper : ℕ) → deep ≤ deeper → Begins (ta_run_to D deep) (ta_run_to D deeper)
run_begins D deep deeper le =
    let more = run_more D deep (deeper - deep) in
    let whole : deep + (deeper - deep) ≡ deeper = omega arith in
    subst (Begins (ta_run_to D deep)) (sym (ap (ta_run_to D) (sym whole) ∙ more.1)) (begins_with (ta_run_to D deep) more.0)

-- it reads so deep
pub run_depth : (n deep : ℕ) (D : List (List Row)) → IsTable n D → 0 < length D → deep ≤ n → depth (length D) (ta_run_to D deep) ≡ deep
run_depth n deep D t some within =
    depth_is (length D) (ta_run_to D deep) deep some (λ list l.
    let long : length (list_at D list) ≡ n = list_at_length n D list t l in
    ap length (run_rows n D list deep t l within) ∙ length-take-le deep (list_at D list) (omega arith))

-- and sees what stands there
pub seen_standing : (n deep : ℕ) (D : List (List Row)) (object : ℕ) → IsTable n D → deep ≤ n → Contains (seen_objects (ta_run_to D deep)) object
    → Contains (objects_to D deep) object
seen_standing n deep D object t within seen =
    contains_filter (stands D deep) (objects_of D) object (seen_in_table (length D) n D (ta_run_to D deep) object (run_agrees n D deep t within) seen) (seen_stands n D deep object t within seen)

pub standing_seen : (n deep : ℕ) (D : List (List Row)) (object : ℕ) → IsTable n D → Contains (objects_to D deep) object
    → Contains (seen_objects (ta_run_to D deep)) object
standing_seen n deep D object t c = let kept = contains_from_filter (stands D deep) (objects_of D) object c in run_sees n D deep object t kept.1 kept.0

-- ---- within a factor, and early
pub theta_begins : (V : List ℕ → ℕ) (k n : ℕ) (factor : Factor) (D : List (List Row)) → IsMonotone V → IsAsked k n D → factor.q ≤ factor.p
    → Begins (theta_run V k factor D) (ta_run V k D)
theta_begins V k n factor D monotone asked fair = run_begins D (theta_depth V k factor D) (ta_depth V k D) (theta_no_deeper V k n factor D monotone asked fair)

pub early_begins : (V : List ℕ → ℕ) (k n from : ℕ) (D : List (List Row)) → IsMonotone V → IsAsked k n D → Begins (early_run V k from D) (ta_run V k D)
early_begins V k n from D monotone asked = run_begins D (early_depth V k from D) (ta_depth V k D) (early_no_deeper V k n from D monotone asked)

pub theta_same : (V : List ℕ → ℕ) (k n : ℕ) (factor : Factor) (D : List (List Row)) → IsMonotone V → IsAsked k n D → 1 ≤ factor.p → factor.q ≡ factor.p
    → (theta_run V k factor D ≡ ta_run V k D) × (theta_answer V k factor D ≡ ta_answer V k D)
theta_same V k n factor D monotone asked positive one =
    let same = theta_is_ta V k n factor D monotone asked positive one in (ap (ta_run_to D) same, ap (first_at V k D) same)

pub early_same : (V : List ℕ → ℕ) (k n from : ℕ) (D : List (List Row)) → IsMonotone V → IsAsked k n D → ta_depth V k D ≤ from
    → (early_run V k from D ≡ ta_run V k D) × (early_answer V k from D ≡ ta_answer V k D)
early_same V k n from D monotone asked late = let same = late_is_ta V k n from D monotone asked late in (ap (ta_run_to D) same, ap (first_at V k D) same)

pub theta_agrees : (V : List ℕ → ℕ) (k n : ℕ) (factor : Factor) (D : List (List Row)) → IsMonotone V → IsAsked k n D → factor.q ≤ factor.p
    → Agrees (length D) n D (theta_run V k factor D)
theta_agrees V k n factor D monotone asked fair = run_agrees n D (theta_depth V k factor D) asked.table (theta_is_least V k n factor D monotone asked fair).within

pub early_agrees : (V : List ℕ → ℕ) (k n from : ℕ) (D : List (List Row)) → IsMonotone V → IsAsked k n D → Agrees (length D) n D (early_run V k from D)
early_agrees V k n from D monotone asked = run_agrees n D (early_depth V k from D) asked.table (early_is_least V k n from D monotone asked).within

pub theta_deep : (V : List ℕ → ℕ) (k n : ℕ) (factor : Factor) (D : List (List Row)) → IsMonotone V → IsAsked k n D → factor.q ≤ factor.p
    → depth (length D) (theta_run V k factor D) ≡ theta_depth V k factor D
theta_deep V k n factor D monotone asked fair = run_depth n (theta_depth V k factor D) D asked.table asked.lists (theta_is_least V k n factor D monotone asked fair).within

pub early_deep : (V : List ℕ → ℕ) (k n from : ℕ) (D : List (List Row)) → IsMonotone V → IsAsked k n D
    → depth (length D) (early_run V k from D) ≡ early_depth V k from D
early_deep V k n from D monotone asked = run_depth n (early_depth V k from D) D asked.table asked.lists (early_is_least V k n from D monotone asked).within

pub theta_tame : (V : List ℕ → ℕ) (k n : ℕ) (factor : Factor) (D : List (List Row)) → IsMonotone V → IsAsked k n D → factor.q ≤ factor.p
    → IsTame (theta_run V k factor D)
theta_tame V k n factor D monotone asked fair = run_tame n D (theta_depth V k factor D) asked.table (theta_is_least V k n factor D monotone asked fair).within

pub early_tame : (V : List ℕ → ℕ) (k n from : ℕ) (D : List (List Row)) → IsMonotone V → IsAsked k n D → IsTame (early_run V k from D)
early_tame V k n from D monotone asked = run_tame n D (early_depth V k from D) asked.table (early_is_least V k n from D monotone asked).within
