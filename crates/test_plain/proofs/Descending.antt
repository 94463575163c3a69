-- The sorted accesses down to a depth.
use Rattle.std.proofs.Common.{◌≡◌, ℕ, zero, suc, ◌+◌, ◌-◌, ◌≤◌, List, [], ◌∷◌, length, Bool, sym, ap₂, subst, ◌∙◌, arith, All}
use Rattle.std.proofs.lemmas.List.Elements.{All-append, All-nil, All-cons}
use Rattle.ranked_list.specs.declared.row.Row.{Row}
use Rattle.ranked_list.specs.Table.{top_grade}
use Rattle.topk_theory.specs.declared.access.Access.{Access}
use Rattle.topk_theory.specs.Transcript.{grade_of}
use Rattle.topk_theory.specs.Threshold.{sorted_block}
use Rattle.topk_theory.specs.NoRandom.{is_quiet, nra_run_to}
use Rattle.monotone_fn.specs.Tree.{Tree}
use Rattle.test_plain.specs.Posed.{IsPosed}
use Rattle.test_plain.specs.Capped.{AreCapped}
use Rattle.test_plain.proofs.Making.{posed_capped, read_capped}

-- no grade that is read is above the greatest
pub block_capped : (list depth : ℕ) (D : List (List Row)) → All (λ rows. All (λ (row : Row). row.grade ≤ top_grade) rows) D
    → AreCapped (sorted_block list depth D)
block_capped list depth [] h = All-nil (λ (access : Access). grade_of access ≤ top_grade)
block_capped list depth (rows ∷ D) h =
    All-cons (λ (access : Access). grade_of access ≤ top_grade) _ (sorted_block (list + 1) depth D) (read_capped rows (depth - 1) (h 0 rows (omega arith)))
    (block_capped (list + 1) depth D (λ k d l. h (suc k) d (omega arith)))

descent_capped : (D : List (List Row)) (depth : ℕ) → All (λ rows. All (λ (row : Row). row.grade ≤ top_grade) rows) D → AreCapped (nra_run_to D depth)
descent_capped D zero h = All-nil (λ (access : Access). grade_of access ≤ top_grade)
descent_capped D (suc depth) h =
    All-append (λ (access : Access). grade_of access ≤ top_grade) (nra_run_to D depth) (sorted_block 0 (suc depth) D) (descent_capped D depth h) (block_capped 0 (suc depth) D h)

pub capped_to : (D : List (List Row)) (e : Tree) (depth : ℕ) (accesses : List Access) → IsPosed D e → accesses ≡ nra_run_to D depth → AreCapped accesses
capped_to D e depth accesses h same = subst AreCapped (sym same) (descent_capped D depth (posed_capped D e h))

-- whether it is quiet at a depth, where the table has m lists
pub quiet_at : (V : List ℕ → ℕ) (k m : ℕ) (D : List (List Row)) (A : List Access) (depth : ℕ) (b : Bool) → length D ≡ m → A ≡ nra_run_to D depth
    → b ≡ is_quiet V k m D A → b ≡ is_quiet V k (length D) D (nra_run_to D depth)
quiet_at V k m D A depth b e h q = q ∙ ap₂ (λ n B. is_quiet V k n D B) (sym e) h
