-- What the combined algorithm reads has no grade above the greatest.
use Rattle.std.proofs.Common.{◌≡◌, ◌≢◌, ◌≤◌, ◌+◌, ◌%◌, ◌&&◌, nat_lt, ◌==◌, ℕ, zero, suc, true, false, cond, Bool, List, [], ◌∷◌, ◌++◌, length, map, All, Option, Some, None, refl, sym, ap, ap₂, subst, ◌∙◌, arith}
use Rattle.std.proofs.lemmas.List.Elements.{All-append, All-nil}
use Rattle.std.proofs.lemmas.List.Kept.{AllPairs-filter}
use Rattle.ranked_list.specs.declared.row.Row.{Row}
use Rattle.ranked_list.specs.declared.item.Item.{Item}
use Rattle.ranked_list.specs.Table.{place_in, grade_in, top_grade}
use Rattle.topk_theory.specs.declared.access.Access.{Access}
use Rattle.topk_theory.specs.declared.access.Access.TheVariants.{Random}
use Rattle.topk_theory.specs.Order.{AreDistinct}
use Rattle.topk_theory.specs.Transcript.{grade_of, list_at, seen_objects}
use Rattle.topk_theory.specs.Threshold.{sorted_block, scored, item_objects}
use Rattle.topk_theory.specs.NoRandom.{first_seen, is_quiet, is_viable}
use Rattle.topk_theory.specs.Combined.{unknown_lists, missing_grades, candidates, by_high, choice, grades_of_choice, phase_after, ca_run_to}
use Rattle.topk_theory.proofs.AgreementLists.{contains_map_from, all_from_members}
use Rattle.topk_theory.proofs.NoRandomLaws.{first_distinct}
use Rattle.topk_theory.proofs.Agreement.{seen_distinct}
use Rattle.topk_theory.proofs.ThresholdTop.{objects_from_distinct}
use Rattle.monotone_fn.specs.Tree.{Tree}
use Rattle.test_plain.specs.Posed.{IsPosed}
use Rattle.test_plain.specs.Capped.{AreCapped}
use Rattle.test_plain.proofs.Reading.{grade_at_place}
use Rattle.test_plain.proofs.Making.{posed_capped, read_capped}
use Rattle.test_plain.proofs.Descending.{block_capped}
use Rattle.test_plain.proofs.Apart.{made_apart}

abbrev RowsCapped : List (List Row) → Type 0
RowsCapped D = All (λ rows. All (λ (row : Row). row.grade ≤ top_grade) rows) D

list_capped : (D : List (List Row)) (list : ℕ) → RowsCapped D → All (λ (row : Row). row.grade ≤ top_grade) (list_at D list)
list_capped [] list h = All-nil (λ (row : Row). row.grade ≤ top_grade)
list_capped (rows ∷ D) zero h = h 0 rows (omega arith)
list_capped (rows ∷ D) (suc list) h = list_capped D list (λ k d l. h (suc k) d (omega arith))

missing_capped : (D : List (List Row)) (A : List Access) (object : ℕ) → RowsCapped D → AreCapped (missing_grades D A object)
missing_capped D A object h = all_from_members (λ (access : Access). grade_of access ≤ top_grade) (missing_grades D A object) (λ access c.
    let from = contains_map_from (λ list. Random list object (grade_in (list_at D list) object)) (unknown_lists (length D) A object) access c in
    subst (λ (a : Access). grade_of a ≤ top_grade) from.2
    (subst (λ g. g ≤ top_grade) (grade_at_place (list_at D from.0) object) (read_capped (list_at D from.0) (place_in (list_at D from.0) object) (list_capped D from.0 h))))

choice_capped : (D : List (List Row)) (A : List Access) (chosen : Option ℕ) → RowsCapped D → AreCapped (grades_of_choice D A chosen)
choice_capped D A None h = All-nil (λ (access : Access). grade_of access ≤ top_grade)
choice_capped D A (Some object) h = missing_capped D A object h

phase_capped : (V : List ℕ → ℕ) (k phase depth : ℕ) (D : List (List Row)) (A : List Access) → RowsCapped D → AreCapped (phase_after V k phase depth D A)
phase_capped V k phase depth D A h = elim ((depth % phase) == 0) as (λ t. AreCapped (cond {A = List Access} t (grades_of_choice D A (choice V k (length D) A)) [])) [
  | true ↦ choice_capped D A (choice V k (length D) A) h
  | false ↦ All-nil (λ (access : Access). grade_of access ≤ top_grade)
]

row_capped : (D : List (List Row)) (A : List Access) (depth : ℕ) → RowsCapped D → AreCapped A → AreCapped (A ++ sorted_block 0 depth D)
row_capped D A depth h a = All-append (λ (access : Access). grade_of access ≤ top_grade) A (sorted_block 0 depth D) a (block_capped 0 depth D h)

blocks_capped : (V : List ℕ → ℕ) (k phase : ℕ) (D : List (List Row)) (depth : ℕ) → RowsCapped D → AreCapped (ca_run_to V k phase D depth)
blocks_capped V k phase D zero h = All-nil (λ (access : Access). grade_of access ≤ top_grade)
blocks_capped V k phase D (suc depth) h =
    let row : List Access = ca_run_to V k phase D depth ++ sorted_block 0 (suc depth) D in
    All-append (λ (access : Access). grade_of access ≤ top_grade) row (phase_after V k phase (suc depth) D row)
    (row_capped D (ca_run_to V k phase D depth) (suc depth) h (blocks_capped V k phase D depth h)) (phase_capped V k phase (suc depth) D row h)

-- one more depth
pub blocks_more : (V : List ℕ → ℕ) (k phase : ℕ) (D : List (List Row)) (old new : List Access) (depth : ℕ)
    → new ≡ (old ++ sorted_block 0 (depth + 1) D) ++ phase_after V k phase (depth + 1) D (old ++ sorted_block 0 (depth + 1) D)
    → old ≡ ca_run_to V k phase D depth → new ≡ ca_run_to V k phase D (depth + 1)
blocks_more V k phase D old new depth e h =
    let next : depth + 1 ≡ suc depth = omega arith in
    subst (λ n. new ≡ ca_run_to V k phase D n) (sym next)
    (e ∙ ap₂ (λ (A : List Access) (n : ℕ). (A ++ sorted_block 0 n D) ++ phase_after V k phase n D (A ++ sorted_block 0 n D)) h next)

pub row_read_capped : (D : List (List Row)) (e : Tree) (A accesses : List Access) (depth : ℕ) → IsPosed D e → AreCapped A
    → accesses ≡ A ++ sorted_block 0 depth D → AreCapped accesses
row_read_capped D e A accesses depth h a same = subst AreCapped (sym same) (row_capped D A depth (posed_capped D e h) a)

pub run_capped : (V : List ℕ → ℕ) (k phase : ℕ) (D : List (List Row)) (e : Tree) (depth : ℕ) (accesses : List Access) → IsPosed D e
    → accesses ≡ ca_run_to V k phase D depth → AreCapped accesses
run_capped V k phase D e depth accesses h same = subst AreCapped (sym same) (blocks_capped V k phase D depth (posed_capped D e h))

-- whether it is quiet at a depth, where the table has m lists
pub quiet_at : (V : List ℕ → ℕ) (k phase m : ℕ) (D : List (List Row)) (A : List Access) (depth : ℕ) (b : Bool) → length D ≡ m → A ≡ ca_run_to V k phase D depth
    → b ≡ is_quiet V k m D A → b ≡ is_quiet V k (length D) D (ca_run_to V k phase D depth)
quiet_at V k phase m D A depth b e h q = q ∙ ap₂ (λ n B. is_quiet V k n D B) (sym e) h

-- what follows a row that isn't at a phase's end, and one that is
pub between : (V : List ℕ → ℕ) (k phase depth : ℕ) (D : List (List Row)) (A : List Access) (b : Bool) → ((depth % phase) == 0) ≡ false
    → phase_after V k phase depth D A ≡ []
between V k phase depth D A b f = ap (λ t. cond {A = List Access} t (grades_of_choice D A (choice V k (length D) A)) []) f

pub at_end : (V : List ℕ → ℕ) (k phase depth m : ℕ) (D : List (List Row)) (A : List Access) (chosen : Option ℕ) → ((depth % phase) == 0) ≡ true → length D ≡ m
    → chosen ≡ choice V k m A → phase_after V k phase depth D A ≡ grades_of_choice D A chosen
at_end V k phase depth m D A chosen t e same =
    ap (λ b. cond {A = List Access} b (grades_of_choice D A (choice V k (length D) A)) []) t ∙ ap (grades_of_choice D A) (ap (λ n. choice V k n A) e ∙ sym same)

-- the items that are put in order are of different objects
pub highs_apart : (V : List ℕ → ℕ) (m : ℕ) (A : List Access) (k : ℕ) (items : List Item) → items ≡ map (by_high V m A) (candidates V k m A) → AreDistinct items
highs_apart V m A k items same = subst AreDistinct (sym same) (made_apart (by_high V m A) (candidates V k m A) (λ o. refl) (AllPairs-filter (λ (a : ℕ) (b : ℕ). a ≢ b) (λ object. is_viable V k m A object && nat_lt 0 (length (unknown_lists m A object))) (seen_objects A) (seen_distinct A)))

pub answer_apart : (V : List ℕ → ℕ) (k m : ℕ) (D : List (List Row)) (A : List Access) (items : List Item)
    → items ≡ map (scored V D) (item_objects (first_seen V k m A)) → AreDistinct items
answer_apart V k m D A items same = subst AreDistinct (sym same) (made_apart (scored V D) (item_objects (first_seen V k m A)) (λ o. refl) (objects_from_distinct (first_seen V k m A) (first_distinct V k m A)))
