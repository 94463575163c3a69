-- The way of a machine through the run of a table.
use Rattle.std.proofs.Common.{◌≡◌, ℕ, zero, suc, ◌+◌, ◌-◌, ◌%◌, ◌==◌, ◌<◌, ◌≤◌, inl, inr, Bool, true, false, cond, List, [], ◌∷◌, ◌++◌, length, Option, Some, None, sym, ap, subst, ◌∙◌, arith, append-nil, append_assoc}
use Rattle.std.proofs.lemmas.Bool.{cases_lt, cond-true, cond-false}
use Rattle.ranked_list.specs.declared.row.Row.{Row}
use Rattle.ranked_list.specs.Table.{IsTable}
use Rattle.monotone_fn.specs.Value.{IsMonotone}
use Rattle.topk_theory.specs.declared.access.Access.{Access}
use Rattle.topk_theory.specs.declared.access.Access.TheVariants.{Sorted}
use Rattle.topk_theory.specs.Transcript.{Agrees}
use Rattle.topk_theory.specs.Aggregate.{objects_of}
use Rattle.topk_theory.specs.Threshold.{IsAsked, least_from, sorted_block, item_objects}
use Rattle.topk_theory.specs.NoRandom.{first_seen, is_quiet}
use Rattle.topk_theory.specs.Combined.{missing_grades, choice, grades_of_choice, phase_after, finish, ca_run_to, ca_depth, ca_blocks, ca_run}
use Rattle.topk_theory.proofs.Agreement.{objects_of_count}
use Rattle.topk_theory.proofs.CombinedRun.{blocks_are, blocks_only, ca_rows}
use Rattle.topk_theory.proofs.CombinedLaws.{run_is, run_within}
use Rattle.machine_base.specs.Depths.{IsReached, read_to}
use Rattle.machine_base.proofs.Depths.{IsOwn, is_own, next_reached}
use Rattle.machine_base.proofs.Rows.{ReadsRows, read_more, read_whole, read_none}
use Rattle.ca_core.specs.OnTable.{quiet_at, OnRow}
use Rattle.machine_base.specs.Asking.{all_missing}
use Rattle.ca_core.proofs.Pieces.{flat_map_objects}

-- the run goes by rows and what follows them, and ends at the algorithm's own depth
pub reads_rows : (V : List ℕ → ℕ) (k phase n : ℕ) (D : List (List Row)) → IsTable n D → ReadsRows (ca_run_to V k phase D) n D
reads_rows V k phase n D t = λ depth list within l. ca_rows V k phase n depth D list t within l

abbrev pub block_of : (List ℕ → ℕ) → ℕ → ℕ → List (List Row) → ℕ → List Access
block_of V k phase D depth = sorted_block 0 (suc depth) D ++ phase_after V k phase (suc depth) D (ca_run_to V k phase D depth ++ sorted_block 0 (suc depth) D)

pub grows : (V : List ℕ → ℕ) (k phase : ℕ) (D : List (List Row)) (depth : ℕ)
    → ca_run_to V k phase D (suc depth) ≡ ca_run_to V k phase D depth ++ block_of V k phase D depth
grows V k phase D depth = append_assoc (ca_run_to V k phase D depth) (sorted_block 0 (suc depth) D) (phase_after V k phase (suc depth) D (ca_run_to V k phase D depth ++ sorted_block 0 (suc depth) D))

-- the least number that passes is the one that passes where none before it does
least_is : (p : ℕ → Bool) (more start d : ℕ) → start ≤ d → d ≤ start + more → p d ≡ true → ((other : ℕ) → start ≤ other → other < d → p other ≡ false)
    → least_from p more start ≡ d
least_is p zero start d up down here none = let e : start ≡ d = omega arith in e
least_is p (suc more) start d up down here none =
    elim (cases_lt start d) [
      | inl lt ↦ cond-false (p start) start (least_from p more (start + 1)) (none start (omega arith) lt) ∙ least_is p more (start + 1) d (omega arith) (omega arith) here (λ other from. none other (omega arith))
      | inr ge ↦ (let e : start ≡ d = omega arith in cond-true (p start) start (least_from p more (start + 1)) (ap p e ∙ here) ∙ e)
    ]

pub own : (V : List ℕ → ℕ) (k phase n : ℕ) (D : List (List Row)) → IsMonotone V → IsAsked k n D → IsOwn (quiet_at V k phase D) n (ca_depth V k phase D)
own V k phase n D monotone asked =
    let run = run_is V k phase n D monotone asked in
    let within = run_within V k phase n D (ca_run V k phase D) monotone asked run in
    let from_one = run.from_one in
    let blocks : run.blocks ≡ ca_run_to V k phase D run.depth = blocks_only V k phase D run.depth run.blocks run.made in
    let passes : quiet_at V k phase D run.depth ≡ true = subst (λ B. is_quiet V k (length D) D B ≡ true) blocks run.quiet in
    let before : (other : ℕ) → 1 ≤ other → other < run.depth → quiet_at V k phase D other ≡ false = λ other from lt. run.least other (ca_run_to V k phase D other) from lt (blocks_are V k phase D other) in
    let count : length (objects_of D) ≡ n = objects_of_count n D asked.table asked.lists in
    let is : ca_depth V k phase D ≡ run.depth = least_is (quiet_at V k phase D) (length (objects_of D) - 1) 1 run.depth from_one (omega arith) passes before in
    subst (λ d. IsOwn (quiet_at V k phase D) n d) (sym is) (record { from_one = from_one; within = within; ends = passes; least = before })

-- the row of a depth, and what follows it
pub row_end : (V : List ℕ → ℕ) (k phase depth : ℕ) (D : List (List Row)) (A : List Access) → 1 ≤ depth
    → A ≡ ca_run_to V k phase D (depth - 1) ++ sorted_block 0 depth D → A ++ phase_after V k phase depth D A ≡ ca_run_to V k phase D depth
row_end V k phase zero D A positive is = absurd (omega arith)
row_end V k phase (suc depth) D A positive is =
    let e : suc depth - 1 ≡ depth = omega arith in
    ap (λ B. B ++ phase_after V k phase (suc depth) D B) (is ∙ ap (λ d. ca_run_to V k phase D d ++ sorted_block 0 (suc depth) D) e)

-- with the row that the table gives
row_made : (V : List ℕ → ℕ) (k phase n : ℕ) (D : List (List Row)) (A : List Access) (list depth object grade : ℕ) → OnRow V k phase n D A list depth
    → list < length D → Agrees (length D) n D (A ++ Sorted list object grade ∷ [])
    → A ++ Sorted list object grade ∷ [] ≡ read_to (ca_run_to V k phase D) D depth (suc list)
row_made V k phase n D A list depth object grade on l agrees =
    ap (λ B. B ++ Sorted list object grade ∷ []) on.made
    ∙ read_more (ca_run_to V k phase D) n D depth list object grade (reads_rows V k phase n D agrees.table) on.at.positive on.at.within l (subst (λ B. Agrees (length D) n D (B ++ Sorted list object grade ∷ [])) on.made agrees)

-- the next list
pub list_follows : (V : List ℕ → ℕ) (k phase n : ℕ) (D : List (List Row)) (A : List Access) (list depth object grade : ℕ) → OnRow V k phase n D A list depth
    → list < length D → Agrees (length D) n D (A ++ Sorted list object grade ∷ []) → OnRow V k phase n D (A ++ Sorted list object grade ∷ []) (list + 1) depth
list_follows V k phase n D A list depth object grade on l agrees =
    let next : suc list ≡ list + 1 = omega arith in
    record { at = on.at; made = row_made V k phase n D A list depth object grade on l agrees ∙ ap (read_to (ca_run_to V k phase D) D depth) next }

-- the last list: the row is read
pub row_follows : (V : List ℕ → ℕ) (k phase n : ℕ) (D : List (List Row)) (A : List Access) (list depth object grade : ℕ) → OnRow V k phase n D A list depth
    → list < length D → length D ≤ suc list → Agrees (length D) n D (A ++ Sorted list object grade ∷ [])
    → (A ++ Sorted list object grade ∷ []) ++ phase_after V k phase depth D (A ++ Sorted list object grade ∷ []) ≡ ca_run_to V k phase D depth
row_follows V k phase n D A list depth object grade on l last agrees =
    row_end V k phase depth D (A ++ Sorted list object grade ∷ []) on.at.positive (row_made V k phase n D A list depth object grade on l agrees ∙ read_whole (ca_run_to V k phase D) D depth (suc list) last)

-- what follows: nothing between two phases, and where nobody may be asked; else the grades of the choice
pub nothing_between : (V : List ℕ → ℕ) (k phase depth : ℕ) (D : List (List Row)) (A run : List Access) → ((depth % phase) == 0) ≡ false
    → A ++ phase_after V k phase depth D A ≡ run → A ≡ run
nothing_between V k phase depth D A run f made =
    sym (append-nil A) ∙ ap (λ xs. A ++ xs) (sym (ap (λ t. cond {A = List Access} t (grades_of_choice D A (choice V k (length D) A)) []) f)) ∙ made

phase_at : (V : List ℕ → ℕ) (k phase depth : ℕ) (D : List (List Row)) (A : List Access) (chosen : Option ℕ) → ((depth % phase) == 0) ≡ true
    → choice V k (length D) A ≡ chosen → phase_after V k phase depth D A ≡ grades_of_choice D A chosen
phase_at V k phase depth D A chosen t is = ap (λ b. cond {A = List Access} b (grades_of_choice D A (choice V k (length D) A)) []) t ∙ ap (grades_of_choice D A) is

pub nobody_asked : (V : List ℕ → ℕ) (k phase depth : ℕ) (D : List (List Row)) (A run : List Access) → ((depth % phase) == 0) ≡ true
    → choice V k (length D) A ≡ None → A ++ phase_after V k phase depth D A ≡ run → A ≡ run
nobody_asked V k phase depth D A run t none made = sym (append-nil A) ∙ ap (λ xs. A ++ xs) (sym (phase_at V k phase depth D A None t none)) ∙ made

pub one_asked : (V : List ℕ → ℕ) (k phase depth object : ℕ) (D : List (List Row)) (A run : List Access) → ((depth % phase) == 0) ≡ true
    → choice V k (length D) A ≡ Some object → A ++ phase_after V k phase depth D A ≡ run → A ++ missing_grades D A object ≡ run
one_asked V k phase depth object D A run t some made = ap (λ xs. A ++ xs) (sym (phase_at V k phase depth D A (Some object) t some)) ∙ made

-- the end of a depth at which all is quiet
pub blocks_made : (V : List ℕ → ℕ) (k phase n depth : ℕ) (D : List (List Row)) (A : List Access) → IsMonotone V → IsAsked k n D
    → IsReached (quiet_at V k phase D) n depth → A ≡ ca_run_to V k phase D depth → is_quiet V k (length D) D A ≡ true → A ≡ ca_blocks V k phase D
blocks_made V k phase n depth D A monotone asked at made quiet =
    made ∙ ap (ca_run_to V k phase D) (is_own (quiet_at V k phase D) n (ca_depth V k phase D) depth (own V k phase n D monotone asked) at (subst (λ B. is_quiet V k (length D) D B ≡ true) made quiet))

pub run_left : (V : List ℕ → ℕ) (k phase : ℕ) (D : List (List Row)) (A : List Access) → A ≡ ca_blocks V k phase D
    → A ++ all_missing D A (item_objects (first_seen V k (length D) A)) ≡ ca_run V k phase D
run_left V k phase D A is =
    ap (λ xs. A ++ xs) (sym (flat_map_objects (missing_grades D A) (first_seen V k (length D) A)))
    ∙ ap (λ B. B ++ finish V k D B) is

-- and at which not: the next one follows
pub depth_follows : (V : List ℕ → ℕ) (k phase n depth : ℕ) (D : List (List Row)) (A : List Access) → IsMonotone V → IsAsked k n D
    → IsReached (quiet_at V k phase D) n depth → A ≡ ca_run_to V k phase D depth → is_quiet V k (length D) D A ≡ false → OnRow V k phase n D A 0 (depth + 1)
depth_follows V k phase n depth D A monotone asked at made unquiet = record {
  at = next_reached (quiet_at V k phase D) n (ca_depth V k phase D) depth (own V k phase n D monotone asked) at (subst (λ B. is_quiet V k (length D) D B ≡ false) made unquiet);
  made = made ∙ read_none (ca_run_to V k phase D) D depth;
}
