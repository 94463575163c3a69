-- The rows that a run reads at a depth, and which comes next.
use Rattle.std.proofs.Common.{◌≡◌, ℕ, suc, ◌+◌, ◌-◌, ◌<◌, ◌≤◌, Bool, cond, List, [], ◌∷◌, ◌++◌, length, take, drop, Some, None, slice_index_or, refl, sym, ap, subst, ◌∙◌, arith, append_assoc, append-nil, take-append-drop}
use Rattle.std.specs.List.{cons_option}
use Rattle.std.proofs.lemmas.Bool.{ne_eqb}
use Rattle.std.proofs.lemmas.List.{length-take-le, take_all}
use Rattle.std.proofs.Math.Seq.{take-suc, drop-cons}
use Rattle.ranked_list.specs.declared.row.Row.{Row}
use Rattle.ranked_list.specs.declared.need.Need.TheVariants.{Row as RowAt}
use Rattle.ranked_list.specs.Table.{IsTable}
use Rattle.topk_theory.specs.declared.access.Access.{Access}
use Rattle.topk_theory.specs.declared.access.Access.TheVariants.{Sorted}
use Rattle.topk_theory.specs.Transcript.{Agrees, list_at, depth_of, sorted_rows}
use Rattle.topk_theory.specs.Threshold.{row_at, sorted_block}
use Rattle.topk_theory.specs.Machine.{IsAt, CanServe}
use Rattle.topk_theory.proofs.AgreementRows.{list_at_length}
use Rattle.topk_theory.proofs.Agreement.{sorted_rows_append, agrees_gives, gives_at}
use Rattle.machine_base.specs.Depths.{IsReached, read_to}
use Rattle.machine_base.proofs.Depths.{IsOwn, at_on_path}

sorted_block-append : (start depth : ℕ) (xs ys : List (List Row))
    → sorted_block start depth (xs ++ ys) ≡ sorted_block start depth xs ++ sorted_block (start + length xs) depth ys
sorted_block-append start depth [] ys = ap (λ s. sorted_block s depth ys) (omega arith)
sorted_block-append start depth (rows ∷ xs) ys =
    ap (λ rest. Sorted start (row_at rows depth).object (row_at rows depth).grade ∷ rest)
    (sorted_block-append (start + 1) depth xs ys ∙ ap (λ s. sorted_block (start + 1) depth xs ++ sorted_block s depth ys) (omega arith))

-- a list behind those of a block is not read by it
block_of_later : (list start depth : ℕ) (D : List (List Row)) → start + length D ≤ list → sorted_rows list (sorted_block start depth D) ≡ []
block_of_later list start depth [] l = refl
block_of_later list start depth (rows ∷ D) l =
    ap (λ t. cons_option (cond t (Some (row_at rows depth)) None) (sorted_rows list (sorted_block (start + 1) depth D))) (ne_eqb start list (λ e. absurd (omega arith)))
    ∙ block_of_later list (start + 1) depth D (omega arith)

-- a run reads the rows of a list down to a depth
abbrev pub ReadsRows : (ℕ → List Access) → ℕ → List (List Row) → Type 0
ReadsRows run_to n D = (depth list : ℕ) → depth ≤ n → list < length D → sorted_rows list (run_to depth) ≡ take depth (list_at D list)

read_depth : (run_to : ℕ → List Access) (n : ℕ) (D : List (List Row)) (depth list : ℕ) → ReadsRows run_to n D → IsTable n D → 1 ≤ depth → depth ≤ n
    → list < length D → depth_of list (read_to run_to D depth list) ≡ depth - 1
read_depth run_to n D depth list reads t positive within l =
    let rows = list_at D list in
    let long : length rows ≡ n = list_at_length n D list t l in
    let front : length (take list D) ≡ list = length-take-le list D (omega arith) in
    ap length (sorted_rows_append list (run_to (depth - 1)) (sorted_block 0 depth (take list D))
    ∙ ap (λ above. above ++ sorted_rows list (sorted_block 0 depth (take list D))) (reads (depth - 1) list (omega arith) l)
    ∙ ap (λ below. take (depth - 1) rows ++ below) (block_of_later list 0 depth (take list D) (omega arith))
    ∙ append-nil (take (depth - 1) rows))
    ∙ length-take-le (depth - 1) rows (omega arith)

-- the row that a table gives there
pub given_next : (run_to : ℕ → List Access) (n : ℕ) (D : List (List Row)) (depth list object grade : ℕ) → ReadsRows run_to n D → 1 ≤ depth → depth ≤ n
    → list < length D → Agrees (length D) n D (read_to run_to D depth list ++ Sorted list object grade ∷ [])
    → row_at (list_at D list) depth ≡ record { object = object; grade = grade }
given_next run_to n D depth list object grade reads positive within l agrees =
    let no_row : Row = record { object = 0; grade = 0 } in
    ap (λ p. slice_index_or (list_at D list) p no_row) (sym (read_depth run_to n D depth list reads agrees.table positive within l))
    ∙ gives_at D (read_to run_to D depth list) list object grade no_row (agrees_gives (length D) n D (read_to run_to D depth list) (Sorted list object grade) [] agrees)

-- with it, what is read before the next list
pub read_more : (run_to : ℕ → List Access) (n : ℕ) (D : List (List Row)) (depth list object grade : ℕ) → ReadsRows run_to n D → 1 ≤ depth → depth ≤ n
    → list < length D → Agrees (length D) n D (read_to run_to D depth list ++ Sorted list object grade ∷ [])
    → read_to run_to D depth list ++ Sorted list object grade ∷ [] ≡ read_to run_to D depth (suc list)
read_more run_to n D depth list object grade reads positive within l agrees =
    let rows = list_at D list in
    let above = run_to (depth - 1) in
    let front : length (take list D) ≡ list = length-take-le list D (omega arith) in
    let start : list ≡ 0 + length (take list D) = omega arith in
    append_assoc above (sorted_block 0 depth (take list D)) (Sorted list object grade ∷ [])
    ∙ ap (λ (x : Row). above ++ (sorted_block 0 depth (take list D) ++ Sorted list x.object x.grade ∷ [])) (sym (given_next run_to n D depth list object grade reads positive within l agrees))
    ∙ ap (λ s. above ++ (sorted_block 0 depth (take list D) ++ Sorted s (row_at rows depth).object (row_at rows depth).grade ∷ [])) start
    ∙ ap (λ block. above ++ block) (sym (sorted_block-append 0 depth (take list D) (rows ∷ [])))
    ∙ ap (λ lists. above ++ sorted_block 0 depth lists) (sym (take-suc D list [] l))

-- after the last list the row is read
pub read_whole : (run_to : ℕ → List Access) (D : List (List Row)) (depth list : ℕ) → length D ≤ list
    → read_to run_to D depth list ≡ run_to (depth - 1) ++ sorted_block 0 depth D
read_whole run_to D depth list whole = ap (λ lists. run_to (depth - 1) ++ sorted_block 0 depth lists) (take_all list D whole)

-- and what is read before the first list of the next depth is the run so far
pub read_none : (run_to : ℕ → List Access) (D : List (List Row)) (depth : ℕ) → run_to depth ≡ read_to run_to D (depth + 1) 0
read_none run_to D depth =
    let e : depth + 1 - 1 ≡ depth = omega arith in
    sym (append-nil (run_to depth)) ∙ ap (λ d. run_to d ++ []) (sym e)

-- what comes after what is read before a list
read_rest : (run_to : ℕ → List Access) (D : List (List Row)) (depth list : ℕ) → list < length D
    → (read_to run_to D depth list ++ Sorted list (row_at (list_at D list) depth).object (row_at (list_at D list) depth).grade ∷ sorted_block (list + 1) depth (drop (suc list) D)) ≡ run_to (depth - 1) ++ sorted_block 0 depth D
read_rest run_to D depth list l =
    let rows = list_at D list in
    let split : D ≡ take list D ++ (rows ∷ drop (suc list) D) = sym (take-append-drop list D) ∙ ap (λ L. take list D ++ L) (drop-cons D list [] l) in
    let front : length (take list D) ≡ list = length-take-le list D (omega arith) in
    let start : 0 + length (take list D) ≡ list = omega arith in
    let block : sorted_block 0 depth D ≡ sorted_block 0 depth (take list D) ++ (Sorted list (row_at rows depth).object (row_at rows depth).grade ∷ sorted_block (list + 1) depth (drop (suc list) D)) =
    ap (sorted_block 0 depth) split ∙ sorted_block-append 0 depth (take list D) (rows ∷ drop (suc list) D)
    ∙ ap (λ s. sorted_block 0 depth (take list D) ++ sorted_block s depth (rows ∷ drop (suc list) D)) start in
    append_assoc (run_to (depth - 1)) (sorted_block 0 depth (take list D)) (Sorted list (row_at rows depth).object (row_at rows depth).grade ∷ sorted_block (list + 1) depth (drop (suc list) D))
    ∙ ap (λ B. run_to (depth - 1) ++ B) (sym block)

-- before a list the row of that list is needed, where what a run reads at each depth begins with the row
pub row_needed : (run_to block : ℕ → List Access) (stops : ℕ → Bool) (n own : ℕ) (D : List (List Row)) (depth list : ℕ) (A later : List Access)
    → ((d : ℕ) → run_to (suc d) ≡ run_to d ++ block d) → ReadsRows run_to n D → IsTable n D → IsOwn stops n own → IsReached stops n depth → list < length D
    → A ≡ read_to run_to D depth list → (run_to (depth - 1) ++ sorted_block 0 depth D) ++ later ≡ run_to depth
    → IsAt (run_to own) A (RowAt list depth) × CanServe D (RowAt list depth)
row_needed run_to block stops n own D depth list A later grows reads t least at l made goes_on =
    let rows = list_at D list in
    let next : Access = Sorted list (row_at rows depth).object (row_at rows depth).grade in
    let rest : List Access = sorted_block (list + 1) depth (drop (suc list) D) in
    let path : A ++ next ∷ (rest ++ later) ≡ run_to depth =
    ap (λ B. B ++ (next ∷ (rest ++ later))) made
    ∙ sym (append_assoc (read_to run_to D depth list) (next ∷ rest) later)
    ∙ ap (λ B. B ++ later) (read_rest run_to D depth list l)
    ∙ goes_on in
    let deep : depth_of list A + 1 ≡ depth =
    let e : depth_of list A ≡ depth - 1 = ap (depth_of list) made ∙ read_depth run_to n D depth list reads t at.positive at.within l in
    omega (arith, e, at.positive) in
    let long : length rows ≡ n = list_at_length n D list t l in (
      subst (λ d. IsAt (run_to own) A (RowAt list d)) deep (at_on_path run_to block stops n own depth A next (rest ++ later) grows least at path),
      (l, at.positive, omega (arith, at.within)),
    )
