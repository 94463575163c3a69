-- What the combined algorithm reads of a table: its blocks are one, they agree with the table, and they make no wild guess.
use Rattle.std.proofs.Common.{◌≡◌, ◌≤◌, ◌<◌, ◌+◌, ◌-◌, ◌%◌, ◌==◌, inl, inr, ℕ, zero, suc, true, false, cond, List, [], ◌∷◌, ◌++◌, length, take, All, Contains, is_none, refl, sym, ap, subst, ◌∙◌, arith, get_or, append_assoc, append-nil}
use Rattle.std.proofs.Math.Seq.{take-suc}
use Rattle.std.proofs.lemmas.List.Elements.{All-append, All-contains}
use Rattle.ranked_list.specs.declared.row.Row.{Row}
use Rattle.ranked_list.specs.declared.item.Item.{Item}
use Rattle.ranked_list.specs.Table.{IsTable, grade_in}
use Rattle.topk_theory.specs.declared.access.Access.{Access}
use Rattle.topk_theory.specs.declared.access.Access.TheVariants.{Sorted, Random}
use Rattle.topk_theory.specs.Aggregate.{objects_of}
use Rattle.topk_theory.specs.Transcript.{Agrees, IsTame, Gives, whole, list_of, list_at, list_numbers, sorted_rows, random_rows, seen_objects}
use Rattle.topk_theory.specs.Bounds.{known_grade}
use Rattle.topk_theory.specs.Threshold.{row_at, sorted_block}
use Rattle.topk_theory.specs.NoRandom.{first_seen, seen_items}
use Rattle.topk_theory.specs.Combined.{unknown_lists, missing_grades, AreBlocks, choice, grades_of_choice, phase_after, finish, ca_run_to}
use Rattle.topk_theory.proofs.AgreementLists.{contains_nil, contains_here, contains_there, contains_map_from}
use Rattle.topk_theory.proofs.ListNumbers.{number_below}
use Rattle.topk_theory.proofs.AgreementRows.{row_of_object, list_at_length, objects_in_each}
use Rattle.topk_theory.proofs.Agreement.{sorted_rows_append, random_rows_append, agrees_push, agrees_none, seen_in_table}
use Rattle.topk_theory.proofs.ThresholdLists.{contains_from_filter, contains_flat_map}
use Rattle.topk_theory.proofs.ThresholdRun.{sorted_members, tame_append}
use Rattle.topk_theory.proofs.NoRandomRun.{block_at, block_random}
use Rattle.topk_theory.proofs.NoRandomLaws.{block_in_range, begins_by_take}
use Rattle.topk_theory.proofs.NoRandomTop.{object_of_seen}
use Rattle.topk_theory.proofs.CombinedChoice.{choice_law, phase_is, phase_only}

-- the blocks, as they are computed, are those that are defined, and there are no others
pub blocks_are : (V : List ℕ → ℕ) (k phase : ℕ) (D : List (List Row)) (depth : ℕ) → AreBlocks V k phase D depth (ca_run_to V k phase D depth)
blocks_are V k phase D zero = refl
blocks_are V k phase D (suc depth) =
    let row : List Access = ca_run_to V k phase D depth ++ sorted_block 0 (suc depth) D in
    (ca_run_to V k phase D depth, phase_after V k phase (suc depth) D row, blocks_are V k phase D depth, phase_is V k phase (suc depth) D row, refl)

pub blocks_only : (V : List ℕ → ℕ) (k phase : ℕ) (D : List (List Row)) (depth : ℕ) (A : List Access) → AreBlocks V k phase D depth A
    → A ≡ ca_run_to V k phase D depth
blocks_only V k phase D zero A is = is
blocks_only V k phase D (suc depth) A (before, following, made, is, whole) =
    let same : before ≡ ca_run_to V k phase D depth = blocks_only V k phase D depth before made in
    let next = phase_only V k phase (suc depth) D (before ++ sorted_block 0 (suc depth) D) following is in
    whole ∙ ap (λ t. (before ++ sorted_block 0 (suc depth) D) ++ t) next
    ∙ ap (λ b. (b ++ sorted_block 0 (suc depth) D) ++ phase_after V k phase (suc depth) D (b ++ sorted_block 0 (suc depth) D)) same

-- an access that asks the table for the grade of an object of a set
pub record Asks (D : List (List Row)) (may : ℕ → Type 0) (a : Access) : Type 0 where
  pub list : ℕ
  pub object : ℕ
  pub is : a ≡ Random list object (grade_in (list_at D list) object)
  pub within : list < length D
  pub allowed : may object

missing_ask : (D : List (List Row)) (A : List Access) (object : ℕ) (may : ℕ → Type 0) (a : Access) → may object → Contains (missing_grades D A object) a
    → Asks D may a
missing_ask D A object may a allowed c =
    let from = contains_map_from (λ list. Random list object (grade_in (list_at D list) object)) (unknown_lists (length D) A object) a c in
    let kept = contains_from_filter (λ list. is_none (known_grade A object list)) (list_numbers (length D)) from.0 from.1 in
    record { list = from.0; object = object; is = sym from.2; within = number_below (length D) from.0 kept.0; allowed = allowed }

-- what follows a row asks for seen objects, and so does the finish
pub phase_asks : (V : List ℕ → ℕ) (k phase depth : ℕ) (D : List (List Row)) (A : List Access) (a : Access) → Contains (phase_after V k phase depth D A) a
    → Asks D (Contains (seen_objects A)) a
phase_asks V k phase depth D A a c = elim ((depth % phase) == 0) as (λ t. Contains (cond {A = List Access} t (grades_of_choice D A (choice V k (length D) A)) []) a → Asks D (Contains (seen_objects A)) a) [
  | true ↦ λ h. elim (choice_law V k (length D) A) [
    | inl some ↦ missing_ask D A some.0 (Contains (seen_objects A)) a some.2.may.seen (subst (λ o. Contains (grades_of_choice D A o) a) some.1 h)
    | inr idle ↦ absurd (contains_nil a (subst (λ o. Contains (grades_of_choice D A o) a) idle.0 h))
  ]
  | false ↦ λ h. absurd (contains_nil a h)
] c

pub finish_asks : (V : List ℕ → ℕ) (k : ℕ) (D : List (List Row)) (A : List Access) (a : Access)
    → All (Contains (seen_items V (length D) A)) (first_seen V k (length D) A) → Contains (finish V k D A) a → Asks D (Contains (seen_objects A)) a
finish_asks V k D A a held c =
    let piece = contains_flat_map (λ (item : Item). missing_grades D A item.object) (first_seen V k (length D) A) a c in
    let seen = object_of_seen V (length D) A piece.0 (All-contains (Contains (seen_items V (length D) A)) (first_seen V k (length D) A) piece.0 held piece.1) in
    missing_ask D A piece.0.object (Contains (seen_objects A)) a seen.0 piece.2

-- random accesses read no row
pub asks_unsorted : (D : List (List Row)) (may : ℕ → Type 0) (list : ℕ) (B : List Access) → ((a : Access) → Contains B a → Asks D may a)
    → sorted_rows list B ≡ []
asks_unsorted D may list [] each = refl
asks_unsorted D may list (a ∷ B) each =
    let is = (each a (contains_here a B)).is in
    subst (λ x. sorted_rows list (x ∷ B) ≡ []) (sym is) (asks_unsorted D may list B (λ b c. each b (contains_there a B b c)))

-- a table that agrees with a transcript agrees with what it is asked of its objects too
pub asks_agree : (n : ℕ) (D : List (List Row)) (may : ℕ → Type 0) (A B : List Access) → IsTable n D → ((o : ℕ) → may o → Contains (objects_of D) o)
    → Agrees (length D) n D A → ((a : Access) → Contains B a → Asks D may a) → Agrees (length D) n D (A ++ B)
asks_agree n D may A [] table of agrees each = subst (Agrees (length D) n D) (sym (append-nil A)) agrees
asks_agree n D may A (a ∷ B) table of agrees each =
    let ask = each a (contains_here a B) in
    let gives : Gives (whole D) A (Random ask.list ask.object (grade_in (list_at D ask.list) ask.object)) =
    row_of_object (list_at D ask.list) ask.object (objects_in_each n D ask.list ask.object table ask.within (of ask.object ask.allowed)) in
    subst (Agrees (length D) n D) (append_assoc A (a ∷ []) B)
    (asks_agree n D may (A ++ a ∷ []) B table of (agrees_push (length D) n D A a agrees (subst (Gives (whole D) A) (sym ask.is) gives)) (λ b c. each b (contains_there a B b c)))

-- the rows of a depth, after those above
pub rows_extend : (n depth : ℕ) (D : List (List Row)) (A : List Access) (list : ℕ) → IsTable n D → depth + 1 ≤ n → list < length D
    → sorted_rows list A ≡ take depth (list_at D list) → sorted_rows list (A ++ sorted_block 0 (depth + 1) D) ≡ take (depth + 1) (list_at D list)
rows_extend n depth D A list table le lt before =
    let size : length (list_at D list) ≡ n = list_at_length n D list table lt in
    let block : sorted_rows (0 + list) (sorted_block 0 (depth + 1) D) ≡ row_at (list_at D list) (depth + 1) ∷ [] = block_at list 0 (depth + 1) D lt in
    let at : (depth + 1) - 1 ≡ depth = omega arith in
    let no_row : Row = record { object = 0; grade = 0 } in
    let here : sorted_rows list (sorted_block 0 (depth + 1) D) ≡ get_or (list_at D list) depth no_row ∷ [] =
    subst (λ p. sorted_rows list (sorted_block 0 (depth + 1) D) ≡ get_or (list_at D list) p no_row ∷ []) at (subst (λ l. sorted_rows l (sorted_block 0 (depth + 1) D) ≡ row_at (list_at D list) (depth + 1) ∷ []) (let e : 0 + list ≡ list = omega arith in e) block) in
    let one : suc depth ≡ depth + 1 = omega arith in
    sorted_rows_append list A (sorted_block 0 (depth + 1) D) ∙ ap (λ t. t ++ sorted_rows list (sorted_block 0 (depth + 1) D)) before ∙ ap (λ t. take depth (list_at D list) ++ t) here
    ∙ sym (take-suc (list_at D list) depth no_row (omega arith)) ∙ ap (λ d. take d (list_at D list)) one

-- a table that agrees with all down to a depth agrees with the next row of each list
pub row_agrees : (n depth : ℕ) (D : List (List Row)) (A : List Access) → IsTable n D → depth + 1 ≤ n → Agrees (length D) n D A
    → ((list : ℕ) → list < length D → sorted_rows list A ≡ take depth (list_at D list)) → Agrees (length D) n D (A ++ sorted_block 0 (depth + 1) D)
row_agrees n depth D A table le agrees rows = record {
  lists = refl;
  table = table;
  drawn = record {
    in_range = All-append (λ (access : Access). list_of access < length D) A (sorted_block 0 (depth + 1) D) agrees.drawn.in_range (block_in_range 0 (depth + 1) (length D) D (omega arith));
    sorted = λ list lt. begins_by_take (depth + 1) (list_at D list) _ (let e = list_at_length n D list table lt in omega arith) (rows_extend n depth D A list table le lt (rows list lt));
    random = λ list lt.
        subst (λ rows. All (Contains (list_at D list)) rows) (sym (random_rows_append list A (sorted_block 0 (depth + 1) D) ∙ ap (λ t. random_rows list A ++ t) (block_random list 0 (depth + 1) D) ∙ append-nil (random_rows list A))) (agrees.drawn.random list lt);
  };
}

-- down to a depth the blocks read the first rows of each list
pub ca_rows : (V : List ℕ → ℕ) (k phase n depth : ℕ) (D : List (List Row)) (list : ℕ) → IsTable n D → depth ≤ n → list < length D
    → sorted_rows list (ca_run_to V k phase D depth) ≡ take depth (list_at D list)
ca_rows V k phase n zero D list table le lt = refl
ca_rows V k phase n (suc depth) D list table le lt =
    let A : List Access = ca_run_to V k phase D depth in
    let row : List Access = A ++ sorted_block 0 (suc depth) D in
    let more : List Access = phase_after V k phase (suc depth) D row in
    let one : depth + 1 ≡ suc depth = omega arith in
    let rows : sorted_rows list row ≡ take (suc depth) (list_at D list) =
    subst (λ d. sorted_rows list (A ++ sorted_block 0 d D) ≡ take d (list_at D list)) one (rows_extend n depth D A list table (omega arith) lt (ca_rows V k phase n depth D list table (omega arith) lt)) in
    sorted_rows_append list row more ∙ ap (λ t. sorted_rows list row ++ t) (asks_unsorted D (Contains (seen_objects row)) list more (phase_asks V k phase (suc depth) D row)) ∙ append-nil (sorted_rows list row) ∙ rows

-- what the blocks read is what the table gives
pub ca_agrees : (V : List ℕ → ℕ) (k phase n depth : ℕ) (D : List (List Row)) → IsTable n D → depth ≤ n → Agrees (length D) n D (ca_run_to V k phase D depth)
ca_agrees V k phase n zero D table le = agrees_none n D table
ca_agrees V k phase n (suc depth) D table le =
    let A : List Access = ca_run_to V k phase D depth in
    let row : List Access = A ++ sorted_block 0 (suc depth) D in
    let one : depth + 1 ≡ suc depth = omega arith in
    let agrees : Agrees (length D) n D row =
    subst (λ d. Agrees (length D) n D (A ++ sorted_block 0 d D)) one (row_agrees n depth D A table (omega arith) (ca_agrees V k phase n depth D table (omega arith)) (λ list lt. ca_rows V k phase n depth D list table (omega arith) lt)) in
    asks_agree n D (Contains (seen_objects row)) row (phase_after V k phase (suc depth) D row) table (λ o seen. seen_in_table (length D) n D row o agrees seen) agrees (phase_asks V k phase (suc depth) D row)

-- accesses that ask for seen objects alone leave a transcript tame
pub asks_tame : (D : List (List Row)) (A B : List Access) → IsTame A → ((a : Access) → Contains B a → Asks D (Contains (seen_objects A)) a) → IsTame (A ++ B)
asks_tame D A B tame each = tame_append A B tame (λ list object grade c.
    let ask = each (Random list object grade) c in
    subst (Contains (seen_objects A)) (same list ask.list object ask.object grade (grade_in (list_at D ask.list) ask.object) ask.is) ask.allowed)
  where
    same : (l l' o o' g g' : ℕ) → Random l o g ≡ Random l' o' g' → o' ≡ o
    same l l' o o' g g' e = cc

tame_nothing : IsTame []
tame_nothing [] later list object grade e = absurd (cc)
tame_nothing (a ∷ earlier) later list object grade e = absurd (cc)

pub ca_tame : (V : List ℕ → ℕ) (k phase depth : ℕ) (D : List (List Row)) → IsTame (ca_run_to V k phase D depth)
ca_tame V k phase zero D = tame_nothing
ca_tame V k phase (suc depth) D =
    let A : List Access = ca_run_to V k phase D depth in
    let S : List Access = sorted_block 0 (suc depth) D in
    asks_tame D (A ++ S) (phase_after V k phase (suc depth) D (A ++ S))
    (tame_append A S (ca_tame V k phase depth D) (λ list object grade c.
    let at = sorted_members 0 (suc depth) D (Random list object grade) c in
    absurd (not_both list object grade (0 + at.0) (row_at (list_at D at.0) (suc depth)).object (row_at (list_at D at.0) (suc depth)).grade at.2)))
    (phase_asks V k phase (suc depth) D (A ++ S))
  where
    not_both : (l o g l' o' g' : ℕ) → Random l o g ≡ Sorted l' o' g' → ⊥
    not_both l o g l' o' g' e = cc
