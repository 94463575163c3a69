-- The way of a machine through the run of a table.
use Rattle.std.proofs.Common.{◌≡◌, ℕ, zero, suc, ◌+◌, ◌-◌, ◌<◌, ◌≤◌, Bool, true, false, List, [], ◌∷◌, ◌++◌, length, map, take, drop, Some, get_or, sym, ap, ap₂, subst, ◌∙◌, arith, append-nil, append_assoc, take-append-drop}
use Rattle.std.specs.List.{flat_map}
use Rattle.std.proofs.lemmas.List.{map-append}
use Rattle.std.proofs.lemmas.Grind.{flat_map-append}
use Rattle.ranked_list.specs.declared.row.Row.{Row}
use Rattle.ranked_list.specs.declared.need.Need.TheVariants as needs
use Rattle.ranked_list.specs.Table.{IsTable}
use Rattle.ranked_list.proofs.RankLaws.{no_row}
use Rattle.topk_theory.specs.declared.access.Access.{Access}
use Rattle.topk_theory.specs.declared.access.Access.TheVariants.{Sorted}
use Rattle.topk_theory.specs.Transcript.{Agrees, Gives, whole, list_at, seen_objects, depth_of}
use Rattle.topk_theory.specs.Threshold.{IsAsked, row_at}
use Rattle.topk_theory.specs.Combined.{unknown_lists, missing_grades}
use Rattle.topk_theory.specs.Machine.{need_of, IsAt, CanServe}
use Rattle.topk_theory.proofs.AgreementLists.{member_of_all}
use Rattle.topk_theory.proofs.AgreementRows.{list_at_length}
use Rattle.topk_theory.proofs.Agreement.{agrees_gives, gives_at}
use Rattle.machine_base.specs.Depths.{IsReached}
use Rattle.machine_base.specs.Asking.{all_missing, AreKnown}
use Rattle.machine_base.proofs.Depths.{IsOwn, is_own, next_reached, at_on_path}
use Rattle.algorithm_theory.specs.Restricted.{HasOne, lists_in, read_at, row_of_first, taz_stop, taz_depth, taz_run_to, taz_run}
use Rattle.algorithm_theory.proofs.RestrictedLeast.{taz_depth_is_least}
use Rattle.algorithm_theory.proofs.RestrictedLists.{PassesOver, lists_with, lists_over, lists_go_on}
use Rattle.algorithm_theory.proofs.RestrictedReading.{IsRead, row_more, row_read, run_read}
use Rattle.algorithm_theory.proofs.RestrictedRuns.{asks_nobody}

-- a machine for k objects over a table of n, of whose lists some can be read in order
pub record IsPosedOn (k n : ℕ) (Z : ℕ → Bool) (D : List (List Row)) : Type 0 where
  pub asked : IsAsked k n D
  pub one : HasOne Z (length D)

pub own : (V : List ℕ → ℕ) (k n : ℕ) (Z : ℕ → Bool) (D : List (List Row)) → IsPosedOn k n Z D → IsOwn (taz_stop V k Z D) n (taz_depth V k Z D)
own V k n Z D posed =
    let least = taz_depth_is_least V k n Z D posed.asked posed.one in
    record { from_one = least.from_one; within = least.within; ends = least.stops; least = least.least }

-- ---- the run goes on by blocks
abbrev pub block : (ℕ → Bool) → List (List Row) → ℕ → List Access
block Z D depth =
    row_of_first Z D (suc depth) (length D)
    ++ flat_map (missing_grades D (taz_run_to Z D depth ++ row_of_first Z D (suc depth) (length D))) (seen_objects (taz_run_to Z D depth ++ row_of_first Z D (suc depth) (length D)))

grows : (Z : ℕ → Bool) (D : List (List Row)) (depth : ℕ) → taz_run_to Z D (suc depth) ≡ taz_run_to Z D depth ++ block Z D depth
grows Z D depth =
    let A : List Access = taz_run_to Z D depth in
    let row : List Access = row_of_first Z D (suc depth) (length D) in
    append_assoc A row (flat_map (missing_grades D (A ++ row)) (seen_objects (A ++ row)))

-- accesses that go on to the end of a depth that is reached are on the run
pub on_path : (V : List ℕ → ℕ) (k n : ℕ) (Z : ℕ → Bool) (D : List (List Row)) (depth : ℕ) (A : List Access) (next : Access) (later : List Access)
    → IsPosedOn k n Z D → IsReached (taz_stop V k Z D) n depth → A ++ next ∷ later ≡ taz_run_to Z D depth → IsAt (taz_run V k Z D) A (need_of A (Some next))
on_path V k n Z D depth A next later posed at path =
    at_on_path (taz_run_to Z D) (block Z D) (taz_stop V k Z D) n (taz_depth V k Z D) depth A next later (grows Z D) (own V k n Z D posed) at path

-- ---- in the row of a depth
pub row_is_read : (n : ℕ) (Z : ℕ → Bool) (D : List (List Row)) (depth list : ℕ) → IsTable n D → 1 ≤ depth → depth ≤ n → list ≤ length D
    → IsRead Z n D (taz_run_to Z D (depth - 1) ++ row_of_first Z D depth list) (depth - 1) list
row_is_read n Z D zero list t positive within l = absurd (omega arith)
row_is_read n Z D (suc depth) list t positive within l =
    let one : suc depth - 1 ≡ depth = omega arith in
    subst (λ above. IsRead Z n D (taz_run_to Z D above ++ row_of_first Z D (suc depth) list) above list) (sym one)
    (row_read Z n D (taz_run_to Z D depth) depth list t (omega arith) l (run_read Z n depth D t (omega arith)))

-- what is told of a list there is the table's row
pub row_told : (n : ℕ) (Z : ℕ → Bool) (D : List (List Row)) (A : List Access) (depth list object grade : ℕ) → IsRead Z n D A (depth - 1) list
    → list < length D → Z list ≡ true → Agrees (length D) n D (A ++ Sorted list object grade ∷ []) → Sorted list object grade ≡ read_at D depth list
row_told n Z D A depth list object grade read l z agrees =
    let gives : Gives (whole D) A (Sorted list object grade) = agrees_gives (length D) n D A (Sorted list object grade) [] agrees in
    let deep : depth_of list A ≡ depth - 1 = read.from list (omega arith) l z in
    let here : row_at (list_at D list) depth ≡ record { object = object; grade = grade } =
    subst (λ p. get_or (list_at D list) p no_row ≡ record { object = object; grade = grade }) deep (gives_at D A list object grade no_row gives) in
    ap (λ (row : Row). Sorted list row.object row.grade) (sym here)

-- the row goes on down to the next list
pub list_made : (n : ℕ) (Z : ℕ → Bool) (D : List (List Row)) (A : List Access) (depth list object grade : ℕ) → IsTable n D → 1 ≤ depth → depth ≤ n
    → A ≡ taz_run_to Z D (depth - 1) ++ row_of_first Z D depth list → list < length D → Z list ≡ true → Agrees (length D) n D (A ++ Sorted list object grade ∷ [])
    → A ++ Sorted list object grade ∷ [] ≡ taz_run_to Z D (depth - 1) ++ row_of_first Z D depth (list + 1)
list_made n Z D A depth list object grade t positive within made l z agrees =
    let read : IsRead Z n D A (depth - 1) list = subst (λ B. IsRead Z n D B (depth - 1) list) (sym made) (row_is_read n Z D depth list t positive within (omega arith)) in
    let told : Sorted list object grade ≡ read_at D depth list = row_told n Z D A depth list object grade read l z agrees in
    let one : suc list ≡ list + 1 = omega arith in
    ap₂ (λ B a. B ++ a ∷ []) made told ∙ sym (row_more Z D (taz_run_to Z D (depth - 1)) depth list z) ∙ ap (λ m. taz_run_to Z D (depth - 1) ++ row_of_first Z D depth m) one

-- and over lists that can't be read in order
pub lists_passed : (Z : ℕ → Bool) (D : List (List Row)) (A : List Access) (depth from to : ℕ) → PassesOver Z from to
    → A ≡ taz_run_to Z D (depth - 1) ++ row_of_first Z D depth from → A ≡ taz_run_to Z D (depth - 1) ++ row_of_first Z D depth to
lists_passed Z D A depth from to over made =
    made ∙ ap (λ ls. taz_run_to Z D (depth - 1) ++ map (read_at D depth) ls) (sym (lists_over Z from to over))

-- before any access
pub first_row : (Z : ℕ → Bool) (D : List (List Row)) (list : ℕ) → PassesOver Z 0 list → [] ≡ taz_run_to Z D (1 - 1) ++ row_of_first Z D 1 list
first_row Z D list over =
    let none : 0 ≡ 1 - 1 = omega arith in
    lists_passed Z D [] 1 0 list over (ap (λ d. taz_run_to Z D d ++ row_of_first Z D 1 0) none)

-- ---- the row is whole: the objects behind those that are known are asked
pub asks_left : (Z : ℕ → Bool) (D : List (List Row)) (A : List Access) (depth whole : ℕ) → 1 ≤ depth
    → A ≡ taz_run_to Z D (depth - 1) ++ row_of_first Z D depth (length D) → AreKnown (length D) A (take whole (seen_objects A))
    → A ++ all_missing D A (drop whole (seen_objects A)) ≡ taz_run_to Z D depth
asks_left Z D A zero whole positive made known = absurd (omega arith)
asks_left Z D A (suc depth) whole positive made known =
    let one : suc depth - 1 ≡ depth = omega arith in
    let is : A ≡ taz_run_to Z D depth ++ row_of_first Z D (suc depth) (length D) = made ∙ ap (λ d. taz_run_to Z D d ++ row_of_first Z D (suc depth) (length D)) one in
    let S : List ℕ = seen_objects A in
    let none : all_missing D A (take whole S) ≡ [] = asks_nobody D A (take whole S) (λ o c. member_of_all (λ object. unknown_lists (length D) A object ≡ []) (take whole S) o known c) in
    let all : all_missing D A S ≡ all_missing D A (drop whole S) =
    ap (all_missing D A) (sym (take-append-drop whole S)) ∙ flat_map-append (missing_grades D A) (take whole S) (drop whole S) ∙ ap (λ xs. xs ++ all_missing D A (drop whole S)) none in
    ap (λ xs. A ++ xs) (sym all) ∙ ap (λ B. B ++ all_missing D B (seen_objects B)) is

-- ---- what is needed in a row
pub row_next : (V : List ℕ → ℕ) (k n : ℕ) (Z : ℕ → Bool) (D : List (List Row)) (A : List Access) (depth list : ℕ) → IsPosedOn k n Z D
    → IsReached (taz_stop V k Z D) n depth → A ≡ taz_run_to Z D (depth - 1) ++ row_of_first Z D depth list → list < length D → Z list ≡ true
    → IsAt (taz_run V k Z D) A (needs.Row list depth) × CanServe D (needs.Row list depth)
row_next V k n Z D A zero list posed at made l z = absurd (let positive = at.positive in omega arith)
row_next V k n Z D A (suc depth) list posed at made l z =
    let one : suc depth - 1 ≡ depth = omega arith in
    let before : List Access = taz_run_to Z D depth in
    let is : A ≡ before ++ row_of_first Z D (suc depth) list = made ∙ ap (λ d. taz_run_to Z D d ++ row_of_first Z D (suc depth) list) one in
    let read : IsRead Z n D A (suc depth - 1) list = subst (λ B. IsRead Z n D B (suc depth - 1) list) (sym made) (row_is_read n Z D (suc depth) list posed.asked.table at.positive at.within (omega arith)) in
    let deep : depth_of list A ≡ suc depth - 1 = read.from list (omega arith) l z in
    let more = lists_go_on Z (suc list) (length D - suc list) in
    let total : suc list + (length D - suc list) ≡ length D = omega arith in
    let next : Access = read_at D (suc depth) list in
    let rest : List Access = map (read_at D (suc depth)) more.0 in
    let asks : List Access = flat_map (missing_grades D (before ++ row_of_first Z D (suc depth) (length D))) (seen_objects (before ++ row_of_first Z D (suc depth) (length D))) in
    let lists : lists_in Z (length D) ≡ (lists_in Z list ++ list ∷ []) ++ more.0 = ap (lists_in Z) (sym total) ∙ more.1 ∙ ap (λ ls. ls ++ more.0) (lists_with Z list z) in
    let row : row_of_first Z D (suc depth) (length D) ≡ row_of_first Z D (suc depth) list ++ next ∷ rest =
    ap (map (read_at D (suc depth))) (lists ∙ append_assoc (lists_in Z list) (list ∷ []) more.0) ∙ map-append (read_at D (suc depth)) (lists_in Z list) (list ∷ more.0) in
    let path : A ++ next ∷ (rest ++ asks) ≡ taz_run_to Z D (suc depth) =
    ap (λ B. B ++ next ∷ (rest ++ asks)) is
    ∙ sym (append_assoc (before ++ row_of_first Z D (suc depth) list) (next ∷ rest) asks)
    ∙ ap (λ B. B ++ asks) (append_assoc before (row_of_first Z D (suc depth) list) (next ∷ rest) ∙ ap (λ r. before ++ r) (sym row)) in
    let long : length (list_at D list) ≡ n = list_at_length n D list posed.asked.table l in
    let within = at.within in
    let down : depth_of list A + 1 ≡ suc depth = omega arith in (
      subst (λ d. IsAt (taz_run V k Z D) A (needs.Row list d)) down (on_path V k n Z D (suc depth) A next (rest ++ asks) posed at path),
      (l, omega arith, omega arith),
    )

-- ---- at the end of a depth
pub next_depth : (V : List ℕ → ℕ) (k n : ℕ) (Z : ℕ → Bool) (D : List (List Row)) (A : List Access) (depth list : ℕ) → IsPosedOn k n Z D
    → IsReached (taz_stop V k Z D) n depth → A ≡ taz_run_to Z D depth → taz_stop V k Z D depth ≡ false → PassesOver Z 0 list
    → IsReached (taz_stop V k Z D) n (depth + 1) × (A ≡ taz_run_to Z D (depth + 1 - 1) ++ row_of_first Z D (depth + 1) list)
next_depth V k n Z D A depth list posed at made goes over =
    let back : depth ≡ depth + 1 - 1 = omega arith in (
      next_reached (taz_stop V k Z D) n (taz_depth V k Z D) depth (own V k n Z D posed) at goes,
      lists_passed Z D A (depth + 1) 0 list over (made ∙ ap (taz_run_to Z D) back ∙ sym (append-nil (taz_run_to Z D (depth + 1 - 1)))),
    )

pub last_depth : (V : List ℕ → ℕ) (k n : ℕ) (Z : ℕ → Bool) (D : List (List Row)) (A : List Access) (depth : ℕ) → IsPosedOn k n Z D
    → IsReached (taz_stop V k Z D) n depth → A ≡ taz_run_to Z D depth → taz_stop V k Z D depth ≡ true → A ≡ taz_run V k Z D
last_depth V k n Z D A depth posed at made stops =
    made ∙ ap (taz_run_to Z D) (is_own (taz_stop V k Z D) n (taz_depth V k Z D) depth (own V k n Z D posed) at stops)
