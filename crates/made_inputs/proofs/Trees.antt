-- The trees of made queries are expressions.
use Rattle.std.proofs.Common.{◌≡◌, ◌≤◌, ◌+◌, ℕ, zero, suc, Bool, true, false, None, refl, sym, ap, arith}
use Rattle.std.specs.Prelude.{cond, ◌%◌, ◌==◌, if◌then◌else◌}
use Rattle.monotone_fn.specs.Tree.{Tree, trees, terms}
use Rattle.monotone_fn.specs.Shape.{node_count, depth, list_count}
use Rattle.monotone_fn.specs.Limits.{first_too_big}
use Rattle.made_inputs.specs.MadeQueries.{list_trees, list_terms, made_tree}

-- what holds of each of the five holds of a made tree
pub each_tree : (P : Tree → Type 0) (number lists : ℕ) → P (Tree.Min (trees (list_trees lists))) → P (Tree.Max (trees (list_trees lists)))
    → P (Tree.Sum (trees (list_trees lists)))
    → P (Tree.Median (trees (list_trees lists))) → P (Tree.Wsum (terms (list_terms lists))) → P (made_tree number lists)
each_tree P number lists least greatest sum median weighted =
    either (number % 5 == 0) least (either (number % 5 == 1) greatest (either (number % 5 == 2) sum (either (number % 5 == 3) median weighted)))
  where
    either : (test : Bool) {one other : Tree} → P one → P other → P (cond test one other)
    either true p q = p
    either false p q = q

-- the tree whose turn it is
abbrev tree_at : ℕ → ℕ → Tree
tree_at turn lists =
    if turn == 0 then Tree.Min (trees (list_trees lists))
    else (if turn == 1 then Tree.Max (trees (list_trees lists))
    else (if turn == 2 then Tree.Sum (trees (list_trees lists))
    else (if turn == 3 then Tree.Median (trees (list_trees lists))
    else Tree.Wsum (terms (list_terms lists)))))

pub made_in_turn : (number lists turn : ℕ) → number % 5 ≡ turn → tree_at turn lists ≡ made_tree number lists
made_in_turn number lists turn is = ap (λ n. tree_at n lists) (sym is)

-- what holds of 1 to 8 lists
pub each_count : (P : ℕ → Type 0) → P 1 → P 2 → P 3 → P 4 → P 5 → P 6 → P 7 → P 8 → (lists : ℕ) → 1 ≤ lists → lists ≤ 8 → P lists
each_count P a b c d e f g h zero some few = absurd (omega arith)
each_count P a b c d e f g h (suc zero) some few = a
each_count P a b c d e f g h (suc (suc zero)) some few = b
each_count P a b c d e f g h (suc (suc (suc zero))) some few = c
each_count P a b c d e f g h (suc (suc (suc (suc zero)))) some few = d
each_count P a b c d e f g h (suc (suc (suc (suc (suc zero))))) some few = e
each_count P a b c d e f g h (suc (suc (suc (suc (suc (suc zero)))))) some few = f
each_count P a b c d e f g h (suc (suc (suc (suc (suc (suc (suc zero))))))) some few = g
each_count P a b c d e f g h (suc (suc (suc (suc (suc (suc (suc (suc zero)))))))) some few = h
each_count P a b c d e f g h (suc (suc (suc (suc (suc (suc (suc (suc (suc more))))))))) some few = absurd (omega arith)

-- a tree over so many lists is within the limits
pub record Fits (lists : ℕ) (t : Tree) : Type 0 where
  pub nodes : node_count t ≡ lists + 1
  pub deep : depth t ≡ 2
  pub names : list_count t ≡ lists
  pub small : first_too_big t ≡ None

AllFit : ℕ → Type 0
AllFit lists = Fits lists (Tree.Min (trees (list_trees lists))) × Fits lists (Tree.Max (trees (list_trees lists))) × Fits lists (Tree.Sum (trees (list_trees lists)))
    × Fits lists (Tree.Median (trees (list_trees lists))) × Fits lists (Tree.Wsum (terms (list_terms lists)))

fits_by : (lists : ℕ) (t : Tree) → node_count t ≡ lists + 1 → depth t ≡ 2 → list_count t ≡ lists → first_too_big t ≡ None → Fits lists t
fits_by lists t n d l s = record { nodes = n; deep = d; names = l; small = s }

fit_1 : AllFit 1
unfolding AllFit
fit_1 = (fits_by 1 _ refl refl refl refl, fits_by 1 _ refl refl refl refl, fits_by 1 _ refl refl refl refl, fits_by 1 _ refl refl refl refl, fits_by 1 _ refl refl refl refl)

fit_2 : AllFit 2
unfolding AllFit
fit_2 = (fits_by 2 _ refl refl refl refl, fits_by 2 _ refl refl refl refl, fits_by 2 _ refl refl refl refl, fits_by 2 _ refl refl refl refl, fits_by 2 _ refl refl refl refl)

fit_3 : AllFit 3
unfolding AllFit
fit_3 = (fits_by 3 _ refl refl refl refl, fits_by 3 _ refl refl refl refl, fits_by 3 _ refl refl refl refl, fits_by 3 _ refl refl refl refl, fits_by 3 _ refl refl refl refl)

fit_4 : AllFit 4
unfolding AllFit
fit_4 = (fits_by 4 _ refl refl refl refl, fits_by 4 _ refl refl refl refl, fits_by 4 _ refl refl refl refl, fits_by 4 _ refl refl refl refl, fits_by 4 _ refl refl refl refl)

fit_5 : AllFit 5
unfolding AllFit
fit_5 = (fits_by 5 _ refl refl refl refl, fits_by 5 _ refl refl refl refl, fits_by 5 _ refl refl refl refl, fits_by 5 _ refl refl refl refl, fits_by 5 _ refl refl refl refl)

fit_6 : AllFit 6
unfolding AllFit
fit_6 = (fits_by 6 _ refl refl refl refl, fits_by 6 _ refl refl refl refl, fits_by 6 _ refl refl refl refl, fits_by 6 _ refl refl refl refl, fits_by 6 _ refl refl refl refl)

fit_7 : AllFit 7
unfolding AllFit
fit_7 = (fits_by 7 _ refl refl refl refl, fits_by 7 _ refl refl refl refl, fits_by 7 _ refl refl refl refl, fits_by 7 _ refl refl refl refl, fits_by 7 _ refl refl refl refl)

fit_8 : AllFit 8
unfolding AllFit
fit_8 = (fits_by 8 _ refl refl refl refl, fits_by 8 _ refl refl refl refl, fits_by 8 _ refl refl refl refl, fits_by 8 _ refl refl refl refl, fits_by 8 _ refl refl refl refl)

pub made_fits : (number lists : ℕ) → 1 ≤ lists → lists ≤ 8 → Fits lists (made_tree number lists)
unfolding AllFit
made_fits number lists some few =
    let all = each_count AllFit fit_1 fit_2 fit_3 fit_4 fit_5 fit_6 fit_7 fit_8 lists some few in
    each_tree (Fits lists) number lists all.0 all.1 all.2 all.3 all.4
