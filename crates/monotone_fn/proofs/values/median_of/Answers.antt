-- The middle of a sorted list is its median.
use Rattle.std.proofs.Common.{ℕ, ◌<◌, ◌-◌, ◌/◌, List, length, get_or, sym, arith}
use Rattle.std.specs.Prelude.{IsPermutation, IsSorted}
use Rattle.std.specs.Ordering.{nat_cmp}
use Rattle.monotone_fn.specs.Value.{IsMedian}
use Rattle.std.proofs.lemmas.Bool.Decides.{nat_tests}
use Rattle.std.proofs.lemmas.List.Sorted.{IsNonDecreasingBy-from_sort}
use Rattle.monotone_fn.proofs.Medians.{IsMedian-middle, Rises-from, median-IsMedian}
use Rattle.monotone_fn.proofs.values.median_of.Goals as goal

-- what a sort leaves in the middle
middle-IsMedian : (ns zs : List ℕ) → IsPermutation ns zs → IsSorted nat_cmp zs → 0 < length ns → IsMedian ns (get_or zs ((length zs - 1) / 2) 0)
middle-IsMedian ns zs p s some =
    let up = IsNonDecreasingBy-from_sort (λ (x : ℕ). x) zs s in
    IsMedian-middle ns zs p (Rises-from zs (λ i j a b. up i j 0 a b)) some

pub returns-clause-median : goal.returns-clause-median
returns-clause-median c =
    let some : 0 < length c.args.numbers.now = grind (arith, nat_tests) in
    let zs = c.sort_unstable.new.self in
    sym (median-IsMedian c.args.numbers.now (get_or zs ((length zs - 1) / 2) 0) (middle-IsMedian c.args.numbers.now zs c.sort_unstable.ensures.permutation c.sort_unstable.ensures.sorted some))

pub returns-clause-counted : goal.returns-clause-counted
returns-clause-counted c = λ some.
    middle-IsMedian c.args.numbers.now c.sort_unstable.new.self c.sort_unstable.ensures.permutation c.sort_unstable.ensures.sorted some
