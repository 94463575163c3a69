use Rattle.std.proofs.Common.{◌≡◌, rules}
use Rattle.std.proofs.lemmas.Fn.{always_returns_same}
use Rattle.topk_theory.proofs.SortedRows.{sorted_rows_are, key_of}
use Rattle.topk_theory.proofs.row_order.sort_by_grade.Goals as goal

pub returns-clause-rows : goal.returns-clause-rows
returns-clause-rows c =
    sorted_rows_are c.args.rows.now c.sort_unstable_by_key.new.self c.requires c.sort_unstable_by_key.ensures.permutation
    (c.sort_unstable_by_key.ensures.sorted key_of (always_returns_same _ (λ a r. r ≡ key_of a.0.now) _ (λ a r q k. search rules)))
