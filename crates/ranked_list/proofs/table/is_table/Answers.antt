use Rattle.std.specs.Prelude.{nat_eq}
use Rattle.std.specs.HashSet.{contains}
use Rattle.std.proofs.lemmas.Bool.{both_ways, false≢true}
use Rattle.ranked_list.proofs.TableLaws.{first_ranked, told_table}
use Rattle.ranked_list.proofs.table.is_table.Goals as goal

pub returns-then-not-branch : goal.returns-then-not-branch
returns-then-not-branch c = (
  λ e. absurd (false≢true e),
  λ table. absurd (both_ways _ c.if-not-branch.true (c.in_ok-put_objects.ensures.ranked.1 (first_ranked table.0 c.args.lists.now c.in-Some.first.now c.in-Some.ensures.value table.1))),
)

pub returns : goal.returns
returns c =
    told_table c.args.lists.now c.in-Some.first.now (contains nat_eq c.put_objects.new.set) c.in-Some.ensures.value (c.in_ok-put_objects.ensures.tells c.if-not-branch.false) c.are_alike.result c.are_alike.ensures
