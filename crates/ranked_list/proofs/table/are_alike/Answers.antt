use Rattle.std.proofs.Common.{sym, ap, subst, arith, take, length, refl, get_or, ◌≡◌}
use Rattle.std.specs.Prelude.{nat_eq}
use Rattle.std.specs.HashSet.{contains}
use Rattle.std.proofs.lemmas.List.{take_all}
use Rattle.std.proofs.lemmas.List.Elements.{All-more}
use Rattle.std.proofs.lemmas.Bool.{both_ways, false≢true}
use Rattle.ranked_list.specs.Rows.{IsAlike}
use Rattle.ranked_list.proofs.table.are_alike.Goals as goal

pub returns-then-not-branch : goal.returns-then-not-branch
returns-then-not-branch c =
    let test = contains nat_eq c.args.set.now in (
      λ e. absurd (false≢true e),
      λ all.
          let same = subst (IsAlike (length c.args.first.now) test) (sym c.list-item.is) (all c.loop-list.list-index c.list-item.result (omega arith)) in
          absurd (both_ways _ c.if-not-branch.true (c.in_ok-is_alike.ensures.1 (subst (λ n. IsAlike n test c.list-item.result) (sym c.len.ensures) same))),
    )

pub loop-list-preserved : goal.loop-list-preserved
loop-list-preserved c =
    let first = c.args.first.now in
    let test = contains nat_eq c.args.set.now in
    let alike = subst (λ n. IsAlike n test c.list-item.result) c.len.ensures (c.in_ok-is_alike.ensures.0 c.if-not-branch.false) in
    All-more (IsAlike (length first) test) c.args.lists.now c.loop-list.list-index c.list-item.result (omega arith) c.loop-list.invariant
    (subst (IsAlike (length first) test) c.list-item.is alike)

pub returns : goal.returns
returns c =
    let lists = c.args.lists.now in
    let whole : take c.loop-list.list-index lists ≡ lists = take_all c.loop-list.list-index lists (omega arith) in (
      λ e k d l. subst (λ ls. IsAlike (length c.args.first.now) (contains nat_eq c.args.set.now) (get_or ls k d)) whole (c.loop-list.invariant k d (omega (arith, ap length whole))),
      λ all. refl,
    )
