use Rattle.std.proofs.Common.{◌≡◌, ◌+◌, None, length, arith, rules}
use Rattle.std.proofs.lemmas.Grind.{common_steps}
use Rattle.bulk_run.proofs.HeldLaws.{none_kept}
use Rattle.bulk_run.proofs.made_source.grades_of.Goals as goal

pub keep_grades-requires-clause-room : goal.keep_grades-requires-clause-room
keep_grades-requires-clause-room c = first_of (search rules, grind (arith, common_steps))

pub keep_grades-requires-clause-none : goal.keep_grades-requires-clause-none
keep_grades-requires-clause-none c =
    let room : length c.resize.new.self.items ≡ length c.args.list.now + 1 = first_of (search rules, grind (arith, common_steps)) in
    none_kept (length c.args.list.now + 1) c.resize.new.self.items room (λ k l.
    c.in_ok-resize.ensures.by_index.1 k None (search rules) (first_of (search rules, grind (arith, common_steps)))
    (first_of (search rules, grind (arith, common_steps))))
