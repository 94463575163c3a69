use Rattle.std.proofs.Common.{◌≡◌, ◌≤◌, Some, not, ◌==◌, sym, subst, ◌∙◌, refl, arith}
use Rattle.std.specs.List.{position}
use Rattle.query_admission.specs.View.{most_objects, differs}
use Rattle.query_admission.proofs.Positions.{found_within, found_passes, passing_stated, size_there, small_size}
use Rattle.query_admission.proofs.screen.counts_differ.Goals as goal

pub unreachable-requires : goal.unreachable-requires
unreachable-requires c =
    passing_stated (λ size. not (size == c.from.result)) _ (found_passes (differs c.from.result) c.args.lists.now c.in-Some-first_differing.other (sym c.first_differing.ensures ∙ c.in-Some-first_differing.is)) c.in_default-size.is

pub overflow_cast-result-2 : goal.overflow_cast-result-2
overflow_cast-result-2 c =
    let found = sym c.first_differing.ensures ∙ c.in-Some-first_differing.is in
    let within = found_within (differs c.from.result) c.args.lists.now c.in-Some-first_differing.other found in
    let small : c.in-Some-size.m ≤ most_objects = small_size c.args.lists.now c.in-Some-first_differing.other c.in-Some-size.m c.requires.small within c.in-Some-size.is in
    omega arith

pub returns : goal.returns
returns c = λ query.
    let other = c.in-Some-first_differing.other in
    let found = sym c.first_differing.ensures ∙ c.in-Some-first_differing.is in
    let stated = size_there c.args.lists.now other (found_within (differs c.from.result) c.args.lists.now other found) ∙ c.in-Some-size.is in (
      c.in-Some.n,
      other,
      c.in-Some-size.m,
      refl,
      sym c.count_of.ensures ∙ c.in-Some.is,
      subst (λ n. position (differs n) c.args.lists.now ≡ Some other) c.from.ensures found,
      stated,
    )
