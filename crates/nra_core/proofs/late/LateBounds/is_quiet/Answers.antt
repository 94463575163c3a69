use Rattle.std.proofs.Common.{◌≤◌, length, sym, subst, arith}
use Rattle.monotone_fn.specs.Value.{value}
use Rattle.topk_theory.specs.Transcript.{seen_objects}
use Rattle.nra_core.specs.LatePlaces.{IsLate}
use Rattle.nra_core.proofs.Least.{least_low_is, enough_seen}
use Rattle.nra_core.proofs.Within.{quiet_few, quiet_unseen, quiet_others}
use Rattle.nra_core.proofs.late.LateBounds.is_quiet.Goals as goal

pub returns-then-not-are_unseen_within-clause-quiet : goal.returns-then-not-are_unseen_within-clause-quiet
returns-then-not-are_unseen_within-clause-quiet c =
    let s = c.args.self.now in
    quiet_unseen (value c.args.expr.now) s.k c.args.transcript.now s.first s.candidates c.in-Some.bound c.requires.kept.kept c.in-Some.ensures c.if-not-are_unseen_within.ensures

pub are_others_within-requires-clause-bound : goal.are_others_within-requires-clause-bound
are_others_within-requires-clause-bound c =
    let s = c.args.self.now in
    let t = c.args.transcript.now in
    least_low_is (value c.args.expr.now) s.k t.lists t.accesses s.first s.candidates c.in-Some.bound c.requires.kept.kept c.in-Some.ensures

pub returns-clause-quiet : goal.returns-clause-quiet
returns-clause-quiet c =
    let s = c.args.self.now in
    quiet_others (value c.args.expr.now) s.k c.args.transcript.now s.first s.candidates c.in-Some.bound c.are_others_within.result c.requires.kept.kept c.in-Some.ensures c.if-not-are_unseen_within.ensures c.are_others_within.ensures.within

pub returns-in_default-clause-quiet : goal.returns-in_default-clause-quiet
returns-in_default-clause-quiet c =
    let s = c.args.self.now in
    let t = c.args.transcript.now in
    quiet_few (value c.args.expr.now) s.k t.lists t.count t.accesses s.first s.candidates c.requires.kept.kept c.in_default.ensures

pub returns-in_default-clause-kept : goal.returns-in_default-clause-kept
returns-in_default-clause-kept c = c.requires.kept

pub returns-then-not-are_unseen_within-clause-kept : goal.returns-then-not-are_unseen_within-clause-kept
returns-then-not-are_unseen_within-clause-kept c = c.requires.kept

pub are_unseen_within-requires-clause-lists : goal.are_unseen_within-requires-clause-lists
are_unseen_within-requires-clause-lists c = c.requires.lists

pub are_unseen_within-requires-clause-agrees : goal.are_unseen_within-requires-clause-agrees
are_unseen_within-requires-clause-agrees c = c.requires.agrees

pub are_others_within-requires-clause-lists : goal.are_others_within-requires-clause-lists
are_others_within-requires-clause-lists c = c.requires.lists

pub are_others_within-requires-clause-kept : goal.are_others_within-requires-clause-kept
are_others_within-requires-clause-kept c =
    let s = c.args.self.now in
    let t = c.args.transcript.now in
    subst (λ k. IsLate (value c.args.expr.now) k t.lists t.accesses s.first s.candidates) (sym c.requires.kept.kept.most) c.requires.kept.kept

pub are_others_within-requires-clause-enough : goal.are_others_within-requires-clause-enough
are_others_within-requires-clause-enough c =
    let s = c.args.self.now in
    let t = c.args.transcript.now in
    let enough : s.k ≤ length (seen_objects t.accesses) = enough_seen (value c.args.expr.now) s.k t.lists t.accesses s.first s.candidates c.requires.kept.kept c.in-Some.ensures.enough in
    let most = c.requires.kept.kept.most in
    omega arith

pub returns-clause-kept : goal.returns-clause-kept
returns-clause-kept c =
    let s = c.args.self.now in
    let t = c.args.transcript.now in
    record {
      seen = c.requires.kept.seen;
      kept = subst (λ k. IsLate (value c.args.expr.now) k t.lists t.accesses c.are_others_within.new.first c.are_others_within.new.candidates) c.requires.kept.kept.most c.are_others_within.ensures.kept;
    }
