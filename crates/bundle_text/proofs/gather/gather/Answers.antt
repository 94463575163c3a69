use Rattle.std.proofs.Common.{arith, sym, subst}
use Rattle.std.proofs.lemmas.Bool.{false_from_ne_true, both_ways}
use Rattle.bundle_text.specs.Gathering.{IsCounted}
use Rattle.bundle_text.specs.Tracking.{front_of}
use Rattle.bundle_text.proofs.GatherLaws.{gathers_none, gathers_wild, gathers_stopped, gathers_whole}
use Rattle.bundle_text.proofs.gather.gather.Goals as goal

pub returns-in_default : goal.returns-in_default
returns-in_default c = gathers_none c.args.lists.now c.args.query.now c.in_default.ensures.cases

pub returns-then-not-is_name : goal.returns-then-not-is_name
returns-then-not-is_name c =
    gathers_wild c.args.lists.now c.in-Some.first.now c.in-Some.more.now c.args.query.now c.in-Some.ensures.cases.0
    (false_from_ne_true _ (λ e. both_ways _ c.if-not-is_name.true (c.is_name.ensures.1 e)))

pub add_all-requires-clause-tracked : goal.add_all-requires-clause-tracked
add_all-requires-clause-tracked c = c.in_ok-reader.ensures.0

pub add_all-requires-clause-counted : goal.add_all-requires-clause-counted
add_all-requires-clause-counted c = subst (λ f. IsCounted f 2) (sym c.in_ok-reader.ensures.1) (omega arith)

pub returns-in-Ok : goal.returns-in-Ok
returns-in-Ok c =
    gathers_whole c.args.lists.now c.in-Some.first.now c.in-Some.more.now c.args.query.now (front_of c.in_ok-reader.reader) c.add_all.new.reader c.in-Ok.number
    c.end_with.result c.in-Some.ensures.cases.0 (c.is_name.ensures.0 c.if-not-is_name.false) c.in_ok-reader.ensures.1 c.in-Ok.ensures c.end_with.ensures

pub returns-in-Err : goal.returns-in-Err
returns-in-Err c =
    gathers_stopped c.args.lists.now c.in-Some.first.now c.in-Some.more.now c.args.query.now (front_of c.in_ok-reader.reader) c.add_all.new.reader c.in-Err.fault
    c.in-Some.ensures.cases.0 (c.is_name.ensures.0 c.if-not-is_name.false) c.in_ok-reader.ensures.1 c.in-Err.ensures
