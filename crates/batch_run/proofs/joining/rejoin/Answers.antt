use Rattle.std.proofs.Common.{◌≡◌, ◌<◌, ◌∙◌, None, List, All, Contains, length, slice_index_or, ap, sym, subst, arith}
use Rattle.topk_theory.proofs.AgreementLists.{member_of_all}
use Rattle.tickets.specs.Draws.{joined}
use Rattle.tickets.specs.Places.{standing}
use Rattle.source_pool.specs.declared.hold.Hold.{Hold}
use Rattle.source_pool.specs.Passes.{IsPassOf}
use Rattle.source_pool.specs.Sharing.{IsJoined}
use Rattle.batch_run.specs.declared.work.Worker.{Worker}
use Rattle.batch_run.proofs.JoinLaws.{last_left, rejoined_more, rejoined_none}
use Rattle.batch_run.proofs.joining.rejoin.Goals as goal

pub loop-worker-init : goal.loop-worker-init
loop-worker-init c = record {
  own = c.requires.own;
  of = c.requires.first;
  so = rejoined_none c.args.pool.now c.args.workers.items c.args.pass.now c.args.draws.now.1 c.args.places.now c.requires.own;
}

pub join-requires-clause-other : goal.join-requires-clause-other
join-requires-clause-other c =
    let last : Contains c.args.workers.items c.in-Some.worker = last_left _ _ _ _ _ _ _ _ _ _ _ c.loop-worker.invariant.so c.in-Some.ensures.items in
    subst (IsPassOf c.args.pool.now) (sym (ap (λ r. r.0) c.into_parts-other.ensures))
    (member_of_all (λ (worker : Worker). IsPassOf c.args.pool.now worker.pass × (worker.draws.0 ≡ c.args.tickets.now)) c.args.workers.items c.in-Some.worker c.requires.others last).0

pub join-requires-in-Some : goal.join-requires-in-Some
join-requires-in-Some c =
    let last : Contains c.args.workers.items c.in-Some.worker = last_left _ _ _ _ _ _ _ _ _ _ _ c.loop-worker.invariant.so c.in-Some.ensures.items in
    record {
      own = (
        c.loop-worker.invariant.of,
        ap (λ r. r.1.0) c.into_parts-other.ensures
            ∙ (member_of_all (λ (worker : Worker). IsPassOf c.args.pool.now worker.pass × (worker.draws.0 ≡ c.args.tickets.now)) c.args.workers.items c.in-Some.worker c.requires.others last).1,
      );
    }

pub place_all-requires : goal.place_all-requires
place_all-requires c =
    let last : Contains c.args.workers.items c.in-Some.worker = last_left _ _ _ _ _ _ _ _ _ _ _ c.loop-worker.invariant.so c.in-Some.ensures.items in
    let mine = member_of_all (λ (worker : Worker). All (λ done. done.place < length c.args.places.now) worker.ended.items) c.args.workers.items c.in-Some.worker c.requires.within last in
    let size = c.loop-worker.invariant.so.size in
    subst (λ v. All (λ done. done.place < length c.loop-worker.places) v.items) (sym (ap (λ r. r.2) c.into_parts-other.ensures))
    (λ k d l. let m = mine k d l in omega (arith, m, size))

pub loop-worker-preserved : goal.loop-worker-preserved
loop-worker-preserved c = record {
  own = c.join.ensures.own;
  of = ap (λ p. p.0) c.join-in-Some.ensures;
  so = rejoined_more c.args.pool.now c.args.workers.items c.loop-worker.workers.items c.pop.new.self.items c.in-Some.worker c.args.pass.now c.loop-worker.pass c.join.new.pass
      c.args.draws.now.1 c.loop-worker.draws.1 c.join-in-Some.new.pass.1 c.args.places.now c.loop-worker.places c.place_all.new.answers c.loop-worker.invariant.so
      c.in-Some.ensures.items c.join.ensures.own
      (subst (λ (other : List Hold). IsJoined c.args.pool.now c.loop-worker.pass other c.join.new.pass) (ap (λ r. r.0) c.into_parts-other.ensures) c.join.ensures.joined)
      (ap (λ p. p.1) c.join-in-Some.ensures ∙ ap (λ r. joined c.loop-worker.draws.1 r.1.1) c.into_parts-other.ensures)
      c.place_all.ensures.size
      (λ place. c.place_all.ensures.placed place ∙ ap (λ r. standing place r.2.items (slice_index_or c.loop-worker.places place None)) c.into_parts-other.ensures);
}
