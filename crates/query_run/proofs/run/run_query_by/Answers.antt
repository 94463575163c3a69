use Rattle.std.proofs.Common.{sym, ◌∙◌}
use Rattle.std.proofs.lemmas.Result.{IfOk-weaker}
use Rattle.query_run.specs.Endings.{EndsAs, IsRight}
use Rattle.query_run.specs.Ran.{Ran}
use Rattle.query_run.proofs.Stops.{fresh_reads, ran, ran_right, ran_some, failed_too}
use Rattle.query_run.proofs.run.run_query_by.Goals as goal

pub look_on-requires-clause-reading : goal.look_on-requires-clause-reading
look_on-requires-clause-reading g c = fresh_reads c.args.pass.now c.args.ready.now c.in_ok-query.query c.requires.sources c.in_ok-query.ensures

pub returns-clause-ran : goal.returns-clause-ran
returns-clause-ran g c =
    IfOk-weaker c.end.result (EndsAs c.look_on.new.query) (Ran c.args.ready.now c.args.pass.now c.look_on.new.pass)
    (λ end ends. ran c.args.pass.now c.look_on.new.pass c.args.ready.now c.in_ok-query.query c.look_on.new.query end c.in_ok-query.ensures c.look_on.ensures.looked c.look_on.ensures.stopped
    (sym c.wants_memory.ensures ∙ c.if-wants_memory.false) ends)
    c.end.ensures

pub returns-clause-right : goal.returns-clause-right
returns-clause-right g c =
    IfOk-weaker c.end.result (EndsAs c.look_on.new.query) (IsRight c.args.ready.now)
    (λ end ends. ran_right c.args.ready.now c.args.pass.now c.look_on.new.pass end
    (ran c.args.pass.now c.look_on.new.pass c.args.ready.now c.in_ok-query.query c.look_on.new.query end c.in_ok-query.ensures c.look_on.ensures.looked c.look_on.ensures.stopped
    (sym c.wants_memory.ensures ∙ c.if-wants_memory.false) ends))
    c.end.ensures

pub returns-then-wants_memory-clause-short : goal.returns-then-wants_memory-clause-short
returns-then-wants_memory-clause-short g c =
    ran_some c.args.pass.now c.look_on.new.pass c.args.ready.now c.in_ok-query.query c.look_on.new.query c.in_ok-query.ensures c.look_on.ensures.looked c.look_on.ensures.stopped

pub returns-clause-short : goal.returns-clause-short
returns-clause-short g c =
    failed_too c.end.result
    (ran_some c.args.pass.now c.look_on.new.pass c.args.ready.now c.in_ok-query.query c.look_on.new.query c.in_ok-query.ensures c.look_on.ensures.looked c.look_on.ensures.stopped)
