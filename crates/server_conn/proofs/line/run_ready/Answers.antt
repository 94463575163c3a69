use Rattle.std.proofs.lemmas.Result.{IfOk-weaker}
use Rattle.line_outcome.specs.LineOutcomes.{IsEndedAs, CanBeWritten}
use Rattle.server_conn.specs.Becoming.{RunsTo}
use Rattle.query_run.proofs.KnowsLaws.{knows_advanced}
use Rattle.server_conn.proofs.LineLaws.{runs_to, ran_some, if_short, ended_writable}
use Rattle.server_conn.proofs.line.run_ready.Goals as goal

pub returns-clause-knows : goal.returns-clause-knows
returns-clause-knows g c = knows_advanced c.args.ready.sources.items c.args.pass.now c.run_and_fetch.new.pass c.run_and_fetch.ensures.advances

pub returns-clause-runs : goal.returns-clause-runs
returns-clause-runs g c =
    let ready = c.args.ready in
    let ended = c.in-Ok.ended in
    IfOk-weaker c.line_ended.result (IsEndedAs ready ended) (RunsTo ready c.args.pass.now c.run_and_fetch.new.pass)
    (runs_to ready c.args.pass.now c.run_and_fetch.new.pass ended c.in-Ok.ensures.ran c.in-Ok.ensures.right) c.line_ended.ensures

pub returns-clause-writable : goal.returns-clause-writable
returns-clause-writable g c =
    let ready = c.args.ready in
    let ended = c.in-Ok.ended in
    IfOk-weaker c.line_ended.result (IsEndedAs ready ended) CanBeWritten
    (ended_writable ready c.args.pass.now c.run_and_fetch.new.pass ended c.in-Ok.ensures.ran c.in-Ok.ensures.right) c.line_ended.ensures

pub returns-clause-short : goal.returns-clause-short
returns-clause-short g c =
    if_short c.line_ended.result (ran_some c.args.ready c.args.pass.now c.run_and_fetch.new.pass c.in-Ok.ended c.in-Ok.ensures.ran)
