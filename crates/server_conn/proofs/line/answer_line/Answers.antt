use Rattle.std.proofs.Common.{subst}
use Rattle.std.proofs.lemmas.Result.{IfOk-weaker, on_err_weaker}
use Rattle.query_admission.specs.Admission.{Admits}
use Rattle.query_admission.specs.Causes.{line_over}
use Rattle.server_conn.specs.Entries.{view_in, HasSources}
use Rattle.server_conn.specs.Becoming.{RunsTo, BecomesHere}
use Rattle.query_run.proofs.KnowsLaws.{knows_same}
use Rattle.server_conn.proofs.PassLaws.{may_still}
use Rattle.server_conn.proofs.LineLaws.{run_becomes, runs_short}
use Rattle.server_conn.proofs.line.answer_line.Goals as goal

pub returns-in-Ok-Ready-clause-fit : goal.returns-in-Ok-Ready-clause-fit
returns-in-Ok-Ready-clause-fit g c =
    let ran = c.run_ready.ensures in
    may_still c.args.catalog.now c.args.pool.now c.args.pass.now c.run_ready.new.pass ran.own ran.rests ran.knows c.requires.fit

pub returns-in-Ok-Refused-clause-knows : goal.returns-in-Ok-Refused-clause-knows
returns-in-Ok-Refused-clause-knows g c = knows_same c.args.pass.now

pub returns-in-Err-clause-knows : goal.returns-in-Err-clause-knows
returns-in-Err-clause-knows g c = knows_same c.args.pass.now

pub run_ready-requires-clause-sources : goal.run_ready-requires-clause-sources
run_ready-requires-clause-sources g c κs within =
    subst (HasSources c.args.pass.now) c.in-Ok-Ready.field-0-is (c.in-Ok-Ready.ensures.sources c.args.pass.now c.requires.fit.sources)

pub returns-in-Ok-Ready-clause-becomes : goal.returns-in-Ok-Ready-clause-becomes
returns-in-Ok-Ready-clause-becomes g c =
    let view = view_in c.args.catalog.now in
    let line = c.args.line.now in
    let before = c.args.pass.now in
    let now = c.run_ready.new.pass in
    let ready = c.in-Ok-Ready.ready in
    IfOk-weaker c.run_ready.result (RunsTo ready before now) (BecomesHere view 1 line before now)
    (run_becomes view 1 line before now ready (subst (Admits (line_over view 1 line)) c.in-Ok-Ready.field-0-is c.in-Ok-Ready.ensures.admits)) c.run_ready.ensures.runs

pub returns-in-Ok-Ready-clause-short : goal.returns-in-Ok-Ready-clause-short
returns-in-Ok-Ready-clause-short g c =
    let view = view_in c.args.catalog.now in
    let line = c.args.line.now in
    let ready = c.in-Ok-Ready.ready in
    on_err_weaker c.run_ready.result
    (runs_short view 1 line c.args.pass.now c.run_ready.new.pass ready
    (subst (Admits (line_over view 1 line)) c.in-Ok-Ready.field-0-is c.in-Ok-Ready.ensures.admits)) c.run_ready.ensures.short
