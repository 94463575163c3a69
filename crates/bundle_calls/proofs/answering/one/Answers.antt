use Rattle.std.proofs.Common.{refl, subst}
use Rattle.std.proofs.KnownBytes.{Keeps-refl}
use Rattle.topk_base.specs.declared.TheConstants.{MAX_INPUT}
use Rattle.tk_io.specs.Whole.{StopsReading}
use Rattle.command_line.specs.Calls.{output_as}
use Rattle.bundle_calls.specs.Reply.{Replies}
use Rattle.bundle_calls.specs.Outcomes.{SaysReply}
use Rattle.bundle_calls.proofs.Ending.{ends_one}
use Rattle.bundle_calls.proofs.answering.one.Goals as goal

pub returns-in-Ok-clause-ends : goal.returns-in-Ok-clause-ends
returns-in-Ok-clause-ends g c = λ words shelf.
    ends_one _ c.in-Ok.text.items c.answer_text.result
    (record { given = c.in-Ok.ensures.whole; faults = c.in-Ok.ensures.quiet })
    (subst (λ bytes. SaysReply Replies bytes (output_as g.K.Sink.held g.K.Sink.faults c.args.out.now) (output_as g.K.Sink.held g.K.Sink.faults c.answer_text.new.out) c.answer_text.result)
    c.deref.ensures.value c.answer_text.ensures.says)

pub returns-in-Err-Failed-clause-ends : goal.returns-in-Err-Failed-clause-ends
returns-in-Err-Failed-clause-ends g c = λ words shelf.
    let stopped = subst (StopsReading MAX_INPUT (g.R.Intake.left c.args.input.now) (g.R.Intake.left c.read_text.new.input) (g.R.Intake.faults c.args.input.now) (g.R.Intake.faults c.read_text.new.input))
    c.in-Err-Failed.field-0-is c.in-Err-Failed.ensures.stopped in
    (record { given = stopped.0; faults = stopped.1 }, record { held = Keeps-refl (g.K.Sink.held c.args.out.now); faults = refl })

pub returns-in-Err-Long-clause-ends : goal.returns-in-Err-Long-clause-ends
returns-in-Err-Long-clause-ends g c = λ words shelf.
    let stopped = subst (StopsReading MAX_INPUT (g.R.Intake.left c.args.input.now) (g.R.Intake.left c.read_text.new.input) (g.R.Intake.faults c.args.input.now) (g.R.Intake.faults c.read_text.new.input))
    c.in-Err-Long.field-0-is c.in-Err-Long.ensures.stopped in
    (record { given = stopped.0; faults = stopped.1 }, record { held = Keeps-refl (g.K.Sink.held c.args.out.now); faults = refl })

pub returns-in-Err-Memory-clause-ends : goal.returns-in-Err-Memory-clause-ends
returns-in-Err-Memory-clause-ends g c = λ words shelf.
    let stopped = subst (StopsReading MAX_INPUT (g.R.Intake.left c.args.input.now) (g.R.Intake.left c.read_text.new.input) (g.R.Intake.faults c.args.input.now) (g.R.Intake.faults c.read_text.new.input))
    c.in-Err-Memory.field-0-is c.in-Err-Memory.ensures.stopped in
    (record { given = stopped.0; faults = stopped.1 }, record { held = Keeps-refl (g.K.Sink.held c.args.out.now); faults = refl })
