use Rattle.std.proofs.Common.{inl, inr, refl}
use Rattle.std.proofs.KnownBytes.{Keeps-refl}
use Rattle.bundle_calls.specs.Lists.{printed_lines}
use Rattle.bundle_calls.specs.Outcomes.{reply_text, reply_status}
use Rattle.bundle_calls.proofs.Replying.{replies_to_lines}
use Rattle.bundle_calls.proofs.lists.answer_lists.Goals as goal

pub returns-in-Ok-clause-says : goal.returns-in-Ok-clause-says
returns-in-Ok-clause-says g c =
    inr (reply_status c.in-Ok.reply, reply_text c.in-Ok.reply, replies_to_lines (printed_lines c.args.lists.now c.args.query.now) c.in-Ok.reply c.in-Ok.ensures, c.write_reply-status.ensures.says)

pub returns-in-Err-clause-says : goal.returns-in-Err-clause-says
returns-in-Err-clause-says g c = inl (refl, Keeps-refl (g.K.Sink.held c.args.out.now), refl)
