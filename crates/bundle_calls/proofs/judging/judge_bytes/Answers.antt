use Rattle.std.proofs.Common.{inl, inr, refl}
use Rattle.std.proofs.KnownBytes.{Keeps-refl}
use Rattle.cert_judge.specs.Text.{told_text}
use Rattle.command_line.proofs.Ending.{said, said_as}
use Rattle.bundle_calls.specs.Judge.{told_status}
use Rattle.bundle_calls.proofs.judging.judge_bytes.Goals as goal

pub returns-in-Ok-clause-says : goal.returns-in-Ok-clause-says
returns-in-Ok-clause-says g c =
    inr (
      told_status c.in-Ok.told,
      told_text c.in-Ok.told,
      record { told = c.in-Ok.told; tells = c.in-Ok.ensures; status_is = refl; text_is = refl },
      said_as _ _ _ _ _ _ c.told_status-status.result _ _ refl c.told_status-status.ensures
          (said _ _ _ _ _ c.told_status-status.result c.ended.result c.write_told-written.result c.write_told-written.ensures.whole c.write_told-written.ensures.front c.write_told-written.ensures.cause c.ended.ensures),
    )

pub returns-in-Err-clause-says : goal.returns-in-Err-clause-says
returns-in-Err-clause-says g c = inl (refl, Keeps-refl (g.K.Sink.held c.args.out.now), refl)
