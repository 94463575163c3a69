use Rattle.std.proofs.Common.{sym}
use Rattle.clap.specs.Words.{found_of, rows_of}
use Rattle.command_line.proofs.RunningLaws.{settings_found}
use Rattle.command_line.proofs.running.settings_of.Goals as goal

pub returns-clause-found : goal.returns-clause-found
returns-clause-found c =
    sym (settings_found (rows_of (found_of c.args.matches.now)) _ _ _ c.in_ok-workers.ensures.number c.in_ok-page.ensures.number c.in_ok-ahead.ensures.number)
