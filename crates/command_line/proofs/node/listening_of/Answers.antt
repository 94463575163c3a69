use Rattle.std.proofs.Common.{sym}
use Rattle.clap.specs.Words.{found_of, rows_of}
use Rattle.command_line.proofs.NodeLaws.{listening_found}
use Rattle.command_line.proofs.node.listening_of.Goals as goal

pub returns : goal.returns
returns c =
    sym (listening_found (rows_of (found_of c.args.matches.now)) _ _ c.in_ok-at.ensures.number c.in_ok-conns.ensures.number)
