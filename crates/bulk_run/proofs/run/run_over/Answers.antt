use Rattle.bulk_run.proofs.ReadsLaws.{unread_sparingly}
use Rattle.bulk_run.proofs.run.run_over.Goals as goal

pub returns-in_err-counts-clause-read : goal.returns-in_err-counts-clause-read
returns-in_err-counts-clause-read g c = unread_sparingly c.args.input c.args.settings c.args.slots.now.items c.requires.slots

pub returns-in_err-readies-clause-read : goal.returns-in_err-readies-clause-read
returns-in_err-readies-clause-read g c = unread_sparingly c.args.input c.args.settings c.args.slots.now.items c.requires.slots
