use Rattle.ca_core.proofs.Renewing.{was_late, was_open, seen_noted}
use Rattle.ca_core.proofs.late_seen.LateSeen.note.Goals as goal

pub note-requires-clause-before : goal.note-requires-clause-before
note-requires-clause-before c = was_late c.args.base.now c.args.object c.args.self.now c.requires.held c.requires.before

pub note-requires-2-clause-before : goal.note-requires-2-clause-before
note-requires-2-clause-before c = was_open c.args.base.now c.args.object c.args.self.now c.requires.held c.requires.before

pub returns : goal.returns
returns c =
    seen_noted c.args.base.now c.args.object c.args.self.now c.note.new.self c.note-2.new.self c.requires.before c.note.ensures.k c.note.ensures.room c.note.ensures.kept c.note-2.ensures.room c.note-2.ensures.kept
