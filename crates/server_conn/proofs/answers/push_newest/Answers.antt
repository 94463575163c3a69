use Rattle.server_conn.proofs.AnswerLaws.{pushed_newest}
use Rattle.server_conn.proofs.answers.push_newest.Goals as goal

pub returns-clause-newest : goal.returns-clause-newest
returns-clause-newest c =
    pushed_newest c.args.kept.now.items c.make_room.new.kept.items c.push_reserved.new.self.items c.args.answer c.make_room.ensures.made c.push_reserved.ensures.items
