use Rattle.http_source.proofs.GivingLaws.{gives_size, gives_page, gives_grade}
use Rattle.http_source.proofs.laws.what_is_said_is_given.Goals as goal

pub returns-clause-size : goal.returns-clause-size
returns-clause-size c = gives_size c.replies_say_one_thing.ensures.size

pub returns-clause-page : goal.returns-clause-page
returns-clause-page c = gives_page c.replies_say_one_thing.ensures.page

pub returns-clause-grade : goal.returns-clause-grade
returns-clause-grade c = gives_grade c.replies_say_one_thing.ensures.grade
