use Rattle.page_json.specs.Bodies.{IsSizeBody, IsPageBody, IsGradeBody}
use Rattle.http_source.proofs.OnlyLaws.{brings_one, says_one}
use Rattle.http_source.proofs.laws.replies_say_one_thing.Goals as goal

pub returns-clause-body : goal.returns-clause-body
returns-clause-body c = brings_one c.a_reply_is_the_only_answer.ensures.only

pub returns-clause-size : goal.returns-clause-size
returns-clause-size c = says_one (brings_one c.a_reply_is_the_only_answer.ensures.only) IsSizeBody c.a_body_says_one_thing.ensures.size

pub returns-clause-page : goal.returns-clause-page
returns-clause-page c = says_one (brings_one c.a_reply_is_the_only_answer.ensures.only) IsPageBody c.a_body_says_one_thing.ensures.page

pub returns-clause-grade : goal.returns-clause-grade
returns-clause-grade c = says_one (brings_one c.a_reply_is_the_only_answer.ensures.only) IsGradeBody c.a_body_says_one_thing.ensures.grade
