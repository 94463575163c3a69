use Rattle.page_json.proofs.Lengths.{size_len, page_len, grade_len}
use Rattle.page_json.proofs.laws.bodies_are_short.Goals as goal

pub returns-clause-size : goal.returns-clause-size
returns-clause-size c = size_len

pub returns-clause-page : goal.returns-clause-page
returns-clause-page c = page_len

pub returns-clause-grade : goal.returns-clause-grade
returns-clause-grade c = grade_len
