use Rattle.source_node.proofs.BodyLaws.{says, short}
use Rattle.source_node.proofs.laws.a_body_says_its_answer.Goals as goal

pub returns-clause-says : goal.returns-clause-says
returns-clause-says c = says record { sizes = c.sizes_read_back.ensures; pages = c.pages_read_back.ensures; grades = c.grades_read_back.ensures }

pub returns-clause-short : goal.returns-clause-short
returns-clause-short c = short record { sizes = c.bodies_are_short.ensures.size; pages = c.bodies_are_short.ensures.page; grades = c.bodies_are_short.ensures.grade }
