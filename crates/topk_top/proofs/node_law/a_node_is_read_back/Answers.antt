use Rattle.topk_top.proofs.ReadLaws.{Laws, size_read, rows_read, grade_read}
use Rattle.topk_top.proofs.node_law.a_node_is_read_back.Goals as goal

pub returns-clause-size : goal.returns-clause-size
returns-clause-size c =
    let laws : Laws = record { says = c.a_body_says_its_answer.ensures.says; short = c.a_body_says_its_answer.ensures.short; size = c.what_is_said_is_given.ensures.size; page = c.what_is_said_is_given.ensures.page; grade = c.what_is_said_is_given.ensures.grade } in
    size_read laws c.args.heap

pub returns-clause-page : goal.returns-clause-page
returns-clause-page c =
    let laws : Laws = record { says = c.a_body_says_its_answer.ensures.says; short = c.a_body_says_its_answer.ensures.short; size = c.what_is_said_is_given.ensures.size; page = c.what_is_said_is_given.ensures.page; grade = c.what_is_said_is_given.ensures.grade } in
    rows_read laws c.args.heap

pub returns-clause-grade : goal.returns-clause-grade
returns-clause-grade c =
    let laws : Laws = record { says = c.a_body_says_its_answer.ensures.says; short = c.a_body_says_its_answer.ensures.short; size = c.what_is_said_is_given.ensures.size; page = c.what_is_said_is_given.ensures.page; grade = c.what_is_said_is_given.ensures.grade } in
    grade_read laws c.args.heap
