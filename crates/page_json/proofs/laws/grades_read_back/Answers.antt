use Rattle.page_json.proofs.TextsBack.{grade_reads_back}
use Rattle.page_json.proofs.laws.grades_read_back.Goals as goal

pub returns : goal.returns
returns c = grade_reads_back
