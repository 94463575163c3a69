use Rattle.page_json.proofs.TextsBack.{page_reads_back}
use Rattle.page_json.proofs.laws.pages_read_back.Goals as goal

pub returns : goal.returns
returns c = page_reads_back
