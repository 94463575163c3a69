use Rattle.page_json.proofs.TextsBack.{size_reads_back}
use Rattle.page_json.proofs.laws.sizes_read_back.Goals as goal

pub returns : goal.returns
returns c = size_reads_back
