use Rattle.query_text.proofs.ReadLaws.{reach_start}
use Rattle.query_text.proofs.reading.read_words.Goals as goal

pub take_words-outcome-requires-clause-start : goal.take_words-outcome-requires-clause-start
take_words-outcome-requires-clause-start c =
    reach_start c.args.bytes.now c.new-course.result c.new-draft.result c.new-course.ensures c.new-draft.ensures.names c.new-draft.ensures.frames c.new-draft.ensures.plain
