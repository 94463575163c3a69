use Rattle.fetcher.proofs.ToldLaws.{never_repeated, never_clashes}
use Rattle.fetcher.proofs.laws.told_lists_neither_repeat_nor_clash.Goals as goal

pub returns-clause-repeated : goal.returns-clause-repeated
returns-clause-repeated c = λ list log object place h. never_repeated list log object place h

pub returns-clause-clash : goal.returns-clause-clash
returns-clause-clash c = λ list log object sorted random h. never_clashes list log object sorted random h
