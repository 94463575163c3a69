use Rattle.fetcher.proofs.ToldLaws.{fetched_tells, fetched_from_nothing}
use Rattle.fetcher.proofs.laws.turns_tell_the_list.Goals as goal

pub returns-clause-on : goal.returns-clause-on
returns-clause-on c = λ page ahead list before after fetched h. fetched_tells page ahead list before after fetched h

pub returns-clause-begins : goal.returns-clause-begins
returns-clause-begins c = λ page ahead list before after fetched none. fetched_from_nothing page ahead list before after fetched none
