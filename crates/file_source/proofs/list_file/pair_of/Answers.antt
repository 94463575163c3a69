use Rattle.file_source.proofs.FieldLaws.{lacks_first, lacks_second, has_third, is_pair}
use Rattle.file_source.proofs.list_file.pair_of.Goals as goal

pub returns-in_default : goal.returns-in_default
returns-in_default c = lacks_first _ c.in_default.ensures.value

pub returns-in_default-get : goal.returns-in_default-get
returns-in_default-get c = lacks_second _ c.in_default-get.ensures.value

pub returns-then-is_some : goal.returns-then-is_some
returns-then-is_some c = has_third _ c.get-3.result c.get-3.ensures.value c.if-is_some.ensures

pub returns : goal.returns
returns c = is_pair _ c.in-Some.first.now c.in-Some-get.second.now c.get-3.result c.in-Some.ensures.value c.in-Some-get.ensures.value c.get-3.ensures.value c.if-is_some.ensures
