use Rattle.catalog_text.proofs.FieldLaws.{lacks_first, lacks_second, lacks_third, has_fifth, has_fields}
use Rattle.catalog_text.proofs.fields.fields_in.Goals as goal

pub returns-in_default : goal.returns-in_default
returns-in_default c = lacks_first _ c.in_default.ensures.value

pub returns-in_default-get : goal.returns-in_default-get
returns-in_default-get c = lacks_second _ c.in_default-get.ensures.value

pub returns-in_default-get-2 : goal.returns-in_default-get-2
returns-in_default-get-2 c = lacks_third _ c.in_default-get-2.ensures.value

pub returns-then-is_some : goal.returns-then-is_some
returns-then-is_some c = has_fifth _ c.get-4.result c.get-4.ensures.value c.if-is_some.ensures

pub returns : goal.returns
returns c =
    has_fields _ c.in-Some.first.now c.in-Some-get.second.now c.in-Some-get-2.third.now c.get-5.result c.get-4.result c.in-Some.ensures.value c.in-Some-get.ensures.value
    c.in-Some-get-2.ensures.value c.get-5.ensures.value c.get-4.ensures.value c.if-is_some.ensures
