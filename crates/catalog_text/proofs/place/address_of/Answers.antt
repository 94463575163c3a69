use Rattle.catalog_text.proofs.AddressLaws.{no_address, these, not_these}
use Rattle.catalog_text.proofs.place.address_of.Goals as goal

pub returns-in_default : goal.returns-in_default
returns-in_default c = no_address c.args.text.now c.in_default.ensures

pub returns-in-Some-tested : goal.returns-in-Some-tested
returns-in-Some-tested c = these c.args.text.now c.in-Some.pieces c.in-Some-tested.address c.in-Some.ensures c.in-Some-tested.ensures

pub returns-in-None : goal.returns-in-None
returns-in-None c = not_these c.args.text.now c.in-Some.pieces c.in-Some.ensures c.in-None.ensures
