use Rattle.bundle_text.proofs.GatherLaws.{given_found, given_reads, given_fault}
use Rattle.bundle_text.proofs.gather.gather_bundle.Goals as goal

pub returns-clause-found : goal.returns-clause-found
returns-clause-found c = given_found c.args.lists.now c.args.query.now c.gather.result c.gather.ensures

pub returns-clause-reads : goal.returns-clause-reads
returns-clause-reads c = given_reads c.args.lists.now c.args.query.now c.gather.result c.gather.ensures

pub returns-clause-fault : goal.returns-clause-fault
returns-clause-fault c = given_fault c.args.lists.now c.args.query.now c.gather.result c.gather.ensures
