use Rattle.std.proofs.Common.{◌++◌, ◌∷◌, [], sym, ap, refl, subst}
use Rattle.containers.specs.Keys.{Keys}
use Rattle.access_log.specs.RecordsKept.{AreRecords}
use Rattle.access_log.proofs.ObjectsKept.{records_named, unnamed_record, unnamed}
use Rattle.access_log.proofs.objects.Objects.name.Goals as goal

pub returns-clause-records : goal.returns-clause-records
returns-clause-records c = λ m A few h n.
    subst (λ rs. AreRecords m A c.add.new.self.keys rs) (sym c.push_reserved.ensures.items)
    (subst (λ ks. AreRecords m A ks (c.args.self.now.records.items ++ unnamed ∷ [])) (sym (ap (λ (map : Keys). map.keys) c.add.ensures.added))
    (records_named m A c.args.self.now.names.keys c.args.self.now.records.items c.args.object unnamed h (unnamed_record m A c.args.object unnamed refl refl refl n)))
