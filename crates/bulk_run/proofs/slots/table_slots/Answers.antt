use Rattle.std.proofs.Common.{All, sym, subst, ◌∙◌}
use Rattle.bulk_run.specs.Held.{AreSmall}
use Rattle.bulk_run.proofs.TableLaws.{table_small}
use Rattle.bulk_run.proofs.slots.table_slots.Goals as goal

pub slots_of-requires : goal.slots_of-requires
slots_of-requires c = subst (All AreSmall) (sym (c.deref.ensures.value ∙ c.in-Ok.ensures.made)) (table_small c.args.start c.args.count c.args.lists)
