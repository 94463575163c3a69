use Rattle.std.proofs.Common.{refl, sym, subst}
use Rattle.std.proofs.KnownBytes.{Keeps-refl}
use Rattle.command_line.specs.Calls.{output_as}
use Rattle.catalog_run.specs.Faults.{SaysFault}
use Rattle.command_line.specs.declared.status.Status.TheVariants.{Memory}
use Rattle.catalog_run.proofs.command.refuse.Goals as goal

pub returns-in-CatalogLine-clause-says : goal.returns-in-CatalogLine-clause-says
returns-in-CatalogLine-clause-says g c =
    subst (λ fault. SaysFault (output_as g.K.Sink.held g.K.Sink.faults c.args.out.now) (output_as g.K.Sink.held g.K.Sink.faults c.refuse_catalog.new.out) fault c.refuse_catalog.result)
    (sym c.in-CatalogLine.is) c.refuse_catalog.ensures.says

pub returns-in-SameName-clause-says : goal.returns-in-SameName-clause-says
returns-in-SameName-clause-says g c =
    subst (λ fault. SaysFault (output_as g.K.Sink.held g.K.Sink.faults c.args.out.now) (output_as g.K.Sink.held g.K.Sink.faults c.refuse_catalog-in-SameName.new.out) fault c.refuse_catalog-in-SameName.result)
    (sym c.in-SameName.is) c.refuse_catalog-in-SameName.ensures.says

pub returns-in-Memory-clause-says : goal.returns-in-Memory-clause-says
returns-in-Memory-clause-says g c =
    subst (λ fault. SaysFault (output_as g.K.Sink.held g.K.Sink.faults c.args.out.now) (output_as g.K.Sink.held g.K.Sink.faults c.args.out.now) fault Memory) (sym c.in-Memory.is)
    (refl, Keeps-refl (g.K.Sink.held c.args.out.now), refl)
