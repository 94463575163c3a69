use Rattle.std.proofs.Common.{Err, inl, refl, subst, ap, ◌∙◌, arith}
use Rattle.std.proofs.KnownBytes.{Keeps-refl}
use Rattle.csv_records.specs.Records.{records_of}
use Rattle.source_api.specs.declared.source.Trouble.TheVariants.{Fail}
use Rattle.catalog_text.specs.Catalog.{IsCatalog}
use Rattle.catalog_text.specs.Judging.{Judges}
use Rattle.command_line.specs.Calls.{Call, output_as, outside_of, call_at}
use Rattle.command_line.specs.Shelves.{Shelf, GivesText}
use Rattle.command_line.proofs.Ending.{shelf_at}
use Rattle.catalog_run.specs.RunEnds.{from_shelf}
use Rattle.catalog_run.proofs.RunEnding.{asks_text, text_failed, text_given, text_refused}
use Rattle.port_calls.specs.Ports.{ports_of}
use Rattle.port_calls.proofs.Ending.{ends_at_fault, ends_on, ends_served}
use Rattle.port_calls.proofs.serve_command.serve.Goals as goal

pub returns-in-Ok-read-clause-ends : goal.returns-in-Ok-read-clause-ends
returns-in-Ok-read-clause-ends g c = λ words input.
    let before : Shelf = shelf_at (g.H.Shelf.texts c.args.shelf.now) (g.H.Shelf.lists c.args.shelf.now) (g.H.Shelf.versions c.args.shelf.now) (g.H.Shelf.at c.args.shelf.now) in
    let given : Shelf = shelf_at (g.H.Shelf.texts c.text.new.self) (g.H.Shelf.lists c.text.new.self) (g.H.Shelf.versions c.text.new.self) (g.H.Shelf.at c.text.new.self) in
    let after : Shelf = shelf_at (g.H.Shelf.texts c.serve_lists-served.new.shelf) (g.H.Shelf.lists c.serve_lists-served.new.shelf) (g.H.Shelf.versions c.serve_lists-served.new.shelf) (g.H.Shelf.at c.serve_lists-served.new.shelf) in
    let call : Call = call_at words (outside_of input (output_as g.K.Sink.held g.K.Sink.faults c.args.out.now) before) (outside_of input (output_as g.K.Sink.held g.K.Sink.faults c.end_served.new.out) after) in
    let gives : GivesText c.args.options.now.catalog before given c.in-Ok.text.items =
    text_given c.args.options.now.catalog c.as_str.result.now before given c.in-Ok.text.items c.as_str.ensures c.text.ensures.texts c.text.ensures.lists c.text.ensures.versions c.text.ensures.elsewhere c.text.ensures.counts
    c.in-Ok.ensures.text (omega (arith, c.in-Ok.ensures.within, c.in-Ok.text.ok.0)) in
    ends_on c.args.options.now call (ports_of g.P.Port.links g.P.Port.closed g.P.Port.faults g.P.Port.calls (c.args.port.now, c.serve_lists-served.new.port)) c.end_served.result (
      c.in-Ok.text.items,
      given,
      gives,
      ends_served c.args.options.now c.in-Ok.text.items c.in-Ok-read.catalog (from_shelf given call) (ports_of g.P.Port.links g.P.Port.closed g.P.Port.faults g.P.Port.calls (c.args.port.now, c.serve_lists-served.new.port))
          c.serve_lists-served.result c.end_served.result (subst (λ bytes. IsCatalog (records_of bytes) c.in-Ok-read.catalog) c.deref.ensures.value c.in-Ok-read.ensures)
          c.serve_lists-served.ensures c.end_served.ensures.says,
    )

pub returns-in-Err-clause-ends : goal.returns-in-Err-clause-ends
returns-in-Err-clause-ends g c = λ words input.
    let before : Shelf = shelf_at (g.H.Shelf.texts c.args.shelf.now) (g.H.Shelf.lists c.args.shelf.now) (g.H.Shelf.versions c.args.shelf.now) (g.H.Shelf.at c.args.shelf.now) in
    let given : Shelf = shelf_at (g.H.Shelf.texts c.text.new.self) (g.H.Shelf.lists c.text.new.self) (g.H.Shelf.versions c.text.new.self) (g.H.Shelf.at c.text.new.self) in
    let call : Call = call_at words (outside_of input (output_as g.K.Sink.held g.K.Sink.faults c.args.out.now) before) (outside_of input (output_as g.K.Sink.held g.K.Sink.faults c.refuse.new.out) given) in
    let gives : GivesText c.args.options.now.catalog before given c.in-Ok.text.items =
    text_given c.args.options.now.catalog c.as_str.result.now before given c.in-Ok.text.items c.as_str.ensures c.text.ensures.texts c.text.ensures.lists c.text.ensures.versions c.text.ensures.elsewhere c.text.ensures.counts
    c.in-Ok.ensures.text (omega (arith, c.in-Ok.ensures.within, c.in-Ok.text.ok.0)) in
    ends_on c.args.options.now call (ports_of g.P.Port.links g.P.Port.closed g.P.Port.faults g.P.Port.calls (c.args.port.now, c.args.port.now)) c.refuse.result (
      c.in-Ok.text.items,
      given,
      gives,
      ends_at_fault c.args.options.now c.in-Ok.text.items (from_shelf given call) (ports_of g.P.Port.links g.P.Port.closed g.P.Port.faults g.P.Port.calls (c.args.port.now, c.args.port.now)) c.in-Err.fault c.refuse.result
          (subst (λ bytes. Judges (records_of bytes) (Err c.in-Err.fault)) c.deref.ensures.value c.in-Err.ensures) (record { shelf = refl; port = refl }) c.refuse.ensures.says,
    )

pub returns-in-Err-Fail-Failed-clause-ends : goal.returns-in-Err-Fail-Failed-clause-ends
returns-in-Err-Fail-Failed-clause-ends g c = λ words input.
    let before : Shelf = shelf_at (g.H.Shelf.texts c.args.shelf.now) (g.H.Shelf.lists c.args.shelf.now) (g.H.Shelf.versions c.args.shelf.now) (g.H.Shelf.at c.args.shelf.now) in
    let given : Shelf = shelf_at (g.H.Shelf.texts c.text.new.self) (g.H.Shelf.lists c.text.new.self) (g.H.Shelf.versions c.text.new.self) (g.H.Shelf.at c.text.new.self) in (
      text_failed c.args.options.now.catalog c.as_str.result.now before given c.in-Err-Fail-Failed.field-0 (c.in-Err-Fail-Failed.field-0-is ∙ ap Fail (rw c.in-Err-Fail-Failed.field-0-is at c.in-Err-Fail-Failed.field-0-0-is)) c.as_str.ensures
          (asks_text c.args.options.now.catalog c.as_str.result.now before given c.as_str.ensures c.text.ensures.texts c.text.ensures.lists c.text.ensures.versions c.text.ensures.elsewhere c.text.ensures.counts)
          c.in-Err-Fail-Failed.ensures.cause,
      refl,
      record { held = Keeps-refl (g.K.Sink.held c.args.out.now); faults = refl },
    )

pub returns-in-Err-Fail-Memory-clause-ends : goal.returns-in-Err-Fail-Memory-clause-ends
returns-in-Err-Fail-Memory-clause-ends g c = λ words input.
    let before : Shelf = shelf_at (g.H.Shelf.texts c.args.shelf.now) (g.H.Shelf.lists c.args.shelf.now) (g.H.Shelf.versions c.args.shelf.now) (g.H.Shelf.at c.args.shelf.now) in
    let given : Shelf = shelf_at (g.H.Shelf.texts c.text.new.self) (g.H.Shelf.lists c.text.new.self) (g.H.Shelf.versions c.text.new.self) (g.H.Shelf.at c.text.new.self) in
    inl (
      text_refused c.args.options.now.catalog c.as_str.result.now before given c.in-Err-Fail-Memory.field-0 (c.in-Err-Fail-Memory.field-0-is ∙ ap Fail (rw c.in-Err-Fail-Memory.field-0-is at c.in-Err-Fail-Memory.field-0-0-is)) c.as_str.ensures
          (asks_text c.args.options.now.catalog c.as_str.result.now before given c.as_str.ensures c.text.ensures.texts c.text.ensures.lists c.text.ensures.versions c.text.ensures.elsewhere c.text.ensures.counts)
          c.in-Err-Fail-Memory.ensures.cause,
      refl,
      record { held = Keeps-refl (g.K.Sink.held c.args.out.now); faults = refl },
    )
