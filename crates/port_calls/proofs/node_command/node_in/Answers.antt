use Rattle.std.proofs.Common.{◌≡◌, ◌∙◌, Some, None, inl, option_map, sym, ap, refl, subst}
use Rattle.std.proofs.KnownBytes.{Keeps-refl}
use Rattle.command_line.specs.Calls.{Call, output_as, shelf_as, outside_of, call_at}
use Rattle.command_line.specs.Ends.{Says}
use Rattle.command_line.specs.declared.status.Status.TheVariants.{Partial}
use Rattle.port_calls.specs.Named.{place_named}
use Rattle.port_calls.specs.NodeTexts.{unlisted_text}
use Rattle.port_calls.specs.Ports.{ports_of}
use Rattle.port_calls.proofs.NodeEnding.{ends_listed, ends_unlisted}
use Rattle.port_calls.proofs.node_command.node_in.Goals as goal

pub returns-in-Ok-clause-ends : goal.returns-in-Ok-clause-ends
returns-in-Ok-clause-ends g c = λ words input text is.
    let named : place_named c.args.options.now.name c.args.catalog.now ≡ Some c.in-Some.place.now =
    sym (ap (λ name. place_named name c.args.catalog.now) c.as_str.ensures) ∙ sym c.place_named.ensures ∙ ap (option_map (λ place. place.now)) c.in-Some.is in
    ends_listed c.args.options.now text _ _ c.serve_place-status.result
    (record { catalog = c.args.catalog.now; is = is; place = c.in-Some.place.now; named = named; ends = c.serve_place-status.ensures.ends words input })

pub returns-in-Some-clause-ends : goal.returns-in-Some-clause-ends
returns-in-Some-clause-ends g c = λ words input text is.
    inl (record { shelf = refl; port = refl }, record { held = Keeps-refl (g.K.Sink.held c.args.out.now); faults = refl })

pub returns-clause-ends : goal.returns-clause-ends
returns-clause-ends g c = λ words input text is.
    let shelf = shelf_as g.H.Shelf.texts g.H.Shelf.lists g.H.Shelf.versions g.H.Shelf.at c.args.shelf.now in
    let call : Call = call_at words (outside_of input (output_as g.K.Sink.held g.K.Sink.faults c.args.out.now) shelf) (outside_of input (output_as g.K.Sink.held g.K.Sink.faults c.refuse_name.new.out) shelf) in
    let none : place_named c.args.options.now.name c.args.catalog.now ≡ None =
    sym (ap (λ name. place_named name c.args.catalog.now) c.as_str.ensures) ∙ sym c.place_named.ensures ∙ ap (option_map (λ place. place.now)) c.in-None.is in
    ends_unlisted c.args.options.now text (unlisted_text c.args.options.now.name) call (ports_of g.P.Port.links g.P.Port.closed g.P.Port.faults g.P.Port.calls (c.args.port.now, c.args.port.now)) c.refuse_name.result
    (record { catalog = c.args.catalog.now; is = is; none = none; said_is = refl; nothing = record { shelf = refl; port = refl } })
    (subst (λ name. Says (output_as g.K.Sink.held g.K.Sink.faults c.args.out.now) (output_as g.K.Sink.held g.K.Sink.faults c.refuse_name.new.out) (unlisted_text name) Partial c.refuse_name.result)
    c.as_str-in-None.ensures c.refuse_name.ensures.says)
