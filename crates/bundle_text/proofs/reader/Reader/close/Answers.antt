use Rattle.std.proofs.Common.{◌≡◌, List, [], ◌∷◌, ◌++◌, None, ap, ◌∙◌}
use Rattle.ranked_list.specs.declared.row.Row.{Row}
use Rattle.bundle_text.specs.declared.reader.Reader.{Reader}
use Rattle.bundle_text.proofs.TrackLaws.{next_front}
use Rattle.bundle_text.proofs.reader.Reader.close.Goals as goal

pub returns-clause-front : goal.returns-clause-front
returns-clause-front c =
    let before : Reader = c.args.self.now in
    let after : Reader = record {
      names = c.push_reserved.new.self;
      closed = c.push_reserved-2.new.self;
      name = c.replace.new.dest;
      rows = c.replace-2.new.dest;
      last = None;
      number = before.number;
      given = before.given;
    } in
    let names : c.push_reserved.new.self.items ≡ before.names.items ++ before.name ∷ [] =
    c.push_reserved.ensures.items ∙ ap (λ items. items ++ c.replace.result ∷ []) c.reserve.ensures.items ∙ ap (λ name. before.names.items ++ name ∷ []) c.replace.ensures.value in
    let closed : c.push_reserved-2.new.self.items ≡ before.closed.items ++ before.rows ∷ [] =
    c.push_reserved-2.ensures.items ∙ ap (λ items. items ++ c.replace-2.result ∷ []) c.reserve-2.ensures.items ∙ ap (λ (rows : List Row). before.closed.items ++ rows ∷ []) c.replace-2.ensures.value in
    next_front before after c.args.name.now names closed (ap (λ name. name.items) c.replace.ensures.after ∙ c.in_ok-name.ensures.items) (c.replace-2.ensures.after ∙ c.make.ensures)
