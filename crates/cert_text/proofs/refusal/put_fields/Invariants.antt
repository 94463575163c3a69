use Rattle.std.proofs.Common.{map, take}
use Rattle.std.specs.Option.{option_copied}
use Rattle.tk_io.specs.Pieces.{Puts}
use Rattle.cert_text.specs.Outcome.{names_of}
use Rattle.cert_text.specs.Refusal.{field_word}
use Rattle.cert_text.specs.Writing.{further, shown_field}
use Rattle.cert_text.proofs.refusal.put_fields.Given as goal

-- the fields so far were put
abbrev pub invariant-loop-field : goal.invariant-loop-field
invariant-loop-field g l =
    Puts (g.P.Put.at l.fn.out) (g.P.Put.at l.out)
    (further (map (λ field. field_word (names_of (option_copied l.query)) (shown_field field)) (take l.field-index l.fields)))
