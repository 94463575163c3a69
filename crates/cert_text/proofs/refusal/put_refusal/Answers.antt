use Rattle.std.proofs.Common.{[], ◌∷◌, ◌++◌, map, codes, ap, sym, subst, ◌∙◌}
use Rattle.std.specs.Option.{option_copied}
use Rattle.std.specs.Fmt.{decimal}
use Rattle.tk_io.specs.Pieces.{Puts}
use Rattle.tk_io.proofs.Putting.{puts_then}
use Rattle.cert_text.specs.Outcome.{names_of, refused_words}
use Rattle.cert_text.specs.Refusal.{field_word, refusal_row}
use Rattle.cert_text.specs.Writing.{further}
use Rattle.cert_text.proofs.WritingLaws.{refused_parts}
use Rattle.cert_text.proofs.refusal.put_refusal.Goals as goal

pub returns : goal.returns
unfolding refused_words
returns g c =
    let fields = map (field_word (names_of (option_copied c.args.query))) (refusal_row c.args.refusal).1 in
    let name = c.refusal_name.result.now in
    subst (Puts (g.P.Put.at c.args.out.now) (g.P.Put.at c.put-2.new.self))
    (sym (ap (λ n. refused_words c.args.line n fields ++ 10 ∷ []) (sym c.refusal_name.ensures) ∙ refused_parts (codes "refused") (decimal c.args.line) name fields))
    (puts_then _ _ _ (codes "refused") ((32 ∷ decimal c.args.line) ++ ((32 ∷ name) ++ (further fields ++ 10 ∷ []))) c.put.ensures.puts
    (puts_then _ _ _ (32 ∷ decimal c.args.line) ((32 ∷ name) ++ (further fields ++ 10 ∷ [])) c.put_further.ensures
    (puts_then _ _ _ (32 ∷ name) (further fields ++ 10 ∷ []) c.put_further-2.ensures
    (puts_then _ _ _ (further fields) (10 ∷ []) (rw (c.as_slice.ensures, c.fields_of-fields.ensures) at c.put_fields.ensures) c.put-2.ensures.puts))))
