use Rattle.std.proofs.Common.{ℕ, List, ◌∷◌, map, ap, arith}
use Rattle.std.specs.Option.{option_copied}
use Rattle.std.proofs.lemmas.Option.{slice_get-get_or}
use Rattle.topk_theory.proofs.ThresholdLists.{map_map}
use Rattle.tk_io.proofs.Putting.{puts_none, puts_next_of, puts_as, puts_all}
use Rattle.cert_text.specs.declared.fields.FieldValue.{FieldValue}
use Rattle.cert_text.specs.declared.fields.FieldValue.TheVariants as values
use Rattle.cert_text.specs.Outcome.{names_of}
use Rattle.cert_text.specs.Refusal.{field_word}
use Rattle.cert_text.specs.Writing.{further, shown_field}
use Rattle.cert_text.proofs.refusal.put_fields.Goals as goal

pub loop-field-init : goal.loop-field-init
loop-field-init g c = puts_none _

pub loop-field-preserved : goal.loop-field-preserved
loop-field-preserved g c =
    puts_next_of (λ (word : List ℕ). 32 ∷ word) (λ (field : FieldValue). field_word (names_of (option_copied c.args.query)) (shown_field field)) c.args.fields.now c.loop-field.field-index _ _ _ _
    (slice_get-get_or c.args.fields.now c.loop-field.field-index (values.Number 0) (omega arith)) c.loop-field.invariant (rw c.word_of.ensures at c.put_further.ensures)

pub returns : goal.returns
returns g c =
    let words = λ (field : FieldValue). field_word (names_of (option_copied c.args.query)) (shown_field field) in
    puts_as _ _ _ (further (map words c.args.fields.now)) (ap further (map_map (field_word (names_of (option_copied c.args.query))) shown_field c.args.fields.now))
    (puts_all (λ fields. further (map words fields)) c.args.fields.now c.loop-field.field-index _ _ (omega arith) c.loop-field.invariant)
