-- The words of a line.
use Rattle.std.specs.Prelude.{ℕ, ◌∷◌, List, map}
use Rattle.std.specs.Fmt.{decimal}
use Rattle.std.specs.List.{flat_map}
use Rattle.cert_text.specs.declared.words.Word.{Word}
use Rattle.cert_text.specs.declared.words.Word.TheVariants.{Text, Number}
use Rattle.cert_text.specs.declared.fields.FieldValue.{FieldValue}
use Rattle.cert_text.specs.declared.fields.FieldValue.TheVariants as values
use Rattle.cert_text.specs.declared.fields.Fields.{Fields}
use Rattle.cert_text.specs.declared.fields.Fields.TheVariants.{One, Two, Three, Four}
use Rattle.cert_text.specs.Refusal.{Field}

-- the bytes of a word
abbrev pub word_text : Word → List ℕ
word_text (Text text) = text.now
word_text (Number n) = decimal n

-- the words of a line after its first
abbrev pub further : List (List ℕ) → List ℕ
further words = flat_map (λ (word : List ℕ). 32 ∷ word) words

-- the field of a refusal that a value stands for
abbrev pub shown_field : FieldValue → Field
shown_field (values.Number n) = Field.number n
shown_field (values.Wide n) = Field.number n
shown_field (values.List list) = Field.list list

-- the fields that one to four values stand for, in their order
abbrev pub shown_fields : Fields → List Field
shown_fields (One values) = map shown_field values
shown_fields (Two values) = map shown_field values
shown_fields (Three values) = map shown_field values
shown_fields (Four values) = map shown_field values
