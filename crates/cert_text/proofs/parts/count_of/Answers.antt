use Rattle.std.proofs.Common.{◌≡◌, ℕ, List, codes, Option, Some, Bor, option_map, option_and_then, sym, ap, ◌∙◌}
use Rattle.topk_base.specs.Cuts.{rest_after}
use Rattle.topk_base.specs.declared.TheConstants.{MAX_OBJECTS}
use Rattle.cert_text.specs.Parts.{number_within, count_in}
use Rattle.cert_text.proofs.parts.count_of.Goals as goal

-- the number behind the word is the count
counted : (line : List ℕ) (given : Option (Bor (List ℕ))) (text : Bor (List ℕ)) (most : ℕ) (count : Option ℕ)
    → option_map (λ rest. rest.now) given ≡ rest_after (codes "count ") line → given ≡ Some text → most ≡ MAX_OBJECTS → count ≡ number_within 1 most text.now
    → count ≡ count_in line
unfolding count_in
counted line given text most count told is limit value =
    value ∙ ap (λ m. number_within 1 m text.now) limit
    ∙ ap (λ (rest : Option (List ℕ)). option_and_then (λ t. number_within 1 MAX_OBJECTS t) rest) (sym (ap (option_map (λ rest. rest.now)) is) ∙ told)

pub returns-in_err-count : goal.returns-in_err-count
returns-in_err-count c =
    c.from_residual-in_err-count.ensures ∙ sym c.in_err-count.was
    ∙ counted c.args.line.now _ c.in_ok-rest_after.field-0 _ _ c.rest_after.ensures c.in_ok-rest_after.was c.from.ensures c.number_within.ensures.value

pub returns : goal.returns
returns c =
    sym c.in_ok-count.was
    ∙ counted c.args.line.now _ c.in_ok-rest_after.field-0 _ _ c.rest_after.ensures c.in_ok-rest_after.was c.from.ensures c.number_within.ensures.value
