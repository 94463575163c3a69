use Rattle.std.proofs.Common.{◌+◌, min, sym, ap, ◌∙◌}
use Rattle.query_text.proofs.LongestLaws.{longest_name}
use Rattle.query_text.proofs.words.name_len.Goals as goal

pub returns : goal.returns
returns c =
    longest_name c.args.text.now c.in-Some.first.now c.in-Some.rest.now _ c.in-Some.ensures.cases.0
    (sym c.is_ascii_alphabetic.ensures.value ∙ c.if-not-is_ascii_alphabetic.false)
    (ap (λ n. 1 + n) (c.min.ensures ∙ ap (λ n. min n 31) c.name_bytes_len.ensures))
