use Rattle.std.proofs.Common.{ℕ, ◌-◌, ◌<◌, ◌≡◌, length, take, drop, [], ◌∷◌, sym, ap, ◌∙◌, arith, eqb, false}
use Rattle.std.proofs.lemmas.List.{drop_all, take_all}
use Rattle.std.proofs.lemmas.Bool.Decides.{nat_tests}
use Rattle.topk_base.proofs.LineLaws.{lines_at_cut, lines_uncut, lines-nil}
use Rattle.topk_base.proofs.lines.first_line.Goals as goal

take-nil : (n : ℕ) → take {A = ℕ} n [] ≡ []
take-nil n = take_all n [] (omega arith)

lt_of_test : (n : ℕ) → eqb n 0 ≡ false → 0 < n
lt_of_test n h = grind (arith, nat_tests)

pub returns-in-Some : goal.returns-in-Some
returns-in-Some c =
    lines_at_cut c.args.text.now c.in-Some.line.now c.in-Some.rest.now c.without_return.result.now (sym c.in-Some.ensures) c.without_return.ensures

pub returns : goal.returns
returns c =
    let text = c.args.text.now in
    let end : take (length text - length text) (drop (length text) text) ≡ [] =
    ap (take (length text - length text)) (drop_all (length text) text (omega arith)) ∙ take-nil (length text - length text) in
    let some : 0 < length text = lt_of_test (length text) (sym c.if-is_empty.ensures) in
    rw end (lines_uncut text (sym c.in_default.ensures) some ∙ ap (λ ls. text ∷ ls) (sym lines-nil), some)
