use Rattle.std.proofs.Common.{◌≡◌, ◌∙◌, ℕ, Bool, nat_le, length, filter, ap, arith, rules}
use Rattle.std.proofs.lemmas.Fn.{filter_same}
use Rattle.std.proofs.lemmas.List.Sums.{length-filter}
use Rattle.algorithm_theory.specs.Fagin.{stands_in_all}
use Rattle.test_plain.proofs.fagin.fa_stop.Goals as goal

pub returns : goal.returns
returns c =
    let passes : ℕ → Bool = stands_in_all c.args.lists.now c.args.depth in
    let size : c.len.result ≡ length c.retain.new.self.items = omega (arith, c.len.ensures, c.retain.new.self.ok.0) in
    ap (nat_le c.args.k) (size ∙ ap length (filter_same _ passes _ (λ x b f' k. search rules) _ _ c.retain.ensures.filtered ∙ ap (filter passes) c.in_ok-objects.ensures) ∙ length-filter passes _)
