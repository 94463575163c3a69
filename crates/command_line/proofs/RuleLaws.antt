-- The rules of a command's arguments, put one after another.
use Rattle.std.proofs.Common.{◌≡◌, ℕ, suc, ◌+◌, ◌<◌, true, List, ◌∷◌, Some, Bor, length, get_or, drop, map, sym, ap, ◌∙◌, arith}
use Rattle.std.proofs.Math.Seq.{drop-cons}
use Rattle.clap.specs.Simple.{App}
use Rattle.clap.specs.Walk.{Rule}
use Rattle.clap.specs.Words.{rule_of, with_rule}
use Rattle.clap.specs.declared.builder.arg.Arg.{Arg}
use Rattle.command_line.specs.declared.arguments.Argument.{Argument}
use Rattle.command_line.specs.Apps.{rule_of_argument, with_rules}

-- what is left of a list begins with its next element
left_from : (arguments : List Argument) (at : ℕ) (d : Argument) → at < length arguments → drop at arguments ≡ get_or arguments at d ∷ drop (at + 1) arguments
left_from arguments at d within =
    let next : suc at ≡ at + 1 = omega arith in
    drop-cons arguments at d within ∙ ap (λ n. get_or arguments at d ∷ drop n arguments) next

-- a command with the next argument's rule is on the way to the same command
pub rules_next : (app next whole : App) (arguments : List Argument) (at : ℕ) (d : Argument) → at < length arguments
    → next ≡ with_rule app (rule_of_argument (get_or arguments at d)) → with_rules app (map rule_of_argument (drop at arguments)) ≡ whole
    → with_rules next (map rule_of_argument (drop (at + 1) arguments)) ≡ whole
rules_next app next whole arguments at d within is before =
    ap (λ a. with_rules a (map rule_of_argument (drop (at + 1) arguments))) is
    ∙ (sym (ap (λ left. with_rules app (map rule_of_argument left)) (left_from arguments at d within)) ∙ before)

-- the rule of an argument that has to be given
pub needed_rule : (plain needed : Arg) (rule : Rule) → needed ≡ record plain { required = true } → rule_of plain ≡ rule
    → rule_of needed ≡ record rule { required = true }
needed_rule plain needed rule is known = ap rule_of is ∙ ap (λ (r : Rule). record r { required = true }) known

-- and of one with a name
pub named_rule : (plain named : Arg) (rule : Rule) (name : Bor (List ℕ)) → named ≡ record plain { long = Some name } → rule_of plain ≡ rule
    → rule_of named ≡ record rule { long = Some name.now }
named_rule plain named rule name is known = ap rule_of is ∙ ap (λ (r : Rule). record r { long = Some name.now }) known
