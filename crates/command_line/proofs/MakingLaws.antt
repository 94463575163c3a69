-- What `clap` gives of the options of `make`.
use Rattle.std.proofs.Common.{◌≡◌, List, Option, Some, None, IfOk, IfSome, refl, sym, ap, ◌∙◌, subst}
use Rattle.std.specs.Option.{ok_or}
use Rattle.std.specs.declared.result.Result.{Result}
use Rattle.std.specs.declared.result.Result.TheVariants.{Err}
use Rattle.clap.specs.Words.{first_of}
use Rattle.clap.proofs.OnLiterals.{clap_on_literals}
use Rattle.command_line.specs.Line.{Given}
use Rattle.command_line.specs.Making.{make_app, make_takes, options_given, options_in, start_rule, count_rule, lists_rule, table_of}
use Rattle.command_line.specs.OptionNumbers.{text_by}
use Rattle.command_line.specs.declared.fault.WordsFault.{WordsFault}
use Rattle.command_line.specs.declared.fault.WordsFault.TheVariants.{BadWords}
use Rattle.command_line.proofs.SetRules.{shown}
use Rattle.command_line.proofs.OptionLaws.{Asks, found_text}

pub same_table : (given : List Given) → options_in (shown given) ≡ options_given given
same_table given =
    ap (λ text. table_of text (first_of count_rule.name (shown given)) (first_of lists_rule.name (shown given))) (found_text start_rule.name given)
    ∙ ap (λ text. table_of (text_by start_rule given) text (first_of lists_rule.name (shown given))) (found_text count_rule.name given)
    ∙ ap (λ text. table_of (text_by start_rule given) (text_by count_rule given) text) (found_text lists_rule.name given)

pub make_asks : Asks make_takes make_app options_given options_in
unfolding clap_on_literals
make_asks = record {
  free = refl;
  simple = refl;
  served = record { built_is = refl; words_are = λ words. refl; places = refl };
  same = same_table;
}

-- what is answered where the words have no fault
pub answer_read : {A : Type 0} (asked found : Option A) (result : Result A WordsFault) → asked ≡ found → result ≡ ok_or found BadWords
    → IfOk result (λ options. asked ≡ Some options)
answer_read asked (Some options) result is e = subst (λ r. IfOk r (λ o. asked ≡ Some o)) (sym e) is
answer_read asked None result is e = subst (λ r. IfOk r (λ o. asked ≡ Some o)) (sym e) tt

pub answer_refused : {A : Type 0} (asked found : Option A) (result : Result A WordsFault) → asked ≡ found → result ≡ ok_or found BadWords
    → result ≡ Err BadWords → asked ≡ None
answer_refused asked (Some options) result is e refused = absurd cc
answer_refused asked None result is e refused = is

pub answer_within : {A : Type 0} (P : A → Type 0) (found : Option A) (result : Result A WordsFault) → IfSome found P → result ≡ ok_or found BadWords
    → IfOk result P
answer_within P (Some options) result within e = subst (λ r. IfOk r P) (sym e) within
answer_within P None result within e = subst (λ r. IfOk r P) (sym e) tt
