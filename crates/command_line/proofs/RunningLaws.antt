-- What `clap` gives of the place and the options of `run`.
use Rattle.std.proofs.Common.{◌≡◌, ℕ, List, codes, Option, Some, None, true, IfOk, refl, sym, ap, ◌∙◌, subst}
use Rattle.std.specs.Option.{option_and_then}
use Rattle.std.specs.declared.result.Result.{Result}
use Rattle.clap.specs.Words.{Row, first_of}
use Rattle.clap.proofs.OnLiterals.{clap_on_literals}
use Rattle.command_line.specs.Line.{Given}
use Rattle.command_line.specs.OptionNumbers.{free_number_in, text_by}
use Rattle.command_line.specs.Running.{run_app, run_takes, run_given, run_in, run_of, settings_in, settings_of, with_ahead, workers_rule, page_rule, ahead_rule}
use Rattle.command_line.specs.Taking.{given_text}
use Rattle.command_line.proofs.SetRules.{shown}
use Rattle.command_line.proofs.OptionLaws.{Asks, found_text}

pub same_settings : (given : List Given)
    → settings_in (shown given) ≡ settings_of (text_by workers_rule given) (text_by page_rule given) (text_by ahead_rule given)
same_settings given =
    ap (λ text. settings_of text (first_of page_rule.name (shown given)) (first_of ahead_rule.name (shown given))) (found_text workers_rule.name given)
    ∙ ap (λ text. settings_of (text_by workers_rule given) text (first_of ahead_rule.name (shown given))) (found_text page_rule.name given)
    ∙ ap (λ text. settings_of (text_by workers_rule given) (text_by page_rule given) text) (found_text ahead_rule.name given)

same_run : (given : List Given) → run_in (shown given) ≡ run_given given
same_run given =
    ap (λ text. run_of text (settings_in (shown given))) (found_text (codes "catalog") given)
    ∙ ap (run_of (given_text (codes "catalog") given)) (same_settings given)

pub run_asks : Asks run_takes run_app run_given run_in
unfolding clap_on_literals
run_asks = record {
  free = refl;
  simple = refl;
  served = record { built_is = refl; words_are = λ words. refl; places = ((None, Some 1, true, refl), (None, Some 1, true, refl), refl) };
  same = same_run;
}

-- what is answered where the words have no fault
pub answer_read : {A E : Type 0} (asked found : Option A) (result : Result A E) → asked ≡ found
    → IfOk result (λ options. found ≡ Some options) → IfOk result (λ options. asked ≡ Some options)
answer_read asked found result is read = subst (λ o. IfOk result (λ options. o ≡ Some options)) (sym is) read

-- the settings, where each number was found or stands for one that wasn't given
pub settings_found : (rows : List Row) (workers page ahead : ℕ)
    → Some workers ≡ free_number_in rows (codes "workers") 4 1 32
    → Some page ≡ free_number_in rows (codes "page") 100 1 10000
    → Some ahead ≡ free_number_in rows (codes "ahead") 2 0 100
    → settings_in rows ≡ Some (record { workers = workers; page = page; ahead = ahead })
settings_found rows workers page ahead w p a =
    let pages = free_number_in rows (codes "ahead") 2 0 100 in
    ap (λ found. option_and_then (λ n. option_and_then (λ size. with_ahead n size pages) (free_number_in rows (codes "page") 100 1 10000)) found) (sym w)
    ∙ ap (λ found. option_and_then (λ size. with_ahead workers size pages) found) (sym p)
    ∙ ap (with_ahead workers page) (sym a)
