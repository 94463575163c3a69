-- What `clap` gives of the options of `bulk`.
use Rattle.std.proofs.Common.{◌≡◌, List, refl, ap, ◌∙◌}
use Rattle.clap.specs.Words.{first_of}
use Rattle.clap.proofs.OnLiterals.{clap_on_literals}
use Rattle.command_line.specs.Bulking.{bulk_app, bulk_takes, bulk_of, bulk_given, bulk_in, queries_rule}
use Rattle.command_line.specs.Line.{Given}
use Rattle.command_line.specs.Making.{options_given}
use Rattle.command_line.specs.OptionNumbers.{number_by, text_by}
use Rattle.command_line.specs.Running.{settings_in}
use Rattle.command_line.proofs.SetRules.{shown}
use Rattle.command_line.proofs.OptionLaws.{Asks, found_text}
use Rattle.command_line.proofs.MakingLaws.{same_table}
use Rattle.command_line.proofs.RunningLaws.{same_settings}

same_bulk : (given : List Given) → bulk_in (shown given) ≡ bulk_given given
same_bulk given =
    ap (λ table. bulk_of table (number_by queries_rule (first_of queries_rule.name (shown given))) (settings_in (shown given))) (same_table given)
    ∙ ap (λ text. bulk_of (options_given given) (number_by queries_rule text) (settings_in (shown given))) (found_text queries_rule.name given)
    ∙ ap (bulk_of (options_given given) (number_by queries_rule (text_by queries_rule given))) (same_settings given)

pub bulk_asks : Asks bulk_takes bulk_app bulk_given bulk_in
unfolding clap_on_literals
bulk_asks = record {
  free = refl;
  simple = refl;
  served = record { built_is = refl; words_are = λ words. refl; places = refl };
  same = same_bulk;
}
