-- What `clap` gives of the place and the options of `serve`.
use Rattle.std.proofs.Common.{◌≡◌, ℕ, List, codes, Option, Some, None, true, refl, ap, ◌∙◌}
use Rattle.clap.specs.Words.{Row, first_of}
use Rattle.clap.proofs.OnLiterals.{clap_on_literals}
use Rattle.command_line.specs.Line.{Given}
use Rattle.command_line.specs.OptionNumbers.{text_by}
use Rattle.command_line.specs.Node.{listening_in, listening_of, at_rule, conns_rule}
use Rattle.command_line.specs.Running.{settings_in}
use Rattle.command_line.specs.Serving.{serve_app, serve_takes, serve_given, serve_in, serve_of}
use Rattle.command_line.specs.Taking.{given_text}
use Rattle.command_line.specs.declared.node.Listening.{Listening}
use Rattle.topk_base.specs.declared.settings.Settings.{Settings}
use Rattle.command_line.proofs.SetRules.{shown}
use Rattle.command_line.proofs.OptionLaws.{Asks, found_text}
use Rattle.command_line.proofs.NodeLaws.{same_listening}
use Rattle.command_line.proofs.RunningLaws.{same_settings}

same_serve : (given : List Given) → serve_in (shown given) ≡ serve_given given
same_serve given =
    ap (λ text. serve_of text (listening_in (shown given)) (settings_in (shown given))) (found_text (codes "catalog") given)
    ∙ ap (λ l. serve_of (given_text (codes "catalog") given) l (settings_in (shown given))) (same_listening given)
    ∙ ap (serve_of (given_text (codes "catalog") given) (listening_of (text_by at_rule given) (text_by conns_rule given))) (same_settings given)

pub serve_asks : Asks serve_takes serve_app serve_given serve_in
unfolding clap_on_literals
serve_asks = record {
  free = refl;
  simple = refl;
  served = record { built_is = refl; words_are = λ words. refl; places = ((None, Some 1, true, refl), (None, Some 1, true, refl), refl) };
  same = same_serve;
}

-- what is asked for, by what its parts were found to be
pub serve_by : (rows : List Row) (listening : Option Listening) (settings : Option Settings) (place : Option (List ℕ)) → listening_in rows ≡ listening
    → settings_in rows ≡ settings → first_of (codes "catalog") rows ≡ place → serve_in rows ≡ serve_of place listening settings
serve_by rows listening settings place l s p =
    ap (λ text. serve_of text (listening_in rows) (settings_in rows)) p
    ∙ ap (λ found. serve_of place found (settings_in rows)) l
    ∙ ap (serve_of place listening) s
