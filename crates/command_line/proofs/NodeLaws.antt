-- What `clap` gives of the places and the options of `node`.
use Rattle.std.proofs.Common.{◌≡◌, ℕ, List, codes, Option, Some, None, true, refl, sym, ap, ◌∙◌}
use Rattle.std.specs.Option.{option_and_then, option_map}
use Rattle.clap.specs.Words.{Row, first_of}
use Rattle.clap.proofs.OnLiterals.{clap_on_literals}
use Rattle.command_line.specs.Line.{Given}
use Rattle.command_line.specs.OptionNumbers.{free_number_in, number_given, number_in, text_by}
use Rattle.command_line.specs.Node.{node_app, node_takes, node_given, node_in, node_of, listening_in, listening_of, version_in, version_of, with_conns, at_rule, conns_rule, version_rule}
use Rattle.command_line.specs.Taking.{given_text}
use Rattle.command_line.specs.declared.node.Listening.{Listening}
use Rattle.topk_base.specs.declared.TheConstants.{MAX_CONNS, MAX_VERSION}
use Rattle.command_line.proofs.SetRules.{shown}
use Rattle.command_line.proofs.OptionLaws.{Asks, found_text}

pub same_listening : (given : List Given) → listening_in (shown given) ≡ listening_of (text_by at_rule given) (text_by conns_rule given)
same_listening given =
    ap (λ text. listening_of text (first_of conns_rule.name (shown given))) (found_text at_rule.name given)
    ∙ ap (λ text. listening_of (text_by at_rule given) text) (found_text conns_rule.name given)

same_node : (given : List Given) → node_in (shown given) ≡ node_given given
same_node given =
    let listening = listening_of (text_by at_rule given) (text_by conns_rule given) in
    ap (λ text. node_of text (first_of (codes "name") (shown given)) (listening_in (shown given)) (version_in (shown given))) (found_text (codes "catalog") given)
    ∙ ap (λ text. node_of (given_text (codes "catalog") given) text (listening_in (shown given)) (version_in (shown given))) (found_text (codes "name") given)
    ∙ ap (λ l. node_of (given_text (codes "catalog") given) (given_text (codes "name") given) l (version_in (shown given))) (same_listening given)
    ∙ ap (λ text. node_of (given_text (codes "catalog") given) (given_text (codes "name") given) listening (version_of text)) (found_text version_rule.name given)

pub node_asks : Asks node_takes node_app node_given node_in
unfolding clap_on_literals
node_asks = record {
  free = refl;
  simple = refl;
  served = record { built_is = refl; words_are = λ words. refl; places = ((None, Some 1, true, refl), (None, Some 1, true, refl), ((None, Some 2, true, refl), (None, Some 2, true, refl), refl)) };
  same = same_node;
}

-- where connections are taken, where each number was found or stands for one that wasn't given
pub listening_found : (rows : List Row) (at conns : ℕ) → Some at ≡ number_in rows (codes "at") 1 65535
    → Some conns ≡ free_number_in rows (codes "conns") MAX_CONNS 1 MAX_CONNS → listening_in rows ≡ Some (record { at = at; conns = conns })
listening_found rows at conns a n =
    ap (λ found. option_and_then (λ number. with_conns number (free_number_in rows (codes "conns") MAX_CONNS 1 MAX_CONNS)) found) (sym a) ∙ ap (with_conns at) (sym n)

-- the version, where a text was given
pub version_found : (rows : List Row) (text : List ℕ) (version : Option ℕ) → first_of (codes "version") rows ≡ Some text
    → version ≡ number_given (Some text) 0 MAX_VERSION → version_in rows ≡ option_map Some version
version_found rows text version found is = ap version_of found ∙ ap (option_map Some) (sym is)

-- what is asked for, by what its parts were found to be
pub node_by : (rows : List Row) (listening : Option Listening) (version : Option (Option ℕ)) (place name : Option (List ℕ)) → listening_in rows ≡ listening
    → version_in rows ≡ version → first_of (codes "catalog") rows ≡ place → first_of (codes "name") rows ≡ name → node_in rows ≡ node_of place name listening version
node_by rows listening version place name l v p n =
    ap (λ text. node_of text (first_of (codes "name") rows) (listening_in rows) (version_in rows)) p
    ∙ ap (λ text. node_of place text (listening_in rows) (version_in rows)) n
    ∙ ap (λ found. node_of place name found (version_in rows)) l
    ∙ ap (node_of place name listening) v
