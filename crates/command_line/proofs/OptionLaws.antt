-- What `clap` gives of the places and options of a command, whatever they ask for.
use Rattle.std.proofs.Common.{◌≡◌, ℕ, Ok, Err, Bool, true, false, List, [], ◌∷◌, drop, Option, Some, None, refl, sym, ap, ◌∙◌, subst}
use Rattle.std.specs.Prelude.{if◌then◌else◌, find, slice_get}
use Rattle.std.specs.Option.{option_and_then}
use Rattle.std.specs.Str.{bytes_eq}
use Rattle.clap.specs.Words.{App, Row, Kinds, fault_of, first_of, matches_of, is_simple, is_simple_and_free}
use Rattle.std.specs.declared.result.Result.{Result}
use Rattle.command_line.specs.declared.fault.WordsFault.{WordsFault}
use Rattle.command_line.specs.declared.fault.WordsFault.TheVariants.{Memory}
use Rattle.command_line.specs.Finding.{AllUtf8, Finds, Refuses}
use Rattle.command_line.specs.Line.{Takes, Given}
use Rattle.command_line.specs.Taking.{given_text, taken}
use Rattle.command_line.proofs.SetRules.{row_for, shown}
use Rattle.command_line.proofs.Walking.{Comes}
use Rattle.command_line.proofs.Clapping.{IsServed, words_come}

-- a command takes such places and options, and what is asked for by what was given is what is asked for by what `clap` finds of it
pub record Asks {A : Type 0} (t : Takes) (app : App) (by : List Given → Option A) (found : List Row → Option A) : Type 0 where
  pub free : is_simple_and_free app ≡ true
  pub simple : is_simple app ≡ true
  pub served : IsServed t app
  pub same : (given : List Given) → found (shown given) ≡ by given

behind_utf8 : (words : List (List ℕ)) → AllUtf8 words → AllUtf8 (drop 1 words)
behind_utf8 [] h = tt
behind_utf8 (word ∷ words) h = h.1

-- a text that was given is found
pub found_text : (name : List ℕ) (given : List Given) → first_of name (shown given) ≡ given_text name given
found_text name [] = refl
found_text name (one ∷ given) = go (bytes_eq one.0 name) (found_text name given)
  where
    go : (b : Bool) → first_of name (shown given) ≡ given_text name given
        → option_and_then (λ (r : Row). slice_get r.values 0) (if b then Some (row_for one) else find (λ (r : Row). bytes_eq r.id name) (shown given))
        ≡ option_and_then (λ (g : Given). Some g.1) (if b then Some one else find (λ (g : Given). bytes_eq g.0 name) given)
    go true rest = refl
    go false rest = rest

read_of : {A : Type 0} (by : List Given → Option A) (found : List Row → Option A) → ((given : List Given) → found (shown given) ≡ by given)
    → (kinds : Kinds) (rows : List Row) (given : Option (List Given)) → Comes kinds rows given → kinds ≡ [] → option_and_then by given ≡ found rows
read_of by found same kinds rows None come none = absurd (subst (λ k. Comes k rows None) none come)
read_of by found same kinds rows (Some given) come none = sym (same given) ∙ ap found (sym come.1)

refused_of : {A : Type 0} (by : List Given → Option A) (kinds : Kinds) (rows : List Row) (given : Option (List Given)) → Comes kinds rows given
    → (kinds ≡ [] → ⊥) → option_and_then by given ≡ None
refused_of by kinds rows None come faulty = refl
refused_of by kinds rows (Some given) come faulty = absurd (faulty come.0)

come_to : (t : Takes) (app : App) → IsServed t app → (words : List (List ℕ)) → AllUtf8 words
    → Comes (fault_of app words) (matches_of app words) (taken t (drop 1 words))
come_to t app served words utf8 = words_come t app words served (behind_utf8 words utf8)

-- words without a fault ask for what their options are
pub asked : {A : Type 0} (t : Takes) (app : App) (by : List Given → Option A) (found : List Row → Option A) → Asks t app by found
    → (words : List (List ℕ)) (rows : List Row) → Finds app words rows → option_and_then by (taken t (drop 1 words)) ≡ found rows
asked t app by found asks words rows finds =
    read_of by found asks.same (fault_of app words) (matches_of app words) (taken t (drop 1 words)) (come_to t app asks.served words finds.texts) (finds.faultless asks.free)
    ∙ ap found (sym (finds.are asks.simple))

-- words with a fault ask for nothing
pub refused : {A : Type 0} (t : Takes) (app : App) (by : List Given → Option A) (found : List Row → Option A) → Asks t app by found
    → (words : List (List ℕ)) → Refuses app words → option_and_then by (taken t (drop 1 words)) ≡ None
refused t app by found asks words refuses =
    refused_of by (fault_of app words) (matches_of app words) (taken t (drop 1 words)) (come_to t app asks.served words refuses.texts) (refuses.faulty asks.free)

-- the fault, where there is one
abbrev pub fault_in : {A : Type 0} → Result A WordsFault → WordsFault
fault_in (Ok found) = Memory
fault_in (Err fault) = fault
