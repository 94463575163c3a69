-- The lines of a run come to one text over lists that are told.
use Rattle.std.proofs.Common.{◌≡◌, ℕ, suc, ◌+◌, List, [], ◌∷◌, ◌++◌, map, Contains, Some, slice_get, refl, sym, ap, ◌∙◌, subst, arith}
use Rattle.std.specs.List.{list_all}
use Rattle.std.specs.Prelude.{◌&&◌, if◌then◌else◌}
use Rattle.std.proofs.lemmas.List.Elements.{Contains-append_left}
use Rattle.topk_theory.proofs.AgreementLists.{all_from_members, member_of_all}
use Rattle.cert_text.specs.declared.refusal.Refusal.{Refusal}
use Rattle.query_admission.specs.View.{View}
use Rattle.query_admission.specs.Causes.{QueryLine, Cause, admission_causes, line_causes, RefusesFor, NoneOf, line_over}
use Rattle.catalog_open.specs.Entries.{entry_told}
use Rattle.query_admission.specs.declared.line_outcome.LineOutcome.{LineOutcome}
use Rattle.catalog_run.specs.Runs.{CatalogRun}
use Rattle.topk_top.specs.ToldTables.{AllBecome, ShelfTellsTables, told_listed, view_told}
use Rattle.topk_top.proofs.ToldLists.{rows_of, known_places, named_wanted, admitted_few, names_told}
use Rattle.catalog_run.specs.Running.{is_answer, outcomes_text, run_status}
use Rattle.topk_top.specs.RunLaws.{ComeTo}
use Rattle.command_line.specs.declared.status.Status.{Status}
use Rattle.command_line.specs.declared.status.Status.TheVariants.{Done, Partial}
use Rattle.topk_top.proofs.OneBecoming.{HasRows, becomes_once}

-- the rows of the lists of each of some lines are told, where nothing refuses it
abbrev AllHaveRows : View → ℕ → List (List ℕ) → Type 0
AllHaveRows view number [] = Unit {0}
AllHaveRows view number (bytes ∷ lines) = HasRows (line_over view number bytes) × AllHaveRows view (number + 1) lines

rows_each : (view : View) (number : ℕ) (lines : List (List ℕ))
    → ((at : ℕ) (bytes : List ℕ) → slice_get lines at ≡ Some bytes → HasRows (line_over view (at + number) bytes)) → AllHaveRows view number lines
rows_each view number [] each = tt
rows_each view number (bytes ∷ lines) each =
    let first : 0 + number ≡ number = omega arith in (
      subst (λ n. HasRows (line_over view n bytes)) first (each 0 bytes refl),
      rows_each view (number + 1) lines (λ at line is.
          let next : suc at + number ≡ at + (number + 1) = omega arith in
          subst (λ n. HasRows (line_over view n line)) next (each (suc at) line is)),
    )

-- such lines come to one text, and they are all answered or they aren't
texts_once : (view : View) (number : ℕ) (lines : List (List ℕ)) (outcomes others : List LineOutcome) → AllHaveRows view number lines
    → AllBecome view number lines outcomes → AllBecome view number lines others
    → (outcomes_text number outcomes ≡ outcomes_text number others)
    × (list_all (λ (o : LineOutcome). is_answer o.outcome) outcomes ≡ list_all (λ (o : LineOutcome). is_answer o.outcome) others)
texts_once view number [] [] [] rows one two = (refl, refl)
texts_once view number [] [] (u ∷ others) rows one two = absurd two
texts_once view number [] (o ∷ outcomes) others rows one two = absurd one
texts_once view number (bytes ∷ lines) [] others rows one two = absurd one
texts_once view number (bytes ∷ lines) (o ∷ outcomes) [] rows one two = absurd two
texts_once view number (bytes ∷ lines) (o ∷ outcomes) (u ∷ others) rows one two =
    let here = becomes_once (line_over view number bytes) number o.query u.query o.count u.count o.versions u.versions o.outcome u.outcome rows.0 one.0 two.0 in
    let rest = texts_once view (number + 1) lines outcomes others rows.1 one.1 two.1 in
    (λ i. here.0 i ++ rest.0 i, λ i. here.1 i && rest.1 i)

-- the lines of a run whose sources tell tables have their rows
module _ (r : CatalogRun) (tells : ShelfTellsTables r) where
  has_rows : (at : ℕ) (bytes : List ℕ) → slice_get r.lines at ≡ Some bytes → HasRows (line_over (view_told r.catalog r.lists r.versions) (at + 1) bytes)
  has_rows at bytes line = record {
    rows = λ q lists none reads listed.
        let view = view_told r.catalog r.lists r.versions in
        let x : QueryLine = line_over view (at + 1) bytes in
        let admitted : NoneOf (RefusesFor x) admission_causes = all_from_members (λ (c : Cause). (refusal : Refusal) → ¬ RefusesFor x c refusal) admission_causes
        (λ c m. member_of_all (λ (d : Cause). (refusal : Refusal) → ¬ RefusesFor x d refusal) line_causes c none
        (Contains-append_left admission_causes (Cause.room_full ∷ []) c m)) in
        let few = admitted_few view (at + 1) bytes admitted in
        let h = known_places r.catalog (told_listed r.lists r.versions r.catalog) q.names lists listed in
        let told : (place : ℕ) → Contains h.places place → entry_told r.lists r.catalog place ≡ Some (rows_of (entry_told r.lists r.catalog place)) =
        λ place named.
        let its = tells.told place (named_wanted r.catalog r.lines at bytes q h.places line few reads h.known place named) in
        its.1 ∙ ap (λ o. Some (rows_of o)) (sym its.1) in
        (map (λ place. rows_of (entry_told r.lists r.catalog place)) h.places, names_told r.lists r.versions r.catalog q.names h.places h.known told);
  }

  -- what they come to is one
  pub come_to_one : (status other : Status) (text said : List ℕ) → ComeTo r.catalog r.lists r.versions r.lines status text → ComeTo r.catalog r.lists r.versions r.lines other said
      → (other ≡ status) × (said ≡ text)
  come_to_one status other text said one two =
      let rows = rows_each (view_told r.catalog r.lists r.versions) 1 r.lines has_rows in
      let same = texts_once (view_told r.catalog r.lists r.versions) 1 r.lines two.outcomes one.outcomes rows two.become one.become in
      let ended : run_status two.outcomes ≡ run_status one.outcomes = ap (λ b. if b then Done else Partial) same.1 in
      (two.status_is ∙ ended ∙ sym one.status_is, two.text_is ∙ same.0 ∙ sym one.text_is)
