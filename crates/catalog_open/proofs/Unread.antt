-- Nothing is read of the sources while they are opened.
use Rattle.std.proofs.Common.{◌≡◌, ◌≢◌, Bool, true, false, ℕ, List, [], All, refl, sym, ap, ◌∙◌, subst, arith}
use Rattle.std.specs.Str.{bytes_eq}
use Rattle.std.proofs.lemmas.Bool.{false≢true}
use Rattle.std.proofs.lemmas.List.Elements.{All-from_recursion}
use Rattle.std.proofs.lemmas.Slice.Eq.{bytes_eq-Decides}
use Rattle.source_api.specs.declared.counts.Counts.{Counts}
use Rattle.source_api.specs.declared.ledger.PlaceCounts.{PlaceCounts}
use Rattle.source_api.specs.Counting.{GaveNothing, no_counts, raised}
use Rattle.source_api.specs.Places.{SameElsewhere, put_back_at}
use Rattle.catalog_open.specs.Openings.{Counted, GivesNothing, IsUnread}

pub still : (at : PlaceCounts) → GivesNothing at at
still at = record { rows = refl; grades = refl }

pub gives_then : (before mid now : PlaceCounts) → GivesNothing before mid → GivesNothing mid now → GivesNothing before now
gives_then before mid now first second = record { rows = second.rows ∙ first.rows; grades = second.grades ∙ first.grades }

-- where no source was put back nothing was given
pub gives_still : (before now : PlaceCounts) → now.sources ≡ before.sources → GivesNothing before now
gives_still before now same = record { rows = ap (λ (c : Counts). raised c.rows_given 0) same; grades = ap (λ (c : Counts). raised c.grades_given 0) same }

-- a source that has given nothing was put back
pub put_unread : (before now : PlaceCounts) (knows : Bool) (first counts : Counts) → now ≡ put_back_at knows counts before → knows ≡ true
    → first ≡ no_counts → GaveNothing first counts → GivesNothing before now
put_unread before now knows first counts is known fresh given =
    let here : now ≡ put_back_at true counts before = is ∙ ap (λ k. put_back_at k counts before) known in
    let rows : now.sources.rows_given ≡ raised before.sources.rows_given counts.rows_given = ap (λ (c : PlaceCounts). c.sources.rows_given) here in
    let grades : now.sources.grades_given ≡ raised before.sources.grades_given counts.grades_given = ap (λ (c : PlaceCounts). c.sources.grades_given) here in
    let no_rows : counts.rows_given ≡ 0 = given.rows ∙ ap (λ (c : Counts). c.rows_given) fresh in
    let no_grades : counts.grades_given ≡ 0 = given.grades ∙ ap (λ (c : Counts). c.grades_given) fresh in
    record { rows = omega (arith, rows, no_rows); grades = omega (arith, grades, no_grades) }

-- a new source that told its size has counted nothing
pub unread_source : (first counts : Counts) → first ≡ no_counts → counts ≡ first → IsUnread counts
unread_source first counts fresh quiet =
    let none : counts ≡ no_counts = quiet ∙ fresh in
    record {
      rows = ap (λ (c : Counts). c.rows_given) none;
      grades = ap (λ (c : Counts). c.grades_given) none;
      faults = ap (λ (c : Counts). c.faults) none;
      garbles = ap (λ (c : Counts). c.garbles) none;
      moves = ap (λ (c : Counts). c.moves) none;
    }

-- what changes at one place alone
pub back_here : (text : List ℕ) (before now : Counted) → SameElsewhere text before now → GivesNothing (before text) (now text) → (place : List ℕ)
    → GivesNothing (before place) (now place)
back_here text before now elsewhere here place = elim (bytes_eq text place) as (λ t. bytes_eq text place ≡ t → GivesNothing (before place) (now place)) [
  | true ↦ λ e. subst (λ p. GivesNothing (before p) (now p)) ((bytes_eq-Decides text place).0 e) here
  | false ↦ λ e.
      let apart : place ≢ text = λ same. false≢true (sym e ∙ (bytes_eq-Decides text place).1 (sym same)) in
      subst (GivesNothing (before place)) (sym (elsewhere place apart)) (still (before place))
] refl

pub none_unread : All IsUnread []
none_unread = All-from_recursion IsUnread [] tt
