-- The sources that a run opened, whether it came to its end or it ran out of memory.
use Rattle.std.proofs.Common.{◌≡◌, ◌<◌, ℕ, zero, suc, List, [], ◌∷◌, All, length, reverse, take, inl, inr, Some, slice_get, slice_index_or, refl, sym, subst, ◌∙◌}
use Rattle.std.proofs.lemmas.Bool.{cases_lt}
use Rattle.std.proofs.lemmas.List.{get_or_past}
use Rattle.topk_theory.proofs.AgreementLists.{all_from_members, member_of_all}
use Rattle.source_api.specs.declared.counts.Counts.{Counts}
use Rattle.catalog_open.specs.declared.opened.Opening.{Opening}
use Rattle.catalog_open.specs.declared.opened.Opening.TheVariants.{Closed, Open}
use Rattle.catalog_open.specs.Views.{said_of, listed_at, view_over, nothing_told}
use Rattle.catalog_open.specs.Entries.{entry_at, opening_at}
use Rattle.catalog_open.specs.Wanted.{IsWanted}
use Rattle.catalog_open.specs.Openings.{AreOpened, Counted, GivesNothing, IsNumbered, IsOpening, IsSource, PutsBack, Sources, put_back}
use Rattle.query_admission.specs.declared.line_outcome.LineOutcome.{LineOutcome}
use Rattle.catalog_run.specs.Runs.{CatalogRun, IsReadyOf, IsRun}
use Rattle.catalog_run.specs.Cut.{RanOutOfMemory}
use Rattle.catalog_run.proofs.Readies.{all_own}

-- sources were opened, which gave nothing, and the open ones were put back with what they had counted
pub record OpenedRun (r : CatalogRun) : Type 0 where
  pub openings : List Opening
  pub sources : Sources
  pub mid : Counted
  pub idle : (place : List ℕ) → GivesNothing (r.before place) (mid place)
  pub opened : AreOpened r.lists r.versions r.catalog (IsWanted r.catalog r.lines) r.before mid openings sources
  pub now : List Counts
  pub back : PutsBack (reverse (put_back r.catalog sources.places now)) mid r.after

abbrev pub of_run : (r : CatalogRun) (outcomes : List LineOutcome) → IsRun r outcomes → OpenedRun r
of_run r outcomes run = record {
  openings = run.openings;
  sources = run.sources;
  mid = run.mid;
  idle = run.idle;
  opened = run.opened;
  now = run.now;
  back = run.back;
}

abbrev pub of_cut : (r : CatalogRun) → RanOutOfMemory r → OpenedRun r
of_cut r cut = record {
  openings = cut.openings;
  sources = cut.sources;
  mid = cut.mid;
  idle = cut.idle;
  opened = cut.opened;
  now = cut.now;
  back = cut.back;
}

closed_open : {size source version : ℕ} → Closed ≡ Open size source version → ⊥
closed_open e = cc

module _ (r : CatalogRun) (o : OpenedRun r) where
  -- an open source is one that was tried
  pub open_within : (place size source version : ℕ) → opening_at o.openings place ≡ Open size source version → place < length o.openings
  open_within place size source version is = elim (cases_lt place (length o.openings)) [
    | inl inside ↦ inside
    | inr past ↦ absurd (closed_open (sym (get_or_past o.openings place Closed past) ∙ is))
  ]

  -- a list that states a size is that of the open source that stands at its place
  pub stood_open : (place n : ℕ) → (listed_at r.catalog o.openings place).size ≡ Some n
      → slice_index_or o.sources.places (listed_at r.catalog o.openings place).source 0 ≡ place
  stood_open place n sized = by (opening_at o.openings place) refl sized
    where
      by : (one : Opening) → opening_at o.openings place ≡ one → (said_of (entry_at r.catalog place) one).size ≡ Some n
          → slice_index_or o.sources.places (said_of (entry_at r.catalog place) one).source 0 ≡ place
      by Closed is sized = absurd cc
      by (Open size source version) is sized =
          let opening : IsOpening r.lists r.versions r.catalog o.sources (IsWanted r.catalog r.lines) r.before o.mid place (Open size source version) =
          subst (IsOpening r.lists r.versions r.catalog o.sources (IsWanted r.catalog r.lines) r.before o.mid place) is
          (o.opened.each place (open_within place size source version is)) in
          let source_is : IsSource r.lists r.versions r.catalog o.sources place size source version = opening.1 in
          source_is.stands

  -- where a source stands one was tried
  pub stands_within : (source : ℕ) → source < length o.sources.places → slice_index_or o.sources.places source 0 < length o.openings
  stands_within source within =
      let n : IsNumbered r.catalog o.openings (slice_index_or o.sources.places source 0) source = o.opened.numbered source within in
      open_within (slice_index_or o.sources.places source 0) n.size source n.version n.open_as

-- ---- the queries of a run that ran out of memory are ready ones of its lines

front_line : (n : ℕ) (lines : List (List ℕ)) (at : ℕ) (bytes : List ℕ) → slice_get (take n lines) at ≡ Some bytes → slice_get lines at ≡ Some bytes
front_line zero lines at bytes e = absurd (cc)
front_line (suc n) [] at bytes e = absurd (cc)
front_line (suc n) (line ∷ lines) zero bytes e = e
front_line (suc n) (line ∷ lines) (suc at) bytes e = front_line n lines at bytes e

pub cut_own : (r : CatalogRun) (cut : RanOutOfMemory r) → All (IsReadyOf (view_over r.catalog cut.openings nothing_told) r.lines) cut.read.readies
cut_own r cut =
    let V = view_over r.catalog cut.openings nothing_told in
    let front = take cut.read.admitted r.lines in
    let own = all_own V front cut.read.outcomes cut.read.readies cut.read.are in
    all_from_members (IsReadyOf V r.lines) cut.read.readies
    (λ ready c.
    let is = member_of_all (IsReadyOf V front) cut.read.readies ready own c in
    record { at = is.at; bytes = is.bytes; line = front_line cut.read.admitted r.lines is.at is.bytes is.line; admitted = is.admitted })
