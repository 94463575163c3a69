-- A query may run through the first pass of a pool.
use Rattle.std.proofs.Common.{inl, inr, ℕ, List, length, slice_index_or, ap, ◌∙◌, arith}
use Rattle.std.proofs.lemmas.Bool.{cases_lt}
use Rattle.std.proofs.lemmas.List.{get_or_past}
use Rattle.atomic_table.specs.Seated.{TableId}
use Rattle.source_pool.specs.declared.hold.Hold.{Hold}
use Rattle.source_pool.specs.Holds.{no_hold}
use Rattle.source_pool.specs.Passes.{Feed}
use Rattle.source_pool.specs.Sharing.{IsOpened}
use Rattle.query_core.specs.declared.ready.Ready.{Ready}
use Rattle.query_run.specs.Made.{IsReadyFor}
use Rattle.query_run.specs.Advancing.{WaitsForNothing, HasSourcesIn}

pub opened_rests : (counts : List ℕ) (pool : List TableId) (holds : List Hold) (feeds : List Feed) → IsOpened counts pool holds feeds → WaitsForNothing holds
opened_rests counts pool holds feeds opened = record {
  rests = λ source. elim (cases_lt source (length counts)) [
    | inl within ↦ ap (λ (hold : Hold). hold.waiting.need) (opened.held source within)
    | inr past ↦ ap (λ (hold : Hold). hold.waiting.need) (get_or_past holds source no_hold (let size = opened.size in let long = opened.pass.size in omega (arith, past, size, long)))
  ];
}

pub opened_sources : (counts : List ℕ) (pool : List TableId) (holds : List Hold) (feeds : List Feed) (ready : Ready) → IsOpened counts pool holds feeds
    → IsReadyFor counts ready → HasSourcesIn holds ready
opened_sources counts pool holds feeds ready opened for = record {
  each = λ k d l.
      let is = for.sources k d l in
      let size = opened.size in
      let long = opened.pass.size in
      (omega (arith, is.0, size, long), ap (λ (hold : Hold). hold.pass.1.name.1) (opened.held (slice_index_or ready.sources.items k d) is.0) ∙ is.1);
}
