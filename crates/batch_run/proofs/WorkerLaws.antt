-- Workers that are made, and what they leave.
use Rattle.std.proofs.Common.{◌≡◌, ◌<◌, ◌+◌, ◌-◌, inl, inr, ℕ, None, List, [], ◌∷◌, ◌++◌, length, All, Contains, slice_index_or, refl, sym, ap, subst, ◌∙◌, arith}
use Rattle.std.proofs.lemmas.Bool.{cases_lt}
use Rattle.std.proofs.lemmas.List.{get_or_append_left, get_or_at, get_or_past, length_push}
use Rattle.topk_theory.proofs.AgreementLists.{contains_nil}
use Rattle.atomic_table.specs.Seated.{TableId}
use Rattle.turn_lock.specs.Known.{all_parts}
use Rattle.tickets.specs.declared.draws.Draws.{Draws}
use Rattle.tickets.specs.Draws.{fresh, with_parts, opened as drawn_none}
use Rattle.source_pool.specs.declared.hold.Hold.{Hold}
use Rattle.source_pool.specs.Holds.{no_hold}
use Rattle.source_pool.specs.HoldSharing.{kept_hold, new_hold}
use Rattle.source_pool.specs.Passes.{Feed, hold_at, IsPassOf}
use Rattle.source_pool.specs.Looks.{IsWithin}
use Rattle.source_pool.specs.Sharing.{IsOpened, IsSplit, MaySplit}
use Rattle.query_core.specs.declared.ready.Ready.{Ready}
use Rattle.query_run.specs.Made.{IsReadyFor}
use Rattle.topk_base.specs.declared.settings.Settings.{Settings}
use Rattle.batch_run.specs.declared.work.Worker.{Worker}
use Rattle.batch_run.specs.Working.{DidOf, IsAtWork, Worked, AllWorked}
use Rattle.batch_run.specs.WorkerPools.{fresh_hold, IsNewWorker, IsBase, IsFirst, AreNewWorkers, HasLeft}
use Rattle.batch_run.proofs.WorkLaws.{worked_none}

-- what a fresh pass holds of a source
fresh_within : (hold : Hold) → hold.shown ≡ record { failed = 0; garbled = 0; memory = 0 } → hold.waiting.need ≡ None → IsWithin hold
fresh_within hold none rests = record {
  shown = subst (λ (t : Rattle.turn_lock.specs.declared.facts.Tally.Tally). Rattle.turn_lock.specs.Facts.AtMost t hold.pass.1.tally) (sym none) (record { failed = omega arith; garbled = omega arith; memory = omega arith });
  noted = λ some. absurd (some rests);
}

did_nothing : (source : ℕ) (hold : Hold) → hold.pass.1.high ≡ 0 → hold.pass.1.asked ≡ 0 → hold.pass.1.mine ≡ []
    → hold.shown ≡ record { failed = 0; garbled = 0; memory = 0 }
    → hold.waiting.need ≡ None → DidOf [] source hold
did_nothing source hold high asked mine none rests = record {
  rows = inl high;
  mine = λ object c. absurd (contains_nil object (subst (λ os. Contains os object) mine c));
  failed = omega arith;
  garbled = omega arith;
  within = fresh_within hold none rests;
}

-- what holds of what a made worker's pass holds, where it holds of what is fresh and of what isn't there
made_hold : (P : Hold → Type 0) (pool : List TableId) (tickets : TableId) (counts : List ℕ) (worker : Worker) → length pool ≡ length counts
    → IsNewWorker pool tickets counts worker
    → ((source : ℕ) → P (fresh_hold pool counts source)) → P no_hold → (source : ℕ) → P (hold_at worker.pass source)
made_hold P pool tickets counts worker size h fresh none source =
    elim (cases_lt source (length counts)) [
      | inl within ↦ subst P (sym (h.fresh source within)) (fresh source)
      | inr past ↦ subst P (sym (get_or_past worker.pass source no_hold (let long = h.own.size in omega (arith, past, size, long)))) none
    ]

pub made_at_work : (pool : List TableId) (tickets : TableId) (counts : List ℕ) (readies : List Ready) (worker : Worker) → length pool ≡ length counts
    → IsNewWorker pool tickets counts worker → All (IsReadyFor counts) readies → IsAtWork pool tickets readies worker
made_at_work pool tickets counts readies worker size h ready = record {
  ready = λ i d l. (ready i d l).is;
  own = h.own;
  rests = record { rests = made_hold (λ hold. hold.waiting.need ≡ None) pool tickets counts worker size h (λ source. refl) refl };
  sources = λ i d l. record {
    each = λ k e m.
        let for = (ready i d l).sources k e m in
        let source = slice_index_or (slice_index_or readies i d).sources.items k e in
        let long = h.own.size in
        (omega (arith, for.0, size, long), ap (λ (hold : Hold). hold.pass.1.name.1) (h.fresh source for.0) ∙ for.1);
  };
  draws = (ap (λ (d : TableId × Draws). d.0) h.draws, ap (λ (d : TableId × Draws). d.1.parts) h.draws);
  worked = worked_none readies worker h.none
      (λ source. made_hold (DidOf [] source) pool tickets counts worker size h (λ s. did_nothing source (fresh_hold pool counts s) refl refl refl refl refl)
      (did_nothing source no_hold refl refl refl refl refl) source);
}

pub all_at_work : (pool : List TableId) (tickets : TableId) (counts : List ℕ) (holds : List Hold) (draws : TableId × Draws) (workers : List Worker) (readies : List Ready)
    → AreNewWorkers pool tickets counts holds draws workers → All (IsReadyFor counts) readies → All (IsAtWork pool tickets readies) workers
all_at_work pool tickets counts holds draws workers readies h ready i d l =
    made_at_work pool tickets counts readies (slice_index_or workers i d) h.base.size (h.each i d l) ready

-- what it leaves once it has worked
pub left_of : (pool : List TableId) (tickets : TableId) (counts : List ℕ) (readies : List Ready) (before after : Worker) → IsNewWorker pool tickets counts before
    → Worked pool tickets readies before after → HasLeft pool tickets counts readies after
left_of pool tickets counts readies before after h w = record {
  at_work = w.at_work;
  name = λ source l. (w.knows.each source).name ∙ ap (λ (hold : Hold). hold.pass.1.name) (h.fresh source l);
  parts = λ source l. (w.knows.each source).parts ∙ ap (λ (hold : Hold). hold.pass.1.parts) (h.fresh source l);
}

pub all_left : (pool : List TableId) (tickets : TableId) (counts : List ℕ) (holds : List Hold) (draws : TableId × Draws) (before after : List Worker) (readies : List Ready)
    → AreNewWorkers pool tickets counts holds draws before
    → AllWorked pool tickets readies before after
    → (i : ℕ) (d : Worker) → i < length after → HasLeft pool tickets counts readies (slice_index_or after i d)
all_left pool tickets counts holds draws before after readies h w i d l =
    let within : i < length before = let size = w.size in omega (arith, l, size) in
    left_of pool tickets counts readies (slice_index_or before i d) (slice_index_or after i d) (h.each i d within) (w.each i d within)

-- the first pass of a pool that was opened
pub hiring_none : (counts : List ℕ) (pool : List TableId) (holds : List Hold) (feeds : List Feed) (tickets : TableId) (draws : TableId × Draws)
    → IsOpened counts pool holds feeds → draws ≡ (tickets, drawn_none) → AreNewWorkers pool tickets counts holds draws []
hiring_none counts pool holds feeds tickets draws opened first = record {
  base = record {
    size = opened.size;
    own = opened.pass;
    parts = λ source l. let e : (hold_at holds source).pass.1.parts ≡ all_parts - 1 = ap (λ (hold : Hold). hold.pass.1.parts) (opened.held source l) in omega (arith, e);
    high = λ source l. ap (λ (hold : Hold). hold.pass.1.high) (opened.held source l);
    asked = λ source l. ap (λ (hold : Hold). hold.pass.1.asked) (opened.held source l);
    mine = λ source l. ap (λ (hold : Hold). hold.pass.1.mine) (opened.held source l);
    gives = λ source l. ap new_hold (opened.held source l);
  };
  first = subst (IsFirst tickets 0) (sym first) (record { of = refl; parts = omega arith; none = refl });
  each = λ i d l. absurd (omega (arith, l));
}

-- one more pass may be split off
pub may_split : (pool : List TableId) (tickets : TableId) (counts : List ℕ) (holds : List Hold) (draws : TableId × Draws) (workers : List Worker) → length workers < 32
    → AreNewWorkers pool tickets counts holds draws workers → MaySplit pool holds
may_split pool tickets counts holds draws workers few h = record {
  parts = λ source l.
      let size = h.base.size in
      let parts = h.base.parts source (omega (arith, l, size)) in
      omega (arith, parts, few);
}

-- a worker more, with passes that were split off
pub made_more : (pool : List TableId) (tickets : TableId) (counts : List ℕ) (before after : List Hold) (had has : TableId × Draws) (workers now : List Worker) (worker : Worker)
    → length workers < 32 → now ≡ workers ++ worker ∷ [] → IsPassOf pool after → IsPassOf pool worker.pass → IsSplit pool before after worker.pass
    → has ≡ (tickets, with_parts (had.1.parts - 1) had.1) → worker.draws ≡ (tickets, fresh 1) → worker.ended.items ≡ []
    → AreNewWorkers pool tickets counts before had workers → AreNewWorkers pool tickets counts after has now
made_more pool tickets counts before after had has workers now worker few push own its split fewer given none h =
    let within : (source : ℕ) → source < length counts → source < length pool = λ source l. let size = h.base.size in omega (arith, l, size) in
    let kept : (source : ℕ) → source < length counts → hold_at after source ≡ kept_hold (hold_at before source) = λ source l. split.kept source (within source l) in
    subst (AreNewWorkers pool tickets counts after has) (sym push)
    (record {
      base = subst (λ n. IsBase pool counts n after) (sym (length_push workers worker))
          (record {
            size = h.base.size;
            own = own;
            parts = λ source l.
                let e : (hold_at after source).pass.1.parts ≡ (hold_at before source).pass.1.parts - 1 = ap (λ (hold : Hold). hold.pass.1.parts) (kept source l) in
                let was = h.base.parts source l in
                omega (arith, e, was, few);
            high = λ source l. ap (λ (hold : Hold). hold.pass.1.high) (kept source l) ∙ h.base.high source l;
            asked = λ source l. ap (λ (hold : Hold). hold.pass.1.asked) (kept source l) ∙ h.base.asked source l;
            mine = λ source l. ap (λ (hold : Hold). hold.pass.1.mine) (kept source l) ∙ h.base.mine source l;
            gives = λ source l. ap new_hold (kept source l) ∙ h.base.gives source l;
          });
      first = subst (λ n. IsFirst tickets n has) (sym (length_push workers worker))
          (subst (IsFirst tickets (length workers + 1)) (sym fewer)
          (record { of = refl; parts = let was = h.first.parts in omega (arith, was, few); none = h.first.none }));
      each = λ i d l. elim (cases_lt i (length workers)) [
        | inl front ↦ subst (IsNewWorker pool tickets counts) (sym (get_or_append_left workers (worker ∷ []) d i front)) (h.each i d front)
        | inr past ↦
            let long = length_push workers worker in
            let here : length workers ≡ i = omega (arith, past, l, long) in
            subst (IsNewWorker pool tickets counts) (sym (get_or_at workers worker [] d i here))
            (record {
              own = its;
              fresh = λ source s. split.given source (within source s) ∙ h.base.gives source s;
              draws = given;
              none = none;
            })
      ];
    })

-- the workers of a worker pool that has run
pub record RanParts (settings : Settings) (counts : List ℕ) (readies : List Ready) (pool : List TableId) (tickets : TableId) (holds : List Hold) (draws : TableId × Draws)
    (workers : List Worker) : Type 0 where
  pub base : IsBase pool counts (length workers) holds
  pub first : IsFirst tickets (length workers) draws
  pub size : length workers ≡ settings.workers
  pub each : (i : ℕ) (d : Worker) → i < length workers → HasLeft pool tickets counts readies (slice_index_or workers i d)

pub ran_parts : (settings : Settings) (counts : List ℕ) (readies : List Ready) (pool : List TableId) (tickets : TableId) (holds : List Hold) (draws : TableId × Draws)
    (before after : List Worker) → AreNewWorkers pool tickets counts holds draws before → length before ≡ settings.workers → AllWorked pool tickets readies before after
    → RanParts settings counts readies pool tickets holds draws after
ran_parts settings counts readies pool tickets holds draws before after h size worked = record {
  base = subst (λ n. IsBase pool counts n holds) (sym worked.size) h.base;
  first = subst (λ n. IsFirst tickets n draws) (sym worked.size) h.first;
  size = worked.size ∙ size;
  each = λ i d l. all_left pool tickets counts holds draws before after readies h worked i d l;
}
