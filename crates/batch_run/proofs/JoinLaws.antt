-- Passes that are joined to one, from the last one on.
use Rattle.std.proofs.Common.{◌≡◌, ◌+◌, ◌⊎◌, inl, inr, ℕ, max, Option, None, List, [], ◌∷◌, ◌++◌, length, map, slice_index_or, Contains, refl, sym, ap, subst, ◌∙◌, arith, append_assoc}
use Rattle.std.specs.List.{flat_map, sum_by}
use Rattle.std.proofs.lemmas.Bool.{cases_lt}
use Rattle.std.proofs.lemmas.List.Sums.{sum_by-cons}
use Rattle.std.proofs.lemmas.List.Elements.{Contains-append_left, Contains-append_right, Contains-append_cases}
use Rattle.topk_theory.proofs.AgreementLists.{contains_nil, contains_here, contains_there, contains_cases}
use Rattle.atomic_table.specs.Seated.{TableId}
use Rattle.turn_lock.specs.Known.{Follows}
use Rattle.tickets.specs.declared.draws.Draws.{Draws}
use Rattle.tickets.specs.Draws.{times, joined}
use Rattle.tickets.specs.Places.{standing}
use Rattle.tickets.proofs.Drawing.{times_append}
use Rattle.tickets.proofs.PlaceLaws.{standing_append}
use Rattle.source_pool.specs.declared.hold.Hold.{Hold}
use Rattle.source_pool.specs.Passes.{hold_at, IsPassOf}
use Rattle.source_pool.specs.Sharing.{IsJoined}
use Rattle.query_run.specs.declared.ended.Ended.{Ended}
use Rattle.batch_run.specs.declared.work.Worker.{Worker}
use Rattle.batch_run.specs.WorkerPools.{Rejoins}
use Rattle.batch_result.proofs.LaterLaws.{follows_on}

rejoins_none : (pool : List TableId) (before : List Hold) → IsPassOf pool before → Rejoins pool [] before before
rejoins_none pool before own = record {
  own = own;
  knows = λ other c. absurd (contains_nil other c);
  parts = λ source l. omega arith;
  asked = λ source l. omega arith;
  mine = λ source l object c. inl c;
  high = λ source l. inl refl;
}

greater : (a b : ℕ) → (max a b ≡ a) ⊎ (max a b ≡ b)
greater a b = elim (cases_lt a b) [ inl l ↦ inr (omega (arith, l)) | inr m ↦ inl (omega (arith, m)) ]

-- the greatest mark with one more pass
high_more : (source : ℕ) (one : List Hold) (done : List (List Hold)) (before mid after : List Hold)
    → (hold_at after source).pass.1.high ≡ max (hold_at mid source).pass.1.high (hold_at one source).pass.1.high
    → ((hold_at mid source).pass.1.high ≡ (hold_at before source).pass.1.high)
    ⊎ ((other : List Hold) × Contains done other × ((hold_at mid source).pass.1.high ≡ (hold_at other source).pass.1.high))
    → ((hold_at after source).pass.1.high ≡ (hold_at before source).pass.1.high)
    ⊎ ((other : List Hold) × Contains (one ∷ done) other × ((hold_at after source).pass.1.high ≡ (hold_at other source).pass.1.high))
high_more source one done before mid after e was =
    elim (greater (hold_at mid source).pass.1.high (hold_at one source).pass.1.high) [
      | inl same ↦ elim was [
        | inl none ↦ inl (e ∙ (same ∙ none))
        | inr some ↦ inr (some.0, contains_there one done some.0 some.1, e ∙ (same ∙ some.2))
      ]
      | inr mine ↦ inr (one, contains_here one done, e ∙ mine)
    ]

-- the asks with those of one more pass
mine_more : (source object : ℕ) (one : List Hold) (done : List (List Hold)) (before mid after : List Hold)
    → (hold_at after source).pass.1.mine ≡ (hold_at mid source).pass.1.mine ++ (hold_at one source).pass.1.mine
    → (Contains (hold_at mid source).pass.1.mine object
    → Contains (hold_at before source).pass.1.mine object ⊎ ((other : List Hold) × Contains done other × Contains (hold_at other source).pass.1.mine object))
    → Contains (hold_at after source).pass.1.mine object
    → Contains (hold_at before source).pass.1.mine object ⊎ ((other : List Hold) × Contains (one ∷ done) other × Contains (hold_at other source).pass.1.mine object)
mine_more source object one done before mid after more was c =
    elim (Contains-append_cases (hold_at mid source).pass.1.mine (hold_at one source).pass.1.mine object (subst (λ os. Contains os object) more c)) [
      | inl old ↦ elim (was old) [
        | inl base ↦ inl base
        | inr some ↦ inr (some.0, contains_there one done some.0 some.1, some.2)
      ]
      | inr new ↦ inr (one, contains_here one done, new)
    ]

rejoins_more : (pool : List TableId) (one : List Hold) (done : List (List Hold)) (before mid after : List Hold) → Rejoins pool done before mid
    → IsPassOf pool after
    → IsJoined pool mid one after → Rejoins pool (one ∷ done) before after
rejoins_more pool one done before mid after h own joined = record {
  own = own;
  knows = λ other c source l. elim (contains_cases one done other c) [
    | inl same ↦ subst (λ (p : List Hold). Follows (hold_at p source).pass.1 (hold_at after source).pass.1) same (joined.knows source l)
    | inr there ↦ follows_on (hold_at other source).pass.1 (hold_at mid source).pass.1 (hold_at after source).pass.1 (h.knows other there source l) (joined.follows source l)
  ];
  parts = λ source l.
      let more : (hold_at after source).pass.1.parts ≡ (hold_at mid source).pass.1.parts + (hold_at one source).pass.1.parts = ap (λ (x : Hold). x.pass.1.parts) (joined.holds source l) in
      let rest = h.parts source l in
      let sum = sum_by-cons (λ (p : List Hold). (hold_at p source).pass.1.parts) one done in
      omega (arith, more, rest, sum);
  asked = λ source l.
      let more : (hold_at after source).pass.1.asked ≡ (hold_at mid source).pass.1.asked + (hold_at one source).pass.1.asked = ap (λ (x : Hold). x.pass.1.asked) (joined.holds source l) in
      let rest = h.asked source l in
      let sum = sum_by-cons (λ (p : List Hold). (hold_at p source).pass.1.asked) one done in
      omega (arith, more, rest, sum);
  mine = λ source l object c. mine_more source object one done before mid after (ap (λ (x : Hold). x.pass.1.mine) (joined.holds source l)) (h.mine source l object) c;
  high = λ source l. high_more source one done before mid after (ap (λ (x : Hold). x.pass.1.high) (joined.holds source l)) (h.high source l);
}

-- the passes of workers
abbrev pub passes : List Worker → List (List Hold)
passes workers = map (λ worker. worker.pass) workers

-- of these workers some are left; the passes of the others were joined, and how their queries ended was put at their places
pub record RejoinedSo (pool : List TableId) (workers left : List Worker) (before now : List Hold) (drew draws : Draws) (empty places : List (Option Ended)) : Type 0 where
  pub done : List Worker
  pub splits : workers ≡ left ++ done
  pub joins : Rejoins pool (passes done) before now
  pub parts : draws.parts ≡ drew.parts + sum_by (λ (w : Worker). w.draws.1.parts) done
  pub drawn : (number : ℕ) → times number draws.drawn ≡ times number drew.drawn + sum_by (λ (w : Worker). times number w.draws.1.drawn) done
  pub size : length places ≡ length empty
  pub placed : (place : ℕ) → slice_index_or places place None ≡ standing place (flat_map (λ (w : Worker). w.ended.items) done) (slice_index_or empty place None)

no_more : {A : Type 0} (xs : List A) → xs ++ [] ≡ xs
no_more [] = refl
no_more (x ∷ xs) = ap (λ ys. x ∷ ys) (no_more xs)

pub rejoined_none : (pool : List TableId) (workers : List Worker) (before : List Hold) (drew : Draws) (empty : List (Option Ended)) → IsPassOf pool before
    → RejoinedSo pool workers workers before before drew drew empty empty
rejoined_none pool workers before drew empty own = record {
  done = [];
  splits = sym (no_more workers);
  joins = rejoins_none pool before own;
  parts = omega arith;
  drawn = λ number. omega arith;
  size = refl;
  placed = λ place. refl;
}

pub rejoined_more : (pool : List TableId) (workers left rest : List Worker) (worker : Worker) (before mid after : List Hold) (drew some draws : Draws)
    (empty had places : List (Option Ended)) → RejoinedSo pool workers left before mid drew some empty had
    → left ≡ rest ++ worker ∷ [] → IsPassOf pool after → IsJoined pool mid worker.pass after → draws ≡ joined some worker.draws.1
    → length places ≡ length had
    → ((place : ℕ) → slice_index_or places place None ≡ standing place worker.ended.items (slice_index_or had place None))
    → RejoinedSo pool workers rest before after drew draws empty places
rejoined_more pool workers left rest worker before mid after drew some draws empty had places h popped own joins both size placed = record {
  done = worker ∷ h.done;
  splits = h.splits ∙ (ap (λ xs. xs ++ h.done) popped ∙ append_assoc rest (worker ∷ []) h.done);
  joins = rejoins_more pool worker.pass (passes h.done) before mid after h.joins own joins;
  parts =
      let now : draws.parts ≡ some.parts + worker.draws.1.parts = ap (λ (d : Draws). d.parts) both in
      let was = h.parts in
      let sum = sum_by-cons (λ (w : Worker). w.draws.1.parts) worker h.done in
      omega (arith, now, was, sum);
  drawn = λ number.
      let now : times number draws.drawn ≡ times number some.drawn + times number worker.draws.1.drawn = ap (λ (d : Draws). times number d.drawn) both ∙ times_append number some.drawn worker.draws.1.drawn in
      let was = h.drawn number in
      let sum = sum_by-cons (λ (w : Worker). times number w.draws.1.drawn) worker h.done in
      omega (arith, now, was, sum);
  size = size ∙ h.size;
  placed = λ place.
      placed place ∙ (ap (standing place worker.ended.items) (h.placed place)
      ∙ sym (standing_append place worker.ended.items (flat_map (λ (w : Worker). w.ended.items) h.done) (slice_index_or empty place None)));
}

-- once none is left all were joined
pub rejoined_done : (pool : List TableId) (workers left : List Worker) (before now : List Hold) (drew draws : Draws) (empty places : List (Option Ended))
    → (h : RejoinedSo pool workers left before now drew draws empty places) → left ≡ [] → workers ≡ h.done
rejoined_done pool workers left before now drew draws empty places h none = h.splits ∙ ap (λ xs. xs ++ h.done) none

-- the last one that is left is one of them
pub last_left : (pool : List TableId) (workers left rest : List Worker) (worker : Worker) (before now : List Hold) (drew draws : Draws) (empty places : List (Option Ended))
    → RejoinedSo pool workers left before now drew draws empty places → left ≡ rest ++ worker ∷ [] → Contains workers worker
last_left pool workers left rest worker before now drew draws empty places h popped =
    subst (λ xs. Contains xs worker) (sym h.splits)
    (Contains-append_left left h.done worker (subst (λ xs. Contains xs worker) (sym popped) (Contains-append_right rest (worker ∷ []) worker (contains_here worker []))))
