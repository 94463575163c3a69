-- What steps leave of a pool of one source.
use Rattle.std.proofs.Common.{◌≡◌, ◌≤◌, ◌<◌, ◌+◌, ◌-◌, ◌∷◌, [], ℕ, List, length, refl, sym, ap, subst, ◌∙◌, arith}
use Rattle.ranked_list.specs.declared.need.Need.{Need}
use Rattle.ranked_list.specs.declared.need.Need.TheVariants as need
use Rattle.atomic_table.specs.Seated.{TableId}
use Rattle.turn_lock.specs.declared.facts.Facts.{Facts}
use Rattle.turn_lock.specs.declared.known.Known.{Known}
use Rattle.turn_lock.specs.Known.{all_parts}
use Rattle.source_state.specs.declared.entry.LogEntry.{LogEntry}
use Rattle.source_pool.specs.declared.hold.Hold.{Hold}
use Rattle.source_pool.specs.Holds.{IsFree}
use Rattle.source_pool.specs.Passes.{Feed, lock_at, hold_at, feed_at, IsPassOf, IsIdleOf, AreFeedersOf, turned}
use Rattle.source_pool.specs.Looks.{MayLookFor, KnowsOn}
use Rattle.source_pool.specs.Sharing.{first_feed, IsOpened, MaySplit, IsSplit, IsJoined}
use Rattle.source_pool.specs.Closed.{HaveAll}
use Rattle.fetcher.specs.Turning.{Feeds}
use Rattle.test_query_support.specs.declared.desk.Desk.{Desk}
use Rattle.test_query_support.specs.Ready.{IsReady, MayAsk}

-- a depth of the list is one that the pass may look at
pub may_for : (known : Known LogEntry) (count : ℕ) (n : Need) → known.name.1 ≡ count → MayAsk count n → MayLookFor known n
may_for known count (need.Row list depth) same may = (may.0, subst (λ c. depth ≤ c) (sym same) may.1)
may_for known count (need.Grade list object) same may = tt
may_for known count need.Done same may = may

-- the one source is the first
first_is : (source : ℕ) (pool : List TableId) → length pool ≡ 1 → source < length pool → source ≡ 0
first_is source pool one lt = omega (arith, one)

-- a pool that was opened may be split
pub may_split : (count : ℕ) (pool : List TableId) (holds : List Hold) (feeds : List Feed) → IsOpened (count ∷ []) pool holds feeds → MaySplit pool holds
may_split count pool holds feeds opened = record {
  parts = λ source lt.
      let first : source ≡ 0 = first_is source pool opened.size lt in
      subst (λ s. 2 ≤ (hold_at holds s).pass.1.parts) (sym first) (subst (λ (h : Hold). 2 ≤ h.pass.1.parts) (sym (opened.held 0 (omega arith))) (omega arith));
}

-- the feeder of a pool that was opened has no turn
pub idle_first : (count : ℕ) (pool : List TableId) (holds : List Hold) (feeds : List Feed) (feed : Feed) → IsOpened (count ∷ []) pool holds feeds
    → feed ≡ feed_at feeds 0 → IsIdleOf pool feed
idle_first count pool holds feeds feed opened is =
    let lt : 0 < length pool = let size = opened.size in omega (arith, size) in
    subst (IsIdleOf pool) (sym (is ∙ opened.fed 0 (omega arith))) (record { of = record { source = lt; own = refl }; rests = refl })

-- the pool, its two passes and its one feeder
pub split_ready : (count page ahead : ℕ) (pool : List TableId) (before after other : List Hold) (feeds : List Feed) (feed : Feed) (desk : Desk)
    → IsOpened (count ∷ []) pool before feeds
    → IsPassOf pool after → IsPassOf pool other → IsSplit pool before after other → feed ≡ feed_at feeds 0
    → desk.pool ≡ pool → desk.pass ≡ after → desk.other ≡ other → desk.feeder ≡ feed → desk.count ≡ count → (1 ≤ desk.page) × (desk.page ≤ 10000) → desk.ahead ≤ 100 → IsReady desk
split_ready count page ahead pool before after other feeds feed desk opened own his split is p a o f c pages aheads =
    let lt : 0 < length pool = let size = opened.size in omega (arith, size) in
    let held = opened.held 0 (omega arith) in
    let kept = split.kept 0 lt in
    let given = split.given 0 lt in
    let fed : desk.feeder ≡ first_feed (lock_at pool 0) 0 count = f ∙ (is ∙ opened.fed 0 (omega arith)) in
    let mine : hold_at desk.pass 0 ≡ hold_at after 0 = ap (λ hs. hold_at hs 0) a in
    let yours : hold_at desk.other 0 ≡ hold_at other 0 = ap (λ hs. hold_at hs 0) o in
    record {
      pass = subst (λ t. IsPassOf t desk.pass) (sym p) (subst (IsPassOf pool) (sym a) own);
      other = subst (λ t. IsPassOf t desk.other) (sym p) (subst (IsPassOf pool) (sym o) his);
      feeder = subst (λ t. IsIdleOf t desk.feeder) (sym p) (subst (IsIdleOf pool) (sym f) (idle_first count pool before feeds feed opened is));
      first = ap (λ (one : Feed). one.source) fed;
      one = ap length p ∙ opened.size;
      mine = ap (λ (h : Hold). h.pass.1.name.1) (mine ∙ kept) ∙ (ap (λ (h : Hold). h.pass.1.name.1) held ∙ sym c);
      his = ap (λ (h : Hold). h.pass.1.name.1) (yours ∙ given) ∙ (ap (λ (h : Hold). h.pass.1.name.1) held ∙ sym c);
      parts =
          let my : (hold_at desk.pass 0).pass.1.parts ≡ all_parts - 1 - 1 = ap (λ (h : Hold). h.pass.1.parts) (mine ∙ kept) ∙ ap (λ (h : Hold). h.pass.1.parts - 1) held in
          let your : (hold_at desk.other 0).pass.1.parts ≡ 1 = ap (λ (h : Hold). h.pass.1.parts) (yours ∙ given) in
          let its : desk.feeder.pass.1.parts ≡ all_parts - (all_parts - 1) = ap (λ (one : Feed). one.pass.1.parts) fed in
          omega (arith, my, your, its);
      page = pages;
      ahead = aheads;
    }

-- the feeders of a pool of one source
pub one_feeder : (pool : List TableId) (feed : Feed) (feeds : List Feed) → length pool ≡ 1 → IsIdleOf pool feed → feed.source ≡ 0 → feeds ≡ feed ∷ []
    → AreFeedersOf pool feeds
one_feeder pool feed feeds one idle first is =
    subst (AreFeedersOf pool) (sym is)
    (record {
      size = sym one;
      each = λ source lt. let zeros : source ≡ 0 = first_is source pool one lt in
          subst (λ s. IsFree (lock_at pool s) (feed_at (feed ∷ []) s).pass) (sym zeros) (record { own = idle.of.own ∙ ap (lock_at pool) first; rests = idle.rests });
      sources = λ source lt. let zeros : source ≡ 0 = first_is source pool one lt in subst (λ s. (feed_at (feed ∷ []) s).source ≡ s) (sym zeros) first;
    })

-- all parts come together
pub have_all : (pool : List TableId) (before other after : List Hold) (feeds : List Feed) → length pool ≡ 1 → IsJoined pool before other after
    → (hold_at before 0).pass.1.parts + (hold_at other 0).pass.1.parts + (feed_at feeds 0).pass.1.parts ≡ all_parts → HaveAll pool after feeds
have_all pool before other after feeds one joined parts = record {
  parts = λ source lt.
      let zeros : source ≡ 0 = first_is source pool one lt in
      let there : 0 < length pool = omega (arith, one) in
      let mine : (hold_at after 0).pass.1.parts ≡ (hold_at before 0).pass.1.parts + (hold_at other 0).pass.1.parts = ap (λ (h : Hold). h.pass.1.parts) (joined.holds 0 there) in
      subst (λ s. (hold_at after s).pass.1.parts + (feed_at feeds s).pass.1.parts ≡ all_parts) (sym zeros) (omega (arith, mine, parts));
}

-- after a look through the first pass, through the other, and after a turn of the fetcher
pub looked_mine : (d : Desk) (after : List Hold) → IsReady d → IsPassOf d.pool after → KnowsOn (hold_at d.pass 0).pass.1 (hold_at after 0).pass.1
    → IsReady (record d { pass = after })
looked_mine d after h own knows = record {
  pass = own;
  other = h.other;
  feeder = h.feeder;
  first = h.first;
  one = h.one;
  mine = ap (λ (p : ℕ × ℕ). p.1) knows.name ∙ h.mine;
  his = h.his;
  parts = let same = knows.parts in let all = h.parts in omega (arith, same, all);
  page = h.page;
  ahead = h.ahead;
}

pub looked_his : (d : Desk) (after : List Hold) → IsReady d → IsPassOf d.pool after → KnowsOn (hold_at d.other 0).pass.1 (hold_at after 0).pass.1
    → IsReady (record d { other = after })
looked_his d after h own knows = record {
  pass = h.pass;
  other = own;
  feeder = h.feeder;
  first = h.first;
  one = h.one;
  mine = h.mine;
  his = ap (λ (p : ℕ × ℕ). p.1) knows.name ∙ h.his;
  parts = let same = knows.parts in let all = h.parts in omega (arith, same, all);
  page = h.page;
  ahead = h.ahead;
}

pub fed_ready : (d : Desk) (feed : Feed) → IsReady d → IsIdleOf d.pool feed → feed.source ≡ d.feeder.source
    → Feeds d.feeder.pass.1 feed.pass.1 → IsReady (record d { feeder = feed })
fed_ready d feed h idle same feeds = record {
  pass = h.pass;
  other = h.other;
  feeder = idle;
  first = same ∙ h.first;
  one = h.one;
  mine = h.mine;
  his = h.his;
  parts = let kept = feeds.parts in let all = h.parts in omega (arith, kept, all);
  page = h.page;
  ahead = h.ahead;
}

-- after a look through the first pass while the feeder had a turn, in which it gave what it took
pub held_ready : (d : Desk) (after : List Hold) (feed : Feed) (f : Facts LogEntry) → IsReady d → IsPassOf d.pool after
    → KnowsOn (hold_at d.pass 0).pass.1 (hold_at after 0).pass.1 → feed ≡ turned f f d.feeder → IsReady (record d { pass = after; feeder = feed })
held_ready d after feed f h own knows is = record {
  pass = own;
  other = h.other;
  feeder = subst (IsIdleOf d.pool) (sym is) (record { of = record { source = h.feeder.of.source; own = h.feeder.of.own }; rests = refl });
  first = ap (λ (one : Feed). one.source) is ∙ h.first;
  one = h.one;
  mine = ap (λ (p : ℕ × ℕ). p.1) knows.name ∙ h.mine;
  his = h.his;
  parts = let same = knows.parts in let kept : feed.pass.1.parts ≡ d.feeder.pass.1.parts = ap (λ (one : Feed). one.pass.1.parts) is in let all = h.parts in omega (arith, same, kept, all);
  page = h.page;
  ahead = h.ahead;
}
