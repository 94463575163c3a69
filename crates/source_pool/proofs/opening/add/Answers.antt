use Rattle.std.proofs.Common.{◌≡◌, ◌≤◌, ◌-◌, ◌∷◌, ◌++◌, [], ℕ, List, length, sym, ap, subst, ◌∙◌, arith}
use Rattle.atomic_table.specs.Seated.{TableId}
use Rattle.turn_lock.specs.Known.{all_parts, without, split_off}
use Rattle.topk_base.specs.declared.TheConstants.{MAX_OBJECTS}
use Rattle.source_pool.specs.declared.hold.Hold.{Hold}
use Rattle.source_pool.specs.Holds.{SourcePass, no_fails, no_waiting}
use Rattle.source_pool.specs.HoldSharing.{first_known}
use Rattle.source_pool.specs.Passes.{Feed}
use Rattle.source_pool.specs.declared.remembered.Remembered.{Remembered}
use Rattle.source_pool.specs.Remembering.{nothing}
use Rattle.source_pool.specs.Sharing.{first_hold, first_feed, IsOpened}
use Rattle.source_pool.proofs.OpenLaws.{opened_more}
use Rattle.source_pool.proofs.opening.add.Goals as goal

-- what three pushes make of a pool
opened_pushed : (counts : List ℕ) (count : ℕ) (pool more_pool : List TableId) (table : TableId) (holds more_holds : List Hold) (hold : Hold)
    (feeds more_feeds : List Feed) (feed : Feed)
    → more_pool ≡ pool ++ table ∷ [] → more_holds ≡ holds ++ hold ∷ [] → more_feeds ≡ feeds ++ feed ∷ []
    → count ≤ MAX_OBJECTS → hold ≡ first_hold table (length pool) count → feed ≡ first_feed table (length pool) count
    → IsOpened counts pool holds feeds → IsOpened (counts ++ count ∷ []) more_pool more_holds more_feeds
opened_pushed counts count pool more_pool table holds more_holds hold feeds more_feeds feed a b d small is_hold is_feed h =
    let more : IsOpened (counts ++ count ∷ []) (pool ++ table ∷ []) (holds ++ hold ∷ []) (feeds ++ feed ∷ []) =
    opened_more counts count pool table holds hold feeds feed h small (is_hold ∙ ap (λ n. first_hold table n count) h.size) (is_feed ∙ ap (λ n. first_feed table n count) h.size) in
    subst (λ x. IsOpened (counts ++ count ∷ []) x more_holds more_feeds) (sym a)
    (subst (λ x. IsOpened (counts ++ count ∷ []) (pool ++ table ∷ []) x more_feeds) (sym b)
    (subst (λ x. IsOpened (counts ++ count ∷ []) (pool ++ table ∷ []) (holds ++ hold ∷ []) x) (sym d) more))

-- what is held, and the feeder, of a lock whose first pass was split
held_first : (table : TableId) (size count : ℕ) (writer given : SourcePass) (remembered : Remembered) → writer ≡ (table, first_known size count) → given ≡ (table, split_off (all_parts - 1) writer.1)
    → remembered ≡ nothing → record { pass = given; waiting = no_waiting; shown = no_fails; remembered = remembered } ≡ first_hold table size count
held_first table size count writer given remembered is split none =
    ap {A = Remembered} {B = Hold} (λ r. record { pass = given; waiting = no_waiting; shown = no_fails; remembered = r }) none
    ∙ ap {A = SourcePass} {B = Hold} (λ p. record { pass = p; waiting = no_waiting; shown = no_fails; remembered = nothing }) (split ∙ ap (λ (w : SourcePass). (table, split_off (all_parts - 1) w.1)) is)

fed_first : (table : TableId) (size source count : ℕ) (writer kept : SourcePass) → writer ≡ (table, first_known size count) → kept ≡ (table, without (all_parts - 1) writer.1)
    → source ≡ size → record { source = source; pass = kept } ≡ first_feed table size count
fed_first table size source count writer kept is split at =
    ap {A = ℕ} {B = Feed} (λ n. record { source = n; pass = kept }) at
    ∙ ap {A = SourcePass} {B = Feed} (λ p. record { source = size; pass = p }) (split ∙ ap (λ (w : SourcePass). (table, without (all_parts - 1) w.1)) is)

pub returns-clause-added : goal.returns-clause-added
returns-clause-added c = λ counts h.
    let at : c.len-source.result ≡ length c.args.opened.now.locks.items = omega (arith, c.len-source.ensures, c.args.opened.now.locks.ok.0) in
    opened_pushed counts c.args.count _ _ c.args.lock _ _ _ _ _ _ c.push_reserved-3.ensures.items c.push_reserved.ensures.items c.push_reserved-2.ensures.items c.requires.count
    (held_first c.args.lock (length c.args.opened.now.locks.items) c.args.count c.args.writer c.split-pass.result c.args.remembered c.requires.pass c.split-pass.ensures.given c.requires.empty)
    (fed_first c.args.lock (length c.args.opened.now.locks.items) c.len-source.result c.args.count c.args.writer c.split-pass.new.pass c.requires.pass c.split-pass.ensures.kept at) h

pub returns-clause-room : goal.returns-clause-room
returns-clause-room c = λ room h. record {
  locks = omega (arith, c.push_reserved-3.ensures.capacity, h.locks);
  holds = omega (arith, c.push_reserved.ensures.capacity, h.holds);
  feeders = omega (arith, c.push_reserved-2.ensures.capacity, h.feeders);
}
