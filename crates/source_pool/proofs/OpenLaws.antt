-- A pool with one more source.
use Rattle.std.proofs.Common.{◌≡◌, ◌<◌, ◌≤◌, ◌+◌, inl, inr, ℕ, List, [], ◌∷◌, ◌++◌, length, refl, sym, ap, subst, ◌∙◌, arith}
use Rattle.std.proofs.lemmas.List.{length_push}
use Rattle.std.specs.Prelude.{slice_index}
use Rattle.atomic_table.specs.Seated.{TableId}
use Rattle.source_pool.specs.declared.hold.Hold.{Hold}
use Rattle.source_pool.specs.Holds.{no_lock, no_hold, IsFree}
use Rattle.topk_base.specs.declared.TheConstants.{MAX_OBJECTS}
use Rattle.source_state.specs.State.{IsSound}
use Rattle.source_pool.specs.Seen.{state_seen}
use Rattle.source_pool.specs.Passes.{Feed, no_feed, lock_at, hold_at, feed_at}
use Rattle.source_pool.specs.Sharing.{first_hold, first_feed, IsOpened}
use Rattle.source_pool.specs.Remembering.{Remembers}
use Rattle.source_pool.proofs.SeenLaws.{sound_first}
use Rattle.source_pool.proofs.RememberLaws.{none_remembered}
use Rattle.source_pool.proofs.Fronts.{last_or_before, read_before, read_last}

-- what is held of each source, and its feeder
record Held (counts : List ℕ) (pool : List TableId) (holds : List Hold) (feeds : List Feed) : Type 0 where
  pub small : (source : ℕ) → source < length counts → slice_index counts source ≤ MAX_OBJECTS
  pub locks : length pool ≡ length counts
  pub holds_size : length holds ≡ length counts
  pub feeds_size : length feeds ≡ length counts
  pub held : (source : ℕ) → source < length counts → hold_at holds source ≡ first_hold (lock_at pool source) source (slice_index counts source)
  pub fed : (source : ℕ) → source < length counts → feed_at feeds source ≡ first_feed (lock_at pool source) source (slice_index counts source)

opened_from : (counts : List ℕ) (pool : List TableId) (holds : List Hold) (feeds : List Feed) → Held counts pool holds feeds → IsOpened counts pool holds feeds
opened_from counts pool holds feeds h = record {
  size = h.locks;
  pass = record {
    size = h.holds_size ∙ sym h.locks;
    each = λ source within. let lt : source < length counts = subst (λ n. source < n) h.locks within in
        subst (λ (hold : Hold). IsFree (lock_at pool source) hold.pass) (sym (h.held source lt)) (record { own = refl; rests = refl });
    sound = λ source within. let lt : source < length counts = subst (λ n. source < n) h.locks within in
        subst (λ (hold : Hold). IsSound (state_seen hold.pass.1)) (sym (h.held source lt)) (sound_first source (slice_index counts source) (h.small source lt));
    remembers = λ source within. let lt : source < length counts = subst (λ n. source < n) h.locks within in
        subst (λ (hold : Hold). Remembers hold.pass.1.seen hold.remembered) (sym (h.held source lt)) (none_remembered []);
  };
  feeders = record {
    size = h.feeds_size ∙ sym h.locks;
    each = λ source within. let lt : source < length counts = subst (λ n. source < n) h.locks within in
        subst (λ (feed : Feed). IsFree (lock_at pool source) feed.pass) (sym (h.fed source lt)) (record { own = refl; rests = refl });
    sources = λ source within. let lt : source < length counts = subst (λ n. source < n) h.locks within in
        ap (λ (feed : Feed). feed.source) (h.fed source lt);
  };
  held = h.held;
  fed = h.fed;
}

-- what holds at each place holds where one more is put last that meets it
hold_more : (counts : List ℕ) (count : ℕ) (pool : List TableId) (table : TableId) (holds : List Hold) (hold : Hold) → length pool ≡ length counts
    → length holds ≡ length counts
    → ((source : ℕ) → source < length counts → hold_at holds source ≡ first_hold (lock_at pool source) source (slice_index counts source))
    → hold ≡ first_hold table (length counts) count
    → (source : ℕ) → source < length (counts ++ count ∷ []) → hold_at (holds ++ hold ∷ []) source ≡ first_hold (lock_at (pool ++ table ∷ []) source) source (slice_index (counts ++ count ∷ []) source)
hold_more counts count pool table holds hold pool_size size each is source within =
    elim (last_or_before (length counts) source (subst (λ n. source < n) (length_push counts count) within)) [
      | inl lt ↦
          read_before holds hold no_hold source (subst (λ n. source < n) (sym size) lt)
          ∙ (each source lt
          ∙ (ap (λ t. first_hold t source (slice_index counts source)) (sym (read_before pool table no_lock source (subst (λ n. source < n) (sym pool_size) lt)))
          ∙ ap (λ c. first_hold (lock_at (pool ++ table ∷ []) source) source c) (sym (read_before counts count 0 source lt))))
      | inr same ↦
          read_last holds hold no_hold source (same ∙ sym size)
          ∙ (is
          ∙ (ap (λ n. first_hold table n count) (sym same)
          ∙ (ap (λ t. first_hold t source count) (sym (read_last pool table no_lock source (same ∙ sym pool_size)))
          ∙ ap (λ c. first_hold (lock_at (pool ++ table ∷ []) source) source c) (sym (read_last counts count 0 source same)))))
    ]

feed_more : (counts : List ℕ) (count : ℕ) (pool : List TableId) (table : TableId) (feeds : List Feed) (feed : Feed) → length pool ≡ length counts
    → length feeds ≡ length counts
    → ((source : ℕ) → source < length counts → feed_at feeds source ≡ first_feed (lock_at pool source) source (slice_index counts source))
    → feed ≡ first_feed table (length counts) count
    → (source : ℕ) → source < length (counts ++ count ∷ []) → feed_at (feeds ++ feed ∷ []) source ≡ first_feed (lock_at (pool ++ table ∷ []) source) source (slice_index (counts ++ count ∷ []) source)
feed_more counts count pool table feeds feed pool_size size each is source within =
    elim (last_or_before (length counts) source (subst (λ n. source < n) (length_push counts count) within)) [
      | inl lt ↦
          read_before feeds feed no_feed source (subst (λ n. source < n) (sym size) lt)
          ∙ (each source lt
          ∙ (ap (λ t. first_feed t source (slice_index counts source)) (sym (read_before pool table no_lock source (subst (λ n. source < n) (sym pool_size) lt)))
          ∙ ap (λ c. first_feed (lock_at (pool ++ table ∷ []) source) source c) (sym (read_before counts count 0 source lt))))
      | inr same ↦
          read_last feeds feed no_feed source (same ∙ sym size)
          ∙ (is
          ∙ (ap (λ n. first_feed table n count) (sym same)
          ∙ (ap (λ t. first_feed t source count) (sym (read_last pool table no_lock source (same ∙ sym pool_size)))
          ∙ ap (λ c. first_feed (lock_at (pool ++ table ∷ []) source) source c) (sym (read_last counts count 0 source same)))))
    ]

small_more : (counts : List ℕ) (count : ℕ) (pool : List TableId) (holds : List Hold) (feeds : List Feed) → IsOpened counts pool holds feeds → count ≤ MAX_OBJECTS
    → (source : ℕ) → source < length (counts ++ count ∷ []) → slice_index (counts ++ count ∷ []) source ≤ MAX_OBJECTS
small_more counts count pool holds feeds h small source within =
    elim (last_or_before (length counts) source (subst (λ n. source < n) (length_push counts count) within)) [
      | inl lt ↦
          let sound : IsSound (state_seen (hold_at holds source).pass.1) = h.pass.sound source (subst (λ n. source < n) (sym h.size) lt) in
          let first : IsSound (state_seen (first_hold (lock_at pool source) source (slice_index counts source)).pass.1) = subst (λ (hold : Hold). IsSound (state_seen hold.pass.1)) (h.held source lt) sound in
          subst (λ n. n ≤ MAX_OBJECTS) (sym (read_before counts count 0 source lt)) first.small
      | inr same ↦ subst (λ n. n ≤ MAX_OBJECTS) (sym (read_last counts count 0 source same)) small
    ]

pushed_size : {X Y : Type 0} (xs : List X) (x : X) (ys : List Y) (y : Y) → length xs ≡ length ys → length (xs ++ x ∷ []) ≡ length (ys ++ y ∷ [])
pushed_size xs x ys y same = length_push xs x ∙ (ap (λ n. n + 1) same ∙ sym (length_push ys y))

pub opened_more : (counts : List ℕ) (count : ℕ) (pool : List TableId) (table : TableId) (holds : List Hold) (hold : Hold) (feeds : List Feed) (feed : Feed)
    → IsOpened counts pool holds feeds
    → count ≤ MAX_OBJECTS → hold ≡ first_hold table (length counts) count → feed ≡ first_feed table (length counts) count
    → IsOpened (counts ++ count ∷ []) (pool ++ table ∷ []) (holds ++ hold ∷ []) (feeds ++ feed ∷ [])
opened_more counts count pool table holds hold feeds feed h small is_hold is_feed =
    let holds_size : length holds ≡ length counts = h.pass.size ∙ h.size in
    let feeds_size : length feeds ≡ length counts = h.feeders.size ∙ h.size in
    opened_from (counts ++ count ∷ []) (pool ++ table ∷ []) (holds ++ hold ∷ []) (feeds ++ feed ∷ [])
    (record {
      small = small_more counts count pool holds feeds h small;
      locks = pushed_size pool table counts count h.size;
      holds_size = pushed_size holds hold counts count holds_size;
      feeds_size = pushed_size feeds feed counts count feeds_size;
      held = hold_more counts count pool table holds hold h.size holds_size h.held is_hold;
      fed = feed_more counts count pool table feeds feed h.size feeds_size h.fed is_feed;
    })

pub opened_none : IsOpened [] [] [] []
opened_none = opened_from [] [] [] [] (record { small = λ source h. absurd (omega arith); locks = refl; holds_size = refl; feeds_size = refl; held = λ source h. absurd (omega arith); fed = λ source h. absurd (omega arith) })
