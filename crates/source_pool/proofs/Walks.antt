-- A pass that is split source by source, and one that is joined from the last source to the first.
use Rattle.std.proofs.Common.{◌≡◌, ◌<◌, ◌≤◌, ◌+◌, inl, inr, ℕ, List, [], ◌∷◌, ◌++◌, length, get_or, set, take, refl, sym, ap, subst, ◌∙◌, arith, length-set, le_refl}
use Rattle.std.proofs.lemmas.List.{get_or-set_same, get_or-set_other, length_push, take_all, get_or_read}
use Rattle.std.proofs.lemmas.Bool.Decides.{eqb_tells}
use Rattle.atomic_table.specs.Seated.{TableId}
use Rattle.turn_lock.specs.declared.known.Known.{Known}
use Rattle.turn_lock.specs.Known.{Follows, joined}
use Rattle.source_state.specs.declared.entry.LogEntry.{LogEntry}
use Rattle.source_state.specs.State.{IsSound}
use Rattle.source_pool.specs.declared.hold.Hold.{Hold}
use Rattle.source_pool.specs.Holds.{no_lock, no_hold, IsFree}
use Rattle.source_pool.specs.Seen.{state_seen}
use Rattle.source_pool.specs.Passes.{lock_at, hold_at, IsPassOf}
use Rattle.source_pool.specs.HoldSharing.{kept_hold, new_hold, joined_hold}
use Rattle.source_pool.specs.Sharing.{IsSplit, IsJoined}
use Rattle.source_pool.specs.Remembering.{Remembers}
use Rattle.source_pool.proofs.SeenLaws.{sound_joined}
use Rattle.source_pool.proofs.RememberLaws.{none_remembered}
use Rattle.source_pool.proofs.Fronts.{last_or_before, read_before, read_last, front_before, front_last, front_within}

-- the sources before a place are split
pub record SplitTo (place : ℕ) (before holds others : List Hold) : Type 0 where
  pub size : length holds ≡ length before
  pub new : length others ≡ place
  pub kept : (source : ℕ) → source < place → hold_at holds source ≡ kept_hold (hold_at before source)
  pub given : (source : ℕ) → source < place → hold_at others source ≡ new_hold (hold_at before source)
  pub rest : (source : ℕ) → place ≤ source → hold_at holds source ≡ hold_at before source

pub split_none : (before : List Hold) → SplitTo 0 before before []
split_none before = record { size = refl; new = refl; kept = λ source h. absurd (omega arith); given = λ source h. absurd (omega arith); rest = λ source h. refl }

pub split_more : (place : ℕ) (before holds given : List Hold) (hold : Hold) → SplitTo place before holds given → place < length holds
    → hold ≡ hold_at holds place
    → SplitTo (place + 1) before (set holds place (kept_hold hold)) (given ++ new_hold hold ∷ [])
split_more place before holds given hold h within is =
    let was : hold ≡ hold_at before place = is ∙ h.rest place (omega arith) in
    record {
      size = length-set holds place (kept_hold hold) ∙ h.size;
      new = length_push given (new_hold hold) ∙ ap (λ n. n + 1) h.new;
      kept = λ source lt. elim (last_or_before place source lt) [
        | inl old ↦ get_or-set_other holds place source (kept_hold hold) no_hold (let apart : source ≡ place → ⊥ = λ e. omega arith in apart) ∙ h.kept source old
        | inr same ↦ subst (λ s. hold_at (set holds place (kept_hold hold)) s ≡ kept_hold (hold_at before s)) (sym same) (get_or-set_same holds place (kept_hold hold) no_hold within ∙ ap kept_hold was)
      ];
      given = λ source lt. elim (last_or_before place source lt) [
        | inl old ↦ read_before given (new_hold hold) no_hold source (subst (λ n. source < n) (sym h.new) old) ∙ h.given source old
        | inr same ↦ read_last given (new_hold hold) no_hold source (same ∙ sym h.new) ∙ (ap new_hold was ∙ ap (λ s. new_hold (hold_at before s)) (sym same))
      ];
      rest = λ source ge. get_or-set_other holds place source (kept_hold hold) no_hold (let apart : source ≡ place → ⊥ = λ e. omega arith in apart) ∙ h.rest source (omega arith);
    }

pub split_step : (place : ℕ) (before holds given more : List Hold) (hold kept new : Hold) → SplitTo place before holds given → place < length before
    → hold ≡ get_or holds place hold → kept ≡ kept_hold hold → new ≡ new_hold hold → more ≡ given ++ new ∷ []
    → SplitTo (place + 1) before (set holds place kept) more
split_step place before holds given more hold kept new h within read is_kept is_new pushed =
    let short : place < length holds = subst (λ n. place < n) (sym h.size) within in
    let mine : hold ≡ hold_at holds place = get_or_read holds place hold short read no_hold in
    let whole : SplitTo (place + 1) before (set holds place (kept_hold hold)) (given ++ new_hold hold ∷ []) = split_more place before holds given hold h short mine in
    subst (λ xs. SplitTo (place + 1) before (set holds place kept) xs) (sym pushed)
    (subst (λ one. SplitTo (place + 1) before (set holds place kept) (given ++ one ∷ [])) (sym is_new)
    (subst (λ one. SplitTo (place + 1) before (set holds place one) (given ++ new_hold hold ∷ [])) (sym is_kept) whole))

-- what two passes hold of a source is joined
pub record IsOne (before other after : Hold) : Type 0 where
  pub is : after ≡ joined_hold before other
  pub follows : Follows before.pass.1 after.pass.1
  pub knows : Follows other.pass.1 after.pass.1
  pub name : other.pass.1.name ≡ before.pass.1.name

-- the sources from a place on are joined, and the other pass has those before it left
pub record JoinedFrom (place : ℕ) (before other holds rest_of : List Hold) : Type 0 where
  pub size : length holds ≡ length before
  pub left : rest_of ≡ take place other
  pub rest : (source : ℕ) → source < place → hold_at holds source ≡ hold_at before source
  pub done : (source : ℕ) → place ≤ source → source < length before → IsOne (hold_at before source) (hold_at other source) (hold_at holds source)

pub joined_more : (before other holds left : List Hold) (last hold joined : Hold)
    → JoinedFrom (length (left ++ last ∷ [])) before other holds (left ++ last ∷ [])
    → length left < length holds → hold ≡ hold_at holds (length left) → IsOne hold last joined
    → JoinedFrom (length left) before other (set holds (length left) joined) left
joined_more before other holds left last hold joined h within is one =
    let place : length left + 1 ≡ length (left ++ last ∷ []) = sym (length_push left last) in
    let was : hold ≡ hold_at before (length left) = is ∙ h.rest (length left) (omega (arith, place)) in
    let theirs : last ≡ hold_at other (length left) = front_last left last no_hold (length (left ++ last ∷ [])) other place h.left in
    record {
      size = length-set holds (length left) joined ∙ h.size;
      left = front_before left last (length (left ++ last ∷ [])) other place h.left;
      rest = λ source lt. get_or-set_other holds (length left) source joined no_hold (let apart : source ≡ length left → ⊥ = λ e. omega arith in apart) ∙ h.rest source (omega (arith, place));
      done = λ source ge lt. elim (eqb_tells source (length left)) [
        | inl same ↦ subst (λ s. IsOne (hold_at before s) (hold_at other s) (hold_at (set holds (length left) joined) s)) (sym same.1)
            (subst (IsOne (hold_at before (length left)) (hold_at other (length left))) (sym (get_or-set_same holds (length left) joined no_hold within))
            (subst (λ mine. IsOne mine (hold_at other (length left)) joined) was (subst (λ his. IsOne hold his joined) theirs one)))
        | inr apart ↦ subst (IsOne (hold_at before source) (hold_at other source)) (sym (get_or-set_other holds (length left) source joined no_hold apart.1))
            (h.done source (let differ : source ≡ length left → ⊥ = apart.1 in omega (arith, place)) lt)
      ];
    }

-- when all sources are split
free_kept : (table : TableId) (hold : Hold) → IsFree table hold.pass → IsFree table (kept_hold hold).pass
free_kept table hold free = record { own = free.own; rests = free.rests }

free_new : (table : TableId) (hold : Hold) → IsFree table hold.pass → IsFree table (new_hold hold).pass
free_new table hold free = record { own = free.own; rests = free.rests }

free_joined : (table : TableId) (one other : Hold) → IsFree table one.pass → IsFree table (joined_hold one other).pass
free_joined table one other free = record { own = free.own; rests = refl }

pub split_kept : (pool : List TableId) (before holds others : List Hold) → IsPassOf pool before → SplitTo (length pool) before holds others
    → IsPassOf pool holds
split_kept pool before holds others own h = record {
  size = h.size ∙ own.size;
  each = λ source lt. subst (λ (one : Hold). IsFree (lock_at pool source) one.pass) (sym (h.kept source lt)) (free_kept (lock_at pool source) (hold_at before source) (own.each source lt));
  sound = λ source lt. subst (λ (one : Hold). IsSound (state_seen one.pass.1)) (sym (h.kept source lt)) (own.sound source lt);
  remembers = λ source lt. subst (λ (one : Hold). Remembers one.pass.1.seen one.remembered) (sym (h.kept source lt)) (own.remembers source lt);
}

pub split_given : (pool : List TableId) (before holds others : List Hold) → IsPassOf pool before → SplitTo (length pool) before holds others
    → IsPassOf pool others
split_given pool before holds others own h = record {
  size = h.new;
  each = λ source lt. subst (λ (one : Hold). IsFree (lock_at pool source) one.pass) (sym (h.given source lt)) (free_new (lock_at pool source) (hold_at before source) (own.each source lt));
  sound = λ source lt. subst (λ (one : Hold). IsSound (state_seen one.pass.1)) (sym (h.given source lt)) (own.sound source lt);
  remembers = λ source lt. subst (λ (one : Hold). Remembers one.pass.1.seen one.remembered) (sym (h.given source lt))
      (none_remembered (hold_at before source).pass.1.seen);
}

pub split_is : (pool : List TableId) (before holds others : List Hold) → SplitTo (length pool) before holds others → IsSplit pool before holds others
split_is pool before holds others h = record { kept = h.kept; given = h.given }

-- before any source is joined, and when all are
pub joined_none : (before other : List Hold) → length other ≡ length before → JoinedFrom (length other) before other before other
joined_none before other same = record {
  size = refl;
  left = sym (take_all (length other) other (le_refl (length other)));
  rest = λ source lt. refl;
  done = λ source ge lt. absurd (omega (arith, same));
}

sound_one : (before other after : Hold) → IsOne before other after → IsSound (state_seen before.pass.1) → IsSound (state_seen other.pass.1) → IsSound (state_seen after.pass.1)
sound_one before other after one mine his =
    let known : after.pass.1 ≡ joined before.pass.1 other.pass.1 = ap (λ (hold : Hold). hold.pass.1) one.is in
    subst (λ (k : Known LogEntry). IsSound (state_seen k)) (sym known)
    (sound_joined before.pass.1 other.pass.1 one.name (subst (Follows before.pass.1) known one.follows) (subst (Follows other.pass.1) known one.knows) mine his)

pub joined_own : (pool : List TableId) (before other holds rest_of : List Hold) → IsPassOf pool before → IsPassOf pool other
    → JoinedFrom 0 before other holds rest_of → IsPassOf pool holds
joined_own pool before other holds rest_of own others h = record {
  size = h.size ∙ own.size;
  each = λ source lt.
      let one = h.done source (omega arith) (subst (λ n. source < n) (sym own.size) lt) in
      subst (λ (after : Hold). IsFree (lock_at pool source) after.pass) (sym one.is) (free_joined (lock_at pool source) (hold_at before source) (hold_at other source) (own.each source lt));
  sound = λ source lt. sound_one (hold_at before source) (hold_at other source) (hold_at holds source)
      (h.done source (omega arith) (subst (λ n. source < n) (sym own.size) lt)) (own.sound source lt) (others.sound source lt);
  remembers = λ source lt.
      let one = h.done source (omega arith) (subst (λ n. source < n) (sym own.size) lt) in
      subst (λ (after : Hold). Remembers after.pass.1.seen after.remembered) (sym one.is)
      (none_remembered (joined (hold_at before source).pass.1 (hold_at other source).pass.1).seen);
}

pub joined_is : (pool : List TableId) (before other holds rest_of : List Hold) → IsPassOf pool before → JoinedFrom 0 before other holds rest_of
    → IsJoined pool before other holds
joined_is pool before other holds rest_of own h = record {
  holds = λ source lt. (h.done source (omega arith) (subst (λ n. source < n) (sym own.size) lt)).is;
  follows = λ source lt. (h.done source (omega arith) (subst (λ n. source < n) (sym own.size) lt)).follows;
  knows = λ source lt. (h.done source (omega arith) (subst (λ n. source < n) (sym own.size) lt)).knows;
}

-- what a pop of the other pass gives
pub joined_as : (before other holds some_left left : List Hold) → some_left ≡ left → JoinedFrom (length some_left) before other holds some_left
    → JoinedFrom (length left) before other holds left
joined_as before other holds some_left left e h = subst (λ xs. JoinedFrom (length xs) before other holds xs) e h

pub other_free : (pool : List TableId) (before other holds left : List Hold) (last : Hold) (table : TableId) (place : ℕ) → IsPassOf pool other
    → JoinedFrom (length (left ++ last ∷ [])) before other holds (left ++ last ∷ []) → place ≡ length left → table ≡ get_or pool place table → IsFree table last.pass
other_free pool before other holds left last table place own h at read =
    let theirs : last ≡ hold_at other (length left) = front_last left last no_hold (length (left ++ last ∷ [])) other (sym (length_push left last)) h.left in
    let short : length left < length other = front_within left last (length (left ++ last ∷ [])) other h.left in
    let within : length left < length pool = subst (λ n. length left < n) own.size short in
    let mine : table ≡ lock_at pool (length left) = get_or_read pool (length left) table within (read ∙ ap (λ n. get_or pool n table) at) no_lock in
    subst (λ t. IsFree t last.pass) (sym mine) (subst (λ (one : Hold). IsFree (lock_at pool (length left)) one.pass) (sym theirs) (own.each (length left) within))

pub joined_step : (pool : List TableId) (before other holds left : List Hold) (last hold joined : Hold) (place : ℕ) → IsPassOf pool before → IsPassOf pool other
    → JoinedFrom (length (left ++ last ∷ [])) before other holds (left ++ last ∷ []) → place ≡ length left → hold ≡ get_or holds place hold → IsOne hold last joined
    → JoinedFrom (length left) before other (set holds place joined) left
joined_step pool before other holds left last hold joined place own others h at read one =
    let short : length left < length other = front_within left last (length (left ++ last ∷ [])) other h.left in
    let within : length left < length holds = let a = h.size in let b = own.size in let d = others.size in omega (arith, short, a, b, d) in
    let mine : hold ≡ hold_at holds (length left) = get_or_read holds (length left) hold within (read ∙ ap (λ n. get_or holds n hold) at) no_hold in
    subst (λ n. JoinedFrom (length left) before other (set holds n joined) left) (sym at) (joined_more before other holds left last hold joined h within mine one)
