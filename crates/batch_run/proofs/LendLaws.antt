-- Feeders that are put into slots from the last one on, and taken out from the first one on.
use Rattle.std.proofs.Common.{◌≡◌, ◌≤◌, ◌<◌, ◌+◌, ◌++◌, ◌∷◌, ℕ, Option, Some, None, List, [], length, take, slice_index_or, slice_set, All, refl, sym, ap, ◌∙◌, subst, inl, inr, arith, le_refl}
use Rattle.std.proofs.lemmas.Bool.{cases_lt}
use Rattle.std.proofs.lemmas.List.{take_all, take_at, take-take, length-set, length_push, get_or-take, get_or-set_same, get_or-set_other, get_or_push, get_or_append_left, get_or_default}
use Rattle.ranked_list.specs.declared.row.Row.{Row}
use Rattle.source_api.specs.declared.counts.Counts.{Counts}
use Rattle.source_api.specs.Calls.{Call}
use Rattle.source_pool.specs.Passes.{Feed, no_feed, feed_at}
use Rattle.fetcher.specs.declared.slot.Slot.{Slot}
use Rattle.fetcher.specs.Metering.{nothing}
use Rattle.batch_run.specs.Slots.{SlotState, state_of, AreLent, AreTakenBack}

-- feeders that are left are no more than all
left_fits : (feeds left : List Feed) → left ≡ take (length left) feeds → length left ≤ length feeds
left_fits feeds left front = elim (cases_lt (length feeds) (length left)) [
  | inl less ↦ let e : length left ≡ length feeds = ap length (front ∙ take_all (length left) feeds (omega (arith, less))) in omega (arith, e)
  | inr fits ↦ fits
]

pub none_left : (left : List Feed) → length left ≡ 0 → left ≡ []
none_left [] e = refl
none_left (feed ∷ left) e = absurd (omega (arith, e))

-- the last of some feeders that are left is that of its place
last_feed : (feeds left popped : List Feed) (feeder : Feed) → left ≡ take (length left) feeds → left ≡ popped ++ feeder ∷ [] → feeder ≡ feed_at feeds (length popped)
last_feed feeds left popped feeder front last =
    let long : length left ≡ length popped + 1 = ap length last ∙ length_push popped feeder in
    sym (get_or_push popped feeder no_feed (length popped) refl) ∙ ap (λ (xs : List Feed). feed_at xs (length popped)) (sym last ∙ front)
    ∙ get_or-take (length left) feeds (length popped) no_feed (omega (arith, long))

-- without the last one the others are a front as well
front_less : (feeds left popped : List Feed) (feeder : Feed) → left ≡ take (length left) feeds → left ≡ popped ++ feeder ∷ [] → popped ≡ take (length popped) feeds
front_less feeds left popped feeder front last =
    let long : length left ≡ length popped + 1 = ap length last ∙ length_push popped feeder in
    sym (take_at popped (feeder ∷ []) (length popped) refl) ∙ ap (take (length popped)) (sym last ∙ front)
    ∙ take-take (length popped) (length left) feeds (omega (arith, long))

module _ {S : Type 0} (list : S → Option (List Row)) (counts : S → Counts) (calls : S → Option (List Call)) (at_hand : S → ℕ) where
  -- the slots from as many on as feeders are left have theirs
  pub record LentTo (feeds left : List Feed) (before now : List (Slot S)) : Type 0 where
    pub size : length now ≡ length before
    pub left_is : left ≡ take (length left) feeds
    pub rest : (i : ℕ) (d : Slot S) → i < length left → slice_index_or now i d ≡ slice_index_or before i d
    pub done : (i : ℕ) (d : Slot S) → length left ≤ i → i < length before
        → state_of list counts calls at_hand (slice_index_or now i d) ≡ record (state_of list counts calls at_hand (slice_index_or before i d)) { feeder = Some (feed_at feeds i); fetched = nothing }

  pub lent_none : (feeds : List Feed) (before : List (Slot S)) → length feeds ≡ length before → LentTo feeds feeds before before
  lent_none feeds before many = record {
    size = refl;
    left_is = sym (take_all (length feeds) feeds (le_refl (length feeds)));
    rest = λ i d l. refl;
    done = λ i d ge l. absurd (omega (arith, ge, l, many));
  }

  -- there is a slot for each feeder that is left
  pub popped_within : (feeds left popped : List Feed) (feeder : Feed) (before now : List (Slot S)) → length feeds ≡ length before
      → LentTo feeds left before now → left ≡ popped ++ feeder ∷ [] → length popped < length now
  popped_within feeds left popped feeder before now many h last =
      let long : length left ≡ length popped + 1 = ap length last ∙ length_push popped feeder in
      let fits = left_fits feeds left h.left_is in
      let size = h.size in
      omega (arith, many, long, fits, size)

  -- the last feeder that is left goes to its place
  pub lent_more : (feeds left popped : List Feed) (feeder : Feed) (before now : List (Slot S)) (x : Slot S) (at : ℕ) → x ≡ slice_index_or now at x
      → length feeds ≡ length before → at ≡ length popped → LentTo feeds left before now → left ≡ popped ++ feeder ∷ []
      → LentTo feeds popped before (slice_set now at (record (slice_index_or now at x) { feeder = Some feeder; fetched = nothing }))
  lent_more feeds left popped feeder before now x at _ many at_is h last =
      let there = popped_within feeds left popped feeder before now many h last in
      let within : at < length now = omega (arith, there, at_is) in
      let long : length left ≡ length popped + 1 = ap length last ∙ length_push popped feeder in
      let new : Slot S = record (slice_index_or now at x) { feeder = Some feeder; fetched = nothing } in
      let fed : feeder ≡ feed_at feeds at = last_feed feeds left popped feeder h.left_is last ∙ ap (feed_at feeds) (sym at_is) in
      record {
        size = length-set now at new ∙ h.size;
        left_is = front_less feeds left popped feeder h.left_is last;
        rest = λ i d l. get_or-set_other now at i new d (λ q. absurd (omega (arith, q, l, at_is))) ∙ h.rest i d (omega (arith, l, long));
        done = λ i d ge l. elim (cases_lt at i) [
          | inl less ↦ ap (state_of list counts calls at_hand) (get_or-set_other now at i new d (λ q. absurd (omega (arith, q, less)))) ∙ h.done i d (omega (arith, less, long, at_is)) l
          | inr more ↦ let same : at ≡ i = omega (arith, more, ge, at_is) in
              subst (λ (j : ℕ). state_of list counts calls at_hand (slice_index_or (slice_set now at new) j d) ≡ record (state_of list counts calls at_hand (slice_index_or before j d)) { feeder = Some (feed_at feeds j); fetched = nothing }) same
              (ap (state_of list counts calls at_hand) (get_or-set_same now at new d within)
              ∙ ap (λ (s : Slot S). record (state_of list counts calls at_hand s) { feeder = Some feeder; fetched = nothing }) (get_or_default now at x d within ∙ h.rest at d (omega (arith, long, at_is)))
              ∙ ap (λ (f : Feed). record (state_of list counts calls at_hand (slice_index_or before at d)) { feeder = Some f; fetched = nothing }) fed)
        ];
      }

  pub lent_all : (feeds left : List Feed) (before now : List (Slot S)) → LentTo feeds left before now → left ≡ [] → AreLent list counts calls at_hand feeds before now
  lent_all feeds left before now h none = record {
    size = h.size;
    each = λ i d l. h.done i d (let e : length left ≡ 0 = ap length none in omega (arith, e)) l;
  }

  -- the slots before a place gave their feeders, in their order
  pub record BackTo (place : ℕ) (before now : List (Slot S)) (feeds : List Feed) : Type 0 where
    pub size : length now ≡ length before
    pub many : length feeds ≡ place
    pub were : (i : ℕ) (d : Slot S) → i < place → (slice_index_or before i d).feeder ≡ Some (feed_at feeds i)
    pub done : (i : ℕ) (d : Slot S) → i < place
        → state_of list counts calls at_hand (slice_index_or now i d) ≡ record (state_of list counts calls at_hand (slice_index_or before i d)) { feeder = None }
    pub rest : (i : ℕ) (d : Slot S) → place ≤ i → slice_index_or now i d ≡ slice_index_or before i d

  pub back_none : (before : List (Slot S)) (feeds : List Feed) → feeds ≡ [] → BackTo 0 before before feeds
  back_none before feeds none = record {
    size = refl;
    many = ap length none;
    were = λ i d l. absurd (omega (arith, l));
    done = λ i d l. absurd (omega (arith, l));
    rest = λ i d ge. refl;
  }

  -- the slot at the place gives its feeder
  pub back_more : (place : ℕ) (before now : List (Slot S)) (feeds next : List Feed) (feeder : Feed) (taken left : Option Feed) (x : Slot S)
      → taken ≡ (slice_index_or now place x).feeder → place < length now → taken ≡ Some feeder → left ≡ None → next ≡ feeds ++ feeder ∷ []
      → BackTo place before now feeds → BackTo (place + 1) before (slice_set now place (record (slice_index_or now place x) { feeder = left })) next
  back_more place before now feeds next feeder taken left x from within some none pushed h =
      let new : Slot S = record (slice_index_or now place x) { feeder = left } in
      record {
        size = length-set now place new ∙ h.size;
        many = ap length pushed ∙ length_push feeds feeder ∙ ap (λ (n : ℕ). n + 1) h.many;
        were = λ i d l. elim (cases_lt i place) [
          | inl less ↦ h.were i d less ∙ ap (λ (f : Feed). Some f)
              (sym (ap (λ (fs : List Feed). feed_at fs i) pushed ∙ get_or_append_left feeds (feeder ∷ []) no_feed i (let e = h.many in omega (arith, e, less))))
          | inr more ↦ let same : place ≡ i = omega (arith, more, l) in
              subst (λ (j : ℕ). (slice_index_or before j d).feeder ≡ Some (feed_at next j)) same
              (ap (λ (s : Slot S). s.feeder) (sym (get_or_default now place x d within ∙ h.rest place d (le_refl place))) ∙ sym from ∙ some
              ∙ ap (λ (f : Feed). Some f) (sym (ap (λ (fs : List Feed). feed_at fs place) pushed ∙ get_or_push feeds feeder no_feed place h.many)))
        ];
        done = λ i d l. elim (cases_lt i place) [
          | inl less ↦ ap (state_of list counts calls at_hand) (get_or-set_other now place i new d (λ q. absurd (omega (arith, q, less)))) ∙ h.done i d less
          | inr more ↦ let same : place ≡ i = omega (arith, more, l) in
              subst (λ (j : ℕ). state_of list counts calls at_hand (slice_index_or (slice_set now place new) j d) ≡ record (state_of list counts calls at_hand (slice_index_or before j d)) { feeder = None }) same
              (ap (state_of list counts calls at_hand) (get_or-set_same now place new d within)
              ∙ ap (λ (f : Option Feed). record (state_of list counts calls at_hand (slice_index_or now place x)) { feeder = f }) none
              ∙ ap (λ (s : Slot S). record (state_of list counts calls at_hand s) { feeder = None }) (get_or_default now place x d within ∙ h.rest place d (le_refl place)))
        ];
        rest = λ i d ge. get_or-set_other now place i new d (λ q. absurd (omega (arith, q, ge))) ∙ h.rest i d (omega (arith, ge));
      }

  pub back_all : (place : ℕ) (before now : List (Slot S)) (feeds : List Feed) → length before ≤ place → place ≤ length before → BackTo place before now feeds
      → AreTakenBack list counts calls at_hand before feeds now
  back_all place before now feeds all within h = record {
    size = h.size;
    many = h.many ∙ omega (arith, all, within);
    were = λ i d l. h.were i d (omega (arith, l, all));
    each = λ i d l. h.done i d (omega (arith, l, all));
  }

  pub back_empty : (place : ℕ) (before now : List (Slot S)) (feeds : List Feed) → length before ≤ place → BackTo place before now feeds
      → All (λ (slot : Slot S). slot.feeder ≡ None) now
  back_empty place before now feeds all h i d l =
      ap (λ (s : SlotState). s.feeder) (h.done i d (let e = h.size in omega (arith, l, e, all)))
