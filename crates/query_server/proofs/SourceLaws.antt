-- What is left of the sources.
use Rattle.std.proofs.Common.{◌≡◌, ◌<◌, ◌⊎◌, inl, inr, ℕ, Option, None, List, All, length, map, slice_index_or, refl, sym, ap, subst, ◌∙◌, arith}
use Rattle.ranked_list.specs.declared.row.Row.{Row}
use Rattle.source_api.specs.declared.counts.Counts.{Counts}
use Rattle.source_api.specs.Calls.{Call}
use Rattle.source_api.specs.Counting.{NoneFell}
use Rattle.source_api.proofs.CountLaws.{none_fell_on, none_fell_same}
use Rattle.atomic_table.specs.Seated.{TableId}
use Rattle.topk_base.specs.declared.settings.Settings.{Settings}
use Rattle.fetcher.specs.declared.slot.Slot.{Slot}
use Rattle.source_pool.specs.Passes.{Feed}
use Rattle.batch_run.specs.Slots.{SlotState, AllFetch, AreLent, AreTakenBack}
use Rattle.server_conn.specs.Entries.{Openings}
use Rattle.server_conn.specs.declared.opened.OpenedEntry.{OpenedEntry}
use Rattle.query_server.specs.Homes.{entry_at, home_of}
use Rattle.query_server.specs.Reopening.{AsksSome, ReopensAll}
use Rattle.query_server.specs.Serving.{KeepsSources, KeepsVersions, Leaves, WereReopened}
use Rattle.query_server.proofs.ReopenLaws.{keeps_asked, reopened_since, stay_reopened}

module _ {S : Type 0} (list : S → Option (List Row)) (counts : S → Counts) where
  pub keeps_same : (slots : List (Slot S)) → KeepsSources list counts slots slots
  keeps_same slots = record { size = refl; lists = λ i d l. refl; later = λ i d l. none_fell_same (counts (slice_index_or slots i d).source) }

  pub keeps_on : (before mid after : List (Slot S)) → KeepsSources list counts before mid → KeepsSources list counts mid after → KeepsSources list counts before after
  keeps_on before mid after first then_ = record {
    size = then_.size ∙ first.size;
    lists = λ i d l. then_.lists i d (let e = first.size in omega (arith, l, e)) ∙ first.lists i d l;
    later = λ i d l. none_fell_on _ _ _ (first.later i d l) (then_.later i d (let e = first.size in omega (arith, l, e)));
  }

  -- what the fetchers did between the lending of the feeders and their return
  pub keeps_fetched : (calls : S → Option (List Call)) (at_hand : S → ℕ) (pool : List TableId) (settings : Settings) (feeds ends : List Feed) (before lent fetched after : List (Slot S))
      → AreLent list counts calls at_hand feeds before lent → AllFetch list counts calls at_hand pool settings lent fetched → AreTakenBack list counts calls at_hand fetched ends after
      → KeepsSources list counts before after
  keeps_fetched calls at_hand pool settings feeds ends before lent fetched after given fetch back =
      let there : (i : ℕ) → i < length before → i < length lent = λ i l. let e = given.size in omega (arith, e, l) in
      let then_ : (i : ℕ) → i < length before → i < length fetched = λ i l. let e = fetch.size in let t = there i l in omega (arith, e, t) in
      record {
        size = back.size ∙ (fetch.size ∙ given.size);
        lists = λ i d l.
            ap (λ (s : SlotState). s.told) (back.each i d (then_ i l)) ∙ ((fetch.each i d (there i l)).told ∙ ap (λ (s : SlotState). s.told) (given.each i d l));
        later = λ i d l.
            subst (λ (c : Counts). NoneFell c (counts (slice_index_or after i d).source)) (ap (λ (s : SlotState). s.counts) (given.each i d l))
            (subst (λ (c : Counts). NoneFell (counts (slice_index_or lent i d).source) c) (sym (ap (λ (s : SlotState). s.counts) (back.each i d (then_ i l))))
            (fetch.each i d (there i l)).later);
      }

  -- and that they left the versions at hand
  pub versions_fetched : (calls : S → Option (List Call)) (at_hand : S → ℕ) (pool : List TableId) (settings : Settings) (feeds ends : List Feed) (before lent fetched after : List (Slot S))
      → AreLent list counts calls at_hand feeds before lent → AllFetch list counts calls at_hand pool settings lent fetched → AreTakenBack list counts calls at_hand fetched ends after
      → KeepsVersions at_hand before after
  versions_fetched calls at_hand pool settings feeds ends before lent fetched after given fetch back =
      let there : (i : ℕ) → i < length before → i < length lent = λ i l. let e = given.size in omega (arith, e, l) in
      let then_ : (i : ℕ) → i < length before → i < length fetched = λ i l. let e = fetch.size in let t = there i l in omega (arith, e, t) in
      record {
        each = λ i d l.
            ap (λ (s : SlotState). s.version) (back.each i d (then_ i l)) ∙ ((fetch.each i d (there i l)).version ∙ ap (λ (s : SlotState). s.version) (given.each i d l));
      }

module _ {S : Type 0} (list : S → Option (List Row)) (counts : S → Counts) (calls : S → Option (List Call)) (at_hand : S → ℕ) where
  -- where the lists stayed
  pub leaves_kept : (before after : List (Slot S)) (o now : Openings) → KeepsSources list counts before after → All (λ slot. slot.feeder ≡ None) after
      → now.catalog ≡ o.catalog → now.entries ≡ o.entries → Leaves list counts calls at_hand before after o now
  leaves_kept before after o now kept empty catalog same =
      record { kept = kept; empty = empty; catalog = catalog; homes = ap (map home_of) same; lists = inl same }

  -- where nothing was done
  pub leaves_same : (slots : List (Slot S)) (o : Openings) → All (λ slot. slot.feeder ≡ None) slots → Leaves list counts calls at_hand slots slots o o
  leaves_same slots o empty = leaves_kept slots slots o o (keeps_same list counts slots) empty refl refl

  -- where the lists became what their sources answered in the end
  pub were_reopened : (before mid after : List (Slot S)) (entries now : List OpenedEntry) → KeepsSources list counts before mid
      → ReopensAll list counts calls at_hand entries now mid after → WereReopened list counts calls at_hand before after entries now
  were_reopened before mid after entries now until so =
      record { asked = mid; answered = after; until = until; became = so; since = keeps_same list counts after }

  pub leaves_reopened : (before mid after : List (Slot S)) (o now : Openings) → KeepsSources list counts before mid
      → AsksSome list counts calls (map home_of o.entries) mid after → ReopensAll list counts calls at_hand o.entries now.entries mid after
      → All (λ slot. slot.feeder ≡ None) after → now.catalog ≡ o.catalog → map home_of now.entries ≡ map home_of o.entries
      → Leaves list counts calls at_hand before after o now
  leaves_reopened before mid after o now until asks so empty catalog homes = record {
    kept = keeps_on list counts before mid after until (keeps_asked list counts calls (map home_of o.entries) mid after asks);
    empty = empty;
    catalog = catalog;
    homes = homes;
    lists = inr (were_reopened before mid after o.entries now.entries until so);
  }

  -- a list without a source is as it was at first
  stay : (before mid : List (Slot S)) (first was : List OpenedEntry) → (was ≡ first) ⊎ WereReopened list counts calls at_hand before mid first was
      → (place : ℕ) → home_of (entry_at first place) ≡ None → entry_at was place ≡ entry_at first place
  stay before mid first was (inl same) place none = ap (λ es. entry_at es place) same
  stay before mid first was (inr re) place none = stay_reopened list counts calls at_hand first was re.asked re.answered re.became place none

  -- the last answers alone say what became of the lists
  lists_then : (before mid after : List (Slot S)) (first was now : List OpenedEntry) → KeepsSources list counts before mid → KeepsSources list counts mid after
      → map home_of was ≡ map home_of first → (was ≡ first) ⊎ WereReopened list counts calls at_hand before mid first was
      → (now ≡ was) ⊎ WereReopened list counts calls at_hand mid after was now → (now ≡ first) ⊎ WereReopened list counts calls at_hand before after first now
  lists_then before mid after first was now kept then_ homes (inl none) (inl same) = inl (same ∙ none)
  lists_then before mid after first was now kept then_ homes (inr re) (inl same) = inr (record {
    asked = re.asked;
    answered = re.answered;
    until = re.until;
    became = subst (λ es. ReopensAll list counts calls at_hand first es re.asked re.answered) (sym same) re.became;
    since = keeps_on list counts re.answered mid after re.since then_;
  })
  lists_then before mid after first was now kept then_ homes so (inr re) = inr (record {
    asked = re.asked;
    answered = re.answered;
    until = keeps_on list counts before mid re.asked kept re.until;
    became = reopened_since list counts calls at_hand first was now re.asked re.answered homes (stay before mid first was so) re.became;
    since = re.since;
  })

  -- one generation after another
  pub leaves_then : (before mid after : List (Slot S)) (o then_ now : Openings) → Leaves list counts calls at_hand before mid o then_
      → Leaves list counts calls at_hand mid after then_ now → Leaves list counts calls at_hand before after o now
  leaves_then before mid after o then_ now first next = record {
    kept = keeps_on list counts before mid after first.kept next.kept;
    empty = next.empty;
    catalog = next.catalog ∙ first.catalog;
    homes = next.homes ∙ first.homes;
    lists = lists_then before mid after o.entries then_.entries now.entries first.kept next.kept first.homes first.lists next.lists;
  }
