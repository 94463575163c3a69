-- Sources of which none was called.
use Rattle.std.proofs.Common.{◌≡◌, ◌≤◌, ◌<◌, ◌+◌, inl, ℕ, zero, suc, Option, Some, None, IfSome, List, [], ◌∷◌, length, map, All, slice_index_or, refl, sym, ap, subst, ◌∙◌, arith}
use Rattle.std.specs.List.{AllZip}
use Rattle.std.proofs.lemmas.List.Elements.{All-nil}
use Rattle.ranked_list.specs.declared.row.Row.{Row}
use Rattle.topk_theory.proofs.AgreementLists.{contains_nil}
use Rattle.source_api.specs.declared.counts.Counts.{Counts}
use Rattle.source_api.specs.Calls.{Call}
use Rattle.source_api.specs.Told.{HasEachOnce}
use Rattle.source_state.specs.State.{State, opened, state_at}
use Rattle.source_state.proofs.Lists.{none_not_some}
use Rattle.query_core.specs.declared.ready.Ready.{Ready}
use Rattle.query_run.specs.declared.running_query.RunningQuery.{RunningQuery}
use Rattle.query_run.specs.Made.{opened_from}
use Rattle.query_run.specs.Kept.{IsServed}
use Rattle.query_run.proofs.TurnOpening.{opened_length, opened_sound}
use Rattle.fetcher.specs.declared.slot.Slot.{Slot}
use Rattle.fetcher.specs.Telling.{TellsOf}
use Rattle.fetcher.specs.Called.{WasCalled}
use Rattle.fetcher.proofs.CauseLaws.{comes_none}
use Rattle.fetcher.proofs.CalledLaws.{not_called}
use Rattle.topk_base.specs.declared.settings.Settings.{Settings}
use Rattle.batch_result.specs.declared.batch.Use.{Use}
use Rattle.batch_result.specs.Batches.{BatchRun, IsClosing, IsHonestFor, run_of, size_at, use_at}
use Rattle.batch_result.specs.Numbered.{told_at, counts_at, calls_at}
use Rattle.batch_result.specs.Using.{IsUsed}
use Rattle.batch_result.specs.Cut.{IsOfBegun, IsReadBy, IsCut, begun}
use Rattle.batch_result.proofs.Places.{map_at, stands_at}

opened_is : (first : ℕ) (counts : List ℕ) (source : ℕ) → source < length counts
    → state_at (opened_from first counts) source ≡ opened (first + source) (size_at counts source)
opened_is first [] source l = absurd (omega (arith, l))
opened_is first (count ∷ counts) zero l = let same : first ≡ first + 0 = omega arith in ap (λ n. opened n count) same
opened_is first (count ∷ counts) (suc source) l =
    let next : first + 1 + source ≡ first + suc source = omega arith in
    opened_is (first + 1) counts source (omega (arith, l)) ∙ ap (λ n. opened n (size_at counts source)) next

-- the states before any event, by the sources' numbers
opened_of : (counts : List ℕ) (source : ℕ) → source < length counts → state_at (opened_from 0 counts) source ≡ opened source (size_at counts source)
opened_of counts source l =
    let same : 0 + source ≡ source = omega arith in
    opened_is 0 counts source l ∙ ap (λ n. opened n (size_at counts source)) same

tells_nothing : (told : Option (List Row)) → IfSome told HasEachOnce → IfSome told (λ list. TellsOf list [])
tells_nothing None once = tt
tells_nothing (Some list) once = record {
  distinct = once;
  rows = refl;
  settled = λ object settling e. absurd (none_not_some e);
  fault = λ fault e. absurd (none_not_some e);
}

honest_nothing : (told : Option (List Row)) (source count : ℕ) → IfSome told (λ list. IsHonestFor list (opened source count))
honest_nothing None source count = tt
honest_nothing (Some list) source count = record {
  honest = λ ranked long asked unmoved.
      record { rows = refl; faultless = refl; settled = λ object settling e. absurd (none_not_some e); asked = asked };
}

closing_opened : (told : Option (List Row)) (source count : ℕ) → count ≤ 200000 → IfSome told HasEachOnce → IsClosing source count told (opened source count)
closing_opened told source count small once = record {
  sound = opened_sound source count small;
  list = refl;
  count = refl;
  tells = tells_nothing told once;
  honest = honest_nothing told source count;
}

used_nothing : (settings : Settings) (source count : ℕ) (counts : Counts) → IsUsed settings [] source (opened source count) counts counts (use_at [] source)
used_nothing settings source count counts = record {
  want = refl;
  wanted = inl refl;
  asks = refl;
  asked = omega arith;
  named = λ object c. absurd (contains_nil object c);
  rows = refl;
  reach = omega arith;
  grades = refl;
  once = omega arith;
  settled = omega arith;
  comes = record { given = []; many = refl; comes = comes_none count };
}

-- none of some queries began
abbrev nones : List Ready → List (Option RunningQuery)
nones [] = []
nones (ready ∷ readies) = None ∷ nones readies

nones_begun : (readies : List Ready) → begun (nones readies) ≡ []
nones_begun [] = refl
nones_begun (ready ∷ readies) = nones_begun readies

nones_of : (readies : List Ready) → AllZip IsOfBegun readies (nones readies)
nones_of [] = tt
nones_of (ready ∷ readies) = (tt, nones_of readies)

module _ {S : Type 0} (list : S → Option (List Row)) (counts : S → Counts) (calls : S → Option (List Call)) (at_hand : S → ℕ) where
  told_is : (slots : List (Slot S)) (source : ℕ) → source < length slots → ((s : S) → IfSome (list s) HasEachOnce)
      → IfSome (told_at (map (λ (slot : Slot S). list slot.source) slots) source) HasEachOnce
  told_is slots source l once =
      let d = (stands_at slots source l).item in
      subst (λ (t : Option (List Row)). IfSome t HasEachOnce) (sym (map_at (λ (slot : Slot S). list slot.source) slots source d None l)) (once (slice_index_or slots source d).source)

  -- a run that didn't begin
  pub cut_uncalled : (settings : Settings) (sizes : List ℕ) (readies : List Ready) (slots : List (Slot S)) → ((s : S) → IfSome (list s) HasEachOnce)
      → length sizes ≡ length slots → All (λ size. size ≤ 200000) sizes → IsCut (run_of list counts calls at_hand settings sizes readies slots slots)
  cut_uncalled settings sizes readies slots once many small =
      let run : BatchRun = run_of list counts calls at_hand settings sizes readies slots slots in
      let none : List Use = [] in
      let read : IsReadBy run [] (opened_from 0 sizes) none =
      record {
        many = opened_length 0 sizes;
        closing = λ source l.
            let told = told_at run.told source in
            subst (IsClosing source (size_at sizes source) told) (sym (opened_of sizes source l))
            (closing_opened told source (size_at sizes source) (small source 0 l) (told_is slots source (omega (arith, l, many)) once));
        served = All-nil (IsServed (opened_from 0 sizes));
        used = λ source l.
            subst (λ (s : State). IsUsed settings [] source s (counts_at run.before source) (counts_at run.now source) (use_at none source)) (sym (opened_of sizes source l))
            (used_nothing settings source (size_at sizes source) (counts_at run.before source));
        called = λ source l.
            subst (λ (s : State). WasCalled settings.page settings.ahead (calls_at run.made source) (calls_at run.made source) s) (sym (opened_of sizes source l))
            (not_called settings.page settings.ahead (calls_at run.made source) (opened source (size_at sizes source)) refl);
      } in
      record {
        stood = nones readies;
        states = opened_from 0 sizes;
        uses = none;
        of = nones_of readies;
        read = subst (λ (qs : List RunningQuery). IsReadBy run qs (opened_from 0 sizes) none) (sym (nones_begun readies)) read;
      }
