-- Sources that are taken one after another, and asked for their sizes.
use Rattle.std.proofs.Common.{◌≡◌, ℕ, suc, ◌+◌, ◌<◌, ◌≤◌, Bool, true, false, List, [], ◌∷◌, ◌++◌, length, take, drop, Option, None, Some, Result, Ok, Err, inl, refl, sym, ap, ◌∙◌, subst, arith}
use Rattle.std.proofs.Math.Seq.{take-append_seam}
use Rattle.std.proofs.lemmas.Bool.{false≢true}
use Rattle.std.proofs.lemmas.Option.{same_Some}
use Rattle.std.proofs.lemmas.Slice.Eq.{bytes_eq-Decides}
use Rattle.std.specs.Str.{bytes_eq}
use Rattle.std.specs.Prelude.{if◌then◌else◌, IfErr, IfOk, IfSome, OnOk}
use Rattle.topk_base.specs.declared.Memory.{Memory as WantOfMemory}
use Rattle.source_api.specs.declared.ledger.PlaceCounts.{PlaceCounts}
use Rattle.source_api.specs.declared.source.Trouble.{Trouble}
use Rattle.source_api.specs.declared.source.FailKind.TheVariants as kind
use Rattle.source_api.specs.declared.source.Trouble.TheVariants as trouble
use Rattle.source_api.specs.Calls.{Call, IsUncalled, with_call}
use Rattle.source_api.specs.Counting.{GaveNothing, IsNoMove, TroubleHasCause}
use Rattle.source_api.specs.Places.{CountsTakes, HasTakeCause, SameAtEach, SameElsewhere, counts_taken}
use Rattle.catalog_text.specs.Catalog.{Listed as Entry}
use Rattle.catalog_open.specs.declared.taking.OpenEntry.{OpenEntry}
use Rattle.catalog_open.specs.declared.taking.OpenEntry.TheVariants.{Unwanted, NotTaken, Taken}
use Rattle.catalog_open.specs.Entries.{IsMarked, entry_at, is_marked}
use Rattle.catalog_open.specs.Openings.{AsksFor, Counted, KeepsOthers, MovesAt, MovesBut, none_held, one_at}
use Rattle.catalog_open.specs.Takings.{AllBecame, AreAsked, AreTaken, Became, IsAsked, IsNew, SameShelf, ShelfView, SourceView, TakesOne, Took, held_at, held_one, not_taken}
use Rattle.catalog_open.proofs.Moving.{keeps_here, keeps_then, moves_at, moves_failed, moves_nothing, moves_on, moves_still, moves_taken, trouble_from, trouble_on}
use Rattle.catalog_open.proofs.Once.{asks_failed, asks_given, asks_here, asks_none}
use Rattle.catalog_open.proofs.Opens.{told_as}

pub same_shelf : (v : ShelfView) → SameShelf v v
same_shelf v = record { texts = λ place. refl; lists = λ place. refl; versions = λ place. refl; known = λ place is. is }

pub same_then : (before mid now : ShelfView) → SameShelf before mid → SameShelf mid now → SameShelf before now
same_then before mid now first second = record {
  texts = λ place. second.texts place ∙ first.texts place;
  lists = λ place. second.lists place ∙ first.lists place;
  versions = λ place. second.versions place ∙ first.versions place;
  known = λ place is. second.known place (first.known place is);
}

-- nothing was counted, as memory was refused
same_each : (text : List ℕ) (before now : Counted) → SameElsewhere text before now → now text ≡ before text → SameAtEach before now
same_each text before now elsewhere here place = elim (bytes_eq text place) as (λ t. bytes_eq text place ≡ t → now place ≡ before place) [
  | true ↦ λ e. subst (λ p. now p ≡ before p) ((bytes_eq-Decides text place).0 e) here
  | false ↦ λ e. elsewhere place (λ is. false≢true (sym e ∙ (bytes_eq-Decides text place).1 (sym is)))
] refl

-- how many are held, with one entry more
pub held_push : {S : Type 0} (xs : List (OpenEntry S)) (x : OpenEntry S) (catalog : List Entry) (place : List ℕ) → length xs < length catalog
    → held_at (xs ++ x ∷ []) catalog place ≡ held_at xs catalog place + held_one x (entry_at catalog (length xs)).place place
held_push [] x [] place h = absurd (omega (arith, h))
held_push [] x (one ∷ catalog) place h = omega arith
held_push (y ∷ xs) x [] place h = absurd (omega (arith, h))
held_push (y ∷ xs) x (one ∷ catalog) place h = let more = held_push xs x catalog place (omega (arith, h)) in omega (arith, more)

module _ {S : Type 0} (view : S → SourceView) where
  -- the shelf went on
  became_on : (mark : Bool) (before mid now : ShelfView) (place : List ℕ) (entry : OpenEntry S) → SameShelf mid now → MovesAt (mid.at place) (now.at place)
      → Became view mark before mid place entry → Became view mark before now place entry
  became_on false before mid now place Unwanted same moves is = tt
  became_on false before mid now place NotTaken same moves is = absurd is
  became_on false before mid now place (Taken source size) same moves is = absurd is
  became_on true before mid now place Unwanted same moves is = absurd is
  became_on true before mid now place NotTaken same moves is = trouble_on (before.at place) (mid.at place) (now.at place) is moves
  became_on true before mid now place (Taken source size) same moves is = (is.0, same.known place is.1)

  pub all_on : (before mid now : ShelfView) (entries : List (OpenEntry S)) (catalog : List Entry) (marks : List Bool) → SameShelf mid now
      → ((place : List ℕ) → MovesAt (mid.at place) (now.at place)) → AllBecame view before mid entries catalog marks → AllBecame view before now entries catalog marks
  all_on before mid now [] catalog marks same moves are = tt
  all_on before mid now (x ∷ xs) [] marks same moves are = absurd are
  all_on before mid now (x ∷ xs) (one ∷ catalog) [] same moves are = absurd are
  all_on before mid now (x ∷ xs) (one ∷ catalog) (mark ∷ marks) same moves are =
      (became_on mark before mid now one.place x same (moves one.place) are.0, all_on before mid now xs catalog marks same moves are.1)

  all_push : (before now : ShelfView) (xs : List (OpenEntry S)) (x : OpenEntry S) (catalog : List Entry) (marks : List Bool) → length xs < length catalog → length marks ≡ length catalog
      → AllBecame view before now xs catalog marks → Became view (is_marked marks (length xs)) before now (entry_at catalog (length xs)).place x
      → AllBecame view before now (xs ++ x ∷ []) catalog marks
  all_push before now [] x [] marks h many are is = absurd (omega (arith, h))
  all_push before now [] x (one ∷ catalog) [] h many are is = absurd (omega (arith, many))
  all_push before now [] x (one ∷ catalog) (mark ∷ marks) h many are is = (is, tt)
  all_push before now (y ∷ xs) x [] marks h many are is = absurd are
  all_push before now (y ∷ xs) x (one ∷ catalog) [] h many are is = absurd are
  all_push before now (y ∷ xs) x (one ∷ catalog) (mark ∷ marks) h many are is =
      (are.0, all_push before now xs x catalog marks (omega (arith, h)) (omega (arith, many)) are.1 is)

  -- a call that takes a source ended so
  took_failed : (why : Trouble) (place : List ℕ) (before now : ShelfView) → SameShelf before now → SameElsewhere place before.at now.at
      → CountsTakes (before.at place) (now.at place) → (now.at place).taken ≡ (before.at place).taken → HasTakeCause (before.at place) (now.at place) why
      → TakesOne view true place before now (not_taken why)
  took_failed (trouble.Fail kind.Failed) place before now same elsewhere counts untaken cause =
      record { same = same; took = (elsewhere, record { counts = counts; untaken = untaken; rose = cause }) }
  took_failed (trouble.Fail kind.Garbled) place before now same elsewhere counts untaken cause =
      record { same = same; took = (elsewhere, record { counts = counts; untaken = untaken; rose = cause }) }
  took_failed (trouble.Fail kind.Memory) place before now same elsewhere counts untaken cause =
      record { same = same; took = same_each place before.at now.at elsewhere cause }
  took_failed (trouble.Moved had other) place before now same elsewhere counts untaken cause = absurd cause

  pub took_none : (why : Trouble) (wanted : Bool) (place : List ℕ) (before now : ShelfView) → wanted ≡ true → SameShelf before now → SameElsewhere place before.at now.at
      → CountsTakes (before.at place) (now.at place) → (now.at place).taken ≡ (before.at place).taken → HasTakeCause (before.at place) (now.at place) why
      → TakesOne view wanted place before now (not_taken why)
  took_none why wanted place before now is same elsewhere counts untaken cause =
      subst (λ w. TakesOne view w place before now (not_taken why)) (sym is) (took_failed why place before now same elsewhere counts untaken cause)

  pub took_one : (wanted : Bool) (place : List ℕ) (before now : ShelfView) (source : S) → wanted ≡ true → SameShelf before now → SameElsewhere place before.at now.at
      → now.at place ≡ counts_taken (before.at place) → IsNew (before.lists place) (before.versions place) (view source) → now.knows place ≡ true
      → TakesOne view wanted place before now (Ok (Taken source None))
  took_one wanted place before now source is same elsewhere taken new knows =
      subst (λ w. TakesOne view w place before now (Ok (Taken source None))) (sym is) (record { same = same; took = (elsewhere, taken, new, knows) })

  pub took_nothing : (wanted : Bool) (place : List ℕ) (shelf : ShelfView) → wanted ≡ false → TakesOne view wanted place shelf shelf (Ok Unwanted)
  took_nothing wanted place shelf is = subst (λ w. TakesOne view w place shelf shelf (Ok Unwanted)) (sym is) (record { same = same_shelf shelf; took = λ other. refl })

  -- how often the source of its place was asked for
  pub took_asks : (entry : OpenEntry S) (wanted : Bool) (place : List ℕ) (before now : ShelfView) → Took view (Ok entry) wanted place before now → (other : List ℕ)
      → AsksFor (if wanted then one_at place other else 0) (before.at other) (now.at other)
  took_asks Unwanted false place before now took other = asks_none (before.at other) (now.at other) (took other)
  took_asks Unwanted true place before now took other = absurd took
  took_asks NotTaken false place before now took other = absurd took
  took_asks NotTaken true place before now took other =
      asks_here place place before.at now.at refl took.0 (asks_failed (before.at place) (now.at place) took.1.untaken took.1.rose) other
  took_asks (Taken source None) false place before now took other = absurd took
  took_asks (Taken source None) true place before now took other =
      asks_here place place before.at now.at refl took.0
      (asks_given (before.at place) (now.at place) (ap (λ (c : PlaceCounts). c.taken) took.1) (ap (λ (c : PlaceCounts). c.take_faults) took.1)) other
  took_asks (Taken source (Some size)) false place before now took other = absurd took
  took_asks (Taken source (Some size)) true place before now took other = absurd took

  -- what was counted by it
  took_moves : (entry : OpenEntry S) (wanted : Bool) (place : List ℕ) (before now : ShelfView) → Took view (Ok entry) wanted place before now
      → MovesBut (held_one entry place) [] before.at now.at
  took_moves Unwanted false place before now took = moves_still before.at now.at took
  took_moves Unwanted true place before now took = absurd took
  took_moves NotTaken false place before now took = absurd took
  took_moves NotTaken true place before now took = moves_failed place before.at now.at took.0 took.1.counts took.1.untaken
  took_moves (Taken source None) false place before now took = absurd took
  took_moves (Taken source None) true place before now took = moves_taken place before.at now.at took.0 took.1
  took_moves (Taken source (Some size)) false place before now took = absurd took
  took_moves (Taken source (Some size)) true place before now took = absurd took

  took_keeps : (entry : OpenEntry S) (catalog : List Entry) (marks : List Bool) (i : ℕ) (before now : ShelfView)
      → Took view (Ok entry) (is_marked marks i) (entry_at catalog i).place before now → KeepsOthers catalog (IsMarked marks) before.at now.at
  took_keeps entry catalog marks i before now took = by (is_marked marks i) entry (λ m. m) took
    where
      by : (mark : Bool) (x : OpenEntry S) → (mark ≡ true → is_marked marks i ≡ true) → Took view (Ok x) mark (entry_at catalog i).place before now
          → KeepsOthers catalog (IsMarked marks) before.at now.at
      by false Unwanted is took = λ other apart. took other
      by true Unwanted is took = absurd took
      by false NotTaken is took = absurd took
      by true NotTaken is took = keeps_here catalog (IsMarked marks) i (entry_at catalog i).place before.at now.at (is refl) refl took.0
      by false (Taken source None) is took = absurd took
      by true (Taken source None) is took = keeps_here catalog (IsMarked marks) i (entry_at catalog i).place before.at now.at (is refl) refl took.0
      by false (Taken source (Some size)) is took = absurd took
      by true (Taken source (Some size)) is took = absurd took

  -- what became of its entry since an earlier moment
  took_became : (entry : OpenEntry S) (wanted : Bool) (place : List ℕ) (before mid now : ShelfView) → SameShelf before mid → MovesAt (before.at place) (mid.at place)
      → Took view (Ok entry) wanted place mid now → Became view wanted before now place entry
  took_became Unwanted false place before mid now same moves took = tt
  took_became Unwanted true place before mid now same moves took = absurd took
  took_became NotTaken false place before mid now same moves took = absurd took
  took_became NotTaken true place before mid now same moves took = trouble_from (before.at place) (mid.at place) (now.at place) moves (inl took.1.rose)
  took_became (Taken source None) false place before mid now same moves took = absurd took
  took_became (Taken source None) true place before mid now same moves took = (
    record {
      fresh = took.2.fresh;
      uncalled = took.2.uncalled;
      tells = subst (λ list. IfSome list (λ rows. (view source).list ≡ Some rows)) (same.lists place) took.2.tells;
      stated = subst (λ version. IfSome version (λ told. (view source).states ≡ Some told)) (same.versions place) took.2.stated;
    },
    took.3,
  )
  took_became (Taken source (Some size)) false place before mid now same moves took = absurd took
  took_became (Taken source (Some size)) true place before mid now same moves took = absurd took

  -- no entry was visited yet
  pub taken_none : (catalog : List Entry) (marks : List Bool) (shelf : ShelfView) (entries : List (OpenEntry S)) → entries ≡ []
      → AreTaken view catalog marks shelf shelf entries
  taken_none catalog marks shelf entries none = subst (AreTaken view catalog marks shelf shelf) (sym none) (record {
    same = same_shelf shelf;
    became = tt;
    moves = moves_nothing (held_at {S = S} [] catalog) shelf.at (λ place. refl);
    others = λ place apart. refl;
  })

  -- one entry more was
  pub taken_more : (catalog : List Entry) (marks : List Bool) (before mid now : ShelfView) (entries entries_now : List (OpenEntry S)) (entry : OpenEntry S) (i : ℕ)
      → i ≡ length entries → i < length catalog → length marks ≡ length catalog → entries_now ≡ entries ++ entry ∷ [] → AreTaken view catalog marks before mid entries
      → TakesOne view (is_marked marks i) (entry_at catalog i).place mid now (Ok entry) → AreTaken view catalog marks before now entries_now
  taken_more catalog marks before mid now entries entries_now entry i stands within many put so one =
      let here = (entry_at catalog i).place in
      let step : MovesBut (held_one entry here) [] mid.at now.at = took_moves entry (is_marked marks i) here mid now one.took in
      let few : length entries < length catalog = omega (arith, stands, within) in
      subst (AreTaken view catalog marks before now) (sym put) (record {
        same = same_then before mid now so.same one.same;
        became = all_push before now entries entry catalog marks few many
            (all_on before mid now entries catalog marks one.same (λ place. moves_at [] mid.at now.at place step) so.became)
            (subst (λ n. Became view (is_marked marks n) before now (entry_at catalog n).place entry) stands
            (took_became entry (is_marked marks i) here before mid now so.same (moves_at [] before.at mid.at here so.moves) one.took));
        moves = moves_on (held_at entries catalog) (held_one entry here) (held_at (entries ++ entry ∷ []) catalog) [] [] before.at mid.at now.at so.moves step
            (λ place. held_push entries entry catalog place few ∙ ap (λ n. held_at entries catalog place + held_one entry (entry_at catalog n).place place) (sym stands));
        others = keeps_then catalog (IsMarked marks) before.at mid.at now.at so.others (took_keeps entry catalog marks i mid now one.took);
      })

  -- memory was refused at an entry
  pub taken_short : (catalog : List Entry) (marks : List Bool) (before mid now : ShelfView) (entries : List (OpenEntry S)) (wanted : Bool) (here : List ℕ) (why : WantOfMemory)
      → AreTaken view catalog marks before mid entries → TakesOne view wanted here mid now (Err why) → AreTaken view catalog marks before now entries
  taken_short catalog marks before mid now entries wanted here why so one =
      let step = moves_still mid.at now.at one.took in
      record {
        same = same_then before mid now so.same one.same;
        became = all_on before mid now entries catalog marks one.same (λ place. moves_at [] mid.at now.at place step) so.became;
        moves = moves_on (held_at entries catalog) none_held (held_at entries catalog) [] [] before.at mid.at now.at so.moves step (λ place. omega arith);
        others = keeps_then catalog (IsMarked marks) before.at mid.at now.at so.others (λ place apart. one.took place);
      }

  -- ---- those that were taken were asked for their sizes

  stated_then : (told stated : Option ℕ) (held : ℕ) → IfSome told (λ v. stated ≡ Some v) → IfSome stated (λ v. held ≡ v) → IfSome told (λ v. held ≡ v)
  stated_then None stated held is at = tt
  stated_then (Some v) stated held is at = subst (λ o. IfSome o (λ w. held ≡ w)) is at

  -- the first call is the only one
  asked_first : (before now : Option (List Call)) (call : Call) → IsUncalled before → now ≡ with_call call before → IfSome now (λ calls. calls ≡ call ∷ [])
  asked_first None now call none is = subst (λ o. IfSome o (λ calls. calls ≡ call ∷ [])) (sym is) tt
  asked_first (Some made) now call none is = subst (λ o. IfSome o (λ calls. calls ≡ call ∷ [])) (sym is) (ap (λ calls. calls ++ call ∷ []) none)

  pub asked_now : (source source_now : S) (r : Result ℕ Trouble) → (view source_now).list ≡ (view source).list → GaveNothing (view source).counts (view source_now).counts
      → OnOk r ((view source_now).counts ≡ (view source).counts) → IfErr r (TroubleHasCause (view source).counts (view source_now).counts) → IfErr r IsNoMove
      → IfOk r (λ size. IfSome (view source).list (λ rows. size ≡ length rows)) → OnOk r (IfSome (view source).states (λ v. (view source_now).at_hand ≡ v))
      → (view source_now).calls ≡ with_call (Call.Size r) (view source).calls
      → IsAsked view (Taken source None) (Taken source_now (Some r))
  asked_now source source_now (Ok size) same given quiet cause unmoved sized at once = λ list version new. record {
    asked = asked_first (view source).calls (view source_now).calls (Call.Size (Ok size)) new.uncalled once;
    fresh = quiet ∙ new.fresh;
    tells = told_as list (view source).list (view source_now).list size new.tells same sized;
    stated = stated_then version (view source).states (view source_now).at_hand new.stated at;
  }
  asked_now source source_now (Err why) same given quiet cause unmoved sized at once = λ list version new. record {
    asked = asked_first (view source).calls (view source_now).calls (Call.Size (Err why)) new.uncalled once;
    cause = subst (λ c. TroubleHasCause c (view source_now).counts why) new.fresh cause;
    given = subst (λ c. GaveNothing c (view source_now).counts) new.fresh given;
    unmoved = unmoved;
  }

  -- what was asked once was asked
  pub calls_once : (before now : Option (List Call)) (r : Result ℕ Trouble) → IfOk r (λ size. now ≡ with_call (Call.Size (Ok size)) before)
      → IfErr r (λ why. now ≡ with_call (Call.Size (Err why)) before) → now ≡ with_call (Call.Size r) before
  calls_once before now (Ok size) ok err = ok
  calls_once before now (Err why) ok err = err

  asked_held : (x z : OpenEntry S) (here place : List ℕ) → IsAsked view x z → held_one z here place ≡ held_one x here place
  asked_held Unwanted z here place e = ap (λ y. held_one y here place) e
  asked_held NotTaken z here place e = ap (λ y. held_one y here place) e
  asked_held (Taken source size) Unwanted here place e = absurd e
  asked_held (Taken source size) NotTaken here place e = absurd e
  asked_held (Taken source size) (Taken now answer) here place e = refl

  asked_became : (mark : Bool) (before now : ShelfView) (place : List ℕ) (x z : OpenEntry S) → IsAsked view x z → Became view mark before now place x
      → Became view mark before now place z
  asked_became mark before now place Unwanted z e is = subst (Became view mark before now place) (sym e) is
  asked_became mark before now place NotTaken z e is = subst (Became view mark before now place) (sym e) is
  asked_became mark before now place (Taken source size) Unwanted e is = absurd e
  asked_became mark before now place (Taken source size) NotTaken e is = absurd e
  asked_became false before now place (Taken source size) (Taken later answer) e is = absurd is
  asked_became true before now place (Taken source size) (Taken later answer) e is = (e (before.lists place) (before.versions place) is.0, is.1)

  first_asked : (x z : OpenEntry S) (xs zs : List (OpenEntry S)) → AreAsked view (x ∷ xs) (z ∷ zs) → IsAsked view x z
  first_asked x z xs zs asked = subst (IsAsked view x) (sym (same_Some z (asked 0).0 (asked 0).1)) (asked 0).2

  pub long_asked : (xs zs : List (OpenEntry S)) → AreAsked view xs zs → length zs ≡ length xs
  long_asked [] [] asked = refl
  long_asked [] (z ∷ zs) asked = absurd (let e : Some z ≡ None = asked 0 in cc)
  long_asked (x ∷ xs) [] asked = absurd (let e : None ≡ Some (asked 0).0 = (asked 0).1 in cc)
  long_asked (x ∷ xs) (z ∷ zs) asked = ap suc (long_asked xs zs (λ i. asked (suc i)))

  held_asked : (xs zs : List (OpenEntry S)) (catalog : List Entry) (place : List ℕ) → AreAsked view xs zs → held_at zs catalog place ≡ held_at xs catalog place
  held_asked [] [] catalog place asked = refl
  held_asked [] (z ∷ zs) catalog place asked = absurd (let e : Some z ≡ None = asked 0 in cc)
  held_asked (x ∷ xs) [] catalog place asked = absurd (let e : None ≡ Some (asked 0).0 = (asked 0).1 in cc)
  held_asked (x ∷ xs) (z ∷ zs) [] place asked = refl
  held_asked (x ∷ xs) (z ∷ zs) (one ∷ catalog) place asked =
      let first = asked_held x z one.place place (first_asked x z xs zs asked) in
      let more = held_asked xs zs catalog place (λ i. asked (suc i)) in
      omega (arith, first, more)

  all_asked : (before now : ShelfView) (xs zs : List (OpenEntry S)) (catalog : List Entry) (marks : List Bool) → AreAsked view xs zs → AllBecame view before now xs catalog marks
      → AllBecame view before now zs catalog marks
  all_asked before now [] [] catalog marks asked are = tt
  all_asked before now [] (z ∷ zs) catalog marks asked are = absurd (let e : Some z ≡ None = asked 0 in cc)
  all_asked before now (x ∷ xs) [] catalog marks asked are = tt
  all_asked before now (x ∷ xs) (z ∷ zs) [] marks asked are = absurd are
  all_asked before now (x ∷ xs) (z ∷ zs) (one ∷ catalog) [] asked are = absurd are
  all_asked before now (x ∷ xs) (z ∷ zs) (one ∷ catalog) (mark ∷ marks) asked are =
      (asked_became mark before now one.place x z (first_asked x z xs zs asked) are.0, all_asked before now xs zs catalog marks (λ i. asked (suc i)) are.1)

  lent_is : (xs zs : List (OpenEntry S)) (len : ℕ) → len ≡ length xs → AreAsked view xs zs → take len (zs ++ drop (length zs) xs) ≡ zs
  lent_is xs zs len whole asked = ap (λ n. take n (zs ++ drop (length zs) xs)) (whole ∙ sym (long_asked xs zs asked)) ∙ take-append_seam zs (drop (length zs) xs)

  pub taken_asked : (catalog : List Entry) (marks : List Bool) (before now : ShelfView) (xs zs : List (OpenEntry S)) (len : ℕ) → len ≡ length xs → AreAsked view xs zs
      → AreTaken view catalog marks before now xs → AreTaken view catalog marks before now (take len (zs ++ drop (length zs) xs))
  taken_asked catalog marks before now xs zs len whole asked so = subst (AreTaken view catalog marks before now) (sym (lent_is xs zs len whole asked)) (record {
    same = so.same;
    became = all_asked before now xs zs catalog marks asked so.became;
    moves = subst (λ held. MovesBut held [] before.at now.at) (λ i place. sym (held_asked xs zs catalog place asked) i) so.moves;
    others = so.others;
  })

  -- no more entries than the catalog has
  pub few_became : (before now : ShelfView) (xs : List (OpenEntry S)) (catalog : List Entry) (marks : List Bool) → AllBecame view before now xs catalog marks
      → length xs ≤ length catalog
  few_became before now [] catalog marks are = omega arith
  few_became before now (x ∷ xs) [] marks are = absurd are
  few_became before now (x ∷ xs) (one ∷ catalog) [] are = absurd are
  few_became before now (x ∷ xs) (one ∷ catalog) (mark ∷ marks) are = let few = few_became before now xs catalog marks are.1 in omega (arith, few)
