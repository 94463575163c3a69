-- Entries are settled one after another, by what became of their sources.
use Rattle.std.proofs.Common.{◌≡◌, ℕ, suc, ◌+◌, ◌<◌, ◌≤◌, Bool, true, false, List, [], ◌∷◌, ◌++◌, All, drop, drop-cons, length, length-append, map, reverse, Option, None, Some, Result, Ok, Err, refl, sym, ap, ◌∙◌, subst, arith}
use Rattle.std.specs.Prelude.{if◌then◌else◌, ◌&&◌}
use Rattle.std.specs.List.{list_all}
use Rattle.std.specs.Str.{bytes_eq}
use Rattle.std.proofs.lemmas.Bool.{false≢true}
use Rattle.std.proofs.lemmas.Option.{same_Some}
use Rattle.std.proofs.lemmas.List.{length-map, map-append, reverse-append}
use Rattle.std.proofs.lemmas.List.Elements.{All-from_recursion, All-push}
use Rattle.ranked_list.specs.declared.row.Row.{Row}
use Rattle.source_api.specs.declared.counts.Counts.{Counts}
use Rattle.source_api.specs.declared.ledger.PlaceCounts.{PlaceCounts}
use Rattle.source_api.specs.declared.source.Trouble.{Trouble}
use Rattle.source_api.specs.declared.source.FailKind.TheVariants as kind
use Rattle.source_api.specs.declared.source.Trouble.TheVariants as trouble
use Rattle.source_api.specs.Counting.{GaveNothing, no_counts}
use Rattle.source_api.specs.Places.{SameAtEach, put_back_at, with_source}
use Rattle.catalog_text.specs.Catalog.{Listed as Entry}
use Rattle.catalog_open.specs.declared.opened.Opening.{Opening}
use Rattle.catalog_open.specs.declared.opened.Opening.TheVariants.{Closed, Open}
use Rattle.catalog_open.specs.declared.opened.OpenSources.{OpenSources}
use Rattle.catalog_open.specs.declared.taking.OpenEntry.{OpenEntry}
use Rattle.catalog_open.specs.declared.taking.OpenEntry.TheVariants.{Unwanted, NotTaken, Taken}
use Rattle.catalog_open.specs.Entries.{IsMarked, entry_at, is_marked, no_entry}
use Rattle.catalog_open.specs.Openings.{AreOpened, AsksEachAtMostOnce, AsksEachOnce, GivesNothing, IsKnownAt, IsUnread, KeepsOthers, MovesBut, PutsBack, Sources, TroubleAt, Used, no_sources, one_at, run_count, standing, used_at}
use Rattle.catalog_open.specs.Slots.{ClosesNext, HasRoom, IsBare, IsIdle, OpensNext, fresh_slot, of_slot, sources_of}
use Rattle.catalog_open.specs.Takings.{AllBecame, Answers, AreReady, AreTaken, Became, GivesBack, IsSized, SameShelf, Settles, SettlesTaken, ShelfView, SourceView, WasAsked, held_at, held_one, is_answered, size_to_open}
use Rattle.catalog_open.proofs.Moving.{keeps_here, keeps_then, moves_at, puts_at, puts_here, puts_on, puts_still, put_troubled, trouble_from}
use Rattle.catalog_open.proofs.Once.{few_back, once_back}
use Rattle.catalog_open.proofs.Opens.{OpensSoFar, known_on, sources_as, so_far_closed, so_far_for, so_far_none, so_far_on, so_far_open, standing_more}
use Rattle.catalog_open.proofs.Taken.{all_on, same_then}
use Rattle.catalog_open.proofs.Unread.{back_here, gives_still, gives_then, none_unread, put_unread, unread_source}

-- the list of what is left, which is taken from its end
pub left_next : {X : Type 0} (left rest : List X) (x : X) → left ≡ rest ++ x ∷ [] → reverse left ≡ x ∷ reverse rest
left_next left rest x is = ap reverse is ∙ reverse-append rest (x ∷ [])

all_first : {X : Type 0} (p : X → Bool) (x : X) (xs : List X) → list_all p (x ∷ xs) ≡ true → p x ≡ true
all_first p x xs h = by (p x) h
  where
    by : (b : Bool) → (b && list_all p xs) ≡ true → b ≡ true
    by true h = refl
    by false h = absurd (false≢true h)

all_rest : {X : Type 0} (p : X → Bool) (x : X) (xs : List X) → list_all p (x ∷ xs) ≡ true → list_all p xs ≡ true
all_rest p x xs h = by (p x) h
  where
    by : (b : Bool) → (b && list_all p xs) ≡ true → list_all p xs ≡ true
    by true h = h
    by false h = absurd (false≢true h)

used_one : (here : List ℕ) (counts : Counts) (place : List ℕ) → length (used_at place (record { place = here; counts = counts } ∷ [])) ≡ one_at here place
used_one here counts place = by (bytes_eq here place)
  where
    by : (b : Bool) → length (if b then counts ∷ [] else []) ≡ (if b then 1 else 0)
    by true = refl
    by false = refl

module _ {S : Type 0} (view : S → SourceView) (catalog : List Entry) (marks : List Bool) (short : Bool) (before : ShelfView) where
  abbrev told_by : S → Option (List Row)
  told_by source = (view source).list

  abbrev hand_of : S → ℕ
  hand_of source = (view source).at_hand

  abbrev counts_of : S → Counts
  counts_of source = (view source).counts

  abbrev Opened_for : ℕ → Type 0
  Opened_for place = IsMarked marks place × (short ≡ false)

  abbrev Sources_of : OpenSources S → Sources
  Sources_of o = sources_of told_by hand_of o

  abbrev SoFar : ShelfView → List Opening → Sources → Type 0
  SoFar now openings s = OpensSoFar before.lists before.versions catalog Opened_for before.at now.at openings s

  -- the entries so far are settled; those that are left, the next one first, aren't. Where memory was refused none is open
  pub record Settling (now : ShelfView) (left : List (OpenEntry S)) (o : OpenSources S) : Type 0 where
    pub room : HasRoom (length catalog) o
    pub many : length marks ≡ length catalog
    pub long : short ≡ false → length o.openings.items + length left ≡ length catalog
    pub few : length o.openings.items + length left ≤ length catalog
    pub same : SameShelf before now
    pub became : AllBecame view before now left (drop (length o.openings.items) catalog) (drop (length o.openings.items) marks)
    pub answered : short ≡ false → list_all is_answered left ≡ true
    pub opens : SoFar now o.openings.items (Sources_of o)
    pub none : short ≡ true → o.places.items ≡ []
    pub used : List Used
    pub moves : MovesBut (λ place. standing catalog o.places.items place + held_at left (drop (length o.openings.items) catalog) place) used before.at now.at
    pub others : KeepsOthers catalog (IsMarked marks) before.at now.at
    pub once : short ≡ false → AsksEachOnce catalog marks before.at now.at
    pub asks : AsksEachAtMostOnce catalog marks before.at now.at
    pub gives : (place : List ℕ) → GivesNothing (before.at place) (now.at place)
    pub known : All (IsKnownAt catalog now.knows) o.places.items
    pub idle : All IsIdle o.slots.items
    pub unread : All IsUnread (map (of_slot counts_of) o.slots.items)
    pub asked : All (WasAsked view) o.slots.items

  -- nothing is settled yet
  pub settling_none : (now : ShelfView) (entries : List (OpenEntry S)) (o : OpenSources S) → HasRoom (length catalog) o → IsBare o → length marks ≡ length catalog
      → AreTaken view catalog marks before now entries → length entries ≤ length catalog → (short ≡ false → length entries ≡ length catalog)
      → (short ≡ false → list_all is_answered entries ≡ true) → (short ≡ false → AsksEachOnce catalog marks before.at now.at)
      → AsksEachAtMostOnce catalog marks before.at now.at → Settling now entries o
  settling_none now entries o room bare many taken few long answered once asks =
      let zero_open : length o.openings.items ≡ 0 = ap length bare.openings in
      record {
        room = room;
        many = many;
        long = λ e. let l = long e in omega (arith, l, zero_open);
        few = omega (arith, few, zero_open);
        same = taken.same;
        became = subst (λ n. AllBecame view before now entries (drop n catalog) (drop n marks)) (sym zero_open) taken.became;
        answered = answered;
        opens = subst (λ os. SoFar now os (Sources_of o)) (sym bare.openings)
            (subst (SoFar now [])
            (sym (sources_as [] (map (of_slot told_by) o.slots.items) [] (map (of_slot hand_of) o.slots.items) [] o.places.items [] o.counts.items
            (ap (map (of_slot told_by)) bare.slots) (ap (map (of_slot hand_of)) bare.slots) bare.places bare.counts))
            (so_far_none before.lists before.versions catalog Opened_for before.at now.at));
        none = λ e. bare.places;
        used = [];
        moves = subst (λ held. MovesBut held [] before.at now.at) (λ i place. sym (held_before place) i) taken.moves;
        others = taken.others;
        once = once;
        asks = asks;
        gives = λ place. gives_still (before.at place) (now.at place) (taken.moves.sources place);
        known = subst (All (IsKnownAt catalog now.knows)) (sym bare.places) (All-from_recursion (IsKnownAt catalog now.knows) [] tt);
        idle = subst (All IsIdle) (sym bare.slots) (All-from_recursion IsIdle [] tt);
        unread = subst (λ slots. All IsUnread (map (of_slot counts_of) slots)) (sym bare.slots) none_unread;
        asked = subst (All (WasAsked view)) (sym bare.slots)
            (All-from_recursion (WasAsked view) [] tt);
      }
    where
      held_before : (place : List ℕ) → standing catalog o.places.items place + held_at entries (drop (length o.openings.items) catalog) place ≡ held_at entries catalog place
      held_before place =
          ap (λ ps. standing catalog ps place + held_at entries (drop (length o.openings.items) catalog) place) bare.places
          ∙ ap (λ os. 0 + held_at entries (drop (length os) catalog) place) bare.openings ∙ omega arith

  -- what the next entry adds
  record Step (mid now : ShelfView) (entry : OpenEntry S) (o o_now : OpenSources S) : Type 0 where
    same : SameShelf mid now
    longer : length o_now.openings.items ≡ suc (length o.openings.items)
    back : List Used
    puts : PutsBack back mid.at now.at
    sums : (place : List ℕ) → length (used_at place back) + standing catalog o_now.places.items place
        ≡ standing catalog o.places.items place + held_one entry (entry_at catalog (length o.openings.items)).place place
    others : KeepsOthers catalog (IsMarked marks) mid.at now.at
    gives : (place : List ℕ) → GivesNothing (mid.at place) (now.at place)
    opens : SoFar now o_now.openings.items (Sources_of o_now)
    none : short ≡ true → o_now.places.items ≡ []
    known : All (IsKnownAt catalog now.knows) o_now.places.items
    idle : All IsIdle o_now.slots.items
    unread : All IsUnread (map (of_slot counts_of) o_now.slots.items)
    asked : All (WasAsked view) o_now.slots.items

  -- the entry that is next
  record Next (now : ShelfView) (entry : OpenEntry S) (rest : List (OpenEntry S)) (n : ℕ) : Type 0 where
    within : n < length catalog
    is : Became view (is_marked marks n) before now (entry_at catalog n).place entry
    rest_are : AllBecame view before now rest (drop (suc n) catalog) (drop (suc n) marks)
    held : (place : List ℕ) → held_at (entry ∷ rest) (drop n catalog) place ≡ held_one entry (entry_at catalog n).place place + held_at rest (drop (suc n) catalog) place

  next_is : (now : ShelfView) (entry : OpenEntry S) (rest : List (OpenEntry S)) (o : OpenSources S) → Settling now (entry ∷ rest) o → Next now entry rest (length o.openings.items)
  next_is now entry rest o so =
      let n = length o.openings.items in
      let within : n < length catalog = (let few = so.few in omega (arith, few)) in
      let places = drop-cons catalog n no_entry within in
      let wanted = drop-cons marks n false (let many = so.many in omega (arith, many, within)) in
      let both : AllBecame view before now (entry ∷ rest) (entry_at catalog n ∷ drop (suc n) catalog) (is_marked marks n ∷ drop (suc n) marks) =
      subst (λ ms. AllBecame view before now (entry ∷ rest) (entry_at catalog n ∷ drop (suc n) catalog) ms) wanted
      (subst (λ es. AllBecame view before now (entry ∷ rest) es (drop n marks)) places so.became) in
      record { within = within; is = both.0; rest_are = both.1; held = λ place. ap (λ es. held_at (entry ∷ rest) es place) places }

  settling_step : (mid now : ShelfView) (entry : OpenEntry S) (rest : List (OpenEntry S)) (o o_now : OpenSources S) → HasRoom (length catalog) o_now
      → Settling mid (entry ∷ rest) o → Step mid now entry o o_now → Settling now rest o_now
  settling_step mid now entry rest o o_now room so step =
      let n = length o.openings.items in
      let next = next_is mid entry rest o so in
      let moved = λ (place : List ℕ). puts_at step.back mid.at now.at place step.puts in
      let longer : length o_now.openings.items ≡ suc n = step.longer in
      record {
        room = room;
        many = so.many;
        long = λ e. let l = so.long e in omega (arith, l, longer);
        few = let few = so.few in omega (arith, few, longer);
        same = same_then before mid now so.same step.same;
        became = subst (λ k. AllBecame view before now rest (drop k catalog) (drop k marks)) (sym longer)
            (all_on view before mid now rest (drop (suc n) catalog) (drop (suc n) marks) step.same moved next.rest_are);
        answered = λ e. all_rest is_answered entry rest (so.answered e);
        opens = step.opens;
        none = step.none;
        used = so.used ++ step.back;
        moves = puts_on (λ place. standing catalog o.places.items place + held_at (entry ∷ rest) (drop n catalog) place)
            (λ place. standing catalog o_now.places.items place + held_at rest (drop (length o_now.openings.items) catalog) place) so.used step.back before.at mid.at now.at so.moves step.puts
            (λ place.
            let sum = step.sums place in
            let held = next.held place in
            let shift : held_at rest (drop (length o_now.openings.items) catalog) place ≡ held_at rest (drop (suc n) catalog) place = ap (λ k. held_at rest (drop k catalog) place) longer in
            omega (arith, sum, held, shift));
        others = keeps_then catalog (IsMarked marks) before.at mid.at now.at so.others step.others;
        once = λ e. once_back catalog marks step.back before.at mid.at now.at (so.once e) step.puts;
        asks = few_back catalog marks step.back before.at mid.at now.at so.asks step.puts;
        gives = λ place. gives_then (before.at place) (mid.at place) (now.at place) (so.gives place) (step.gives place);
        known = step.known;
        idle = step.idle;
        unread = step.unread;
        asked = step.asked;
      }

  -- the sources stay as they are, and one entry more isn't open
  closed_sources : (o o_now : OpenSources S) → ClosesNext o o_now → Sources_of o_now ≡ Sources_of o
  closed_sources o o_now closes =
      sources_as (map (of_slot told_by) o.slots.items) (map (of_slot told_by) o_now.slots.items)
      (map (of_slot hand_of) o.slots.items) (map (of_slot hand_of) o_now.slots.items)
      o.places.items o_now.places.items o.counts.items o_now.counts.items
      (ap (map (of_slot told_by)) closes.slots) (ap (map (of_slot hand_of)) closes.slots) closes.places closes.counts

  closed_step : (mid now : ShelfView) (entry : OpenEntry S) (rest : List (OpenEntry S)) (o o_now : OpenSources S) → Settling mid (entry ∷ rest) o → SameShelf mid now
      → ClosesNext o o_now → (back : List Used) → PutsBack back mid.at now.at
      → ((place : List ℕ) → length (used_at place back) ≡ held_one entry (entry_at catalog (length o.openings.items)).place place)
      → KeepsOthers catalog (IsMarked marks) mid.at now.at → ((place : List ℕ) → GivesNothing (mid.at place) (now.at place))
      → (is_marked marks (length o.openings.items) ≡ true → short ≡ false
      → TroubleAt (before.at (entry_at catalog (length o.openings.items)).place) (now.at (entry_at catalog (length o.openings.items)).place))
      → Step mid now entry o o_now
  closed_step mid now entry rest o o_now so same closes back puts held others gives trouble =
      let n = length o.openings.items in
      let went = so_far_on before.lists before.versions catalog Opened_for before.at mid.at now.at o.openings.items (Sources_of o) (λ place. puts_at back mid.at now.at place puts) so.opens in
      let more = so_far_closed before.lists before.versions catalog Opened_for before.at now.at o.openings.items (Sources_of o) n went refl (λ wanted. trouble wanted.0 wanted.1) in
      record {
        same = same;
        longer = ap length closes.openings ∙ length-append o.openings.items (Closed ∷ []) ∙ (let e : n + 1 ≡ suc n = omega arith in e);
        back = back;
        puts = puts;
        sums = λ place.
            let one = held place in
            let stands : standing catalog o_now.places.items place ≡ standing catalog o.places.items place = ap (λ ps. standing catalog ps place) closes.places in
            omega (arith, one, stands);
        others = others;
        gives = gives;
        opens = subst (λ os. SoFar now os (Sources_of o_now)) (sym closes.openings)
            (subst (SoFar now (o.openings.items ++ Closed ∷ [])) (sym (closed_sources o o_now closes)) more);
        none = λ e. closes.places ∙ so.none e;
        known = subst (All (IsKnownAt catalog now.knows)) (sym closes.places) (known_on catalog mid.knows now.knows o.places.items same.known so.known);
        idle = subst (All IsIdle) (sym closes.slots) so.idle;
        unread = subst (λ slots. All IsUnread (map (of_slot counts_of) slots)) (sym closes.slots) so.unread;
        asked = subst (All (WasAsked view)) (sym closes.slots) so.asked;
      }

  -- there is no source: none was wanted, or none could be taken
  passed_step : (mid now : ShelfView) (entry : OpenEntry S) (rest : List (OpenEntry S)) (o o_now : OpenSources S) → Settling mid (entry ∷ rest) o → SameShelf mid now
      → SameAtEach mid.at now.at → ClosesNext o o_now → ((here place : List ℕ) → held_one entry here place ≡ 0)
      → (is_marked marks (length o.openings.items) ≡ true
      → TroubleAt (before.at (entry_at catalog (length o.openings.items)).place) (mid.at (entry_at catalog (length o.openings.items)).place)) → Step mid now entry o o_now
  passed_step mid now entry rest o o_now so same still closes none trouble =
      let here = (entry_at catalog (length o.openings.items)).place in
      closed_step mid now entry rest o o_now so same closes [] (puts_still mid.at now.at still) (λ place. sym (none here place)) (λ place apart. still place)
      (λ place. gives_still (mid.at place) (now.at place) (ap (λ (c : PlaceCounts). c.sources) (still place)))
      (λ marked calm. subst (TroubleAt (before.at here)) (sym (still here)) (trouble marked))

  -- what a source counted that answered so
  answer_gave : (list : Option (List Row)) (version : Option ℕ) (source : S) (size : Option (Result ℕ Trouble)) → Answers list version (view source) size → GaveNothing no_counts (view source).counts
  answer_gave list version source None is = record { rows = ap (λ (c : Counts). c.rows_given) is.fresh; grades = ap (λ (c : Counts). c.grades_given) is.fresh }
  answer_gave list version source (Some (Ok size)) is = record { rows = ap (λ (c : Counts). c.rows_given) is.fresh; grades = ap (λ (c : Counts). c.grades_given) is.fresh }
  answer_gave list version source (Some (Err why)) is = is.given

  -- a source that isn't opened though memory wasn't refused had trouble
  answer_trouble : (list : Option (List Row)) (version : Option ℕ) (source : S) (size : Option (Result ℕ Trouble)) (mid now : PlaceCounts) (knows : Bool) → Answers list version (view source) size
      → is_answered (Taken source size) ≡ true → size_to_open false size ≡ None → now ≡ put_back_at knows (view source).counts mid → knows ≡ true → TroubleAt mid now
  answer_trouble list version source None mid now knows is answered closed back known = absurd (false≢true answered)
  answer_trouble list version source (Some (Ok size)) mid now knows is answered closed back known = absurd (cc)
  answer_trouble list version source (Some (Err why)) mid now knows is answered closed back known =
      put_troubled mid now knows no_counts (view source).counts why back known refl is.cause (λ memory. not_memory (rw memory at answered)) is.unmoved
    where
      not_memory : is_answered (Taken source (Some (Err (trouble.Fail kind.Memory)))) ≡ true → ⊥
      not_memory e = false≢true e

  -- a source that is held is wanted, answered so, and counts at its place
  held_there : (mark : Bool) (now : ShelfView) (place : List ℕ) (source : S) (size : Option (Result ℕ Trouble)) → Became view mark before now place (Taken source size)
      → (mark ≡ true) × Answers (before.lists place) (before.versions place) (view source) size × (now.knows place ≡ true)
  held_there true now place source size is = (refl, is.0, is.1)
  held_there false now place source size is = absurd is

  -- its source was put back
  back_step : (mid now : ShelfView) (source : S) (size : Option (Result ℕ Trouble)) (rest : List (OpenEntry S)) (o o_now : OpenSources S)
      → Settling mid (Taken source size ∷ rest) o → SameShelf mid now → size_to_open short size ≡ None
      → GivesBack view source (entry_at catalog (length o.openings.items)).place mid now o o_now → Step mid now (Taken source size) o o_now
  back_step mid now source size rest o o_now so same closed gave =
      let n = length o.openings.items in
      let here = (entry_at catalog n).place in
      let next = next_is mid (Taken source size) rest o so in
      let taken = held_there (is_marked marks n) mid here source size next.is in
      let put : now.at here ≡ with_source (view source).counts (mid.at here) = gave.back ∙ ap (λ k. put_back_at k (view source).counts (mid.at here)) taken.2 in
      closed_step mid now (Taken source size) rest o o_now so same gave.closes (record { place = here; counts = (view source).counts } ∷ [])
      (puts_here here (view source).counts mid.at now.at gave.elsewhere put) (λ place. used_one here (view source).counts place)
      (keeps_here catalog (IsMarked marks) n here mid.at now.at taken.0 refl gave.elsewhere)
      (back_here here mid.at now.at gave.elsewhere
      (put_unread (mid.at here) (now.at here) (mid.knows here) no_counts (view source).counts gave.back taken.2 refl
      (answer_gave (before.lists here) (before.versions here) source size taken.1)))
      (λ marked calm. trouble_from (before.at here) (mid.at here) (now.at here) (moves_at so.used before.at mid.at here so.moves)
      (answer_trouble (before.lists here) (before.versions here) source size (mid.at here) (now.at here) (mid.knows here) taken.1
      (all_first is_answered (Taken source size) rest (so.answered calm)) (subst (λ b. size_to_open b size ≡ None) calm closed) gave.back taken.2))

  -- its source is open
  opens_when : (flag : Bool) (answer : Option (Result ℕ Trouble)) (size : ℕ) → size_to_open flag answer ≡ Some size → (flag ≡ false) × (answer ≡ Some (Ok size))
  opens_when false None size e = absurd (cc)
  opens_when true None size e = absurd (cc)
  opens_when false (Some (Ok told)) size e = (refl, ap (λ n. Some (Ok n)) (same_Some told size e))
  opens_when true (Some (Ok told)) size e = absurd (cc)
  opens_when false (Some (Err why)) size e = absurd (cc)
  opens_when true (Some (Err why)) size e = absurd (cc)

  open_step : (mid now : ShelfView) (source : S) (answer : Option (Result ℕ Trouble)) (size : ℕ) (rest : List (OpenEntry S)) (o o_now : OpenSources S)
      → Settling mid (Taken source answer ∷ rest) o → SameShelf mid now → size_to_open short answer ≡ Some size → SameAtEach mid.at now.at
      → OpensNext (λ s. (view s).at_hand) source size o o_now → Step mid now (Taken source answer) o o_now
  open_step mid now source answer size rest o o_now so same opened still opens =
      let n = length o.openings.items in
      let here = (entry_at catalog n).place in
      let next = next_is mid (Taken source answer) rest o so in
      let when = opens_when short answer size opened in
      let taken = held_there (is_marked marks n) mid here source answer next.is in
      let sized : IsSized (before.lists here) (before.versions here) (view source) size = subst (Answers (before.lists here) (before.versions here) (view source)) when.1 taken.1 in
      let went = so_far_on before.lists before.versions catalog Opened_for before.at mid.at now.at o.openings.items (Sources_of o) (λ place. puts_at [] mid.at now.at place (puts_still mid.at now.at still)) so.opens in
      let more = so_far_open before.lists before.versions catalog Opened_for before.at now.at o.openings.items (Sources_of o) n size (hand_of source) (hand_of source) (told_by source) went refl next.within
      (taken.0, when.0) sized.tells (record { at_hand = refl; stated = sized.stated }) in
      let as_many : length o.slots.items ≡ length o.places.items = sym (length-map o.slots.items (of_slot told_by)) ∙ so.opens.many_told in
      record {
        same = same;
        longer = ap length opens.openings ∙ length-append o.openings.items (Open size (length o.slots.items) (hand_of source) ∷ []) ∙ (let e : n + 1 ≡ suc n = omega arith in e);
        back = [];
        puts = puts_still mid.at now.at still;
        sums = λ place.
            let stands : standing catalog o_now.places.items place ≡ standing catalog o.places.items place + one_at here place =
            ap (λ ps. standing catalog ps place) opens.places ∙ standing_more catalog o.places.items n place in
            omega (arith, stands);
        others = λ place apart. still place;
        gives = λ place. gives_still (mid.at place) (now.at place) (ap (λ (c : PlaceCounts). c.sources) (still place));
        opens = subst (λ os. SoFar now os (Sources_of o_now))
            (sym (opens.openings ∙ ap (λ k. o.openings.items ++ Open size k (hand_of source) ∷ []) as_many))
            (subst (SoFar now (o.openings.items ++ Open size (length o.places.items) (hand_of source) ∷ []))
            (sym (sources_as (map (of_slot told_by) o.slots.items ++ told_by source ∷ []) (map (of_slot told_by) o_now.slots.items)
            (map (of_slot hand_of) o.slots.items ++ hand_of source ∷ []) (map (of_slot hand_of) o_now.slots.items)
            (o.places.items ++ n ∷ []) o_now.places.items (o.counts.items ++ run_count size ∷ []) o_now.counts.items
            (ap (map (of_slot told_by)) opens.slots ∙ map-append (of_slot told_by) o.slots.items (fresh_slot source ∷ []))
            (ap (map (of_slot hand_of)) opens.slots ∙ map-append (of_slot hand_of) o.slots.items (fresh_slot source ∷ []))
            opens.places opens.counts)) more);
        none = λ e. absurd (false≢true (sym when.0 ∙ e));
        known = subst (All (IsKnownAt catalog now.knows)) (sym opens.places)
            (All-push (IsKnownAt catalog now.knows) o.places.items n (known_on catalog mid.knows now.knows o.places.items same.known so.known)
            (record { within = next.within; known = same.known here taken.2 }));
        idle = subst (All IsIdle) (sym opens.slots) (All-push IsIdle o.slots.items (fresh_slot source) so.idle refl);
        unread = subst (All IsUnread) (sym (ap (map (of_slot counts_of)) opens.slots ∙ map-append (of_slot counts_of) o.slots.items (fresh_slot source ∷ [])))
            (All-push IsUnread (map (of_slot counts_of) o.slots.items) (counts_of source) so.unread (unread_source no_counts (counts_of source) refl sized.fresh));
        asked = subst (All (WasAsked view)) (sym opens.slots)
            (All-push (WasAsked view) o.slots.items (fresh_slot source) so.asked (size, sized.asked));
      }

  -- one entry more is settled
  pub settling_more : (mid now : ShelfView) (entry : OpenEntry S) (rest : List (OpenEntry S)) (o o_now : OpenSources S) → HasRoom (length catalog) o_now
      → Settling mid (entry ∷ rest) o → SameShelf mid now → Settles view short entry catalog mid now o o_now → Settling now rest o_now
  settling_more mid now Unwanted rest o o_now room so same settles =
      let next = next_is mid Unwanted rest o so in
      settling_step mid now Unwanted rest o o_now room so (passed_step mid now Unwanted rest o o_now so same settles.0 settles.1 (λ here place. refl)
      (λ marked. absurd (subst (λ mark. Became view mark before mid (entry_at catalog (length o.openings.items)).place Unwanted) marked next.is)))
  settling_more mid now NotTaken rest o o_now room so same settles =
      let next = next_is mid NotTaken rest o so in
      settling_step mid now NotTaken rest o o_now room so (passed_step mid now NotTaken rest o o_now so same settles.0 settles.1 (λ here place. refl)
      (λ marked. subst (λ mark. Became view mark before mid (entry_at catalog (length o.openings.items)).place NotTaken) marked next.is))
  settling_more mid now (Taken source answer) rest o o_now room so same settles = by (size_to_open short answer) refl settles
    where
      by : (opened : Option ℕ) → size_to_open short answer ≡ opened → SettlesTaken view source opened (entry_at catalog (length o.openings.items)).place mid now o o_now → Settling now rest o_now
      by None is settles = settling_step mid now (Taken source answer) rest o o_now room so (back_step mid now source answer rest o o_now so same is settles)
      by (Some size) is settles = settling_step mid now (Taken source answer) rest o o_now room so (open_step mid now source answer size rest o o_now so same is settles.0 settles.1)

  -- all entries are settled
  pub settled_open : (now : ShelfView) (o : OpenSources S) → short ≡ false → Settling now [] o
      → AreOpened before.lists before.versions catalog (IsMarked marks) before.at now.at o.openings.items (Sources_of o)
  settled_open now o calm so =
      let opens = so_far_for before.lists before.versions catalog Opened_for (IsMarked marks) before.at now.at o.openings.items (Sources_of o)
      (λ place wanted. wanted.0) (λ place marked. (marked, calm)) so.opens in
      record {
        each = opens.each;
        numbered = opens.numbered;
        many_told = opens.many_told;
        many_versions = opens.many_versions;
        many_counts = opens.many_counts;
        small = opens.small;
        used = so.used;
        moves = subst (λ held. MovesBut held so.used before.at now.at) (λ i place. (let e : standing catalog o.places.items place + 0 ≡ standing catalog o.places.items place = omega arith in e) i) so.moves;
        others = so.others;
      }

  pub settled_ready : (now : ShelfView) (o : OpenSources S) → short ≡ false → Settling now [] o → AreReady view catalog now.knows o
  settled_ready now o calm so =
      let long = so.long calm in
      let slots : length (map (of_slot told_by) o.slots.items) ≡ length o.slots.items = length-map o.slots.items (of_slot told_by) in
      let places = so.opens.many_told in
      let room = so.room.few in
      record {
        all = omega (arith, long);
        few = omega (arith, long, room, o.slots.ok.0, o.openings.ok.0);
        known = so.known;
        idle = so.idle;
        unread = so.unread;
        asked = so.asked;
      }

  pub settled_closed : (now : ShelfView) (o : OpenSources S) → short ≡ true → Settling now [] o
      → AreOpened before.lists before.versions catalog (IsMarked marks) before.at now.at [] no_sources
  settled_closed now o refused so =
      let none = so_far_none before.lists before.versions catalog (IsMarked marks) before.at now.at in
      record {
        each = none.each;
        numbered = none.numbered;
        many_told = refl;
        many_versions = refl;
        many_counts = refl;
        small = none.small;
        used = so.used;
        moves = subst (λ held. MovesBut held so.used before.at now.at) (λ i place. (ap (λ ps. standing catalog ps place + 0) (so.none refused)) i) so.moves;
        others = so.others;
      }
