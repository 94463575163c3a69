-- What is counted on a shelf between moments.
use Rattle.std.proofs.Common.{◌≡◌, ◌≢◌, ℕ, zero, suc, ◌+◌, length, length-append, ◌-◌, ◌≤◌, ◌^◌, min, Bool, true, false, List, [], ◌∷◌, ◌++◌, map, inl, inr, refl, sym, ap, ◌∙◌, subst, arith}
use Rattle.std.specs.Prelude.{if◌then◌else◌}
use Rattle.std.specs.Str.{bytes_eq}
use Rattle.std.proofs.lemmas.Slice.Eq.{bytes_eq-Decides}
use Rattle.std.proofs.lemmas.Bool.{false≢true}
use Rattle.tk_io.specs.Faults.{counted, Rose}
use Rattle.source_api.specs.declared.counts.Counts.{Counts}
use Rattle.source_api.specs.declared.ledger.PlaceCounts.{PlaceCounts}
use Rattle.source_api.specs.declared.source.Trouble.{Trouble}
use Rattle.source_api.specs.declared.source.FailKind.TheVariants.{Failed, Garbled, Memory}
use Rattle.source_api.specs.declared.source.Trouble.TheVariants.{Fail, Moved}
use Rattle.source_api.specs.Counting.{TroubleHasCause, IsNoMove, added, no_counts, raised}
use Rattle.source_api.specs.Places.{CountsTakes, SameAtEach, SameElsewhere, counts_taken, put_back_at, with_source}
use Rattle.catalog_text.specs.Catalog.{Listed as Entry}
use Rattle.catalog_open.specs.Openings.{Counted, Used, one_at, used_at, added_all, counted_times, MovesBut, none_held, Moves, MovesAt, PutsBack, KeepsOthers, TroubleAt}
use Rattle.catalog_open.specs.Entries.{entry_at}

added_append : (c : Counts) (xs ys : List Counts) → added_all c (xs ++ ys) ≡ added_all (added_all c xs) ys
added_append c [] ys = refl
added_append c (x ∷ xs) ys = added_append (added c x) xs ys

pub used_append : (place : List ℕ) (u v : List Used) → used_at place (u ++ v) ≡ used_at place u ++ used_at place v
used_append place [] v = refl
used_append place (one ∷ u) v = go (bytes_eq one.place place) (used_append place u v)
  where
    go : (b : Bool) → used_at place (u ++ v) ≡ used_at place u ++ used_at place v
        → (if b then one.counts ∷ used_at place (u ++ v) else used_at place (u ++ v)) ≡ (if b then one.counts ∷ used_at place u else used_at place u) ++ used_at place v
    go true e = ap (λ t. one.counts ∷ t) e
    go false e = e

-- a count that went up so many times, and then so many times more
pub times_add : (m n count : ℕ) → counted_times (m + n) count ≡ counted_times m (counted_times n count)
times_add zero n count = ap (λ k. counted_times k count) (let e : 0 + n ≡ n = omega arith in e)
times_add (suc m) n count = ap (λ k. counted_times k count) (let e : suc m + n ≡ suc (m + n) = omega arith in e) ∙ ap counted (times_add m n count)

times_then : (j k n before mid now : ℕ) → mid ≡ counted_times j before → now ≡ counted_times k mid → n ≡ k + j → now ≡ counted_times n before
times_then j k n before mid now first second all =
    second ∙ ap (counted_times k) first ∙ sym (times_add k j before) ∙ ap (λ x. counted_times x before) (sym all)

used_both : (place : List ℕ) (u v : List Used) → length (used_at place (u ++ v)) ≡ length (used_at place u) + length (used_at place v)
used_both place u v = ap (length {A = Counts}) (used_append place u v) ∙ length-append (used_at place u) (used_at place v)

pub moves_nothing : (held : List ℕ → ℕ) (before : Counted) → ((place : List ℕ) → held place ≡ 0) → MovesBut held [] before before
moves_nothing held before none = record {
  texts = λ place. refl;
  takes = λ place. omega arith;
  taken = λ place. ap (λ n. counted_times n (before place).taken) (let no = none place in let e : 0 ≡ 0 + held place = omega (arith, no) in e);
  returned = λ place. refl;
  sources = λ place. refl;
}

pub moves_none : (before : Counted) → Moves [] before before
moves_none before = moves_nothing none_held before (λ place. refl)

pub moves_on : (f g h : List ℕ → ℕ) (u v : List Used) (before mid now : Counted) → MovesBut f u before mid → MovesBut g v mid now
    → ((place : List ℕ) → h place ≡ f place + g place) → MovesBut h (u ++ v) before now
moves_on f g h u v before mid now first second all = record {
  texts = λ place. second.texts place ∙ first.texts place;
  takes = λ place. omega (arith, first.takes place, second.takes place);
  taken = λ place.
      let both = used_both place u v in
      let here = all place in
      times_then (length (used_at place u) + f place) (length (used_at place v) + g place) (length (used_at place (u ++ v)) + h place)
      (before place).taken (mid place).taken (now place).taken (first.taken place) (second.taken place) (omega (arith, both, here));
  returned = λ place.
      let both = used_both place u v in
      times_then (length (used_at place u)) (length (used_at place v)) (length (used_at place (u ++ v))) (before place).returned (mid place).returned (now place).returned
      (first.returned place) (second.returned place) (omega (arith, both));
  sources = λ place.
      second.sources place
      ∙ ap (λ c. added_all c (used_at place v)) (first.sources place)
      ∙ sym (added_append (before place).sources (used_at place u) (used_at place v))
      ∙ ap (added_all (before place).sources) (sym (used_append place u v));
}

-- some of what was held was put back
pub puts_on : (held left : List ℕ → ℕ) (u back : List Used) (before mid now : Counted) → MovesBut held u before mid → PutsBack back mid now
    → ((place : List ℕ) → length (used_at place back) + left place ≡ held place) → MovesBut left (u ++ back) before now
puts_on held left u back before mid now first second all = record {
  texts = λ place. second.texts place ∙ first.texts place;
  takes = λ place. let e = second.takes place in omega (arith, first.takes place, e);
  taken = λ place.
      let both = used_both place u back in
      let here = all place in
      second.taken place ∙ first.taken place
      ∙ ap (λ n. counted_times n (before place).taken) (let e : length (used_at place u) + held place ≡ length (used_at place (u ++ back)) + left place = omega (arith, both, here) in e);
  returned = λ place.
      let both = used_both place u back in
      times_then (length (used_at place u)) (length (used_at place back)) (length (used_at place (u ++ back))) (before place).returned (mid place).returned (now place).returned
      (first.returned place) (second.returned place) (omega (arith, both));
  sources = λ place.
      second.sources place
      ∙ ap (λ c. added_all c (used_at place back)) (first.sources place)
      ∙ sym (added_append (before place).sources (used_at place u) (used_at place back))
      ∙ ap (added_all (before place).sources) (sym (used_append place u back));
}

-- all was
pub moves_back : (held : List ℕ → ℕ) (u back : List Used) (before mid now : Counted) → MovesBut held u before mid → PutsBack back mid now
    → ((place : List ℕ) → length (used_at place back) ≡ held place) → Moves (u ++ back) before now
moves_back held u back before mid now first second all =
    puts_on held none_held u back before mid now first second (λ place. let e = all place in omega (arith, e))

-- putting back, one after another
pub puts_none : (before : Counted) → PutsBack [] before before
puts_none before = record { texts = λ place. refl; takes = λ place. refl; taken = λ place. refl; returned = λ place. refl; sources = λ place. refl }

pub puts_still : (before now : Counted) → SameAtEach before now → PutsBack [] before now
puts_still before now same = record {
  texts = λ place. ap (λ (c : PlaceCounts). c.text_faults) (same place);
  takes = λ place. ap (λ (c : PlaceCounts). c.take_faults) (same place);
  taken = λ place. ap (λ (c : PlaceCounts). c.taken) (same place);
  returned = λ place. ap (λ (c : PlaceCounts). c.returned) (same place);
  sources = λ place. ap (λ (c : PlaceCounts). c.sources) (same place);
}

pub puts_then : (u v : List Used) (before mid now : Counted) → PutsBack u before mid → PutsBack v mid now → PutsBack (u ++ v) before now
puts_then u v before mid now first second = record {
  texts = λ place. second.texts place ∙ first.texts place;
  takes = λ place. second.takes place ∙ first.takes place;
  taken = λ place. second.taken place ∙ first.taken place;
  returned = λ place.
      let both = used_both place u v in
      times_then (length (used_at place u)) (length (used_at place v)) (length (used_at place (u ++ v))) (before place).returned (mid place).returned (now place).returned
      (first.returned place) (second.returned place) (omega (arith, both));
  sources = λ place.
      second.sources place
      ∙ ap (λ c. added_all c (used_at place v)) (first.sources place)
      ∙ sym (added_append (before place).sources (used_at place u) (used_at place v))
      ∙ ap (added_all (before place).sources) (sym (used_append place u v));
}

-- sources that were put back at one place
abbrev pub at_place : List ℕ → List Counts → List Used
at_place place counts = map (λ (c : Counts). record { place = place; counts = c }) counts

used_here : (place other : List ℕ) (counts : List Counts) → bytes_eq place other ≡ true → used_at other (at_place place counts) ≡ counts
used_here place other [] e = refl
used_here place other (c ∷ counts) e = ap (λ b. if b then c ∷ used_at other (at_place place counts) else used_at other (at_place place counts)) e ∙ ap (λ t. c ∷ t) (used_here place other counts e)

used_elsewhere : (place other : List ℕ) (counts : List Counts) → bytes_eq place other ≡ false → used_at other (at_place place counts) ≡ []
used_elsewhere place other [] e = refl
used_elsewhere place other (c ∷ counts) e = ap (λ b. if b then c ∷ used_at other (at_place place counts) else used_at other (at_place place counts)) e ∙ used_elsewhere place other counts e

-- what was counted at one place
record Here (held : List ℕ → ℕ) (used : List Used) (before now : Counted) (other : List ℕ) : Type 0 where
  texts : (now other).text_faults ≡ (before other).text_faults
  takes : (before other).take_faults ≤ (now other).take_faults
  taken : (now other).taken ≡ counted_times (length (used_at other used) + held other) (before other).taken
  returned : (now other).returned ≡ counted_times (length (used_at other used)) (before other).returned
  sources : (now other).sources ≡ added_all (before other).sources (used_at other used)

here_all : (held : List ℕ → ℕ) (used : List Used) (before now : Counted) → ((other : List ℕ) → Here held used before now other) → MovesBut held used before now
here_all held used before now each = record {
  texts = λ other. (each other).texts;
  takes = λ other. (each other).takes;
  taken = λ other. (each other).taken;
  returned = λ other. (each other).returned;
  sources = λ other. (each other).sources;
}

-- nothing was counted there
here_still : (held : List ℕ → ℕ) (used : List Used) (before now : Counted) (other : List ℕ) → now other ≡ before other → used_at other used ≡ [] → held other ≡ 0
    → Here held used before now other
here_still held used before now other still none free =
    let zero_used : length (used_at other used) ≡ 0 = ap (length {A = Counts}) none in
    record {
      texts = ap (λ (c : PlaceCounts). c.text_faults) still;
      takes = subst (λ (c : PlaceCounts). (before other).take_faults ≤ c.take_faults) (sym still) (omega arith);
      taken = ap (λ (c : PlaceCounts). c.taken) still ∙ ap (λ n. counted_times n (before other).taken) (let e : 0 ≡ length (used_at other used) + held other = omega (arith, zero_used, free) in e);
      returned = ap (λ (c : PlaceCounts). c.returned) still ∙ ap (λ n. counted_times n (before other).returned) (sym zero_used);
      sources = ap (λ (c : PlaceCounts). c.sources) still ∙ ap (added_all (before other).sources) (sym none);
    }

-- nothing was counted anywhere
pub moves_still : (before now : Counted) → SameAtEach before now → Moves [] before now
moves_still before now same = here_all none_held [] before now (λ other. here_still none_held [] before now other (same other) refl refl)

-- a call that takes a source failed
here_failed : (place : List ℕ) (before now : Counted) → SameElsewhere place before now → CountsTakes (before place) (now place) → (now place).taken ≡ (before place).taken
    → (other : List ℕ) → Here none_held [] before now other
here_failed place before now elsewhere takes same other =
    elim (bytes_eq place other) as (λ t. bytes_eq place other ≡ t → Here none_held [] before now other) [
      | true ↦ λ e.
          subst (Here none_held [] before now) ((bytes_eq-Decides place other).0 e) (record {
            texts = ap (λ (c : PlaceCounts). c.text_faults) takes.others;
            takes = takes.later;
            taken = same;
            returned = ap (λ (c : PlaceCounts). c.returned) takes.others;
            sources = ap (λ (c : PlaceCounts). c.sources) takes.others;
          })
      | false ↦ λ e.
          here_still none_held [] before now other (elsewhere other (λ same. false≢true (sym e ∙ (bytes_eq-Decides place other).1 (sym same)))) refl refl
    ] refl

pub moves_failed : (place : List ℕ) (before now : Counted) → SameElsewhere place before now → CountsTakes (before place) (now place) → (now place).taken ≡ (before place).taken
    → Moves [] before now
moves_failed place before now elsewhere takes same = here_all none_held [] before now (here_failed place before now elsewhere takes same)

-- of one place one source more is held
here_taken : (place : List ℕ) (before now : Counted) → SameElsewhere place before now → now place ≡ counts_taken (before place) → (other : List ℕ)
    → Here (one_at place) [] before now other
here_taken place before now elsewhere is other =
    elim (bytes_eq place other) as (λ t. bytes_eq place other ≡ t → Here (one_at place) [] before now other) [
      | true ↦ λ e.
          let one : one_at place place ≡ 1 = ap (λ b. if b then 1 else 0) ((bytes_eq-Decides place place).1 refl) in
          let same : (now place).take_faults ≡ (before place).take_faults = ap (λ (c : PlaceCounts). c.take_faults) is in
          subst (Here (one_at place) [] before now) ((bytes_eq-Decides place other).0 e) (record {
            texts = ap (λ (c : PlaceCounts). c.text_faults) is;
            takes = omega (arith, same);
            taken = ap (λ (c : PlaceCounts). c.taken) is ∙ ap (λ n. counted_times n (before place).taken) (let e : 1 ≡ 0 + one_at place place = omega (arith, one) in e);
            returned = ap (λ (c : PlaceCounts). c.returned) is;
            sources = ap (λ (c : PlaceCounts). c.sources) is;
          })
      | false ↦ λ e.
          let apart : other ≢ place = λ same. false≢true (sym e ∙ (bytes_eq-Decides place other).1 (sym same)) in
          here_still (one_at place) [] before now other (elsewhere other apart) refl (ap (λ b. if b then 1 else 0) e)
    ] refl

-- one source more was taken
pub moves_taken : (place : List ℕ) (before now : Counted) → SameElsewhere place before now → now place ≡ counts_taken (before place)
    → MovesBut (one_at place) [] before now
moves_taken place before now elsewhere is = here_all (one_at place) [] before now (here_taken place before now elsewhere is)

-- what was counted at one place, where one source was put back at another or there
record PutHere (place : List ℕ) (one : Counts) (before now : Counted) (other : List ℕ) : Type 0 where
  texts : (now other).text_faults ≡ (before other).text_faults
  takes : (now other).take_faults ≡ (before other).take_faults
  taken : (now other).taken ≡ (before other).taken
  returned : (now other).returned ≡ counted_times (length (used_at other (at_place place (one ∷ [])))) (before other).returned
  sources : (now other).sources ≡ added_all (before other).sources (used_at other (at_place place (one ∷ [])))

-- one source was put back
pub puts_here : (place : List ℕ) (one : Counts) (before now : Counted) → SameElsewhere place before now → now place ≡ with_source one (before place)
    → PutsBack (record { place = place; counts = one } ∷ []) before now
puts_here place one before now elsewhere is = record {
  texts = λ other. (each other).texts;
  takes = λ other. (each other).takes;
  taken = λ other. (each other).taken;
  returned = λ other. (each other).returned;
  sources = λ other. (each other).sources;
}
  where
    each : (other : List ℕ) → PutHere place one before now other
    each other = elim (bytes_eq place other) as (λ t. bytes_eq place other ≡ t → PutHere place one before now other) [
      | true ↦ λ e.
          let used = used_here place place (one ∷ []) ((bytes_eq-Decides place place).1 refl) in
          subst (PutHere place one before now) ((bytes_eq-Decides place other).0 e) (record {
            texts = ap (λ (c : PlaceCounts). c.text_faults) is;
            takes = ap (λ (c : PlaceCounts). c.take_faults) is;
            taken = ap (λ (c : PlaceCounts). c.taken) is;
            returned = ap (λ (c : PlaceCounts). c.returned) is ∙ ap (λ (cs : List Counts). counted_times (length cs) (before place).returned) (sym used);
            sources = ap (λ (c : PlaceCounts). c.sources) is ∙ ap (added_all (before place).sources) (sym used);
          })
      | false ↦ λ e.
          let apart : other ≢ place = λ same. false≢true (sym e ∙ (bytes_eq-Decides place other).1 (sym same)) in
          let still = elsewhere other apart in
          let none = used_elsewhere place other (one ∷ []) e in
          record {
            texts = ap (λ (c : PlaceCounts). c.text_faults) still;
            takes = ap (λ (c : PlaceCounts). c.take_faults) still;
            taken = ap (λ (c : PlaceCounts). c.taken) still;
            returned = ap (λ (c : PlaceCounts). c.returned) still ∙ ap (λ (cs : List Counts). counted_times (length cs) (before other).returned) (sym none);
            sources = ap (λ (c : PlaceCounts). c.sources) still ∙ ap (added_all (before other).sources) (sym none);
          }
    ] refl

pub moves_at : {held : List ℕ → ℕ} (u : List Used) (before now : Counted) (place : List ℕ) → MovesBut held u before now → MovesAt (before place) (now place)
moves_at u before now place moves = record { texts = moves.texts place; takes = moves.takes place; counts = used_at place u; sources = moves.sources place }

pub puts_at : (u : List Used) (before now : Counted) (place : List ℕ) → PutsBack u before now → MovesAt (before place) (now place)
puts_at u before now place puts =
    record { texts = puts.texts place; takes = (let e = puts.takes place in omega (arith, e)); counts = used_at place u; sources = puts.sources place }

-- no count falls below where it stood, or the last value
faults_on : (c : Counts) (xs : List Counts) → min c.faults (2 ^ 64 - 1) ≤ (added_all c xs).faults
faults_on c [] = omega arith
faults_on c (x ∷ xs) = let rest = faults_on (added c x) xs in let here : (added c x).faults ≡ raised c.faults x.faults = refl in omega (arith, rest, here)

garbles_on : (c : Counts) (xs : List Counts) → min c.garbles (2 ^ 64 - 1) ≤ (added_all c xs).garbles
garbles_on c [] = omega arith
garbles_on c (x ∷ xs) = let rest = garbles_on (added c x) xs in let here : (added c x).garbles ≡ raised c.garbles x.garbles = refl in omega (arith, rest, here)

replaced_on : (c : Counts) (xs : List Counts) → min c.moves (2 ^ 64 - 1) ≤ (added_all c xs).moves
replaced_on c [] = omega arith
replaced_on c (x ∷ xs) = let rest = replaced_on (added c x) xs in let here : (added c x).moves ≡ raised c.moves x.moves = refl in omega (arith, rest, here)

rose_on : (a b c : ℕ) → Rose a b → min b (2 ^ 64 - 1) ≤ c → Rose a c
rose_on a b c rose on = omega (arith, rose, on)

rose_from : (a b c : ℕ) → min a (2 ^ 64 - 1) ≤ b → Rose b c → Rose a c
rose_from a b c on rose = omega (arith, rose, on)

at_least : (m n : ℕ) → m ≤ n → min m (2 ^ 64 - 1) ≤ n
at_least m n h = omega (arith, h)

-- trouble at a place stays
pub trouble_on : (before mid now : PlaceCounts) → TroubleAt before mid → MovesAt mid now → TroubleAt before now
trouble_on before mid now trouble moves = elim trouble [
  | inl take ↦ inl (rose_on before.take_faults mid.take_faults now.take_faults take (at_least mid.take_faults now.take_faults moves.takes))
  | inr sources ↦ elim sources [
    | inl fault ↦ inr (inl (rose_on before.sources.faults mid.sources.faults now.sources.faults fault (subst (λ (c : Counts). min mid.sources.faults (2 ^ 64 - 1) ≤ c.faults) (sym moves.sources) (faults_on mid.sources moves.counts))))
    | inr garble ↦ inr (inr (rose_on before.sources.garbles mid.sources.garbles now.sources.garbles garble (subst (λ (c : Counts). min mid.sources.garbles (2 ^ 64 - 1) ≤ c.garbles) (sym moves.sources) (garbles_on mid.sources moves.counts))))
  ]
]

pub trouble_from : (before mid now : PlaceCounts) → MovesAt before mid → TroubleAt mid now → TroubleAt before now
trouble_from before mid now moves trouble = elim trouble [
  | inl take ↦ inl (rose_from before.take_faults mid.take_faults now.take_faults (at_least before.take_faults mid.take_faults moves.takes) take)
  | inr sources ↦ elim sources [
    | inl fault ↦ inr (inl (rose_from before.sources.faults mid.sources.faults now.sources.faults (subst (λ (c : Counts). min before.sources.faults (2 ^ 64 - 1) ≤ c.faults) (sym moves.sources) (faults_on before.sources moves.counts)) fault))
    | inr garble ↦ inr (inr (rose_from before.sources.garbles mid.sources.garbles now.sources.garbles (subst (λ (c : Counts). min before.sources.garbles (2 ^ 64 - 1) ≤ c.garbles) (sym moves.sources) (garbles_on before.sources moves.counts)) garble))
  ]
]

-- a list that was replaced since some moment was replaced since any earlier one
pub moved_from : (before mid now : PlaceCounts) → MovesAt before mid → Rose mid.sources.moves now.sources.moves → Rose before.sources.moves now.sources.moves
moved_from before mid now moves rose =
    rose_from before.sources.moves mid.sources.moves now.sources.moves
    (subst (λ (c : Counts). min before.sources.moves (2 ^ 64 - 1) ≤ c.moves) (sym moves.sources) (replaced_on before.sources moves.counts)) rose

pub keeps_then : (catalog : List Entry) (These : ℕ → Type 0) (before mid now : Counted) → KeepsOthers catalog These before mid
    → KeepsOthers catalog These mid now → KeepsOthers catalog These before now
keeps_then catalog These before mid now first second = λ place apart. second place apart ∙ first place apart

-- what changes at the place of one entry keeps the others
pub keeps_here : (catalog : List Entry) (These : ℕ → Type 0) (entry : ℕ) (place : List ℕ) (before now : Counted) → These entry
    → (entry_at catalog entry).place ≡ place → SameElsewhere place before now → KeepsOthers catalog These before now
keeps_here catalog These entry place before now is at elsewhere = λ other apart. elsewhere other (λ same. apart entry is (at ∙ sym same))

-- a source was put back at a place where it counts, and had failed at its first call, or answered it by garbled data
pub put_troubled : (before now : PlaceCounts) (knows : Bool) (first counts : Counts) (trouble : Trouble) → now ≡ put_back_at knows counts before → knows ≡ true
    → first ≡ no_counts → TroubleHasCause first counts trouble → (trouble ≡ Fail Memory → ⊥) → IsNoMove trouble → TroubleAt before now
put_troubled before now knows first counts (Fail Failed) is known fresh cause other still =
    let here : now.sources.faults ≡ raised before.sources.faults counts.faults = ap (λ (c : PlaceCounts). c.sources.faults) (is ∙ ap (λ k. put_back_at k counts before) known) in
    let none : first.faults ≡ 0 = ap (λ (c : Counts). c.faults) fresh in
    inr (inl (omega (arith, here, none, cause)))
put_troubled before now knows first counts (Fail Garbled) is known fresh cause other still =
    let here : now.sources.garbles ≡ raised before.sources.garbles counts.garbles = ap (λ (c : PlaceCounts). c.sources.garbles) (is ∙ ap (λ k. put_back_at k counts before) known) in
    let none : first.garbles ≡ 0 = ap (λ (c : Counts). c.garbles) fresh in
    inr (inr (omega (arith, here, none, cause)))
put_troubled before now knows first counts (Fail Memory) is known fresh cause other still = absurd (other refl)
put_troubled before now knows first counts (Moved had stated) is known fresh cause other still = absurd still
