-- Sources are put back, the last first.
use Rattle.std.proofs.Common.{◌≡◌, ℕ, suc, ◌+◌, ◌<◌, ◌≤◌, Bool, true, false, List, [], ◌∷◌, ◌++◌, All, None, Contains, drop, length, length-append, reverse, slice_index_or, append_assoc, drop-cons, refl, sym, ap, ◌∙◌, subst, arith}
use Rattle.std.specs.Prelude.{if◌then◌else◌}
use Rattle.std.specs.Str.{bytes_eq}
use Rattle.std.proofs.lemmas.List.{reverse-append}
use Rattle.std.proofs.lemmas.List.Elements.{Contains-append_left, Contains-get_or, Contains-push}
use Rattle.topk_theory.proofs.AgreementLists.{all_from_members, member_of_all}
use Rattle.fetcher.specs.declared.slot.Slot.{Slot}
use Rattle.catalog_open.specs.Slots.{IsIdle}
use Rattle.source_api.specs.declared.counts.Counts.{Counts}
use Rattle.source_api.specs.Places.{SameElsewhere, put_back_at, with_source}
use Rattle.catalog_text.specs.Catalog.{Listed as Entry}
use Rattle.catalog_open.specs.Entries.{entry_at}
use Rattle.catalog_open.specs.Openings.{Counted, Used, PutsBack, KeepsOthers, used_at, standing, put_back}
use Rattle.catalog_open.proofs.Moving.{puts_none, puts_then, puts_here, used_append, keeps_then, keeps_here}

-- the sources that are left, by what they have counted, and what was put back
pub record BackSoFar (catalog : List Entry) (places : List ℕ) (counts left : List Counts) (before now : Counted) : Type 0 where
  pub back : List Counts
  pub counts_are : counts ≡ left ++ back
  pub puts : PutsBack (reverse (put_back catalog (drop (length left) places) back)) before now
  pub others : KeepsOthers catalog (Contains places) before now

put_nothing : (catalog : List Entry) (places : List ℕ) → put_back catalog places [] ≡ []
put_nothing catalog [] = refl
put_nothing catalog (place ∷ places) = refl

pub back_none : (catalog : List Entry) (places : List ℕ) (counts : List Counts) (before : Counted) → BackSoFar catalog places counts counts before before
back_none catalog places counts before = record {
  back = [];
  counts_are = sym (nil_right counts);
  puts = subst (λ us. PutsBack (reverse us) before before) (sym (put_nothing catalog (drop (length counts) places))) (puts_none before);
  others = λ place apart. refl;
}
  where
    nil_right : (xs : List Counts) → xs ++ [] ≡ xs
    nil_right [] = refl
    nil_right (x ∷ xs) = ap (λ ys. x ∷ ys) (nil_right xs)

-- one more is put back
pub back_more : (catalog : List Entry) (places : List ℕ) (counts left rest : List Counts) (one : Counts) (place : ℕ) (before mid now : Counted)
    → BackSoFar catalog places counts left before mid → left ≡ rest ++ one ∷ []
    → length counts ≡ length places → place ≡ slice_index_or places (length rest) 0 → SameElsewhere (entry_at catalog place).place mid now
    → now (entry_at catalog place).place ≡ with_source one (mid (entry_at catalog place).place) → BackSoFar catalog places counts rest before now
back_more catalog places counts left rest one place before mid now so_far popped many is elsewhere here =
    let text = (entry_at catalog place).place in
    let long : length left ≡ length rest + 1 = ap (length {A = Counts}) popped ∙ length-append rest (one ∷ []) in
    let all : length counts ≡ length left + length so_far.back = ap (length {A = Counts}) so_far.counts_are ∙ length-append left so_far.back in
    let within : length rest < length places = omega (arith, long, all, many) in
    let next : drop (length rest) places ≡ place ∷ drop (length left) places =
    drop-cons places (length rest) 0 within ∙ ap (λ p. p ∷ drop (suc (length rest)) places) (sym is) ∙ ap (λ n. place ∷ drop n places) (let e : suc (length rest) ≡ length left = omega (arith, long) in e) in
    let used : Used = record { place = text; counts = one } in
    let step : PutsBack (used ∷ []) mid now = puts_here text one mid now elsewhere here in
    let puts : PutsBack (reverse (put_back catalog (drop (length left) places) so_far.back) ++ used ∷ []) before now = puts_then (reverse (put_back catalog (drop (length left) places) so_far.back)) (used ∷ []) before mid now so_far.puts step in
    let us = put_back catalog (drop (length left) places) so_far.back in
    let turned : reverse (put_back catalog (drop (length rest) places) (one ∷ so_far.back)) ≡ reverse us ++ used ∷ [] =
    ap (λ ps. reverse (put_back catalog ps (one ∷ so_far.back))) next ∙ reverse-append (used ∷ []) us in
    record {
      back = one ∷ so_far.back;
      counts_are = so_far.counts_are ∙ ap (λ l. l ++ so_far.back) popped ∙ append_assoc rest (one ∷ []) so_far.back;
      puts = subst (λ vs. PutsBack vs before now) (sym turned) puts;
      others = keeps_then catalog (Contains places) before mid now so_far.others (keeps_here catalog (Contains places) place text mid now (subst (Contains places) (sym is) (contains_read places (length rest) within)) refl elsewhere);
    }
  where
    contains_read : (xs : List ℕ) (i : ℕ) → i < length xs → Contains xs (slice_index_or xs i 0)
    contains_read xs i h = Contains-get_or xs i 0 h

-- all are put back
pub back_all : (catalog : List Entry) (places : List ℕ) (counts left : List Counts) (before now : Counted) → BackSoFar catalog places counts left before now
    → left ≡ [] → PutsBack (reverse (put_back catalog places counts)) before now
back_all catalog places counts left before now so_far none =
    let same : counts ≡ so_far.back = so_far.counts_are ∙ ap (λ l. l ++ so_far.back) none in
    subst (λ cs. PutsBack (reverse (put_back catalog places cs)) before now) (sym same)
    (subst (λ l. PutsBack (reverse (put_back catalog (drop (length l) places) so_far.back)) before now) none so_far.puts)

-- the same of a source of the shelf
pub back_step : (catalog : List Entry) (places : List ℕ) (counts left rest : List Counts) (one : Counts) (place : ℕ) (text : List ℕ) (knows : Bool)
    (before mid now : Counted) → BackSoFar catalog places counts left before mid → left ≡ rest ++ one ∷ []
    → length counts ≡ length places → place ≡ slice_index_or places (length rest) 0 → (entry_at catalog place).place ≡ text → knows ≡ true → SameElsewhere text mid now → now text ≡ put_back_at knows one (mid text) → BackSoFar catalog places counts rest before now
back_step catalog places counts left rest one place text knows before mid now so_far popped many is at known elsewhere here =
    back_more catalog places counts left rest one place before mid now so_far popped many is
    (subst (λ t. SameElsewhere t mid now) (sym at) elsewhere)
    (subst (λ t. now t ≡ with_source one (mid t)) (sym at) (here ∙ ap (λ k. put_back_at k one (mid text)) known))

-- what is left has fewer members than there are places
pub rest_within : {X : Type 0} (left rest : List X) (x : X) (places : List ℕ) → left ≡ rest ++ x ∷ [] → length left ≤ length places
    → length rest < length places
rest_within left rest x places popped few = let long = ap length popped ∙ length-append rest (x ∷ []) in omega (arith, long, few)

-- as many are put back at a place as entries have it
used_put : (catalog : List Entry) (places : List ℕ) (counts : List Counts) (place : List ℕ) → length counts ≡ length places
    → length (used_at place (put_back catalog places counts)) ≡ standing catalog places place
used_put catalog [] counts place many = refl
used_put catalog (p ∷ places) [] place many = absurd (omega (arith, many))
used_put catalog (p ∷ places) (one ∷ counts) place many =
    go (bytes_eq (entry_at catalog p).place place) (used_put catalog places counts place (omega (arith, many)))
  where
    go : (b : Bool) → length (used_at place (put_back catalog places counts)) ≡ standing catalog places place
        → length (if b then one ∷ used_at place (put_back catalog places counts) else used_at place (put_back catalog places counts))
        ≡ (if b then suc (standing catalog places place) else standing catalog places place)
    go true e = ap suc e
    go false e = e

used_turned : (place : List ℕ) (used : List Used) → length (used_at place (reverse used)) ≡ length (used_at place used)
used_turned place [] = refl
used_turned place (one ∷ used) =
    let split = ap (length {A = Counts}) (ap (used_at place) (reverse-append (one ∷ []) used) ∙ used_append place (reverse used) (one ∷ []))
    ∙ length-append (used_at place (reverse used)) (used_at place (one ∷ [])) in
    let whole : length (used_at place (one ∷ used)) ≡ length (used_at place (one ∷ [])) + length (used_at place used) =
    ap (length {A = Counts}) (used_append place (one ∷ []) used) ∙ length-append (used_at place (one ∷ [])) (used_at place used) in
    let rest = used_turned place used in
    omega (arith, split, whole, rest)

pub back_standing : (catalog : List Entry) (places : List ℕ) (counts : List Counts) (place : List ℕ) → length counts ≡ length places
    → length (used_at place (reverse (put_back catalog places counts))) ≡ standing catalog places place
back_standing catalog places counts place many = used_turned place (put_back catalog places counts) ∙ used_put catalog places counts place many

-- the slot that is next is idle, and so are the others
pub next_idle : {S : Type 0} (left rest : List (Slot S)) (slot : Slot S) → All IsIdle left → left ≡ rest ++ slot ∷ [] → slot.feeder ≡ None
next_idle left rest slot idle is =
    member_of_all IsIdle left slot idle (subst (λ ss. Contains ss slot) (sym is) (Contains-push rest slot))

pub idle_rest : {S : Type 0} (left rest : List (Slot S)) (slot : Slot S) → All IsIdle left → left ≡ rest ++ slot ∷ [] → All IsIdle rest
idle_rest left rest slot idle is =
    all_from_members IsIdle rest
    (λ one c. member_of_all IsIdle left one idle (subst (λ ss. Contains ss one) (sym is) (Contains-append_left rest (slot ∷ []) one c)))
