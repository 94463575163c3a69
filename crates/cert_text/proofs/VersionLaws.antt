-- The lines of versions, judged before the lines that follow them.
use Rattle.std.proofs.Common.{◌≡◌, ◌≢◌, ℕ, Bool, zero, suc, ◌+◌, ◌<◌, ◌≤◌, ◌^◌, List, [], ◌∷◌, ◌++◌, length, take, drop, get_or, All, AllPairs, Option, Some, None, refl, sym, ap, subst, ◌∙◌, ⊎_elim, arith, append_assoc, append-nil}
use Rattle.std.specs.List.{slice_get}
use Rattle.std.proofs.lemmas.Option.{same_Some, slice_get_within, get_or_from_slice_get}
use Rattle.std.proofs.lemmas.List.{drop_all, drop_more, get_or-drop, length-drop}
use Rattle.std.proofs.lemmas.List.Elements.{All-nil, All-cons, All-head, All-tail, All-weaker, All-drop}
use Rattle.topk_base.specs.Lines.{lines}
use Rattle.topk_base.specs.Names.{IsName}
use Rattle.topk_base.proofs.LineLaws.{lines-nil}
use Rattle.ranked_list.specs.declared.item.Item.{Item}
use Rattle.topk_theory.specs.declared.access.Access.{Access}
use Rattle.cert_text.specs.declared.factor.Guarantee.{Guarantee}
use Rattle.cert_text.specs.declared.parts.Figures.{Figures}
use Rattle.cert_text.specs.declared.reader.Stated.{Stated}
use Rattle.cert_text.specs.Certificate.{version_lines, answer_line}
use Rattle.cert_text.specs.Parts.{version_in}
use Rattle.cert_text.specs.Judging.{AreNames, Found, SpellsEnding, SpellsFound, SpellsVersioned, GivesNone, States}
use Rattle.cert_text.proofs.PartLaws.{NoSpace, name_spaceless}
use Rattle.cert_text.proofs.LineLaws.{version_text, version_line_some, version_in-line, version_in-some, version_in-other, version_in-guarantee, version_in-stop, version_in-answer}
use Rattle.cert_text.proofs.JudgingLaws.{Steps, Aside, Carries, carries_none, carries_more, carries_aside}
use Rattle.cert_text.proofs.SpellLaws.{same_line, same_rest, ending_first}

-- the names of the lists whose versions are left
pub record AreLeft (name : List ℕ) (names : List (List ℕ)) : Type 0 where
  pub spaceless : All NoSpace name
  pub others : All (All NoSpace) names
  pub apart : All (λ other. name ≢ other) names

-- the lines of the versions of lists, where the first isn't at version 0
pub lines_some : (name : List ℕ) (names : List (List ℕ)) (version : ℕ) (versions : List ℕ) → 1 ≤ version
    → version_lines (name ∷ names) (version ∷ versions) ≡ version_text name version ∷ version_lines names versions
lines_some name names version versions some = ap (λ t. t ++ version_lines names versions) (version_line_some name version some)

-- the lines of an answer give no version
answer_gives_none : (wanted : Bool) (name line : List ℕ) (all : List (List ℕ)) (ls : List (List ℕ)) (items : List Item) (its : Option Guarantee) (figures : Figures)
    (accesses : List Access)
    → SpellsFound wanted all (line ∷ ls) (record { items = items; guarantee = its; figures = figures; accesses = accesses }) → version_in name line ≡ None
answer_gives_none wanted name line all ls [] its figures accesses spelled =
    ending_first (λ l. version_in name l ≡ None) wanted all line ls its figures accesses (version_in-guarantee name) (version_in-stop name)
    (subst (λ xs. SpellsEnding wanted all xs (its, figures, accesses)) (sym spelled.first) spelled.ending)
answer_gives_none wanted name line all ls (item ∷ items) its figures accesses spelled =
    let is : line ≡ answer_line item = same_line _ _ _ _ spelled.first in
    ap (version_in name) is ∙ version_in-answer name item

found_gives_none : (wanted : Bool) (name line : List ℕ) (all ls : List (List ℕ)) (found : Found) → SpellsFound wanted all (line ∷ ls) found → version_in name line ≡ None
found_gives_none wanted name line all ls found spelled = answer_gives_none wanted name line all ls found.items found.guarantee found.figures found.accesses spelled

-- the lines of the versions of other lists, and of an answer, don't begin with a line of this list
others_first : (wanted : Bool) (name line : List ℕ) (version : ℕ) (all names ls rest : List (List ℕ)) (versions : List ℕ) (found : Found) → AreLeft name names
    → version_in name line ≡ Some version → line ∷ ls ≡ version_lines names versions ++ rest → SpellsFound wanted all rest found → ⊥
others_first wanted name line version all [] ls rest versions found left read is spelled =
    let none : version_in name line ≡ None = found_gives_none wanted name line all ls found (subst (λ xs. SpellsFound wanted all xs found) (sym is) spelled) in
    absurd cc
others_first wanted name line version all (other ∷ names) ls rest [] found left read is spelled =
    let none : version_in name line ≡ None = found_gives_none wanted name line all ls found (subst (λ xs. SpellsFound wanted all xs found) (sym is) spelled) in
    absurd cc
others_first wanted name line version all (other ∷ names) ls rest (zero ∷ versions) found left read is spelled =
    others_first wanted name line version all names ls rest versions found
    (record {
      spaceless = left.spaceless;
      others = All-tail (All NoSpace) other names left.others;
      apart = All-tail (λ other. name ≢ other) other names left.apart;
    })
    read is spelled
others_first wanted name line version all (other ∷ names) ls rest (suc its ∷ versions) found left read is spelled =
    let first : line ∷ ls ≡ version_text other (suc its) ∷ (version_lines names versions ++ rest) =
    is ∙ ap (λ t. t ++ rest) (lines_some other names (suc its) versions (omega arith)) in
    let here : line ≡ version_text other (suc its) = same_line _ _ _ _ first in
    All-head (λ other. name ≢ other) other names left.apart
    (version_in-other name other line version (suc its) left.spaceless (All-head (All NoSpace) other names left.others) read here)

-- a line of a version

version_adds : (wanted : Bool) (name line : List ℕ) (version : ℕ) (all names ls : List (List ℕ)) (x : List ℕ × Found) → version_in name line ≡ Some version
    → SpellsVersioned wanted all names ls x → SpellsVersioned wanted all (name ∷ names) (line ∷ ls) (version ∷ x.0, x.1)
version_adds wanted name line version all names ls x read spelled =
    let says = version_in-some name line version read in
    record {
      rest = spelled.rest;
      first =
          ap (λ t. t ∷ ls) says.line_is ∙ ap (λ t. version_text name version ∷ t) spelled.first
          ∙ ap (λ t. t ++ spelled.rest) (sym (lines_some name names version x.0 says.low));
      sized = ap suc spelled.sized;
      small = All-cons (λ v. v < 2 ^ 64) version x.0 says.high spelled.small;
      found = spelled.found;
    }

version_drops : (wanted : Bool) (name line : List ℕ) (version : ℕ) (all names ls : List (List ℕ)) (versions : List ℕ) (found : Found) → AreLeft name names
    → version_in name line ≡ Some version → SpellsVersioned wanted all (name ∷ names) (line ∷ ls) (versions, found)
    → (x : List ℕ × Found) × SpellsVersioned wanted all names ls x × ◌≡◌ {A = List ℕ × Found} (versions, found) (version ∷ x.0, x.1)
version_drops wanted name line version all names ls [] found left read spelled = absurd (omega (arith, spelled.sized))
version_drops wanted name line version all names ls (zero ∷ versions) found left read spelled =
    absurd (others_first wanted name line version all names ls spelled.rest versions found left read spelled.first spelled.found)
version_drops wanted name line version all names ls (suc its ∷ versions) found left read spelled =
    let first : line ∷ ls ≡ version_text name (suc its) ∷ (version_lines names versions ++ spelled.rest) =
    spelled.first ∙ ap (λ t. t ++ spelled.rest) (lines_some name names (suc its) versions (omega arith)) in
    let is : line ≡ version_text name (suc its) = same_line _ _ _ _ first in
    let high : suc its < 2 ^ 64 = All-head (λ v. v < 2 ^ 64) (suc its) versions spelled.small in
    let same : suc its ≡ version = same_Some _ _ (sym (version_in-line name (suc its) (omega arith) high) ∙ (ap (version_in name) (sym is) ∙ read)) in (
      (versions, found),
      record {
        rest = spelled.rest;
        first = same_rest _ _ _ _ first;
        sized = omega (arith, spelled.sized);
        small = All-tail (λ v. v < 2 ^ 64) (suc its) versions spelled.small;
        found = spelled.found;
      },
      (let with_version : ℕ → List ℕ × Found = λ v. (v ∷ versions, found) in ap with_version same),
    )

steps_version : (wanted : Bool) (name line : List ℕ) (version : ℕ) (all names : List (List ℕ)) → AreLeft name names → version_in name line ≡ Some version
    → Steps (SpellsVersioned wanted all names) (SpellsVersioned wanted all (name ∷ names)) line (λ x. (version ∷ x.0, x.1))
steps_version wanted name line version all names left read = record {
  adds = λ ls x spelled. version_adds wanted name line version all names ls x read spelled;
  drops = λ ls y spelled. version_drops wanted name line version all names ls y.0 y.1 left read spelled;
}

-- no line of a version

none_spelled : (wanted : Bool) (name : List ℕ) (all names ls : List (List ℕ)) (versions : List ℕ) (found : Found) → SpellsVersioned wanted all (name ∷ names) ls (0 ∷ versions, found)
    → SpellsVersioned wanted all names ls (versions, found)
none_spelled wanted name all names ls versions found spelled = record {
  rest = spelled.rest;
  first = spelled.first;
  sized = omega (arith, spelled.sized);
  small = All-tail (λ v. v < 2 ^ 64) 0 versions spelled.small;
  found = spelled.found;
}

none_drops : (wanted : Bool) (name : List ℕ) (all names ls xs : List (List ℕ)) (versions : List ℕ) (found : Found) → GivesNone name ls → take 1 xs ≡ take 1 ls
    → SpellsVersioned wanted all (name ∷ names) xs (versions, found)
    → (x : List ℕ × Found) × SpellsVersioned wanted all names xs x × ◌≡◌ {A = List ℕ × Found} (versions, found) (0 ∷ x.0, x.1)
none_drops wanted name all names ls xs [] found none first spelled = absurd (omega (arith, spelled.sized))
none_drops wanted name all names ls xs (zero ∷ versions) found none first spelled = ((versions, found), none_spelled wanted name all names xs versions found spelled, refl)
none_drops wanted name all names ls xs (suc its ∷ versions) found none first spelled =
    let high : suc its < 2 ^ 64 = All-head (λ v. v < 2 ^ 64) (suc its) versions spelled.small in
    let given : xs ≡ version_text name (suc its) ∷ (version_lines names versions ++ spelled.rest) =
    spelled.first ∙ ap (λ t. t ++ spelled.rest) (lines_some name names (suc its) versions (omega arith)) in
    let front : version_text name (suc its) ∷ [] ≡ take 1 ls = sym (ap (take 1) given) ∙ first in
    absurd (first_given ls none front (version_in-line name (suc its) (omega arith) high))
  where
    first_given : (ls : List (List ℕ)) → GivesNone name ls → version_text name (suc its) ∷ [] ≡ take 1 ls
        → version_in name (version_text name (suc its)) ≡ Some (suc its) → ⊥
    first_given [] none front read = cc
    first_given (line ∷ ls) none front read =
        let here : version_text name (suc its) ≡ line = same_line _ _ _ _ front in
        let absent : version_in name line ≡ None = none line ls refl in
        let same : version_in name (version_text name (suc its)) ≡ version_in name line = ap (version_in name) here in
        absurd cc

aside_none : (wanted : Bool) (name : List ℕ) (all names ls : List (List ℕ)) → GivesNone name ls
    → Aside (SpellsVersioned wanted all names) (SpellsVersioned wanted all (name ∷ names)) ls (λ x. (0 ∷ x.0, x.1))
aside_none wanted name all names ls none = record {
  adds = λ xs x spelled. record {
    rest = spelled.rest;
    first = spelled.first;
    sized = ap suc spelled.sized;
    small = All-cons (λ v. v < 2 ^ 64) 0 x.0 (omega arith) spelled.small;
    found = spelled.found;
  };
  drops = λ xs y first spelled. none_drops wanted name all names ls xs y.0 y.1 none first spelled;
}

-- the first line gives the list no version: there is none, or it gives another list's or something else
pub none_left : (name text : List ℕ) → text ≡ [] → GivesNone name (lines text)
none_left name text empty = λ line rest is. let none : [] ≡ line ∷ rest = sym (ap lines empty ∙ lines-nil) ∙ is in absurd cc

pub none_first : (name line : List ℕ) (ls rest : List (List ℕ)) → ls ≡ line ∷ rest → version_in name line ≡ None → GivesNone name ls
none_first name line ls rest is none = λ first more at.
    let same : line ≡ first = same_line line first rest more (sym is ∙ at) in
    subst (λ l. version_in name l ≡ None) same none

-- what is left of the lines, while versions are read

-- the versions that were read stand before those to come
abbrev pub behind : List ℕ → List ℕ × Found → List ℕ × Found
behind front x = (front ++ x.0, x.1)

-- no line was read yet
pub versions_none : (wanted : Bool) (names ls : List (List ℕ)) (front : List ℕ) → front ≡ []
    → Carries (SpellsVersioned wanted names names) ls (behind front) 0 (SpellsVersioned wanted names names) ls
versions_none wanted names ls front empty =
    subst (λ start. Carries (SpellsVersioned wanted names names) ls (behind start) 0 (SpellsVersioned wanted names names) ls) (sym empty) (carries_none (SpellsVersioned wanted names names) ls)

-- how many lines were read, and what is left
abbrev pub ReadsVersions : Bool → List (List ℕ) → List (List ℕ) → ℕ → ℕ → List ℕ → List (List ℕ) → List (List ℕ) → Type 0
ReadsVersions wanted all names first number front ls whole =
    (k : ℕ) × (number ≡ first + k) × Carries (SpellsVersioned wanted all names) ls (behind front) k (SpellsVersioned wanted all all) whole

-- the list at a place and those after it
left_at : (all : List (List ℕ)) (place : ℕ) (name : List ℕ) → AreNames all → slice_get all place ≡ Some name → AreLeft name (drop (place + 1) all)
left_at all place name are at =
    let within : place < length all = slice_get_within all place name at in
    record {
      spaceless = subst (All NoSpace) (get_or_from_slice_get all place name [] at) (name_spaceless (get_or all place []) (are.each place [] within));
      others = All-drop (All NoSpace) (place + 1) all (All-weaker IsName (All NoSpace) (λ other is. name_spaceless other is) all are.each);
      apart = λ k d inside same.
          let few : place + 1 + k < length all = omega (arith, length-drop (place + 1) all) in
          are.different place (place + 1 + k) d (omega arith) few (get_or_from_slice_get all place name d at ∙ (same ∙ get_or-drop (place + 1) all k d));
    }

-- one list more
pub versions_more : (wanted : Bool) (all : List (List ℕ)) (place first number : ℕ) (name : List ℕ) (ls whole : List (List ℕ)) (front next : List ℕ) (stated : Stated)
    → AreNames all → slice_get all place ≡ Some name → States name number ls stated → next ≡ front ++ stated.version ∷ []
    → ReadsVersions wanted all (drop place all) first number front ls whole
    → ReadsVersions wanted all (drop (place + 1) all) first stated.next next (lines stated.rest.now) whole
versions_more wanted all place first number name ls whole front next stated are at states pushed reads =
    let names = drop (place + 1) all in
    let k = reads.0 in
    let version = stated.version in
    let within : place < length all = slice_get_within all place name at in
    let is : drop place all ≡ name ∷ names = drop_more all place [] within ∙ ap (λ n. n ∷ names) (get_or_from_slice_get all place name [] at) in
    let carries : Carries (SpellsVersioned wanted all (name ∷ names)) ls (behind front) k (SpellsVersioned wanted all all) whole =
    subst (λ left. Carries (SpellsVersioned wanted all left) ls (behind front) k (SpellsVersioned wanted all all) whole) is reads.2 in
    let same : (x : List ℕ × Found) → behind next x ≡ behind front (version ∷ x.0, x.1) =
    λ x. ap (λ t. (t, x.1)) (ap (λ t. t ++ x.0) pushed ∙ append_assoc front (version ∷ []) x.0) in
    ⊎_elim
    (λ given. (
      k + 1,
      omega (arith, given.3, reads.1),
      carries_more (SpellsVersioned wanted all names) (SpellsVersioned wanted all (name ∷ names)) (SpellsVersioned wanted all all) given.0 (lines stated.rest.now) ls whole
          (λ x. (version ∷ x.0, x.1)) (behind front) (behind next) k given.1
          (steps_version wanted name given.0 version all names (left_at all place name are at) given.2) same carries,
    ))
    (λ none. (
      k,
      omega (arith, none.3, reads.1),
      subst (λ xs. Carries (SpellsVersioned wanted all names) xs (behind next) k (SpellsVersioned wanted all all) whole) (sym none.1)
          (carries_aside (SpellsVersioned wanted all names) (SpellsVersioned wanted all (name ∷ names)) (SpellsVersioned wanted all all) ls whole
          (λ x. (0 ∷ x.0, x.1)) (behind front) (behind next) k (aside_none wanted name all names ls none.0)
          (λ x. same x ∙ ap (λ v. behind front (v ∷ x.0, x.1)) none.2) carries),
    ))
    states

-- no list is left, and an answer follows
answers_versioned : (wanted : Bool) (all ls : List (List ℕ)) (found : Found) → SpellsFound wanted all ls found → SpellsVersioned wanted all [] ls ([], found)
answers_versioned wanted all ls found spelled = record { rest = ls; first = refl; sized = refl; small = All-nil (λ v. v < 2 ^ 64); found = spelled }

answers_only : (wanted : Bool) (all ls : List (List ℕ)) (versions : List ℕ) (found : Found) → SpellsVersioned wanted all [] ls (versions, found)
    → (x : Found) × SpellsFound wanted all ls x × ◌≡◌ {A = List ℕ × Found} (versions, found) ([], x)
answers_only wanted all ls [] found spelled = (found, subst (λ xs. SpellsFound wanted all xs found) (sym spelled.first) spelled.found, refl)
answers_only wanted all ls (version ∷ versions) found spelled = absurd (omega (arith, spelled.sized))

aside_answer : (wanted : Bool) (all ls : List (List ℕ)) → Aside (SpellsFound wanted all) (SpellsVersioned wanted all []) ls (λ found. ([], found))
aside_answer wanted all ls = record {
  adds = λ xs x spelled. answers_versioned wanted all xs x spelled;
  drops = λ xs y first spelled. answers_only wanted all xs y.0 y.1 spelled;
}

-- all lists were passed
pub versions_all : (wanted : Bool) (all : List (List ℕ)) (place first number : ℕ) (front : List ℕ) (ls whole : List (List ℕ)) → length all ≤ place
    → ReadsVersions wanted all (drop place all) first number front ls whole
    → (k : ℕ) × (number ≡ first + k) × Carries (SpellsFound wanted all) ls (λ found. (front, found)) k (SpellsVersioned wanted all all) whole
versions_all wanted all place first number front ls whole past reads =
    let k = reads.0 in
    let carries : Carries (SpellsVersioned wanted all []) ls (behind front) k (SpellsVersioned wanted all all) whole =
    subst (λ left. Carries (SpellsVersioned wanted all left) ls (behind front) k (SpellsVersioned wanted all all) whole) (drop_all place all past) reads.2 in (
      k,
      reads.1,
      carries_aside (SpellsFound wanted all) (SpellsVersioned wanted all []) (SpellsVersioned wanted all all) ls whole (λ found. ([], found)) (behind front) (λ found. (front, found)) k
          (aside_answer wanted all ls) (λ found. ap (λ t. (t, found)) (sym (append-nil front))) carries,
    )

-- lines spell the versions of lists and an answer in one way, where they spell the answer in one way

-- each list is apart from those after it
abbrev pub AllLeft : List (List ℕ) → Type 0
AllLeft [] = Unit {0}
AllLeft (name ∷ names) = AreLeft name names × AllLeft names

pub all_left : (names : List (List ℕ)) → All IsName names → AllPairs ◌≢◌ names → AllLeft names
all_left [] are different = tt
all_left (name ∷ names) are different = (
  record {
    spaceless = name_spaceless name (All-head IsName name names are);
    others = All-weaker IsName (All NoSpace) (λ other is. name_spaceless other is) names (All-tail IsName name names are);
    apart = λ k d inside. different 0 (suc k) d (omega arith) (omega arith);
  },
  all_left names (All-tail IsName name names are) (λ i j d before within. different (suc i) (suc j) d (omega arith) (omega arith)),
)

-- an answer is spelled in one way
abbrev pub OneFound : Bool → List (List ℕ) → Type 0
OneFound wanted all = (ls : List (List ℕ)) (f g : Found) → SpellsFound wanted all ls f → SpellsFound wanted all ls g → g ≡ f

none_given : (wanted : Bool) (name : List ℕ) (all names ls : List (List ℕ)) (versions : List ℕ) (found : Found) → AreLeft name names
    → SpellsVersioned wanted all names ls (versions, found) → GivesNone name ls
none_given wanted name all names ls versions found left spelled = λ line rest is. by line rest is (version_in name line) refl
  where
    by : (line : List ℕ) (rest : List (List ℕ)) → ls ≡ line ∷ rest → (o : Option ℕ) → version_in name line ≡ o → o ≡ None
    by line rest is None read = refl
    by line rest is (Some version) read =
        absurd (others_first wanted name line version all names rest spelled.rest versions found left read (sym is ∙ spelled.first) spelled.found)

pub versions_one : (wanted : Bool) (all names ls : List (List ℕ)) (versions : List ℕ) (found : Found) (y : List ℕ × Found) → AllLeft names → OneFound wanted all
    → SpellsVersioned wanted all names ls (versions, found) → SpellsVersioned wanted all names ls y → ◌≡◌ {A = List ℕ × Found} y (versions, found)
versions_one wanted all [] ls [] found y left single one other =
    let back = answers_only wanted all ls y.0 y.1 other in
    let with_none : Found → List ℕ × Found = λ f. ([], f) in
    back.2 ∙ ap with_none (single ls found back.0 (subst (λ xs. SpellsFound wanted all xs found) (sym one.first) one.found) back.1)
versions_one wanted all [] ls (version ∷ versions) found y left single one other = absurd (omega (arith, one.sized))
versions_one wanted all (name ∷ names) ls [] found y left single one other = absurd (omega (arith, one.sized))
versions_one wanted all (name ∷ names) ls (zero ∷ versions) found y left single one other =
    let mine = none_spelled wanted name all names ls versions found one in
    let back = none_drops wanted name all names ls ls y.0 y.1 (none_given wanted name all names ls versions found left.0 mine) refl other in
    let with_none : List ℕ × Found → List ℕ × Found = λ x. (0 ∷ x.0, x.1) in
    back.2 ∙ ap with_none (versions_one wanted all names ls versions found back.0 left.1 single mine back.1)
versions_one wanted all (name ∷ names) ls (suc its ∷ versions) found y left single one other =
    let high : suc its < 2 ^ 64 = All-head (λ v. v < 2 ^ 64) (suc its) versions one.small in
    let rest = version_lines names versions ++ one.rest in
    let first : ls ≡ version_text name (suc its) ∷ rest =
    one.first ∙ ap (λ t. t ++ one.rest) (lines_some name names (suc its) versions (omega arith)) in
    let back = version_drops wanted name (version_text name (suc its)) (suc its) all names rest y.0 y.1 left.0 (version_in-line name (suc its) (omega arith) high)
    (subst (λ xs. SpellsVersioned wanted all (name ∷ names) xs y) first other) in
    let mine : SpellsVersioned wanted all names rest (versions, found) = record {
      rest = one.rest;
      first = refl;
      sized = omega (arith, one.sized);
      small = All-tail (λ v. v < 2 ^ 64) (suc its) versions one.small;
      found = one.found;
    } in
    let with_version : List ℕ × Found → List ℕ × Found = λ x. (suc its ∷ x.0, x.1) in
    back.2 ∙ ap with_version (versions_one wanted all names rest versions found back.0 left.1 single mine back.1)
