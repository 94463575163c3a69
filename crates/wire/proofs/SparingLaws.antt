-- Reads that stop once a message is whole, one step behind another.
use Rattle.std.proofs.Common.{◌≡◌, ℕ, ◌≤◌, List, [], ◌∷◌, ◌++◌, Option, Some, None, Ok, length, drop, refl, sym, ap, subst, ◌∙◌, append_assoc, append-nil, arith}
use Rattle.std.specs.List.{concat}
use Rattle.std.proofs.lemmas.List.{append_cancel_left}
use Rattle.std.proofs.lemmas.List.Folds.{concat-append}
use Rattle.tk_io.specs.Links.{IsUnread}
use Rattle.wire.specs.Parts.{HasOne, HasNone, Finds, Takes}
use Rattle.wire.specs.Sparing.{IsSparing, WereRead, ReadsSparingly, WasReadSparingly, ReadsOnce, GrewBy, OfRead}
use Rattle.wire.specs.declared.part.Found.{Found}
use Rattle.wire.proofs.PartLaws.{none_found}

-- ---- pieces

-- what is whole by one measure is whole by the other
sparing_of : (IsWhole First : List ℕ → Type 0) (came : List ℕ) (more : List (List ℕ)) → ((bytes : List ℕ) → IsWhole bytes → First bytes)
    → IsSparing First came more → IsSparing IsWhole came more
sparing_of IsWhole First came [] first sparing = tt
sparing_of IsWhole First came (piece ∷ more) first sparing =
    (λ whole. sparing.0 (first came whole), sparing_of IsWhole First (came ++ piece) more first sparing.1)

-- behind a part that was taken
sparing_behind : (IsWhole Second : List ℕ → Type 0) (part feed : List ℕ) (more : List (List ℕ)) → ((bytes : List ℕ) → IsWhole (part ++ bytes) → Second bytes)
    → IsSparing Second feed more → IsSparing IsWhole (part ++ feed) more
sparing_behind IsWhole Second part feed [] behind sparing = tt
sparing_behind IsWhole Second part feed (piece ∷ more) behind sparing = (
  λ whole. sparing.0 (behind feed whole),
  subst (λ (xs : List ℕ). IsSparing IsWhole xs more) (sym (append_assoc part feed piece))
      (sparing_behind IsWhole Second part (feed ++ piece) more behind sparing.1),
)

-- pieces and then others
sparing-append : (IsWhole : List ℕ → Type 0) (came : List ℕ) (more others : List (List ℕ)) → IsSparing IsWhole came more
    → IsSparing IsWhole (came ++ concat more) others → IsSparing IsWhole came (more ++ others)
sparing-append IsWhole came [] others sparing behind = subst (λ (xs : List ℕ). IsSparing IsWhole xs others) (append-nil came) behind
sparing-append IsWhole came (piece ∷ more) others sparing behind = (
  sparing.0,
  sparing-append IsWhole (came ++ piece) more others sparing.1
      (subst (λ (xs : List ℕ). IsSparing IsWhole xs others) (sym (append_assoc came piece (concat more))) behind),
)

-- at most one piece, read when what had come wasn't whole
sparing_once : (IsWhole : List ℕ → Type 0) (came : List ℕ) (more : List (List ℕ)) → (IsWhole came → ⊥) → length more ≤ 1 → IsSparing IsWhole came more
sparing_once IsWhole came [] not_so few = tt
sparing_once IsWhole came (piece ∷ []) not_so few = (not_so, tt)
sparing_once IsWhole came (piece ∷ other ∷ more) not_so few = absurd (omega (arith, few))

-- ---- what holds of the pieces that were read

-- both hold
were_both : (P Q : List (List ℕ) → Type 0) (a b : Option (List (List ℕ))) → WereRead P a b → WereRead Q a b → WereRead (λ more. P more × Q more) a b
were_both P Q None b p q = p
were_both P Q (Some a) None p q = absurd p
were_both P Q (Some a) (Some b) p q = (p.0, p.1, (p.2, subst Q (append_cancel_left a q.0 p.0 (sym q.1 ∙ p.1)) q.2))

-- what follows holds
pub were_as : (P Q : List (List ℕ) → Type 0) (a b : Option (List (List ℕ))) → ((more : List (List ℕ)) → P more → Q more) → WereRead P a b → WereRead Q a b
were_as P Q None b next p = p
were_as P Q (Some a) None next p = absurd p
were_as P Q (Some a) (Some b) next p = (p.0, p.1, next p.0 p.2)

-- nothing was read
pub were_none : (P : List (List ℕ) → Type 0) (a : Option (List (List ℕ))) → P [] → WereRead P a a
were_none P None holds = refl
were_none P (Some a) holds = ([], sym (append-nil a), holds)

-- one step and then another
pub were_then : (P Q S : List (List ℕ) → Type 0) (a b c : Option (List (List ℕ))) → ((more others : List (List ℕ)) → P more → Q others → S (more ++ others))
    → WereRead P a b → WereRead Q b c → WereRead S a c
were_then P Q S None b c join one two = subst (λ (mid : Option (List (List ℕ))). WereRead Q mid c) one two
were_then P Q S (Some a) None c join one two = absurd one
were_then P Q S (Some a) (Some b) None join one two = absurd two
were_then P Q S (Some a) (Some b) (Some c) join one two = (
  one.0 ++ two.0,
  two.1 ∙ ap (λ (xs : List (List ℕ)). xs ++ two.0) one.1 ∙ append_assoc a one.0 two.0,
  join one.0 two.0 one.2 two.2,
)

-- ---- steps

-- what one measure finds whole is rarer than what another one does
pub sparing_as : (IsWhole First : List ℕ → Type 0) (came : List ℕ) (a b : Option (List (List ℕ))) → ((bytes : List ℕ) → IsWhole bytes → First bytes)
    → ReadsSparingly First came a b → ReadsSparingly IsWhole came a b
sparing_as IsWhole First came a b first one =
    were_as (IsSparing First came) (IsSparing IsWhole came) a b (λ more sparing. sparing_of IsWhole First came more first sparing) one

-- a read where what had come wasn't whole
pub sparing_read : (IsWhole : List ℕ → Type 0) (came : List ℕ) (a b : Option (List (List ℕ))) → (IsWhole came → ⊥) → ReadsOnce a b → ReadsSparingly IsWhole came a b
sparing_read IsWhole came a b not_so read =
    were_as (λ more. length more ≤ 1) (IsSparing IsWhole came) a b (λ more few. sparing_once IsWhole came more not_so few) read

-- one step and then another, where the first one took a part
pub seam : (IsWhole First Second : List ℕ → Type 0) (came feed : List ℕ) (Holds : Option (List ℕ) → Option (List ℕ) → Type 0) (a b c : Option (List (List ℕ)))
    → ((bytes : List ℕ) → IsWhole bytes → First bytes)
    → ((all : List ℕ) → Holds (Some all) (Some feed) → (part : List ℕ) × (all ≡ part ++ feed) × ((bytes : List ℕ) → IsWhole (part ++ bytes) → Second bytes))
    → ReadsSparingly First came a b → OfRead Holds came feed a b → ReadsSparingly Second feed b c → ReadsSparingly IsWhole came a c
seam IsWhole First Second came feed Holds a b c first cut one took two =
    were_then (λ more. IsSparing First came more × Holds (Some (came ++ concat more)) (Some feed)) (IsSparing Second feed) (IsSparing IsWhole came) a b c
    (λ more others x y.
    let parts = cut (came ++ concat more) x.1 in
    sparing-append IsWhole came more others (sparing_of IsWhole First came more first x.0)
    (subst (λ (zs : List ℕ). IsSparing IsWhole zs others) (sym parts.1) (sparing_behind IsWhole Second parts.0 feed others parts.2 y)))
    (were_both (IsSparing First came) (λ more. Holds (Some (came ++ concat more)) (Some feed)) a b one took) two

-- what two steps took, one behind the other
pub of_then : (Holds More All : Option (List ℕ) → Option (List ℕ) → Type 0) (came feed late : List ℕ) (a b c : Option (List (List ℕ)))
    → ((all rest more : List ℕ) → Holds (Some all) (Some rest) → Holds (Some (all ++ more)) (Some (rest ++ more)))
    → ((all mid : List ℕ) → Holds (Some all) (Some mid) → More (Some mid) (Some late) → All (Some all) (Some late))
    → OfRead Holds came feed a b → OfRead More feed late b c → OfRead All came late a c
of_then Holds More All came feed late a b c stays join one two =
    were_then (λ more. Holds (Some (came ++ concat more)) (Some feed)) (λ more. More (Some (feed ++ concat more)) (Some late))
    (λ more. All (Some (came ++ concat more)) (Some late)) a b c
    (λ more others x y.
    subst (λ (zs : List ℕ). All (Some zs) (Some late))
    (append_assoc came (concat more) (concat others) ∙ ap (λ (zs : List ℕ). came ++ zs) (sym (concat-append more others)))
    (join ((came ++ concat more) ++ concat others) (feed ++ concat others) (stays (came ++ concat more) feed (concat others) x) y))
    one two

-- all reads of a link that was just given
pub sparing_fresh : (IsWhole : List ℕ → Type 0) (a b : Option (List (List ℕ))) → IsUnread a → ReadsSparingly IsWhole [] a b → WasReadSparingly IsWhole b
sparing_fresh IsWhole None b unread sparing = subst (WasReadSparingly IsWhole) (sym sparing) tt
sparing_fresh IsWhole (Some a) None unread sparing = tt
sparing_fresh IsWhole (Some a) (Some b) unread sparing =
    subst (IsSparing IsWhole []) (sym (sparing.1 ∙ ap (λ (xs : List (List ℕ)). xs ++ sparing.0) unread)) sparing.2

-- no read of a link that was just given
pub unread_sparing : (IsWhole : List ℕ → Type 0) (a : Option (List (List ℕ))) → IsUnread a → WasReadSparingly IsWhole a
unread_sparing IsWhole a unread = sparing_fresh IsWhole a a unread (were_none (IsSparing IsWhole []) a tt)

-- what was taken of bytes is taken of more
pub more_behind : (part all rest more : List ℕ) → all ≡ part ++ rest → all ++ more ≡ part ++ (rest ++ more)
more_behind part all rest more is = ap (λ (zs : List ℕ). zs ++ more) is ∙ append_assoc part rest more

-- ---- one read

-- bytes that grew and grew again
pub grew_then : (x y z : List ℕ) (a b c : Option (List (List ℕ))) → GrewBy x y a b → GrewBy y z b c → GrewBy x z a c
grew_then x y z a b c one two =
    were_then (λ more. y ≡ x ++ concat more) (λ more. z ≡ y ++ concat more) (λ more. z ≡ x ++ concat more) a b c
    (λ more others p q. q ∙ ap (λ (zs : List ℕ). zs ++ concat others) p ∙ append_assoc x (concat more) (concat others) ∙ ap (λ (zs : List ℕ). x ++ zs) (sym (concat-append more others)))
    one two

-- ---- a loop that takes nothing until it is found

-- one read more, where what had come wasn't whole
pub read_more : (IsWhole : List ℕ → Type 0) (came feed : List ℕ) (a b c : Option (List (List ℕ)))
    → ReadsSparingly IsWhole came a b → GrewBy came feed a b → (IsWhole feed → ⊥) → ReadsOnce b c → ReadsSparingly IsWhole came a c
read_more IsWhole came feed a b c sparing grew not_so read =
    were_then (λ more. IsSparing IsWhole came more × (feed ≡ came ++ concat more)) (λ more. length more ≤ 1) (IsSparing IsWhole came) a b c
    (λ more others x few. sparing-append IsWhole came more others x.0
    (sparing_once IsWhole (came ++ concat more) others (λ whole. not_so (subst IsWhole (sym x.1) whole)) few))
    (were_both (IsSparing IsWhole came) (λ more. feed ≡ came ++ concat more) a b sparing grew) read

-- one read more, where no part was found
pub read_on : {A T : Type 0} (Valid : A → Type 0) (print : A → List ℕ) (Says : A → T → Type 0) (Passes : ℕ → List ℕ → Type 0)
    (came feed seen : List ℕ) (a b c : Option (List (List ℕ))) (found : Option (Found T))
    → ReadsSparingly (HasOne Valid print) came a b → GrewBy came feed a b → seen ≡ feed
    → Finds Valid print Says Passes seen (Ok found) → found ≡ None → ReadsOnce b c → ReadsSparingly (HasOne Valid print) came a c
read_on Valid print Says Passes came feed seen a b c found sparing grew is finds none read =
    let here : HasNone Valid print feed = subst (HasNone Valid print) is (none_found Valid print Says Passes seen found finds none) in
    read_more (HasOne Valid print) came feed a b c sparing grew (λ one. here one.0 one.1 one.2) read

-- the part that was found was taken
pub of_found : {A T : Type 0} (Valid : A → Type 0) (print : A → List ℕ) (Says : A → T → Type 0) (Passes : ℕ → List ℕ → Type 0)
    (came feed seen feed_now : List ℕ) (a b : Option (List (List ℕ))) (option : Option (Found T)) (found : Found T) → GrewBy came feed a b → seen ≡ feed
    → Finds Valid print Says Passes seen (Ok option) → option ≡ Some found → feed_now ≡ drop found.len feed
    → OfRead (λ all rest. Takes Valid print Says Passes all rest (Ok found.part)) came feed_now a b
of_found {A} {T} Valid print Says Passes came feed seen feed_now a b option found grew is finds some now =
    let one : Finds Valid print Says Passes feed (Ok (Some found)) =
    subst (λ (xs : List ℕ). Finds Valid print Says Passes xs (Ok (Some found))) is (subst (λ (o : Option (Found T)). Finds Valid print Says Passes seen (Ok o)) some finds) in
    were_as (λ more. feed ≡ came ++ concat more) (λ more. Takes Valid print Says Passes (Some (came ++ concat more)) (Some feed_now) (Ok found.part)) a b
    (λ more grown. (one.0, one.1, one.2.0, sym grown ∙ one.2.1 ∙ ap (λ (rest : List ℕ). print one.0 ++ rest) (sym now))) grew
