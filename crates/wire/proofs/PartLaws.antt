-- Parts of messages, over what came and what is told.
use Rattle.std.proofs.Common.{◌≡◌, ℕ, ◌≤◌, ◌<◌, true, false, List, ◌++◌, Option, Some, None, IfSome, Ok, Err, length, take, drop, refl, sym, ap, subst, ◌∙◌, append_assoc, length-append, arith}
use Rattle.std.proofs.lemmas.Bool.{leb-true, leb-false}
use Rattle.std.proofs.lemmas.List.{take-append-drop, take-append-le}
use Rattle.std.proofs.Math.Dec.{leb}
use Rattle.std.proofs.Math.Seq.{take-append_seam}
use Rattle.wire.specs.Parts.{Reads, HasNone, PassesBytes, Finds, Takes}
use Rattle.wire.specs.LinkTold.{told, SameTold}
use Rattle.wire.specs.declared.part.Found.{Found}
use Rattle.wire.specs.declared.fault.WireFault.{WireFault}
use Rattle.wire.specs.declared.fault.WireFault.TheVariants.{LinkFault, BadMessage, TooLong, Memory}
use Rattle.wire.proofs.ToldLaws.{told_all, take_front}

-- a front of two texts that are the same
front_of : (front rest bytes more : List ℕ) → bytes ++ more ≡ front ++ rest → length front ≤ length bytes → bytes ≡ front ++ drop (length front) bytes
front_of front rest bytes more same short =
    let n = length front in
    let first : take n bytes ≡ front = sym (take-append-le n bytes more short) ∙ ap (take n) same ∙ take-append_seam front rest in
    sym (take-append-drop n bytes) ∙ ap (λ (xs : List ℕ). xs ++ drop n bytes) first

-- what isn't at most is more
more_than : (a b : ℕ) → (a ≤ b → ⊥) → b < a
more_than a b not_so = elim (leb a b) as (λ t. leb a b ≡ t → b < a) [
  | true ↦ λ is. absurd (not_so (leb-true a b is))
  | false ↦ λ is. leb-false a b is
] refl

-- a part that stands at the front of longer bytes stands at the front of these, where it is no longer than they are
pub stands : {A : Type 0} (Valid : A → Type 0) (print : A → List ℕ) (bytes more : List ℕ) (part : A) (rest : List ℕ)
    → Reads Valid print (bytes ++ more) part rest → length (print part) ≤ length bytes → Reads Valid print bytes part (drop (length (print part)) bytes)
stands Valid print bytes more part rest reads short = (reads.0, front_of (print part) rest bytes more reads.1 short)

-- the bytes that came have more bytes than the limit and no part of the kind
pub beyond : {A : Type 0} (Valid : A → Type 0) (print : A → List ℕ) (limit : ℕ) (bytes : List ℕ) → HasNone Valid print bytes → limit < length bytes
    → (more : List ℕ) → PassesBytes Valid print limit (bytes ++ more)
beyond Valid print limit bytes none long more = (
  omega (arith, length-append bytes more),
  λ part rest reads. more_than (length (print part)) limit (λ short.
      none part (drop (length (print part)) bytes) (stands Valid print bytes more part rest reads (omega (arith, short, long)))),
)

-- a part of the kind was found that is longer than the limit, and it is the only one
pub passes_found : {A : Type 0} (Valid : A → Type 0) (print : A → List ℕ)
    → ((bytes : List ℕ) (a b : A) (r q : List ℕ) → Reads Valid print bytes a r → Reads Valid print bytes b q → a ≡ b)
    → (limit : ℕ) (bytes : List ℕ) (part : A) (rest : List ℕ) → Reads Valid print bytes part rest → limit < length (print part)
    → (more : List ℕ) → PassesBytes Valid print limit (bytes ++ more)
passes_found Valid print unique limit bytes part rest reads long more =
    let all : Reads Valid print (bytes ++ more) part (rest ++ more) = (reads.0, ap (λ (xs : List ℕ). xs ++ more) reads.1 ∙ append_assoc (print part) rest more) in (
      omega (arith, ap length all.1, length-append (print part) (rest ++ more)),
      λ other behind found. subst (λ x. limit < length (print x)) (unique (bytes ++ more) part other (rest ++ more) behind all found) long,
    )

-- what was found is taken
pub takes_found : {A T : Type 0} (Valid : A → Type 0) (print : A → List ℕ) (Says : A → T → Type 0) (Passes : ℕ → List ℕ → Type 0)
    (came here here_now : List ℕ) (left left_now : Option (List ℕ)) (found : Found T) → SameTold came left here left_now
    → Finds Valid print Says Passes here (Ok (Some found)) → here_now ≡ drop found.len here
    → Takes Valid print Says Passes (told came left) (told here_now left_now) (Ok found.part)
takes_found Valid print Says Passes came here here_now left left_now found same finds now =
    (finds.0, finds.1, finds.2.0, take_front came here (print finds.0) here_now left left_now same (finds.2.1 ∙ ap (λ (rest : List ℕ). print finds.0 ++ rest) (sym now)))

-- a fault that was found in the bytes that came, whatever follows
pub takes_none : {A T : Type 0} (Valid : A → Type 0) (print : A → List ℕ) (Says : A → T → Type 0) (Passes : ℕ → List ℕ → Type 0)
    (came here : List ℕ) (left left_now now : Option (List ℕ)) (fault : WireFault) → SameTold came left here left_now
    → Finds Valid print Says Passes here (Err fault) → Takes Valid print Says Passes (told came left) now (Err fault)
takes_none Valid print Says Passes came here left left_now now LinkFault same finds = tt
takes_none Valid print Says Passes came here left left_now now BadMessage same finds = told_all came here left left_now (HasNone Valid print) same finds
takes_none Valid print Says Passes came here left left_now now (TooLong limit) same finds = told_all came here left left_now (Passes limit) same finds
takes_none Valid print Says Passes came here left left_now now Memory same finds = tt

-- no part was found
pub none_found : {A T : Type 0} (Valid : A → Type 0) (print : A → List ℕ) (Says : A → T → Type 0) (Passes : ℕ → List ℕ → Type 0)
    (bytes : List ℕ) (found : Option (Found T)) → Finds Valid print Says Passes bytes (Ok found) → found ≡ None → HasNone Valid print bytes
none_found Valid print Says Passes bytes None finds none = finds
none_found Valid print Says Passes bytes (Some found) finds none = absurd cc

-- more came than the limit, and no part was found
pub takes_beyond : {A T : Type 0} (Valid : A → Type 0) (print : A → List ℕ) (Says : A → T → Type 0) (Passes : ℕ → List ℕ → Type 0)
    (limit : ℕ) (came feed seen again : List ℕ) (left left_now : Option (List ℕ)) (found : Option (Found T))
    → ((bytes : List ℕ) → PassesBytes Valid print limit bytes → Passes limit bytes)
    → SameTold came left feed left_now → seen ≡ feed → Finds Valid print Says Passes seen (Ok found) → found ≡ None
    → again ≡ feed → limit < length again → IfSome (told came left) (Passes limit)
takes_beyond Valid print Says Passes limit came feed seen again left left_now found passes same is finds none back long =
    let here : HasNone Valid print feed = subst (HasNone Valid print) is (none_found Valid print Says Passes seen found finds none) in
    let longer : limit < length feed = subst (λ (xs : List ℕ). limit < length xs) back long in
    told_all came feed left left_now (Passes limit) same (λ more. passes (feed ++ more) (beyond Valid print limit feed here longer more))
