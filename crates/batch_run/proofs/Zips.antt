-- Two lists, place by place.
use Rattle.std.proofs.Common.{List, [], ◌∷◌, ◌++◌, map, All}
use Rattle.std.specs.List.{AllZip}
use Rattle.std.proofs.lemmas.List.Elements.{All-nil, All-cons}

pub zip_push : {A B : Type 0} (R : A → B → Type 0) (xs : List A) (ys : List B) (x : A) (y : B) → AllZip R xs ys → R x y → AllZip R (xs ++ x ∷ []) (ys ++ y ∷ [])
zip_push R [] [] x y h one = (one, tt)
zip_push R [] (z ∷ ys) x y h one = absurd h
zip_push R (w ∷ xs) [] x y h one = absurd h
zip_push R (w ∷ xs) (z ∷ ys) x y h one = (h.0, zip_push R xs ys x y h.1 one)

pub zip_map : {A B : Type 0} (R S : A → B → Type 0) → ((x : A) (y : B) → R x y → S x y) → (xs : List A) (ys : List B) → AllZip R xs ys → AllZip S xs ys
zip_map R S f [] [] h = tt
zip_map R S f [] (y ∷ ys) h = absurd h
zip_map R S f (x ∷ xs) [] h = absurd h
zip_map R S f (x ∷ xs) (y ∷ ys) h = (f x y h.0, zip_map R S f xs ys h.1)

-- a relation to a part of each
pub zip_part : {A B C : Type 0} (R : A → B → Type 0) (S : A → C → Type 0) (part : B → C) → ((x : A) (y : B) → R x y → S x (part y))
    → (xs : List A) (ys : List B)
    → AllZip R xs ys → AllZip S xs (map part ys)
zip_part R S part f [] [] h = tt
zip_part R S part f [] (y ∷ ys) h = absurd h
zip_part R S part f (x ∷ xs) [] h = absurd h
zip_part R S part f (x ∷ xs) (y ∷ ys) h = (f x y h.0, zip_part R S part f xs ys h.1)

-- what holds of a part of each second one, and between two parts of it
pub all_seconds : {A B C : Type 0} (R : A → B → Type 0) (part : B → C) (P : C → Type 0) → ((x : A) (y : B) → R x y → P (part y)) → (xs : List A) (ys : List B)
    → AllZip R xs ys
    → All P (map part ys)
all_seconds R part P f [] [] h = All-nil P
all_seconds R part P f [] (y ∷ ys) h = absurd h
all_seconds R part P f (x ∷ xs) [] h = absurd h
all_seconds R part P f (x ∷ xs) (y ∷ ys) h = All-cons P (part y) (map part ys) (f x y h.0) (all_seconds R part P f xs ys h.1)

pub both_parts : {A B C D : Type 0} (R : A → B → Type 0) (one : B → C) (other : B → D) (S : C → D → Type 0) → ((x : A) (y : B) → R x y → S (one y) (other y))
    → (xs : List A) (ys : List B) → AllZip R xs ys → AllZip S (map one ys) (map other ys)
both_parts R one other S f [] [] h = tt
both_parts R one other S f [] (y ∷ ys) h = absurd h
both_parts R one other S f (x ∷ xs) [] h = absurd h
both_parts R one other S f (x ∷ xs) (y ∷ ys) h = (f x y h.0, both_parts R one other S f xs ys h.1)
