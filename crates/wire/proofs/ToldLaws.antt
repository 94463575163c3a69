-- What is told, over what a link gives.
use Rattle.std.proofs.Common.{◌≡◌, ℕ, List, ◌++◌, Option, Some, None, IfSome, take, drop, sym, ap, subst, ◌∙◌, append_assoc, append-nil}
use Rattle.std.proofs.lemmas.List.{take-append-drop}
use Rattle.std.specs.Io.KnownBytes.{Consumes, IsAtEnd}
use Rattle.wire.specs.LinkTold.{told, SameTold}

-- what a read gave is behind what came
pub same_grown : (came came_now piece : List ℕ) (left left_now : Option (List ℕ)) → came_now ≡ came ++ piece → Consumes left left_now piece
    → SameTold came left came_now left_now
same_grown came came_now piece None left_now grown gave = tt
same_grown came came_now piece (Some xs) None grown gave = absurd gave
same_grown came came_now piece (Some xs) (Some ys) grown gave =
    ap (λ (front : List ℕ). front ++ ys) grown ∙ append_assoc came piece ys ∙ ap (λ (rest : List ℕ). came ++ rest) (sym gave)

-- what holds of the bytes that came, whatever follows, holds of all bytes
pub told_all : (came here : List ℕ) (left left_now : Option (List ℕ)) (P : List ℕ → Type 0) → SameTold came left here left_now
    → ((more : List ℕ) → P (here ++ more)) → IfSome (told came left) P
told_all came here None left_now P same holds = tt
told_all came here (Some xs) None P same holds = absurd same
told_all came here (Some xs) (Some ys) P same holds = subst P same (holds ys)

-- what holds of the bytes that came at the end of the link holds of all bytes
pub told_whole : (came here : List ℕ) (left left_now : Option (List ℕ)) (P : List ℕ → Type 0) → SameTold came left here left_now
    → IsAtEnd left_now → P here → IfSome (told came left) P
told_whole came here None left_now P same ended holds = tt
told_whole came here (Some xs) None P same ended holds = absurd same
told_whole came here (Some xs) (Some ys) P same ended holds =
    let all : here ≡ came ++ xs = sym (append-nil here) ∙ ap (λ (rest : List ℕ). here ++ rest) (sym ended) ∙ same in
    subst P all holds

-- a front of the bytes that came is a front of all bytes
pub take_front : (came here piece rest : List ℕ) (left left_now : Option (List ℕ)) → SameTold came left here left_now → here ≡ piece ++ rest
    → Consumes (told came left) (told rest left_now) piece
take_front came here piece rest None left_now same is = tt
take_front came here piece rest (Some xs) None same is = absurd same
take_front came here piece rest (Some xs) (Some ys) same is =
    sym same ∙ ap (λ (front : List ℕ). front ++ ys) is ∙ append_assoc piece rest ys

-- so many bytes of those that came are a front of all bytes
pub take_count : (came : List ℕ) (left : Option (List ℕ)) (count : ℕ) → Consumes (told came left) (told (drop count came) left) (take count came)
take_count came None count = tt
take_count came (Some xs) count = ap (λ (all : List ℕ). all ++ xs) (sym (take-append-drop count came)) ∙ append_assoc (take count came) (drop count came) xs

-- what holds of the rest holds of the whole
pub after_piece : (before now : Option (List ℕ)) (piece : List ℕ) (P Q : List ℕ → Type 0) → Consumes before now piece → IfSome now P
    → ((bytes rest : List ℕ) → bytes ≡ piece ++ rest → P rest → Q bytes) → IfSome before Q
after_piece None now piece P Q taken holds next = tt
after_piece (Some xs) None piece P Q taken holds next = absurd taken
after_piece (Some xs) (Some ys) piece P Q taken holds next = next xs ys taken holds

-- what holds at the end of what is told
pub at_end : (before now : Option (List ℕ)) (piece : List ℕ) (Q : List ℕ → Type 0) → Consumes before now piece → IsAtEnd now → Q piece → IfSome before Q
at_end None now piece Q taken ended holds = tt
at_end (Some xs) None piece Q taken ended holds = absurd taken
at_end (Some xs) (Some ys) piece Q taken ended holds =
    subst Q (sym (append-nil piece) ∙ ap (λ (rest : List ℕ). piece ++ rest) (sym ended) ∙ sym taken) holds
