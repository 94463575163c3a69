-- Look-ups by place on a shelf.
use Rattle.std.proofs.Common.{◌≡◌, ◌<◌, ◌+◌, ℕ, zero, suc, cond, false, List, [], ◌∷◌, length, drop, get_or, Option, Some, None, refl, sym, ap, ◌∙◌, arith}
use Rattle.std.specs.Option.{option_map}
use Rattle.std.specs.Str.{bytes_eq}
use Rattle.test_mem_source.specs.declared.mem_shelf.HeldText.{HeldText}
use Rattle.test_mem_source.specs.declared.mem_shelf.HeldSource.{HeldSource}
use Rattle.test_mem_source.specs.Shelved.{text_at, source_at}
use Rattle.test_mem_source.specs.OnShelf.{placed_texts, placed_sources, is_among}
use Rattle.test_mem_source.specs.InMemory.{unused}
use Rattle.test_mem_source.specs.Stored.{Stored}

pub text_drop : (held : List HeldText) (place : List ℕ) (i : ℕ) (d : HeldText) → i < length held
    → text_at (placed_texts (drop i held)) place ≡ cond (bytes_eq (get_or held i d).place.items place) (Some (get_or held i d).text.items) (text_at (placed_texts (drop (i + 1) held)) place)
text_drop [] place i d l = absurd (omega arith)
text_drop (first ∷ held) place zero d l = refl
text_drop (first ∷ held) place (suc i) d l =
    let e : suc i + 1 ≡ suc (i + 1) = omega arith in
    text_drop held place i d (omega arith)
    ∙ ap (λ n. cond (bytes_eq (get_or held i d).place.items place) (Some (get_or held i d).text.items) (text_at (placed_texts (drop n (first ∷ held))) place)) (sym e)

pub source_drop : (held : List HeldSource) (place : List ℕ) (i : ℕ) (d : HeldSource) → i < length held
    → source_at (placed_sources (drop i held)) place ≡ cond (bytes_eq (get_or held i d).place.items place) (Some (get_or held i d).source) (source_at (placed_sources (drop (i + 1) held)) place)
source_drop [] place i d l = absurd (omega arith)
source_drop (first ∷ held) place zero d l = refl
source_drop (first ∷ held) place (suc i) d l =
    let e : suc i + 1 ≡ suc (i + 1) = omega arith in
    source_drop held place i d (omega arith)
    ∙ ap (λ n. cond (bytes_eq (get_or held i d).place.items place) (Some (get_or held i d).source) (source_at (placed_sources (drop n (first ∷ held))) place)) (sym e)

-- a call that isn't to fail, of a place with a source
pub given : (numbers : List ℕ) (call : ℕ) (o : Option Stored) (m : Stored) → is_among numbers call ≡ false → o ≡ Some m
    → option_map unused (cond (is_among numbers call) None o) ≡ Some (unused m)
given numbers call o m not_due is = ap (λ b. option_map unused (cond b None o)) not_due ∙ ap (option_map unused) is
