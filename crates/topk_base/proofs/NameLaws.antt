-- What the test of a name finds out.
use Rattle.std.proofs.Common.{◌≡◌, ◌<◌, ◌&&◌, ◌||◌, ◌==◌, ℕ, Bool, true, false, List, ◌∷◌, length, refl, sym, ap, ◌∙◌, lt-ltb}
use Rattle.std.specs.List.{list_all}
use Rattle.std.specs.Char.{is_ascii_alphabetic, is_ascii_alphanumeric}
use Rattle.topk_base.specs.Names.{is_name_byte, is_name}

-- where the first byte is a letter and the length is right, the other bytes decide
pub is_name_by_rest : (text : List ℕ) (first : ℕ) (rest : List ℕ) → text ≡ first ∷ rest → length rest < 32 → is_ascii_alphabetic first ≡ true
    → is_name text ≡ list_all is_name_byte rest
is_name_by_rest text first rest e short letter = ap is_name e ∙ rw (letter, lt-ltb (length rest) 32 short) (by_rest (list_all is_name_byte rest))
  where
    by_rest : (b : Bool) → ((true && b) && true) ≡ b
    by_rest true = refl
    by_rest false = refl

-- a byte that is no letter and no digit may stand in a name where it is `_`
pub name_byte_else : (byte : ℕ) → is_ascii_alphanumeric byte ≡ false → (byte == 95) ≡ is_name_byte byte
name_byte_else byte other = sym (ap (λ (b : Bool). b || (byte == 95)) other)
