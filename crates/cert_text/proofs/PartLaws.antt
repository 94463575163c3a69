-- What the reading of one line means.
use Rattle.std.proofs.Common.{◌≡◌, ◌≢◌, ℕ, ◌<◌, ◌≤◌, ◌^◌, Bool, true, false, cond, List, [], ◌∷◌, ◌++◌, length, Option, Some, None, refl, sym, ap, subst, ◌∙◌, arith, le-leb, lt-ltb, ◌&&◌, nat_lt, nat_le}
use Rattle.std.specs.List.{All, list_all}
use Rattle.std.specs.Str.{bytes_eq}
use Rattle.std.specs.Char.{is_ascii_alphabetic}
use Rattle.std.specs.Fmt.{decimal}
use Rattle.std.specs.Option.{option_and_then}
use Rattle.std.proofs.lemmas.Option.{cond_some, same_Some}
use Rattle.std.proofs.lemmas.Bool.{false≢true, and_parts, leb-true}
use Rattle.std.proofs.lemmas.List.Sums.{position_or_len_is}
use Rattle.std.proofs.lemmas.List.Quantifiers.{position-Some}
use Rattle.std.proofs.lemmas.List.Elements.{All-weaker, All-nil, All-cons, All-get_or}
use Rattle.std.proofs.lemmas.Slice.Eq.{bytes_eq-Decides}
use Rattle.topk_base.specs.Cuts.{cut_at}
use Rattle.topk_base.specs.Names.{is_name_byte, IsName}
use Rattle.topk_base.specs.Numbers.{number_up_to}
use Rattle.topk_base.proofs.CutLaws.{cut_at-append, cut_at-some}
use Rattle.topk_base.proofs.NumberLaws.{up_to-decimal, decimal-up_to, up_to-some, decimal_bytes}
use Rattle.query_text.specs.Query.{name_of}
use Rattle.cert_text.specs.Judging.{AreNames}
use Rattle.cert_text.specs.Parts.{number_within, number_before, list_named}

-- what a step of reading took
pub bind_some : {A B : Type 0} (o : Option A) (f : A → Option B) (y : B) → option_and_then f o ≡ Some y → (x : A) × (o ≡ Some x) × (f x ≡ Some y)
bind_some None f y h = absurd cc
bind_some (Some x) f y h = (x, refl, h)

-- a byte that is no space
abbrev pub NoSpace : ℕ → Type 0
NoSpace byte = byte ≢ 32

pub decimal_spaceless : (n : ℕ) → n < 2 ^ 64 → All NoSpace (decimal n)
decimal_spaceless n small =
    All-weaker (λ byte. (48 ≤ byte) × (byte ≤ 57)) NoSpace (λ byte digit e. absurd (omega (arith, digit.0))) (decimal n) (decimal_bytes n small)

bytes_spaceless : (xs : List ℕ) → list_all is_name_byte xs ≡ true → All NoSpace xs
bytes_spaceless [] h = All-nil NoSpace
bytes_spaceless (x ∷ xs) h =
    let parts = and_parts (is_name_byte x) (list_all is_name_byte xs) h in
    All-cons NoSpace x xs (λ e. false≢true (subst (λ b. is_name_byte b ≡ true) e parts.0)) (bytes_spaceless xs parts.1)

-- a name has no space
pub name_spaceless : (name : List ℕ) → IsName name → All NoSpace name
name_spaceless [] h = All-nil NoSpace
name_spaceless (x ∷ xs) h =
    let parts = and_parts (is_ascii_alphabetic x && list_all is_name_byte xs) (nat_lt (length xs) 32) h in
    let bytes = and_parts (is_ascii_alphabetic x) (list_all is_name_byte xs) parts.0 in
    All-cons NoSpace x xs (λ e. false≢true (subst (λ b. is_ascii_alphabetic b ≡ true) e bytes.0)) (bytes_spaceless xs bytes.1)

-- numbers within a range are read as they are written
pub within-decimal : (least most n : ℕ) → least ≤ n → n ≤ most → most < 2 ^ 64 → number_within least most (decimal n) ≡ Some n
unfolding number_within
within-decimal least most n low high bound = rw (up_to-decimal most n high bound, le-leb least n low) refl

pub record IsWithin (least most : ℕ) (text : List ℕ) (n : ℕ) : Type 0 where
  pub text_is : text ≡ decimal n
  pub low : least ≤ n
  pub high : n ≤ most

pub within-some : (least most n : ℕ) (text : List ℕ) → most < 2 ^ 64 → number_within least most text ≡ Some n → IsWithin least most text n
unfolding number_within
within-some least most n text bound h =
    let read = bind_some (number_up_to most text) (λ m. cond (nat_le least m) (Some m) None) n h in
    let test = cond_some (nat_le least read.0) read.0 n read.2 in
    let up = up_to-some most read.0 text read.1 in
    record {
      text_is = decimal-up_to most read.0 text bound read.1 ∙ ap decimal test.1;
      low = subst (λ m. least ≤ m) test.1 (leb-true least read.0 test.0);
      high = subst (λ m. m ≤ most) test.1 up.1;
    }

-- a number and a space are read as they are written
pub before-decimal : (most n : ℕ) (rest : List ℕ) → n ≤ most → most < 2 ^ 64 → number_before most (decimal n ++ 32 ∷ rest) ≡ Some (n, rest)
unfolding number_before
before-decimal most n rest small bound =
    rw (cut_at-append 32 (decimal n) rest (decimal_spaceless n (omega arith)), up_to-decimal most n small bound) refl

pub record IsBefore (most : ℕ) (text : List ℕ) (n : ℕ) (rest : List ℕ) : Type 0 where
  pub text_is : text ≡ decimal n ++ 32 ∷ rest
  pub high : n ≤ most

pub before-some : (most : ℕ) (text : List ℕ) (field : ℕ × List ℕ) → most < 2 ^ 64 → number_before most text ≡ Some field → IsBefore most text field.0 field.1
unfolding number_before
before-some most text field bound h =
    let cut = bind_some (cut_at 32 text) (λ c. option_and_then (λ m. Some (m, c.1)) (number_up_to most c.0)) field h in
    let read = bind_some (number_up_to most cut.0.0) (λ m. Some (m, cut.0.1)) field cut.2 in
    let parts = cut_at-some 32 text cut.0.0 cut.0.1 cut.1 in
    let same : (read.0, cut.0.1) ≡ field = same_Some _ _ read.2 in
    let up = up_to-some most read.0 cut.0.0 read.1 in
    let front : cut.0.0 ≡ decimal read.0 = decimal-up_to most read.0 cut.0.0 bound read.1 in
    subst (λ (f : ℕ × List ℕ). IsBefore most text f.0 f.1) same
    record { text_is = parts.whole ∙ ap (λ t. t ++ 32 ∷ cut.0.1) front; high = up.1 }

-- the list at a place has the name, and no list before it
pub list_named_at : (names : List (List ℕ)) (i : ℕ) (name : List ℕ) → i < length names
    → ((k : ℕ) → k < i → bytes_eq (name_of names k) name ≡ false) → bytes_eq (name_of names i) name ≡ true → list_named names name ≡ Some i
list_named_at names i name within before here =
    let e = position_or_len_is (λ other. bytes_eq other name) names i [] (omega arith) before (λ _. here) in
    rw (e, lt-ltb i (length names) within) refl

bytes_eq-apart : (xs ys : List ℕ) → xs ≢ ys → bytes_eq xs ys ≡ false
bytes_eq-apart xs ys ne = by_test (bytes_eq xs ys) refl
  where
    by_test : (b : Bool) → bytes_eq xs ys ≡ b → b ≡ false
    by_test false e = refl
    by_test true e = absurd (ne ((bytes_eq-Decides xs ys).0 e))

bytes_eq-same : (xs : List ℕ) → bytes_eq xs xs ≡ true
bytes_eq-same xs = (bytes_eq-Decides xs xs).1 refl

-- a list is found by its own name
pub list_named-name_of : (names : List (List ℕ)) (i : ℕ) → AreNames names → i < length names → list_named names (name_of names i) ≡ Some i
list_named-name_of names i are within =
    list_named_at names i (name_of names i) within
    (λ k before. bytes_eq-apart (name_of names k) (name_of names i) (are.different k i [] before within))
    (bytes_eq-same (name_of names i))

-- and by no other
pub list_named-some : (names : List (List ℕ)) (name : List ℕ) (i : ℕ) → list_named names name ≡ Some i → (i < length names) × (name ≡ name_of names i)
list_named-some names name i h =
    let found = position-Some (λ other. bytes_eq other name) names i [] h in
    (found.0, sym ((bytes_eq-Decides (name_of names i) name).0 found.1))

pub name_of_spaceless : (names : List (List ℕ)) (i : ℕ) → AreNames names → i < length names → All NoSpace (name_of names i)
name_of_spaceless names i are within = name_spaceless (name_of names i) (All-get_or IsName names i [] within are.each)
