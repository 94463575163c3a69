-- What the parsers find, as parts of messages.
use Rattle.std.proofs.Common.{◌≡◌, ℕ, ◌≤◌, ◌<◌, List, [], ◌∷◌, ◌++◌, Option, Some, None, Result, Ok, length, take, drop, refl, sym, ap, subst, ◌∙◌, append_assoc, arith, inl, inr, ◌^◌, Bool, true, ◌&&◌, cond}
use Rattle.std.proofs.lemmas.List.{length-take, length-map}
use Rattle.std.specs.Option.{SomeIff}
use Rattle.std.specs.Str.{all_ascii_digits}
use Rattle.std.specs.Str.Parse.{digits_value, AllDigits}
use Rattle.std.specs.Prelude.{nat_le, nat_lt}
use Rattle.std.proofs.lemmas.Bool.{le-leb, lt-ltb}
use Rattle.std.proofs.lemmas.Str.Parse.{tells_digits, tells_all_ascii_digits}
use Rattle.std.proofs.lemmas.Int.Digits.{digits_value-lt}
use Rattle.std.proofs.Math.Nat.{pow-le-pow_right}
use Rattle.httparse.specs.Grammar.{RequestHead, IsRequestHead, print_request, ReadsRequest, ResponseHead, IsResponseHead, print_response, ReadsResponse, ChunkLine, IsChunkLine, print_chunk_line, Field, LineEnd, lf}
use Rattle.httparse.specs.Outcome.{IfComplete}
use Rattle.httparse.specs.Spans.{IsChunkLineAt, IsSectionAt, IsSectionOf, AreFieldsAt, header_bytes, name_and_value, RequestExceeds, RequestOverflows, ResponseExceeds, ResponseOverflows, SectionExceeds, SectionOverflows}
use Rattle.httparse.specs.declared.Status.{Status}
use Rattle.httparse.specs.declared.Status.TheVariants.{Complete}
use Rattle.httparse.specs.declared.spans.HeaderSpan.{HeaderSpan}
use Rattle.httparse.proofs.GrammarLemmas.{request_unique, response_unique, section_unique}
use Rattle.httparse.proofs.ChunkLemmas.{chunk_line_unique}
use Rattle.wire.specs.Bodies.{Trailers, AreTrailers, print_trailers, AreShort, PassesLine, PassesTrailers, stated_length}
use Rattle.wire.specs.Heads.{PassesRequest}
use Rattle.wire.specs.Responses.{PassesHead}
use Rattle.wire.specs.Parts.{Reads, PassesLines}
use Rattle.wire.proofs.PartLaws.{passes_found}

-- what holds of a parse that is complete
pub complete_as : {A E : Type 0} (r : Result (Status A) E) (s : Status A) (a : A) (P : A → Type 0) → IfComplete r P → r ≡ Ok s → s ≡ Complete a → P a
complete_as r s a P holds is same = subst (λ t. IfComplete t P) (is ∙ ap Ok same) holds

-- as many lines as spans
pub as_many : (bytes : List ℕ) (headers : List HeaderSpan) (count : ℕ) (fields : List Field) → AreFieldsAt bytes headers count fields → length fields ≤ length headers
as_many bytes headers count fields same =
    let long = ap length same in
    omega (arith, long, length-map (take count headers) (header_bytes bytes), length-map fields name_and_value, length-take count headers)

-- a chunk's line that is too long
pub long_line : (came : List ℕ) (len size : ℕ) (line : ChunkLine) → IsChunkLineAt came len size line → 16384 < len → (more : List ℕ) → PassesLine 16384 (came ++ more)
long_line came len size line at long more =
    (refl, passes_found IsChunkLine print_chunk_line (λ bytes a b r q x y. (chunk_line_unique bytes a b r q x y).0) 16384 came line (drop len came) at.reads (omega (arith, at.len_is, long)) more)

-- trailer lines that are too long
pub long_trailers : (came : List ℕ) (headers : List HeaderSpan) (len count : ℕ) (fields : List Field) (last : LineEnd) → IsSectionAt came 0 headers len count fields last
    → 16384 < len → (more : List ℕ) → PassesTrailers 16384 (came ++ more)
long_trailers came headers len count fields last at long more =
    let t : Trailers = record { lines = fields; end = last } in
    inl (
      refl,
      passes_found AreTrailers print_trailers
          (λ bytes a b r q x y. let same = section_unique bytes a.lines b.lines a.end b.end r q x y in λ i. record { lines = same.0 i; end = same.1 i })
          16384 came t (drop len came) at.reads (omega (arith, at.len_is, long)) more,
    )

-- a head of a request that is too long
pub long_request : (came : List ℕ) (len : ℕ) (head : RequestHead) → ReadsRequest came head (drop len came) → len ≡ length (print_request head) → 16384 < len
    → (more : List ℕ) → PassesRequest 16384 (came ++ more)
long_request came len head reads is long more =
    inl (refl, passes_found IsRequestHead print_request (λ bytes a b r q x y. (request_unique bytes a b r q x y).0) 16384 came head (drop len came) reads (omega (arith, is, long)) more)

-- a head of a response that is too long
pub long_head : (came : List ℕ) (len : ℕ) (head : ResponseHead) → ReadsResponse came head (drop len came) → len ≡ length (print_response head) → 16384 < len
    → (more : List ℕ) → PassesHead 16384 (came ++ more)
long_head came len head reads is long more =
    inl (refl, passes_found IsResponseHead print_response (λ bytes a b r q x y. (response_unique bytes a b r q x y).0) 16384 came head (drop len came) reads (omega (arith, is, long)) more)

-- bytes of which a front and an empty line have too many lines have them whatever follows
exceeds : {A : Type 0} (Valid : A → Type 0) (print : A → List ℕ) (lines : A → ℕ) (came front behind : List ℕ) (part : A) (room : ℕ) → room ≡ 64
    → came ≡ front ++ behind → Reads Valid print (front ++ 10 ∷ []) part [] → room < lines part
    → ((more : List ℕ) (part : A) (rest : List ℕ) → Reads Valid print (came ++ more) part rest → room < lines part)
    → (more : List ℕ) → PassesLines Valid print lines 64 (came ++ more)
exceeds Valid print lines came front behind part room is same reads many overflows more = (
  (front, behind ++ more, ap (λ (xs : List ℕ). xs ++ more) same ∙ append_assoc front behind more, part, reads, omega (arith, is, many)),
  λ other rest found. let over = overflows more other rest found in omega (arith, is, over),
)

-- a request of too many lines
pub many_request : (came : List ℕ) (room : ℕ) → room ≡ 64 → RequestExceeds room came → RequestOverflows room came → (more : List ℕ) → PassesRequest 64 (came ++ more)
many_request came room is passes overflows more =
    inr (refl, exceeds IsRequestHead print_request (λ text. length text.fields) came passes.0 passes.1 passes.3 room is passes.2 passes.4 passes.5 overflows more)

-- a response of too many lines
pub many_head : (came : List ℕ) (room : ℕ) → room ≡ 64 → ResponseExceeds room came → ResponseOverflows room came → (more : List ℕ) → PassesHead 64 (came ++ more)
many_head came room is passes overflows more =
    inr (refl, exceeds IsResponseHead print_response (λ head. length head.fields) came passes.0 passes.1 passes.3 room is passes.2 passes.4 passes.5 overflows more)

-- too many trailer lines
pub many_trailers : (came : List ℕ) (room : ℕ) → room ≡ 64 → SectionExceeds room came → SectionOverflows room came → (more : List ℕ) → PassesTrailers 64 (came ++ more)
many_trailers came room is passes overflows more =
    let last : Trailers = record { lines = passes.3; end = lf } in
    inr (
      refl,
      exceeds AreTrailers print_trailers (λ t. length t.lines) came passes.0 passes.1 last room is passes.2 passes.4 passes.5
          (λ more t. overflows more t.lines t.end) more,
    )

-- trailer lines within the limits
pub short_trailers : (came : List ℕ) (headers : List HeaderSpan) (len count : ℕ) → IsSectionOf came 0 headers (len, count) → len ≤ 16384 → len ≤ length came → length headers ≡ 64
    → (t : Trailers) × AreShort t × Reads AreTrailers print_trailers came t (drop len came) × (len ≤ length came)
short_trailers came headers len count found short within room =
    let at = found.2 in
    let t : Trailers = record { lines = found.0; end = found.1 } in
    (t, record { bytes = omega (arith, at.len_is, short); lines = omega (arith, room, as_many came headers count found.0 at.fields_are) }, at.reads, within)

-- digits, one by one
digits_all : (cs : List ℕ) → all_ascii_digits cs ≡ true → AllDigits 10 cs
digits_all [] are = tt
digits_all (c ∷ cs) are = let parts = tells_all_ascii_digits.parts c cs are in tells_digits.more c cs parts.0 (digits_all cs parts.1)

-- the value of 1 to 18 digits is below 2^64
digits_few : (value : List ℕ) → length value ≤ 18 → all_ascii_digits value ≡ true → digits_value 10 value < 2 ^ 64
digits_few value few are =
    let below = digits_value-lt 10 value (digits_all value are) in
    let most : 10 ^ length value ≤ 10 ^ 18 = pow-le-pow_right {n = 10} (omega arith) few in
    omega (arith, below, most)

-- three tests that hold
all_true : (a b c : Bool) → a ≡ true → b ≡ true → c ≡ true → (a && (b && c)) ≡ true
all_true a b c first second third = ap (λ t. t && (b && c)) first ∙ ap (λ t. t && c) second ∙ third

-- the number that 1 to 18 digits state
pub stated_is : (value : List ℕ) (found : Option ℕ) → SomeIff found (digits_value 10 value < 2 ^ 64) (digits_value 10 value) → 0 < length value → length value ≤ 18
    → all_ascii_digits value ≡ true → found ≡ stated_length value
stated_is value None is some few are = absurd (is (digits_few value few are))
stated_is value (Some number) is some few are =
    ap Some is.1 ∙ sym (ap (λ t. cond {A = Option ℕ} t (Some (digits_value 10 value)) None)
    (all_true (nat_lt 0 (length value)) (nat_le (length value) 18) (all_ascii_digits value) (lt-ltb 0 (length value) some) (le-leb (length value) 18 few) are))
