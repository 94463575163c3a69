-- The reply with an answer reads back.
use Rattle.std.proofs.Common.{◌≡◌, ℕ, ◌+◌, ◌<◌, ◌≤◌, ◌^◌, Bool, true, false, IsTrue, List, [], ◌∷◌, ◌++◌, codes, length, reverse, Option, Some, Result, Ok, Err, refl, sym, ap, subst, ◌∙◌, append_assoc, length-append, arith, inl, inr, eq-eqb, lt-ltb, le-leb}
use denote.RawPtr.{null_ptr}
use Rattle.std.specs.Prelude.{option_map}
use Rattle.std.specs.Global.{Global, Vec}
use Rattle.std.specs.Char.{is_ascii_digit}
use Rattle.std.specs.Fmt.{decimal}
use Rattle.std.specs.List.{All, list_all}
use Rattle.std.specs.Str.{bytes_eq, all_ascii_digits}
use Rattle.std.specs.Str.Parse.{digits_value}
use Rattle.std.proofs.lemmas.Bool.{and_parts}
use Rattle.std.proofs.lemmas.Bool.Decides.{nat_tests}
use Rattle.std.proofs.lemmas.Fmt.{length-decimal-le}
use Rattle.std.proofs.lemmas.List.{append-nil, nil_from_length}
use Rattle.std.proofs.lemmas.List.Elements.{All-nil, All-cons, All-head, All-weaker}
use Rattle.httparse.specs.Ascii.{crlf_bytes}
use Rattle.httparse.specs.Grammar.{AllPass, is_token_byte, is_value_byte, is_ows, skip_ows, trim_ows, crlf, Field, IsField, ResponseHead, IsResponseHead, print_response, ReadsResponse, status_code}
use Rattle.httparse.proofs.GrammarLemmas.{response_unique}
use Rattle.httparse.proofs.OnLiterals.{httparse_on_literals}
use Rattle.httparse.proofs.TrimLemmas.{AllPass-reverse, skip_ows_no, trim_ows_space}
use Rattle.topk_base.proofs.NumberLaws.{canonical_from_number, decimal_bytes, decimal-number_of, number_of-decimal, number_of-some}
use Rattle.wire.specs.Bodies.{Body, absent, in_chunks, of_length, to_end, content_of, framing_of, Frames, stated_length, PassesBody}
use Rattle.wire.specs.Responses.{AnswersResponse, IsReply, IsResponse, framing_in, PassesResponse}
use Rattle.wire.specs.Writing.{joined, reply_text}
use Rattle.wire.specs.declared.fault.WireFault.{WireFault}
use Rattle.wire.specs.declared.fault.WireFault.TheVariants.{LinkFault, BadMessage, TooLong, Memory}
use Rattle.wire.specs.declared.framing.Framing.{Framing}
use Rattle.wire.specs.declared.framing.Framing.TheVariants.{Length}
use Rattle.wire.specs.declared.response.Reply.{Reply}
use Rattle.wire.specs.declared.writing.Kind.TheVariants.{Json}
use Rattle.source_node.specs.ReadingBack.{ReadsBack}

-- the lines of the head of a reply with an answer whose length has these digits
abbrev kind_line : Field
kind_line = record { name = codes "Content-Type"; raw = codes " application/json"; end = crlf }

abbrev length_line : List ℕ → Field
length_line digits = record { name = codes "Content-Length"; raw = 32 ∷ digits; end = crlf }

abbrev close_line : Field
close_line = record { name = codes "Connection"; raw = codes " close"; end = crlf }

-- the head
abbrev head_of : List ℕ → ResponseHead
head_of digits = record {
  blank = [];
  minor = 1;
  digits = codes "200";
  reason = Some (codes "OK");
  line_end = crlf;
  fields = kind_line ∷ length_line digits ∷ close_line ∷ [];
  last = crlf;
}

-- bytes that pass a test, by computing it
passes : (test : ℕ → Bool) (xs : List ℕ) → list_all test xs ≡ true → AllPass test xs
passes test [] h = All-nil (λ b. IsTrue (test b))
passes test (x ∷ xs) h =
    let both = and_parts (test x) (list_all test xs) h in
    All-cons (λ b. IsTrue (test b)) x xs both.0 (passes test xs both.1)

-- a digit is a digit, may stand in a value, and is no white space
is_digit : (b : ℕ) → (48 ≤ b) × (b ≤ 57) → is_ascii_digit b ≡ true
is_digit b h = grind (arith, nat_tests)

in_value : (b : ℕ) → (48 ≤ b) × (b ≤ 57) → is_value_byte b ≡ true
in_value b h = grind (arith, nat_tests)

no_space : (b : ℕ) → is_ascii_digit b ≡ true → is_ows b ≡ false
no_space b h = grind (arith, nat_tests)

-- digits are kept whole where white space is skipped
kept : (xs : List ℕ) → AllPass is_ascii_digit xs → skip_ows xs ≡ xs
kept [] all = refl
kept (b ∷ xs) all = skip_ows_no {b = b} {all = b ∷ xs} {rest = xs} refl (sym (no_space b (All-head (λ d. IsTrue (is_ascii_digit d)) b xs all)))

trimmed : (digits : List ℕ) → AllPass is_ascii_digit digits → trim_ows (32 ∷ digits) ≡ digits
trimmed digits all = trim_ows_space digits (kept digits all) (kept (reverse digits) (AllPass-reverse is_ascii_digit digits all))

-- bytes are themselves
same_bytes : (xs : List ℕ) → bytes_eq xs xs ≡ true
same_bytes [] = refl
same_bytes (x ∷ xs) = rw (eq-eqb x x refl) (same_bytes xs)

-- a number that is written is the length that it states
stated : (n : ℕ) → n ≤ 16777216 → stated_length (decimal n) ≡ Some n
stated n few =
    let small : n < 2 ^ 64 = omega arith in
    let parts = number_of-some (decimal n) n (number_of-decimal n small) in
    let shape = canonical_from_number (decimal n) parts.0 in
    let short : length (decimal n) ≤ 18 = length-decimal-le 18 n (omega arith) (omega arith) small in
    by (decimal n) shape.some short shape.digits parts.1
  where
    by : (ds : List ℕ) → 0 < length ds → length ds ≤ 18 → all_ascii_digits ds ≡ true → digits_value 10 ds ≡ n → stated_length ds ≡ Some n
    by ds some short digits value = rw (lt-ltb 0 (length ds) some, le-leb (length ds) 18 short, digits) (ap Some value)

-- the framing of a reply with an answer
by_length : (kind close digits : List ℕ) (n : ℕ) → bytes_eq digits digits ≡ true → stated_length digits ≡ Some n
    → framing_of ((codes "Content-Type", kind) ∷ (codes "Content-Length", digits) ∷ (codes "Connection", close) ∷ []) ≡ Some (Length n)
by_length kind close digits n same is = rw (same, is) refl

framed : (n : ℕ) → n ≤ 16777216 → AllPass is_ascii_digit (decimal n) → framing_in (head_of (decimal n)) ≡ Some (Length n)
framed n few all =
    ap (λ (v : List ℕ). framing_of ((codes "Content-Type", trim_ows (codes " application/json")) ∷ (codes "Content-Length", v) ∷ (codes "Connection", trim_ows (codes " close")) ∷ []))
    (trimmed (decimal n) all)
    ∙ by_length (trim_ows (codes " application/json")) (trim_ows (codes " close")) (decimal n) n (same_bytes (decimal n)) (stated n few)

-- parts of a text that stand one behind another
regroup : (d a b c body : List ℕ) → d ++ (a ++ (b ++ (c ++ (body ++ [])))) ≡ (((d ++ a) ++ b) ++ c) ++ body
regroup d a b c body = simp (append_assoc, append-nil)

-- the bytes of the reply before its length, and behind it
abbrev front : List ℕ
front = codes "HTTP/1.1 200 OK" ++ (crlf_bytes ++ (codes "Content-Type: application/json" ++ (crlf_bytes ++ codes "Content-Length: ")))

abbrev close : List ℕ
close = codes "Connection: close" ++ crlf_bytes

-- the reply is its head and the answer
prints : (digits body : List ℕ)
    → joined (codes "HTTP/1.1 " ∷ codes "200" ∷ codes " " ∷ codes "OK" ∷ crlf_bytes ∷ codes "Content-Type: " ∷ codes "application/json" ∷ crlf_bytes ∷ []
    ∷ codes "Content-Length: " ∷ digits ∷ crlf_bytes ∷ codes "Connection: close" ∷ crlf_bytes ∷ crlf_bytes ∷ body ∷ [])
    ≡ print_response (head_of digits) ++ body
unfolding print_response
prints digits body =
    ap (λ (t : List ℕ). front ++ t)
    (regroup digits crlf_bytes close crlf_bytes body)

-- the status in the reply
two_hundred : decimal 200 ≡ codes "200"
two_hundred = sym (decimal-number_of (codes "200") 200 refl (omega arith))

sized : (digits : List ℕ) → length (print_response (head_of digits)) ≡ length front + length (((digits ++ crlf_bytes) ++ close) ++ crlf_bytes)
unfolding print_response
sized digits = length-append front (((digits ++ crlf_bytes) ++ close) ++ crlf_bytes)

short : (digits : List ℕ) → length digits ≤ 18 → length (print_response (head_of digits)) ≤ 16384
short digits few =
    let whole = sized digits in
    let one = length-append ((digits ++ crlf_bytes) ++ close) crlf_bytes in
    let two = length-append (digits ++ crlf_bytes) close in
    let three = length-append digits crlf_bytes in
    let before : length front ≡ 65 = refl in
    let behind : length close ≡ 19 = refl in
    let end : length crlf_bytes ≡ 2 = refl in
    omega (arith, whole, one, two, three, before, behind, end, few)

-- each line of the reply's head is a header line
field_of : (name raw : List ℕ) → 0 < length name → list_all is_token_byte name ≡ true → AllPass is_value_byte raw → IsField (record { name = name; raw = raw; end = crlf })
field_of name raw some token value = record { name = (some, passes is_token_byte name token); raw = value }

fields : (digits : List ℕ) → AllPass is_value_byte digits → All IsField (head_of digits).fields
unfolding httparse_on_literals
fields digits value =
    All-cons IsField kind_line (length_line digits ∷ close_line ∷ [])
    (field_of (codes "Content-Type") (codes " application/json") (omega arith) refl (passes is_value_byte (codes " application/json") refl))
    (All-cons IsField (length_line digits) (close_line ∷ [])
    (field_of (codes "Content-Length") (32 ∷ digits) (omega arith) refl (All-cons (λ b. IsTrue (is_value_byte b)) 32 digits refl value))
    (All-cons IsField close_line []
    (field_of (codes "Connection") (codes " close") (omega arith) refl (passes is_value_byte (codes " close") refl)) (All-nil IsField)))

valid : (digits : List ℕ) → AllPass is_value_byte digits → IsResponseHead (head_of digits)
valid digits value = record {
  minor = omega arith;
  digits = (refl, passes is_ascii_digit (codes "200") refl);
  reason = passes is_value_byte (codes "OK") refl;
  fields = fields digits value;
}

-- the digits of a number, for both tests
digits_pass : (n : ℕ) → n < 2 ^ 64 → AllPass is_ascii_digit (decimal n)
digits_pass n small = All-weaker (λ b. (48 ≤ b) × (b ≤ 57)) (λ b. IsTrue (is_ascii_digit b)) is_digit (decimal n) (decimal_bytes n small)

values_pass : (n : ℕ) → n < 2 ^ 64 → AllPass is_value_byte (decimal n)
values_pass n small = All-weaker (λ b. (48 ≤ b) × (b ≤ 57)) (λ b. IsTrue (is_value_byte b)) in_value (decimal n) (decimal_bytes n small)

reads : (text : List ℕ) → length text ≤ 16777216 → ReadsResponse (reply_text 200 Json (Some text)) (head_of (decimal (length text))) text
reads text few = (
  valid (decimal (length text)) (values_pass (length text) (omega arith)),
  ap (λ (d : List ℕ). joined (codes "HTTP/1.1 " ∷ d ∷ codes " " ∷ codes "OK" ∷ crlf_bytes ∷ codes "Content-Type: " ∷ codes "application/json" ∷ crlf_bytes ∷ []
      ∷ codes "Content-Length: " ∷ decimal (length text) ∷ crlf_bytes ∷ codes "Connection: close" ∷ crlf_bytes ∷ crlf_bytes ∷ text ∷ [])) two_hundred
      ∙ prints (decimal (length text)) text,
)

framing : (text : List ℕ) → length text ≤ 16777216 → framing_in (head_of (decimal (length text))) ≡ Some (Length (length text))
framing text few = framed (length text) few (digits_pass (length text) (omega arith))

-- the reply is a whole response
response : (text : List ℕ) → length text ≤ 16777216 → IsResponse (reply_text 200 Json (Some text)) (head_of (decimal (length text))) (of_length text)
response text few = record {
  rest = text;
  reads = reads text few;
  final = refl;
  framed = record {
    framed = λ ok. subst (λ (f : Option Framing). Frames f text (of_length text)) (sym (framing text few)) ([], sym (append-nil text), refl);
    none = λ other. absurd (other refl);
  };
}

-- of bytes that are framed so, the content is all
content_is : (text : List ℕ) (body : Body) → Frames (Some (Length (length text))) text body → content_of body ≡ Some text
content_is text absent frames = absurd frames
content_is text (in_chunks b) frames = absurd frames
content_is text (to_end content) frames = absurd frames
content_is text (of_length content) (rest, is, long) =
    let whole : length text ≡ length content + length rest = ap length is ∙ length-append content rest in
    let none : rest ≡ [] = nil_from_length rest (omega (arith, whole, long)) in
    ap Some (sym (is ∙ ap (λ (r : List ℕ). content ++ r) none ∙ append-nil content))

-- what is read is the answer
reply_back : (text : List ℕ) (reply : Reply) → length text ≤ 16777216 → IsReply (reply_text 200 Json (Some text)) reply → ReadsBack text (Ok reply)
reply_back text reply few a =
    let head = head_of (decimal (length text)) in
    let same = response_unique (reply_text 200 Json (Some text)) head a.0 text a.2.rest (reads text few) a.2.reads in
    let status : status_code a.0 ≡ 200 = ap status_code (sym same.0) in
    let here : Frames (framing_in head) a.2.rest a.1 = subst (λ (h : ResponseHead). Frames (framing_in h) a.2.rest a.1) (sym same.0) (a.2.framed.framed status) in
    let framed_here : Frames (Some (Length (length text))) a.2.rest a.1 = subst (λ (f : Option Framing). Frames f a.2.rest a.1) (framing text few) here in
    (a.5.status ∙ status, a.5.content ∙ content_is text a.1 (subst (λ (xs : List ℕ). Frames (Some (Length (length text))) xs a.1) (sym same.1) framed_here))

-- and no limit is passed
none_long : (text : List ℕ) (limit : ℕ) → length text ≤ 16777216 → PassesResponse limit (reply_text 200 Json (Some text)) → ⊥
none_long text limit few (inl (inl passes)) =
    let long = passes.1.1 (head_of (decimal (length text))) text (reads text few) in
    let digits : length (decimal (length text)) ≤ 18 = length-decimal-le 18 (length text) (omega arith) (omega arith) (omega arith) in
    let fits = short (decimal (length text)) digits in
    absurd (omega (arith, long, fits))
none_long text limit few (inl (inr passes)) =
    let many : 64 < 3 = passes.1.1 (head_of (decimal (length text))) text (reads text few) in
    absurd (omega arith)
none_long text limit few (inr (head, rest, read, ok, passes)) =
    let same = response_unique (reply_text 200 Json (Some text)) (head_of (decimal (length text))) head text rest (reads text few) read in
    let here : PassesBody (framing_in (head_of (decimal (length text)))) limit rest = subst (λ (h : ResponseHead). PassesBody (framing_in h) limit rest) (sym same.0) passes in
    let more : PassesBody (Some (Length (length text))) limit rest = subst (λ (f : Option Framing). PassesBody f limit rest) (framing text few) here in
    let over : 16777216 < length text = more.1 in
    absurd (omega arith)

-- the reply with an answer is read as it
pub answer_back : (text : List ℕ) (result : Result Reply WireFault) → length text ≤ 16777216 → AnswersResponse (reply_text 200 Json (Some text)) result → ReadsBack text result
answer_back text (Ok reply) few answers = reply_back text reply few answers
answer_back text (Err LinkFault) few answers = tt
answer_back text (Err Memory) few answers = tt
answer_back text (Err BadMessage) few answers = absurd (answers (head_of (decimal (length text))) (of_length text) (response text few))
answer_back text (Err (TooLong limit)) few answers = absurd (none_long text limit few answers)

-- a body in memory, and the whole response that brings it
body_kept : (heap : Global) (text : List ℕ) → length text ≤ 16777216 → Vec ℕ
body_kept heap text few = record { ptr = null_ptr; len = length text; cap = length text; alloc = heap; items = text; ok = (refl, omega arith); small = omega (arith, few) }

pub whole_reply : (heap : Global) (text : List ℕ) → length text ≤ 16777216
    → (reply : Reply) × IsReply (reply_text 200 Json (Some text)) reply × (reply.status ≡ 200) × (option_map (λ body. body.items) reply.body ≡ Some text)
unfolding body_kept
whole_reply heap text few =
    let digits : length (decimal (length text)) ≤ 18 = length-decimal-le 18 (length text) (omega arith) (omega arith) (omega arith) in (
      record { status = 200; body = Some (body_kept heap text few) },
      (
        head_of (decimal (length text)),
        of_length text,
        response text few,
        record { bytes = short (decimal (length text)) digits; lines = omega arith },
        few,
        record { status = refl; content = refl },
      ),
      refl,
      refl,
    )
