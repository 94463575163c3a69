-- What stands in a whole message, from its front on, and what steps through it read.
use Rattle.std.proofs.Common.{◌≡◌, ℕ, ◌+◌, ◌-◌, ◌≤◌, ◌<◌, Bool, true, false, List, [], ◌∷◌, ◌++◌, Option, Some, Result, Ok, Err, OnOk, IfOk, inl, inr, length, take, drop, refl, sym, ap, subst, ◌∙◌, append_assoc, append-nil, length-append, arith}
use Rattle.std.specs.List.{concat}
use Rattle.std.specs.Io.KnownBytes.{Consumes}
use Rattle.std.proofs.KnownBytes.{Consumes-trans}
use Rattle.std.proofs.lemmas.List.{append_cancel_left}
use Rattle.httparse.specs.Ascii.{crlf_bytes}
use Rattle.httparse.specs.Grammar.{ResponseHead, IsResponseHead, print_response, status_code, ChunkLine, IsChunkLine, print_chunk_line, chunk_size}
use Rattle.httparse.proofs.GrammarLemmas.{response_unique}
use Rattle.wire.specs.Bodies.{Chunk, print_chunk, IsLast, AreChunks, print_chunks, AreTrailers, print_trailers, PassesLine}
use Rattle.wire.specs.Parts.{HasOne, Takes}
use Rattle.wire.specs.Responses.{framing_in, PassesHead}
use Rattle.wire.specs.Sparing.{IsSparing, ReadsSparingly, GrewBy, OfRead, IsPulled, HoldsBody, HoldsResponse, HoldsBytes, HoldsChunk, HoldsChunks}
use Rattle.wire.specs.Steps.{SaysSize, SaysResponse, TakesBytes, TakesText, TakesChunk, TakesChunks}
use Rattle.wire.specs.declared.fault.WireFault.{WireFault}
use Rattle.wire.specs.declared.framing.Framing.{Framing}
use Rattle.wire.specs.declared.framing.Framing.TheVariants.{Chunked, ToEnd}
use Rattle.wire.specs.declared.response.Start.{Start}
use Rattle.wire.proofs.ChunkLaws.{same_front, line_first, behind_line, no_last, rest_of, chunked_parts, behind_last}
use Rattle.wire.proofs.SparingLaws.{were_as, were_none, were_then, seam, of_then, more_behind, sparing_as}
use Rattle.wire.proofs.StepLaws.{Took, positive, pulled, chunk_taken, chunks_more, chunks_ended}

-- ---- bytes

-- a list of no length is empty
empty_of : (xs : List ℕ) → length xs ≡ 0 → xs ≡ []
empty_of [] none = refl
empty_of (x ∷ xs) none = absurd (omega (arith, none))

-- what was read to the end of a text was pulled, where nothing had come
pub pulled_read : (feed text text_now : List ℕ) (left left_now : Option (List ℕ)) (most : ℕ) (a b : Option (List (List ℕ))) (result : Result ℕ WireFault) → length feed ≡ 0
    → OnOk result (GrewBy text text_now a b)
    → IfOk result (λ count. (piece : List ℕ) × Consumes left left_now piece × (text_now ≡ text ++ piece) × (length piece ≡ count) × (count ≤ most))
    → IfOk result (λ count. OfRead (λ all rest. IsPulled all rest text text_now count) feed feed a b)
pulled_read feed text text_now left left_now most a b (Err fault) none grew given = tt
pulled_read feed text text_now left left_now most a b (Ok count) none grew given =
    let empty : feed ≡ [] = empty_of feed none in
    were_as (λ more. text_now ≡ text ++ concat more) (λ more. IsPulled (Some (feed ++ concat more)) (Some feed) text text_now count) a b
    (λ more grown. (
      concat more,
      ap (λ (xs : List ℕ). xs ++ concat more) empty ∙ sym (append-nil (concat more)) ∙ ap (λ (xs : List ℕ). concat more ++ xs) (sym empty),
      grown,
      ap length (append_cancel_left text (concat more) given.0 (sym grown ∙ given.2)) ∙ given.3,
    )) grew

-- some of the bytes that came were pulled
pub pulled_came : (came seen taken text text_now : List ℕ) (a : Option (List (List ℕ))) (count : ℕ) → seen ≡ came → taken ≡ drop count came
    → text_now ≡ text ++ take count seen → count ≤ length seen → OfRead (λ all rest. IsPulled all rest text text_now count) came taken a a
pulled_came came seen taken text text_now a count is rest grown within =
    let some = pulled came seen taken text text_now (Some []) count count is rest grown within (omega arith) in
    were_none (λ more. IsPulled (Some (came ++ concat more)) (Some taken) text text_now count) a
    (some.0, some.1 ∙ ap (λ (xs : List ℕ). some.0 ++ xs) (append-nil taken), some.2, some.3)

-- some bytes and then others were pulled
pub pulled_then : (came feed late text mid now : List ℕ) (a b c : Option (List (List ℕ))) (m n count : ℕ) → count ≡ m + n
    → OfRead (λ all rest. IsPulled all rest text mid m) came feed a b → OfRead (λ all rest. IsPulled all rest mid now n) feed late b c
    → OfRead (λ all rest. IsPulled all rest text now count) came late a c
pulled_then came feed late text mid now a b c m n count sum one two =
    of_then (λ all rest. IsPulled all rest text mid m) (λ all rest. IsPulled all rest mid now n) (λ all rest. IsPulled all rest text now count) came feed late a b c
    (λ all rest more h. (h.0, more_behind h.0 all rest more h.1, h.2, h.3))
    (λ all behind x y. (
      x.0 ++ y.0,
      x.1 ∙ ap (λ (xs : List ℕ). x.0 ++ xs) y.1 ∙ sym (append_assoc x.0 y.0 late),
      y.2 ∙ ap (λ (xs : List ℕ). xs ++ y.0) x.2 ∙ append_assoc text x.0 y.0,
      omega (arith, length-append x.0 y.0, x.3, y.3, sum),
    )) one two

-- the same of what is told
pub told_then : (before mid now : Option (List ℕ)) (text text_mid text_now part piece : List ℕ) (left count pulled : ℕ) → Consumes before mid part → text_mid ≡ text ++ part
    → length part + left ≡ count → Consumes mid now piece → text_now ≡ text_mid ++ piece → length piece ≡ pulled → pulled ≤ left
    → (all : List ℕ) × Consumes before now all × (text_now ≡ text ++ all) × (length all + (left - pulled) ≡ count)
told_then before mid now text text_mid text_now part piece left count pulled taken is sum more grown long few = (
  part ++ piece,
  Consumes-trans before mid now part piece taken more,
  grown ∙ ap (λ (xs : List ℕ). xs ++ piece) is ∙ append_assoc text part piece,
  omega (arith, length-append part piece, sum, long, few),
)

-- all bytes that are wanted were pulled
pub pulled_all : (came feed text text_now : List ℕ) (a b : Option (List (List ℕ))) (count wanted : ℕ) → count ≡ wanted
    → OfRead (λ all rest. IsPulled all rest text text_now count) came feed a b
    → OfRead (λ all rest. TakesBytes wanted all rest text text_now (Ok tt)) came feed a b
pulled_all came feed text text_now a b count wanted same one =
    were_as (λ more. IsPulled (Some (came ++ concat more)) (Some feed) text text_now count)
    (λ more. TakesBytes wanted (Some (came ++ concat more)) (Some feed) text text_now (Ok tt)) a b (λ more h. (h.0, h.1, h.2, h.3 ∙ same)) one

-- where fewer bytes were taken than are wanted, one more is wanted
pub bytes_then : (wanted count : ℕ) (came feed text mid : List ℕ) (a b c : Option (List (List ℕ))) → count < wanted
    → ReadsSparingly (HoldsBytes wanted) came a b → OfRead (λ all rest. IsPulled all rest text mid count) came feed a b
    → ReadsSparingly (HoldsBytes 1) feed b c → ReadsSparingly (HoldsBytes wanted) came a c
bytes_then wanted count came feed text mid a b c few one took two =
    seam (HoldsBytes wanted) (HoldsBytes wanted) (HoldsBytes 1) came feed (λ all rest. IsPulled all rest text mid count) a b c (λ bytes whole. whole)
    (λ all h. (h.0, h.1, λ bytes whole. omega (arith, whole, length-append h.0 bytes, h.3, few))) one took two

-- what only the end of the connection ends is never whole
never_whole : (came : List ℕ) (more : List (List ℕ)) → IsSparing (HoldsBody (Some ToEnd)) came more
never_whole came [] = tt
never_whole came (piece ∷ more) = (λ whole. whole, never_whole (came ++ piece) more)

-- what is told to be taken grew
pub told_more : (before mid now : Option (List ℕ)) (text text_now piece : List ℕ) → Consumes before mid text → Consumes mid now piece → text_now ≡ text ++ piece
    → Consumes before now text_now
told_more before mid now text text_now piece taken more grown = subst (Consumes before now) (sym grown) (Consumes-trans before mid now text piece taken more)

-- to the end of the connection every read is wanted
pub rest_then : (came feed : List ℕ) (a b c : Option (List (List ℕ))) → ReadsSparingly (HoldsBody (Some ToEnd)) came a b → ReadsSparingly (HoldsBytes 1) feed b c
    → ReadsSparingly (HoldsBody (Some ToEnd)) came a c
rest_then came feed a b c one two =
    were_then (IsSparing (HoldsBody (Some ToEnd)) came) (IsSparing (HoldsBytes 1) feed) (IsSparing (HoldsBody (Some ToEnd)) came) a b c
    (λ more others x y. never_whole came (more ++ others)) one two

-- ---- a chunk

-- a chunk begins with its line
chunk_has_line : (bytes : List ℕ) → HoldsChunk bytes → HasOne IsChunkLine print_chunk_line bytes
chunk_has_line bytes (inl one) = (one.0.line, one.0.content ++ (crlf_bytes ++ one.1), line_first bytes one.0 one.1 one.2)
chunk_has_line bytes (inr one) = (one.0, one.1, (one.2.0.0, one.2.1))

-- behind its line stands its content
chunk_has_content : (line : ChunkLine) (bytes : List ℕ) → IsChunkLine line → 0 < chunk_size line → HoldsChunk (print_chunk_line line ++ bytes)
    → chunk_size line ≤ length bytes
chunk_has_content line bytes is some (inl one) =
    let same = behind_line (print_chunk_line line ++ bytes) line bytes one.0 one.1 (is, refl) one.2 in
    let all : length bytes ≡ length (one.0.content ++ (crlf_bytes ++ one.1)) = ap length same.1 in
    let size : length one.0.content ≡ chunk_size line = one.2.0.size ∙ ap chunk_size (sym same.0) in
    omega (arith, all, size, length-append one.0.content (crlf_bytes ++ one.1))
chunk_has_content line bytes is some (inr one) =
    absurd (no_last (print_chunk_line line ++ bytes) line bytes (is, refl) some one.0 one.1 one.2)

-- behind its content stands the end of a line
chunk_has_end : (line : ChunkLine) (content bytes : List ℕ) → IsChunkLine line → 0 < chunk_size line → length content ≡ chunk_size line
    → HoldsChunk ((print_chunk_line line ++ content) ++ bytes) → 2 ≤ length bytes
chunk_has_end line content bytes is some long (inl one) =
    let same = behind_line ((print_chunk_line line ++ content) ++ bytes) line (content ++ bytes) one.0 one.1 (is, append_assoc (print_chunk_line line) content bytes) one.2 in
    let sizes : length content ≡ length one.0.content = long ∙ ap chunk_size same.0 ∙ sym one.2.0.size in
    let end : bytes ≡ crlf_bytes ++ one.1 = (same_front content one.0.content bytes (crlf_bytes ++ one.1) same.1 sizes).1 in
    omega (arith, ap length end, length-append crlf_bytes one.1)
chunk_has_end line content bytes is some long (inr one) =
    absurd (no_last ((print_chunk_line line ++ content) ++ bytes) line (content ++ bytes) (is, append_assoc (print_chunk_line line) content bytes) some one.0 one.1 one.2)

-- the line of a chunk alone
pub line_only : (came : List ℕ) (a b : Option (List (List ℕ))) → ReadsSparingly (HasOne IsChunkLine print_chunk_line) came a b → ReadsSparingly HoldsChunk came a b
line_only came a b one = sparing_as HoldsChunk (HasOne IsChunkLine print_chunk_line) came a b chunk_has_line one

-- the line of the last chunk was taken
pub last_taken : (size : ℕ) (came feed body body_now : List ℕ) (a b : Option (List (List ℕ))) → size ≡ 0 → body_now ≡ body
    → OfRead (λ all rest. Takes IsChunkLine print_chunk_line SaysSize PassesLine all rest (Ok size)) came feed a b
    → OfRead (λ all rest. TakesChunk all rest body body_now (Ok false)) came feed a b
last_taken size came feed body body_now a b none same took =
    were_as (λ more. Takes IsChunkLine print_chunk_line SaysSize PassesLine (Some (came ++ concat more)) (Some feed) (Ok size))
    (λ more. TakesChunk (Some (came ++ concat more)) (Some feed) body body_now (Ok false)) a b
    (λ more line. (line.0, (line.2, sym line.1.is ∙ none), line.1.short, line.3, same)) took

-- what the line of a chunk and then its content take
abbrev pub TakesContent : ℕ → List ℕ → List ℕ → Option (List ℕ) → Option (List ℕ) → Type 0
TakesContent size body body_now all rest =
    (mid : List ℕ) × Takes IsChunkLine print_chunk_line SaysSize PassesLine all (Some mid) (Ok size) × TakesBytes size (Some mid) rest body body_now (Ok tt)

-- the line of a chunk and then its content
pub content_then : (size : ℕ) (came feed : List ℕ) (a b c : Option (List (List ℕ))) → (size ≡ 0 → ⊥)
    → ReadsSparingly (HasOne IsChunkLine print_chunk_line) came a b
    → OfRead (λ all rest. Takes IsChunkLine print_chunk_line SaysSize PassesLine all rest (Ok size)) came feed a b
    → ReadsSparingly (HoldsBytes size) feed b c → ReadsSparingly HoldsChunk came a c
content_then size came feed a b c some one took two =
    seam HoldsChunk (HasOne IsChunkLine print_chunk_line) (HoldsBytes size) came feed
    (λ all rest. Takes IsChunkLine print_chunk_line SaysSize PassesLine all rest (Ok size)) a b c chunk_has_line
    (λ all line. (
      print_chunk_line line.0,
      line.3,
      λ bytes whole.
          let is : size ≡ chunk_size line.0 = line.1.is in
          let enough : chunk_size line.0 ≤ length bytes =
          chunk_has_content line.0 bytes line.2 (positive (chunk_size line.0) (λ zero. some (is ∙ zero))) whole in
          omega (arith, enough, is),
    )) one took two

-- the line of a chunk and its content were taken
pub content_taken : (size : ℕ) (came feed behind body body_now : List ℕ) (a b c : Option (List (List ℕ)))
    → OfRead (λ all rest. Takes IsChunkLine print_chunk_line SaysSize PassesLine all rest (Ok size)) came feed a b
    → OfRead (λ all rest. TakesBytes size all rest body body_now (Ok tt)) feed behind b c → OfRead (TakesContent size body body_now) came behind a c
content_taken size came feed behind body body_now a b c one two =
    of_then (λ all rest. Takes IsChunkLine print_chunk_line SaysSize PassesLine all rest (Ok size)) (λ all rest. TakesBytes size all rest body body_now (Ok tt))
    (TakesContent size body body_now) came feed behind a b c
    (λ all rest more line. (line.0, line.1, line.2, more_behind (print_chunk_line line.0) all rest more line.3))
    (λ all mid x y. (mid, x, y)) one two

-- and then the end of a line
pub end_then : (size : ℕ) (came behind body body_now : List ℕ) (a c d : Option (List (List ℕ))) → (size ≡ 0 → ⊥)
    → ReadsSparingly HoldsChunk came a c → OfRead (TakesContent size body body_now) came behind a c
    → ReadsSparingly (HoldsBytes 2) behind c d → ReadsSparingly HoldsChunk came a d
end_then size came behind body body_now a c d some one took two =
    seam HoldsChunk HoldsChunk (HoldsBytes 2) came behind (TakesContent size body body_now) a c d (λ bytes whole. whole)
    (λ all h.
    let line = h.1 in
    let cut = h.2 in
    let is : size ≡ chunk_size line.0 = line.1.is in (
      print_chunk_line line.0 ++ cut.0,
      line.3 ∙ ap (λ (xs : List ℕ). print_chunk_line line.0 ++ xs) cut.1 ∙ sym (append_assoc (print_chunk_line line.0) cut.0 behind),
      λ bytes whole. chunk_has_end line.0 cut.0 bytes line.2 (positive (chunk_size line.0) (λ zero. some (is ∙ zero))) (cut.3 ∙ is) whole,
    )) one took two

-- a whole chunk was taken
pub all_taken : (size : ℕ) (came behind late body body_now : List ℕ) (a c d : Option (List (List ℕ))) → (size ≡ 0 → ⊥) → length body + size ≤ 16777216
    → OfRead (TakesContent size body body_now) came behind a c → OfRead (λ all rest. TakesText crlf_bytes all rest (Ok tt)) behind late c d
    → OfRead (λ all rest. TakesChunk all rest body body_now (Ok true)) came late a d
all_taken size came behind late body body_now a c d some few one two =
    of_then (TakesContent size body body_now) (λ all rest. TakesText crlf_bytes all rest (Ok tt)) (λ all rest. TakesChunk all rest body body_now (Ok true)) came behind late a c d
    (λ all rest more h. (
      h.0 ++ more,
      (h.1.0, h.1.1, h.1.2, more_behind (print_chunk_line h.1.0) all h.0 more h.1.3),
      (h.2.0, more_behind h.2.0 h.0 rest more h.2.1, h.2.2, h.2.3),
    ))
    (λ all mid h end. chunk_taken (Some all) (Some h.0) (Some mid) (Some late) size size body body_now h.1 some refl few h.2 end) one two

-- ---- chunks

-- some chunks and a last line begin with a chunk or the last line
first_of : (others : List Chunk) (mid : List ℕ) (last : ChunkLine) (behind : List ℕ) → AreChunks others → IsLast last
    → mid ≡ print_chunks others ++ (print_chunk_line last ++ behind) → HoldsChunk mid
first_of [] mid last behind are ends is = inr (last, behind, (ends, is))
first_of (c ∷ others) mid last behind are ends is =
    inl (c, print_chunks others ++ (print_chunk_line last ++ behind), (are.0, is ∙ append_assoc (print_chunk c) (print_chunks others) (print_chunk_line last ++ behind)))

-- behind some chunks and not yet the last line stands a chunk or the last line
chunks_have_next : (chunks : List Chunk) (bytes : List ℕ) → AreChunks chunks → HoldsChunks (print_chunks chunks ++ bytes) → HoldsChunk bytes
chunks_have_next chunks bytes are whole =
    let over = rest_of chunks whole.0 bytes whole.1 whole.2 are whole.3 whole.4 whole.5 in
    first_of over.others bytes whole.1 whole.2 over.are whole.4 over.prints

-- chunks that were taken of bytes were taken of more
took_more : (body all rest more : List ℕ) → Took (Some all) (Some rest) body → Took (Some (all ++ more)) (Some (rest ++ more)) body
took_more body all rest more took =
    record { chunks = took.chunks; are = took.are; short = took.short; content = took.content; taken = more_behind (print_chunks took.chunks) all rest more took.taken }

-- one chunk more was taken
pub took_then : (came feed late body body_now : List ℕ) (a b c : Option (List (List ℕ))) (more : Bool) → more ≡ true
    → OfRead (λ all rest. Took all rest body) came feed a b → OfRead (λ all rest. TakesChunk all rest body body_now (Ok more)) feed late b c
    → OfRead (λ all rest. Took all rest body_now) came late a c
took_then came feed late body body_now a b c more is one two =
    of_then (λ all rest. Took all rest body) (λ all rest. TakesChunk all rest body body_now (Ok more)) (λ all rest. Took all rest body_now) came feed late a b c
    (took_more body) (λ all mid x y. chunks_more (Some all) (Some mid) (Some late) body body_now more x y is) one two

-- all chunks were taken, and the last line
pub took_last : (came feed late body body_now : List ℕ) (a b c : Option (List (List ℕ))) (more : Bool) → more ≡ false → length body ≤ 16777216
    → OfRead (λ all rest. Took all rest body) came feed a b → OfRead (λ all rest. TakesChunk all rest body body_now (Ok more)) feed late b c
    → OfRead (λ all rest. TakesChunks all rest body_now (Ok tt)) came late a c
took_last came feed late body body_now a b c more is few one two =
    of_then (λ all rest. Took all rest body) (λ all rest. TakesChunk all rest body body_now (Ok more)) (λ all rest. TakesChunks all rest body_now (Ok tt)) came feed late a b c
    (took_more body) (λ all mid x y. chunks_ended (Some all) (Some mid) (Some late) body body_now more x y is few) one two

-- some chunks and then one more
pub chunks_then : (came feed body : List ℕ) (a b c : Option (List (List ℕ))) → ReadsSparingly HoldsChunks came a b → OfRead (λ all rest. Took all rest body) came feed a b
    → ReadsSparingly HoldsChunk feed b c → ReadsSparingly HoldsChunks came a c
chunks_then came feed body a b c one took two =
    seam HoldsChunks HoldsChunks HoldsChunk came feed (λ all rest. Took all rest body) a b c (λ bytes whole. whole)
    (λ all h. (print_chunks h.chunks, h.taken, λ bytes whole. chunks_have_next h.chunks bytes h.are whole)) one took two

-- a body in chunks begins with all its chunks and the last line
body_has_chunks : (bytes : List ℕ) → HoldsBody (Some Chunked) bytes → HoldsChunks bytes
body_has_chunks bytes one =
    (one.0.chunks, one.0.last, print_trailers one.0.trailers ++ one.1, one.2.0.chunks, one.2.0.last, chunked_parts bytes one.0 one.1 one.2)

-- behind them stand the trailer lines
body_has_trailers : (chunks : List Chunk) (last : ChunkLine) (bytes : List ℕ) → AreChunks chunks → IsLast last
    → HoldsBody (Some Chunked) ((print_chunks chunks ++ print_chunk_line last) ++ bytes) → HasOne AreTrailers print_trailers bytes
body_has_trailers chunks last bytes are ends one =
    let same = behind_last ((print_chunks chunks ++ print_chunk_line last) ++ bytes) chunks last bytes one.0 one.1 are ends
    (append_assoc (print_chunks chunks) (print_chunk_line last) bytes) one.2 in
    (one.0.trailers, one.1, (one.2.0.trailers, same.2))

-- the chunks alone
pub chunks_only : (came : List ℕ) (a b : Option (List (List ℕ))) → ReadsSparingly HoldsChunks came a b → ReadsSparingly (HoldsBody (Some Chunked)) came a b
chunks_only came a b one = sparing_as (HoldsBody (Some Chunked)) HoldsChunks came a b body_has_chunks one

-- the chunks and then the trailer lines
pub trailers_then : (came feed body : List ℕ) (a b c : Option (List (List ℕ))) → ReadsSparingly HoldsChunks came a b
    → OfRead (λ all rest. TakesChunks all rest body (Ok tt)) came feed a b → ReadsSparingly (HasOne AreTrailers print_trailers) feed b c
    → ReadsSparingly (HoldsBody (Some Chunked)) came a c
trailers_then came feed body a b c one took two =
    seam (HoldsBody (Some Chunked)) HoldsChunks (HasOne AreTrailers print_trailers) came feed (λ all rest. TakesChunks all rest body (Ok tt)) a b c body_has_chunks
    (λ all h. (print_chunks h.0 ++ print_chunk_line h.1, h.8, λ bytes whole. body_has_trailers h.0 h.1 bytes h.2 h.3 whole)) one took two

-- ---- a response

-- a response begins with its head
response_has_head : (bytes : List ℕ) → HoldsResponse bytes → HasOne IsResponseHead print_response bytes
response_has_head bytes whole = (whole.0, whole.1, whole.2)

-- behind the head of a response with status 200 stands its body
response_has_body : (head : ResponseHead) (framing : Framing) (bytes : List ℕ) → IsResponseHead head → status_code head ≡ 200 → framing_in head ≡ Some framing
    → HoldsResponse (print_response head ++ bytes) → HoldsBody (Some framing) bytes
response_has_body head framing bytes is status by whole =
    let same = response_unique (print_response head ++ bytes) whole.0 head whole.1 bytes whole.2 (is, refl) in
    let body : HoldsBody (framing_in whole.0) whole.1 = whole.3 (ap status_code same.0 ∙ status) in
    subst (λ (xs : List ℕ). HoldsBody (Some framing) xs) same.1 (subst (λ f. HoldsBody f whole.1) (ap framing_in same.0 ∙ by) body)

-- the head alone
pub head_only : (came : List ℕ) (a b : Option (List (List ℕ))) → ReadsSparingly (HasOne IsResponseHead print_response) came a b → ReadsSparingly HoldsResponse came a b
head_only came a b one = sparing_as HoldsResponse (HasOne IsResponseHead print_response) came a b response_has_head one

-- the head and then the body
pub body_then : (start : Start) (framing : Framing) (came feed : List ℕ) (a b c : Option (List (List ℕ))) → start.status ≡ 200 → start.framing ≡ Some framing
    → ReadsSparingly (HasOne IsResponseHead print_response) came a b
    → OfRead (λ all rest. Takes IsResponseHead print_response SaysResponse PassesHead all rest (Ok start)) came feed a b
    → ReadsSparingly (HoldsBody (Some framing)) feed b c → ReadsSparingly HoldsResponse came a c
body_then start framing came feed a b c status framed one took two =
    seam HoldsResponse (HasOne IsResponseHead print_response) (HoldsBody (Some framing)) came feed
    (λ all rest. Takes IsResponseHead print_response SaysResponse PassesHead all rest (Ok start)) a b c response_has_head
    (λ all h. (
      print_response h.0,
      h.3,
      λ bytes whole. response_has_body h.0 framing bytes h.2 (sym h.1.status ∙ status) (sym h.1.framing ∙ framed) whole,
    )) one took two
