-- What the steps through a body take, one behind another.
use Rattle.std.proofs.Common.{◌≡◌, ℕ, zero, suc, ◌+◌, ◌≤◌, ◌<◌, Bool, true, false, List, [], ◌∷◌, ◌++◌, Option, Some, None, IfSome, Ok, Err, inl, inr, length, take, drop, refl, sym, ap, subst, ◌∙◌, append_assoc, length-append, arith}
use Rattle.std.specs.Io.KnownBytes.{Consumes, IsAtEnd}
use Rattle.std.proofs.KnownBytes.{Consumes-trans}
use Rattle.std.proofs.lemmas.List.{length-take-le}
use Rattle.httparse.specs.Ascii.{crlf_bytes}
use Rattle.httparse.specs.Grammar.{IsChunkLine, print_chunk_line, chunk_size}
use Rattle.wire.specs.Bodies.{Chunk, IsChunk, print_chunk, IsLast, AreChunks, print_chunks, contents, HaveShortLines, ChunkedBody, IsChunkedBody, print_chunked, Trailers, AreTrailers, print_trailers, PassesChunk, PassesChunks, PassesTrailers, PassesLine, Body, absent, in_chunks, of_length, to_end, Frames}
use Rattle.wire.specs.Parts.{HasNone, Takes}
use Rattle.wire.specs.Steps.{SaysSize, SaysNothing, TakesBytes, TakesText, TakesChunk, TakesChunks, AnswersBody}
use Rattle.wire.specs.LinkTold.{told}
use Rattle.wire.specs.declared.fault.WireFault.{WireFault}
use Rattle.wire.specs.declared.fault.WireFault.TheVariants.{LinkFault, BadMessage, TooLong, Memory}
use Rattle.wire.specs.declared.framing.Framing.TheVariants.{Chunked, Length, ToEnd}
use Rattle.wire.proofs.ChunkLaws.{no_content, no_end, no_last, no_body, behind_last, are_more, short_more, contents_more, prints_more}
use Rattle.wire.proofs.ToldLaws.{after_piece, at_end, take_count}

-- some of the bytes that came were pulled
pub pulled : (came seen taken text text_now : List ℕ) (left : Option (List ℕ)) (count most : ℕ) → seen ≡ came → taken ≡ drop count came
    → text_now ≡ text ++ take count seen → count ≤ length seen → count ≤ most
    → (piece : List ℕ) × Consumes (told came left) (told taken left) piece × (text_now ≡ text ++ piece) × (length piece ≡ count) × (count ≤ most)
pulled came seen taken text text_now left count most is rest grown within few = (
  take count came,
  subst (λ (xs : List ℕ). Consumes (told came left) (told xs left) (take count came)) (sym rest) (take_count came left count),
  grown ∙ ap (λ (xs : List ℕ). text ++ take count xs) is,
  length-take-le count came (subst (λ (xs : List ℕ). count ≤ length xs) is within),
  few,
)

-- what isn't 0 is more
pub positive : (n : ℕ) → (n ≡ 0 → ⊥) → 0 < n
positive zero not_so = absurd (not_so refl)
positive (suc n) not_so = omega arith

-- the bytes of a chunk weren't taken
pub chunk_cut : (before mid now : Option (List ℕ)) (size count : ℕ) (body body_mid body_now : List ℕ) (fault : WireFault)
    → Takes IsChunkLine print_chunk_line SaysSize PassesLine before mid (Ok size) → (size ≡ 0 → ⊥) → count ≡ size
    → TakesBytes count mid now body_mid body_now (Err fault) → TakesChunk before now body body_now (Err fault)
chunk_cut before mid now size count body body_mid body_now LinkFault line some same cut = tt
chunk_cut before mid now size count body body_mid body_now BadMessage line some same cut =
    let is : size ≡ chunk_size line.0 = line.1.is in
    after_piece before mid (print_chunk_line line.0) (λ bytes. (piece rest : List ℕ) → bytes ≡ piece ++ rest → length piece ≡ count → ⊥)
    (λ bytes. HasNone IsChunk print_chunk bytes × HasNone IsLast print_chunk_line bytes) line.3 cut
    (λ bytes behind whole none. (
      no_content bytes line.0 behind (line.2, whole) (λ piece rest front long. none piece rest front (omega (arith, long, is, same))),
      no_last bytes line.0 behind (line.2, whole) (positive (chunk_size line.0) (λ zero. some (is ∙ zero))),
    ))
chunk_cut before mid now size count body body_mid body_now (TooLong limit) line some same cut = absurd cut
chunk_cut before mid now size count body body_mid body_now Memory line some same cut = tt

-- the end of a chunk's content wasn't there
pub chunk_open : (before mid late now : Option (List ℕ)) (size count : ℕ) (body body_mid body_now : List ℕ) (fault : WireFault)
    → Takes IsChunkLine print_chunk_line SaysSize PassesLine before mid (Ok size) → (size ≡ 0 → ⊥) → count ≡ size
    → TakesBytes count mid late body_mid body_now (Ok tt) → TakesText crlf_bytes late now (Err fault) → TakesChunk before now body body_now (Err fault)
chunk_open before mid late now size count body body_mid body_now LinkFault line some same cut end = tt
chunk_open before mid late now size count body body_mid body_now BadMessage line some same cut end =
    let is : size ≡ chunk_size line.0 = line.1.is in
    let long : length cut.0 ≡ chunk_size line.0 = cut.3 ∙ same ∙ is in
    after_piece before late (print_chunk_line line.0 ++ cut.0) (λ bytes. (rest : List ℕ) → bytes ≡ crlf_bytes ++ rest → ⊥)
    (λ bytes. HasNone IsChunk print_chunk bytes × HasNone IsLast print_chunk_line bytes) (Consumes-trans before mid late (print_chunk_line line.0) cut.0 line.3 cut.1) end
    (λ bytes behind whole none.
    let parts : bytes ≡ print_chunk_line line.0 ++ (cut.0 ++ behind) = whole ∙ append_assoc (print_chunk_line line.0) cut.0 behind in (
      no_end bytes line.0 cut.0 behind (line.2, parts) long none,
      no_last bytes line.0 (cut.0 ++ behind) (line.2, parts) (positive (chunk_size line.0) (λ zero. some (is ∙ zero))),
    ))
chunk_open before mid late now size count body body_mid body_now (TooLong limit) line some same cut end = absurd end
chunk_open before mid late now size count body body_mid body_now Memory line some same cut end = tt

-- a chunk was taken
pub chunk_taken : (before mid late now : Option (List ℕ)) (size count : ℕ) (body body_now : List ℕ)
    → Takes IsChunkLine print_chunk_line SaysSize PassesLine before mid (Ok size) → (size ≡ 0 → ⊥) → count ≡ size → length body + size ≤ 16777216
    → TakesBytes count mid late body body_now (Ok tt) → TakesText crlf_bytes late now (Ok tt) → TakesChunk before now body body_now (Ok true)
chunk_taken before mid late now size count body body_now line some same few cut end =
    let is : size ≡ chunk_size line.0 = line.1.is in
    let c : Chunk = record { line = line.0; content = cut.0 } in (
      c,
      record { line = line.2; size = cut.3 ∙ same ∙ is; some = positive (length cut.0) (λ zero. some (sym same ∙ sym cut.3 ∙ zero)) },
      line.1.short,
      Consumes-trans before mid now (print_chunk_line line.0) (cut.0 ++ crlf_bytes) line.3 (Consumes-trans mid late now cut.0 crlf_bytes cut.1 end),
      cut.2,
      omega (arith, ap length cut.2, length-append body cut.0, cut.3, same, few),
    )

-- some chunks were taken
pub record Took (before now : Option (List ℕ)) (body : List ℕ) : Type 0 where
  pub chunks : List Chunk
  pub are : AreChunks chunks
  pub short : HaveShortLines chunks
  pub content : body ≡ contents chunks
  pub taken : Consumes before now (print_chunks chunks)

-- behind some chunks none was taken
pub chunks_cut : (before mid now : Option (List ℕ)) (body body_now : List ℕ) (fault : WireFault) → Took before mid body → TakesChunk mid now body body_now (Err fault)
    → TakesChunks before now body_now (Err fault)
chunks_cut before mid now body body_now LinkFault took cut = tt
chunks_cut before mid now body body_now BadMessage took cut =
    after_piece before mid (print_chunks took.chunks) (λ bytes. HasNone IsChunk print_chunk bytes × HasNone IsLast print_chunk_line bytes)
    (HasNone IsChunkedBody print_chunked) took.taken cut
    (λ bytes rest whole none. no_body bytes took.chunks rest took.are whole none.0 none.1)
chunks_cut before mid now body body_now (TooLong limit) took cut =
    after_piece before mid (print_chunks took.chunks) (PassesChunk limit body) (PassesChunks limit) took.taken cut
    (λ bytes rest whole passes. (took.chunks, rest, (took.are, whole), inl (subst (λ (xs : List ℕ). PassesChunk limit xs rest) took.content passes)))
chunks_cut before mid now body body_now Memory took cut = tt

-- one chunk more was taken
pub chunks_more : (before mid now : Option (List ℕ)) (body body_now : List ℕ) (more : Bool) → Took before mid body → TakesChunk mid now body body_now (Ok more) → more ≡ true
    → Took before now body_now
chunks_more before mid now body body_now true took cut is =
    let c = cut.0 in
    record {
      chunks = took.chunks ++ c ∷ [];
      are = are_more took.chunks c took.are cut.1;
      short = short_more took.chunks c took.short cut.2;
      content = cut.4 ∙ ap (λ (xs : List ℕ). xs ++ c.content) took.content ∙ sym (contents_more took.chunks c);
      taken = subst (Consumes before now) (sym (prints_more took.chunks c)) (Consumes-trans before mid now (print_chunks took.chunks) (print_chunk c) took.taken cut.3);
    }
chunks_more before mid now body body_now false took cut is = absurd cc

-- how long the body is by then, and that it grew
pub body_grew : (before now : Option (List ℕ)) (body body_now : List ℕ) (more : Bool) → TakesChunk before now body body_now (Ok more) → more ≡ true
    → (length body < length body_now) × (length body_now ≤ 16777216)
body_grew before now body body_now true cut is = let some = cut.1.some in (omega (arith, ap length cut.4, length-append body cut.0.content, some), cut.5)
body_grew before now body body_now false cut is = absurd cc

-- all chunks were taken, and the last line
pub chunks_ended : (before mid now : Option (List ℕ)) (body body_now : List ℕ) (more : Bool) → Took before mid body → TakesChunk mid now body body_now (Ok more) → more ≡ false
    → length body ≤ 16777216 → TakesChunks before now body_now (Ok tt)
chunks_ended before mid now body body_now true took cut is few = absurd cc
chunks_ended before mid now body body_now false took cut is few = (
  took.chunks,
  cut.0,
  took.are,
  cut.1,
  took.short,
  cut.2,
  cut.4 ∙ took.content,
  omega (arith, ap length cut.4, few),
  Consumes-trans before mid now (print_chunks took.chunks) (print_chunk_line cut.0) took.taken cut.3,
)

-- where no body in chunks stands none is framed
no_chunks : (bytes : List ℕ) → HasNone IsChunkedBody print_chunked bytes → (b : Body) → Frames (Some Chunked) bytes b → ⊥
no_chunks bytes none absent framed = framed
no_chunks bytes none (in_chunks b) framed = none b framed.0 framed.1
no_chunks bytes none (of_length content) framed = framed
no_chunks bytes none (to_end content) framed = framed

-- where no body of the length stands none is framed
no_length : (bytes : List ℕ) (count : ℕ) → ((piece rest : List ℕ) → bytes ≡ piece ++ rest → length piece ≡ count → ⊥)
    → (b : Body) → Frames (Some (Length count)) bytes b → ⊥
no_length bytes count none absent framed = framed
no_length bytes count none (in_chunks b) framed = framed
no_length bytes count none (of_length content) framed = none content framed.0 framed.1 framed.2
no_length bytes count none (to_end content) framed = framed

-- the chunks weren't taken
pub chunked_cut : (before now : Option (List ℕ)) (body : List ℕ) (fault : WireFault) → TakesChunks before now body (Err fault)
    → IfSome before (λ bytes. AnswersBody Chunked bytes body (Err fault))
chunked_cut None now body fault cut = tt
chunked_cut (Some bytes) now body LinkFault cut = tt
chunked_cut (Some bytes) now body BadMessage cut = no_chunks bytes cut
chunked_cut (Some bytes) now body (TooLong limit) cut = cut
chunked_cut (Some bytes) now body Memory cut = tt

-- the trailer lines weren't taken
pub trailers_cut : (before mid now : Option (List ℕ)) (body : List ℕ) (fault : WireFault) → TakesChunks before mid body (Ok tt)
    → Takes {A = Trailers} {T = Unit {0}} AreTrailers print_trailers SaysNothing PassesTrailers mid now (Err fault) → IfSome before (λ bytes. AnswersBody Chunked bytes body (Err fault))
trailers_cut None mid now body fault took cut = tt
trailers_cut (Some bytes) None now body fault took cut = absurd took.8
trailers_cut (Some bytes) (Some behind) now body LinkFault took cut = tt
trailers_cut (Some bytes) (Some behind) now body BadMessage took cut =
    let whole : bytes ≡ print_chunks took.0 ++ (print_chunk_line took.1 ++ behind) = took.8 ∙ append_assoc (print_chunks took.0) (print_chunk_line took.1) behind in
    no_chunks bytes (λ b rest reads. cut b.trailers rest (reads.0.trailers, (behind_last bytes took.0 took.1 behind b rest took.2 took.3 whole reads).2))
trailers_cut (Some bytes) (Some behind) now body (TooLong limit) took cut =
    let whole : bytes ≡ print_chunks took.0 ++ (print_chunk_line took.1 ++ behind) = took.8 ∙ append_assoc (print_chunks took.0) (print_chunk_line took.1) behind in
    (took.0, print_chunk_line took.1 ++ behind, (took.2, whole), inr (took.1, behind, (took.3, refl), cut))
trailers_cut (Some bytes) (Some behind) now body Memory took cut = tt

-- a body in chunks was taken
pub chunked_taken : (before mid now : Option (List ℕ)) (body : List ℕ) → TakesChunks before mid body (Ok tt)
    → Takes AreTrailers print_trailers SaysNothing PassesTrailers mid now (Ok tt) → IfSome before (λ bytes. AnswersBody Chunked bytes body (Ok tt))
chunked_taken None mid now body took rest = tt
chunked_taken (Some bytes) None now body took rest = absurd took.8
chunked_taken (Some bytes) (Some behind) None body took rest = absurd rest.3
chunked_taken (Some bytes) (Some behind) (Some left) body took rest =
    let b : ChunkedBody = record { chunks = took.0; last = took.1; trailers = rest.0 } in
    let all : bytes ≡ print_chunked b ++ left =
    took.8 ∙ ap (λ (xs : List ℕ). (print_chunks took.0 ++ print_chunk_line took.1) ++ xs) rest.3
    ∙ sym (append_assoc (print_chunks took.0 ++ print_chunk_line took.1) (print_trailers rest.0) left)
    ∙ ap (λ (xs : List ℕ). xs ++ left) (append_assoc (print_chunks took.0) (print_chunk_line took.1) (print_trailers rest.0)) in (
      in_chunks b,
      (left, (record { chunks = took.2; last = took.3; trailers = rest.2 }, all)),
      record { lines = took.4; last = took.5; content = omega (arith, ap length took.6, took.7); trailers = rest.1 },
      ap Some (sym took.6),
    )

-- the bytes of a stated length weren't taken
pub counted_cut : (before now : Option (List ℕ)) (count : ℕ) (body body_now : List ℕ) (fault : WireFault) → TakesBytes count before now body body_now (Err fault)
    → IfSome before (λ bytes. AnswersBody (Length count) bytes body_now (Err fault))
counted_cut None now count body body_now fault cut = tt
counted_cut (Some bytes) now count body body_now LinkFault cut = tt
counted_cut (Some bytes) now count body body_now BadMessage cut = no_length bytes count cut
counted_cut (Some bytes) now count body body_now (TooLong limit) cut = absurd cut
counted_cut (Some bytes) now count body body_now Memory cut = tt

-- a body of a stated length was taken
pub counted_taken : (before now : Option (List ℕ)) (count : ℕ) (body body_now : List ℕ) → body ≡ [] → count ≤ 16777216
    → TakesBytes count before now body body_now (Ok tt) → IfSome before (λ bytes. AnswersBody (Length count) bytes body_now (Ok tt))
counted_taken None now count body body_now none few cut = tt
counted_taken (Some bytes) None count body body_now none few cut = absurd cut.1
counted_taken (Some bytes) (Some rest) count body body_now none few cut = (
  of_length cut.0,
  (rest, cut.1, cut.3),
  omega (arith, cut.3, few),
  ap Some (sym (cut.2 ∙ ap (λ (xs : List ℕ). xs ++ cut.0) none)),
)

-- a body was taken up to the end
pub rest_taken : (before now : Option (List ℕ)) (body : List ℕ) → Consumes before now body → IsAtEnd now → length body ≤ 16777216
    → IfSome before (λ bytes. AnswersBody ToEnd bytes body (Ok tt))
rest_taken before now body taken ended few = at_end before now body (λ bytes. AnswersBody ToEnd bytes body (Ok tt)) taken ended (to_end body, refl, few, refl)

-- nothing more was pulled at the end
pub rest_ended : (before mid now : Option (List ℕ)) (body body_now : List ℕ) (count : ℕ) → Consumes before mid body
    → (piece : List ℕ) × Consumes mid now piece × (body_now ≡ body ++ piece) × (length piece ≡ count) × (count ≤ 16777217) → count ≡ 0 → IsAtEnd now → length body ≤ 16777216
    → IfSome before (λ bytes. AnswersBody ToEnd bytes body_now (Ok tt))
rest_ended before mid now body body_now count taken more none ended few =
    let all : Consumes before now body_now = subst (Consumes before now) (sym more.2) (Consumes-trans before mid now body more.0 taken more.1) in
    rest_taken before now body_now all ended (omega (arith, ap length more.2, length-append body more.0, more.3, none, few))
