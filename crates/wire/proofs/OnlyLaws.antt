-- What bytes answer excludes every other answer.
use Rattle.std.proofs.Common.{◌≡◌, ℕ, ◌+◌, ◌≤◌, true, false, eqb, inl, inr, List, [], ◌∷◌, ◌++◌, Option, Some, None, option_map, length, refl, sym, ap, subst, ◌∙◌, append_assoc, length-append, arith}
use Rattle.std.proofs.lemmas.Bool.{eqb-true, true≢false}
use Rattle.httparse.specs.Ascii.{crlf_bytes}
use Rattle.httparse.specs.Grammar.{RequestHead, ResponseHead, status_code, ChunkLine, print_chunk_line, chunk_size}
use Rattle.httparse.proofs.GrammarLemmas.{request_unique, response_unique}
use Rattle.httparse.proofs.ChunkLemmas.{chunk_line_unique}
use Rattle.wire.specs.Bodies.{Chunk, print_chunk, IsLast, AreChunks, print_chunks, contents, HaveShortLines, ChunkedBody, IsChunkedBody, print_chunked, IsShortChunked, AreTrailers, print_trailers, Body, absent, in_chunks, of_length, to_end, content_of, Frames, IsShortBody, PassesChunk, PassesTrailers, PassesChunks, PassesBody}
use Rattle.wire.specs.Heads.{IsRequest, IsNoRequest, PassesRequest}
use Rattle.wire.specs.Parts.{Reads}
use Rattle.wire.specs.Responses.{framing_in, IsResponse, IsReply, IsNoResponse, PassesResponse}
use Rattle.wire.specs.declared.framing.Framing.{Framing}
use Rattle.wire.specs.declared.framing.Framing.TheVariants.{Chunked, Length, ToEnd}
use Rattle.wire.specs.declared.request.Head.{Head}
use Rattle.wire.specs.declared.response.Reply.{Reply}
use Rattle.wire.proofs.ChunkLaws.{same_front, rest_of, chunked_parts, behind_last, behind_line, line_first}

-- ---- requests

pub request_only : (bytes : List ℕ) (one other : Head) → IsRequest bytes one → IsRequest bytes other
    → (one.method ≡ other.method) × (one.target.items ≡ other.target.items)
request_only bytes one other a b =
    let same = (request_unique bytes a.text b.text a.rest b.rest a.reads b.reads).0 in (
      a.method ∙ ap (λ (t : RequestHead). t.method) same ∙ sym b.method,
      a.target ∙ ap (λ (t : RequestHead). t.target) same ∙ sym b.target,
    )

pub request_whole : (bytes : List ℕ) (head : Head) → IsRequest bytes head → IsNoRequest bytes → ⊥
request_whole bytes head a none = true≢false (sym a.host ∙ none a.text a.rest a.reads)

pub request_short : (bytes : List ℕ) (head : Head) (limit : ℕ) → IsRequest bytes head → PassesRequest limit bytes → ⊥
request_short bytes head limit a (inl passes) =
    let long = passes.1.1 a.text a.rest a.reads in
    let short = a.short.bytes in
    absurd (omega (arith, long, short))
request_short bytes head limit a (inr passes) =
    let many = passes.1.1 a.text a.rest a.reads in
    let few = a.short.lines in
    absurd (omega (arith, many, few))

-- ---- chunks

-- the lines of chunks are short, behind some of them too
short_behind : (chunks others : List Chunk) → HaveShortLines (chunks ++ others) → HaveShortLines others
short_behind [] others short = short
short_behind (c ∷ chunks) others short = short_behind chunks others short.1

-- the content of chunks and then others
contents-append : (chunks others : List Chunk) → contents (chunks ++ others) ≡ contents chunks ++ contents others
contents-append [] others = refl
contents-append (c ∷ chunks) others = ap (λ (xs : List ℕ). c.content ++ xs) (contents-append chunks others) ∙ sym (append_assoc c.content (contents chunks) (contents others))

-- the line that stands behind some chunks of a short body is short, and states no more than the body may have
line_within : (chunks others : List Chunk) (mid : List ℕ) (last : ChunkLine) (behind : List ℕ) (limit : ℕ) → AreChunks others → IsLast last
    → mid ≡ print_chunks others ++ (print_chunk_line last ++ behind) → HaveShortLines others → length (print_chunk_line last) ≤ 16384
    → length (contents chunks) + length (contents others) ≤ 16777216 → PassesChunk limit (contents chunks) mid → ⊥
line_within chunks [] mid last behind limit are ends is short few fits (inl passes) =
    let long = passes.1.1 last behind (ends.0, is) in
    absurd (omega (arith, long, few))
line_within chunks [] mid last behind limit are ends is short few fits (inr passes) =
    let same = (chunk_line_unique mid passes.1 last passes.2 behind passes.3 (ends.0, is)).0 in
    let none : chunk_size passes.1 ≡ 0 = ap chunk_size same ∙ ends.1 in
    let more = passes.4 in
    absurd (omega (arith, none, more, fits))
line_within chunks (c ∷ others) mid last behind limit are ends is short few fits (inl passes) =
    let after = print_chunks others ++ (print_chunk_line last ++ behind) in
    let whole : mid ≡ print_chunk c ++ after = is ∙ append_assoc (print_chunk c) (print_chunks others) (print_chunk_line last ++ behind) in
    let long = passes.1.1 c.line (c.content ++ (crlf_bytes ++ after)) (line_first mid c after (are.0, whole)) in
    absurd (omega (arith, long, short.0))
line_within chunks (c ∷ others) mid last behind limit are ends is short few fits (inr passes) =
    let after = print_chunks others ++ (print_chunk_line last ++ behind) in
    let whole : mid ≡ print_chunk c ++ after = is ∙ append_assoc (print_chunk c) (print_chunks others) (print_chunk_line last ++ behind) in
    let same = behind_line mid passes.1 passes.2 c after passes.3 (are.0, whole) in
    let size : chunk_size passes.1 ≡ length c.content = ap chunk_size same.0 ∙ sym are.0.size in
    let more = passes.4 in
    let long = length-append c.content (contents others) in
    absurd (omega (arith, size, more, fits, long))

-- the trailer lines of a short body pass no limit
trailers_within : (behind : List ℕ) (b : ChunkedBody) (rest : List ℕ) (limit : ℕ) → Reads AreTrailers print_trailers behind b.trailers rest → IsShortChunked b
    → PassesTrailers limit behind → ⊥
trailers_within behind b rest limit reads short (inl passes) =
    let long = passes.1.1 b.trailers rest reads in
    let few = short.trailers.bytes in
    absurd (omega (arith, long, few))
trailers_within behind b rest limit reads short (inr passes) =
    let many = passes.1.1 b.trailers rest reads in
    let few = short.trailers.lines in
    absurd (omega (arith, many, few))

-- a short body in chunks passes no limit
chunks_within : (bytes : List ℕ) (b : ChunkedBody) (rest : List ℕ) (limit : ℕ) → Reads IsChunkedBody print_chunked bytes b rest → IsShortChunked b → PassesChunks limit bytes → ⊥
chunks_within bytes b rest limit reads short (chunks, mid, front, inl passes) =
    let over = rest_of chunks b.chunks mid b.last (print_trailers b.trailers ++ rest) front.0 reads.0.chunks reads.0.last (sym front.1 ∙ chunked_parts bytes b rest reads) in
    let all : contents b.chunks ≡ contents chunks ++ contents over.others = ap contents over.is ∙ contents-append chunks over.others in
    let few = short.content in
    line_within chunks over.others mid b.last (print_trailers b.trailers ++ rest) limit over.are reads.0.last over.prints
    (short_behind chunks over.others (subst HaveShortLines over.is short.lines)) short.last
    (omega (arith, ap length all, length-append (contents chunks) (contents over.others), few)) passes
chunks_within bytes b rest limit reads short (chunks, mid, front, inr passes) =
    let whole : bytes ≡ print_chunks chunks ++ (print_chunk_line passes.0 ++ passes.1) = front.1 ∙ ap (λ (xs : List ℕ). print_chunks chunks ++ xs) passes.2.1 in
    let same = behind_last bytes chunks passes.0 passes.1 b rest front.0 passes.2.0 whole reads in
    trailers_within passes.1 b rest limit (reads.0.trailers, same.2) short passes.3

-- ---- responses

-- a short body passes no limit
body_within : (framing : Option Framing) (bytes : List ℕ) (body : Body) (limit : ℕ) → Frames framing bytes body → IsShortBody body → PassesBody framing limit bytes → ⊥
body_within None bytes body limit frames short passes = passes
body_within (Some Chunked) bytes absent limit frames short passes = frames
body_within (Some Chunked) bytes (in_chunks b) limit frames short passes = chunks_within bytes b frames.0 limit frames.1 short passes
body_within (Some Chunked) bytes (of_length content) limit frames short passes = frames
body_within (Some Chunked) bytes (to_end content) limit frames short passes = frames
body_within (Some (Length count)) bytes absent limit frames short passes = frames
body_within (Some (Length count)) bytes (in_chunks b) limit frames short passes = frames
body_within (Some (Length count)) bytes (of_length content) limit frames short passes =
    let long = frames.2 in
    let more = passes.1 in
    absurd (omega (arith, long, more, short))
body_within (Some (Length count)) bytes (to_end content) limit frames short passes = frames
body_within (Some ToEnd) bytes absent limit frames short passes = frames
body_within (Some ToEnd) bytes (in_chunks b) limit frames short passes = frames
body_within (Some ToEnd) bytes (of_length content) limit frames short passes = frames
body_within (Some ToEnd) bytes (to_end content) limit frames short passes =
    let more = passes.1 in
    absurd (omega (arith, ap length frames, more, short))

-- bytes frame one content
body_only : (framing : Option Framing) (bytes : List ℕ) (one other : Body) → Frames framing bytes one → Frames framing bytes other → content_of one ≡ content_of other
body_only None bytes one other a b = absurd a
body_only (Some Chunked) bytes (in_chunks one) (in_chunks other) a b =
    let same = behind_last bytes one.chunks one.last (print_trailers one.trailers ++ a.0) other b.0 a.1.0.chunks a.1.0.last (chunked_parts bytes one a.0 a.1) b.1 in
    ap (λ (xs : List Chunk). Some (contents xs)) (sym same.0)
body_only (Some Chunked) bytes absent other a b = absurd a
body_only (Some Chunked) bytes (of_length content) other a b = absurd a
body_only (Some Chunked) bytes (to_end content) other a b = absurd a
body_only (Some Chunked) bytes (in_chunks one) absent a b = absurd b
body_only (Some Chunked) bytes (in_chunks one) (of_length content) a b = absurd b
body_only (Some Chunked) bytes (in_chunks one) (to_end content) a b = absurd b
body_only (Some (Length count)) bytes (of_length one) (of_length other) a b =
    ap Some (same_front one other a.0 b.0 (sym a.1 ∙ b.1) (a.2 ∙ sym b.2)).0
body_only (Some (Length count)) bytes absent other a b = absurd a
body_only (Some (Length count)) bytes (in_chunks content) other a b = absurd a
body_only (Some (Length count)) bytes (to_end content) other a b = absurd a
body_only (Some (Length count)) bytes (of_length one) absent a b = absurd b
body_only (Some (Length count)) bytes (of_length one) (in_chunks content) a b = absurd b
body_only (Some (Length count)) bytes (of_length one) (to_end content) a b = absurd b
body_only (Some ToEnd) bytes (to_end one) (to_end other) a b = ap Some (sym a ∙ b)
body_only (Some ToEnd) bytes absent other a b = absurd a
body_only (Some ToEnd) bytes (in_chunks content) other a b = absurd a
body_only (Some ToEnd) bytes (of_length content) other a b = absurd a
body_only (Some ToEnd) bytes (to_end one) absent a b = absurd b
body_only (Some ToEnd) bytes (to_end one) (in_chunks content) a b = absurd b
body_only (Some ToEnd) bytes (to_end one) (of_length content) a b = absurd b

-- bytes begin with one response
response_only : (bytes : List ℕ) (head k : ResponseHead) (one other : Body) → IsResponse bytes head one → IsResponse bytes k other
    → (status_code head ≡ status_code k) × (content_of one ≡ content_of other)
response_only bytes head k one other a b =
    let same = response_unique bytes head k a.rest b.rest a.reads b.reads in
    let status = ap status_code same.0 in (
      status,
      elim (eqb (status_code head) 200) as (λ t. eqb (status_code head) 200 ≡ t → content_of one ≡ content_of other) [
        | true ↦ λ is.
            let ok : status_code head ≡ 200 = eqb-true (status_code head) 200 is in
            let first : Frames (framing_in k) b.rest one =
            subst (λ (xs : List ℕ). Frames (framing_in k) xs one) same.1 (subst (λ (h : ResponseHead). Frames (framing_in h) a.rest one) same.0 (a.framed.framed ok)) in
            body_only (framing_in k) b.rest one other first (b.framed.framed (sym status ∙ ok))
        | false ↦ λ is.
            let other_status : status_code head ≡ 200 → ⊥ = λ ok. true≢false (sym (ap (λ n. eqb n 200) ok) ∙ is) in
            ap content_of (a.framed.none other_status) ∙ sym (ap content_of (b.framed.none (λ ok. other_status (status ∙ ok))))
      ] refl,
    )

pub reply_only : (bytes : List ℕ) (one other : Reply) → IsReply bytes one → IsReply bytes other
    → (one.status ≡ other.status) × (option_map (λ body. body.items) one.body ≡ option_map (λ body. body.items) other.body)
reply_only bytes one other a b =
    let same = response_only bytes a.0 b.0 a.1 b.1 a.2 b.2 in
    (a.5.status ∙ same.0 ∙ sym b.5.status, a.5.content ∙ same.1 ∙ sym b.5.content)

pub reply_whole : (bytes : List ℕ) (reply : Reply) → IsReply bytes reply → IsNoResponse bytes → ⊥
reply_whole bytes reply a none = none a.0 a.1 a.2

pub reply_short : (bytes : List ℕ) (reply : Reply) (limit : ℕ) → IsReply bytes reply → PassesResponse limit bytes → ⊥
reply_short bytes reply limit a (inl (inl passes)) =
    let long = passes.1.1 a.0 a.2.rest a.2.reads in
    let short = a.3.bytes in
    absurd (omega (arith, long, short))
reply_short bytes reply limit a (inl (inr passes)) =
    let many = passes.1.1 a.0 a.2.rest a.2.reads in
    let few = a.3.lines in
    absurd (omega (arith, many, few))
reply_short bytes reply limit a (inr passes) =
    let same = response_unique bytes a.0 passes.0 a.2.rest passes.1 a.2.reads passes.2 in
    let ok : status_code a.0 ≡ 200 = ap status_code same.0 ∙ passes.3 in
    let frames : Frames (framing_in passes.0) passes.1 a.1 =
    subst (λ (xs : List ℕ). Frames (framing_in passes.0) xs a.1) same.1 (subst (λ (h : ResponseHead). Frames (framing_in h) a.2.rest a.1) same.0 (a.2.framed.framed ok)) in
    body_within (framing_in passes.0) passes.1 a.1 limit frames a.4 passes.4
