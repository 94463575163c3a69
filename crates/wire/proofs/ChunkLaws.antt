-- Bodies in chunks: what stands behind some chunks of a whole body is the rest of its chunks.
use Rattle.std.proofs.Common.{◌≡◌, ℕ, ◌≤◌, ◌<◌, List, [], ◌∷◌, ◌++◌, length, take, refl, sym, ap, ◌∙◌, append_assoc, append-nil, arith}
use Rattle.std.proofs.lemmas.List.{append_cancel_left}
use Rattle.std.proofs.Math.Seq.{take-append_seam}
use Rattle.httparse.specs.Ascii.{crlf_bytes}
use Rattle.httparse.specs.Grammar.{ChunkLine, IsChunkLine, print_chunk_line, chunk_size}
use Rattle.httparse.proofs.ChunkLemmas.{chunk_line_unique}
use Rattle.wire.specs.Bodies.{Chunk, IsChunk, print_chunk, IsLast, AreChunks, print_chunks, contents, HaveShortLines, ChunkedBody, IsChunkedBody, print_chunked, print_trailers}
use Rattle.wire.specs.Parts.{Reads, HasNone}

-- two texts of one length at the front of the same bytes are the same, and so is what stands behind them
pub same_front : (a b r q : List ℕ) → a ++ r ≡ b ++ q → length a ≡ length b → (a ≡ b) × (r ≡ q)
same_front a b r q same long =
    let first : a ≡ b = sym (take-append_seam a r) ∙ ap (take (length a)) same ∙ ap (λ (n : ℕ). take n (b ++ q)) long ∙ take-append_seam b q in
    (first, append_cancel_left b r q (ap (λ (front : List ℕ). front ++ r) (sym first) ∙ same))

-- the line of a chunk and its content, one behind another
pub line_first : (bytes : List ℕ) (c : Chunk) (rest : List ℕ) → Reads IsChunk print_chunk bytes c rest
    → Reads IsChunkLine print_chunk_line bytes c.line (c.content ++ (crlf_bytes ++ rest))
line_first bytes c rest reads = (
  reads.0.line,
  reads.1 ∙ append_assoc (print_chunk_line c.line) (c.content ++ crlf_bytes) rest ∙ ap (λ (xs : List ℕ). print_chunk_line c.line ++ xs) (append_assoc c.content crlf_bytes rest),
)

-- a chunk that stands behind a line has this line, and its content stands behind it
pub behind_line : (bytes : List ℕ) (line : ChunkLine) (behind : List ℕ) (c : Chunk) (rest : List ℕ) → Reads IsChunkLine print_chunk_line bytes line behind
    → Reads IsChunk print_chunk bytes c rest → (line ≡ c.line) × (behind ≡ c.content ++ (crlf_bytes ++ rest))
behind_line bytes line behind c rest reads found = chunk_line_unique bytes line c.line behind (c.content ++ (crlf_bytes ++ rest)) reads (line_first bytes c rest found)

-- behind a line of some bytes that aren't there stands no chunk
pub no_content : (bytes : List ℕ) (line : ChunkLine) (behind : List ℕ) → Reads IsChunkLine print_chunk_line bytes line behind
    → ((piece rest : List ℕ) → behind ≡ piece ++ rest → length piece ≡ chunk_size line → ⊥) → HasNone IsChunk print_chunk bytes
no_content bytes line behind reads none c rest found =
    let same = behind_line bytes line behind c rest reads found in
    none c.content (crlf_bytes ++ rest) same.1 (found.0.size ∙ ap chunk_size (sym same.0))

-- behind a line and its content without the end of a line stands no chunk
pub no_end : (bytes : List ℕ) (line : ChunkLine) (piece behind : List ℕ) → Reads IsChunkLine print_chunk_line bytes line (piece ++ behind)
    → length piece ≡ chunk_size line → ((rest : List ℕ) → behind ≡ crlf_bytes ++ rest → ⊥) → HasNone IsChunk print_chunk bytes
no_end bytes line piece behind reads long none c rest found =
    let same = behind_line bytes line (piece ++ behind) c rest reads found in
    let sizes : length piece ≡ length c.content = long ∙ ap chunk_size same.0 ∙ sym found.0.size in
    none rest (same_front piece c.content behind (crlf_bytes ++ rest) same.1 sizes).1

-- behind a line that states some bytes the last chunk doesn't stand
pub no_last : (bytes : List ℕ) (line : ChunkLine) (behind : List ℕ) → Reads IsChunkLine print_chunk_line bytes line behind → 0 < chunk_size line
    → HasNone IsLast print_chunk_line bytes
no_last bytes line behind reads some last rest found =
    let same = chunk_line_unique bytes line last behind rest reads (found.0.0, found.1) in
    let none : chunk_size line ≡ 0 = ap chunk_size same.0 ∙ found.0.1 in
    absurd (omega (arith, none, some))

-- no chunk stands where the last one does
last_or_chunk : (bytes : List ℕ) (c : Chunk) (rest : List ℕ) (last : ChunkLine) (behind : List ℕ) → Reads IsChunk print_chunk bytes c rest
    → Reads IsLast print_chunk_line bytes last behind → ⊥
last_or_chunk bytes c rest last behind found ends =
    let same = behind_line bytes last behind c rest (ends.0.0, ends.1) found in
    let size : length c.content ≡ 0 = found.0.size ∙ ap chunk_size (sym same.0) ∙ ends.0.1 in
    let some = found.0.some in
    absurd (omega (arith, size, some))

-- at most one chunk stands at the front of bytes
pub chunk_unique : (bytes : List ℕ) (c d : Chunk) (r q : List ℕ) → Reads IsChunk print_chunk bytes c r → Reads IsChunk print_chunk bytes d q → (c ≡ d) × (r ≡ q)
chunk_unique bytes c d r q x y =
    let same = behind_line bytes c.line (c.content ++ (crlf_bytes ++ r)) d q (line_first bytes c r x) y in
    let sizes : length c.content ≡ length d.content = x.0.size ∙ ap chunk_size same.0 ∙ sym y.0.size in
    let both = same_front c.content d.content (crlf_bytes ++ r) (crlf_bytes ++ q) same.1 sizes in
    (λ i. record { line = same.0 i; content = both.0 i }, append_cancel_left crlf_bytes r q both.1)

-- what stands behind some chunks of a body is the rest of its chunks, and then its last line
pub record RestOf (chunks whole : List Chunk) (mid : List ℕ) (last : ChunkLine) (behind : List ℕ) : Type 0 where
  pub others : List Chunk
  pub are : AreChunks others
  pub is : whole ≡ chunks ++ others
  pub prints : mid ≡ print_chunks others ++ (print_chunk_line last ++ behind)

pub rest_of : (chunks whole : List Chunk) (mid : List ℕ) (last : ChunkLine) (behind : List ℕ) → AreChunks chunks → AreChunks whole → IsLast last
    → print_chunks chunks ++ mid ≡ print_chunks whole ++ (print_chunk_line last ++ behind) → RestOf chunks whole mid last behind
rest_of [] whole mid last behind are all ends same = record { others = whole; are = all; is = refl; prints = same }
rest_of (c ∷ chunks) [] mid last behind are all ends same =
    absurd (last_or_chunk (print_chunks (c ∷ chunks) ++ mid) c (print_chunks chunks ++ mid) last behind
    (are.0, append_assoc (print_chunk c) (print_chunks chunks) mid) (ends, same))
rest_of (c ∷ chunks) (d ∷ whole) mid last behind are all ends same =
    let bytes = print_chunks (c ∷ chunks) ++ mid in
    let one = chunk_unique bytes c d (print_chunks chunks ++ mid) (print_chunks whole ++ (print_chunk_line last ++ behind))
    (are.0, append_assoc (print_chunk c) (print_chunks chunks) mid)
    (all.0, same ∙ append_assoc (print_chunk d) (print_chunks whole) (print_chunk_line last ++ behind)) in
    let next = rest_of chunks whole mid last behind are.1 all.1 ends one.1 in
    record { others = next.others; are = next.are; is = ap (λ (x : Chunk). x ∷ whole) (sym one.0) ∙ ap (λ (xs : List Chunk). c ∷ xs) next.is; prints = next.prints }

-- the bytes of a body in chunks, from its chunks on
pub chunked_parts : (bytes : List ℕ) (b : ChunkedBody) (rest : List ℕ) → Reads IsChunkedBody print_chunked bytes b rest
    → bytes ≡ print_chunks b.chunks ++ (print_chunk_line b.last ++ (print_trailers b.trailers ++ rest))
chunked_parts bytes b rest reads =
    reads.1 ∙ append_assoc (print_chunks b.chunks) (print_chunk_line b.last ++ print_trailers b.trailers) rest
    ∙ ap (λ (xs : List ℕ). print_chunks b.chunks ++ xs) (append_assoc (print_chunk_line b.last) (print_trailers b.trailers) rest)

-- some chunks and a last line begin with a chunk or the last line
stuck : (others : List Chunk) (mid : List ℕ) (last : ChunkLine) (behind : List ℕ) → AreChunks others → IsLast last
    → mid ≡ print_chunks others ++ (print_chunk_line last ++ behind) → HasNone IsChunk print_chunk mid → HasNone IsLast print_chunk_line mid → ⊥
stuck [] mid last behind are ends is none no_line = no_line last behind (ends, is)
stuck (c ∷ others) mid last behind are ends is none no_line =
    none c (print_chunks others ++ (print_chunk_line last ++ behind)) (are.0, is ∙ append_assoc (print_chunk c) (print_chunks others) (print_chunk_line last ++ behind))

-- where neither a chunk nor the last line stands behind some chunks, the bytes are no body in chunks
pub no_body : (bytes : List ℕ) (chunks : List Chunk) (mid : List ℕ) → AreChunks chunks → bytes ≡ print_chunks chunks ++ mid
    → HasNone IsChunk print_chunk mid → HasNone IsLast print_chunk_line mid → HasNone IsChunkedBody print_chunked bytes
no_body bytes chunks mid are is none no_line b rest reads =
    let over = rest_of chunks b.chunks mid b.last (print_trailers b.trailers ++ rest) are reads.0.chunks reads.0.last (sym is ∙ chunked_parts bytes b rest reads) in
    stuck over.others mid b.last (print_trailers b.trailers ++ rest) over.are reads.0.last over.prints none no_line

-- what stands behind one last line is what stands behind the other
ended : (chunks others whole : List Chunk) (last other : ChunkLine) (behind after : List ℕ) → AreChunks others → IsLast last → IsLast other → whole ≡ chunks ++ others
    → print_chunk_line last ++ behind ≡ print_chunks others ++ (print_chunk_line other ++ after) → (whole ≡ chunks) × (other ≡ last) × (behind ≡ after)
ended chunks [] whole last other behind after all ends stops is same =
    let one = chunk_line_unique (print_chunk_line last ++ behind) last other behind after (ends.0, refl) (stops.0, same) in
    (is ∙ append-nil chunks, sym one.0, one.1)
ended chunks (c ∷ others) whole last other behind after all ends stops is same =
    absurd (last_or_chunk (print_chunk_line last ++ behind) c (print_chunks others ++ (print_chunk_line other ++ after)) last behind
    (all.0, same ∙ append_assoc (print_chunk c) (print_chunks others) (print_chunk_line other ++ after)) (ends, refl))

-- what stands behind the last line of chunks is what stands behind the last line of the body
pub behind_last : (bytes : List ℕ) (chunks : List Chunk) (last : ChunkLine) (behind : List ℕ) (b : ChunkedBody) (rest : List ℕ) → AreChunks chunks → IsLast last
    → bytes ≡ print_chunks chunks ++ (print_chunk_line last ++ behind) → Reads IsChunkedBody print_chunked bytes b rest
    → (b.chunks ≡ chunks) × (b.last ≡ last) × (behind ≡ print_trailers b.trailers ++ rest)
behind_last bytes chunks last behind b rest are ends is reads =
    let over = rest_of chunks b.chunks (print_chunk_line last ++ behind) b.last (print_trailers b.trailers ++ rest) are reads.0.chunks reads.0.last (sym is ∙ chunked_parts bytes b rest reads) in
    ended chunks over.others b.chunks last b.last behind (print_trailers b.trailers ++ rest) over.are ends reads.0.last over.is over.prints

-- one chunk more
pub are_more : (chunks : List Chunk) (c : Chunk) → AreChunks chunks → IsChunk c → AreChunks (chunks ++ c ∷ [])
are_more [] c are is = (is, tt)
are_more (d ∷ chunks) c are is = (are.0, are_more chunks c are.1 is)

pub short_more : (chunks : List Chunk) (c : Chunk) → HaveShortLines chunks → length (print_chunk_line c.line) ≤ 16384 → HaveShortLines (chunks ++ c ∷ [])
short_more [] c short is = (is, tt)
short_more (d ∷ chunks) c short is = (short.0, short_more chunks c short.1 is)

pub contents_more : (chunks : List Chunk) (c : Chunk) → contents (chunks ++ c ∷ []) ≡ contents chunks ++ c.content
contents_more [] c = append-nil c.content
contents_more (d ∷ chunks) c = ap (λ (xs : List ℕ). d.content ++ xs) (contents_more chunks c) ∙ sym (append_assoc d.content (contents chunks) c.content)

pub prints_more : (chunks : List Chunk) (c : Chunk) → print_chunks (chunks ++ c ∷ []) ≡ print_chunks chunks ++ print_chunk c
prints_more [] c = append-nil (print_chunk c)
prints_more (d ∷ chunks) c = ap (λ (xs : List ℕ). print_chunk d ++ xs) (prints_more chunks c) ∙ sym (append_assoc (print_chunk d) (print_chunks chunks) (print_chunk c))
