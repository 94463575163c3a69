-- What each step through a response takes.
use Rattle.std.specs.Prelude.{◌≡◌, ℕ, ◌≤◌, Bool, true, false, List, ◌++◌, length, Option, Some, IfSome, Result, Ok, Err, ⊤}
use Rattle.std.specs.Io.KnownBytes.{Consumes}
use Rattle.httparse.specs.Grammar.{ResponseHead, status_code, ChunkLine, print_chunk_line, chunk_size}
use Rattle.topk_base.specs.declared.TheConstants.{MAX_CHUNK_LINE, MAX_BODY}
use Rattle.wire.specs.Bodies.{Body, content_of, Frames, IsShortBody, PassesBody, Chunk, IsChunk, print_chunk, IsLast, AreChunks, print_chunks, contents, HaveShortLines, IsChunkedBody, print_chunked, PassesChunk, PassesChunks, Trailers, AreShort}
use Rattle.wire.specs.Parts.{HasNone}
use Rattle.wire.specs.Responses.{IsShortResponse, framing_in}
use Rattle.wire.specs.declared.fault.WireFault.{WireFault}
use Rattle.wire.specs.declared.fault.WireFault.TheVariants.{LinkFault, BadMessage, TooLong, Memory}
use Rattle.wire.specs.declared.framing.Framing.{Framing}
use Rattle.wire.specs.declared.response.Start.{Start}

-- what was read of a response's head is within its limits, and has its status and its framing
pub record SaysResponse (head : ResponseHead) (start : Start) : Type 0 where
  pub short : IsShortResponse head
  pub status : start.status ≡ status_code head
  pub framing : start.framing ≡ framing_in head

-- what was read of a chunk's line is within its limit, and is the size that it states
pub record SaysSize (line : ChunkLine) (size : ℕ) : Type 0 where
  pub short : length (print_chunk_line line) ≤ MAX_CHUNK_LINE
  pub is : size ≡ chunk_size line

-- what was read of trailer lines is within their limits
abbrev pub SaysNothing : Trailers → Unit {0} → Type 0
SaysNothing t nothing = AreShort t

-- so many bytes were taken to the end of a text, or fewer are there
abbrev pub TakesBytes : ℕ → Option (List ℕ) → Option (List ℕ) → List ℕ → List ℕ → Result (Unit {0}) WireFault → Type 0
TakesBytes count before now text text_now (Ok done) = (piece : List ℕ) × Consumes before now piece × (text_now ≡ text ++ piece) × (length piece ≡ count)
TakesBytes count before now text text_now (Err LinkFault) = ⊤
TakesBytes count before now text text_now (Err BadMessage) = IfSome before (λ bytes. (piece rest : List ℕ) → bytes ≡ piece ++ rest → length piece ≡ count → ⊥)
TakesBytes count before now text text_now (Err (TooLong limit)) = ⊥
TakesBytes count before now text text_now (Err Memory) = ⊤

-- these very bytes were taken, or others are there
abbrev pub TakesText : List ℕ → Option (List ℕ) → Option (List ℕ) → Result (Unit {0}) WireFault → Type 0
TakesText text before now (Ok done) = Consumes before now text
TakesText text before now (Err LinkFault) = ⊤
TakesText text before now (Err BadMessage) = IfSome before (λ bytes. (rest : List ℕ) → bytes ≡ text ++ rest → ⊥)
TakesText text before now (Err (TooLong limit)) = ⊥
TakesText text before now (Err Memory) = ⊤

-- a chunk was taken to the end of the body, or the line of the last one, or neither is there
abbrev pub TakesChunk : Option (List ℕ) → Option (List ℕ) → List ℕ → List ℕ → Result Bool WireFault → Type 0
TakesChunk before now body body_now (Ok true) =
    (c : Chunk) × IsChunk c × (length (print_chunk_line c.line) ≤ MAX_CHUNK_LINE) × Consumes before now (print_chunk c) × (body_now ≡ body ++ c.content) × (length body_now ≤ MAX_BODY)
TakesChunk before now body body_now (Ok false) =
    (line : ChunkLine) × IsLast line × (length (print_chunk_line line) ≤ MAX_CHUNK_LINE) × Consumes before now (print_chunk_line line) × (body_now ≡ body)
TakesChunk before now body body_now (Err LinkFault) = ⊤
TakesChunk before now body body_now (Err BadMessage) = IfSome before (λ bytes. HasNone IsChunk print_chunk bytes × HasNone IsLast print_chunk_line bytes)
TakesChunk before now body body_now (Err (TooLong limit)) = IfSome before (PassesChunk limit body)
TakesChunk before now body body_now (Err Memory) = ⊤

-- all chunks were taken and the line of the last one, or no body in chunks is there
abbrev pub TakesChunks : Option (List ℕ) → Option (List ℕ) → List ℕ → Result (Unit {0}) WireFault → Type 0
TakesChunks before now body (Ok done) =
    (chunks : List Chunk) × (last : ChunkLine) × AreChunks chunks × IsLast last × HaveShortLines chunks × (length (print_chunk_line last) ≤ MAX_CHUNK_LINE)
    × (body ≡ contents chunks) × (length body ≤ MAX_BODY) × Consumes before now (print_chunks chunks ++ print_chunk_line last)
TakesChunks before now body (Err LinkFault) = ⊤
TakesChunks before now body (Err BadMessage) = IfSome before (HasNone IsChunkedBody print_chunked)
TakesChunks before now body (Err (TooLong limit)) = IfSome before (PassesChunks limit)
TakesChunks before now body (Err Memory) = ⊤

-- what the bytes behind a head answer as a body
abbrev pub AnswersBody : Framing → List ℕ → List ℕ → Result (Unit {0}) WireFault → Type 0
AnswersBody framing bytes content (Ok done) = (body : Body) × Frames (Some framing) bytes body × IsShortBody body × (content_of body ≡ Some content)
AnswersBody framing bytes content (Err LinkFault) = ⊤
AnswersBody framing bytes content (Err BadMessage) = (body : Body) → Frames (Some framing) bytes body → ⊥
AnswersBody framing bytes content (Err (TooLong limit)) = PassesBody (Some framing) limit bytes
AnswersBody framing bytes content (Err Memory) = ⊤
