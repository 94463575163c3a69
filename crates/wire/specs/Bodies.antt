-- The bodies of responses, and how their ends are found.
use Rattle.std.specs.Prelude.{◌≡◌, ℕ, ◌+◌, ◌<◌, ◌≤◌, ◌⊎◌, Bool, ◌&&◌, List, [], ◌∷◌, ◌++◌, length, map, codes, if◌then◌else◌, ◌==◌, nat_lt, nat_le, Option, Some, None, option_map, All, ⊤}
use Rattle.std.specs.Option.{option_and_then}
use Rattle.std.specs.Str.{bytes_eq, all_ascii_digits}
use Rattle.std.specs.Str.Parse.{digits_value}
use Rattle.std.specs.Char.{to_ascii_lowercase}
use Rattle.httparse.specs.Ascii.{crlf_bytes}
use Rattle.httparse.specs.Grammar.{Field, IsField, LineEnd, print_section, ChunkLine, IsChunkLine, print_chunk_line, chunk_size}
use Rattle.topk_base.specs.declared.TheConstants.{MAX_HEAD, MAX_HEADERS, MAX_CHUNK_LINE, MAX_BODY}
use Rattle.wire.specs.Heads.{count_named, all_named, first_named}
use Rattle.wire.specs.Parts.{Reads, PassesBytes, PassesHeadLimits}
use Rattle.wire.specs.declared.framing.Framing.{Framing}
use Rattle.wire.specs.declared.framing.Framing.TheVariants.{Chunked, Length, ToEnd}

-- a value is the word `chunked`, in any letter case
abbrev pub is_chunked : List ℕ → Bool
is_chunked value = bytes_eq (map to_ascii_lowercase value) (codes "chunked")

-- the number that a value states, where it is 1 to 18 digits
abbrev pub stated_length : List ℕ → Option ℕ
stated_length value = if nat_lt 0 (length value) && (nat_le (length value) 18 && all_ascii_digits value) then Some (digits_value 10 value) else None

-- a body of the length that all Content-Length lines state with the same value
abbrev pub framing_by_length : List (List ℕ × List ℕ) → Option Framing
framing_by_length lines =
    option_and_then (λ value. if all_named (codes "content-length") (λ other. bytes_eq other value) lines then option_map Length (stated_length value) else None)
    (first_named (codes "content-length") lines)

-- how the end of a body is found: by one Transfer-Encoding line that says `chunked` and stands beside no Content-Length line, else by Content-Length lines, else at the end of the connection
abbrev pub framing_of : List (List ℕ × List ℕ) → Option Framing
framing_of lines =
    if count_named (codes "transfer-encoding") lines == 0
    then (if count_named (codes "content-length") lines == 0 then Some ToEnd else framing_by_length lines)
    else (if (count_named (codes "transfer-encoding") lines == 1) && (count_named (codes "content-length") lines == 0)
    && all_named (codes "transfer-encoding") is_chunked lines then Some Chunked else None)

-- a chunk: its line, and its bytes
pub record Chunk : Type 0 where
  pub line : ChunkLine
  pub content : List ℕ

-- the bytes of a chunk: its line, its content, and the end of a line
abbrev pub print_chunk : Chunk → List ℕ
print_chunk c = print_chunk_line c.line ++ (c.content ++ crlf_bytes)

-- a chunk has as many bytes as its line says, and at least one
pub record IsChunk (c : Chunk) : Type 0 where
  pub line : IsChunkLine c.line
  pub size : length c.content ≡ chunk_size c.line
  pub some : 0 < length c.content

-- the line of the last chunk, which says that no byte follows
abbrev pub IsLast : ChunkLine → Type 0
IsLast line = IsChunkLine line × (chunk_size line ≡ 0)

-- each of them is a chunk
abbrev pub AreChunks : List Chunk → Type 0
AreChunks [] = ⊤
AreChunks (c ∷ chunks) = IsChunk c × AreChunks chunks

-- the bytes of chunks, one behind another
abbrev pub print_chunks : List Chunk → List ℕ
print_chunks [] = []
print_chunks (c ∷ chunks) = print_chunk c ++ print_chunks chunks

-- the content of chunks, one behind another
abbrev pub contents : List Chunk → List ℕ
contents [] = []
contents (c ∷ chunks) = c.content ++ contents chunks

-- the lines of chunks are within their limit
abbrev pub HaveShortLines : List Chunk → Type 0
HaveShortLines [] = ⊤
HaveShortLines (c ∷ chunks) = (length (print_chunk_line c.line) ≤ MAX_CHUNK_LINE) × HaveShortLines chunks

-- trailer lines, and the empty line that ends them
pub record Trailers : Type 0 where
  pub lines : List Field
  pub end : LineEnd

-- each of them is a header line
abbrev pub AreTrailers : Trailers → Type 0
AreTrailers t = All IsField t.lines

-- the bytes of trailer lines
abbrev pub print_trailers : Trailers → List ℕ
print_trailers t = print_section t.lines t.end

-- trailer lines are within their limits
pub record AreShort (t : Trailers) : Type 0 where
  pub bytes : length (print_trailers t) ≤ MAX_HEAD
  pub lines : length t.lines ≤ MAX_HEADERS

-- a body in chunks: the chunks, the line of the last one, and the trailer lines
pub record ChunkedBody : Type 0 where
  pub chunks : List Chunk
  pub last : ChunkLine
  pub trailers : Trailers

-- each part is of its kind
pub record IsChunkedBody (b : ChunkedBody) : Type 0 where
  pub chunks : AreChunks b.chunks
  pub last : IsLast b.last
  pub trailers : AreTrailers b.trailers

-- the bytes of a body in chunks
abbrev pub print_chunked : ChunkedBody → List ℕ
print_chunked b = print_chunks b.chunks ++ (print_chunk_line b.last ++ print_trailers b.trailers)

-- a body in chunks is within its limits
pub record IsShortChunked (b : ChunkedBody) : Type 0 where
  pub lines : HaveShortLines b.chunks
  pub last : length (print_chunk_line b.last) ≤ MAX_CHUNK_LINE
  pub content : length (contents b.chunks) ≤ MAX_BODY
  pub trailers : AreShort b.trailers

-- the body of a response: none, one in chunks, one whose length is stated, or one that ends with the connection
pub data Body : Type 0 where
  absent : Body
  in_chunks : ChunkedBody → Body
  of_length : List ℕ → Body
  to_end : List ℕ → Body

-- the bytes that a body holds
abbrev pub content_of : Body → Option (List ℕ)
content_of absent = None
content_of (in_chunks b) = Some (contents b.chunks)
content_of (of_length content) = Some content
content_of (to_end content) = Some content

-- the bytes behind a head begin with this body, by the framing that the head says
abbrev pub Frames : Option Framing → List ℕ → Body → Type 0
Frames (Some Chunked) bytes (in_chunks b) = (rest : List ℕ) × Reads IsChunkedBody print_chunked bytes b rest
Frames (Some (Length count)) bytes (of_length content) = (rest : List ℕ) × (bytes ≡ content ++ rest) × (length content ≡ count)
Frames (Some ToEnd) bytes (to_end content) = bytes ≡ content
Frames _ bytes _ = ⊥

-- a body is within its limits
abbrev pub IsShortBody : Body → Type 0
IsShortBody absent = ⊤
IsShortBody (in_chunks b) = IsShortChunked b
IsShortBody (of_length content) = length content ≤ MAX_BODY
IsShortBody (to_end content) = length content ≤ MAX_BODY

-- a chunk's line is longer than its limit
abbrev pub PassesLine : ℕ → List ℕ → Type 0
PassesLine limit bytes = (limit ≡ MAX_CHUNK_LINE) × PassesBytes IsChunkLine print_chunk_line MAX_CHUNK_LINE bytes

-- behind so much content a chunk's line is longer than its limit, or states more than a body may have
abbrev pub PassesChunk : ℕ → List ℕ → List ℕ → Type 0
PassesChunk limit content bytes =
    PassesLine limit bytes
    ⊎ ((limit ≡ MAX_BODY) × (line : ChunkLine) × (rest : List ℕ) × Reads IsChunkLine print_chunk_line bytes line rest × (MAX_BODY < length content + chunk_size line))

-- trailer lines have more bytes or are more than their limits
abbrev pub PassesTrailers : ℕ → List ℕ → Type 0
PassesTrailers limit bytes = PassesHeadLimits AreTrailers print_trailers (λ t. length t.lines) limit bytes

-- some chunks, and behind them one or trailer lines that pass a limit
abbrev pub PassesChunks : ℕ → List ℕ → Type 0
PassesChunks limit bytes =
    (chunks : List Chunk) × (rest : List ℕ) × Reads AreChunks print_chunks bytes chunks rest × (
    PassesChunk limit (contents chunks) rest
    ⊎ ((last : ChunkLine) × (behind : List ℕ) × Reads IsLast print_chunk_line rest last behind × PassesTrailers limit behind))

-- more came than a limit on the body allows, or was stated
abbrev pub PassesBody : Option Framing → ℕ → List ℕ → Type 0
PassesBody None limit bytes = ⊥
PassesBody (Some Chunked) limit bytes = PassesChunks limit bytes
PassesBody (Some (Length count)) limit bytes = (limit ≡ MAX_BODY) × (MAX_BODY < count)
PassesBody (Some ToEnd) limit bytes = (limit ≡ MAX_BODY) × (MAX_BODY < length bytes)
