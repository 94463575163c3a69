-- When a message is whole, and reads that stop there.
use Rattle.std.specs.Prelude.{◌≡◌, ℕ, ◌≤◌, ◌⊎◌, List, [], ◌∷◌, ◌++◌, length, Option, Some, None, IfSome, ⊤}
use Rattle.std.specs.List.{concat}
use Rattle.std.specs.Io.KnownBytes.{Consumes}
use Rattle.httparse.specs.Grammar.{IsRequestHead, print_request, ResponseHead, IsResponseHead, print_response, status_code, ChunkLine, print_chunk_line}
use Rattle.wire.specs.Bodies.{Chunk, IsChunk, print_chunk, IsLast, AreChunks, print_chunks, IsChunkedBody, print_chunked}
use Rattle.wire.specs.Parts.{Reads, HasOne}
use Rattle.wire.specs.Responses.{framing_in}
use Rattle.wire.specs.declared.framing.Framing.{Framing}
use Rattle.wire.specs.declared.framing.Framing.TheVariants.{Chunked, Length, ToEnd}

-- none of the pieces was read once what had come was whole
abbrev pub IsSparing : (List ℕ → Type 0) → List ℕ → List (List ℕ) → Type 0
IsSparing IsWhole came [] = ⊤
IsSparing IsWhole came (piece ∷ more) = (IsWhole came → ⊥) × IsSparing IsWhole (came ++ piece) more

-- this holds of the pieces that were read between two moments, where the stream tells them; one that tells none tells none later
abbrev pub WereRead : (List (List ℕ) → Type 0) → Option (List (List ℕ)) → Option (List (List ℕ)) → Type 0
WereRead Holds None now = now ≡ None
WereRead Holds (Some before) None = ⊥
WereRead Holds (Some before) (Some now) = (more : List (List ℕ)) × (now ≡ before ++ more) × Holds more

-- no read was made once what had come was whole
abbrev pub ReadsSparingly : (List ℕ → Type 0) → List ℕ → Option (List (List ℕ)) → Option (List (List ℕ)) → Type 0
ReadsSparingly IsWhole came before now = WereRead (IsSparing IsWhole came) before now

-- of a link that was given back no read was made once what had come was whole, where it tells what its reads gave
abbrev pub WasReadSparingly : (List ℕ → Type 0) → Option (List (List ℕ)) → Type 0
WasReadSparingly IsWhole pieces = IfSome pieces (IsSparing IsWhole [])

-- the whole head of a request stands at the front
abbrev pub HoldsRequest : List ℕ → Type 0
HoldsRequest = HasOne IsRequestHead print_request

-- the whole body stands at the front, by its framing: with none there is no body to wait for, and one that ends with the connection is never whole before
abbrev pub HoldsBody : Option Framing → List ℕ → Type 0
HoldsBody None bytes = ⊤
HoldsBody (Some Chunked) bytes = HasOne IsChunkedBody print_chunked bytes
HoldsBody (Some (Length count)) bytes = count ≤ length bytes
HoldsBody (Some ToEnd) bytes = ⊥

-- the whole head of a response stands at the front and, with status 200, its whole body behind it
abbrev pub HoldsResponse : List ℕ → Type 0
HoldsResponse bytes =
    (head : ResponseHead) × (rest : List ℕ) × Reads IsResponseHead print_response bytes head rest × (status_code head ≡ 200 → HoldsBody (framing_in head) rest)

-- so many bytes stand there
abbrev pub HoldsBytes : ℕ → List ℕ → Type 0
HoldsBytes count bytes = count ≤ length bytes

-- a whole chunk stands at the front, or the line of the last one
abbrev pub HoldsChunk : List ℕ → Type 0
HoldsChunk bytes = HasOne IsChunk print_chunk bytes ⊎ HasOne IsLast print_chunk_line bytes

-- all chunks stand at the front, and the line of the last one
abbrev pub HoldsChunks : List ℕ → Type 0
HoldsChunks bytes =
    (chunks : List Chunk) × (last : ChunkLine) × (rest : List ℕ) × AreChunks chunks × IsLast last × (bytes ≡ print_chunks chunks ++ (print_chunk_line last ++ rest))

-- one piece was read at most
abbrev pub ReadsOnce : Option (List (List ℕ)) → Option (List (List ℕ)) → Type 0
ReadsOnce before now = WereRead (λ more. length more ≤ 1) before now

-- bytes grew by what was read
abbrev pub GrewBy : List ℕ → List ℕ → Option (List (List ℕ)) → Option (List (List ℕ)) → Type 0
GrewBy bytes bytes_now before now = WereRead (λ more. bytes_now ≡ bytes ++ concat more) before now

-- this holds of what had come with what was read behind it, and of what is left of both
abbrev pub OfRead : (Option (List ℕ) → Option (List ℕ) → Type 0) → List ℕ → List ℕ → Option (List (List ℕ)) → Option (List (List ℕ)) → Type 0
OfRead Holds came came_now before now = WereRead (λ more. Holds (Some (came ++ concat more)) (Some came_now)) before now

-- so many bytes were pulled to the end of a text
abbrev pub IsPulled : Option (List ℕ) → Option (List ℕ) → List ℕ → List ℕ → ℕ → Type 0
IsPulled before now text text_now count = (piece : List ℕ) × Consumes before now piece × (text_now ≡ text ++ piece) × (length piece ≡ count)
