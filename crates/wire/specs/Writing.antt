-- The requests and the replies that are written.
use Rattle.std.specs.Prelude.{ℕ, List, [], ◌∷◌, ◌++◌, length, codes, decimal, if◌then◌else◌, ◌==◌, Option, Some, None, string_bytes, unwrap_or}
use Rattle.std.specs.List.{flat_map}
use Rattle.http.specs.StatusCode.{reason_phrase}
use Rattle.httparse.specs.Ascii.{crlf_bytes}
use Rattle.wire.specs.declared.writing.Kind.{Kind}
use Rattle.wire.specs.declared.writing.Kind.TheVariants.{Text, Json}
use Rattle.wire.specs.declared.writing.Place.{Place}

-- texts, one behind another
abbrev pub joined : List (List ℕ) → List ℕ
joined texts = flat_map (λ text. text) texts

-- the request to a host's port for a path with this tail
abbrev pub asking_text : List ℕ → ℕ → List ℕ → List ℕ → List ℕ
asking_text host port path tail =
    joined (codes "GET " ∷ path ∷ tail ∷ codes " HTTP/1.1" ∷ crlf_bytes
    ∷ codes "Host: " ∷ host ∷ codes ":" ∷ decimal port ∷ crlf_bytes
    ∷ codes "Connection: close" ∷ crlf_bytes ∷ crlf_bytes ∷ [])

-- the request for a path of a place with this tail
abbrev pub request_text : Place → List ℕ → List ℕ
request_text place tail = asking_text (string_bytes place.host) place.port (string_bytes place.path) tail

-- the reason of a status, which is empty where it has none
abbrev pub reason_of : ℕ → List ℕ
reason_of status = unwrap_or (reason_phrase status) []

-- the type of a body
abbrev pub type_of : Kind → List ℕ
type_of Text = codes "text/plain"
type_of Json = codes "application/json"

-- the line that says which method is allowed, with status 405 alone
abbrev pub allow_line : ℕ → List ℕ
allow_line status = if status == 405 then codes "Allow: GET" ++ crlf_bytes else []

-- the parts of the line that says how long the body is, where there is one
abbrev pub length_parts : Option (List ℕ) → List (List ℕ)
length_parts None = []
length_parts (Some body) = codes "Content-Length: " ∷ decimal (length body) ∷ crlf_bytes ∷ []

-- the bytes of the body, where there is one
abbrev pub body_parts : Option (List ℕ) → List (List ℕ)
body_parts None = []
body_parts (Some body) = body ∷ []

-- the reply of a status with a body of this kind, or with none
abbrev pub reply_text : ℕ → Kind → Option (List ℕ) → List ℕ
reply_text status kind body =
    joined (codes "HTTP/1.1 " ∷ decimal status ∷ codes " " ∷ reason_of status ∷ crlf_bytes
    ∷ codes "Content-Type: " ∷ type_of kind ∷ crlf_bytes ∷ allow_line status
    ∷ (length_parts body ++ (codes "Connection: close" ∷ crlf_bytes ∷ crlf_bytes ∷ body_parts body)))
