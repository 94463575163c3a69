-- What the head of a request asks of a query server.
use Rattle.std.specs.Prelude.{◌≡◌, ℕ, List, codes, if◌then◌else◌, Option, Some, None, Result, Ok, Err, IsOk}
use Rattle.std.specs.Option.{ok_or}
use Rattle.std.specs.Str.{bytes_eq}
use Rattle.wire.specs.Targets.{Parts, parts_of}
use Rattle.wire.specs.Queries.{value_in}
use Rattle.wire.specs.declared.refusal.Refusal.{Refusal}
use Rattle.wire.specs.declared.refusal.Refusal.TheVariants.{BadRequest, NotFound, MethodNotAllowed, NoMemory}

-- the query part of a target that is read so: its path is the one route
abbrev pub by_parts : Option Parts → Result (List ℕ) Refusal
by_parts None = Err BadRequest
by_parts (Some parts) = if bytes_eq parts.path (codes "/top") then Ok parts.query else Err NotFound

-- the query part of a request: the method is GET, the target begins with `/`, and its path is the one route
abbrev pub routed : List ℕ → List ℕ → Result (List ℕ) Refusal
routed method target = if bytes_eq method (codes "GET") then by_parts (parts_of target) else Err MethodNotAllowed

-- the query line of a query part: the value of the first pair whose name is `q`
abbrev pub line_at : Result (List ℕ) Refusal → Result (List ℕ) Refusal
line_at (Ok query) = ok_or (value_in (codes "q") query) BadRequest
line_at (Err why) = Err why

-- the query line that a head asks about, or why the request is refused
abbrev pub line_in : List ℕ → List ℕ → Result (List ℕ) Refusal
line_in method target = line_at (routed method target)

-- what is answered on the route is its query line; lack of memory is free
abbrev pub AsksAt : Result (List ℕ) Refusal → Result (List ℕ) Refusal → Type 0
AsksAt at (Err NoMemory) = IsOk at
AsksAt at answer = answer ≡ line_at at

-- what is answered to a head is its query line, or why it is refused; lack of memory is free where it is on the route
abbrev pub AsksFor : List ℕ → List ℕ → Result (List ℕ) Refusal → Type 0
AsksFor method target answer = AsksAt (routed method target) answer
