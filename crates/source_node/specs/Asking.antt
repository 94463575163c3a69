-- What the head of a request asks of a list.
use Rattle.std.specs.Prelude.{◌≡◌, ◌≤◌, ℕ, List, ◌++◌, codes, if◌then◌else◌, Option, Some, None, option_map, Result, Ok, Err, IsOk, ⊤}
use Rattle.std.specs.Option.{ok_or}
use Rattle.std.specs.Str.{bytes_eq}
use Rattle.topk_base.specs.declared.TheConstants.{MAX_PAGE}
use Rattle.wire.specs.Targets.{Parts, parts_of}
use Rattle.wire.specs.Queries.{number_in}
use Rattle.source_node.specs.declared.asked.Asked.{Asked}
use Rattle.source_node.specs.declared.asked.Asked.TheVariants as asked
use Rattle.source_node.specs.declared.asked.Route.{Route}
use Rattle.source_node.specs.declared.asked.Route.TheVariants as route
use Rattle.source_node.specs.declared.asked.Matched.{Matched}
use Rattle.wire.specs.declared.refusal.Refusal.{Refusal}
use Rattle.wire.specs.declared.refusal.Refusal.TheVariants.{BadRequest, NotFound, MethodNotAllowed, NoMemory}

-- a request that is on a route: the call, and the query part
pub record OnRoute : Type 0 where
  pub call : Route
  pub query : List ℕ

-- the same of what was read
abbrev pub shown : Matched → OnRoute
shown matched = record { call = matched.route; query = matched.query.now }

-- the path of a call on the list of this name
abbrev pub path_to : List ℕ → List ℕ → List ℕ
path_to name call = codes "/lists/" ++ (name ++ call)

-- the route of a path
abbrev pub route_of : List ℕ → List ℕ → Option Route
route_of name path =
    if bytes_eq path (path_to name (codes "/size")) then Some route.Size
    else if bytes_eq path (path_to name (codes "/page")) then Some route.Page
    else if bytes_eq path (path_to name (codes "/grade")) then Some route.Grade
    else None

-- the route of a path with its query part
abbrev pub on_route : List ℕ → Option Route → Result OnRoute Refusal
on_route query None = Err NotFound
on_route query (Some call) = Ok (record { call = call; query = query })

-- the route of a target that is read so
abbrev pub by_parts : List ℕ → Option Parts → Result OnRoute Refusal
by_parts name None = Err BadRequest
by_parts name (Some parts) = on_route parts.query (route_of name parts.path)

-- the route of a request: the method is GET, the target begins with `/`, and its path is a route
abbrev pub routed : List ℕ → List ℕ → List ℕ → Result OnRoute Refusal
routed name method target = if bytes_eq method (codes "GET") then by_parts name (parts_of target) else Err MethodNotAllowed

-- the greatest number of 32 bits
abbrev pub top_32 : ℕ
top_32 = 4294967295

-- a page from these numbers
abbrev pub page_from : Option ℕ → Option ℕ → Option Asked
page_from (Some from) (Some count) = Some (asked.Page from count)
page_from _ _ = None

-- the page that a query part asks for: from any place, 1 to 10,000 rows
abbrev pub page_asked : List ℕ → Option Asked
page_asked query = page_from (number_in (codes "from") 0 top_32 query) (number_in (codes "count") 1 MAX_PAGE query)

-- the grade that a query part asks for
abbrev pub grade_asked : List ℕ → Option Asked
grade_asked query = option_map asked.Grade (number_in (codes "object") 0 top_32 query)

-- what a call asks with this query part, where the numbers that it wants are there
abbrev pub asked_by : Route → List ℕ → Option Asked
asked_by route.Size query = Some asked.Size
asked_by route.Page query = page_asked query
asked_by route.Grade query = grade_asked query

-- what is asked on a route
abbrev pub asked_at : Result OnRoute Refusal → Result Asked Refusal
asked_at (Ok at) = ok_or (asked_by at.call at.query) BadRequest
asked_at (Err why) = Err why

-- what a head asks of the list of this name, or why it is refused
abbrev pub asked_of : List ℕ → List ℕ → List ℕ → Result Asked Refusal
asked_of name method target = asked_at (routed name method target)

-- what is answered on a route is what is asked there; lack of memory is free
abbrev pub AsksAt : Result OnRoute Refusal → Result Asked Refusal → Type 0
AsksAt at (Err NoMemory) = IsOk at
AsksAt at answer = answer ≡ asked_at at

-- what is answered to a head is what it asks, or why it is refused; lack of memory is free where it is on a route
abbrev pub AsksFor : List ℕ → List ℕ → List ℕ → Result Asked Refusal → Type 0
AsksFor name method target answer = AsksAt (routed name method target) answer

-- a page has a row at least, and at most 10,000
abbrev pub HasCount : Asked → Type 0
HasCount (asked.Page from count) = (1 ≤ count) × (count ≤ MAX_PAGE)
HasCount _ = ⊤
