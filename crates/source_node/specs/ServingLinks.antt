-- How the links of a port are served, one after another.
use Rattle.std.specs.Prelude.{◌≡◌, ◌⊎◌, ◌<◌, ◌≤◌, ℕ, true, false, List, [], ◌∷◌, ◌++◌, Option, Some, None, Result, Ok, Err, Bool, length, ⊤}
use Rattle.std.specs.Io.KnownBytes.{IsAtEnd}
use Rattle.tk_io.specs.Calls.{PortCall, with_more}
use Rattle.tk_io.specs.Faults.{Rose}
use Rattle.tk_io.specs.Links.{Closed, ClosesOne, GivesFirst, HasNone}
use Rattle.wire.specs.Sparing.{HoldsRequest, WasReadSparingly}
use Rattle.source_node.specs.Connections.{Ends, Visit}
use Rattle.source_node.specs.Serving.{Seen}
use Rattle.wire.specs.declared.replying.ConnEnd.{ConnEnd}
use Rattle.source_node.specs.declared.serving.Served.{Served}
use Rattle.source_node.specs.declared.serving.Served.TheVariants.{Ended, PortFault}

-- a port: the bytes of the links to come and the links that were given back, where it tells them, its count of faults, and the calls that were made of it, where
-- it tells them
pub record PortAt : Type 0 where
  pub links : Option (List (List ℕ))
  pub closed : Option (List Closed)
  pub faults : ℕ
  pub calls : Option (List PortCall)

-- a port by what it tells and counts
abbrev pub port_as : {P : Type 0} → (P → Option (List (List ℕ))) → (P → Option (List Closed)) → (P → ℕ) → (P → Option (List PortCall)) → P → PortAt
port_as links closed faults calls port = record { links = links port; closed = closed port; faults = faults port; calls = calls port }

-- the connection of a link that was just given: what came of it, and what it had taken and how many of its calls had failed when it was given back
abbrev pub visit_of : Option (List ℕ) → Option (List ℕ) → Closed → Seen → Seen → Visit
visit_of came held one source source_now = record {
  came = came;
  held = held;
  held_now = one.taken;
  read_faults = 0;
  read_faults_now = one.read_faults;
  write_faults = 0;
  write_faults_now = one.write_faults;
  source = source;
  source_now = source_now;
}

-- the first link to come was taken and served, and this is left of it: its connection ended as one of a node does, and was read no further than its request.
-- The source's list and the version that it states are those that they were before the link
pub record ServesLink (name : List ℕ) (version : Option ℕ) (links links_now : Option (List (List ℕ))) (source source_now : Seen) (one : Closed) : Type 0 where
  pub came : Option (List ℕ)
  pub held : Option (List ℕ)
  pub first : GivesFirst links links_now came held
  pub unused : IsAtEnd held
  pub end : ConnEnd
  pub ends : Ends name version (visit_of came held one source source_now) end
  pub sparing : WasReadSparingly HoldsRequest one.pieces
  pub list : source_now.list ≡ source.list
  pub states : source_now.states ≡ source.states

-- links were served one after another, and these are left of them
abbrev pub ServesEach : List ℕ → Option ℕ → Option (List (List ℕ)) → Option (List (List ℕ)) → Seen → Seen → List Closed → Type 0
ServesEach name version links links_now source source_now [] = (links_now ≡ links) × (source_now ≡ source)
ServesEach name version links links_now source source_now (one ∷ more) =
    (next : Option (List (List ℕ))) × (after : Seen) × ServesLink name version links next source after one
    × ServesEach name version next links_now after source_now more

-- a link was served of the list that this source tells, and of the version that it states
abbrev pub IsServedOf : List ℕ → Option ℕ → Seen → Closed → Type 0
IsServedOf name version source one =
    (links links_now : Option (List (List ℕ))) × (before now : Seen) × (before.list ≡ source.list) × (before.states ≡ source.states)
    × ServesLink name version links links_now before now one

-- these links were given back, in this order, where it is told
abbrev pub ClosesAll : Option (List Closed) → Option (List Closed) → List Closed → Type 0
ClosesAll None closed_now ones = ⊤
ClosesAll (Some closed) None ones = ⊥
ClosesAll (Some closed) (Some closed_now) ones = closed_now ≡ closed ++ ones

-- the calls of a port that gave these links in turn: it took each back before it gave the next
abbrev pub turns : List Closed → List PortCall
turns [] = []
turns (one ∷ more) = PortCall.Gave ∷ PortCall.TookBack ∷ turns more

-- so many links of a port were served in turn, each was given back before the next was taken, and behind the last of them these calls were made of the port
pub record ServesLinks (name : List ℕ) (version : Option ℕ) (before now : PortAt) (source source_now : Seen) (count : ℕ) (last : List PortCall) : Type 0 where
  pub ones : List Closed
  pub number : count ≡ length ones
  pub each : ServesEach name version before.links now.links source source_now ones
  pub closed : ClosesAll before.closed now.closed ones
  pub in_turn : now.calls ≡ with_more (turns ones ++ last) before.calls

-- all links that were asked for were served, and the port was asked for no more, or all that came before the port ended
pub record ServedAll (name : List ℕ) (version : Option ℕ) (asked : ℕ) (before now : PortAt) (source source_now : Seen) (count : ℕ) : Type 0 where
  pub last : List PortCall
  pub served : ServesLinks name version before now source source_now count last
  pub few : count ≤ asked
  pub enough : ((count ≡ asked) × (last ≡ [])) ⊎ (HasNone now.links × (last ≡ PortCall.Ended ∷ []))
  pub quiet : now.faults ≡ before.faults

-- some links were served before the port failed to give one
pub record ServedSome (name : List ℕ) (version : Option ℕ) (asked : ℕ) (before now : PortAt) (source source_now : Seen) : Type 0 where
  pub count : ℕ
  pub few : count < asked
  pub served : ServesLinks name version before now source source_now count (PortCall.Failed ∷ [])
  pub rose : Rose before.faults now.faults

-- how serving so many links ends
abbrev pub EndsServing : List ℕ → Option ℕ → ℕ → PortAt → PortAt → Seen → Seen → Served → Type 0
EndsServing name version asked before now source source_now (Ended count) = ServedAll name version asked before now source source_now count
EndsServing name version asked before now source source_now PortFault = ServedSome name version asked before now source source_now

-- a link that was given was served and given back, and was read no further than its request
pub record ServesOne (name : List ℕ) (version : Option ℕ) (came held : Option (List ℕ)) (closed closed_now : Option (List Closed))
    (source source_now : Seen) : Type 0 where
  pub one : Closed
  pub given_back : ClosesOne closed closed_now one
  pub end : ConnEnd
  pub ends : Ends name version (visit_of came held one source source_now) end
  pub sparing : WasReadSparingly HoldsRequest one.pieces

-- the next link was taken, served and given back, and no other was asked for
pub record ServesFirst (name : List ℕ) (version : Option ℕ) (before now : PortAt) (source source_now : Seen) : Type 0 where
  pub one : Closed
  pub given_back : ClosesOne before.closed now.closed one
  pub in_turn : now.calls ≡ with_more (PortCall.Gave ∷ PortCall.TookBack ∷ []) before.calls
  pub serves : ServesLink name version before.links now.links source source_now one
  pub quiet : now.faults ≡ before.faults

-- a link was asked for, which came to this call, and none was taken
pub record ServesNone (call : PortCall) (before now : PortAt) (source source_now : Seen) : Type 0 where
  pub asked : now.calls ≡ with_more (call ∷ []) before.calls
  pub links : now.links ≡ before.links
  pub closed : now.closed ≡ before.closed
  pub same : source_now ≡ source

-- what comes of the next link: it was served, or the port has ended, or it failed
abbrev pub ServesNext : {E : Type 0} → List ℕ → Option ℕ → PortAt → PortAt → Seen → Seen → Result Bool E → Type 0
ServesNext name version before now source source_now (Ok true) = ServesFirst name version before now source source_now
ServesNext name version before now source source_now (Ok false) =
    ServesNone PortCall.Ended before now source source_now × HasNone before.links × (now.faults ≡ before.faults)
ServesNext name version before now source source_now (Err failed) = ServesNone PortCall.Failed before now source source_now × Rose before.faults now.faults
