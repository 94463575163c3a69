-- What a call does with its dial: which host and port it dials, which link it takes and gives back, what of its request that link took, and when it fails.
use Rattle.std.specs.Prelude.{◌≡◌, ◌⊎◌, ℕ, List, [], ◌∷◌, Option, Some, None, IfSome, Result, Err, ⊤, string_bytes}
use Rattle.std.specs.Io.KnownBytes.{Appends}
use Rattle.tk_io.specs.Calls.{HostPort, with_more}
use Rattle.tk_io.specs.Faults.{Rose}
use Rattle.tk_io.specs.Links.{Closed, ClosesOne}
use Rattle.tk_io.specs.Whole.{TookFront}
use Rattle.source_api.specs.declared.source.Trouble.{Trouble}
use Rattle.source_api.specs.declared.source.FailKind.TheVariants.{Failed, Memory}
use Rattle.source_api.specs.declared.source.Trouble.TheVariants.{Fail}
use Rattle.wire.specs.Sparing.{HoldsResponse, WasReadSparingly}
use Rattle.wire.specs.declared.writing.Place.{Place}

-- the bytes of the link to come, where the links are told and there is one
abbrev pub next_bytes : Option (List (List ℕ)) → Option (List ℕ)
next_bytes None = None
next_bytes (Some []) = None
next_bytes (Some (bytes ∷ links)) = Some bytes

-- the first of the links to come was taken, where they are told
abbrev pub TakesFirst : Option (List (List ℕ)) → Option (List (List ℕ)) → Type 0
TakesFirst None links_now = ⊤
TakesFirst (Some links) (Some links_now) = (bytes : List ℕ) × (links ≡ bytes ∷ links_now)
TakesFirst (Some links) None = ⊥

-- no link was taken, and none given back
pub record NoLink (links links_now : Option (List (List ℕ))) (closed closed_now : Option (List Closed)) : Type 0 where
  pub stay : links_now ≡ links
  pub kept : closed_now ≡ closed

-- the first link was taken and given back, and read no further than its response; of the request it took all, where the links are told
pub record OneLink (request : List ℕ) (links links_now : Option (List (List ℕ))) (closed closed_now : Option (List Closed)) : Type 0 where
  pub one : Closed
  pub first : TakesFirst links links_now
  pub given_back : ClosesOne closed closed_now one
  pub took : IfSome links (λ told. Appends (Some []) one.taken request)
  pub sparing : WasReadSparingly HoldsResponse one.pieces

-- the same, but of the request it took all or a front
pub record OneLinkInPart (request : List ℕ) (links links_now : Option (List (List ℕ))) (closed closed_now : Option (List Closed)) : Type 0 where
  pub one : Closed
  pub first : TakesFirst links links_now
  pub given_back : ClosesOne closed closed_now one
  pub took : IfSome links (λ told. TookFront (Some []) one.taken request)
  pub sparing : WasReadSparingly HoldsResponse one.pieces

-- a call makes one request on one link, which it gives back, with no read once the response has come; where it fails or memory is refused there may be no link, or a front of the request
abbrev pub UsesLink : {T : Type 0} → List ℕ → Option (List (List ℕ)) → Option (List (List ℕ)) → Option (List Closed) → Option (List Closed)
    → Result T Trouble → Type 0
UsesLink request links links_now closed closed_now (Err (Fail Failed)) =
    NoLink links links_now closed closed_now ⊎ OneLinkInPart request links links_now closed closed_now
UsesLink request links links_now closed closed_now (Err (Fail Memory)) =
    NoLink links links_now closed closed_now ⊎ OneLinkInPart request links links_now closed closed_now
UsesLink request links links_now closed closed_now _ = OneLink request links links_now closed closed_now

-- the host of a place, and its port there
abbrev pub host_port : Place → HostPort
host_port place = record { host = string_bytes place.host; port = place.port }

-- a call dials this port of this host once, and no other, where the dial tells it; where memory is refused it may dial none
abbrev pub DialsOnce : {T : Type 0} → HostPort → Option (List HostPort) → Option (List HostPort) → Result T Trouble → Type 0
DialsOnce at dialled dialled_now (Err (Fail Memory)) = (dialled_now ≡ dialled) ⊎ (dialled_now ≡ with_more (at ∷ []) dialled)
DialsOnce at dialled dialled_now _ = dialled_now ≡ with_more (at ∷ []) dialled

-- a call fails exactly where its dial's count rose: the count rises where it fails, and stays where it doesn't
abbrev pub FailsWith : {T : Type 0} → ℕ → ℕ → Result T Trouble → Type 0
FailsWith before now (Err (Fail Failed)) = Rose before now
FailsWith before now _ = now ≡ before

-- a call that fails, or runs out of memory
abbrev pub IsUnanswered : {T : Type 0} → Result T Trouble → Type 0
IsUnanswered (Err (Fail Failed)) = ⊤
IsUnanswered (Err (Fail Memory)) = ⊤
IsUnanswered _ = ⊥
