-- What ports and dials do with their links.
use Rattle.std.specs.Prelude.{◌≡◌, ℕ, ◌+◌, ◌-◌, ◌^◌, ◌<◌, ◌≤◌, min, List, [], ◌∷◌, ◌++◌, Option, None, Some, ⊤}
use Rattle.std.specs.Io.KnownBytes.{IsAtEnd}
use Rattle.tk_io.specs.Faults.{Rose}

-- a link that was given back: the bytes that it took, where it tells them, how many of its reads and of its writes failed, and what each read of it gave, where
-- it tells that
pub record Closed : Type 0 where
  pub taken : Option (List ℕ)
  pub read_faults : ℕ
  pub write_faults : ℕ
  pub pieces : Option (List (List ℕ))

-- the first of the links to come is given, where they are told: a link with its bytes, which tells that it took none
abbrev pub GivesFirst : Option (List (List ℕ)) → Option (List (List ℕ)) → Option (List ℕ) → Option (List ℕ) → Type 0
GivesFirst None links_now left held = ⊤
GivesFirst (Some links) (Some links_now) (Some bytes) (Some taken) = (links ≡ bytes ∷ links_now) × (taken ≡ [])
GivesFirst (Some links) _ _ _ = ⊥

-- no link is to come, where the links are told
abbrev pub HasNone : Option (List (List ℕ)) → Type 0
HasNone None = ⊤
HasNone (Some links) = links ≡ []

-- no read was made that gave something, where the pieces that reads gave are told
abbrev pub IsUnread : Option (List (List ℕ)) → Type 0
IsUnread None = ⊤
IsUnread (Some pieces) = pieces ≡ []

-- a link that was just given has taken nothing and given nothing, and no call of it failed
pub record IsFresh (held : Option (List ℕ)) (read_faults write_faults : ℕ) (pieces : Option (List (List ℕ))) : Type 0 where
  pub taken : IsAtEnd held
  pub reads : read_faults ≡ 0
  pub writes : write_faults ≡ 0
  pub unread : IsUnread pieces

-- the links that were given back are one more, where they are told
abbrev pub ClosesOne : Option (List Closed) → Option (List Closed) → Closed → Type 0
ClosesOne None closed_now one = ⊤
ClosesOne (Some closed) (Some closed_now) one = closed_now ≡ closed ++ one ∷ []
ClosesOne (Some closed) None one = ⊥

-- a count goes up by so much, and stands still at the last value of its type
pub record AddsFaults (before now by : ℕ) : Type 0 where
  pub later : before ≤ now
  pub none : by ≡ 0 → now ≡ before
  pub some : 0 < by → Rose before now
  pub exact : before ≤ 2 ^ 64 - 1 → now ≡ min (before + by) (2 ^ 64 - 1)
