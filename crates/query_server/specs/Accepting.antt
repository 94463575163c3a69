-- How the links of a port are taken.
use Rattle.std.specs.Prelude.{◌≡◌, ◌⊎◌, ◌<◌, ◌≤◌, ℕ, List, [], ◌∷◌, ◌++◌, Option, Some, None, length, replicate, ⊤}
use Rattle.tk_io.specs.Calls.{PortCall, with_more}
use Rattle.tk_io.specs.Faults.{Rose}
use Rattle.tk_io.specs.Links.{GivesFirst, HasNone}
use Rattle.query_server.specs.declared.accepting.Accepted.{Accepted}
use Rattle.query_server.specs.declared.accepting.Accepted.TheVariants as accepted
use Rattle.query_server.specs.declared.accepting.Next.{Next}
use Rattle.query_server.specs.declared.accepting.Next.TheVariants as next

-- so many of the links that were to come were taken, in their order, and the others are still to come, where they are told
abbrev pub Took : Option (List (List ℕ)) → Option (List (List ℕ)) → ℕ → Type 0
Took None links_now count = ⊤
Took (Some links) None count = ⊥
Took (Some links) (Some links_now) count = (taken : List (List ℕ)) × (length taken ≡ count) × (links ≡ taken ++ links_now)

-- the first of the links to come was taken
pub record TookOne (links links_now : Option (List (List ℕ))) : Type 0 where
  pub left : Option (List ℕ)
  pub held : Option (List ℕ)
  pub first : GivesFirst links links_now left held

-- so many links were taken: all that were asked for, or all that came before the port ended
pub record TookAll (asked : ℕ) (links links_now : Option (List (List ℕ))) (faults faults_now count : ℕ) : Type 0 where
  pub took : Took links links_now count
  pub few : count ≤ asked
  pub enough : (count ≡ asked) ⊎ HasNone links_now
  pub quiet : faults_now ≡ faults

-- some links were taken before the port failed to give one
pub record TookSome (asked : ℕ) (links links_now : Option (List (List ℕ))) (faults faults_now : ℕ) : Type 0 where
  pub count : ℕ
  pub took : Took links links_now count
  pub few : count < asked
  pub rose : Rose faults faults_now

-- some links were taken before nobody took them any more
pub record TookFew (asked : ℕ) (links links_now : Option (List (List ℕ))) (faults faults_now : ℕ) : Type 0 where
  pub count : ℕ
  pub took : Took links links_now count
  pub few : count ≤ asked
  pub quiet : faults_now ≡ faults

-- how taking at most so many links of a port ends
abbrev pub Accepts : ℕ → Option (List (List ℕ)) → Option (List (List ℕ)) → ℕ → ℕ → Accepted → Type 0
Accepts asked links links_now faults faults_now (accepted.Ended count) = TookAll asked links links_now faults faults_now count
Accepts asked links links_now faults faults_now accepted.PortFault = TookSome asked links links_now faults faults_now
Accepts asked links links_now faults faults_now accepted.Left = TookFew asked links links_now faults faults_now

-- what comes of the next link: it was taken, or the port has ended, or it failed
abbrev pub AcceptsNext : Option (List (List ℕ)) → Option (List (List ℕ)) → ℕ → ℕ → Next → Type 0
AcceptsNext links links_now faults faults_now next.Handed = TookOne links links_now × (faults_now ≡ faults)
AcceptsNext links links_now faults faults_now next.Left = TookOne links links_now × (faults_now ≡ faults)
AcceptsNext links links_now faults faults_now next.Ended = (links_now ≡ links) × HasNone links × (faults_now ≡ faults)
AcceptsNext links links_now faults faults_now next.Failed = (links_now ≡ links) × Rose faults faults_now

-- what a port is asked for the next link, and what came of it
abbrev pub call_of : Next → PortCall
call_of next.Handed = PortCall.Gave
call_of next.Left = PortCall.Gave
call_of next.Ended = PortCall.Ended
call_of next.Failed = PortCall.Failed

-- a port was asked for links and for nothing else: it gave so many, and behind the last of them came these calls
abbrev pub GaveLinks : ℕ → List PortCall → Option (List PortCall) → Option (List PortCall) → Type 0
GaveLinks count last calls calls_now = calls_now ≡ with_more (replicate count PortCall.Gave ++ last) calls

-- a port gave all links that it was to be asked for and was asked for no more, or it gave fewer and then had ended
abbrev pub GaveAll : ℕ → ℕ → Option (List PortCall) → Option (List PortCall) → Type 0
GaveAll asked count calls calls_now =
    ((count ≡ asked) × GaveLinks count [] calls calls_now) ⊎ ((count < asked) × GaveLinks count (PortCall.Ended ∷ []) calls calls_now)

-- a port failed before it had given all links that it was to be asked for
pub record GaveBeforeFault (asked : ℕ) (calls calls_now : Option (List PortCall)) : Type 0 where
  pub count : ℕ
  pub few : count < asked
  pub gave : GaveLinks count (PortCall.Failed ∷ []) calls calls_now

-- a port gave some of the links that it was to be asked for, and was asked for no more
pub record GaveSome (asked : ℕ) (calls calls_now : Option (List PortCall)) : Type 0 where
  pub count : ℕ
  pub few : count ≤ asked
  pub gave : GaveLinks count [] calls calls_now

-- what a side that ended so, and was to take so many links, asked of the port
abbrev pub AsksFor : ℕ → Option (List PortCall) → Option (List PortCall) → Accepted → Type 0
AsksFor asked calls calls_now (accepted.Ended count) = GaveAll asked count calls calls_now
AsksFor asked calls calls_now accepted.PortFault = GaveBeforeFault asked calls calls_now
AsksFor asked calls calls_now accepted.Left = GaveSome asked calls calls_now
