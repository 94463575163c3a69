-- What a call did with its link, whatever it answers then.
use Rattle.std.proofs.Common.{◌≡◌, ℕ, List, [], ◌∷◌, Option, Some, None, Result, Ok, Err, sym, inr}
use Rattle.std.specs.Prelude.{IfSome}
use Rattle.std.specs.Io.KnownBytes.{Appends}
use Rattle.std.proofs.lemmas.List.{append-nil}
use Rattle.tk_io.specs.Calls.{HostPort, with_more}
use Rattle.tk_io.specs.Links.{Closed}
use Rattle.tk_io.specs.Whole.{TookFront}
use Rattle.source_api.specs.declared.source.Trouble.{Trouble}
use Rattle.source_api.specs.declared.source.FailKind.TheVariants.{Failed, Garbled, Memory}
use Rattle.source_api.specs.declared.source.Trouble.TheVariants.{Fail, Moved}
use Rattle.http_source.specs.Exchanges.{OneLink, OneLinkInPart, UsesLink, DialsOnce, FailsWith, IsUnanswered}
use Rattle.http_source.specs.Asking.{IsNoFault}

-- all of a request is a front of it
pub all_in_part : (told : Option (List (List ℕ))) (taken : Option (List ℕ)) (request : List ℕ) → IfSome told (λ links. Appends (Some []) taken request)
    → IfSome told (λ links. TookFront (Some []) taken request)
all_in_part None taken request took = tt
all_in_part (Some links) taken request took = (request, [], sym (append-nil request), took)

pub link_in_part : (request : List ℕ) (links links_now : Option (List (List ℕ))) (closed closed_now : Option (List Closed)) → OneLink request links links_now closed closed_now
    → OneLinkInPart request links links_now closed closed_now
link_in_part request links links_now closed closed_now used = record {
  one = used.one;
  first = used.first;
  given_back = used.given_back;
  took = all_in_part links used.one.taken request used.took;
  sparing = used.sparing;
}

-- ---- a body came

pub link_used : {T : Type 0} (request : List ℕ) (links links_now : Option (List (List ℕ))) (closed closed_now : Option (List Closed)) (result : Result T Trouble)
    → OneLink request links links_now closed closed_now → IsNoFault result → UsesLink request links links_now closed closed_now result
link_used request links links_now closed closed_now (Ok x) used calm = used
link_used request links links_now closed closed_now (Err (Fail Failed)) used calm = absurd calm
link_used request links links_now closed closed_now (Err (Fail Garbled)) used calm = used
link_used request links links_now closed closed_now (Err (Fail Memory)) used calm = inr (link_in_part request links links_now closed closed_now used)
link_used request links links_now closed closed_now (Err (Moved had now)) used calm = used

pub stays_calm : {T : Type 0} (before now : ℕ) (result : Result T Trouble) → now ≡ before → IsNoFault result → FailsWith before now result
stays_calm before now (Ok x) same calm = same
stays_calm before now (Err (Fail Failed)) same calm = absurd calm
stays_calm before now (Err (Fail Garbled)) same calm = same
stays_calm before now (Err (Fail Memory)) same calm = same
stays_calm before now (Err (Moved had now_)) same calm = same

-- ---- a trouble is handed on

pub link_handed : (A T : Type 0) (request : List ℕ) (links links_now : Option (List (List ℕ))) (closed closed_now : Option (List Closed)) (why : Trouble)
    → UsesLink {T = A} request links links_now closed closed_now (Err why) → UsesLink {T = T} request links links_now closed closed_now (Err why)
link_handed A T request links links_now closed closed_now (Fail Failed) used = used
link_handed A T request links links_now closed closed_now (Fail Garbled) used = used
link_handed A T request links links_now closed closed_now (Fail Memory) used = used
link_handed A T request links links_now closed closed_now (Moved had now) used = used

pub fails_handed : (A T : Type 0) (before now : ℕ) (why : Trouble) → FailsWith {T = A} before now (Err why) → FailsWith {T = T} before now (Err why)
fails_handed A T before now (Fail Failed) fails = fails
fails_handed A T before now (Fail Garbled) fails = fails
fails_handed A T before now (Fail Memory) fails = fails
fails_handed A T before now (Moved had now_) fails = fails

pub unanswered_handed : (A T : Type 0) (why : Trouble) → IsUnanswered {T = A} (Err why) → IsUnanswered {T = T} (Err why)
unanswered_handed A T (Fail Failed) none = tt
unanswered_handed A T (Fail Garbled) none = none
unanswered_handed A T (Fail Memory) none = tt
unanswered_handed A T (Moved had now) none = none

pub dials_handed : (A T : Type 0) (at : HostPort) (dialled dialled_now : Option (List HostPort)) (why : Trouble)
    → DialsOnce {T = A} at dialled dialled_now (Err why) → DialsOnce {T = T} at dialled dialled_now (Err why)
dials_handed A T at dialled dialled_now (Fail Failed) dials = dials
dials_handed A T at dialled dialled_now (Fail Garbled) dials = dials
dials_handed A T at dialled dialled_now (Fail Memory) dials = dials
dials_handed A T at dialled dialled_now (Moved had now) dials = dials

-- ---- what was dialled, whatever came of it

pub dials_once : {T : Type 0} (at : HostPort) (dialled dialled_now : Option (List HostPort)) (result : Result T Trouble) → dialled_now ≡ with_more (at ∷ []) dialled
    → DialsOnce at dialled dialled_now result
dials_once at dialled dialled_now (Ok x) once = once
dials_once at dialled dialled_now (Err (Fail Failed)) once = once
dials_once at dialled dialled_now (Err (Fail Garbled)) once = once
dials_once at dialled dialled_now (Err (Fail Memory)) once = inr once
dials_once at dialled dialled_now (Err (Moved had now)) once = once
