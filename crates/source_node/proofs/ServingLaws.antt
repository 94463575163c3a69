-- Links that are served one after another.
use Rattle.std.proofs.Common.{◌≡◌, ◌≤◌, Bool, true, false, Ok, ◌+◌, ℕ, List, [], ◌∷◌, ◌++◌, Option, Some, None, refl, sym, ap, subst, ◌∙◌, inr, arith, append_assoc, length-append}
use Rattle.std.proofs.lemmas.List.{append-nil}
use Rattle.std.specs.Io.KnownBytes.{IsAtEnd}
use Rattle.tk_io.specs.Calls.{PortCall, with_more}
use Rattle.tk_io.proofs.Calling.{calls_then}
use Rattle.tk_io.specs.Links.{Closed, ClosesOne, GivesFirst, HasNone, IsFresh}
use Rattle.wire.specs.Sparing.{HoldsRequest, ReadsSparingly}
use Rattle.wire.proofs.SparingLaws.{sparing_fresh}
use Rattle.source_node.specs.Connections.{Ends}
use Rattle.source_node.specs.Serving.{Seen}
use Rattle.wire.specs.declared.replying.ConnEnd.{ConnEnd}
use Rattle.source_node.specs.ServingLinks.{PortAt, visit_of, ServesLink, ServesEach, ClosesAll, turns, ServesLinks, ServedAll, ServesOne, ServesFirst, ServesNext, ServesNone}

-- a link more behind others
each_more : (name : List ℕ) (version : Option ℕ) (links mid links_now : Option (List (List ℕ))) (source after source_now : Seen) (ones : List Closed) (one : Closed)
    → ServesEach name version links mid source after ones → ServesLink name version mid links_now after source_now one
    → ServesEach name version links links_now source source_now (ones ++ one ∷ [])
each_more name version links mid links_now source after source_now [] one each serves = (
  links_now,
  source_now,
  subst (λ l. ServesLink name version l links_now source source_now one) each.0
      (subst (λ s. ServesLink name version mid links_now s source_now one) each.1 serves),
  (refl, refl),
)
each_more name version links mid links_now source after source_now (first ∷ ones) one each serves =
    (each.0, each.1, each.2, each_more name version each.0 mid links_now each.1 after source_now ones one each.3 serves)

closes_more : (closed mid closed_now : Option (List Closed)) (ones : List Closed) (one : Closed) → ClosesAll closed mid ones → ClosesOne mid closed_now one
    → ClosesAll closed closed_now (ones ++ one ∷ [])
closes_more None mid closed_now ones one all more = tt
closes_more (Some closed) None closed_now ones one all more = absurd all
closes_more (Some closed) (Some mid) None ones one all more = more
closes_more (Some closed) (Some mid) (Some closed_now) ones one all more = more ∙ (ap (λ c. c ++ one ∷ []) all ∙ append_assoc closed ones (one ∷ []))

closes_none : (closed : Option (List Closed)) → ClosesAll closed closed []
closes_none None = tt
closes_none (Some closed) = sym (append-nil closed)

calls_none : (calls : Option (List PortCall)) → calls ≡ with_more [] calls
calls_none None = refl
calls_none (Some calls) = ap Some (sym (append-nil calls))

turns_more : (ones : List Closed) (one : Closed) → turns (ones ++ one ∷ []) ++ [] ≡ (turns ones ++ []) ++ PortCall.Gave ∷ PortCall.TookBack ∷ []
turns_more [] one = refl
turns_more (first ∷ ones) one = ap (λ calls. PortCall.Gave ∷ PortCall.TookBack ∷ calls) (turns_more ones one)

-- before the first link
pub none_served : (name : List ℕ) (version : Option ℕ) (port : PortAt) (source : Seen) → ServesLinks name version port port source source 0 []
none_served name version port source =
    record { ones = []; number = refl; each = (refl, refl); closed = closes_none port.closed; in_turn = calls_none port.calls }

-- after one more
pub one_more : (name : List ℕ) (version : Option ℕ) (before mid now : PortAt) (source after source_now : Seen) (count : ℕ)
    → ServesLinks name version before mid source after count [] → ServesFirst name version mid now after source_now
    → ServesLinks name version before now source source_now (count + 1) []
one_more name version before mid now source after source_now count served next = record {
  ones = served.ones ++ next.one ∷ [];
  number = let e = served.number in let l = length-append served.ones (next.one ∷ []) in omega (arith, e, l);
  each = each_more name version before.links mid.links now.links source after source_now served.ones next.one served.each next.serves;
  closed = closes_more before.closed mid.closed now.closed served.ones next.one served.closed next.given_back;
  in_turn =
      next.in_turn
      ∙ (ap (with_more (PortCall.Gave ∷ PortCall.TookBack ∷ [])) served.in_turn
      ∙ (calls_then (turns served.ones ++ []) (PortCall.Gave ∷ PortCall.TookBack ∷ []) before.calls
      ∙ ap (λ made. with_more made before.calls) (sym (turns_more served.ones next.one))));
}

-- where no more came
pub none_more : (name : List ℕ) (version : Option ℕ) (before mid now : PortAt) (source after source_now : Seen) (count : ℕ) (call : PortCall)
    → ServesLinks name version before mid source after count [] → ServesNone call mid now after source_now
    → ServesLinks name version before now source source_now count (call ∷ [])
none_more name version before mid now source after source_now count call served none = record {
  ones = served.ones;
  number = served.number;
  each = subst (λ l. ServesEach name version before.links l source source_now served.ones) (sym none.links)
      (subst (λ s. ServesEach name version before.links mid.links source s served.ones) (sym none.same) served.each);
  closed = subst (λ c. ClosesAll before.closed c served.ones) (sym none.closed) served.closed;
  in_turn =
      none.asked
      ∙ (ap (with_more (call ∷ [])) served.in_turn
      ∙ (calls_then (turns served.ones ++ []) (call ∷ []) before.calls
      ∙ ap (λ made. with_more (made ++ call ∷ []) before.calls) (append-nil (turns served.ones))));
}

-- the connection of a fresh link, by the counts that it had
served_fresh : (name : List ℕ) (version : Option ℕ) (came held : Option (List ℕ)) (read_faults write_faults : ℕ) (pieces : Option (List (List ℕ))) (one : Closed) (source source_now : Seen) (end : ConnEnd)
    → IsFresh held read_faults write_faults pieces
    → Ends name version (record (visit_of came held one source source_now) { read_faults = read_faults; write_faults = write_faults }) end
    → Ends name version (visit_of came held one source source_now) end
served_fresh name version came held read_faults write_faults pieces one source source_now end fresh ends =
    subst (λ r. Ends name version (record (visit_of came held one source source_now) { read_faults = r; write_faults = 0 }) end) fresh.reads
    (subst (λ w. Ends name version (record (visit_of came held one source source_now) { read_faults = read_faults; write_faults = w }) end) fresh.writes ends)

-- a fresh link that was served and given back
pub served_once : (name : List ℕ) (version : Option ℕ) (came held : Option (List ℕ)) (read_faults write_faults : ℕ) (pieces : Option (List (List ℕ)))
    (closed closed_now : Option (List Closed)) (one : Closed) (source source_now : Seen)
    → IsFresh held read_faults write_faults pieces → ClosesOne closed closed_now one
    → ((end : ConnEnd) × Ends name version (record (visit_of came held one source source_now) { read_faults = read_faults; write_faults = write_faults }) end)
    → ReadsSparingly HoldsRequest [] pieces one.pieces → ServesOne name version came held closed closed_now source source_now
served_once name version came held read_faults write_faults pieces closed closed_now one source source_now fresh given_back ended sparing = record {
  one = one;
  given_back = given_back;
  end = ended.0;
  ends = served_fresh name version came held read_faults write_faults pieces one source source_now ended.0 fresh ended.1;
  sparing = sparing_fresh HoldsRequest pieces one.pieces fresh.unread sparing;
}

-- the next link, which was given and served
pub first_served : (name : List ℕ) (version : Option ℕ) (before mid now : PortAt) (came held : Option (List ℕ)) (source source_now : Seen)
    → GivesFirst before.links mid.links came held → IsAtEnd held → mid.closed ≡ before.closed → mid.faults ≡ before.faults
    → mid.calls ≡ with_more (PortCall.Gave ∷ []) before.calls
    → now.links ≡ mid.links → now.faults ≡ mid.faults → now.calls ≡ with_more (PortCall.TookBack ∷ []) mid.calls → ServesOne name version came held mid.closed now.closed source source_now
    → source_now.list ≡ source.list → source_now.states ≡ source.states → ServesFirst name version before now source source_now
first_served name version before mid now came held source source_now first unused closed faults gave links quiet took serves list states = record {
  one = serves.one;
  given_back = subst (λ c. ClosesOne c now.closed serves.one) closed serves.given_back;
  in_turn = took ∙ (ap (with_more (PortCall.TookBack ∷ [])) gave ∙ calls_then (PortCall.Gave ∷ []) (PortCall.TookBack ∷ []) before.calls);
  serves = record {
    came = came;
    held = held;
    first = subst (λ l. GivesFirst before.links l came held) (sym links) first;
    unused = unused;
    end = serves.end;
    ends = serves.ends;
    sparing = serves.sparing;
    list = list;
    states = states;
  };
  quiet = quiet ∙ faults;
}

-- where a link came, it was served
pub next_served : (E : Type 0) (name : List ℕ) (version : Option ℕ) (before now : PortAt) (source source_now : Seen) (came : Bool) → came ≡ true
    → ServesNext {E = E} name version before now source source_now (Ok came) → ServesFirst name version before now source source_now
next_served E name version before now source source_now came is serves =
    subst (λ t. ServesNext {E = E} name version before now source source_now (Ok t)) is serves

-- and where none came the port has ended
pub none_came : (E : Type 0) (name : List ℕ) (version : Option ℕ) (before now : PortAt) (source source_now : Seen) (came : Bool) → came ≡ false
    → ServesNext {E = E} name version before now source source_now (Ok came)
    → ServesNone PortCall.Ended before now source source_now × HasNone before.links × (now.faults ≡ before.faults)
none_came E name version before now source source_now came is serves =
    subst (λ t. ServesNext {E = E} name version before now source source_now (Ok t)) is serves

-- all links were served that came before the port ended
pub all_that_came : (name : List ℕ) (version : Option ℕ) (asked : ℕ) (before mid now : PortAt) (source after source_now : Seen) (count : ℕ) → count ≤ asked
    → mid.faults ≡ before.faults → ServesLinks name version before mid source after count []
    → ServesNone PortCall.Ended mid now after source_now × HasNone mid.links × (now.faults ≡ mid.faults)
    → ServedAll name version asked before now source source_now count
all_that_came name version asked before mid now source after source_now count few quiet served none = record {
  last = PortCall.Ended ∷ [];
  served = none_more name version before mid now source after source_now count PortCall.Ended served none.0;
  few = few;
  enough = inr (subst HasNone (sym none.0.links) none.1, refl);
  quiet = none.2 ∙ quiet;
}
