-- Links of a port that are taken one after another.
use Rattle.std.proofs.Common.{◌≡◌, ◌+◌, ◌-◌, ◌<◌, ◌≤◌, ◌⊎◌, inl, inr, ℕ, List, [], ◌∷◌, ◌++◌, Option, Some, None, refl, sym, ap, subst, ◌∙◌, arith, append_assoc, append-nil, length-append}
use Rattle.std.specs.Prelude.{replicate}
use Rattle.std.proofs.lemmas.List.{replicate-append-replicate}
use Rattle.tk_io.specs.Calls.{PortCall, with_more}
use Rattle.tk_io.specs.Faults.{Rose}
use Rattle.tk_io.specs.Links.{GivesFirst, HasNone}
use Rattle.tk_io.proofs.Calling.{calls_then}
use Rattle.query_server.specs.Accepting.{AsksFor, GaveAll, GaveBeforeFault, GaveLinks, Took, TookAll, TookOne, TookSome}
use Rattle.query_server.specs.Serving.{AsksForLinks, ServesLinks}
use Rattle.query_server.specs.declared.accepting.Accepted.{Accepted}
use Rattle.query_server.specs.declared.accepting.Accepted.TheVariants as accepted
use Rattle.query_server.specs.declared.server.Served.{Served}
use Rattle.query_server.specs.declared.server.Served.TheVariants as served

-- before the first link
pub took_none : (links : Option (List (List ℕ))) → Took links links 0
took_none None = tt
took_none (Some links) = ([], refl, refl)

given_more : (links mid now : Option (List (List ℕ))) (left held : Option (List ℕ)) (count : ℕ) → Took links mid count → GivesFirst mid now left held
    → Took links now (count + 1)
given_more None mid now left held count took gives = tt
given_more (Some links) None now left held count took gives = absurd took
given_more (Some links) (Some mid) None left held count took gives = gives
given_more (Some links) (Some mid) (Some now) None held count took gives = absurd gives
given_more (Some links) (Some mid) (Some now) (Some bytes) None count took gives = absurd gives
given_more (Some links) (Some mid) (Some now) (Some bytes) (Some held) count took gives = (
  took.0 ++ bytes ∷ [],
  (let e = took.1 in let l = length-append took.0 (bytes ∷ []) in omega (arith, e, l)),
  took.2 ∙ (ap (λ ls. took.0 ++ ls) gives.0 ∙ sym (append_assoc took.0 (bytes ∷ []) now)),
)

-- after one more
pub took_more : (links mid now : Option (List (List ℕ))) (count : ℕ) → Took links mid count → TookOne mid now → Took links now (count + 1)
took_more links mid now count took one = given_more links mid now one.left one.held count took one.first

-- where no more was taken
pub took_same : (links mid now : Option (List (List ℕ))) (count : ℕ) → Took links mid count → now ≡ mid → Took links now count
took_same links mid now count took same = subst (λ ls. Took links ls count) (sym same) took

pub has_none : (links now : Option (List (List ℕ))) → HasNone links → now ≡ links → HasNone now
has_none links now none same = subst HasNone (sym same) none

-- before the first link nothing was asked of the port
pub gave_none : (calls : Option (List PortCall)) → calls ≡ with_more (replicate 0 PortCall.Gave) calls
gave_none None = refl
gave_none (Some calls) = ap Some (sym (append-nil calls))

-- it gave one more
pub gave_more : (calls mid now : Option (List PortCall)) (count : ℕ) → mid ≡ with_more (replicate count PortCall.Gave) calls
    → now ≡ with_more (PortCall.Gave ∷ []) mid → now ≡ with_more (replicate (count + 1) PortCall.Gave) calls
gave_more calls mid now count was is =
    is ∙ (ap (with_more (PortCall.Gave ∷ [])) was
    ∙ (calls_then (replicate count PortCall.Gave) (PortCall.Gave ∷ []) calls ∙ ap (λ cs. with_more cs calls) (replicate-append-replicate count 1 PortCall.Gave)))

-- and was asked for no further one
pub gave_all : (calls now : Option (List PortCall)) (count : ℕ) → now ≡ with_more (replicate count PortCall.Gave) calls → GaveLinks count [] calls now
gave_all calls now count is = is ∙ ap (λ cs. with_more cs calls) (sym (append-nil (replicate count PortCall.Gave)))

-- or was, and this came of it
pub gave_last : (calls mid now : Option (List PortCall)) (count : ℕ) (last : PortCall) → mid ≡ with_more (replicate count PortCall.Gave) calls
    → now ≡ with_more (last ∷ []) mid → GaveLinks count (last ∷ []) calls now
gave_last calls mid now count last was is = is ∙ (ap (with_more (last ∷ [])) was ∙ calls_then (replicate count PortCall.Gave) (last ∷ []) calls)

-- however the side with the port ended where memory ran out, it asked for links alone
pub asked_some : (asked : ℕ) (calls now : Option (List PortCall)) (result : Served) → AsksForLinks asked calls now result → AsksForLinks asked calls now served.Memory
asked_some asked calls now (served.Ended count) asks = (accepted.Ended count, asks)
asked_some asked calls now served.PortFault asks = (accepted.PortFault, asks)
asked_some asked calls now served.Memory asks = asks

-- in rounds so many of the links that were asked for were taken, no call failed, and the port was asked for nothing else
pub record TookInRounds (asked : ℕ) (links links_now : Option (List (List ℕ))) (faults faults_now : ℕ) (calls calls_now : Option (List PortCall)) (count : ℕ) : Type 0 where
  pub took : Took links links_now count
  pub few : count ≤ asked
  pub quiet : faults_now ≡ faults
  pub gave : calls_now ≡ with_more (replicate count PortCall.Gave) calls

-- before the first round
pub no_round : (asked : ℕ) (links : Option (List (List ℕ))) (faults : ℕ) (calls : Option (List PortCall))
    → TookInRounds asked links links faults faults calls calls 0
no_round asked links faults calls = record { took = took_none links; few = omega arith; quiet = refl; gave = gave_none calls }

-- links, and more of them behind
took_then : (links mid now : Option (List (List ℕ))) (count more : ℕ) → Took links mid count → Took mid now more → Took links now (count + more)
took_then None mid now count more took next = tt
took_then (Some links) None now count more took next = absurd took
took_then (Some links) (Some mid) None count more took next = absurd next
took_then (Some links) (Some mid) (Some now) count more took next = (
  took.0 ++ next.0,
  (let e = took.1 in let m = next.1 in let l = length-append took.0 next.0 in omega (arith, e, m, l)),
  took.2 ∙ (ap (λ ls. took.0 ++ ls) next.2 ∙ sym (append_assoc took.0 next.0 now)),
)

-- the calls for links, and those for more of them behind
gave_then : (calls mid now : Option (List PortCall)) (count more : ℕ) (last : List PortCall) → mid ≡ with_more (replicate count PortCall.Gave) calls
    → GaveLinks more last mid now → GaveLinks (count + more) last calls now
gave_then calls mid now count more last was is =
    let first = replicate count PortCall.Gave in
    let rest = replicate more PortCall.Gave in
    let joined : replicate count PortCall.Gave ++ (replicate more PortCall.Gave ++ last) ≡ replicate (count + more) PortCall.Gave ++ last =
    sym (append_assoc first rest last) ∙ ap (λ cs. cs ++ last) (replicate-append-replicate count more PortCall.Gave) in
    is ∙ (ap (with_more (rest ++ last)) was ∙ (calls_then first (rest ++ last) calls ∙ ap (λ cs. with_more cs calls) joined))

-- a round in which all links came that it asked for
more_gave : (calls mid now : Option (List PortCall)) (count most more : ℕ) → mid ≡ with_more (replicate count PortCall.Gave) calls → GaveAll most more mid now
    → most ≤ more → now ≡ with_more (replicate (count + more) PortCall.Gave) calls
more_gave calls mid now count most more was (inl gave) full =
    gave_then calls mid now count more [] was gave.1 ∙ ap (λ cs. with_more cs calls) (append-nil (replicate (count + more) PortCall.Gave))
more_gave calls mid now count most more was (inr gave) full = absurd (let f = gave.0 in omega (arith, f, full))

-- and one in which the port ended
last_gave : (asked count most more : ℕ) (calls mid now : Option (List PortCall)) → most ≤ asked - count → count ≤ asked
    → mid ≡ with_more (replicate count PortCall.Gave) calls → GaveAll most more mid now → more < most → GaveAll asked (count + more) calls now
last_gave asked count most more calls mid now part few was (inl gave) ends = absurd (let f = gave.0 in omega (arith, f, ends))
last_gave asked count most more calls mid now part few was (inr gave) ends =
    inr (omega (arith, part, few, ends), gave_then calls mid now count more (PortCall.Ended ∷ []) was gave.1)

-- one in which it failed
failed_gave : (asked count most : ℕ) (calls mid now : Option (List PortCall)) → most ≤ asked - count → mid ≡ with_more (replicate count PortCall.Gave) calls
    → GaveBeforeFault most mid now → GaveBeforeFault asked calls now
failed_gave asked count most calls mid now part was gave = record {
  count = count + gave.count;
  few = (let b = gave.few in omega (arith, b, part));
  gave = gave_then calls mid now count gave.count (PortCall.Failed ∷ []) was gave.gave;
}

-- and one in which memory ran out
some_gave : (asked count most : ℕ) (calls mid now : Option (List PortCall)) → most ≤ asked - count → count ≤ asked → mid ≡ with_more (replicate count PortCall.Gave) calls
    → (how : Accepted) → AsksFor most mid now how → AsksForLinks asked calls now served.Memory
some_gave asked count most calls mid now part few was (accepted.Ended more) (inl gave) = (
  accepted.Left,
  record {
    count = count + more;
    few = (let e = gave.0 in omega (arith, part, few, e));
    gave = gave_then calls mid now count more [] was gave.1;
  },
)
some_gave asked count most calls mid now part few was (accepted.Ended more) (inr gave) =
    (accepted.Ended (count + more), last_gave asked count most more calls mid now part few was (inr gave) gave.0)
some_gave asked count most calls mid now part few was accepted.PortFault gave = (accepted.PortFault, failed_gave asked count most calls mid now part was gave)
some_gave asked count most calls mid now part few was accepted.Left gave = (
  accepted.Left,
  record {
    count = count + gave.count;
    few = (let b = gave.few in omega (arith, b, part, few));
    gave = gave_then calls mid now count gave.count [] was gave.gave;
  },
)

none_left : (most more : ℕ) (now : Option (List (List ℕ))) → (more ≡ most) ⊎ HasNone now → more < most → HasNone now
none_left most more now (inl all) ends = absurd (omega (arith, all, ends))
none_left most more now (inr none) ends = none

-- a round that asked for some of the links that were left, and ended so
pub record HadRound (asked : ℕ) (links mid now : Option (List (List ℕ))) (faults was faults_now : ℕ) (calls then_ calls_now : Option (List PortCall)) (count most : ℕ)
    (how : Served) : Type 0 where
  pub before : TookInRounds asked links mid faults was calls then_ count
  pub part : most ≤ asked - count
  pub serves : ServesLinks most mid now was faults_now how
  pub asks : AsksForLinks most then_ calls_now how

module _ {asked : ℕ} {links mid now : Option (List (List ℕ))} {faults was faults_now : ℕ} {calls then_ calls_now : Option (List PortCall)} {count most : ℕ} {how : Served} where
  -- where all links came that it asked for there may be another
  pub round_more : (more : ℕ) → HadRound asked links mid now faults was faults_now calls then_ calls_now count most how → how ≡ served.Ended more → most ≤ more
      → TookInRounds asked links now faults faults_now calls calls_now (count + more)
  round_more more round is full =
      let next : TookAll most mid now was faults_now more = subst (λ (h : Served). ServesLinks most mid now was faults_now h) is round.serves in
      let gave : GaveAll most more then_ calls_now = subst (λ (h : Served). AsksForLinks most then_ calls_now h) is round.asks in
      record {
        took = took_then links mid now count more round.before.took next.took;
        few = (let a = round.before.few in let b = next.few in let p = round.part in omega (arith, a, b, p));
        quiet = next.quiet ∙ round.before.quiet;
        gave = more_gave calls then_ calls_now count most more round.before.gave gave full;
      }

  -- where fewer came the port had ended
  pub round_last : (more : ℕ) → HadRound asked links mid now faults was faults_now calls then_ calls_now count most how → how ≡ served.Ended more → more < most
      → TookAll asked links now faults faults_now (count + more)
  round_last more round is ends =
      let next : TookAll most mid now was faults_now more = subst (λ (h : Served). ServesLinks most mid now was faults_now h) is round.serves in
      record {
        took = took_then links mid now count more round.before.took next.took;
        few = (let a = round.before.few in let b = next.few in let p = round.part in omega (arith, a, b, p));
        enough = inr (none_left most more now next.enough ends);
        quiet = next.quiet ∙ round.before.quiet;
      }

  pub asked_last : (more : ℕ) → HadRound asked links mid now faults was faults_now calls then_ calls_now count most how → how ≡ served.Ended more → more < most
      → GaveAll asked (count + more) calls calls_now
  asked_last more round is ends =
      last_gave asked count most more calls then_ calls_now round.part round.before.few round.before.gave
      (subst (λ (h : Served). AsksForLinks most then_ calls_now h) is round.asks) ends

  -- or it failed
  pub round_failed : HadRound asked links mid now faults was faults_now calls then_ calls_now count most how → how ≡ served.PortFault
      → TookSome asked links now faults faults_now
  round_failed round is =
      let next : TookSome most mid now was faults_now = subst (λ (h : Served). ServesLinks most mid now was faults_now h) is round.serves in
      record {
        count = count + next.count;
        took = took_then links mid now count next.count round.before.took next.took;
        few = (let a = round.before.few in let b = next.few in let p = round.part in omega (arith, a, b, p));
        rose = subst (λ n. Rose n faults_now) round.before.quiet next.rose;
      }

  pub asked_failed : HadRound asked links mid now faults was faults_now calls then_ calls_now count most how → how ≡ served.PortFault
      → GaveBeforeFault asked calls calls_now
  asked_failed round is =
      failed_gave asked count most calls then_ calls_now round.part round.before.gave (subst (λ (h : Served). AsksForLinks most then_ calls_now h) is round.asks)

  -- or memory ran out
  pub asked_short : HadRound asked links mid now faults was faults_now calls then_ calls_now count most how → how ≡ served.Memory
      → AsksForLinks asked calls calls_now served.Memory
  asked_short round is =
      let asks : AsksForLinks most then_ calls_now served.Memory = subst (λ (h : Served). AsksForLinks most then_ calls_now h) is round.asks in
      some_gave asked count most calls then_ calls_now round.part round.before.few round.before.gave asks.0 asks.1
