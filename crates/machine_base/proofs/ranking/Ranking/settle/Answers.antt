use Rattle.std.proofs.Common.{◌≡◌, ◌∙◌, ℕ, ◌<◌, ◌≤◌, Option, Some, None, List, length, count_by, is_some, set, refl, sym, ap, arith}
use Rattle.std.specs.declared.cmp.Reverse.{Reverse}
use Rattle.std.proofs.lemmas.List.{length-set}
use Rattle.containers.specs.Ranks.{rank_at, HasNone}
use Rattle.machine_base.specs.declared.rank.Rank.{Rank}
use Rattle.machine_base.specs.Halves.{IsHalved, IsHalvedBut}
use Rattle.machine_base.proofs.Halving.{within_at, count_none, none_left, raised, still_parted, exchanged, absent_from_top}
use Rattle.machine_base.proofs.Joining.{joined_raised, joined_exchanged, same_joined, same_halved}
use Rattle.machine_base.proofs.ranking.Ranking.settle.Goals as goal

-- k ranks are some
no_first : (k changed : ℕ) (top : List (Option Rank)) (rest : List (Option (Reverse Rank))) → IsHalvedBut changed k top rest → k ≤ count_by is_some top → HasNone top
    → IsHalved k top rest
no_first k changed top rest halved whole none =
    let positive = halved.positive in
    let counted = count_none top none in
    absurd (omega arith)

-- a place is one of the first and of the others
in_top : (k changed key : ℕ) (best : Reverse Rank) (top : List (Option Rank)) (rest : List (Option (Reverse Rank))) → IsHalvedBut changed k top rest
    → rank_at rest key ≡ Some best → key < length top
in_top k changed key best top rest halved at =
    let within = within_at rest key best at in
    let same = halved.same_room in
    omega arith

in_rest : (k changed key : ℕ) (last : Rank) (top : List (Option Rank)) (rest : List (Option (Reverse Rank))) → IsHalvedBut changed k top rest
    → rank_at top key ≡ Some last → key < length rest
in_rest k changed key last top rest halved at =
    let within = within_at top key last at in
    let same = halved.same_room in
    omega arith

-- a write leaves the places
still_in : {T : Type 0} (ranks written : List (Option T)) (key place : ℕ) (rank : Option T) → written ≡ set ranks place rank → key < length ranks
    → key < length written
still_in {T = T} ranks written key place rank is within =
    let same : length written ≡ length ranks = ap (λ (l : List (Option T)). length l) is ∙ length-set ranks place rank in
    omega arith

pub returns-in_default-clause-halved : goal.returns-in_default-clause-halved
returns-in_default-clause-halved c = none_left c.args.self.now.k c.requires.0 c.args.self.now.top c.args.self.now.rest c.requires.1 c.in_default.ensures.none

pub returns-in_default-clause-joined : goal.returns-in_default-clause-joined
returns-in_default-clause-joined c = refl

pub returns-in_default-greatest-clause-halved : goal.returns-in_default-greatest-clause-halved
returns-in_default-greatest-clause-halved c =
    let k = c.args.self.now.k in
    let top = c.args.self.now.top in
    let whole : k ≤ count_by is_some top = omega arith in
    no_first k c.requires.0 top c.args.self.now.rest c.requires.1 whole c.in_default-greatest.ensures.none

pub returns-in_default-greatest-clause-joined : goal.returns-in_default-greatest-clause-joined
returns-in_default-greatest-clause-joined c = refl

pub raise-requires-clause-top : goal.raise-requires-clause-top
raise-requires-clause-top c =
    let best = c.in-Some.best in
    in_top c.args.self.now.k c.requires.0 best.key best.rank c.args.self.now.top c.args.self.now.rest c.requires.1 c.in-Some.ensures.greatest.there

pub raise-requires-clause-rest : goal.raise-requires-clause-rest
raise-requires-clause-rest c =
    let best = c.in-Some.best in
    within_at c.args.self.now.rest best.key best.rank c.in-Some.ensures.greatest.there

pub raise-requires-then-lt-clause-top : goal.raise-requires-then-lt-clause-top
raise-requires-then-lt-clause-top c =
    let best = c.in-Some.best in
    in_top c.args.self.now.k c.requires.0 best.key best.rank c.args.self.now.top c.args.self.now.rest c.requires.1 c.in-Some.ensures.greatest.there

pub raise-requires-then-lt-clause-rest : goal.raise-requires-then-lt-clause-rest
raise-requires-then-lt-clause-rest c =
    let best = c.in-Some.best in
    within_at c.args.self.now.rest best.key best.rank c.in-Some.ensures.greatest.there

pub remove-requires : goal.remove-requires
remove-requires c =
    let best = c.in-Some.best in
    let last = c.in-Some-greatest.last in
    let top = c.args.self.now.top in
    still_in top c.raise-then-lt.new.top last.key best.key (Some best.rank.0) c.raise-then-lt.ensures.top (within_at top last.key last.rank c.in-Some-greatest.ensures.greatest.there)

pub put-requires : goal.put-requires
put-requires c =
    let best = c.in-Some.best in
    let last = c.in-Some-greatest.last in
    let rest = c.args.self.now.rest in
    still_in rest c.raise-then-lt.new.rest last.key best.key None c.raise-then-lt.ensures.rest
    (in_rest c.args.self.now.k c.requires.0 last.key last.rank c.args.self.now.top rest c.requires.1 c.in-Some-greatest.ensures.greatest.there)

pub returns-then-len-self-clause-halved : goal.returns-then-len-self-clause-halved
returns-then-len-self-clause-halved c =
    let k = c.args.self.now.k in
    let top = c.args.self.now.top in
    let rest = c.args.self.now.rest in
    let best = c.in-Some.best in
    same_halved k c.raise.new.top (set top best.key (Some best.rank.0)) c.raise.new.rest (set rest best.key None) c.raise.ensures.top c.raise.ensures.rest
    (raised k c.requires.0 best.key best.rank top rest c.requires.1 c.in-Some.ensures.greatest.there (omega arith))

pub returns-then-len-self-clause-joined : goal.returns-then-len-self-clause-joined
returns-then-len-self-clause-joined c =
    let k = c.args.self.now.k in
    let top = c.args.self.now.top in
    let rest = c.args.self.now.rest in
    let best = c.in-Some.best in
    let at = c.in-Some.ensures.greatest.there in
    same_joined c.raise.new.top (set top best.key (Some best.rank.0)) c.raise.new.rest (set rest best.key None) c.raise.ensures.top c.raise.ensures.rest
    ∙ joined_raised top rest best.key best.rank c.requires.1.same_room (absent_from_top k c.requires.0 best.key best.rank top rest c.requires.1 at) at

pub returns-then-lt-clause-halved : goal.returns-then-lt-clause-halved
returns-then-lt-clause-halved c =
    let k = c.args.self.now.k in
    let top = c.args.self.now.top in
    let rest = c.args.self.now.rest in
    let best = c.in-Some.best in
    let last = c.in-Some-greatest.last in
    let whole : k ≤ count_by is_some top = omega arith in
    same_halved k c.remove.new.self (set (set top best.key (Some best.rank.0)) last.key None) c.put.new.self (set (set rest best.key None) last.key (Some (record { 0 = last.rank })))
    (c.remove.ensures ∙ ap (λ (t : List (Option Rank)). set t last.key None) c.raise-then-lt.ensures.top)
    (c.put.ensures ∙ ap (λ (r : List (Option (Reverse Rank))). set r last.key (Some (record { 0 = last.rank }))) c.raise-then-lt.ensures.rest)
    (exchanged k c.requires.0 best.key last.key best.rank last.rank top rest c.requires.1 whole c.in-Some.ensures.greatest.there c.in-Some-greatest.ensures.greatest.there c.in-Some.ensures.greatest.none_above c.in-Some-greatest.ensures.greatest.none_above
    (sym c.if-lt.ensures))

pub returns-then-lt-clause-joined : goal.returns-then-lt-clause-joined
returns-then-lt-clause-joined c =
    let k = c.args.self.now.k in
    let top = c.args.self.now.top in
    let rest = c.args.self.now.rest in
    let best = c.in-Some.best in
    let last = c.in-Some-greatest.last in
    let at = c.in-Some.ensures.greatest.there in
    same_joined c.remove.new.self (set (set top best.key (Some best.rank.0)) last.key None) c.put.new.self (set (set rest best.key None) last.key (Some (record { 0 = last.rank })))
    (c.remove.ensures ∙ ap (λ (t : List (Option Rank)). set t last.key None) c.raise-then-lt.ensures.top)
    (c.put.ensures ∙ ap (λ (r : List (Option (Reverse Rank))). set r last.key (Some (record { 0 = last.rank }))) c.raise-then-lt.ensures.rest)
    ∙ joined_exchanged top rest best.key last.key best.rank last.rank c.requires.1.same_room (absent_from_top k c.requires.0 best.key best.rank top rest c.requires.1 at) at c.in-Some-greatest.ensures.greatest.there

pub returns-else-lt-clause-halved : goal.returns-else-lt-clause-halved
returns-else-lt-clause-halved c =
    let k = c.args.self.now.k in
    let top = c.args.self.now.top in
    let rest = c.args.self.now.rest in
    let best = c.in-Some.best in
    let last = c.in-Some-greatest.last in
    let whole : k ≤ count_by is_some top = omega arith in
    still_parted k c.requires.0 best.rank last.rank top rest c.requires.1 whole c.in-Some.ensures.greatest.none_above c.in-Some-greatest.ensures.greatest.none_above
    (sym c.if-lt.ensures)

pub returns-else-lt-clause-joined : goal.returns-else-lt-clause-joined
returns-else-lt-clause-joined c = refl
