use Rattle.std.proofs.Common.{◌≡◌, ◌∙◌, ℕ, Option, Some, List, set, sym, ap, subst}
use Rattle.std.specs.declared.cmp.Reverse.{Reverse}
use Rattle.containers.specs.Ranks.{rank_at}
use Rattle.ranked_list.proofs.OptionLaws.{none_unless_some}
use Rattle.machine_base.specs.declared.rank.Rank.{Rank}
use Rattle.machine_base.specs.declared.ranking.Ranking.{Ranking}
use Rattle.machine_base.specs.Halves.{IsHalvedBut, joined}
use Rattle.machine_base.proofs.Halving.{top_changed, rest_changed, tested}
use Rattle.machine_base.proofs.Joining.{joined_top, joined_rest}
use Rattle.machine_base.proofs.ranking.Ranking.put.Goals as goal
use Rattle.machine_base.proofs.ranking.Ranking.put.Goals.{then-contains, else-contains}

pub settle-requires : goal.settle-requires
settle-requires c =
    let k = c.args.self.now.k in
    let top = c.args.self.now.top in
    let rest = c.args.self.now.rest in
    let P : Ranking → Type 0 = λ (s : Ranking). (x : ℕ) × IsHalvedBut x s.k s.top s.rest in
    elim c.if-contains.branch [
      | then-contains w ↦
          let old = tested (rank_at top c.args.place) (sym w.if-contains.ensures) in
          subst P (sym w.self-is) (c.args.place, subst (λ (t : List (Option Rank)). IsHalvedBut c.args.place k t rest) (sym w.put.ensures) (top_changed k c.args.place c.args.rank old.0 top rest c.requires.halved old.1))
      | else-contains w ↦
          let none = none_unless_some (rank_at top c.args.place) (sym w.if-contains.ensures) in
          subst P (sym w.self-is) (c.args.place, subst (λ (r : List (Option (Reverse Rank))). IsHalvedBut c.args.place k top r) (sym w.put-else-contains.ensures) (rest_changed k c.args.place (record { 0 = c.args.rank }) top rest c.requires.halved none))
    ]

pub returns-clause-joined : goal.returns-clause-joined
returns-clause-joined c =
    let top = c.args.self.now.top in
    let rest = c.args.self.now.rest in
    let P : Ranking → Type 0 = λ (s : Ranking). joined s.top s.rest ≡ set (joined top rest) c.args.place (Some c.args.rank) in
    c.settle.ensures.joined
    ∙ elim c.if-contains.branch [
      | then-contains w ↦ subst P (sym w.self-is) (ap (λ (t : List (Option Rank)). joined t rest) w.put.ensures ∙ joined_top top rest c.args.place c.args.rank c.requires.halved.same_room c.requires.within)
      | else-contains w ↦
          let none = none_unless_some (rank_at top c.args.place) (sym w.if-contains.ensures) in
          subst P (sym w.self-is) (ap (joined top) w.put-else-contains.ensures ∙ joined_rest top rest c.args.place (record { 0 = c.args.rank }) c.requires.halved.same_room c.requires.within none)
    ]
