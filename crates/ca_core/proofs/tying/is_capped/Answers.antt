use Rattle.std.proofs.Common.{sym, ◌∙◌, arith, eqb-true}
use Rattle.ranked_list.proofs.OptionLaws.{none_if_is_none}
use Rattle.topk_theory.specs.Bounds.{known_grade}
use Rattle.machine_base.proofs.Unknown.{known_at, known_length, unknown_of}
use Rattle.ca_core.proofs.Capping.{bottoms_length}
use Rattle.ca_core.proofs.tying.is_capped.Goals as goal

pub bounds-known-list : goal.bounds-known-list
bounds-known-list c =
    let long = known_length c.args.transcript.now.lists c.args.transcript.now.accesses c.args.rank.object c.known.result.now c.known.ensures.known in
    omega (arith, long, c.requires.list)

pub bounds-bottoms-list : goal.bounds-bottoms-list
bounds-bottoms-list c =
    let long = bottoms_length c.args.transcript.now.lists c.args.transcript.now.accesses c.bottoms.result.now c.bottoms.ensures.bottoms in
    omega (arith, long, c.requires.list)

pub returns : goal.returns
returns c = λ same. record {
  within = c.requires.list;
  unknown = none_if_is_none (known_grade c.args.transcript.now.accesses c.args.rank.object c.args.list)
      (unknown_of _ _ (known_at c.args.transcript.now.lists c.args.list c.args.transcript.now.accesses c.args.rank.object c.known.result.now _ c.requires.list c.known.ensures.known)
      (sym c.is_some.ensures ∙ c.if-is_some.false));
  is_cap = sym (eqb-true c.cap.result c.args.rank.high same) ∙ c.cap.ensures;
}
