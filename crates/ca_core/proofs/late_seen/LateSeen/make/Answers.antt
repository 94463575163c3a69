use Rattle.ca_core.proofs.late_seen.LateSeen.make.Goals as goal

pub returns : goal.returns
returns c = λ e. record {
  same_k = c.in-Ok.ensures.k;
  same_room = c.in-Ok.ensures.room;
  space = c.in-Ok-make.ensures.room;
  bounds = c.in-Ok.ensures.kept e c.args.lists;
  highs = c.in-Ok-make.ensures.kept e;
}
