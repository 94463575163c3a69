use Rattle.std.proofs.Common.{◌++◌, ◌∷◌, [], sym, subst, arith}
use Rattle.std.specs.List.{AllZip}
use Rattle.std.proofs.lemmas.Slice.Zip.{all_zipped_more}
use Rattle.query_run.specs.Endings.{EndsAs}
use Rattle.test_worlds.proofs.Making.{next_ended, ends_more}
use Rattle.test_worlds.proofs.world.end_all.Goals as goal

pub end-requires : goal.end-requires
end-requires c = next_ended c.args.queries.now.items c.loop-query.queries.items c.pop.new.self.items c.in-Some.query c.loop-query.endings.items c.requires.ended c.loop-query.invariant.so_far c.in-Some.ensures.items

pub loop-query-preserved : goal.loop-query-preserved
loop-query-preserved c = record {
  so_far = ends_more c.args.queries.now.items c.loop-query.queries.items c.pop.new.self.items c.in-Some.query c.loop-query.endings.items c.push_reserved.new.self.items c.loop-query.invariant.so_far c.in-Some.ensures.items
      (λ front h. subst (AllZip EndsAs (front ++ c.in-Some.query ∷ [])) (sym c.push_reserved.ensures.items) (all_zipped_more EndsAs front c.loop-query.endings.items c.in-Some.query c.in_ok-ended.ended h c.in_ok-ended.ensures));
  room = omega (arith, c.push_reserved.ensures.len, c.push_reserved.ensures.capacity, c.in-Some.ensures.len, c.loop-query.invariant.room);
}
