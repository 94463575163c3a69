use Rattle.place_shelf.proofs.place_source.PlaceSourceSource.grade.Goals as goal

pub returns-in-Http-clause-asks : goal.returns-in-Http-clause-asks
returns-in-Http-clause-asks g c = rw c.in-Http.is (record {
  answer = c.grade-in-Http.ensures.answers;
  unlinked = c.grade-in-Http.ensures.unlinked;
  failed = c.grade-in-Http.ensures.failed;
  dials = c.grade-in-Http.ensures.dialled;
  link = c.grade-in-Http.ensures.link;
  after = c.grade-in-Http.ensures.after;
})
