use Rattle.std.proofs.Common.{◌+◌, ap}
use Rattle.containers.specs.Values.{value_of}
use Rattle.bundle_text.specs.declared.reader.Reader.{Reader}
use Rattle.bundle_text.proofs.TrackLaws.{next_tracked}
use Rattle.bundle_text.proofs.reader.Reader.begin_list.Goals as goal

pub returns-clause-begins : goal.returns-clause-begins
returns-clause-begins c = λ _.
    let front = c.in_ok-close.ensures.front in
    let after : Reader = record c.close.new.self { number = c.close.new.self.number + 1 } in (
      next_tracked c.args.self.now after c.requires c.in_ok-close.ensures.last (ap (λ k. k + 1) c.in_ok-close.ensures.number) (ap (λ f. f.rows) front) (ap (λ f. f.closed) front)
          (λ object. ap (λ given. value_of given object) c.in_ok-close.ensures.given),
      front,
    )
