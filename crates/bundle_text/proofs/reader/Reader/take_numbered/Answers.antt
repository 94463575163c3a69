use Rattle.std.proofs.Common.{sym, ◌∙◌, ◌<◌, ◌^◌, length, rules}
use Rattle.bundle_text.specs.Reading.{part_read}
use Rattle.bundle_text.specs.Tracking.{front_of}
use Rattle.bundle_text.proofs.GatherSteps.{taken_line, stopped_line}
use Rattle.bundle_text.proofs.reader.Reader.take_numbered.Goals as goal

pub returns-then-not-took : goal.returns-then-not-took
returns-then-not-took c = λ text is.
    stopped_line (front_of c.args.self.now) (part_read c.args.line) text c.args.number is c.requires.other (sym c.in-Ok.ensures.tells ∙ c.if-not-took.true)

pub returns : goal.returns
returns c = λ text is.
    let few : length c.args.self.now.rows < 2 ^ 32 = search rules in
    let takes = c.in-Ok.ensures.takes c.if-not-took.false in
    taken_line (front_of c.args.self.now) (part_read c.args.line) text c.take_line.new.self c.args.number is (sym c.in-Ok.ensures.tells ∙ c.if-not-took.false)
    takes.0 takes.1 few c.requires.counted
