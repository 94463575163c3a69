use Rattle.std.proofs.Common.{sym, ap, ◌∙◌, subst, List}
use Rattle.containers.specs.Values.{value_of}
use Rattle.ranked_list.specs.declared.row.Row.{Row}
use Rattle.ranked_list.specs.Rows.{last_row, TellsObjects}
use Rattle.bundle_text.specs.Reading.{InsideList}
use Rattle.bundle_text.specs.Tracking.{front_of, has_number}
use Rattle.ranked_list.proofs.RowLaws.{last_row-push}
use Rattle.bundle_text.proofs.TrackLaws.{seen-marked, first-marked, past-marked, none_or_had, refused_row}
use Rattle.bundle_text.proofs.reader.Reader.add_row.Goals as goal

pub returns-then-not-may_have-clause-tells : goal.returns-then-not-may_have-clause-tells
returns-then-not-may_have-clause-tells c =
    sym (refused_row c.args.self.now c.args.row c.requires c.in_ok-before.before c.in_ok-before.ensures.tells (sym c.may_have.ensures ∙ c.if-not-may_have.true))

pub returns-clause-adds : goal.returns-clause-adds
returns-clause-adds c = λ _.
    let before = c.args.self.now in
    let pushed = c.in_ok-push.ensures.ok in
    let given = value_of before.given in
    let marks = c.in_ok-before.ensures.marks in
    let had = none_or_had before c.args.row c.requires c.in_ok-before.before c.in_ok-before.ensures.tells (sym c.may_have.ensures ∙ c.if-not-may_have.false) in
    let seen = seen-marked before.number given (value_of c.mark.new.numbers) c.args.row marks before.rows c.requires.seen in (
      record {
        last = sym (ap last_row pushed ∙ last_row-push before.rows c.args.row);
        number = c.requires.number;
        seen = subst (TellsObjects (λ object. has_number before.number (value_of c.mark.new.numbers object))) (sym pushed) seen;
        first = first-marked before.number given (value_of c.mark.new.numbers) c.args.row marks before.closed.items had c.requires.first;
        past = past-marked before.number given (value_of c.mark.new.numbers) c.args.row marks c.requires.past;
      },
      ap (λ (rows : List Row). with_rows (front_of before) rows) pushed,
    )
  where
    with_rows : InsideList → List Row → InsideList
    with_rows front rows = record front { rows = rows }
