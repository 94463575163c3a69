use Rattle.std.proofs.Common.{◌≡◌, ◌+◌, [], ◌∷◌, ◌++◌, Ok, sym, arith}
use Rattle.std.proofs.lemmas.Result.{err_from_is_err_and}
use Rattle.topk_base.specs.Lines.{lines}
use Rattle.cert_text.specs.Judging.{SpellsEnding, SpellsFound, ending_of, found_of}
use Rattle.cert_text.proofs.JudgingLaws.{finds_fault, finds_here, judged_end}
use Rattle.cert_text.proofs.SpellLaws.{ended, found_none, found_more, found_ending, found_some, found_end}
use Rattle.cert_text.proofs.reader.read_found.Goals as goal

pub loop-line-init : goal.loop-line-init
loop-line-init c = record {
  few = omega arith;
  read = (0, omega arith, found_none c.args.wanted c.args.names.now (lines c.args.text.now) _ c.new-items.ensures.items);
}

pub loop-line-preserved : goal.loop-line-preserved
loop-line-preserved c =
    let read = c.loop-line.invariant.read in
    let pushed : c.push.new.self.items ≡ c.loop-line.items.items ++ c.in-Some-item_of.item ∷ [] = grind arith in
    record {
      few = let shorter = c.in-Some.ensures.1 in let few = c.loop-line.invariant.few in omega arith;
      read = (read.0 + 1, omega (arith, read.1), found_more c.args.wanted c.args.names.now c.in-Some.line.now c.in-Some-item_of.item (lines c.in-Some.more.now) (lines c.loop-line.rest.now) (lines c.args.text.now) c.loop-line.items.items _ read.0 (sym c.in-Some-item_of.ensures) c.in-Some.ensures.0 pushed read.2);
    }

pub returns-in_err-ending : goal.returns-in_err-ending
returns-in_err-ending c =
    let read = c.loop-line.invariant.read in
    let names = c.args.names.now in
    let front = c.loop-line.items.items in
    let p = err_from_is_err_and c.from_residual.result c.from_residual.ensures.1 in
    rw (p.1, p.2) (finds_fault (SpellsEnding c.args.wanted names) (SpellsFound c.args.wanted names) (lines c.loop-line.rest.now) (lines c.args.text.now) (ended front) read.0 c.args.first c.loop-line.number ending_of found_of c.in_err-ending.field-0.0
    (found_ending c.args.wanted names c.in-Some.line.now (lines c.in-Some.more.now) (lines c.loop-line.rest.now) (lines c.args.text.now) front read.0 (sym c.in_default-item_of.ensures) c.in-Some.ensures.0 read.2)
    read.1 c.in_err-ending.ensures)

pub returns-in_default-item_of : goal.returns-in_default-item_of
returns-in_default-item_of c =
    let read = c.loop-line.invariant.read in
    let names = c.args.names.now in
    let front = c.loop-line.items.items in
    found_ending c.args.wanted names c.in-Some.line.now (lines c.in-Some.more.now) (lines c.loop-line.rest.now) (lines c.args.text.now) front read.0 (sym c.in_default-item_of.ensures) c.in-Some.ensures.0 read.2
    (Ok (ending_of c.in_ok-ending.ending)) c.in_ok-ending.ensures

pub returns : goal.returns
returns c =
    let read = c.loop-line.invariant.read in
    let names = c.args.names.now in
    let wanted = c.args.wanted in
    finds_here (SpellsFound wanted names) (SpellsFound wanted names) (lines c.loop-line.rest.now) (lines c.args.text.now) _ read.0 c.args.first c.loop-line.number read.2 read.1
    (judged_end (SpellsFound wanted names) c.loop-line.rest.now c.in_default.ensures (found_some wanted names) (found_end wanted names))
