use Rattle.std.proofs.Common.{◌≡◌, ◌≢◌, ◌+◌, [], ◌∷◌, ◌++◌, codes, sym, arith}
use Rattle.topk_base.specs.Lines.{lines}
use Rattle.cert_text.specs.Judging.{SpellsNone, SpellsAccesses}
use Rattle.cert_text.proofs.JudgingLaws.{finds_same, finds_here, judged_here, judged_end}
use Rattle.cert_text.proofs.SpellLaws.{accesses_none, accesses_more, accesses_ended, accesses_some, accesses_end, accesses_here}
use Rattle.cert_text.proofs.reader.read_accesses.Goals as goal

pub loop-line-init : goal.loop-line-init
loop-line-init c = record {
  few = omega arith;
  read = (0, omega arith, accesses_none c.args.names.now (lines c.args.text.now) _ c.new-accesses.ensures.items);
}

pub loop-line-preserved : goal.loop-line-preserved
loop-line-preserved c =
    let read = c.loop-line.invariant.read in
    let pushed : c.push.new.self.items ≡ c.loop-line.accesses.items ++ c.in-Some-access_of.access ∷ [] = grind arith in
    record {
      few = let shorter = c.in-Some.ensures.1 in let few = c.loop-line.invariant.few in omega arith;
      read = (read.0 + 1, omega (arith, read.1), accesses_more c.args.names.now c.in-Some.line.now c.in-Some-access_of.access (lines c.in-Some.more.now) (lines c.loop-line.rest.now) (lines c.args.text.now) c.loop-line.accesses.items _ read.0 c.requires.names (sym c.in-Some-access_of.ensures) c.in-Some.ensures.0 pushed read.2);
    }

pub returns-then-is_end : goal.returns-then-is_end
returns-then-is_end c =
    let read = c.loop-line.invariant.read in
    let front = c.loop-line.accesses.items in
    let last : c.in-Some.line.now ≡ codes "end" = c.is_end.ensures.0 c.if-is_end.true in
    finds_same (SpellsNone front) (SpellsAccesses c.args.names.now) (lines c.in-Some.more.now) (lines c.args.text.now) (λ _. front) (read.0 + 1) c.args.first (c.loop-line.number + 1) (λ v. v.items) (λ v. v.items) c.end_accesses.result
    (λ v none. sym none.1)
    (accesses_ended c.args.names.now c.in-Some.line.now (lines c.in-Some.more.now) (lines c.loop-line.rest.now) (lines c.args.text.now) front read.0 c.requires.names last c.in-Some.ensures.0 read.2)
    (omega (arith, read.1)) c.end_accesses.ensures

pub returns-in_default-access_of : goal.returns-in_default-access_of
returns-in_default-access_of c =
    let read = c.loop-line.invariant.read in
    let names = c.args.names.now in
    let other : c.in-Some.line.now ≢ codes "end" = λ e. let t = c.is_end.ensures.1 e in let f = c.if-is_end.false in cc in
    finds_here (SpellsAccesses names) (SpellsAccesses names) (lines c.loop-line.rest.now) (lines c.args.text.now) _ read.0 c.args.first c.loop-line.number read.2 read.1
    (judged_here (SpellsAccesses names) c.in-Some.line.now (lines c.in-Some.more.now) (lines c.loop-line.rest.now) c.in-Some.ensures.0 (accesses_some names)
    (accesses_here names c.in-Some.line.now c.requires.names (sym c.in_default-access_of.ensures) other))

pub returns : goal.returns
returns c =
    let read = c.loop-line.invariant.read in
    let names = c.args.names.now in
    finds_here (SpellsAccesses names) (SpellsAccesses names) (lines c.loop-line.rest.now) (lines c.args.text.now) _ read.0 c.args.first c.loop-line.number read.2 read.1
    (judged_end (SpellsAccesses names) c.loop-line.rest.now c.in_default.ensures (accesses_some names) (accesses_end names))
