use Rattle.std.proofs.Common.{length, refl, subst, arith}
use Rattle.std.proofs.lemmas.Option.{slice_get_read}
use Rattle.std.proofs.lemmas.List.{take_all}
use Rattle.catalog_open.specs.Wanted.{AreMarked}
use Rattle.catalog_open.proofs.Marking.{marked_next}
use Rattle.catalog_open.proofs.wanted.mark_wanted.Goals as goal

pub loop-line-preserved : goal.loop-line-preserved
loop-line-preserved c = record {
  many = c.in_ok-mark_line.ensures.many;
  marks = λ lines read. marked_next c.args.catalog.now lines c.args.read.now c.loop-line.line-index c.line-item.result c.loop-line.marks.items c.mark_line.new.marks.items (omega arith)
      (slice_get_read c.args.read.now (length c.args.read.now) c.loop-line.line-index c.line-item.result refl c.loop-line-test.true c.line-item.is) read
      (c.loop-line.invariant.marks lines read) c.in_ok-mark_line.ensures.many (λ number bytes is. c.in_ok-mark_line.ensures.marks number bytes is);
}

pub returns : goal.returns
returns c = λ lines read.
    subst (λ ls. AreMarked c.args.catalog.now ls c.loop-line.marks.items)
    (take_all c.loop-line.line-index lines (let past = c.loop-line-test.false in let many = read.many in omega (arith, past, many)))
    (c.loop-line.invariant.marks lines read)

pub mark_line-requires : goal.mark_line-requires
mark_line-requires c = c.loop-line.invariant.many
