use Rattle.std.proofs.Common.{◌+◌, ℕ, List, Bor, [], map, ap, refl, sym, subst, arith}
use Rattle.std.proofs.lemmas.List.{take_all}
use Rattle.catalog_open.specs.Wanted.{AreRead}
use Rattle.catalog_open.proofs.ReadOn.{read_none, read_next}
use Rattle.catalog_open.proofs.reading.read_into.Goals as goal

pub loop-line-init : goal.loop-line-init
loop-line-init c = record {
  number = refl;
  are = subst (AreRead []) (sym c.requires) read_none;
}

pub loop-line-preserved : goal.loop-line-preserved
loop-line-preserved c = record {
  number = ap (λ n. n + 1) c.loop-line.invariant.number;
  are = read_next c.args.lines.now c.loop-line.line-index _ c.loop-line.number c.loop-line.read.items c.read_next.new.read.items c.loop-line.invariant.number (omega arith)
      c.loop-line.invariant.are c.in_ok-read_next.ensures;
}

pub returns : goal.returns
returns c =
    subst (λ (lines : List (Bor (List ℕ))). AreRead (map (λ line. line.now) lines) c.loop-line.read.items)
    (take_all c.loop-line.line-index c.args.lines.now c.loop-line-test.false) c.loop-line.invariant.are
