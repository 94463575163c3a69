use Rattle.std.proofs.Common.{ℕ, List, length, length-append, refl, sym, ap, subst, ◌∙◌, arith}
use Rattle.std.proofs.lemmas.Result.{err_from_is_err_and}
use Rattle.std.specs.Io.KnownBytes.{Consumes}
use Rattle.std.proofs.KnownBytes.{Consumes-nil, Consumes-trans}
use Rattle.tk_io.proofs.Reading.{stops_reading}
use Rattle.tk_io.proofs.whole.read_text.Goals as goal

pub returns-in_err-read_piece-clause-counts : goal.returns-in_err-read_piece-clause-counts
returns-in_err-read_piece-clause-counts g c = omega (arith, c.in_err-read_piece.ensures.counts)

pub returns-in_err-read_piece-clause-stopped : goal.returns-in_err-read_piece-clause-stopped
returns-in_err-read_piece-clause-stopped g c =
    let p = err_from_is_err_and c.from_residual.result c.from_residual.ensures.1 in
    let given = c.in_err-read_piece.ensures.given in
    rw (p.1, p.2) (stops_reading c.args.limit c.asked-most.result _ _ _ c.loop-text.text.items given.0 _ _ _ _ c.loop-text.invariant.0 c.loop-text.invariant.1
    (omega arith) (omega (arith, c.asked-most.ensures.within)) given.1 given.2 c.in_err-read_piece.ensures.stopped)

pub returns-clause-stopped : goal.returns-clause-stopped
returns-clause-stopped g c =
    let text = c.loop-text.text in
    ((text.items, omega (arith, text.ok.0, c.loop-text.invariant.2), c.loop-text.invariant.1), c.loop-text.invariant.0)

pub loop-text-init : goal.loop-text-init
loop-text-init g c = (
  refl,
  subst (λ (text : List ℕ). Consumes (g.R.Intake.left c.args.input.now) (g.R.Intake.left c.args.input.now) text) (sym c.new-text.ensures.items) (Consumes-nil (g.R.Intake.left c.args.input.now)),
  omega (arith, c.new-text.ensures.len),
  refl,
)

pub loop-text-preserved : goal.loop-text-preserved
loop-text-preserved g c =
    let given = c.in_ok-read_piece.ensures.given in
    let text = c.loop-text.text in
    let now = c.read_piece.new.text in (
      c.in_ok-read_piece.ensures.quiet ∙ c.loop-text.invariant.0,
      subst (λ (all : List ℕ). Consumes (g.R.Intake.left c.args.input.now) (g.R.Intake.left c.read_piece.new.input) all) (sym {A = List ℕ} given.3.1) (Consumes-trans _ _ _ text.items given.0 c.loop-text.invariant.1 given.1),
      omega (arith, ap (length {A = ℕ}) given.3.1, length-append text.items given.0, given.2, c.asked-most.ensures.within, now.ok.0, text.ok.0),
      c.read_piece.ensures.apart ∙ c.loop-text.invariant.3,
    )

pub returns-then-branch-eq0-clause-whole : goal.returns-then-branch-eq0-clause-whole
returns-then-branch-eq0-clause-whole g c =
    let given = c.in_ok-read_piece.ensures.given in
    let text = c.loop-text.text in
    record {
      within = omega (arith, ap (length {A = ℕ}) given.3.1, length-append text.items given.0, given.3.0, text.ok.0);
      given = subst (λ (all : List ℕ). Consumes (g.R.Intake.left c.args.input.now) (g.R.Intake.left c.read_piece.new.input) all) (sym {A = List ℕ} given.3.1) (Consumes-trans _ _ _ text.items given.0 c.loop-text.invariant.1 given.1);
      ended = c.in_ok-read_piece.ensures.ended c.if-branch-eq0.true;
    }

pub returns-then-branch-eq0-clause-counts : goal.returns-then-branch-eq0-clause-counts
returns-then-branch-eq0-clause-counts g c = omega (arith, c.in_ok-read_piece.ensures.counts, c.loop-text.invariant.0)

pub returns-then-branch-eq0-clause-quiet : goal.returns-then-branch-eq0-clause-quiet
returns-then-branch-eq0-clause-quiet g c = c.in_ok-read_piece.ensures.quiet ∙ c.loop-text.invariant.0

pub returns-clause-counts : goal.returns-clause-counts
returns-clause-counts g c = omega (arith, c.loop-text.invariant.0)

pub loop-text-smaller : goal.loop-text-smaller
loop-text-smaller g c =
    let given = c.in_ok-read_piece.ensures.given in
    let text = c.loop-text.text in
    let now = c.read_piece.new.text in
    omega (arith, ap (length {A = ℕ}) given.3.1, length-append text.items given.0, given.3.0, now.ok.0, text.ok.0)
