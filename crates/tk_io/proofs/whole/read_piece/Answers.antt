use Rattle.std.proofs.Common.{ℕ, List, [], ◌++◌, take, sym, ap, ◌∙◌, arith, rules}
use Rattle.std.proofs.lemmas.List.{take-append-le}
use Rattle.std.proofs.KnownBytes.{Consumes-nil, Consumes-kept}
use Rattle.tk_io.proofs.whole.read_piece.Goals as goal

pub returns-in_default-clause-given : goal.returns-in_default-clause-given
returns-in_default-clause-given g c =
    ([], Consumes-kept _ _ _ [] (Consumes-nil (g.R.Intake.left c.args.input.now)) c.in_default.ensures.bytes, omega arith, tt)

pub returns-in_default-clause-stopped : goal.returns-in_default-clause-stopped
returns-in_default-clause-stopped g c = (c.in_default.ensures.bytes, c.in_default.ensures.cause.failed)

pub returns-in_default-extend_from_slice-clause-given : goal.returns-in_default-extend_from_slice-clause-given
returns-in_default-extend_from_slice-clause-given g c = (take c.in-Ok.count c.read.new.into, c.in-Ok.ensures.bytes.0, search rules, tt)

pub returns-clause-given : goal.returns-clause-given
returns-clause-given g c = (
  take c.in-Ok.count c.read.new.into,
  c.in-Ok.ensures.bytes.0,
  search rules,
  (
    sym c.in-Ok.ensures.bound.1,
    c.in-Ok-extend_from_slice.ensures.items ∙ ap (λ (piece : List ℕ). c.args.text.now.items ++ piece) (take-append-le c.in-Ok.count c.read.new.into _ c.in-Ok.ensures.bound.0),
  ),
)

pub returns-clause-ended : goal.returns-clause-ended
returns-clause-ended g c = λ none. c.in-Ok.ensures.bytes.1 none (search rules)

pub returns-in_default-clause-counts : goal.returns-in_default-clause-counts
returns-in_default-clause-counts g c = c.in_default.ensures.cause.later

pub returns-in_default-extend_from_slice-clause-counts : goal.returns-in_default-extend_from_slice-clause-counts
returns-in_default-extend_from_slice-clause-counts g c = c.in-Ok.ensures.cause.later

pub returns-in_default-extend_from_slice-clause-stopped : goal.returns-in_default-extend_from_slice-clause-stopped
returns-in_default-extend_from_slice-clause-stopped g c = c.in-Ok.ensures.cause.stays

pub returns-clause-counts : goal.returns-clause-counts
returns-clause-counts g c = c.in-Ok.ensures.cause.later

pub returns-clause-quiet : goal.returns-clause-quiet
returns-clause-quiet g c = c.in-Ok.ensures.cause.stays
