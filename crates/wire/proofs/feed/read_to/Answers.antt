use Rattle.std.proofs.Common.{ℕ, List, ◌++◌, take, sym, ap, ◌∙◌, rules}
use Rattle.std.proofs.lemmas.List.{take-append-le}
use Rattle.wire.proofs.feed.read_to.Goals as goal

pub returns-clause-given : goal.returns-clause-given
returns-clause-given g c = (
  take c.in-Ok.count c.read.new.into,
  c.in-Ok.ensures.bytes.0,
  c.in-Ok-extend_from_slice.ensures.items ∙ ap (λ (piece : List ℕ). c.args.text.now.items ++ piece) (take-append-le c.in-Ok.count c.read.new.into _ c.in-Ok.ensures.bound.0),
  sym c.in-Ok.ensures.bound.1,
  search rules,
)

pub returns-clause-ended : goal.returns-clause-ended
returns-clause-ended g c = λ none. c.in-Ok.ensures.bytes.1 none (search rules)
