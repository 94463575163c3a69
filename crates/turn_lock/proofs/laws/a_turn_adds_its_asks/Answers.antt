use Rattle.std.proofs.Common.{◌++◌, sym, ap, ◌∙◌}
use Rattle.turn_lock.proofs.Growth.{new_asks_are}
use Rattle.turn_lock.proofs.laws.a_turn_adds_its_asks.Goals as goal

pub returns : goal.returns
returns g c taken given b = b.goes_on ∙ ap (λ l. taken.asks ++ l) (sym (new_asks_are taken given b))
