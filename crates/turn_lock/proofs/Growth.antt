-- IsFrontOf, AtMost, FactsGrow and AreFactsKept hold of a value with itself, and go on from one to the next.
use Rattle.std.proofs.Common.{◌≡◌, List, [], ◌++◌, length, drop, refl, sym, ap, ◌∙◌, append_assoc, append-nil, le_refl, le_trans}
use Rattle.std.proofs.Math.Seq.{drop-append_seam}
use Rattle.turn_lock.specs.declared.facts.Tally.{Tally}
use Rattle.turn_lock.specs.declared.facts.Facts.{Facts}
use Rattle.turn_lock.specs.Facts.{IsFrontOf, AtMost, FactsGrow, AreFactsKept}
use Rattle.turn_lock.specs.Known.{new_asks}

pub begins_same : {A : Type 0} (xs : List A) → IsFrontOf xs xs
begins_same xs = record { rest = []; goes_on = sym (append-nil xs) }

pub begins_more : {A : Type 0} (xs ys : List A) → IsFrontOf xs (xs ++ ys)
begins_more xs ys = record { rest = ys; goes_on = refl }

pub begins_nothing : {A : Type 0} (xs : List A) → IsFrontOf [] xs
begins_nothing xs = record { rest = xs; goes_on = refl }

pub begins_on : {A : Type 0} {xs ys zs : List A} → IsFrontOf xs ys → IsFrontOf ys zs → IsFrontOf xs zs
begins_on {xs = xs} b c = record { rest = b.rest ++ c.rest; goes_on = c.goes_on ∙ (ap (λ l. l ++ c.rest) b.goes_on ∙ append_assoc xs b.rest c.rest) }

pub at_most_same : (t : Tally) → AtMost t t
at_most_same t = record { failed = le_refl _; garbled = le_refl _; memory = le_refl _ }

pub at_most_on : {s t u : Tally} → AtMost s t → AtMost t u → AtMost s u
at_most_on a b = record { failed = le_trans a.failed b.failed; garbled = le_trans a.garbled b.garbled; memory = le_trans a.memory b.memory }

pub grows_same : {E : Type 0} (f : Facts E) → FactsGrow f f
grows_same f = record { name = refl; log = begins_same f.log; asks = begins_same f.asks; mark = le_refl f.mark; tally = at_most_same f.tally }

pub grows_on : {E : Type 0} {f g h : Facts E} → FactsGrow f g → FactsGrow g h → FactsGrow f h
grows_on a b = record {
  name = b.name ∙ a.name;
  log = begins_on a.log b.log;
  asks = begins_on a.asks b.asks;
  mark = le_trans a.mark b.mark;
  tally =
      at_most_on a.tally b.tally;
}

pub kept_same : {E : Type 0} (f : Facts E) → AreFactsKept f f
kept_same f = record { log = refl; tally = refl }

pub kept_on : {E : Type 0} {f g h : Facts E} → AreFactsKept f g → AreFactsKept g h → AreFactsKept f h
kept_on a b = record { log = b.log ∙ a.log; tally = b.tally ∙ a.tally }

-- the asks that a turn added are those that go on from the ones that it found
pub new_asks_are : {E : Type 0} (taken given : Facts E) (b : IsFrontOf taken.asks given.asks) → new_asks taken given ≡ b.rest
new_asks_are taken given b = ap (drop (length taken.asks)) b.goes_on ∙ drop-append_seam taken.asks b.rest
