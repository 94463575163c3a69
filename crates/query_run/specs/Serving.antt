-- Calls that serve what a query waits for: of a source's number, how often its feeder had told, and a pass.
use Rattle.std.specs.Prelude.{◌≡◌, ◌<◌, ℕ}
use denote.Ref.{MutBor}
use denote.Param.Members.{Shared}

module _ {F P : Type 0} (g : Shared F (ℕ × (ℕ × (MutBor P × Unit {0}))) (Unit {0} × (MutBor P × Unit {0}))) (f : F) where
  -- f may be called for a source, whatever was told, with a pass that is x
  pub record MayServe (source : ℕ) (x : P) : Type 0 where
    pub accepts : (told : ℕ) (p : MutBor P) → p.now ≡ x → g.pre f (source, (told, (p, tt)))

  -- a call of f for a source with a pass that is x leaves it
  pub record Leaves (source : ℕ) (x : P) : Type 0 where
    pub leaves : (told : ℕ) (p q : MutBor P) → p.now ≡ x → g.post f (source, (told, (p, tt))) (tt, (q, tt)) → q.now ≡ x

  -- f serves the sources below a number with this pass, and leaves it
  pub record ServesAll (sources : ℕ) (x : P) : Type 0 where
    pub may : (source : ℕ) → source < sources → MayServe source x
    pub stays : (source : ℕ) → source < sources → Leaves source x
