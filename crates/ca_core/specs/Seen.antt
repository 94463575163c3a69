-- What is kept of the seen objects.
use Rattle.std.specs.Prelude.{◌≡◌, ℕ, List, [], ◌∷◌, ◌++◌, length, Contains}
use Rattle.topk_theory.specs.declared.access.Access.{Access}
use Rattle.topk_theory.specs.Transcript.{object_of, seen_objects}
use Rattle.monotone_fn.specs.Tree.{Tree}
use Rattle.monotone_fn.specs.Value.{value}
use Rattle.nra_core.specs.LatePlaces.{IsLateAfter}
use Rattle.ca_core.specs.Open.{AreOpen}
use Rattle.machine_base.specs.declared.base.Base.{Base}
use Rattle.ca_core.specs.declared.late_seen.LateSeen.{LateSeen}

-- for the first k and with room for so many seen objects, the bounds and the highs are kept after the accesses A
pub record AreRenewed (e : Tree) (k room m : ℕ) (A : List Access) (late : LateSeen) : Type 0 where
  pub same_k : late.bounds.k ≡ k
  pub same_room : late.bounds.first.room ≡ room
  pub space : length late.highs.highs ≡ room
  pub bounds : IsLateAfter e m A late.bounds
  pub highs : AreOpen (value e) m A late.highs.highs late.highs.ties.heaps.items

abbrev pub KeepsSeen : Base → LateSeen → Type 0
KeepsSeen base late = AreRenewed base.expr base.k base.room base.transcript.lists base.transcript.accesses late

-- they were kept before the last access, which named the object
pub record WasRenewed (base : Base) (object : ℕ) (late : LateSeen) : Type 0 where
  pub before : List Access
  pub access : Access
  pub told : base.transcript.accesses ≡ before ++ access ∷ []
  pub named : object_of access ≡ object
  pub seen : Contains (seen_objects base.transcript.accesses) object
  pub kept : AreRenewed base.expr base.k base.room base.transcript.lists before late
