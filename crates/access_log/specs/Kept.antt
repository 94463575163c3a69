-- What a transcript keeps beside its accesses, so that no call scans them.
use Rattle.std.specs.Prelude.{ℕ, ◌+◌, ◌≤◌, List, length}
use Rattle.topk_theory.specs.declared.access.Access.{Access}
use Rattle.topk_theory.specs.Transcript.{named_objects}
use Rattle.topk_theory.specs.Consistent.{SomeAgrees}
use Rattle.access_log.specs.declared.ends.Ends.{Ends}
use Rattle.access_log.specs.RecordsKept.{AreEndsOf}
use Rattle.access_log.specs.declared.objects.Objects.{Objects}
use Rattle.access_log.specs.Objects.{AreObjects, HasRoom}
use Rattle.access_log.specs.Log.{IsWithinLimits}

-- what a transcript keeps: the limits, that some table agrees, the objects and the ends of its lists, and room for what is reserved
pub record IsTranscriptKept (lists count : ℕ) (A : List Access) (capacity : ℕ) (kept : Objects) (reached : Ends) (spare_objects spare_accesses : ℕ) : Type 0 where
  pub limits : IsWithinLimits lists count
  pub agrees : SomeAgrees lists count A
  pub objects : AreObjects lists A kept
  pub ends : AreEndsOf lists A reached
  pub room : HasRoom kept
  pub object_room : length (named_objects A) + spare_objects ≤ kept.room
  pub access_room : length A + spare_accesses ≤ capacity
