-- The transcripts that accesses make, one access after another.
use Rattle.std.specs.Prelude.{◌≡◌, ◌≤◌, ◌-◌, ℕ, List, take, Some, slice_get, Result, Ok, Err}
use Rattle.monotone_fn.specs.Shape.{list_count}
use Rattle.topk_theory.specs.declared.access.Access.{Access}
use Rattle.access_log.specs.Log.{Log, IsConsistent, IsFirstNumber}
use Rattle.access_log.specs.declared.fault.PushFault.{PushFault}
use Rattle.access_log.specs.declared.fault.PushFault.TheVariants.{Inconsistent, Memory}
use Rattle.cert_text.specs.declared.certificate.Certificate.{Certificate}

-- the transcript of accesses over so many lists of so many objects; that of the first of them
abbrev pub made_of : ℕ → ℕ → List Access → Log
made_of lists count accesses = record { lists = lists; count = count; accesses = accesses; spare_objects = 0; spare_accesses = 0 }

abbrev pub front : ℕ → ℕ → List Access → ℕ → Log
front lists count accesses place = made_of lists count (take place accesses)

-- the transcript of a certificate: its accesses, over its query's lists of so many objects
abbrev pub log_of : Certificate → Log
log_of c = made_of (list_count c.query.expr) c.count c.accesses

-- the access of this number, from 1, is the first with which no table agrees any more, and this is the number of the first kind of which it is
pub record IsFirstInconsistent (lists count : ℕ) (accesses : List Access) (at kind : ℕ) : Type 0 where
  pub numbered : 1 ≤ at
  pub before : IsConsistent (front lists count accesses (at - 1))
  pub with_it : ¬ IsConsistent (front lists count accesses at)
  pub its_kind : (access : Access) × (slice_get accesses (at - 1) ≡ Some access) × IsFirstNumber (front lists count accesses (at - 1)) access kind

-- all accesses were pushed, and some table agrees; or the first was met with which none does
abbrev pub Pushes : ℕ → ℕ → List Access → Log → Result Unit PushFault → Type 0
Pushes lists count accesses log (Ok done) = (log ≡ made_of lists count accesses) × IsConsistent log
Pushes lists count accesses log (Err (Inconsistent at kind)) = IsFirstInconsistent lists count accesses at kind
Pushes lists count accesses log (Err Memory) = Unit {0}

-- the transcript of a certificate, with which some table agrees; or the first access with which none does
abbrev pub Makes : Certificate → Result Log PushFault → Type 0
Makes c (Ok log) = (log ≡ log_of c) × IsConsistent log
Makes c (Err (Inconsistent at kind)) = IsFirstInconsistent (list_count c.query.expr) c.count c.accesses at kind
Makes c (Err Memory) = Unit {0}
