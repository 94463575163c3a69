-- A transcript, one access after another.
use Rattle.std.proofs.Common.{◌≡◌, ℕ, ◌≤◌, ◌<◌, ◌+◌, ◌-◌, true, false, cond, List, length, take, Some, slice_get, Err, refl, sym, ap, ap₂, ◌∙◌, subst, arith, length-take}
use Rattle.std.proofs.lemmas.List.{take_all}
use Rattle.ranked_list.specs.declared.row.Row.{Row}
use Rattle.monotone_fn.specs.Shape.{list_count}
use Rattle.topk_theory.specs.declared.access.Access.{Access}
use Rattle.topk_theory.specs.Transcript.{object_of}
use Rattle.topk_theory.proofs.AgreementLists.{front_next, slice_get_in_range}
use Rattle.access_log.specs.Log.{Log, with_access, is_named, AgreesWith, IsConsistent, IsFirstNumber, IsWithinLimits}
use Rattle.access_log.specs.Refusal.{Refuses}
use Rattle.access_log.specs.declared.fault.PushFault.{PushFault}
use Rattle.access_log.specs.declared.fault.PushFault.TheVariants.{Inconsistent, Memory}
use Rattle.cert_text.specs.declared.certificate.Certificate.{Certificate}
use Rattle.cert_text.specs.Certificate.{IsCertificate}
use Rattle.cert_judge.specs.Transcripts.{made_of, front, IsFirstInconsistent, Pushes, Makes}

-- one access more
pub next_front : (m n : ℕ) (A : List Access) (place : ℕ) (a : Access) → slice_get A place ≡ Some a → with_access (front m n A place) a ≡ front m n A (place + 1)
next_front m n A place a e =
    let spare : cond (is_named (front m n A place) (object_of a)) 0 (0 - 1) ≡ 0 = elim (is_named (front m n A place) (object_of a)) as (λ b. cond b 0 (0 - 1) ≡ 0) [ true ↦ refl | false ↦ refl ] in
    ap₂ (λ (accesses : List Access) (objects : ℕ). record { lists = m; count = n; accesses = accesses; spare_objects = objects; spare_accesses = 0 }) (front_next A place a e) spare

pub pushed : (m n : ℕ) (A : List Access) (place : ℕ) (a : Access) (log after : Log) → log ≡ front m n A place → slice_get A place ≡ Some a
    → after ≡ with_access log a → after ≡ front m n A (place + 1)
pushed m n A place a log after is e new = new ∙ ap (λ l. with_access l a) is ∙ next_front m n A place a e

-- all accesses
pub pushed_all : (m n : ℕ) (A : List Access) (place : ℕ) (log : Log) → log ≡ front m n A place → length A ≤ place → log ≡ made_of m n A
pushed_all m n A place log is past = is ∙ ap (made_of m n) (take_all place A past)

-- the access with which no table agrees any more
refused_here : (m n : ℕ) (A : List Access) (place : ℕ) (a : Access) (at kind : ℕ) → IsConsistent (front m n A place) → slice_get A place ≡ Some a
    → at ≡ length (take place A) + 1
    → IsFirstNumber (front m n A place) a kind → ((D : List (List Row)) → ¬ AgreesWith D (with_access (front m n A place) a)) → IsFirstInconsistent m n A at kind
refused_here m n A place a at kind some e is number none =
    let within : place < length A = slice_get_in_range A place a e in
    let here : at ≡ place + 1 = omega (arith, length-take place A) in
    let back : place ≡ at - 1 = omega arith in
    record {
      numbered = omega arith;
      before = subst (λ k. IsConsistent (front m n A k)) back some;
      with_it = λ c. none c.0 (subst (AgreesWith c.0) (ap (front m n A) here ∙ sym (next_front m n A place a e)) c.1);
      its_kind = (a, subst (λ k. slice_get A k ≡ Some a) back e, subst (λ k. IsFirstNumber (front m n A k) a kind) back number);
    }

pub refused : (m n : ℕ) (A : List Access) (place : ℕ) (a : Access) (log after : Log) (fault : PushFault) → log ≡ front m n A place → IsConsistent log
    → slice_get A place ≡ Some a
    → Refuses log a fault → Pushes m n A after (Err fault)
refused m n A place a log after (Inconsistent at kind) is some e h =
    let cause : Refuses (front m n A place) a (Inconsistent at kind) = subst (λ l. Refuses l a (Inconsistent at kind)) is h in
    refused_here m n A place a at kind (subst IsConsistent is some) e cause.0 cause.1 cause.2
refused m n A place a log after Memory is some e h = tt

-- how many lists and objects a certificate's transcript has
pub within_limits : (c : Certificate) → IsCertificate c → IsWithinLimits (list_count c.query.expr) c.count
within_limits c is = record {
  some_lists = is.query.1.lists.some;
  few_lists = is.query.1.lists.few;
  some_objects = omega (arith, is.count_from);
  few_objects = is.count_to;
}

-- why a certificate makes no transcript
pub makes_none : (c : Certificate) (log : Log) (fault : PushFault) → Pushes (list_count c.query.expr) c.count c.accesses log (Err fault) → Makes c (Err fault)
makes_none c log (Inconsistent at kind) h = h
makes_none c log Memory h = tt
