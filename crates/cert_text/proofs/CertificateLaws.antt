-- What reading a whole text finds.
use Rattle.std.proofs.Common.{◌≡◌, ℕ, suc, ◌+◌, ◌-◌, List, take, Ok, Err, IfOk, IfErr, sym, subst, arith}
use Rattle.std.specs.declared.result.Result.{Result}
use Rattle.cert_text.specs.declared.certificate.Certificate.{Certificate}
use Rattle.cert_text.specs.declared.fault.CertFault.{CertFault}
use Rattle.cert_text.specs.declared.fault.CertFault.TheVariants.{BadLine, Memory}
use Rattle.cert_text.specs.Judging.{Leads, Finds, IsFault}
use Rattle.cert_text.specs.Reading.{Spells, BeginsCertificate, IsFirstFault, IsReadAs, IsCause}

pub finds_found : (ls : List (List ℕ)) (r : Result Certificate CertFault) → Finds Spells (λ c. c) 1 ls r → IfOk r (Spells ls)
finds_found ls (Ok c) found = found.0
finds_found ls (Err e) found = tt

pub finds_reads : (ls : List (List ℕ)) (r : Result Certificate CertFault) → Finds Spells (λ c. c) 1 ls r → (c : Certificate) → Spells ls c → IsReadAs c r
finds_reads ls (Ok read) found c spelled = sym (found.1 c spelled)
finds_reads ls (Err (BadLine line)) found c spelled = let judged = found.2 in judged.1 c spelled
finds_reads ls (Err Memory) found c spelled = tt

begins_from : (ls : List (List ℕ)) → Leads Spells ls → BeginsCertificate ls
begins_from ls leads = (leads.0, leads.1.0, leads.1.1)

leads_from : (ls : List (List ℕ)) → BeginsCertificate ls → Leads Spells ls
leads_from ls begins = (begins.0, (begins.1, begins.2))

-- the first line at fault, counted from 1
first_fault : (ls : List (List ℕ)) (before line : ℕ) → line ≡ 1 + before → IsFault Spells ls before → IsFirstFault ls line
first_fault ls before line is fault =
    let last : line - 1 ≡ before = omega arith in
    let next : line ≡ suc before = omega arith in
    record {
      counted = omega arith;
      within = omega (arith, fault.within);
      begins = subst (λ n. BeginsCertificate (take n ls)) (sym last) (begins_from (take before ls) fault.leads);
      ends = λ inside begins. fault.ends (omega arith) (leads_from (take (suc before) ls) (subst (λ n. BeginsCertificate (take n ls)) next begins));
    }

pub finds_fault_line : (ls : List (List ℕ)) (r : Result Certificate CertFault) → Finds Spells (λ c. c) 1 ls r → IfErr r (IsCause ls)
finds_fault_line ls (Ok c) found = tt
finds_fault_line ls (Err (BadLine line)) found = first_fault ls found.0 line found.1 (let judged = found.2 in judged.0)
finds_fault_line ls (Err Memory) found = tt
