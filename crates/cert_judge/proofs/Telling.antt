-- What is told of a certificate, from what its parts give.
use Rattle.std.proofs.Common.{◌≡◌, ℕ, ◌+◌, ◌<◌, ◌≤◌, ◌==◌, ◌&&◌, Bool, true, false, cond, List, [], ◌∷◌, ◌++◌, length, map, take, Contains, Option, None, Some, slice_get, Result, Ok, Err, IfOk, sym, ap, subst, ◌∙◌, arith, length-append, codes}
use Rattle.std.specs.List.{onto_first}
use Rattle.std.specs.Global.{Vec}
use Rattle.std.proofs.lemmas.List.{map-append, length-map}
use Rattle.topk_base.specs.Lines.{lines, before_lines, begins_with_end}
use Rattle.topk_base.proofs.LineLaws.{lines-nil, lines-cons}
use Rattle.ranked_list.specs.declared.item.Item.{Item}
use Rattle.monotone_fn.specs.Value.{value}
use Rattle.topk_theory.specs.Threshold.{item_objects}
use Rattle.topk_theory.specs.Transcript.{seen_objects}
use Rattle.topk_theory.proofs.AgreementLists.{front_next, member_of_all}
use Rattle.access_log.specs.Log.{Log, IsConsistent}
use Rattle.query_text.specs.Bytes.{bytes_of}
use Rattle.cert_text.specs.declared.certificate.Certificate.{Certificate}
use Rattle.algorithm_theory.specs.Within.{Factor}
use Rattle.cert_text.specs.Certificate.{version_lines, answer_line, guarantee_lines, guaranteed, access_line, access_lines, stop_line}
use Rattle.cert_text.specs.Reading.{Spells, IsReadAs, IsCause}
use Rattle.cert_text.specs.declared.fault.CertFault.{CertFault}
use Rattle.cert_text.specs.declared.fault.CertFault.TheVariants as cert_fault
use Rattle.cert_judge.specs.declared.verdict.Verdict.{Verdict}
use Rattle.cert_judge.specs.declared.verdict.Verdict.TheVariants as verdict
use Rattle.cert_judge.specs.declared.verdict.JudgeFault.{JudgeFault}
use Rattle.cert_judge.specs.Deciding.{IsFair}
use Rattle.topk_base.specs.declared.Memory.{Memory}
use Rattle.cert_judge.specs.declared.judgement.Judgement.{Judgement}
use Rattle.cert_judge.specs.declared.judgement.Judgement.TheVariants.{BadLine, Inconsistent, WildGuess, WrongSize, UnseenAnswer, Figure, Fixes, Beaten}
use Rattle.cert_judge.specs.Transcripts.{log_of}
use Rattle.cert_judge.specs.Judging.{JudgesBy, IsJudged, TellsOfCertificate, TellsOfIts, Tells}

-- one name more
pub copied_more : (copied after : List (Vec ℕ)) (bytes : Vec ℕ) (names : List (List ℕ)) (i : ℕ) (name : List ℕ) → bytes_of copied ≡ take i names
    → slice_get names i ≡ Some name
    → bytes.items ≡ name → after ≡ copied ++ bytes ∷ [] → bytes_of after ≡ take (i + 1) names
copied_more copied after bytes names i name before e is more =
    ap bytes_of more ∙ map-append (λ (v : Vec ℕ). v.items) copied (bytes ∷ []) ∙ ap (λ s. s ++ bytes.items ∷ []) before ∙ ap (λ b. take i names ++ b ∷ []) is
    ∙ front_next names i name e

-- one object more
pub objects_more : (items : List Item) (i : ℕ) (item : Item) (objects after : List ℕ) → slice_get items i ≡ Some item → objects ≡ item_objects (take i items)
    → after ≡ objects ++ item.object ∷ [] → after ≡ item_objects (take (i + 1) items)
objects_more items i item objects after e before more =
    more ∙ ap (λ s. s ++ item.object ∷ []) before
    ∙ sym (ap item_objects (sym (front_next items i item e)) ∙ map-append (λ (z : Item). z.object) (take i items) (item ∷ []))

pub objects_few : (items : List Item) (objects : List ℕ) (most : ℕ) → objects ≡ item_objects items → length items < most → length objects < most
objects_few items objects most e few = omega (arith, ap length e, length-map items (λ (z : Item). z.object))

-- what the judge says of a certificate's transcript and answer
pub judged_as : (c : Certificate) (log : Log) (Y : List ℕ) (r : Result Verdict JudgeFault) → log ≡ log_of c → Y ≡ item_objects c.items → IsConsistent log
    → JudgesBy (guaranteed c) (value c.query.expr) c.query.k log Y r → IsJudged c r
judged_as c log Y r made objects some h = record {
  consistent = subst IsConsistent made some;
  judged = subst (λ ys. JudgesBy (guaranteed c) (value c.query.expr) c.query.k (log_of c) ys r) objects (subst (λ l. JudgesBy (guaranteed c) (value c.query.expr) c.query.k l Y r) made h);
}

-- a question with a verdict is fair
fair_by : (o : Option Factor) (V : List ℕ → ℕ) (k : ℕ) (log : Log) (Y : List ℕ) (v : Verdict) → JudgesBy o V k log Y (Ok v) → IsFair k log.accesses Y
fair_by None V k log Y verdict.Fixes h = h.0
fair_by None V k log Y (verdict.Beaten inside outside low high) h = h.0
fair_by (Some factor) V k log Y verdict.Fixes h = h.0
fair_by (Some factor) V k log Y (verdict.Beaten inside outside low high) h = h.0

pub fair_of : (c : Certificate) (v : Verdict) → IsJudged c (Ok v) → IsFair c.query.k c.accesses (item_objects c.items)
fair_of c v h = fair_by (guaranteed c) (value c.query.expr) c.query.k (log_of c) (item_objects c.items) v h.judged

-- the object inside is in the answer
inside_by : (o : Option Factor) (V : List ℕ → ℕ) (k : ℕ) (log : Log) (Y : List ℕ) (inside outside low high : ℕ)
    → JudgesBy o V k log Y (Ok (verdict.Beaten inside outside low high)) → Contains Y inside
inside_by None V k log Y inside outside low high h = h.1.least.is_one
inside_by (Some factor) V k log Y inside outside low high h = h.1.least.is_one

-- the object inside is seen
pub seen_inside : (c : Certificate) (inside outside low high : ℕ) → IsJudged c (Ok (verdict.Beaten inside outside low high))
    → Contains (seen_objects c.accesses) inside
seen_inside c inside outside low high h =
    member_of_all (Contains (seen_objects c.accesses)) (item_objects c.items) inside (fair_of c (verdict.Beaten inside outside low high) h).seen
    (inside_by (guaranteed c) (value c.query.expr) c.query.k (log_of c) (item_objects c.items) inside outside low high h.judged)

-- a text has no more lines than bytes
onto_short : (byte : ℕ) (ls : List (List ℕ)) → length (onto_first byte ls) ≤ length ls + 1
onto_short byte [] = omega arith
onto_short byte (line ∷ ls) = omega arith

before_short : (byte : ℕ) (ends : Bool) (ls : List (List ℕ)) → length (before_lines byte ends ls) ≤ length ls + 1
before_short byte ends ls =
    elim (byte == 10) as (λ b. length (cond b ([] ∷ ls) (cond ((byte == 13) && ends) ls (onto_first byte ls))) ≤ length ls + 1) [
      | true ↦ omega arith
      | false ↦ elim ((byte == 13) && ends) as (λ b. length (cond b ls (onto_first byte ls)) ≤ length ls + 1) [ true ↦ omega arith | false ↦ onto_short byte ls ]
    ]

lines_short : (bytes : List ℕ) → length (lines bytes) ≤ length bytes
lines_short [] = omega (arith, ap length lines-nil)
lines_short (byte ∷ rest) =
    let less : length (lines rest) ≤ length rest = lines_short rest in
    omega (arith, ap length (lines-cons byte rest), before_short byte (begins_with_end rest) (lines rest))

-- nor has its certificate more accesses
pub few_accesses : (bytes : List ℕ) (c : Certificate) → Spells (lines bytes) c → length c.accesses ≤ length bytes
few_accesses bytes c spells =
    let stop = stop_line c.depth c.sorted c.random c.cost in
    let accesses : length (access_lines c.query.names c.accesses) ≡ length c.accesses + 1 =
    length-append (map (access_line c.query.names) c.accesses) (codes "end" ∷ []) ∙ ap (λ n. n + 1) (length-map c.accesses (access_line c.query.names)) in
    let stopped = stop ∷ access_lines c.query.names c.accesses in
    let ending = guarantee_lines (guaranteed c) ++ stopped in
    let answer = map answer_line c.items ++ ending in
    let versions = length-append (version_lines c.query.names c.versions) answer in
    let rest = length-append (map answer_line c.items) ending in
    let behind = length-append (guarantee_lines (guaranteed c)) stopped in
    omega (arith, lines_short bytes, ap length spells.spelled, versions, rest, behind, accesses)

-- what is told of the certificate that the lines spell is told of the lines
tells_from : (ls : List (List ℕ)) (c : Certificate) (told : Judgement) → Spells ls c → ((d : Certificate) → Spells ls d → d ≡ c) → TellsOfCertificate c told
    → TellsOfIts ls told
tells_from ls c told spells same h = record { some = (c, spells); each = λ d s. subst (λ e. TellsOfCertificate e told) (sym (same d s)) h }

tells_lines : (ls : List (List ℕ)) (c : Certificate) (told : Judgement) → Spells ls c → ((d : Certificate) → Spells ls d → d ≡ c) → TellsOfCertificate c told → Tells ls told
tells_lines ls c (BadLine line) spells same h = absurd h
tells_lines ls c (Inconsistent at kind) spells same h = tells_from ls c (Inconsistent at kind) spells same h
tells_lines ls c (WildGuess at) spells same h = tells_from ls c (WildGuess at) spells same h
tells_lines ls c (WrongSize given k) spells same h = tells_from ls c (WrongSize given k) spells same h
tells_lines ls c (UnseenAnswer object) spells same h = tells_from ls c (UnseenAnswer object) spells same h
tells_lines ls c (Figure line) spells same h = tells_from ls c (Figure line) spells same h
tells_lines ls c Fixes spells same h = tells_from ls c Fixes spells same h
tells_lines ls c (Beaten inside outside low high counter) spells same h = tells_from ls c (Beaten inside outside low high counter) spells same h

pub told_result : (ls : List (List ℕ)) (c : Certificate) (r : Result Judgement Memory) → Spells ls c → ((d : Certificate) → Spells ls d → d ≡ c)
    → IfOk r (TellsOfCertificate c) → IfOk r (Tells ls)
told_result ls c (Ok told) spells same h = tells_lines ls c told spells same h
told_result ls c (Err memory) spells same h = tt

-- a line at fault is told of lines that are no certificate's
pub told_no_certificate : (ls : List (List ℕ)) (fault : CertFault) (line : ℕ) → fault ≡ cert_fault.BadLine line
    → ((c : Certificate) → Spells ls c → IsReadAs c (Err fault)) → IsCause ls fault → Tells ls (BadLine line)
told_no_certificate ls fault line is reads cause = (λ c s. subst (λ f. IsReadAs c (Err f)) is (reads c s), subst (IsCause ls) is cause)
