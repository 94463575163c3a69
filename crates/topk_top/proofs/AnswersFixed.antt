-- What is written of a right answer is fixed.
use Rattle.std.proofs.Common.{◌≡◌, ℕ, ◌<◌, ◌≤◌, ◌^◌, Bool, List, length, Option, Some, None, Ok, codes, inl, inr, refl, sym, ap, subst, ◌∙◌, arith}
use Rattle.topk_base.specs.Lines.{lines}
use Rattle.cert_text.specs.declared.outcome.Outcome.{Outcome}
use Rattle.cert_text.specs.declared.outcome.Outcome.TheVariants.{Answered, Refused}
use Rattle.cert_text.specs.declared.certificate.Certificate.{Certificate}
use Rattle.topk_theory.specs.Threshold.{item_objects}
use Rattle.query_core.specs.OneAnswer.{asked_by}
use Rattle.cert_judge.specs.Transcripts.{log_of}
use Rattle.cert_text.specs.Certificate.{guaranteed}
use Rattle.cert_text.specs.Outcome.{outcome_text, certificate_of}
use Rattle.cert_text.specs.Reading.{Spells}
use Rattle.cert_text.proofs.CertifiedLaws.{certified_spelled}
use Rattle.query_text.specs.declared.query.Query.{Query}
use Rattle.machine_base.specs.declared.answer.Answer.{Answer}
use Rattle.bundle_text.specs.Bundle.{Content, IsBundle}
use Rattle.query_core.specs.Methods.{method_with}
use Rattle.query_admission.specs.View.{sorted_at}
use Rattle.query_admission.specs.Becomes.{Becomes}
use Rattle.cert_judge.specs.declared.judgement.Judgement.{Judgement}
use Rattle.cert_judge.specs.declared.judgement.Judgement.TheVariants.{BadLine, Inconsistent, WildGuess, WrongSize, UnseenAnswer, Figure, Fixes, Beaten}
use Rattle.cert_judge.specs.Judging.{Tells}
use Rattle.cert_judge.specs.Text.{told_text}
use Rattle.cert_judge.proofs.Telling.{told_result}
use Rattle.bundle_calls.specs.Bundled.{bundle_line}
use Rattle.bundle_calls.specs.Judge.{JudgeReplies, told_status}
use Rattle.bundle_calls.specs.Reply.{outcome_status, Replies}
use Rattle.command_line.specs.Calls.{Call, ReadWhole, WroteWhole, input_limit}
use Rattle.command_line.specs.Ends.{EndsReading}
use Rattle.command_line.specs.declared.status.Status.{Status}
use Rattle.command_line.specs.declared.status.Status.TheVariants as status
use Rattle.topk_top.specs.Laws.{SaysFixes, IsFixedText}
use Rattle.topk_top.proofs.ToldText.{gave_told, gave_no_more}
use Rattle.topk_top.proofs.Certifying.{IsAnswerOf, certified, bundle_answer}
use Rattle.topk_top.proofs.OneCertificate.{spells_one}
use Rattle.topk_top.proofs.Fixing.{IsFixedBy, only_fixed, judged_fixed, fixed_by, fixed_of}

-- the lines spell a certificate that is fixed: nothing else is told
told_fixed : (ls : List (List ℕ)) (c : Certificate) (told : Judgement) → Spells ls c → IsFixedBy c → Tells ls told → told ≡ Fixes
told_fixed ls c (BadLine line) spells is h = absurd (h.0 c spells)
told_fixed ls c (Inconsistent at kind) spells is h = only_fixed c (Inconsistent at kind) is (h.each c spells)
told_fixed ls c (WildGuess at) spells is h = only_fixed c (WildGuess at) is (h.each c spells)
told_fixed ls c (WrongSize given k) spells is h = only_fixed c (WrongSize given k) is (h.each c spells)
told_fixed ls c (UnseenAnswer object) spells is h = only_fixed c (UnseenAnswer object) is (h.each c spells)
told_fixed ls c (Figure line) spells is h = only_fixed c (Figure line) is (h.each c spells)
told_fixed ls c Fixes spells is h = refl
told_fixed ls c (Beaten inside outside low high counter) spells is h = only_fixed c (Beaten inside outside low high counter) is (h.each c spells)

fixes_text : told_text Fixes ≡ codes "fixes\n"
unfolding told_text
fixes_text = refl

-- what is replied to the text where it is judged is `fixes`
abbrev SaysNothingElse : List ℕ → Type 0
SaysNothingElse text = (s : Status) (said : List ℕ) → JudgeReplies text s said → (s ≡ status.Done) × (said ≡ codes "fixes\n")

-- what a call replies to the input is the reply to the text that it is told
reply_told : (text bytes said : List ℕ) (c : Call) (s : Status) → c.before.input.left ≡ Some text → ReadWhole c bytes → JudgeReplies bytes s said
    → JudgeReplies text s said
reply_told text bytes said c s told read replies =
    subst (λ b. JudgeReplies b s said) (gave_told input_limit text bytes c.before.input.left c.after.input.left told read.given) replies

-- so a call of judge says it
judged_so : (text : List ℕ) (c : Call) (s : Status) → SaysNothingElse text → c.before.input.left ≡ Some text → length text ≤ input_limit
    → EndsReading JudgeReplies c s → SaysFixes c s
judged_so text c status.Done alone told short (bytes, said, read, replies, wrote) =
    subst (WroteWhole c) (alone status.Done said (reply_told text bytes said c status.Done told read replies)).1 wrote
judged_so text c status.Partial alone told short (bytes, said, read, replies, wrote) =
    absurd (let e = (alone status.Partial said (reply_told text bytes said c status.Partial told read replies)).0 in cc)
judged_so text c status.BadInput alone told short (bytes, said, read, replies, wrote) =
    absurd (let e = (alone status.BadInput said (reply_told text bytes said c status.BadInput told read replies)).0 in cc)
judged_so text c status.WriteFault alone told short (bytes, s, said, read, replies, wrote) = wrote.faults
judged_so text c status.ReadFault alone told short ends = ends.0.faults
judged_so text c status.LongInput alone told short ends =
    absurd (gave_no_more input_limit text c.before.input.left c.after.input.left told short ends.0.given)
judged_so text c status.Memory alone told short ends = tt
judged_so text c status.BadWords alone told short ends = ends
judged_so text c status.BadCatalog alone told short ends = ends
judged_so text c status.OpenFault alone told short ends = ends
judged_so text c status.PortFault alone told short ends = ends

-- the text of a fixed certificate
fixed_text : (text : List ℕ) (c : Certificate) → Spells (lines text) c → IsFixedBy c → IsFixedText text
fixed_text text c spells is =
    let tells : Tells (lines text) Fixes = told_result (lines text) c (Ok Fixes) spells (λ d again. spells_one (lines text) c d spells again) (
      record {
        consistent = is.consistent;
        judged = judged_fixed (guaranteed c) (asked_by c.query) (log_of c) (item_objects c.items) is.fair is.fixed;
      },
      is.figures,
    ) in
    let alone : SaysNothingElse text = λ s said h.
    let told = told_fixed (lines text) c h.told spells is h.tells in
    (h.status_is ∙ ap told_status told, h.text_is ∙ ap told_text told ∙ fixes_text) in
    record {
      spelled = (c, spells, is.figures);
      fixed = tells;
      replied = record { told = Fixes; tells = tells; status_is = refl; text_is = sym fixes_text };
      alone = alone;
      judged = λ call s told short ends. judged_so text call s alone told short ends;
    }

-- the text of a right answer
pub answer_fixed : (sorted : List Bool) (line : ℕ) (q : Query) (n : ℕ) (versions : List ℕ) (answer : Answer) (text : List ℕ) → 1 ≤ line → line < 2 ^ 63
    → IsAnswerOf sorted q n versions answer → text ≡ outcome_text line (Some q) n versions (Answered answer) → IsFixedText text
answer_fixed sorted line q n versions answer text from to is same =
    let honest = fixed_of (method_with q.algorithm sorted) q n answer is.lawful is.expr is.fits is.right in
    fixed_text text (certificate_of line q n versions answer)
    (certified_spelled line q n versions answer text (certified sorted line q n versions answer from to is honest) same)
    (fixed_by sorted line q n versions answer honest is.right)

-- the text that answers a bundle
of_bundle : (content : Content) (query : Option Query) (count : ℕ) (versions : List ℕ) (outcome : Outcome) (text : List ℕ) → IsBundle content
    → Becomes (bundle_line content) query count versions outcome
    → status.Done ≡ outcome_status outcome → text ≡ outcome_text 1 query count versions outcome → IsFixedText text
of_bundle content query count versions (Refused refusal) text bundle becomes is same = absurd (cc)
of_bundle content None count versions (Answered answer) text bundle becomes is same = absurd becomes
of_bundle content (Some q) count versions (Answered answer) text bundle becomes is same =
    answer_fixed (sorted_at becomes.lists) 1 q count versions answer text (omega arith) (omega arith)
    (bundle_answer content q count versions answer bundle becomes) same

pub one_fixed : (bytes text : List ℕ) → Replies bytes status.Done text → IsFixedText text
one_fixed bytes text (inl bundle) = absurd (let e = bundle.status_is in cc)
one_fixed bytes text (inr line) = of_bundle line.content line.query line.count line.versions line.outcome text line.spelled.bundle line.becomes line.status_is line.text_is
