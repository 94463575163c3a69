use Rattle.std.proofs.Common.{◌≡◌, ℕ, ◌+◌, ◌≤◌, List, length, Err, sym, ap, subst, ◌∙◌, arith, take, drop}
use Rattle.std.proofs.lemmas.List.{length-drop}
use Rattle.query_text.specs.Course.{course_view, is_open}
use Rattle.std.proofs.lemmas.Result.{err_from_is_err_and}
use Rattle.query_text.specs.Reached.{Reached, WordsRead}
use Rattle.query_text.specs.declared.fault.QueryFault.{QueryFault}
use Rattle.query_text.specs.declared.fault.QueryFault.TheVariants as faults
use Rattle.query_text.proofs.ReadLaws.{whole_has_byte, reach_few, reach-next, reach_refused, reach_draft, reach_fault}
use Rattle.query_text.proofs.reading.take_words.Goals as goal
use Rattle.query_text.proofs.reading.take_words.Goals.{then-at-bytes, else-at-bytes+then-not-may_end}

pub loop-at-init : goal.loop-at-init
loop-at-init c = c.requires.start

pub returns-in-Err-clause-err : goal.returns-in-Err-clause-err
returns-in-Err-clause-err c =
    reach_refused c.args.bytes.now c.loop-at.at c.in-Err.ensures.0 c.loop-at.course c.loop-at.draft c.loop-at.fault c.in-Err.at c.loop-at.invariant
    c.in-Err.ensures.1 c.in-Err.ensures.2 c.in-Err.ensures.3
    (elim c.if-at-bytes.branch [ then-at-bytes w ↦ (λ over. absurd (omega arith)) | else-at-bytes+then-not-may_end w ↦ (λ over. sym w.may_end.ensures ∙ w.if-not-may_end.true) ])

pub loop-at-preserved : goal.loop-at-preserved
loop-at-preserved c =
    reach-next c.args.bytes.now c.loop-at.at c.in-Ok.count c.loop-at.course c.advance.new.self c.loop-at.draft c.take_word.new.draft c.loop-at.fault c.in_ok-fault.fault _
    c.loop-at.invariant (ap (λ n. take n (drop c.loop-at.at c.args.bytes.now)) (omega arith)) c.in-Ok.ensures.0 c.in-Ok.ensures.1 c.in_ok-fault.ensures.ok c.in_ok-advance.ensures.ok

pub loop-at-smaller : goal.loop-at-smaller
loop-at-smaller c =
    let n = whole_has_byte c.loop-at.course.stage (is_open (course_view c.loop-at.course).operators) c.in-Ok.count (drop c.loop-at.at c.args.bytes.now) c.in-Ok.ensures.1 in
    omega (arith, n, c.in-Ok.ensures.0.within, length-drop c.loop-at.at c.args.bytes.now, c.loop-at.invariant.within)

pub returns-in-None-clause-ok : goal.returns-in-None-clause-ok
returns-in-None-clause-ok c =
    reach_draft c.args.bytes.now c.loop-at.at c.loop-at.course c.loop-at.draft
    (subst (Reached c.args.bytes.now c.loop-at.at c.loop-at.course c.loop-at.draft) c.in-None.is c.loop-at.invariant) (omega arith) (sym c.may_end.ensures ∙ c.if-not-may_end.false)

pub returns-in-Some-clause-err : goal.returns-in-Some-clause-err
returns-in-Some-clause-err c =
    reach_fault c.args.bytes.now c.loop-at.at c.loop-at.course c.loop-at.draft c.in-Some.fault
    (subst (Reached c.args.bytes.now c.loop-at.at c.loop-at.course c.loop-at.draft) c.in-Some.is c.loop-at.invariant) (omega arith) (sym c.may_end.ensures ∙ c.if-not-may_end.false)

-- a word ends within the line
word_within : (line : List ℕ) (at count : ℕ) → at ≤ length line → count ≤ length (drop at line) → at + count ≤ length line
word_within line at count within inside = omega (arith, within, inside, length-drop at line)

behind : (at count : ℕ) → at ≤ at + count
behind at count = omega arith

pub next_word-requires-clause-within : goal.next_word-requires-clause-within
next_word-requires-clause-within c = c.loop-at.invariant.within

pub next_word-requires-clause-short : goal.next_word-requires-clause-short
next_word-requires-clause-short c = c.requires.short

pub overflow_add-word : goal.overflow_add-word
overflow_add-word c =
    omega (arith, word_within c.args.bytes.now c.loop-at.at c.in-Ok.count c.loop-at.invariant.within c.in-Ok.ensures.0.within, c.requires.short)

pub slice_bounds-word-count : goal.slice_bounds-word-count
slice_bounds-word-count c = behind c.loop-at.at c.in-Ok.count

pub slice_bounds-word-start : goal.slice_bounds-word-start
slice_bounds-word-start c = behind c.loop-at.at c.in-Ok.count

pub slice_bounds-word-end : goal.slice_bounds-word-end
slice_bounds-word-end c = word_within c.args.bytes.now c.loop-at.at c.in-Ok.count c.loop-at.invariant.within c.in-Ok.ensures.0.within

pub overflow_cast-at : goal.overflow_cast-at
overflow_cast-at c = omega (arith, c.loop-at.invariant.within, c.requires.short)

pub overflow_add-at : goal.overflow_add-at
overflow_add-at c =
    omega (arith, word_within c.args.bytes.now c.loop-at.at c.in-Ok.count c.loop-at.invariant.within c.in-Ok.ensures.0.within, c.requires.short)

-- lack of memory is free
memory_read : (line : List ℕ) (fault : QueryFault) → fault ≡ faults.Memory → WordsRead line (Err fault)
memory_read line fault e = subst (λ f. WordsRead line (Err f)) (sym e) tt

pub take_word-requires : goal.take_word-requires
take_word-requires c = reach_few c.args.bytes.now c.loop-at.at c.loop-at.course c.loop-at.draft c.loop-at.fault c.loop-at.invariant

pub returns-in_err-fault-clause-err : goal.returns-in_err-fault-clause-err
returns-in_err-fault-clause-err c =
    let p = err_from_is_err_and c.from_residual.result c.from_residual.ensures.1 in
    rw (p.1, p.2) (memory_read c.args.bytes.now _ c.in_err-fault.ensures.err)

pub returns-in_err-advance-clause-err : goal.returns-in_err-advance-clause-err
returns-in_err-advance-clause-err c =
    let p = err_from_is_err_and c.from_residual-in_err-advance.result c.from_residual-in_err-advance.ensures.1 in
    rw (p.1, p.2) (memory_read c.args.bytes.now _ c.in_err-advance.ensures.err)
