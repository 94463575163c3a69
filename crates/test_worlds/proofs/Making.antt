-- Sources and queries, one after another.
use Rattle.std.proofs.Common.{◌≡◌, ◌<◌, ◌≤◌, ◌+◌, ℕ, zero, suc, true, List, [], ◌∷◌, ◌++◌, length, take, reverse, slice_index_or, All, Contains, refl, sym, ap, subst, ◌∙◌, arith, append_assoc, append-nil}
use Rattle.std.specs.List.{AllZip}
use Rattle.std.proofs.lemmas.List.{reverse-append, reverse-reverse}
use Rattle.std.proofs.lemmas.Slice.Zip.{AllZip-long}
use Rattle.topk_theory.proofs.Agreement.{contains_middle}
use Rattle.topk_theory.proofs.AgreementLists.{member_of_all}
use Rattle.source_state.specs.State.{State, opened}
use Rattle.query_run.specs.declared.ended.Ended.{Ended}
use Rattle.query_run.specs.declared.running_query.RunningQuery.{RunningQuery}
use Rattle.query_run.specs.Inquiries.{is_ended}
use Rattle.query_run.specs.Made.{opened_from}
use Rattle.query_run.specs.Endings.{EndsAs}
use Rattle.query_run.proofs.Lists.{take_more}
use Rattle.query_run.proofs.TurnOpening.{opened_length}

opened_append : (first : ℕ) (counts more : List ℕ) → opened_from first (counts ++ more) ≡ opened_from first counts ++ opened_from (first + length counts) more
opened_append first [] more = let same : first + 0 ≡ first = omega arith in ap (λ f. opened_from f more) (sym same)
opened_append first (count ∷ counts) more =
    let rest = opened_append (first + 1) counts more in
    let same : first + 1 + length counts ≡ first + suc (length counts) = omega arith in
    ap (λ ss. opened first count ∷ ss) (rest ∙ ap (λ f. opened_from (first + 1) counts ++ opened_from f more) same)

take_long : (counts : List ℕ) (place : ℕ) → place ≤ length counts → length (take place counts) ≡ place
take_long [] zero l = refl
take_long [] (suc place) l = absurd (omega (arith, l))
take_long (count ∷ counts) zero l = refl
take_long (count ∷ counts) (suc place) l = let rest = take_long counts place (omega (arith, l)) in omega (arith, rest)

-- how many sources are opened so far
pub opened_so_far : (states : List State) (counts : List ℕ) (place : ℕ) → place ≤ length counts → states ≡ opened_from 0 (take place counts)
    → length states ≡ place
opened_so_far states counts place l e = ap (length {A = State}) e ∙ opened_length 0 (take place counts) ∙ take_long counts place l

-- one more source
pub opened_more : (states more : List State) (counts : List ℕ) (place count : ℕ) → place < length counts → count ≡ slice_index_or counts place 0
    → states ≡ opened_from 0 (take place counts) → more ≡ states ++ opened (length states) count ∷ []
    → more ≡ opened_from 0 (take (place + 1) counts)
opened_more states more counts place count l is e next =
    let long : length states ≡ place = opened_so_far states counts place (omega arith) e in
    let from : opened_from 0 (take (place + 1) counts) ≡ opened_from 0 (take place counts) ++ opened_from (0 + length (take place counts)) (slice_index_or counts place 0 ∷ []) =
    ap (opened_from 0) (take_more counts place 0 l) ∙ opened_append 0 (take place counts) (slice_index_or counts place 0 ∷ []) in
    let at : 0 + length (take place counts) ≡ length states = let t = take_long counts place (omega arith) in omega (arith, t, long) in
    next ∙ ap (λ ss. ss ++ opened (length states) count ∷ []) e ∙ ap (λ c. opened_from 0 (take place counts) ++ opened (length states) c ∷ []) is
    ∙ ap (λ f. opened_from 0 (take place counts) ++ opened f (slice_index_or counts place 0) ∷ []) (sym at) ∙ sym from

pub ending_count : (queries : List RunningQuery) (endings : List Ended) → AllZip EndsAs queries endings → length endings ≡ length queries
ending_count queries endings h = AllZip-long EndsAs queries endings h

-- of these queries some are left, the last one first, and the endings are those of the others
pub record EndsSoFar (queries left : List RunningQuery) (endings : List Ended) : Type 0 where
  pub front : List RunningQuery
  pub splits : queries ≡ front ++ reverse left
  pub ends : AllZip EndsAs front endings

pub ends_begin : (queries left : List RunningQuery) (endings : List Ended) → left ≡ reverse queries → endings ≡ [] → EndsSoFar queries left endings
ends_begin queries left endings e none = record {
  front = [];
  splits = sym (reverse-reverse queries) ∙ ap reverse (sym e);
  ends = subst (AllZip EndsAs []) (sym none) tt;
}

next_splits : (queries front left rest : List RunningQuery) (query : RunningQuery) → queries ≡ front ++ reverse left → left ≡ rest ++ query ∷ []
    → queries ≡ front ++ query ∷ reverse rest
next_splits queries front left rest query e popped = e ∙ ap (λ xs. front ++ reverse xs) popped ∙ ap (λ xs. front ++ xs) (reverse-append rest (query ∷ []))

pub ends_more : (queries left rest : List RunningQuery) (query : RunningQuery) (endings more : List Ended) → EndsSoFar queries left endings
    → left ≡ rest ++ query ∷ [] → ((front : List RunningQuery) → AllZip EndsAs front endings → AllZip EndsAs (front ++ query ∷ []) more)
    → EndsSoFar queries rest more
ends_more queries left rest query endings more h popped next = record {
  front = h.front ++ query ∷ [];
  splits = next_splits queries h.front left rest query h.splits popped ∙ sym (append_assoc h.front (query ∷ []) (reverse rest));
  ends = next h.front h.ends;
}

pub ends_whole : (queries left : List RunningQuery) (endings : List Ended) → EndsSoFar queries left endings → left ≡ [] → AllZip EndsAs queries endings
ends_whole queries left endings h none = subst (λ xs. AllZip EndsAs xs endings) (sym (h.splits ∙ ap (λ xs. h.front ++ reverse xs) none ∙ append-nil h.front)) h.ends

pub next_ended : (queries left rest : List RunningQuery) (query : RunningQuery) (endings : List Ended) → All (λ (q : RunningQuery). is_ended q ≡ true) queries
    → EndsSoFar queries left endings → left ≡ rest ++ query ∷ [] → is_ended query ≡ true
next_ended queries left rest query endings all h popped =
    member_of_all (λ (q : RunningQuery). is_ended q ≡ true) queries query all (subst (λ xs. Contains xs query) (sym (next_splits queries h.front left rest query h.splits popped)) (contains_middle h.front query (reverse rest)))
