-- What some numbers come to, and one more.
use Rattle.std.proofs.Common.{◌≡◌, ◌≤◌, ◌+◌, ◌-◌, ◌^◌, ℕ, List, [], ◌∷◌, ◌++◌, min, max, sum, inl, inr, sym, ◌∙◌, subst, arith, append-nil}
use Rattle.std.proofs.lemmas.Bool.{cases_lt}
use Rattle.std.proofs.lemmas.List.Elements.{All-append, All-cons, All-nil, All-weaker, Contains-push, Contains-append_left}
use Rattle.std.proofs.lemmas.List.Sums.{sum_by_push}
use Rattle.monotone_fn.specs.Tree.{Tree, Trees}
use Rattle.monotone_fn.specs.Shape.{IsGreatest}
use Rattle.monotone_fn.specs.Value.{value, values, IsLeast}
use Rattle.monotone_fn.specs.declared.summary.Summary.{Summary}
use Rattle.monotone_fn.specs.Summary.{Summarizes}
use Rattle.monotone_fn.proofs.Walks.{values-step}

-- the first number is the least and the greatest
pub least_first : (ns : List ℕ) (v : ℕ) → ns ≡ [] → IsLeast (ns ++ v ∷ []) v
least_first ns v none = subst (λ (xs : List ℕ). IsLeast (xs ++ v ∷ []) v) (sym none) (record { among = Contains-push [] v; bounds = All-cons (λ n. v ≤ n) v [] (omega arith) (All-nil (λ n. v ≤ n)) })

pub greatest_first : (ns : List ℕ) (v : ℕ) → ns ≡ [] → IsGreatest (ns ++ v ∷ []) v
greatest_first ns v none = subst (λ (xs : List ℕ). IsGreatest (xs ++ v ∷ []) v) (sym none) (record { among = Contains-push [] v; bounds = All-cons (λ n. n ≤ v) v [] (omega arith) (All-nil (λ n. n ≤ v)) })

-- with one more number
pub least_more : (ns : List ℕ) (least v : ℕ) → IsLeast ns least → IsLeast (ns ++ v ∷ []) (min least v)
least_more ns least v h =
    elim (cases_lt v least) [
      | inl below ↦
          let is : v ≡ min least v = omega arith in
          subst (IsLeast (ns ++ v ∷ [])) is (record {
            among = Contains-push ns v;
            bounds = All-append (λ n. v ≤ n) ns (v ∷ []) (All-weaker (λ n. least ≤ n) (λ n. v ≤ n) (λ n above. omega arith) ns h.bounds) (All-cons (λ n. v ≤ n) v [] (omega arith) (All-nil (λ n. v ≤ n)));
          })
      | inr above ↦
          let is : least ≡ min least v = omega arith in
          subst (IsLeast (ns ++ v ∷ [])) is (record {
            among = Contains-append_left ns (v ∷ []) least h.among;
            bounds = All-append (λ n. least ≤ n) ns (v ∷ []) h.bounds (All-cons (λ n. least ≤ n) v [] above (All-nil (λ n. least ≤ n)));
          })
    ]

pub greatest_more : (ns : List ℕ) (greatest v : ℕ) → IsGreatest ns greatest → IsGreatest (ns ++ v ∷ []) (max greatest v)
greatest_more ns greatest v h =
    elim (cases_lt greatest v) [
      | inl above ↦
          let is : v ≡ max greatest v = omega arith in
          subst (IsGreatest (ns ++ v ∷ [])) is (record {
            among = Contains-push ns v;
            bounds = All-append (λ n. n ≤ v) ns (v ∷ []) (All-weaker (λ n. n ≤ greatest) (λ n. n ≤ v) (λ n below. omega arith) ns h.bounds) (All-cons (λ n. n ≤ v) v [] (omega arith) (All-nil (λ n. n ≤ v)));
          })
      | inr below ↦
          let is : greatest ≡ max greatest v = omega arith in
          subst (IsGreatest (ns ++ v ∷ [])) is (record {
            among = Contains-append_left ns (v ∷ []) greatest h.among;
            bounds = All-append (λ n. n ≤ greatest) ns (v ∷ []) h.bounds (All-cons (λ n. n ≤ greatest) v [] below (All-nil (λ n. n ≤ greatest)));
          })
    ]

pub total_more : (ns : List ℕ) (total v : ℕ) → total ≡ min (sum ns) (2 ^ 64 - 1) → min (total + v) (2 ^ 64 - 1) ≡ min (sum (ns ++ v ∷ [])) (2 ^ 64 - 1)
total_more ns total v is = omega (arith, sum_by_push (λ n. n) ns v)

-- the summary of the numbers before the rest of all
pub record SummarizesSoFar (summary : Summary) (rest all : List ℕ) : Type 0 where
  pub done : List ℕ
  pub parts : done ++ rest ≡ all
  pub of : Summarizes done summary

pub summarizes_more : (x all : List ℕ) (t : Tree) (rest : Trees) (v : ℕ) (before after : Summary)
    → SummarizesSoFar before (values (Trees.tree_then t rest) x) all
    → v ≡ value t x → ((ns : List ℕ) → Summarizes ns before → Summarizes (ns ++ v ∷ []) after) → SummarizesSoFar after (values rest x) all
summarizes_more x all t rest v before after so_far is more = record {
  done = so_far.done ++ v ∷ [];
  parts = values-step x so_far.done all t rest v so_far.parts is;
  of = more so_far.done so_far.of;
}

pub summarizes_all : (summary : Summary) (all : List ℕ) → SummarizesSoFar summary [] all → Summarizes all summary
summarizes_all summary all so_far = subst (λ (ns : List ℕ). Summarizes ns summary) (sym (append-nil so_far.done) ∙ so_far.parts) so_far.of
