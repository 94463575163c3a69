-- Judging line by line.
use Rattle.std.proofs.Common.{◌≡◌, ℕ, suc, ◌+◌, ◌<◌, List, [], ◌∷◌, ◌++◌, length, take, Result, Ok, Err, refl, sym, ap, subst, ◌∙◌, arith}
use Rattle.topk_base.specs.Lines.{lines}
use Rattle.topk_base.proofs.LineLaws.{lines-nil}
use Rattle.cert_text.specs.declared.fault.CertFault.{CertFault}
use Rattle.cert_text.specs.declared.fault.CertFault.TheVariants.{BadLine, Memory}
use Rattle.cert_text.specs.Judging.{Leads, IsFault, Judges, Finds}

-- no value is spelled by lines that begin with this one
pub judges_here : {X : Type 0} (S : List (List ℕ) → X → Type 0) (line : List ℕ) (ls : List (List ℕ)) → Leads S []
    → ((rest : List (List ℕ)) (x : X) → S (line ∷ rest) x → ⊥) → Judges S (line ∷ ls) (Err 0)
judges_here S line ls some none = (
  record {
    within = omega arith;
    leads = some;
    ends = λ inside leads. none leads.0 leads.1.0 leads.1.1;
  },
  λ x spelled. none ls x spelled,
)

-- no line is left where one is wanted
pub judges_end : {X : Type 0} (S : List (List ℕ) → X → Type 0) → Leads S [] → ((x : X) → S [] x → ⊥) → Judges S [] (Err 0)
judges_end S some none = (
  record { within = omega arith; leads = some; ends = λ inside leads. absurd (omega arith) },
  none,
)

-- a line before other lines: what is spelled by it and them comes from what is spelled by them
pub record Steps {X Y : Type 0} (S : List (List ℕ) → X → Type 0) (S' : List (List ℕ) → Y → Type 0) (line : List ℕ) (f : X → Y) : Type 0 where
  pub adds : (ls : List (List ℕ)) (x : X) → S ls x → S' (line ∷ ls) (f x)
  pub drops : (ls : List (List ℕ)) (y : Y) → S' (line ∷ ls) y → (x : X) × S ls x × (y ≡ f x)

-- what was found of lines, told of lines before them
abbrev pub carried : {X Y : Type 0} → (X → Y) → ℕ → Result X ℕ → Result Y ℕ
carried f k (Ok x) = Ok (f x)
carried f k (Err before) = Err (k + before)

fault_under : {X Y : Type 0} (S : List (List ℕ) → X → Type 0) (S' : List (List ℕ) → Y → Type 0) (line : List ℕ) (f : X → Y) (ls : List (List ℕ)) (before : ℕ)
    → Steps S S' line f → IsFault S ls before → IsFault S' (line ∷ ls) (suc before)
fault_under S S' line f ls before steps fault = record {
  within = omega (arith, fault.within);
  leads = let l = fault.leads in (l.0, (f l.1.0, steps.adds (take before ls ++ l.0) l.1.0 l.1.1));
  ends = λ inside leads.
      let back = steps.drops (take (suc before) ls ++ leads.0) leads.1.0 leads.1.1 in
      fault.ends (omega arith) (leads.0, (back.0, back.1));
}

pub judges_under : {X Y : Type 0} (S : List (List ℕ) → X → Type 0) (S' : List (List ℕ) → Y → Type 0) (line : List ℕ) (f : X
    → Y) (ls : List (List ℕ)) (r : Result X ℕ)
    → Steps S S' line f → Judges S ls r → Judges S' (line ∷ ls) (carried f 1 r)
judges_under S S' line f ls (Ok x) steps judged = (
  steps.adds ls x judged.0,
  λ y spelled. let back = steps.drops ls y spelled in back.2 ∙ ap f (judged.1 back.0 back.1),
)
judges_under S S' line f ls (Err before) steps judged =
    let e : suc before ≡ 1 + before = omega arith in (
      subst (IsFault S' (line ∷ ls)) e (fault_under S S' line f ls before steps judged.0),
      λ y spelled. let back = steps.drops ls y spelled in judged.1 back.0 back.1,
    )

-- the same where no line stands before them
abbrev pub told : {X Y : Type 0} → (X → Y) → Result X ℕ → Result Y ℕ
told f (Ok x) = Ok (f x)
told f (Err before) = Err before

-- whatever is found of the lines that are left tells what is found of all lines
abbrev pub Carries : {X Y : Type 0} → (List (List ℕ) → X → Type 0) → List (List ℕ) → (X → Y) → ℕ → (List (List ℕ) → Y → Type 0) → List (List ℕ) → Type 0
Carries {X} S ls f k S' all = (r : Result X ℕ) → Judges S ls r → Judges S' all (carried f k r)

pub carries_none : {X : Type 0} (S : List (List ℕ) → X → Type 0) (ls : List (List ℕ)) → Carries S ls (λ x. x) 0 S ls
carries_none S ls (Ok x) judged = judged
carries_none S ls (Err before) judged = subst (λ n. Judges S ls (Err n)) (let e : before ≡ 0 + before = omega arith in e) judged

-- one line more was read
pub carries_more : {X Y Z : Type 0} (S : List (List ℕ) → X → Type 0) (S' : List (List ℕ) → Y → Type 0) (S'' : List (List ℕ) → Z → Type 0)
    (line : List ℕ) (ls now all : List (List ℕ)) (f : X → Y) (g : Y → Z) (h : X → Z) (k : ℕ)
    → now ≡ line ∷ ls → Steps S S' line f → ((x : X) → h x ≡ g (f x)) → Carries S' now g k S'' all → Carries S ls h (k + 1) S'' all
carries_more S S' S'' line ls now all f g h k is steps same carries (Ok x) judged =
    subst (λ z. Judges S'' all (Ok z)) (sym (same x))
    (carries (Ok (f x)) (subst (λ n. Judges S' n (Ok (f x))) (sym is) (judges_under S S' line f ls (Ok x) steps judged)))
carries_more S S' S'' line ls now all f g h k is steps same carries (Err before) judged =
    let e : k + (1 + before) ≡ (k + 1) + before = omega arith in
    subst (λ n. Judges S'' all (Err n)) e
    (carries (Err (1 + before)) (subst (λ n. Judges S' n (Err (1 + before))) (sym is) (judges_under S S' line f ls (Err before) steps judged)))

-- no line is read, and what the lines spell comes from what they spell of fewer values
pub record Aside {X Y : Type 0} (S : List (List ℕ) → X → Type 0) (S' : List (List ℕ) → Y → Type 0) (ls : List (List ℕ)) (f : X → Y) : Type 0 where
  pub adds : (xs : List (List ℕ)) (x : X) → S xs x → S' xs (f x)
  pub drops : (xs : List (List ℕ)) (y : Y) → take 1 xs ≡ take 1 ls → S' xs y → (x : X) × S xs x × (y ≡ f x)

-- the first line of a longer front of lines
front_first : (ls more : List (List ℕ)) (before : ℕ) → before < length ls → take 1 (take (suc before) ls ++ more) ≡ take 1 ls
front_first [] more before inside = absurd (omega arith)
front_first (line ∷ ls) more before inside = refl

judges_aside : {X Y : Type 0} (S : List (List ℕ) → X → Type 0) (S' : List (List ℕ) → Y → Type 0) (ls : List (List ℕ)) (f : X → Y) (r : Result X ℕ)
    → Aside S S' ls f → Judges S ls r → Judges S' ls (told f r)
judges_aside S S' ls f (Ok x) aside judged = (
  aside.adds ls x judged.0,
  λ y spelled. let back = aside.drops ls y refl spelled in back.2 ∙ ap f (judged.1 back.0 back.1),
)
judges_aside S S' ls f (Err before) aside judged =
    let fault = judged.0 in (
      record {
        within = fault.within;
        leads = let l = fault.leads in (l.0, (f l.1.0, aside.adds (take before ls ++ l.0) l.1.0 l.1.1));
        ends = λ inside leads.
            let back = aside.drops (take (suc before) ls ++ leads.0) leads.1.0 (front_first ls leads.0 before inside) leads.1.1 in
            fault.ends inside (leads.0, (back.0, back.1));
      },
      λ y spelled. let back = aside.drops ls y refl spelled in judged.1 back.0 back.1,
    )

-- no line more was read
pub carries_aside : {X Y Z : Type 0} (S : List (List ℕ) → X → Type 0) (S' : List (List ℕ) → Y → Type 0) (S'' : List (List ℕ) → Z → Type 0)
    (ls all : List (List ℕ)) (f : X → Y) (g : Y → Z) (h : X → Z) (k : ℕ)
    → Aside S S' ls f → ((x : X) → h x ≡ g (f x)) → Carries S' ls g k S'' all → Carries S ls h k S'' all
carries_aside S S' S'' ls all f g h k aside same carries (Ok x) judged =
    subst (λ z. Judges S'' all (Ok z)) (sym (same x)) (carries (Ok (f x)) (judges_aside S S' ls f (Ok x) aside judged))
carries_aside S S' S'' ls all f g h k aside same carries (Err before) judged =
    carries (Err before) (judges_aside S S' ls f (Err before) aside judged)

-- a fault that was found is one of all lines
pub finds_fault : {X Y U V : Type 0} (S : List (List ℕ) → X → Type 0) (S' : List (List ℕ) → Y → Type 0) (ls all : List (List ℕ)) (f : X
    → Y) (k first number : ℕ)
    (view : U → X) (view' : V
    → Y) (e : CertFault) → Carries S ls f k S' all → number ≡ first + k → Finds S view number ls (Err e) → Finds S' view' first all (Err e)
finds_fault S S' ls all f k first number view view' (BadLine line) carries is found = (
  k + found.0,
  omega (arith, found.1),
  carries (Err found.0) found.2,
)
finds_fault S S' ls all f k first number view view' Memory carries is found = tt

-- a fault at the next line
pub finds_here : {X Y : Type 0} (S : List (List ℕ) → X → Type 0) (S' : List (List ℕ) → Y → Type 0) (ls all : List (List ℕ)) (f : X → Y) (k first number : ℕ)
    → Carries S ls f k S' all → number ≡ first + k → Judges S ls (Err 0) → (before : ℕ) × (number ≡ first + before) × Judges S' all (Err before)
finds_here S S' ls all f k first number carries is judged = (k + 0, omega arith, carries (Err 0) judged)

-- a fault at the first line
pub finds_first : {X : Type 0} (S : List (List ℕ) → X → Type 0) (ls : List (List ℕ)) (first : ℕ) → Judges S ls (Err 0)
    → (before : ℕ) × (first ≡ first + before) × Judges S ls (Err before)
finds_first S ls first judged = (0, omega arith, judged)

-- a line that begins no spelled lines, and no line where one is wanted
pub judged_here : {X : Type 0} (S : List (List ℕ) → X → Type 0) (line : List ℕ) (ls now : List (List ℕ)) → now ≡ line ∷ ls → Leads S []
    → ((rest : List (List ℕ)) (x : X) → S (line ∷ rest) x → ⊥) → Judges S now (Err 0)
judged_here S line ls now is some none = subst (λ n. Judges S n (Err 0)) (sym is) (judges_here S line ls some none)

pub judged_end : {X : Type 0} (S : List (List ℕ) → X → Type 0) (text : List ℕ) → text ≡ [] → Leads S [] → ((x : X) → S [] x → ⊥) → Judges S (lines text) (Err 0)
judged_end S text is some none = subst (λ n. Judges S n (Err 0)) (sym (ap lines is ∙ lines-nil)) (judges_end S some none)

-- what was found of the lines that are left is what is found of all lines
pub finds_same : {X Y U : Type 0} (S : List (List ℕ) → X → Type 0) (S' : List (List ℕ) → Y → Type 0) (ls all : List (List ℕ)) (f : X → Y) (k first number : ℕ)
    (view : U → X) (view' : U → Y) (r : Result U CertFault) → ((u : U) → S ls (view u) → f (view u) ≡ view' u)
    → Carries S ls f k S' all → number ≡ first + k → Finds S view number ls r → Finds S' view' first all r
finds_same S S' ls all f k first number view view' (Ok u) same carries is found =
    subst (λ y. Judges S' all (Ok y)) (same u found.0) (carries (Ok (view u)) found)
finds_same S S' ls all f k first number view view' (Err e) same carries is found =
    finds_fault S S' ls all f k first number view view' e carries is found

-- one line before other lines
pub carries_line : {X Y : Type 0} (S : List (List ℕ) → X → Type 0) (S' : List (List ℕ) → Y → Type 0) (line : List ℕ) (ls now : List (List ℕ)) (f : X → Y)
    → now ≡ line ∷ ls → Steps S S' line f → Carries S ls f 1 S' now
carries_line S S' line ls now f is steps r judged = subst (λ n. Judges S' n (carried f 1 r)) (sym is) (judges_under S S' line f ls r steps judged)
