-- Each line of a certificate, judged before the lines that follow it.
use Rattle.std.proofs.Common.{◌≡◌, ◌≢◌, ◌<◌, ◌^◌, ℕ, Bool, true, false, Option, option_map, List, [], ◌∷◌, ◌++◌, length, map, take, codes, All, Some, None, refl, sym, ap, subst, ◌∙◌, arith, ◌+◌, append-nil, append_assoc}
use Rattle.std.proofs.lemmas.Bool.{true≢false}
use Rattle.std.proofs.lemmas.Option.{same_Some}
use Rattle.std.proofs.lemmas.List.{length-map}
use Rattle.std.proofs.lemmas.List.Elements.{All-nil, All-cons, All-head, All-tail, All-weaker}
use Rattle.ranked_list.specs.declared.item.Item.{Item}
use Rattle.topk_theory.specs.declared.access.Access.{Access}
use Rattle.query_text.specs.declared.query.Query.{Query}
use Rattle.cert_text.specs.declared.factor.Guarantee.{Guarantee}
use Rattle.cert_text.specs.Guarantee.{factor_of, has_guarantee}
use Rattle.algorithm_theory.specs.Within.{Factor}
use Rattle.cert_text.specs.declared.certificate.Certificate.{Certificate}
use Rattle.cert_text.specs.declared.parts.Figures.{Figures}
use Rattle.cert_text.specs.Certificate.{number_line, query_line, count_line, version_lines, answer_line, guarantee_line, guarantee_lines, guaranteed, stop_line, access_line, access_lines, IsItem, IsAccess}
use Rattle.cert_text.specs.Parts.{number_in, count_in, item_in, guarantee_in, figures_in, access_in}
use Rattle.cert_text.specs.Judging.{Leads, AreNames, Found, FindsQuery, SpellsNone, SpellsAccesses, SpellsStopped, SpellsEnding, SpellsFound, SpellsVersioned, SpellsCounted, SpellsQueried}
use Rattle.cert_text.specs.Reading.{Spells}
use Rattle.cert_text.proofs.LineLaws.{number_in-line, number_in-some, count_in-line, count_in-some, item_in-line, item_in-some, guarantee_in-line, guarantee_in-some, figures_in-line, figures_in-some, access_in-line, access_in-some, access_in-end, item_in-guarantee, item_in-stop}
use Rattle.cert_text.proofs.JudgingLaws.{Steps, Aside, Carries, carries_none, carries_more, carries_aside}
use Rattle.cert_text.proofs.VersionLines.{lines_unversioned}

-- a line that begins the same lines
pub same_line : {X : Type 0} (x y : X) (xs ys : List X) → x ∷ xs ≡ y ∷ ys → x ≡ y
same_line x y xs ys e = cc

pub same_rest : {X : Type 0} (x y : X) (xs ys : List X) → x ∷ xs ≡ y ∷ ys → xs ≡ ys
same_rest x y xs ys e = cc

-- the line that ends a certificate

end_drops : (names : List (List ℕ)) (value : List Access) (ls : List (List ℕ)) (y : List Access) → AreNames names → SpellsAccesses names (codes "end" ∷ ls) y
    → (x : List Access) × SpellsNone value ls x × (y ≡ [])
end_drops names value ls [] are spelled = (value, (same_rest _ _ _ _ spelled.1, refl), refl)
end_drops names value ls (b ∷ bs) are spelled =
    let line : codes "end" ≡ access_line names b = same_line _ _ _ _ spelled.1 in
    let read : access_in names (access_line names b) ≡ Some b = access_in-line names b are (All-head (IsAccess (length names)) b bs spelled.0) in
    let none : access_in names (codes "end") ≡ None = access_in-end names in
    let same : access_in names (codes "end") ≡ access_in names (access_line names b) = ap (access_in names) line in
    absurd cc

pub steps_end : (names : List (List ℕ)) (value : List Access) → AreNames names → Steps (SpellsNone value) (SpellsAccesses names) (codes "end") (λ _. [])
steps_end names value are = record {
  adds = λ ls x none. (All-nil (IsAccess (length names)), ap (λ t. codes "end" ∷ t) none.0);
  drops = λ ls y spelled. end_drops names value ls y are spelled;
}

pub none_some : (value : List Access) → Leads (SpellsNone value) []
none_some value = ([], (value, (refl, refl)))

pub none_here : (value : List Access) (line : List ℕ) (rest : List (List ℕ)) (x : List Access) → SpellsNone value (line ∷ rest) x → ⊥
none_here value line rest x spelled = let e = spelled.0 in cc

-- an access

access_drops : (names : List (List ℕ)) (line : List ℕ) (a : Access) (ls : List (List ℕ)) (y : List Access) → AreNames names → access_in names line ≡ Some a
    → SpellsAccesses names (line ∷ ls) y → (x : List Access) × SpellsAccesses names ls x × (y ≡ a ∷ x)
access_drops names line a ls [] are read spelled =
    let is : line ≡ codes "end" = same_line _ _ _ _ spelled.1 in
    let none : access_in names (codes "end") ≡ None = access_in-end names in
    let same : access_in names line ≡ access_in names (codes "end") = ap (access_in names) is in
    absurd cc
access_drops names line a ls (b ∷ bs) are read spelled =
    let is : line ≡ access_line names b = same_line _ _ _ _ spelled.1 in
    let again : access_in names (access_line names b) ≡ Some b = access_in-line names b are (All-head (IsAccess (length names)) b bs spelled.0) in
    let same : a ≡ b = same_Some a b (sym read ∙ ap (access_in names) is ∙ again) in
    (bs, (All-tail (IsAccess (length names)) b bs spelled.0, same_rest _ _ _ _ spelled.1), ap (λ t. t ∷ bs) (sym same))

pub steps_access : (names : List (List ℕ)) (line : List ℕ) (a : Access) → AreNames names → access_in names line ≡ Some a
    → Steps (SpellsAccesses names) (SpellsAccesses names) line (λ more. a ∷ more)
steps_access names line a are read = record {
  adds = λ ls x spelled.
      let says = access_in-some names line a read in
      (All-cons (IsAccess (length names)) a x says.fits spelled.0, ap (λ t. t ∷ ls) says.line_is ∙ ap (λ t. access_line names a ∷ t) spelled.1);
  drops = λ ls y spelled. access_drops names line a ls y are read spelled;
}

pub accesses_some : (names : List (List ℕ)) → Leads (SpellsAccesses names) []
accesses_some names = (codes "end" ∷ [], ([], (All-nil (IsAccess (length names)), refl)))

pub accesses_end : (names : List (List ℕ)) (x : List Access) → SpellsAccesses names [] x → ⊥
accesses_end names [] spelled = let e = spelled.1 in cc
accesses_end names (a ∷ more) spelled = let e = spelled.1 in cc

pub accesses_here : (names : List (List ℕ)) (line : List ℕ) → AreNames names → access_in names line ≡ None → line ≢ codes "end"
    → (rest : List (List ℕ)) (x : List Access) → SpellsAccesses names (line ∷ rest) x → ⊥
accesses_here names line are none other rest [] spelled = other (same_line _ _ _ _ spelled.1)
accesses_here names line are none other rest (b ∷ bs) spelled =
    let is : line ≡ access_line names b = same_line _ _ _ _ spelled.1 in
    let read : access_in names (access_line names b) ≡ Some b = access_in-line names b are (All-head (IsAccess (length names)) b bs spelled.0) in
    let same : access_in names line ≡ access_in names (access_line names b) = ap (access_in names) is in
    absurd cc

-- the figures

stop_drops : (names : List (List ℕ)) (line : List ℕ) (f : Figures) (ls : List (List ℕ)) (figures : Figures) (accesses : List Access)
    → figures_in line ≡ Some f → SpellsStopped names (line ∷ ls) (figures, accesses)
    → (x : List Access) × SpellsAccesses names ls x × ◌≡◌ {A = Figures × List Access} (figures, accesses) (f, x)
stop_drops names line f ls figures accesses read spelled =
    let is : line ≡ stop_line figures.depth figures.sorted figures.random figures.cost = same_line _ _ _ _ spelled.spelled in
    let same : figures ≡ f = same_Some figures f (sym (figures_in-line figures spelled.figures) ∙ ap figures_in (sym is) ∙ read) in
    let with_figures : Figures → Figures × List Access = λ g. (g, accesses) in
    (accesses, (spelled.accesses, same_rest _ _ _ _ spelled.spelled), ap with_figures same)

pub steps_stop : (names : List (List ℕ)) (line : List ℕ) (f : Figures) → figures_in line ≡ Some f
    → Steps (SpellsAccesses names) (SpellsStopped names) line (λ more. (f, more))
steps_stop names line f read = record {
  adds = λ ls x spelled.
      let says = figures_in-some line f read in
      record {
        figures = says.figures;
        accesses = spelled.0;
        spelled = ap (λ t. t ∷ ls) says.line_is ∙ ap (λ t. stop_line f.depth f.sorted f.random f.cost ∷ t) spelled.1;
      };
  drops = λ ls y spelled. stop_drops names line f ls y.0 y.1 read spelled;
}

-- figures of 0, and no access
abbrev pub no_figures : Figures
no_figures = record { depth = 0; sorted = 0; random = 0; cost = 0 }

stopped_nothing : (names : List (List ℕ)) → SpellsStopped names (stop_line 0 0 0 0 ∷ codes "end" ∷ []) (no_figures, [])
stopped_nothing names = record {
  figures = record { depth = omega arith; sorted = omega arith; random = omega arith; cost = omega arith };
  accesses = All-nil (IsAccess (length names));
  spelled = refl;
}

pub stopped_some : (names : List (List ℕ)) → Leads (SpellsStopped names) []
stopped_some names = (stop_line 0 0 0 0 ∷ codes "end" ∷ [], ((no_figures, []), stopped_nothing names))

pub stopped_end : (names : List (List ℕ)) (x : Figures × List Access) → SpellsStopped names [] x → ⊥
stopped_end names x spelled = let e = spelled.spelled in cc

pub stopped_here : (names : List (List ℕ)) (line : List ℕ) → figures_in line ≡ None
    → (rest : List (List ℕ)) (x : Figures × List Access) → SpellsStopped names (line ∷ rest) x → ⊥
stopped_here names line none rest x spelled =
    let is : line ≡ stop_line x.0.depth x.0.sorted x.0.random x.0.cost = same_line _ _ _ _ spelled.spelled in
    let read : figures_in (stop_line x.0.depth x.0.sorted x.0.random x.0.cost) ≡ Some x.0 = figures_in-line x.0 spelled.figures in
    let same : figures_in line ≡ figures_in (stop_line x.0.depth x.0.sorted x.0.random x.0.cost) = ap figures_in is in
    absurd cc

-- the guarantee

guarantee_drops : (names : List (List ℕ)) (line : List ℕ) (g : Guarantee) (ls : List (List ℕ)) (its : Option Guarantee) (figures : Figures) (accesses : List Access)
    → guarantee_in line ≡ Some g → SpellsEnding true names (line ∷ ls) (its, figures, accesses)
    → (x : Figures × List Access) × SpellsStopped names ls x × ◌≡◌ {A = Option Guarantee × Figures × List Access} (its, figures, accesses) (Some g, x.0, x.1)
guarantee_drops names line g ls None figures accesses read spelled = absurd (true≢false (sym spelled.there))
guarantee_drops names line g ls (Some its) figures accesses read spelled =
    let is : line ≡ guarantee_line (factor_of its) = same_line _ _ _ _ spelled.first in
    let rest : ls ≡ spelled.rest = same_rest _ _ _ _ spelled.first in
    let same : its ≡ g = same_Some its g (sym (guarantee_in-line its spelled.small) ∙ ap guarantee_in (sym is) ∙ read) in
    let with_guarantee : Guarantee → Option Guarantee × Figures × List Access = λ i. (Some i, figures, accesses) in
    ((figures, accesses), subst (λ xs. SpellsStopped names xs (figures, accesses)) (sym rest) spelled.stopped, ap with_guarantee same)

pub steps_guarantee : (names : List (List ℕ)) (line : List ℕ) (g : Guarantee) → guarantee_in line ≡ Some g
    → Steps (SpellsStopped names) (SpellsEnding true names) line (λ stopped. (Some g, stopped.0, stopped.1))
steps_guarantee names line g read = record {
  adds = λ ls x spelled.
      let says = guarantee_in-some line g read in
      record { rest = ls; first = ap (λ t. t ∷ ls) says.line_is; there = refl; small = says.fits; stopped = spelled };
  drops = λ ls y spelled. guarantee_drops names line g ls y.0 y.1 y.2 read spelled;
}

-- where none is wanted there is none
none_only : (names ls : List (List ℕ)) (its : Option Guarantee) (figures : Figures) (accesses : List Access) → SpellsEnding false names ls (its, figures, accesses)
    → (x : Figures × List Access) × SpellsStopped names ls x × ◌≡◌ {A = Option Guarantee × Figures × List Access} (its, figures, accesses) (None, x.0, x.1)
none_only names ls None figures accesses spelled =
    ((figures, accesses), subst (λ xs. SpellsStopped names xs (figures, accesses)) (sym spelled.first) spelled.stopped, refl)
none_only names ls (Some its) figures accesses spelled = absurd (true≢false spelled.there)

aside_stopped : (names ls : List (List ℕ)) → Aside (SpellsStopped names) (SpellsEnding false names) ls (λ stopped. (None, stopped.0, stopped.1))
aside_stopped names ls = record {
  adds = λ xs x spelled. record { rest = xs; first = refl; there = refl; small = tt; stopped = spelled };
  drops = λ xs y first spelled. none_only names xs y.0 y.1 y.2 spelled;
}

-- what is found of the figures is found of what stands behind the objects
pub carries_stopped : (names ls : List (List ℕ)) → Carries (SpellsStopped names) ls (λ stopped. (None, stopped.0, stopped.1)) 0 (SpellsEnding false names) ls
carries_stopped names ls =
    carries_aside (SpellsStopped names) (SpellsEnding false names) (SpellsEnding false names) ls ls (λ stopped. (None, stopped.0, stopped.1)) (λ e. e)
    (λ stopped. (None, stopped.0, stopped.1)) 0 (aside_stopped names ls) (λ _. refl) (carries_none (SpellsEnding false names) ls)

-- some guarantee, where one is wanted
abbrev pub nominal : Bool → Option Guarantee
nominal false = None
nominal true = Some (record { p = 1; q = 1 })

-- an answer of no object, no access and figures of 0
abbrev pub nothing : Bool → Found
nothing wanted = record { items = []; guarantee = nominal wanted; figures = no_figures; accesses = [] }

abbrev pub nothing_lines : Bool → List (List ℕ)
nothing_lines wanted = guarantee_lines (option_map factor_of (nominal wanted)) ++ stop_line 0 0 0 0 ∷ codes "end" ∷ []

ending_nothing : (wanted : Bool) (names : List (List ℕ)) → SpellsEnding wanted names (nothing_lines wanted) (nominal wanted, no_figures, [])
ending_nothing false names = record { rest = stop_line 0 0 0 0 ∷ codes "end" ∷ []; first = refl; there = refl; small = tt; stopped = stopped_nothing names }
ending_nothing true names = record {
  rest = stop_line 0 0 0 0 ∷ codes "end" ∷ [];
  first = refl;
  there = refl;
  small = record { p = omega arith; q = omega arith };
  stopped = stopped_nothing names;
}

pub ending_some : (wanted : Bool) (names : List (List ℕ)) → Leads (SpellsEnding wanted names) []
ending_some wanted names = (nothing_lines wanted, ((nominal wanted, no_figures, []), ending_nothing wanted names))

ending_end_by : (wanted : Bool) (names : List (List ℕ)) (its : Option Guarantee) (figures : Figures) (accesses : List Access)
    → SpellsEnding wanted names [] (its, figures, accesses) → ⊥
ending_end_by wanted names None figures accesses spelled =
    stopped_end names (figures, accesses) (subst (λ xs. SpellsStopped names xs (figures, accesses)) (sym spelled.first) spelled.stopped)
ending_end_by wanted names (Some its) figures accesses spelled = let e = spelled.first in cc

pub ending_end : (wanted : Bool) (names : List (List ℕ)) (x : Option Guarantee × Figures × List Access) → SpellsEnding wanted names [] x → ⊥
ending_end wanted names x spelled = ending_end_by wanted names x.0 x.1 x.2 spelled

ending_here_by : (names : List (List ℕ)) (line : List ℕ) (rest : List (List ℕ)) (its : Option Guarantee) (figures : Figures) (accesses : List Access)
    → guarantee_in line ≡ None → SpellsEnding true names (line ∷ rest) (its, figures, accesses) → ⊥
ending_here_by names line rest None figures accesses none spelled = true≢false (sym spelled.there)
ending_here_by names line rest (Some its) figures accesses none spelled =
    let is : line ≡ guarantee_line (factor_of its) = same_line _ _ _ _ spelled.first in
    let read : guarantee_in (guarantee_line (factor_of its)) ≡ Some its = guarantee_in-line its spelled.small in
    let same : guarantee_in line ≡ guarantee_in (guarantee_line (factor_of its)) = ap guarantee_in is in
    absurd cc

pub ending_here : (names : List (List ℕ)) (line : List ℕ) → guarantee_in line ≡ None
    → (rest : List (List ℕ)) (x : Option Guarantee × Figures × List Access) → SpellsEnding true names (line ∷ rest) x → ⊥
ending_here names line none rest x spelled = ending_here_by names line rest x.0 x.1 x.2 none spelled

-- what holds of each line of a guarantee and of figures holds of the first line behind the objects
pub ending_first : (P : List ℕ → Type 0) (wanted : Bool) (names : List (List ℕ)) (line : List ℕ) (ls : List (List ℕ)) (its : Option Guarantee)
    (figures : Figures) (accesses : List Access) → ((factor : Factor) → P (guarantee_line factor))
    → ((depth sorted random cost : ℕ) → P (stop_line depth sorted random cost)) → SpellsEnding wanted names (line ∷ ls) (its, figures, accesses) → P line
ending_first P wanted names line ls None figures accesses guarantees stops spelled =
    let stopped = subst (λ xs. SpellsStopped names xs (figures, accesses)) (sym spelled.first) spelled.stopped in
    let is : line ≡ stop_line figures.depth figures.sorted figures.random figures.cost = same_line _ _ _ _ stopped.spelled in
    subst P (sym is) (stops figures.depth figures.sorted figures.random figures.cost)
ending_first P wanted names line ls (Some its) figures accesses guarantees stops spelled =
    let is : line ≡ guarantee_line (factor_of its) = same_line _ _ _ _ spelled.first in
    subst P (sym is) (guarantees (factor_of its))

-- an object of the answer

no_item_first : (wanted : Bool) (names : List (List ℕ)) (line : List ℕ) (ls : List (List ℕ)) (its : Option Guarantee) (figures : Figures)
    (accesses : List Access) → SpellsEnding wanted names (line ∷ ls) (its, figures, accesses) → item_in line ≡ None
no_item_first wanted names line ls its figures accesses spelled =
    ending_first (λ l. item_in l ≡ None) wanted names line ls its figures accesses item_in-guarantee item_in-stop spelled

item_drops : (wanted : Bool) (names : List (List ℕ)) (line : List ℕ) (item : Item) (ls : List (List ℕ)) (items : List Item) (its : Option Guarantee)
    (figures : Figures) (accesses : List Access)
    → item_in line ≡ Some item → SpellsFound wanted names (line ∷ ls) (record { items = items; guarantee = its; figures = figures; accesses = accesses })
    → (x : Found) × SpellsFound wanted names ls x
    × (record { items = items; guarantee = its; figures = figures; accesses = accesses } ≡ record x { items = item ∷ x.items })
item_drops wanted names line item ls [] its figures accesses read spelled =
    let ending = subst (λ xs. SpellsEnding wanted names xs (its, figures, accesses)) (sym spelled.first) spelled.ending in
    let none : item_in line ≡ None = no_item_first wanted names line ls its figures accesses ending in
    absurd cc
item_drops wanted names line item ls (b ∷ bs) its figures accesses read spelled =
    let is : line ≡ answer_line b = same_line _ _ _ _ spelled.first in
    let same : b ≡ item = same_Some b item (sym (item_in-line b (All-head IsItem b bs spelled.items)) ∙ ap item_in (sym is) ∙ read) in
    let with_item : Item → Found = λ i. record { items = i ∷ bs; guarantee = its; figures = figures; accesses = accesses } in (
      record { items = bs; guarantee = its; figures = figures; accesses = accesses },
      record {
        rest = spelled.rest;
        first = same_rest _ _ _ _ spelled.first;
        items = All-tail IsItem b bs spelled.items;
        ending = spelled.ending;
      },
      ap with_item same,
    )

pub steps_item : (wanted : Bool) (names : List (List ℕ)) (line : List ℕ) (item : Item) → item_in line ≡ Some item
    → Steps (SpellsFound wanted names) (SpellsFound wanted names) line (λ f. record f { items = item ∷ f.items })
steps_item wanted names line item read = record {
  adds = λ ls x spelled.
      let says = item_in-some line item read in
      record {
        rest = spelled.rest;
        first = ap (λ t. t ∷ ls) says.line_is ∙ ap (λ t. answer_line item ∷ t) spelled.first;
        items = All-cons IsItem item x.items says.fits spelled.items;
        ending = spelled.ending;
      };
  drops = λ ls y spelled. item_drops wanted names line item ls y.items y.guarantee y.figures y.accesses read spelled;
}

-- no object more

-- an answer of no object, by what stands behind its objects
abbrev pub ended : List Item → Option Guarantee × Figures × List Access → Found
ended items ending = record { items = items; guarantee = ending.0; figures = ending.1; accesses = ending.2 }

ending_only : (wanted : Bool) (names : List (List ℕ)) (line : List ℕ) (xs : List (List ℕ)) (items : List Item) (its : Option Guarantee)
    (figures : Figures) (accesses : List Access)
    → item_in line ≡ None → take 1 xs ≡ line ∷ [] → SpellsFound wanted names xs (record { items = items; guarantee = its; figures = figures; accesses = accesses })
    → (x : Option Guarantee × Figures × List Access) × SpellsEnding wanted names xs x
    × (record { items = items; guarantee = its; figures = figures; accesses = accesses } ≡ ended [] x)
ending_only wanted names line xs [] its figures accesses none front spelled =
    ((its, figures, accesses), subst (λ zs. SpellsEnding wanted names zs (its, figures, accesses)) (sym spelled.first) spelled.ending, refl)
ending_only wanted names line xs (b ∷ bs) its figures accesses none front spelled =
    let first : answer_line b ∷ [] ≡ line ∷ [] = sym (ap (take 1) spelled.first) ∙ front in
    let is : answer_line b ≡ line = same_line _ _ _ _ first in
    let read : item_in (answer_line b) ≡ Some b = item_in-line b (All-head IsItem b bs spelled.items) in
    let same : item_in (answer_line b) ≡ item_in line = ap item_in is in
    absurd cc

aside_ending : (wanted : Bool) (names : List (List ℕ)) (line : List ℕ) (ls now : List (List ℕ)) → now ≡ line ∷ ls → item_in line ≡ None
    → Aside (SpellsEnding wanted names) (SpellsFound wanted names) now (ended [])
aside_ending wanted names line ls now is none = record {
  adds = λ xs x spelled. record { rest = xs; first = refl; items = All-nil IsItem; ending = spelled };
  drops = λ xs y first spelled.
      ending_only wanted names line xs y.items y.guarantee y.figures y.accesses none (first ∙ ap (take 1) is) spelled;
}

nothing_spelled : (wanted : Bool) (names : List (List ℕ)) → SpellsFound wanted names (nothing_lines wanted) (nothing wanted)
nothing_spelled wanted names = record { rest = nothing_lines wanted; first = refl; items = All-nil IsItem; ending = ending_nothing wanted names }

pub found_some : (wanted : Bool) (names : List (List ℕ)) → Leads (SpellsFound wanted names) []
found_some wanted names = (nothing_lines wanted, (nothing wanted, nothing_spelled wanted names))

found_end_by : (wanted : Bool) (names : List (List ℕ)) (items : List Item) (its : Option Guarantee) (figures : Figures) (accesses : List Access)
    → SpellsFound wanted names [] (record { items = items; guarantee = its; figures = figures; accesses = accesses }) → ⊥
found_end_by wanted names [] its figures accesses spelled =
    ending_end wanted names (its, figures, accesses) (subst (λ xs. SpellsEnding wanted names xs (its, figures, accesses)) (sym spelled.first) spelled.ending)
found_end_by wanted names (b ∷ bs) its figures accesses spelled = let e = spelled.first in cc

pub found_end : (wanted : Bool) (names : List (List ℕ)) (x : Found) → SpellsFound wanted names [] x → ⊥
found_end wanted names x spelled = found_end_by wanted names x.items x.guarantee x.figures x.accesses spelled

-- lists that are all at version 0
abbrev pub unversioned : List (List ℕ) → List ℕ
unversioned names = map (λ _. 0) names

all_unversioned : (names : List (List ℕ)) → All (λ version. version ≡ 0) (unversioned names)
all_unversioned [] = All-nil (λ version. version ≡ 0)
all_unversioned (name ∷ names) = All-cons (λ version. version ≡ 0) 0 (unversioned names) refl (all_unversioned names)

versioned_spelled : (wanted : Bool) (names : List (List ℕ)) → SpellsVersioned wanted names names (nothing_lines wanted) (unversioned names, nothing wanted)
versioned_spelled wanted names = record {
  rest = nothing_lines wanted;
  first = ap (λ t. t ++ nothing_lines wanted) (sym (lines_unversioned names (unversioned names) (all_unversioned names)));
  sized = length-map names (λ _. 0);
  small = All-weaker (λ version. version ≡ 0) (λ version. version < 2 ^ 64) (λ version none. omega (arith, none)) (unversioned names) (all_unversioned names);
  found = nothing_spelled wanted names;
}

-- the number of objects of each list

pub steps_count : (wanted : Bool) (names : List (List ℕ)) (line : List ℕ) (n : ℕ) → count_in line ≡ Some n
    → Steps (SpellsVersioned wanted names names) (SpellsCounted wanted names) line (λ versioned. (n, versioned.0, versioned.1))
steps_count wanted names line n read = record {
  adds = λ ls x spelled.
      let says = count_in-some line n read in
      record { rest = ls; first = ap (λ t. t ∷ ls) says.line_is; low = says.low; high = says.high; versioned = spelled };
  drops = λ ls y spelled.
      let is : line ≡ count_line y.0 = same_line _ _ _ _ spelled.first in
      let same : y.0 ≡ n = same_Some y.0 n (sym (count_in-line y.0 spelled.low spelled.high) ∙ ap count_in (sym is) ∙ read) in
      let rest : ls ≡ spelled.rest = same_rest _ _ _ _ spelled.first in
      ((y.1, y.2), subst (λ xs. SpellsVersioned wanted names names xs (y.1, y.2)) (sym rest) spelled.versioned, ap (λ m. (m, y.1, y.2)) same);
}

pub counted_spelled : (wanted : Bool) (names : List (List ℕ)) → SpellsCounted wanted names (count_line 1 ∷ nothing_lines wanted) (1, unversioned names, nothing wanted)
counted_spelled wanted names = record {
  rest = nothing_lines wanted;
  first = refl;
  low = omega arith;
  high = omega arith;
  versioned = versioned_spelled wanted names;
}

pub counted_some : (wanted : Bool) (names : List (List ℕ)) → Leads (SpellsCounted wanted names) []
counted_some wanted names = (count_line 1 ∷ nothing_lines wanted, ((1, unversioned names, nothing wanted), counted_spelled wanted names))

pub counted_end : (wanted : Bool) (names : List (List ℕ)) (x : ℕ × List ℕ × Found) → SpellsCounted wanted names [] x → ⊥
counted_end wanted names x spelled = let e = spelled.first in cc

pub counted_here : (wanted : Bool) (names : List (List ℕ)) (line : List ℕ) → count_in line ≡ None → (rest : List (List ℕ)) (x : ℕ × List ℕ × Found)
    → SpellsCounted wanted names (line ∷ rest) x → ⊥
counted_here wanted names line none rest x spelled =
    let is : line ≡ count_line x.0 = same_line _ _ _ _ spelled.first in
    let read : count_in (count_line x.0) ≡ Some x.0 = count_in-line x.0 spelled.low spelled.high in
    let same : count_in line ≡ count_in (count_line x.0) = ap count_in is in
    absurd cc

-- the query

pub steps_query : (line : List ℕ) (query : Query) → FindsQuery line (Some query)
    → Steps (SpellsCounted (has_guarantee query.algorithm) query.names) SpellsQueried line (λ counted. (query, counted.0, counted.1, counted.2))
steps_query line query found = record {
  adds = λ ls x spelled. record { rest = ls; first = ap (λ t. t ∷ ls) found.0; query = found.1; counted = spelled };
  drops = λ ls y spelled.
      let same : y.0 ≡ query = found.2 y.0 (same_line _ _ _ _ spelled.first) spelled.query in
      let rest : ls ≡ spelled.rest = same_rest _ _ _ _ spelled.first in (
        (y.1, y.2, y.3),
        subst (λ (q : Query). SpellsCounted (has_guarantee q.algorithm) q.names ls (y.1, y.2, y.3)) same
            (subst (λ xs. SpellsCounted (has_guarantee y.0.algorithm) y.0.names xs (y.1, y.2, y.3)) (sym rest) spelled.counted),
        ap (λ q. (q, y.1, y.2, y.3)) same,
      );
}

pub queried_end : (x : Query × ℕ × List ℕ × Found) → SpellsQueried [] x → ⊥
queried_end x spelled = let e = spelled.first in cc

pub queried_here : (line : List ℕ) → FindsQuery line None → (rest : List (List ℕ)) (x : Query × ℕ × List ℕ × Found) → SpellsQueried (line ∷ rest) x → ⊥
queried_here line none rest x spelled = none x.0 (same_line _ _ _ _ spelled.first) spelled.query

-- the number of the query's line

-- a certificate of its parts
abbrev pub whole : ℕ → Query × ℕ × List ℕ × Found → Certificate
whole n queried = record {
  line = n;
  query = queried.0;
  count = queried.1;
  versions = queried.2;
  items = queried.3.items;
  guarantee = queried.3.guarantee;
  depth = queried.3.figures.depth;
  sorted = queried.3.figures.sorted;
  random = queried.3.figures.random;
  cost = queried.3.figures.cost;
  accesses = queried.3.accesses;
}

number_drops : (line : List ℕ) (n : ℕ) (ls : List (List ℕ)) (c : Certificate) → number_in line ≡ Some n → Spells (line ∷ ls) c
    → (x : Query × ℕ × List ℕ × Found) × SpellsQueried ls x × (c ≡ whole n x)
number_drops line n ls c read spelled =
    let is : line ≡ number_line c.line = same_line _ _ _ _ spelled.spelled in
    let fits = spelled.certificate in
    let same : c.line ≡ n = same_Some c.line n (sym (number_in-line c.line fits.line_from fits.line_to) ∙ ap number_in (sym is) ∙ read) in
    let figures : Figures = record { depth = c.depth; sorted = c.sorted; random = c.random; cost = c.cost } in
    let found : Found = record { items = c.items; guarantee = c.guarantee; figures = figures; accesses = c.accesses } in
    let stopped : List (List ℕ) = stop_line c.depth c.sorted c.random c.cost ∷ access_lines c.query.names c.accesses in
    let ending : List (List ℕ) = guarantee_lines (guaranteed c) ++ stopped in
    let answer : List (List ℕ) = map answer_line c.items ++ ending in
    let lines : List (List ℕ) = version_lines c.query.names c.versions ++ answer in (
      (c.query, c.count, c.versions, found),
      record {
        rest = count_line c.count ∷ lines;
        first = same_rest _ _ _ _ spelled.spelled;
        query = fits.query;
        counted = record {
          rest = lines;
          first = refl;
          low = fits.count_from;
          high = fits.count_to;
          versioned = record {
            rest = answer;
            first = refl;
            sized = fits.versioned;
            small = fits.versions;
            found = record {
              rest = ending;
              first = refl;
              items = fits.items;
              ending = record {
                rest = stopped;
                first = refl;
                there = fits.guaranteed;
                small = fits.guarantee;
                stopped = record {
                  figures = record { depth = fits.depth; sorted = fits.sorted; random = fits.random; cost = fits.cost };
                  accesses = fits.accesses;
                  spelled = refl;
                };
              };
            };
          };
        };
      },
      ap (λ m. whole m (c.query, c.count, c.versions, found)) same,
    )

pub steps_number : (line : List ℕ) (n : ℕ) → number_in line ≡ Some n → Steps SpellsQueried Spells line (whole n)
steps_number line n read = record {
  adds = λ ls x spelled.
      let says = number_in-some line n read in
      let counted = spelled.counted in
      let versioned = counted.versioned in
      let found = versioned.found in
      let ending = found.ending in
      let stopped = ending.stopped in
      record {
        certificate = record {
          line_from = says.low;
          line_to = says.high;
          query = spelled.query;
          count_from = counted.low;
          count_to = counted.high;
          versioned = versioned.sized;
          versions = versioned.small;
          items = found.items;
          guaranteed = ending.there;
          guarantee = ending.small;
          depth = stopped.figures.depth;
          sorted = stopped.figures.sorted;
          random = stopped.figures.random;
          cost = stopped.figures.cost;
          accesses = stopped.accesses;
        };
        spelled = ap (λ t. t ∷ ls) says.line_is
            ∙ ap (λ t. number_line n ∷ t) (spelled.first
            ∙ ap (λ t. query_line x.0 ∷ t) (counted.first
            ∙ ap (λ t. count_line x.1 ∷ t) (versioned.first
            ∙ ap (λ t. version_lines x.0.names x.2 ++ t) (found.first
            ∙ ap (λ t. map answer_line x.3.items ++ t) (ending.first
            ∙ ap (λ t. guarantee_lines (option_map factor_of x.3.guarantee) ++ t) stopped.spelled)))));
      };
  drops = λ ls y spelled. number_drops line n ls y read spelled;
}

pub spells_end : (x : Certificate) → Spells [] x → ⊥
spells_end x spelled = let e = spelled.spelled in cc

pub spells_here : (line : List ℕ) → number_in line ≡ None → (rest : List (List ℕ)) (x : Certificate) → Spells (line ∷ rest) x → ⊥
spells_here line none rest c spelled =
    let is : line ≡ number_line c.line = same_line _ _ _ _ spelled.spelled in
    let fits = spelled.certificate in
    let read : number_in (number_line c.line) ≡ Some c.line = number_in-line c.line fits.line_from fits.line_to in
    let same : number_in line ≡ number_in (number_line c.line) = ap number_in is in
    absurd cc

-- what is left of the lines, while they are read

-- no access was read yet
pub accesses_none : (names : List (List ℕ)) (ls : List (List ℕ)) (front : List Access) → front ≡ []
    → Carries (SpellsAccesses names) ls (λ more. front ++ more) 0 (SpellsAccesses names) ls
accesses_none names ls front empty =
    subst (λ (start : List Access). Carries (SpellsAccesses names) ls (λ more. start ++ more) 0 (SpellsAccesses names) ls) (sym empty) (carries_none (SpellsAccesses names) ls)

-- one access more was read
pub accesses_more : (names : List (List ℕ)) (line : List ℕ) (a : Access) (ls now all : List (List ℕ)) (front next : List Access) (k : ℕ)
    → AreNames names → access_in names line ≡ Some a → now ≡ line ∷ ls → next ≡ front ++ a ∷ []
    → Carries (SpellsAccesses names) now (λ more. front ++ more) k (SpellsAccesses names) all → Carries (SpellsAccesses names) ls (λ more. next ++ more) (k + 1) (SpellsAccesses names) all
accesses_more names line a ls now all front next k are read is pushed carries =
    carries_more (SpellsAccesses names) (SpellsAccesses names) (SpellsAccesses names) line ls now all (λ more. a ∷ more) (λ more. front ++ more) (λ more. next ++ more) k is
    (steps_access names line a are read) (λ more. ap (λ t. t ++ more) pushed ∙ append_assoc front (a ∷ []) more) carries

-- the line that ends the certificate was read
pub accesses_ended : (names : List (List ℕ)) (line : List ℕ) (ls now all : List (List ℕ)) (front : List Access) (k : ℕ)
    → AreNames names → line ≡ codes "end" → now ≡ line ∷ ls
    → Carries (SpellsAccesses names) now (λ more. front ++ more) k (SpellsAccesses names) all → Carries (SpellsNone front) ls (λ _. front) (k + 1) (SpellsAccesses names) all
accesses_ended names line ls now all front k are last is carries =
    carries_more (SpellsNone front) (SpellsAccesses names) (SpellsAccesses names) (codes "end") ls now all (λ _. []) (λ more. front ++ more) (λ _. front) k
    (is ∙ ap (λ t. t ∷ ls) last) (steps_end names front are) (λ _. sym (append-nil front)) carries

-- no object was read yet
pub found_none : (wanted : Bool) (names : List (List ℕ)) (ls : List (List ℕ)) (front : List Item) → front ≡ []
    → Carries (SpellsFound wanted names) ls (λ f. record f { items = front ++ f.items }) 0 (SpellsFound wanted names) ls
found_none wanted names ls front empty =
    subst (λ (start : List Item). Carries (SpellsFound wanted names) ls (λ f. record f { items = start ++ f.items }) 0 (SpellsFound wanted names) ls) (sym empty)
    (carries_none (SpellsFound wanted names) ls)

-- one object more was read
pub found_more : (wanted : Bool) (names : List (List ℕ)) (line : List ℕ) (item : Item) (ls now all : List (List ℕ)) (front next : List Item) (k : ℕ)
    → item_in line ≡ Some item → now ≡ line ∷ ls → next ≡ front ++ item ∷ []
    → Carries (SpellsFound wanted names) now (λ f. record f { items = front ++ f.items }) k (SpellsFound wanted names) all
    → Carries (SpellsFound wanted names) ls (λ f. record f { items = next ++ f.items }) (k + 1) (SpellsFound wanted names) all
found_more wanted names line item ls now all front next k read is pushed carries =
    carries_more (SpellsFound wanted names) (SpellsFound wanted names) (SpellsFound wanted names) line ls now all
    (λ f. record f { items = item ∷ f.items }) (λ f. record f { items = front ++ f.items }) (λ f. record f { items = next ++ f.items }) k is
    (steps_item wanted names line item read)
    (λ f. let with_items : List Item → Found = λ i. record f { items = i } in ap with_items (ap (λ t. t ++ f.items) pushed ∙ append_assoc front (item ∷ []) f.items)) carries

-- no object is left
pub found_ending : (wanted : Bool) (names : List (List ℕ)) (line : List ℕ) (ls now all : List (List ℕ)) (front : List Item) (k : ℕ)
    → item_in line ≡ None → now ≡ line ∷ ls
    → Carries (SpellsFound wanted names) now (λ f. record f { items = front ++ f.items }) k (SpellsFound wanted names) all
    → Carries (SpellsEnding wanted names) now (ended front) k (SpellsFound wanted names) all
found_ending wanted names line ls now all front k none is carries =
    carries_aside (SpellsEnding wanted names) (SpellsFound wanted names) (SpellsFound wanted names) now all
    (ended []) (λ f. record f { items = front ++ f.items }) (ended front) k
    (aside_ending wanted names line ls now is none)
    (λ e. let with_items : List Item → Found = λ i. ended i e in ap with_items (sym (append-nil front))) carries
