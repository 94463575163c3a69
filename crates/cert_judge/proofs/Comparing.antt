-- The figures of a certificate against those that its accesses give, line by line.
use Rattle.std.proofs.Common.{◌≡◌, ◌≢◌, ℕ, ◌≤◌, ◌<◌, ◌+◌, ◌-◌, ◌^◌, ◌==◌, ◌&&◌, suc, Bool, true, false, cond, not, List, [], ◌∷◌, ◌++◌, length, map, filter, take, Option, None, Some, is_some, option_map, ◌↔◌, slice_get, refl, sym, ap, ap₂, ◌∙◌, subst, arith, eqb-true, eq-eqb, length-append, append_assoc}
use Rattle.std.proofs.lemmas.Bool.{and_parts, and_from, true≢false}
use Rattle.std.proofs.lemmas.List.{take_more, take_all, take-append-le, length-map}
use Rattle.ranked_list.specs.declared.item.Item.{Item}
use Rattle.topk_theory.specs.Bounds.{low, high, bounded}
use Rattle.topk_theory.specs.Threshold.{item_objects}
use Rattle.topk_theory.specs.declared.access.Access.{Access}
use Rattle.topk_theory.proofs.AgreementLists.{slice_get_behind, slice_get_in_range, slice_get_reads, get_front}
use Rattle.cert_text.specs.declared.certificate.Certificate.{Certificate}
use Rattle.monotone_fn.specs.Value.{value}
use Rattle.monotone_fn.specs.Shape.{list_count}
use Rattle.algorithm_theory.specs.Within.{Factor}
use Rattle.cert_text.specs.declared.factor.Guarantee.{Guarantee}
use Rattle.cert_text.specs.Guarantee.{factor_of, guarantee_of}
use Rattle.cert_text.proofs.Factors.{there_by, factor_again}
use Rattle.cert_text.specs.Certificate.{version_lines, guaranteed, IsCertificate}
use Rattle.cert_judge.specs.Figures.{item_figures, guarantee_figures, given_factor, stop_figures, has_line, figures_from, figures_of, refigured, IsFirstDifference, HasItsFigures, IsFirstFigure}
use Rattle.cert_judge.proofs.Putting.{get_mapped}

-- the figures that the accesses give the objects of items
abbrev pub given_figures : (List ℕ → ℕ) → ℕ → List Access → List Item → List (List ℕ)
given_figures V m A items = map item_figures (map (bounded V m A) (item_objects items))

given_at : (V : List ℕ → ℕ) (m : ℕ) (A : List Access) (items : List Item) (i : ℕ) (item : Item) → slice_get items i ≡ Some item
    → slice_get (given_figures V m A items) i ≡ Some (low V m A item.object ∷ high V m A item.object ∷ [])
given_at V m A items i item e =
    get_mapped item_figures (map (bounded V m A) (item_objects items)) i (bounded V m A item.object)
    (get_mapped (bounded V m A) (item_objects items) i item.object (get_mapped (λ (z : Item). z.object) items i item e))

pub given_length : (V : List ℕ → ℕ) (m : ℕ) (A : List Access) (items : List Item) → length (map item_figures items) ≡ length (given_figures V m A items)
given_length V m A items =
    length-map items item_figures
    ∙ sym (length-map (map (bounded V m A) (item_objects items)) item_figures ∙ length-map (item_objects items) (bounded V m A) ∙ length-map items (λ (z : Item). z.object))

step_same : (xs ys : List (List ℕ)) (i : ℕ) (x : List ℕ) → take i xs ≡ take i ys → slice_get xs i ≡ Some x → slice_get ys i ≡ Some x
    → take (i + 1) xs ≡ take (i + 1) ys
step_same xs ys i x e a b =
    take_more xs i x (slice_get_in_range xs i x a) ∙ ap₂ (λ front z. front ++ z ∷ []) e (slice_get_reads xs i x x a ∙ sym (slice_get_reads ys i x x b))
    ∙ sym (take_more ys i x (slice_get_in_range ys i x b))

-- an item's figures are the given ones
pub same_more : (V : List ℕ → ℕ) (m : ℕ) (A : List Access) (items : List Item) (i : ℕ) (item : Item) (same : Bool) → slice_get items i ≡ Some item
    → same ≡ ((item.low == low V m A item.object) && (item.high == high V m A item.object)) → same ≡ true
    → take i (map item_figures items) ≡ take i (given_figures V m A items) → take (i + 1) (map item_figures items) ≡ take (i + 1) (given_figures V m A items)
same_more V m A items i item same e test t before =
    let both = and_parts (item.low == low V m A item.object) (item.high == high V m A item.object) (sym test ∙ t) in
    let figures : item_figures item ≡ low V m A item.object ∷ high V m A item.object ∷ [] = ap₂ (λ a b. a ∷ b ∷ []) (eqb-true item.low (low V m A item.object) both.0) (eqb-true item.high (high V m A item.object) both.1) in
    step_same (map item_figures items) (given_figures V m A items) i (item_figures item) before (get_mapped item_figures items i item e) (given_at V m A items i item e ∙ ap Some (sym figures))

head_is : (xs ys : List ℕ) (a b c d : ℕ) → a ∷ b ∷ [] ≡ c ∷ d ∷ [] → (a ≡ c) × (b ≡ d)
head_is xs ys a b c d e = (cc, cc)

-- they differ
pub differs_here : (V : List ℕ → ℕ) (m : ℕ) (A : List Access) (items : List Item) (i : ℕ) (item : Item) (same : Bool) → slice_get items i ≡ Some item
    → same ≡ ((item.low == low V m A item.object) && (item.high == high V m A item.object)) → same ≡ false
    → take i (map item_figures items) ≡ take i (given_figures V m A items) → IsFirstDifference (map item_figures items) (given_figures V m A items) i
differs_here V m A items i item same e test f before = record {
  within = slice_get_in_range (map item_figures items) i (item_figures item) (get_mapped item_figures items i item e);
  before = before;
  here = λ equal.
      let given = given_at V m A items i item e in
      let mine = get_mapped item_figures items i item e in
      let figures : item_figures item ≡ low V m A item.object ∷ high V m A item.object ∷ [] = cc in
      let both = head_is [] [] item.low item.high (low V m A item.object) (high V m A item.object) figures in
      true≢false (sym (test ∙ and_from (item.low == low V m A item.object) (item.high == high V m A item.object) (eq-eqb item.low (low V m A item.object) both.0) (eq-eqb item.high (high V m A item.object) both.1)) ∙ f);
}

-- no figure of an item differs
pub same_items : (V : List ℕ → ℕ) (m : ℕ) (A : List Access) (items : List Item) (i : ℕ) → length items ≤ i
    → take i (map item_figures items) ≡ take i (given_figures V m A items)
    → map item_figures items ≡ given_figures V m A items
same_items V m A items i past e =
    let mine : length (map item_figures items) ≡ length items = length-map items item_figures in
    let given = given_length V m A items in
    sym (take_all i (map item_figures items) (omega arith)) ∙ e ∙ take_all i (given_figures V m A items) (omega arith)

-- a line by the first line with figures and a place behind it
pub figures_at : (c : Certificate) (place first more : ℕ) → first ≡ figures_from c → more ≡ place → first + more ≡ figures_from c + place
figures_at c place first more is same = ap₂ (λ a b. a + b) is same

-- the versions that aren't 0 have a line each
one_counted : (version : ℕ) (line : List ℕ) (left : List ℕ) (lines : List (List ℕ)) (none : Bool) → length left ≡ length lines
    → length (cond {A = List ℕ} (not none) (version ∷ left) left) ≡ length (cond {A = List (List ℕ)} none [] (line ∷ []) ++ lines)
one_counted version line left lines true same = same
one_counted version line left lines false same = ap suc same

pub lines_counted : (names : List (List ℕ)) (versions : List ℕ) → length versions ≡ length names
    → length (filter has_line versions) ≡ length (version_lines names versions)
lines_counted [] [] same = refl
lines_counted [] (version ∷ versions) same = absurd (omega arith)
lines_counted (name ∷ names) [] same = absurd (omega arith)
lines_counted (name ∷ names) (version ∷ versions) same =
    one_counted version _ (filter has_line versions) (version_lines names versions) (version == 0) (lines_counted names versions (omega arith))

one_few : (version : ℕ) (left : List ℕ) (n : ℕ) (line : Bool) → length left ≤ n → length (cond {A = List ℕ} line (version ∷ left) left) ≤ suc n
one_few version left n true few = omega (arith, few)
one_few version left n false few = omega (arith, few)

pub lines_few : (versions : List ℕ) → length (filter has_line versions) ≤ length versions
lines_few [] = omega arith
lines_few (version ∷ versions) = one_few version (filter has_line versions) (length versions) (has_line version) (lines_few versions)

-- a certificate has few lines of versions
pub lines_small : (c : Certificate) → IsCertificate c → length (filter has_line c.versions) < 2 ^ 16
lines_small c is =
    let reads = is.query in
    let spells = reads.0 in
    let few : length c.query.names < 2 ^ 16 = omega (arith, spells.lawful.few) in
    omega (arith, lines_few c.versions, is.versioned, few)

-- a difference among the items is one of the certificate
pub among_items : (c : Certificate) (xs ys us vs : List (List ℕ)) (place line : ℕ) → figures_of c ≡ xs ++ us → figures_of (refigured c) ≡ ys ++ vs
    → length xs ≡ length ys → IsFirstDifference xs ys place → line ≡ figures_from c + place → IsFirstFigure c line
among_items c xs ys us vs place line e f long d is =
    let within : place < length xs = d.within in
    let back : place ≡ line - figures_from c = omega arith in (
      omega arith,
      subst (IsFirstDifference (figures_of c) (figures_of (refigured c))) back (record {
        within = subst (λ zs. place < length zs) (sym e) (omega (arith, length-append xs us));
        before = ap (take place) e ∙ take-append-le place xs us (omega arith) ∙ d.before ∙ sym (ap (take place) f ∙ take-append-le place ys vs (omega arith));
        here = λ equal. d.here (sym (ap (λ zs. slice_get zs place) e ∙ get_front xs us place within) ∙ equal ∙ (ap (λ zs. slice_get zs place) f ∙ get_front ys vs place (omega arith)));
      }),
    )

-- the figures above a line are the given ones, and those of it differ
pub at_line : (c : Certificate) (xs ys : List (List ℕ)) (s t : List ℕ) (us vs : List (List ℕ)) (place line : ℕ) → figures_of c ≡ xs ++ s ∷ us
    → figures_of (refigured c) ≡ ys ++ t ∷ vs
    → xs ≡ ys → s ≢ t → place ≡ length xs → line ≡ figures_from c + place → IsFirstFigure c line
at_line c xs ys s t us vs place line e f same differ at is =
    let back : length xs ≡ line - figures_from c = omega arith in (
      omega arith,
      subst (IsFirstDifference (figures_of c) (figures_of (refigured c))) back (record {
        within = subst (λ zs. length xs < length zs) (sym e) (omega (arith, length-append xs (s ∷ us)));
        before = ap (take (length xs)) e ∙ take-append-le (length xs) xs (s ∷ us) (omega arith) ∙ ap (take (length xs)) same ∙ sym (ap (take (length xs)) f ∙ take-append-le (length xs) ys (t ∷ vs) (omega (arith, ap length same)));
        here = λ equal.
            let a : slice_get (figures_of c) (length xs) ≡ Some s = ap (λ zs. slice_get zs (length xs)) e ∙ slice_get_behind xs s us in
            let b : slice_get (figures_of (refigured c)) (length xs) ≡ Some t = ap (λ zs. slice_get zs (length xs)) f ∙ ap (slice_get (ys ++ t ∷ vs)) (ap length same) ∙ slice_get_behind ys t vs in
            let one : s ≡ t = cc in
            differ one;
      }),
    )

-- a factor by its figures
factor_is : (f g : Factor) → f.p ∷ f.q ∷ [] ≡ g.p ∷ g.q ∷ [] → f ≡ g
factor_is f g e =
    let both = head_is [] [] f.p f.q g.p g.q e in
    let made : ℕ → ℕ → Factor = λ p q. record { p = p; q = q } in
    ap₂ made both.0 both.1

-- the figures of the items are the given ones, and those of the guarantee differ
pub at_guarantee : (c : Certificate) (xs ys us vs : List (List ℕ)) (its given : Option Factor) (place line : ℕ) → figures_of c ≡ xs ++ (guarantee_figures its ++ us)
    → figures_of (refigured c) ≡ ys ++ (guarantee_figures given ++ vs) → is_some its ≡ is_some given → its ≢ given
    → xs ≡ ys → place ≡ length xs → line ≡ figures_from c + place → IsFirstFigure c line
at_guarantee c xs ys us vs None None place line e f there differ same at is = absurd (differ refl)
at_guarantee c xs ys us vs None (Some given) place line e f there differ same at is = absurd (true≢false (sym there))
at_guarantee c xs ys us vs (Some its) None place line e f there differ same at is = absurd (true≢false there)
at_guarantee c xs ys us vs (Some its) (Some given) place line e f there differ same at is =
    at_line c xs ys (its.p ∷ its.q ∷ []) (given.p ∷ given.q ∷ []) us vs place line e f same (λ figures. differ (ap Some (factor_is its given figures))) at is

-- those of the guarantee are the given ones too, and those of the stop line differ
pub at_stop : (c : Certificate) (xs ys gs hs : List (List ℕ)) (place line : ℕ) → figures_of c ≡ xs ++ (gs ++ stop_figures c ∷ [])
    → figures_of (refigured c) ≡ ys ++ (hs ++ stop_figures (refigured c) ∷ [])
    → xs ≡ ys → gs ≡ hs → stop_figures c ≢ stop_figures (refigured c) → place ≡ length xs + length gs → line ≡ figures_from c + place → IsFirstFigure c line
at_stop c xs ys gs hs place line e f same factor differ at is =
    let s = stop_figures c in
    let t = stop_figures (refigured c) in
    at_line c (xs ++ gs) (ys ++ hs) s t [] [] place line (e ∙ sym (append_assoc xs gs (s ∷ []))) (f ∙ sym (append_assoc ys hs (t ∷ [])))
    (ap₂ (λ (a b : List (List ℕ)). a ++ b) same factor) differ (at ∙ sym (length-append xs gs)) is

-- all figures are the given ones
pub as_given : (c : Certificate) (xs ys gs hs : List (List ℕ)) → figures_of c ≡ xs ++ (gs ++ stop_figures c ∷ [])
    → figures_of (refigured c) ≡ ys ++ (hs ++ stop_figures (refigured c) ∷ [])
    → xs ≡ ys → gs ≡ hs → stop_figures c ≡ stop_figures (refigured c) → HasItsFigures c
as_given c xs ys gs hs e f same factor stop =
    let all : List (List ℕ) → List (List ℕ) → List ℕ → List (List ℕ) = λ zs fs s. zs ++ (fs ++ s ∷ []) in
    e ∙ ap (λ zs. all zs gs (stop_figures c)) same ∙ ap₂ (all ys) factor stop ∙ sym f

-- a certificate says a factor exactly where its accesses give one
pub factors_there : (c : Certificate) → IsCertificate c → is_some (guaranteed c) ≡ is_some (guaranteed (refigured c))
factors_there c is =
    seen_there c.guarantee ∙ is.guaranteed
    ∙ sym (ap is_some (factor_again (given_factor c)) ∙ there_by c.query.algorithm (value c.query.expr) (list_count c.query.expr) c.accesses (item_objects c.items))
  where
    seen_there : (o : Option Guarantee) → is_some (option_map factor_of o) ≡ is_some o
    seen_there None = refl
    seen_there (Some g) = refl

-- what a guarantee is as a factor, and back
factor_back : (o : Option Guarantee) → option_map guarantee_of (option_map factor_of o) ≡ o
factor_back None = refl
factor_back (Some g) = refl

pub factors_same : (c : Certificate) (given : Option Guarantee) → option_map factor_of given ≡ given_factor c
    → c.guarantee ≡ given ↔ guaranteed c ≡ guaranteed (refigured c)
factors_same c given is = (
  λ e. ap (option_map factor_of) e ∙ is ∙ sym (factor_again (given_factor c)),
  λ e. sym (factor_back c.guarantee) ∙ ap (option_map guarantee_of) (e ∙ factor_again (given_factor c) ∙ sym is) ∙ factor_back given,
)
