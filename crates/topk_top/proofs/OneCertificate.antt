-- Lines spell one certificate at most.
use Rattle.std.proofs.Common.{◌≡◌, ℕ, List, [], ◌∷◌, ◌++◌, Bool, length, map, codes, Option, Some, None, Ok, refl, sym, ap, subst, ◌∙◌}
use Rattle.std.proofs.lemmas.Bool.{true≢false}
use Rattle.std.proofs.lemmas.Option.{same_Some}
use Rattle.std.proofs.lemmas.List.Elements.{All-head, All-tail}
use Rattle.topk_base.specs.Cuts.{rest_after}
use Rattle.ranked_list.specs.declared.item.Item.{Item}
use Rattle.topk_theory.specs.declared.access.Access.{Access}
use Rattle.query_text.specs.declared.query.Query.{Query}
use Rattle.query_text.specs.Query.{printed}
use Rattle.query_text.specs.Reading.{Reads}
use Rattle.query_text.proofs.BackLaws.{printed_same}
use Rattle.cert_text.specs.declared.factor.Guarantee.{Guarantee}
use Rattle.cert_text.specs.Guarantee.{factor_of, has_guarantee}
use Rattle.cert_text.specs.declared.certificate.Certificate.{Certificate}
use Rattle.cert_text.specs.Certificate.{number_line, query_line, count_line, version_lines, answer_line, guarantee_line, guarantee_lines, guaranteed, stop_line, access_line, access_lines, IsItem, IsAccess}
use Rattle.cert_text.specs.Parts.{item_in, guarantee_in}
use Rattle.cert_text.specs.Judging.{AreNames, Found, FindsQuery, SpellsAccesses, SpellsStopped, SpellsEnding, SpellsFound, SpellsVersioned, SpellsCounted, SpellsQueried}
use Rattle.cert_text.specs.Reading.{Spells}
use Rattle.cert_text.proofs.LineLaws.{number_in-line, count_in-line, item_in-line, item_in-guarantee, item_in-stop, guarantee_in-line, figures_in-line, access_in-line}
use Rattle.cert_text.proofs.QueryLaws.{names_of_lawful}
use Rattle.cert_text.proofs.VersionLaws.{all_left, versions_one}
use Rattle.cert_text.proofs.SpellLaws.{same_line, same_rest, steps_end, steps_access, steps_stop, steps_count, steps_query, steps_number, whole}

accesses_one : (names : List (List ℕ)) (ls : List (List ℕ)) (xs ys : List Access) → AreNames names → SpellsAccesses names ls xs → SpellsAccesses names ls ys
    → ys ≡ xs
accesses_one names ls [] ys are one other =
    let steps = steps_end names [] are in
    let back = steps.drops [] ys (subst (λ l. SpellsAccesses names l ys) one.1 other) in
    back.2
accesses_one names ls (a ∷ xs) ys are one other =
    let steps = steps_access names (access_line names a) a are (access_in-line names a are (All-head (IsAccess (length names)) a xs one.0)) in
    let back = steps.drops (access_lines names xs) ys (subst (λ l. SpellsAccesses names l ys) one.1 other) in
    back.2 ∙ ap (λ more. a ∷ more) (accesses_one names (access_lines names xs) xs back.0 are (All-tail (IsAccess (length names)) a xs one.0, refl) back.1)

-- an answer without its objects, and with this guarantee; with these accesses; with these objects
abbrev guaranteeing : Found → Option Guarantee → Found
guaranteeing x guarantee = record x { items = []; guarantee = guarantee }

abbrev with_accesses : Found → List Access → Found
with_accesses x accesses = record x { items = []; guarantee = None; accesses = accesses }

abbrev with_items : Found → List Item → Found
with_items x items = record x { items = items }

-- the figures and the accesses are one
stopped_one : (names ls : List (List ℕ)) (x y : Found) → AreNames names → SpellsStopped names ls (x.figures, x.accesses)
    → SpellsStopped names ls (y.figures, y.accesses) → guaranteeing y None ≡ guaranteeing x None
stopped_one names ls x y are one other =
    let f = x.figures in
    let steps = steps_stop names (stop_line f.depth f.sorted f.random f.cost) f (figures_in-line f one.figures) in
    let back = steps.drops (access_lines names x.accesses) (y.figures, y.accesses) (subst (λ l. SpellsStopped names l (y.figures, y.accesses)) one.spelled other) in
    let both = back.2 in
    (λ i. record { items = []; guarantee = None; figures = (both i).0; accesses = (both i).1 })
    ∙ ap (with_accesses x) (accesses_one names (access_lines names x.accesses) x.accesses back.0 are (one.accesses, refl) back.1)

-- and what is guaranteed before them
ending_one : (wanted : Bool) (names ls : List (List ℕ)) (its others : Option Guarantee) (x y : Found) → AreNames names
    → SpellsEnding wanted names ls (its, x.figures, x.accesses) → SpellsEnding wanted names ls (others, y.figures, y.accesses)
    → guaranteeing y others ≡ guaranteeing x its
ending_one wanted names ls None None x y are one other =
    stopped_one names one.rest x y are one.stopped (subst (λ l. SpellsStopped names l (y.figures, y.accesses)) (sym other.first ∙ one.first) other.stopped)
ending_one wanted names ls None (Some h) x y are one other = absurd (true≢false (other.there ∙ sym one.there))
ending_one wanted names ls (Some g) None x y are one other = absurd (true≢false (one.there ∙ sym other.there))
ending_one wanted names ls (Some g) (Some h) x y are one other =
    let lines = sym other.first ∙ one.first in
    let line : guarantee_line (factor_of h) ≡ guarantee_line (factor_of g) = same_line _ _ _ _ lines in
    let rest : other.rest ≡ one.rest = same_rest _ _ _ _ lines in
    let guarantee : h ≡ g = same_Some h g (sym (guarantee_in-line h other.small) ∙ ap guarantee_in line ∙ guarantee_in-line g one.small) in
    let same = stopped_one names one.rest x y are one.stopped (subst (λ l. SpellsStopped names l (y.figures, y.accesses)) rest other.stopped) in
    λ i. guaranteeing (same i) (Some (guarantee i))

-- it begins with no object of the answer
no_item : (item : Item) → Some item ≡ None → ⊥
no_item item e = absurd cc

no_object : (wanted : Bool) (names rest ls : List (List ℕ)) (item : Item) (its : Option Guarantee) (x : Found) → IsItem item
    → rest ≡ answer_line item ∷ ls → SpellsEnding wanted names rest (its, x.figures, x.accesses) → ⊥
no_object wanted names rest ls item None x fits is ending =
    let f = x.figures in
    let line : answer_line item ≡ stop_line f.depth f.sorted f.random f.cost = same_line _ _ _ _ (sym is ∙ ending.first ∙ ending.stopped.spelled) in
    no_item item (sym (item_in-line item fits) ∙ ap item_in line ∙ item_in-stop f.depth f.sorted f.random f.cost)
no_object wanted names rest ls item (Some g) x fits is ending =
    let line : answer_line item ≡ guarantee_line (factor_of g) = same_line _ _ _ _ (sym is ∙ ending.first) in
    no_item item (sym (item_in-line item fits) ∙ ap item_in line ∙ item_in-guarantee (factor_of g))

-- the objects are one, and what stands behind them
found_one_by : (wanted : Bool) (names ls : List (List ℕ)) (us vs : List Item) (x y : Found) → AreNames names
    → SpellsFound wanted names ls (with_items x us) → SpellsFound wanted names ls (with_items y vs) → with_items y vs ≡ with_items x us
found_one_by wanted names ls [] [] x y are one other =
    ending_one wanted names one.rest x.guarantee y.guarantee x y are one.ending
    (subst (λ l. SpellsEnding wanted names l (y.guarantee, y.figures, y.accesses)) (sym other.first ∙ one.first) other.ending)
found_one_by wanted names ls [] (v ∷ vs) x y are one other =
    absurd (no_object wanted names one.rest (map answer_line vs ++ other.rest) v x.guarantee x (All-head IsItem v vs other.items) (sym one.first ∙ other.first) one.ending)
found_one_by wanted names ls (u ∷ us) [] x y are one other =
    absurd (no_object wanted names other.rest (map answer_line us ++ one.rest) u y.guarantee y (All-head IsItem u us one.items) (sym other.first ∙ one.first) other.ending)
found_one_by wanted names ls (u ∷ us) (v ∷ vs) x y are one other =
    let lines = sym other.first ∙ one.first in
    let line : answer_line v ≡ answer_line u = same_line _ _ _ _ lines in
    let rest : map answer_line vs ++ other.rest ≡ map answer_line us ++ one.rest = same_rest _ _ _ _ lines in
    let item : v ≡ u = same_Some v u (sym (item_in-line v (All-head IsItem v vs other.items)) ∙ ap item_in line ∙ item_in-line u (All-head IsItem u us one.items)) in
    let later = found_one_by wanted names (map answer_line us ++ one.rest) us vs x y are
    (record { rest = one.rest; first = refl; items = All-tail IsItem u us one.items; ending = one.ending })
    (record { rest = other.rest; first = sym rest; items = All-tail IsItem v vs other.items; ending = other.ending }) in
    λ i. with_items (later i) (item i ∷ (later i).items)

found_one : (wanted : Bool) (names ls : List (List ℕ)) (x y : Found) → AreNames names → SpellsFound wanted names ls x → SpellsFound wanted names ls y → y ≡ x
found_one wanted names ls x y are one other = found_one_by wanted names ls x.items y.items x y are one other

versioned_one : (wanted : Bool) (names : List (List ℕ)) (ls : List (List ℕ)) (x y : List ℕ × Found) → AreNames names → SpellsVersioned wanted names names ls x
    → SpellsVersioned wanted names names ls y → y ≡ x
versioned_one wanted names ls x y are one other =
    versions_one wanted names names ls x.0 x.1 y (all_left names are.each are.different) (λ rest f g this that. found_one wanted names rest f g are this that) one other

counted_one : (wanted : Bool) (names : List (List ℕ)) (ls : List (List ℕ)) (x y : ℕ × List ℕ × Found) → AreNames names → SpellsCounted wanted names ls x
    → SpellsCounted wanted names ls y → y ≡ x
counted_one wanted names ls x y are one other =
    let steps = steps_count wanted names (count_line x.0) x.0 (count_in-line x.0 one.low one.high) in
    let back = steps.drops one.rest y (subst (λ l. SpellsCounted wanted names l y) one.first other) in
    let with_count : List ℕ × Found → ℕ × List ℕ × Found = λ versioned. (x.0, versioned.0, versioned.1) in
    back.2 ∙ ap with_count (versioned_one wanted names one.rest (x.1, x.2) back.0 are one.versioned back.1)

-- the line of a query is that of no other
query_found : (query : Query) → Reads (printed query) (Ok query) → FindsQuery (query_line query) (Some query)
query_found query reads = (
  refl,
  reads,
  λ other is again.
      let text : Some (printed other) ≡ Some (printed query) = sym (ap (rest_after (codes "query ")) is) in
      let own = reads.0 in
      let its = again.0 in
      printed_same other query its.lawful own.lawful (same_Some (printed other) (printed query) text),
)

queried_one : (ls : List (List ℕ)) (x y : Query × ℕ × List ℕ × Found) → SpellsQueried ls x → SpellsQueried ls y → y ≡ x
queried_one ls x y one other =
    let reads = one.query in
    let own = reads.0 in
    let steps = steps_query (query_line x.0) x.0 (query_found x.0 reads) in
    let back = steps.drops one.rest y (subst (λ l. SpellsQueried l y) one.first other) in
    let with_query : ℕ × List ℕ × Found → Query × ℕ × List ℕ × Found = λ counted. (x.0, counted.0, counted.1, counted.2) in
    back.2 ∙ ap with_query (counted_one (has_guarantee x.0.algorithm) x.0.names one.rest (x.1, x.2, x.3) back.0 (names_of_lawful x.0 own.lawful) one.counted back.1)

-- the certificate that lines spell is the only one
pub spells_one : (ls : List (List ℕ)) (c d : Certificate) → Spells ls c → Spells ls d → d ≡ c
spells_one ls c d one other =
    let fits = one.certificate in
    let answer : List (List ℕ) = map answer_line c.items
    ++ (guarantee_lines (guaranteed c) ++ stop_line c.depth c.sorted c.random c.cost ∷ access_lines c.query.names c.accesses) in
    let rest : List (List ℕ) = query_line c.query ∷ count_line c.count ∷ (version_lines c.query.names c.versions ++ answer) in
    let steps = steps_number (number_line c.line) c.line (number_in-line c.line fits.line_from fits.line_to) in
    let mine = steps.drops rest c (subst (λ l. Spells l c) one.spelled one) in
    let its = steps.drops rest d (subst (λ l. Spells l d) one.spelled other) in
    its.2 ∙ ap (whole c.line) (queried_one rest mine.0 its.0 mine.1 its.1) ∙ sym mine.2
