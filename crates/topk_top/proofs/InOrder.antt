-- Which lists of a query can be read in order, by the catalog.
use Rattle.std.proofs.Common.{◌≡◌, ℕ, false, List, [], ◌∷◌, map, Option, None, Some, option_map, unwrap_or, refl, sym, ap, ◌∙◌}
use Rattle.std.proofs.lemmas.Option.{same_Some}
use Rattle.query_core.specs.declared.ready.Ready.{Ready as ReadyQuery}
use Rattle.query_core.specs.Methods.{method_with}
use Rattle.query_core.specs.Ready.{method_of_ready}
use Rattle.query_admission.specs.View.{sorted_at}
use Rattle.query_admission.specs.Admission.{IsAdmitted}
use Rattle.query_admission.specs.declared.lists.ListInfo.{ListInfo}
use Rattle.catalog_text.specs.Catalog.{Listed as Entry}
use Rattle.catalog_open.specs.declared.opened.Opening.{Opening}
use Rattle.catalog_open.specs.declared.opened.Opening.TheVariants.{Closed, Open}
use Rattle.catalog_open.specs.Views.{entry_named, said_of, listed_at, view_over, nothing_told}
use Rattle.query_admission.specs.Causes.{line_over}
use Rattle.catalog_open.specs.Entries.{entry_at, opening_at}
use Rattle.topk_top.specs.Answers.{is_sorted, method_in}

-- an entry's list says so of itself, whatever became of its source
pub said_sorted : (entry : Entry) (o : Opening) → (said_of entry o).sorted ≡ entry.sorted
said_sorted entry Closed = refl
said_sorted entry (Open size source version) = refl

named_sorted : (catalog : List Entry) (openings : List Opening) (o : Option ℕ) (l : ListInfo) → option_map (listed_at catalog openings) o ≡ Some l
    → l.sorted ≡ unwrap_or (option_map (λ place. (entry_at catalog place).sorted) o) false
named_sorted catalog openings None l e = absurd cc
named_sorted catalog openings (Some place) l e =
    sym (ap (λ (k : ListInfo). k.sorted) (same_Some (listed_at catalog openings place) l e)) ∙ said_sorted (entry_at catalog place) (opening_at openings place)

all_sorted : (catalog : List Entry) (openings : List Opening) (names : List (List ℕ)) (lists : List ListInfo)
    → map (λ name. option_map (listed_at catalog openings) (entry_named catalog name)) names ≡ map Some lists
    → sorted_at lists ≡ map (is_sorted catalog) names
all_sorted catalog openings [] [] e = refl
all_sorted catalog openings [] (l ∷ ls) e = absurd cc
all_sorted catalog openings (n ∷ ns) [] e = absurd cc
all_sorted catalog openings (n ∷ ns) (l ∷ ls) e =
    let here : option_map (listed_at catalog openings) (entry_named catalog n) ≡ Some l = cc in
    let rest : map (λ name. option_map (listed_at catalog openings) (entry_named catalog name)) ns ≡ map Some ls = cc in
    ap (λ b. b ∷ sorted_at ls) (named_sorted catalog openings (entry_named catalog n) l here)
    ∙ ap (λ bs. is_sorted catalog n ∷ bs) (all_sorted catalog openings ns ls rest)

-- so an admitted query runs by the method that the catalog gives it
pub ready_method : (catalog : List Entry) (openings : List Opening) (number : ℕ) (bytes : List ℕ) (ready : ReadyQuery)
    → IsAdmitted (line_over (view_over catalog openings nothing_told) number bytes) ready → method_of_ready ready ≡ method_in catalog ready.query
ready_method catalog openings number bytes ready admitted =
    ap (method_with ready.query.algorithm) (sym admitted.sorted ∙ all_sorted catalog openings ready.query.names admitted.lists admitted.listed)
