-- One text put after another.
use Rattle.std.proofs.Common.{◌≡◌, ℕ, ◌<◌, ◌+◌, List, [], ◌∷◌, ◌++◌, length, take, get_or, map, sym, ap, ◌∙◌, subst, append-nil, arith}
use Rattle.std.specs.List.{flat_map, zip}
use Rattle.std.proofs.lemmas.List.{take_more, take_all, length-take-le}
use Rattle.std.proofs.lemmas.List.FromFn.{map-range_with_len_more, length-map-range_with_len}
use Rattle.std.proofs.lemmas.Grind.{flat_map-append}
use Rattle.topk_base.specs.Lines.{unlines}
use Rattle.topk_base.proofs.LineLaws.{unlines-append}
use Rattle.ranked_list.specs.declared.row.Row.{Row}
use Rattle.bundle_text.specs.Bundle.{list_line, row_line, section, sections}
use Rattle.bundle_text.proofs.FrontLaws.{zip-push}
use Rattle.tk_io.specs.Pieces.{Puts, Written}
use Rattle.tk_io.proofs.Putting.{puts_then, puts_as}
use Rattle.bundle_text.specs.Numbered.{list_name, list_names}

pub puts_section : (name : List ℕ) (rows : List Row) (before mid now : Written)
    → Puts before mid (list_line name ++ 10 ∷ []) → Puts mid now (unlines (map row_line rows)) → Puts before now (unlines (section name rows))
puts_section name rows before mid now first second =
    puts_then before mid now (list_line name ++ 10 ∷ []) (unlines (map row_line rows)) first second

sections_more : (names : List (List ℕ)) (lists : List (List Row)) (name : List ℕ) (rows : List Row) → length names ≡ length lists
    → unlines (sections (names ++ name ∷ []) (lists ++ rows ∷ [])) ≡ unlines (sections names lists) ++ unlines (section name rows)
sections_more names lists name rows same =
    ap (λ (z : List (List ℕ × List Row)). unlines (flat_map (λ list. section list.0 list.1) z)) (zip-push names lists name rows same)
    ∙ ap unlines (flat_map-append (λ (list : List ℕ × List Row). section list.0 list.1) (zip names lists) ((name, rows) ∷ []))
    ∙ unlines-append (sections names lists) (section name rows ++ [])
    ∙ ap (λ ls. unlines (sections names lists) ++ unlines ls) (append-nil (section name rows))

lists_more : (lists : List (List Row)) (place : ℕ) (d : List Row) → place < length lists
    → unlines (sections (list_names (place + 1)) (take (place + 1) lists)) ≡ unlines (sections (list_names place) (take place lists)) ++ unlines (section (list_name (place + 1)) (get_or lists place d))
lists_more lists place d within =
    let names : list_names (place + 1) ≡ list_names place ++ list_name (place + 1) ∷ [] = map-range_with_len_more list_name 1 place (place + 1) (omega arith) in
    let front : take (place + 1) lists ≡ take place lists ++ get_or lists place d ∷ [] = take_more lists place d within in
    let as_many : length (list_names place) ≡ length (take place lists) = length-map-range_with_len list_name 1 place ∙ sym (length-take-le place lists (omega arith)) in
    ap (λ ns. unlines (sections ns (take (place + 1) lists))) names
    ∙ ap (λ (ls : List (List Row)). unlines (sections (list_names place ++ list_name (place + 1) ∷ []) ls)) front
    ∙ sections_more (list_names place) (take place lists) (list_name (place + 1)) (get_or lists place d) as_many

-- one list more was put
pub puts_list : (lists : List (List Row)) (place : ℕ) (d : List Row) (before mid now : Written)
    → place < length lists
    → Puts before mid (unlines (sections (list_names place) (take place lists))) → Puts mid now (unlines (section (list_name (place + 1)) (get_or lists place d)))
    → Puts before now (unlines (sections (list_names (place + 1)) (take (place + 1) lists)))
puts_list lists place d before mid now within first second =
    puts_as before now _ _ (lists_more lists place d within)
    (puts_then before mid now (unlines (sections (list_names place) (take place lists))) (unlines (section (list_name (place + 1)) (get_or lists place d))) first second)

-- all were
pub puts_lists : (lists : List (List Row)) (place : ℕ) (before now : Written) → place ≡ length lists
    → Puts before now (unlines (sections (list_names place) (take place lists))) → Puts before now (unlines (sections (list_names (length lists)) lists))
puts_lists lists place before now is puts =
    subst (λ n. Puts before now (unlines (sections (list_names n) lists))) is
    (subst (λ (ls : List (List Row)). Puts before now (unlines (sections (list_names place) ls))) (take_all place lists (omega (arith, is))) puts)
