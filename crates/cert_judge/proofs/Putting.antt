-- One text put after another.
use Rattle.std.proofs.Common.{◌≡◌, ℕ, zero, suc, ◌≤◌, ◌<◌, List, [], ◌∷◌, ◌++◌, ◌+◌, length, map, min, take, codes, slice_index_or, Some, refl, sym, ap, ap₂, ◌∙◌, append-nil, append_assoc, arith}
use Rattle.std.specs.List.{flat_map, slice_get, zip, concat}
use Rattle.std.specs.Global.{Vec}
use Rattle.std.specs.Fmt.{decimal}
use Rattle.std.proofs.lemmas.Grind.{flat_map-append}
use Rattle.std.proofs.lemmas.List.{take_more}
use Rattle.std.proofs.lemmas.Option.{slice_get-map, slice_get_within, get_or_from_slice_get}
use Rattle.std.specs.Option.{option_map}
use Rattle.topk_base.specs.Lines.{unlines}
use Rattle.topk_base.proofs.LineLaws.{unlines-append}
use Rattle.ranked_list.specs.declared.row.Row.{Row}
use Rattle.bundle_text.specs.Bundle.{Content, section, sections, query_line, bundle_lines}
use Rattle.cert_judge.specs.Text.{refused_line}
use Rattle.topk_theory.proofs.AgreementLists.{slice_get_from_read}

-- the text of the sections is that of one after another
pub unlines-sections : (ls : List (List ℕ × List Row))
    → unlines (flat_map (λ list. section list.0 list.1) ls) ≡ flat_map (λ (list : List ℕ × List Row). unlines (section list.0 list.1)) ls
unlines-sections [] = refl
unlines-sections (list ∷ ls) = unlines-append (section list.0 list.1) (flat_map (λ list. section list.0 list.1) ls) ∙ ap (λ t. unlines (section list.0 list.1) ++ t) (unlines-sections ls)

pub get_mapped : {X Y : Type 0} (f : X → Y) (xs : List X) (i : ℕ) (x : X) → slice_get xs i ≡ Some x → slice_get (map f xs) i ≡ Some (f x)
get_mapped f xs i x e = slice_get-map f xs i ∙ ap (option_map f) e

-- what stands at a place of two lists, pair by pair
pub zipped_at : (names : List (List ℕ)) (lists : List (List Row)) (i : ℕ) (name : List ℕ) (rows : List Row) → slice_get names i ≡ Some name
    → slice_get lists i ≡ Some rows
    → slice_get (zip names lists) i ≡ Some (name, rows)
zipped_at [] lists i name rows n l = absurd (cc)
zipped_at (x ∷ names) [] i name rows n l = absurd (cc)
zipped_at (x ∷ names) (y ∷ lists) zero name rows n l = let a : x ≡ name = cc in let b : y ≡ rows = cc in cc
zipped_at (x ∷ names) (y ∷ lists) (suc i) name rows n l = zipped_at names lists i name rows n l

-- the text of parts with one more at the end
pub concat_end : (parts : List (List ℕ)) (end : List ℕ) → concat parts ++ end ≡ concat (parts ++ end ∷ [])
concat_end [] end = sym (append-nil end)
concat_end (part ∷ parts) end = append_assoc part (concat parts) end ∙ ap (λ t. part ++ t) (concat_end parts end)

-- the text of a bundle
pub bundle_text : (c : Content)
    → unlines (bundle_lines c) ≡ flat_map (λ (list : List ℕ × List Row). unlines (section list.0 list.1))
    (zip c.names c.lists) ++ (codes "query " ++ (c.query ++ 10 ∷ []))
bundle_text c =
    unlines-append (sections c.names c.lists) (query_line c.query ∷ [])
    ∙ ap₂ (λ s t. s ++ t) (unlines-sections (zip c.names c.lists)) (append-nil (query_line c.query ++ 10 ∷ []) ∙ append_assoc (codes "query ") c.query (10 ∷ []))

-- the name and the rows at a place of a bundle
pub zipped_here : (names : List (Vec ℕ)) (lists : List (List Row)) (i : ℕ) (name : Vec ℕ) (rows : List Row) (bytes : List ℕ) → i < length names
    → i < length lists
    → name ≡ slice_index_or names i name → bytes ≡ name.items → rows ≡ slice_index_or lists i rows → slice_get (zip (map (λ (n : Vec ℕ). n.items) names) lists) i ≡ Some (bytes, rows)
zipped_here names lists i name rows bytes n l named is listed =
    zipped_at (map (λ (v : Vec ℕ). v.items) names) lists i bytes rows
    (get_mapped (λ (v : Vec ℕ). v.items) names i name (slice_get_from_read names i name n ∙ ap Some (sym named)) ∙ ap Some (sym is))
    (slice_get_from_read lists i rows l ∙ ap Some (sym listed))

pub zipped_length : (names : List (Vec ℕ)) (lists : List (List Row)) (i : ℕ) → min (length names) (length lists) ≤ i
    → length (zip (map (λ (n : Vec ℕ). n.items) names) lists) ≤ i
zipped_length [] lists i past = omega arith
zipped_length (name ∷ names) [] i past = omega arith
zipped_length (name ∷ names) (rows ∷ lists) zero past = absurd (omega arith)
zipped_length (name ∷ names) (rows ∷ lists) (suc i) past = let rest : length (zip (map (λ (n : Vec ℕ). n.items) names) lists) ≤ i = zipped_length names lists i (omega arith) in omega arith

-- the line of a refusal with one field more
pub refused_more : (name fields : List ℕ) (i field : ℕ) → slice_get fields i ≡ Some field
    → refused_line name (take (i + 1) fields) ≡ refused_line name (take i fields) ++ 32 ∷ decimal field
refused_more name fields i field found =
    let so_far = flat_map (λ (f : ℕ). 32 ∷ decimal f) (take i fields) in
    ap (refused_line name) (take_more fields i field (slice_get_within fields i field found) ∙ ap (λ f. take i fields ++ f ∷ []) (get_or_from_slice_get fields i field field found))
    ∙ ap (λ t. codes "refused " ++ (name ++ t)) (flat_map-append (λ (f : ℕ). 32 ∷ decimal f) (take i fields) (field ∷ []) ∙ ap (λ t. so_far ++ 32 ∷ t) (append-nil (decimal field)))
    ∙ ap (λ t. codes "refused " ++ t) (sym (append_assoc name so_far (32 ∷ decimal field)))
