-- The lines of versions, and their text.
use Rattle.std.proofs.Common.{◌≡◌, ℕ, ◌+◌, ◌<◌, ◌≤◌, List, [], ◌∷◌, ◌++◌, length, get_or, take, zip, flat_map, codes, All, Some, refl, sym, ap, ◌∙◌, arith, append-nil}
use Rattle.std.specs.Fmt.{decimal}
use Rattle.std.proofs.lemmas.Bool.{ne_eqb}
use Rattle.std.proofs.lemmas.List.Elements.{All-head, All-tail}
use Rattle.std.proofs.lemmas.Option.{slice_get-get_or}
use Rattle.std.proofs.lemmas.Slice.Zip.{length-zip, get_or-zip}
use Rattle.topk_base.specs.Lines.{unlines}
use Rattle.topk_base.proofs.LineLaws.{unlines-append}
use Rattle.tk_io.specs.Pieces.{Puts, Written}
use Rattle.tk_io.proofs.Putting.{puts_next}
use Rattle.query_text.specs.Query.{name_of}
use Rattle.cert_text.specs.Certificate.{spaced, version_line, version_lines}

-- lists that are all at version 0 have no lines
pub lines_unversioned : (names : List (List ℕ)) (versions : List ℕ) → All (λ version. version ≡ 0) versions → version_lines names versions ≡ []
lines_unversioned [] versions all = refl
lines_unversioned (name ∷ names) [] all = refl
lines_unversioned (name ∷ names) (version ∷ versions) all =
    rw (All-head (λ v. v ≡ 0) version versions all) (lines_unversioned names versions (All-tail (λ v. v ≡ 0) version versions all))

-- the text of the lines of versions, list by list
abbrev pub versions_text : List (List ℕ × ℕ) → List ℕ
versions_text lists = flat_map (λ (list : List ℕ × ℕ). unlines (version_line list.0 list.1)) lists

lines_text_of : (lists : List (List ℕ × ℕ)) → unlines (flat_map (λ list. version_line list.0 list.1) lists) ≡ versions_text lists
lines_text_of [] = refl
lines_text_of (list ∷ lists) =
    unlines-append (version_line list.0 list.1) (flat_map (λ list. version_line list.0 list.1) lists)
    ∙ ap (λ t. unlines (version_line list.0 list.1) ++ t) (lines_text_of lists)

pub lines_text : (names : List (List ℕ)) (versions : List ℕ) → unlines (version_lines names versions) ≡ versions_text (zip names versions)
lines_text names versions = lines_text_of (zip names versions)

-- one list more
pub puts_version : (names : List (List ℕ)) (versions : List ℕ) (list d : ℕ) (name : List ℕ) (before mid now : Written)
    → list < length names → length versions ≡ length names → name ≡ name_of names list
    → Puts before mid (versions_text (take list (zip names versions)))
    → Puts mid now (unlines (version_line name (get_or versions list d)))
    → Puts before now (versions_text (take (list + 1) (zip names versions)))
puts_version names versions list d name before mid now within same is first second =
    let version = get_or versions list d in
    let long : list < length (zip names versions) = omega (arith, length-zip names versions) in
    let here : get_or (zip names versions) list ([], d) ≡ (name, version) =
    get_or-zip names versions list ([], d) within (omega arith) ∙ ap (λ (n : List ℕ). (n, version)) (sym is) in
    puts_next (λ (l : List ℕ × ℕ). unlines (version_line l.0 l.1)) (zip names versions) list (name, version) before mid now
    (slice_get-get_or (zip names versions) list ([], d) long ∙ ap Some here) first second

pub zip_passed : (names : List (List ℕ)) (versions : List ℕ) (list : ℕ) → length names ≤ list → length (zip names versions) ≤ list
zip_passed names versions list past = omega (arith, length-zip names versions)

-- the text of one version, none where it is 0
pub text_none : (name : List ℕ) (version : ℕ) → version ≡ 0 → unlines (version_line name version) ≡ []
text_none name version is = rw is refl

pub text_some : (name : List ℕ) (version : ℕ) → (version ≡ 0 → ⊥) → unlines (version_line name version) ≡ spaced (codes "version" ∷ name ∷ decimal version ∷ []) ++ 10 ∷ []
text_some name version some = rw (ne_eqb version 0 some) (append-nil (spaced (codes "version" ∷ name ∷ decimal version ∷ []) ++ 10 ∷ []))
