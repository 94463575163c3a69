-- What is gathered of lists in memory is what is read of their lines.
use Rattle.std.proofs.Common.{◌≡◌, ◌≢◌, ◌<◌, ◌≤◌, ◌+◌, ◌-◌, ℕ, Bool, true, false, List, [], ◌∷◌, ◌++◌, length, take, nat_le, leb-true, leb-false, Result, Ok, Err, inl, inr, refl, sym, ap, ◌∙◌, subst, arith, append_assoc, append-nil, length-append, IfOk, IfErr}
use Rattle.std.specs.List.{All}
use Rattle.std.proofs.lemmas.List.{take_all, take-append-le, length_push}
use Rattle.std.proofs.lemmas.List.Elements.{All-push}
use Rattle.topk_base.specs.Names.{is_name}
use Rattle.bundle_text.specs.declared.given.GivenList.{GivenList}
use Rattle.bundle_text.specs.declared.reader.Reader.{Reader}
use Rattle.bundle_text.specs.declared.bundle.Bundle.{Bundle}
use Rattle.bundle_text.specs.declared.bundle.BundleFault.{BundleFault}
use Rattle.bundle_text.specs.declared.bundle.BundleFault.TheVariants.{BadBundle, Memory}
use Rattle.bundle_text.specs.Bundle.{Content, IsBundle, Spells, BeginsBundle, IsFirstFault, IsReadAs, IsCause, bundle_lines, query_line, content}
use Rattle.bundle_text.specs.Given.{content_given}
use Rattle.bundle_text.specs.Gathering.{lines_given, HasTaken, TakesLines, EndsGathering, StopsGathering, IsGathered}
use Rattle.bundle_text.specs.Reading.{InsideList, query_part, read_on, read_part, read_first, read_all, first_front, is_whole, with_query}
use Rattle.bundle_text.specs.Tracking.{front_of}
use Rattle.bundle_text.proofs.PartLaws.{part_of-list_line, part_of-query_line}
use Rattle.bundle_text.proofs.ReadLaws.{read_on-nil, read_on-query, ends_alone, ends_before_more, ends_short}
use Rattle.bundle_text.proofs.Complete.{complete}
use Rattle.bundle_text.proofs.Outcome.{HasOneLine, AreLines, found_spells, fault_first}
use Rattle.bundle_text.proofs.GatherSteps.{row_lines}
use Rattle.bundle_text.proofs.GivenLines.{part_of-wild, lists_are_none, sections_given}

-- ---- what the gathering comes to

-- there is no list
pub gathers_none : (lists : List GivenList) (query : List ℕ) → length lists ≡ 0 → StopsGathering (lines_given lists) query 1
gathers_none [] query none =
    inr (
      refl,
      refl,
      λ rest c e bundle.
          let bad : read_all (query_line query ∷ rest) ≡ Err 1 = ap (read_first rest) (part_of-query_line query) in
          absurd cc,
    )
gathers_none (first ∷ more) query none = absurd (omega arith)

-- the first list has no name
pub gathers_wild : (lists : List GivenList) (first : GivenList) (more : List GivenList) (query : List ℕ) → lists ≡ first ∷ more → is_name first.name.now ≡ false
    → StopsGathering (lines_given lists) query 1
gathers_wild lists first more query is wild =
    subst (λ (ls : List GivenList). StopsGathering (lines_given ls) query 1) (sym is)
    (inl (λ rest. ap (read_first ((row_lines first.rows.now ++ lines_given more) ++ rest)) (part_of-wild first.name.now wild)))

-- the lines after that of the first list's name
abbrev after_name : GivenList → List GivenList → List (List ℕ)
after_name first more = row_lines first.rows.now ++ lines_given more

named_goes : (first : GivenList) (more : List GivenList) → is_name first.name.now ≡ true → (rest : List (List ℕ))
    → read_all (lines_given (first ∷ more) ++ rest) ≡ read_on (first_front first.name.now) 2 (after_name first more ++ rest)
named_goes first more named rest = ap (read_first (after_name first more ++ rest)) (part_of-list_line first.name.now named)

-- a line of a list is at fault
pub gathers_stopped : (lists : List GivenList) (first : GivenList) (more : List GivenList) (query : List ℕ) (front : InsideList) (now : Reader) (fault : BundleFault)
    → lists ≡ first ∷ more → is_name first.name.now ≡ true → front ≡ first_front first.name.now
    → TakesLines (row_lines first.rows.now ++ lines_given more) front 2 now (Err fault) → IsGathered (lines_given lists) query (Err fault)
gathers_stopped lists first more query front now Memory is named opened t = tt
gathers_stopped lists first more query front now (BadBundle line) is named opened t =
    subst (λ (ls : List GivenList). StopsGathering (lines_given ls) query line) (sym is)
    (inl (λ rest. named_goes first more named rest ∙ ap (λ f. read_on f 2 (after_name first more ++ rest)) (sym opened) ∙ t rest))

-- the query's line after a front whose reading goes on
module _ (ls : List (List ℕ)) (query : List ℕ) (front : InsideList) (number : ℕ) (goes : (rest : List (List ℕ)) → read_all (ls ++ rest) ≡ read_on front number rest) where
  at_query : (rest : List (List ℕ)) → read_all (ls ++ query_line query ∷ rest) ≡ read_part front number rest (λ front. Err number) (query_part query)
  at_query rest =
      goes (query_line query ∷ rest)
      ∙ read_on-query front number (query_line query) rest (query_line query ∷ rest) query refl (sym (part_of-query_line query))

  ended_well : (c : Content) → is_whole front ≡ true → c ≡ with_query front query → read_all (ls ++ query_line query ∷ []) ≡ Ok c
  ended_well c whole is = at_query [] ∙ ends_alone front number [] (λ f. Err number) query whole refl ∙ ap Ok (sym is)

  ended_badly : (is_whole front ≡ true → All (λ byte. byte ≢ 10) query → ⊥) → (rest : List (List ℕ)) (c : Content)
      → read_all (ls ++ query_line query ∷ rest) ≡ Ok c → IsBundle c → ⊥
  ended_badly bad rest c e bundle = by_whole (is_whole front) refl rest e
    where
      by_rest : is_whole front ≡ true → (rest : List (List ℕ)) → read_all (ls ++ query_line query ∷ rest) ≡ Ok c → ⊥
      by_rest whole [] e =
          let good : Ok (with_query front query) ≡ Ok c = sym (ended_well (with_query front query) whole refl) ∙ e in
          let same : with_query front query ≡ c = cc in
          bad whole (subst (λ (d : Content). All (λ byte. byte ≢ 10) d.query) (sym same) bundle.one_line)
      by_rest whole (next ∷ rest) e =
          let wrong : read_all (ls ++ query_line query ∷ next ∷ rest) ≡ Err (number + 1) =
          at_query (next ∷ rest) ∙ ends_before_more front number (next ∷ rest) rest next (λ f. Err number) query whole refl in
          absurd cc

      by_whole : (b : Bool) → is_whole front ≡ b → (rest : List (List ℕ)) → read_all (ls ++ query_line query ∷ rest) ≡ Ok c → ⊥
      by_whole true whole rest e = by_rest whole rest e
      by_whole false short rest e =
          let wrong : read_all (ls ++ query_line query ∷ rest) ≡ Err number =
          at_query rest ∙ ends_short front number rest (λ f. Err number) query short in
          absurd cc

-- all lines of lists were taken in
pub gathers_whole : (lists : List GivenList) (first : GivenList) (more : List GivenList) (query : List ℕ) (front : InsideList) (reader : Reader) (number : ℕ)
    (r : Result Bundle BundleFault)
    → lists ≡ first ∷ more → is_name first.name.now ≡ true → front ≡ first_front first.name.now
    → HasTaken (row_lines first.rows.now ++ lines_given more) front 2 reader number → EndsGathering (front_of reader) number query r
    → IsGathered (lines_given lists) query r
gathers_whole lists first more query front reader number r is named opened h ends =
    subst (λ (ls : List GivenList). IsGathered (lines_given ls) query r) (sym is) (by_end r ends)
  where
    goes : (rest : List (List ℕ)) → read_all (lines_given (first ∷ more) ++ rest) ≡ read_on (front_of reader) number rest
    goes rest = named_goes first more named rest ∙ ap (λ f. read_on f 2 (after_name first more ++ rest)) (sym opened) ∙ h.goes rest

    by_end : (r : Result Bundle BundleFault) → EndsGathering (front_of reader) number query r → IsGathered (lines_given (first ∷ more)) query r
    by_end (Ok bundle) e = (ended_well (lines_given (first ∷ more)) query (front_of reader) number goes (content bundle) e.0 e.2, e.1)
    by_end (Err (BadBundle line)) e =
        inr (
          let long = h.number in let at = e.0 in omega arith,
          ap read_all (sym (append-nil (lines_given (first ∷ more)))) ∙ goes [] ∙ read_on-nil (front_of reader) number ∙ ap Err (sym e.0),
          ended_badly (lines_given (first ∷ more)) query (front_of reader) number goes e.1,
        )
    by_end (Err Memory) e = tt

-- ---- the clauses

lines_with_query : (lists : List GivenList) (query : List ℕ) → bundle_lines (content_given lists query) ≡ lines_given lists ++ query_line query ∷ []
lines_with_query lists query = ap (λ ls. ls ++ query_line query ∷ []) (sections_given lists)

query_is_whole : (query : List ℕ) → All (λ byte. byte ≢ 10) query → HasOneLine (query_line query)
query_is_whole query all other is =
    let e : query_part query ≡ query_part other = sym (part_of-query_line query) ∙ is in
    let same : query ≡ other = cc in
    subst (All (λ byte. byte ≢ 10)) same all

found : (ls : List (List ℕ)) (query : List ℕ) (r : Result Bundle BundleFault) → AreLines ls → IsGathered ls query r
    → IfOk r (λ bundle. Spells (ls ++ query_line query ∷ []) (content bundle))
found ls query (Ok bundle) lines g =
    found_spells (ls ++ query_line query ∷ []) (All-push HasOneLine ls (query_line query) lines (query_is_whole query g.1)) (content bundle) g.0
found ls query (Err fault) lines g = tt

reads : (ls : List (List ℕ)) (query : List ℕ) (r : Result Bundle BundleFault) → IsGathered ls query r
    → (c : Content) → Spells (ls ++ query_line query ∷ []) c → IsReadAs c r
reads ls query (Ok bundle) g c s =
    let good : read_all (ls ++ query_line query ∷ []) ≡ Ok c = ap read_all s.spelled ∙ complete c s.bundle in
    let same : Ok (content bundle) ≡ Ok c = sym g.0 ∙ good in cc
reads ls query (Err (BadBundle line)) g c s =
    let good : read_all (ls ++ query_line query ∷ []) ≡ Ok c = ap read_all s.spelled ∙ complete c s.bundle in
    elim g [
      | inl stops ↦ absurd (let bad : read_all (ls ++ query_line query ∷ []) ≡ Err line = stops (query_line query ∷ []) in cc)
      | inr all ↦ absurd (all.2 [] c good s.bundle)
    ]
reads ls query (Err Memory) g c s = tt

-- lines that begin a bundle are read with what follows them there
read_begun : (ls : List (List ℕ)) (begun : BeginsBundle ls) → read_all (ls ++ begun.0) ≡ Ok begun.1
read_begun ls begun = ap read_all begun.2.spelled ∙ complete begun.1 begun.2.bundle

-- the first line at fault is so whatever lines follow
longer_fault : (ls more : List (List ℕ)) (line : ℕ) → IsFirstFault ls line → line ≤ length ls → IsFirstFault (ls ++ more) line
longer_fault ls more line f short = record {
  counted = f.counted;
  within = omega (arith, length-append ls more);
  begins = subst BeginsBundle (sym (take-append-le (line - 1) ls more (omega arith))) f.begins;
  ends = λ l begun. f.ends short (subst BeginsBundle (take-append-le line ls more short) begun);
}

-- where the reading stops whatever lines follow, the line at fault is one of them
stops_within : (ls : List (List ℕ)) (line : ℕ) → IsFirstFault ls line → ((rest : List (List ℕ)) → read_all (ls ++ rest) ≡ Err line) → line ≤ length ls
stops_within ls line f stops = by_place (nat_le line (length ls)) refl
  where
    beyond : length ls < line → ⊥
    beyond past =
        let within = f.within in
        let whole : take (line - 1) ls ≡ ls = take_all (line - 1) ls (omega arith) in
        let begun = subst BeginsBundle whole f.begins in
        let good = read_begun ls begun in
        let bad : read_all (ls ++ begun.0) ≡ Err line = stops begun.0 in
        absurd cc

    by_place : (b : Bool) → nat_le line (length ls) ≡ b → line ≤ length ls
    by_place true e = leb-true line (length ls) e
    by_place false e = absurd (beyond (leb-false line (length ls) e))

fault : (ls : List (List ℕ)) (query : List ℕ) (r : Result Bundle BundleFault) → AreLines ls → IsGathered ls query r
    → IfErr r (IsCause (ls ++ query_line query ∷ []))
fault ls query (Ok bundle) lines g = tt
fault ls query (Err Memory) lines g = tt
fault ls query (Err (BadBundle line)) lines g = elim g [
  | inl stops ↦ in_lists stops
  | inr all ↦ at_query_line all.0 all.1 all.2
]
  where
    in_lists : ((rest : List (List ℕ)) → read_all (ls ++ rest) ≡ Err line) → IsFirstFault (ls ++ query_line query ∷ []) line
    in_lists stops =
        let f = fault_first ls lines line (ap read_all (sym (append-nil ls)) ∙ stops []) in
        longer_fault ls (query_line query ∷ []) line f (stops_within ls line f stops)

    at_query_line : line ≡ length ls + 1 → read_all ls ≡ Err line
        → ((rest : List (List ℕ)) (c : Content) → read_all (ls ++ query_line query ∷ rest) ≡ Ok c → IsBundle c → ⊥)
        → IsFirstFault (ls ++ query_line query ∷ []) line
    at_query_line at read refuses =
        let f = fault_first ls lines line read in
        let long : length (ls ++ query_line query ∷ []) ≡ length ls + 1 = length_push ls (query_line query) in record {
          counted = f.counted;
          within = omega arith;
          begins = subst BeginsBundle (sym (take-append-le (line - 1) ls (query_line query ∷ []) (omega arith))) f.begins;
          ends = λ l begun.
              let whole : take line (ls ++ query_line query ∷ []) ≡ ls ++ query_line query ∷ [] = take_all line (ls ++ query_line query ∷ []) (omega arith) in
              let begun_all = subst BeginsBundle whole begun in
              refuses begun_all.0 begun_all.1
              (ap read_all (sym (append_assoc ls (query_line query ∷ []) begun_all.0)) ∙ read_begun (ls ++ query_line query ∷ []) begun_all)
              begun_all.2.bundle;
        }

pub given_found : (lists : List GivenList) (query : List ℕ) (r : Result Bundle BundleFault) → IsGathered (lines_given lists) query r
    → IfOk r (λ bundle. Spells (bundle_lines (content_given lists query)) (content bundle))
given_found lists query r g =
    subst (λ (ls : List (List ℕ)). IfOk r (λ bundle. Spells ls (content bundle))) (sym (lines_with_query lists query))
    (found (lines_given lists) query r (lists_are_none lists) g)

pub given_reads : (lists : List GivenList) (query : List ℕ) (r : Result Bundle BundleFault) → IsGathered (lines_given lists) query r
    → (c : Content) → Spells (bundle_lines (content_given lists query)) c → IsReadAs c r
given_reads lists query r g c s = reads (lines_given lists) query r g c (subst (λ ls. Spells ls c) (lines_with_query lists query) s)

pub given_fault : (lists : List GivenList) (query : List ℕ) (r : Result Bundle BundleFault) → IsGathered (lines_given lists) query r
    → IfErr r (IsCause (bundle_lines (content_given lists query)))
given_fault lists query r g =
    subst (λ (ls : List (List ℕ)). IfErr r (IsCause ls)) (sym (lines_with_query lists query)) (fault (lines_given lists) query r (lists_are_none lists) g)
