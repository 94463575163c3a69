-- What reading lines finds out, for any way to spell values by lines. What it means for certificates is said in `Reading`.
use Rattle.std.specs.Prelude.{◌≡◌, ◌≢◌, ◌⊎◌, ◌<◌, ◌≤◌, ◌+◌, ◌^◌, ℕ, suc, Bool, is_some, IfSome, option_map, List, [], ◌∷◌, ◌++◌, length, map, take, All, AllPairs}
use Rattle.std.specs.declared.result.Result.{Result}
use Rattle.std.specs.declared.result.Result.TheVariants.{Ok, Err}
use Rattle.std.specs.declared.option.Option.{Option}
use Rattle.std.specs.declared.option.Option.TheVariants.{None, Some}
use Rattle.ranked_list.specs.declared.item.Item.{Item}
use Rattle.topk_theory.specs.declared.access.Access.{Access}
use Rattle.query_text.specs.declared.query.Query.{Query}
use Rattle.query_text.specs.Query.{printed}
use Rattle.query_text.specs.Reading.{Reads}
use Rattle.topk_base.specs.Lines.{lines}
use Rattle.topk_base.specs.Names.{IsName}
use Rattle.cert_text.specs.declared.fault.CertFault.{CertFault}
use Rattle.cert_text.specs.declared.fault.CertFault.TheVariants.{BadLine, Memory}
use Rattle.cert_text.specs.declared.factor.Guarantee.{Guarantee}
use Rattle.cert_text.specs.Guarantee.{factor_of, has_guarantee}
use Rattle.cert_text.specs.declared.parts.Figures.{Figures}
use Rattle.cert_text.specs.declared.reader.Counted.{Counted}
use Rattle.cert_text.specs.declared.reader.Ending.{Ending}
use Rattle.cert_text.specs.declared.reader.Results.{Results}
use Rattle.cert_text.specs.declared.reader.Stated.{Stated}
use Rattle.cert_text.specs.Certificate.{query_line, count_line, version_lines, answer_line, guarantee_lines, stop_line, access_lines, IsItem, IsGuarantee, IsAccess}
use Rattle.cert_text.specs.Parts.{version_in}
use Rattle.topk_base.specs.declared.TheConstants.{MAX_LISTS, MAX_OBJECTS}

-- some value is spelled by the lines
abbrev pub Spelled : {X : Type 0} → (List (List ℕ) → X → Type 0) → List (List ℕ) → Type 0
Spelled {X} S ls = (x : X) × S ls x

-- the lines are the front of such lines
abbrev pub Leads : {X : Type 0} → (List (List ℕ) → X → Type 0) → List (List ℕ) → Type 0
Leads S front = (rest : List (List ℕ)) × Spelled S (front ++ rest)

-- so many lines are the front of lines that spell a value, and with the next line, if there is one, they aren't
pub record IsFault {X : Type 0} (S : List (List ℕ) → X → Type 0) (ls : List (List ℕ)) (before : ℕ) : Type 0 where
  pub within : before ≤ length ls
  pub leads : Leads S (take before ls)
  pub ends : before < length ls → Leads S (take (suc before) ls) → ⊥

-- what reading finds: the one value that the lines spell; or that they spell none, and how many lines stand before the one at fault
abbrev pub Judges : {X : Type 0} → (List (List ℕ) → X → Type 0) → List (List ℕ) → Result X ℕ → Type 0
Judges {X} S ls (Ok x) = S ls x × ((y : X) → S ls y → y ≡ x)
Judges {X} S ls (Err before) = IsFault S ls before × ((y : X) → S ls y → ⊥)

-- what the code finds, where the first of the lines has this number
abbrev pub Finds : {X Y : Type 0} → (List (List ℕ) → X → Type 0) → (Y → X) → ℕ → List (List ℕ) → Result Y CertFault → Type 0
Finds S view first ls (Ok y) = Judges S ls (Ok (view y))
Finds S view first ls (Err (BadLine line)) = (before : ℕ) × (line ≡ first + before) × Judges S ls (Err before)
Finds S view first ls (Err Memory) = Unit {0}

-- no line is left, and this is the value
abbrev pub SpellsNone : {X : Type 0} → X → List (List ℕ) → X → Type 0
SpellsNone value ls x = (ls ≡ []) × (x ≡ value)

-- the lines spell these accesses of the lists with these names, and end there
abbrev pub SpellsAccesses : List (List ℕ) → List (List ℕ) → List Access → Type 0
SpellsAccesses names ls accesses = All (IsAccess (length names)) accesses × (ls ≡ access_lines names accesses)

-- the names of a query's lists: there are few, each is a name, and no two are the same
pub record AreNames (names : List (List ℕ)) : Type 0 where
  pub few : length names ≤ MAX_LISTS
  pub each : All IsName names
  pub different : AllPairs ◌≢◌ names

-- what a certificate says of an answer: its objects, what is guaranteed, the figures and the accesses
pub record Found : Type 0 where
  pub items : List Item
  pub guarantee : Option Guarantee
  pub figures : Figures
  pub accesses : List Access

-- what was read of an answer
abbrev pub found_of : Results → Found
found_of results = record {
  items = results.items.items;
  guarantee = results.ending.guarantee;
  figures = results.ending.figures;
  accesses = results.ending.accesses.items;
}

-- what was read behind the objects of an answer
abbrev pub ending_of : Ending → Option Guarantee × Figures × List Access
ending_of ending = (ending.guarantee, ending.figures, ending.accesses.items)

-- figures of 64 bits
pub record AreFigures (f : Figures) : Type 0 where
  pub depth : f.depth < 2 ^ 64
  pub sorted : f.sorted < 2 ^ 64
  pub random : f.random < 2 ^ 64
  pub cost : f.cost < 2 ^ 64

-- the lines spell these figures, and under them these accesses
pub record SpellsStopped (names : List (List ℕ)) (ls : List (List ℕ)) (stopped : Figures × List Access) : Type 0 where
  pub figures : AreFigures stopped.0
  pub accesses : All (IsAccess (length names)) stopped.1
  pub spelled : ls ≡ stop_line stopped.0.depth stopped.0.sorted stopped.0.random stopped.0.cost ∷ access_lines names stopped.1

-- the lines spell a guarantee, exactly where one is wanted, and under it these figures and accesses
pub record SpellsEnding (wanted : Bool) (names : List (List ℕ)) (ls : List (List ℕ)) (ending : Option Guarantee × Figures × List Access) : Type 0 where
  pub rest : List (List ℕ)
  pub first : ls ≡ guarantee_lines (option_map factor_of ending.0) ++ rest
  pub there : is_some ending.0 ≡ wanted
  pub small : IfSome ending.0 IsGuarantee
  pub stopped : SpellsStopped names rest (ending.1, ending.2)

-- the lines spell this answer, with a guarantee exactly where one is wanted
pub record SpellsFound (wanted : Bool) (names : List (List ℕ)) (ls : List (List ℕ)) (found : Found) : Type 0 where
  pub rest : List (List ℕ)
  pub first : ls ≡ map answer_line found.items ++ rest
  pub items : All IsItem found.items
  pub ending : SpellsEnding wanted names rest (found.guarantee, found.figures, found.accesses)

-- the lines spell versions of the lists with these names, and under them this answer, over all lists
pub record SpellsVersioned (wanted : Bool) (all names : List (List ℕ)) (ls : List (List ℕ)) (versioned : List ℕ × Found) : Type 0 where
  pub rest : List (List ℕ)
  pub first : ls ≡ version_lines names versioned.0 ++ rest
  pub sized : length versioned.0 ≡ length names
  pub small : All (λ version. version < 2 ^ 64) versioned.0
  pub found : SpellsFound wanted all rest versioned.1

-- the lines spell this answer and the versions of its lists under the number of objects of each list
pub record SpellsCounted (wanted : Bool) (names : List (List ℕ)) (ls : List (List ℕ)) (counted : ℕ × List ℕ × Found) : Type 0 where
  pub rest : List (List ℕ)
  pub first : ls ≡ count_line counted.0 ∷ rest
  pub low : 1 ≤ counted.0
  pub high : counted.0 ≤ MAX_OBJECTS
  pub versioned : SpellsVersioned wanted names names rest (counted.1, counted.2)

-- the lines spell this answer under its query
pub record SpellsQueried (ls : List (List ℕ)) (queried : Query × ℕ × List ℕ × Found) : Type 0 where
  pub rest : List (List ℕ)
  pub first : ls ≡ query_line queried.0 ∷ rest
  pub query : Reads (printed queried.0) (Ok queried.0)
  pub counted : SpellsCounted (has_guarantee queried.0.algorithm) queried.0.names rest (queried.1, queried.2, queried.3)

-- what was read under the line of a query
abbrev pub counted_of : Counted → ℕ × List ℕ × Found
counted_of counted = (counted.count, counted.versions.items, found_of counted.results)

-- what was read, with its query
abbrev pub queried_of : Query × Counted → Query × ℕ × List ℕ × Found
queried_of queried = (queried.0, queried.1.count, queried.1.versions.items, found_of queried.1.results)

-- the first of the lines gives no version of the list with this name
abbrev pub GivesNone : List ℕ → List (List ℕ) → Type 0
GivesNone name ls = (line : List ℕ) (rest : List (List ℕ)) → ls ≡ line ∷ rest → version_in name line ≡ None

-- the first of the lines gives the version of the list with this name, and the others are left; or it gives none, and all are left with version 0
abbrev pub States : List ℕ → ℕ → List (List ℕ) → Stated → Type 0
States name number ls stated =
    ((line : List ℕ) × (ls ≡ line ∷ lines stated.rest.now) × (version_in name line ≡ Some stated.version) × (stated.next ≡ number + 1))
    ⊎ (GivesNone name ls × (lines stated.rest.now ≡ ls) × (stated.version ≡ 0) × (stated.next ≡ number))

-- a line is the line of this query alone, or of none
abbrev pub FindsQuery : List ℕ → Option Query → Type 0
FindsQuery line (Some query) =
    (line ≡ query_line query) × Reads (printed query) (Ok query)
    × ((other : Query) → line ≡ query_line other → Reads (printed other) (Ok other) → other ≡ query)
FindsQuery line None = (other : Query) → line ≡ query_line other → Reads (printed other) (Ok other) → ⊥
