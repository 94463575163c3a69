-- The lines of a certificate, and which certificates there are.
use Rattle.std.specs.Prelude.{◌≡◌, ◌==◌, ◌≤◌, ◌<◌, ◌^◌, ℕ, List, [], ◌∷◌, ◌++◌, length, map, codes, All, Ok, Option, Some, None, is_some, IfSome, option_map, if◌then◌else◌}
use Rattle.std.specs.List.{join_with_byte, flat_map, zip}
use Rattle.std.specs.Fmt.{decimal}
use Rattle.ranked_list.specs.declared.item.Item.{Item}
use Rattle.algorithm_theory.specs.Within.{Factor}
use Rattle.cert_text.specs.declared.factor.Guarantee.{Guarantee}
use Rattle.cert_text.specs.Guarantee.{factor_of, has_guarantee}
use Rattle.topk_theory.specs.declared.access.Access.{Access}
use Rattle.topk_theory.specs.declared.access.Access.TheVariants.{Sorted, Random}
use Rattle.topk_theory.specs.Transcript.{list_of, object_of, grade_of}
use Rattle.query_text.specs.declared.query.Query.{Query}
use Rattle.query_text.specs.Query.{name_of, printed}
use Rattle.query_text.specs.Reading.{Reads}
use Rattle.cert_text.specs.declared.certificate.Certificate.{Certificate}
use Rattle.topk_base.specs.declared.TheConstants.{MAX_OBJECTS}

-- a line of words, with one space between two
abbrev pub spaced : List (List ℕ) → List ℕ
spaced words = join_with_byte 32 words

-- the line of the certificate's number, of its query, and of how many objects each list has
abbrev pub number_line : ℕ → List ℕ
number_line line = spaced (codes "certificate" ∷ decimal line ∷ [])

abbrev pub query_line : Query → List ℕ
query_line query = spaced (codes "query" ∷ printed query ∷ [])

abbrev pub count_line : ℕ → List ℕ
count_line count = spaced (codes "count" ∷ decimal count ∷ [])

-- the line of a list's version, by the list's name; version 0 has no line
abbrev pub version_line : List ℕ → ℕ → List (List ℕ)
version_line name version = if version == 0 then [] else spaced (codes "version" ∷ name ∷ decimal version ∷ []) ∷ []

-- the lines of the versions of lists with these names, in their order
abbrev pub version_lines : List (List ℕ) → List ℕ → List (List ℕ)
version_lines names versions = flat_map (λ list. version_line list.0 list.1) (zip names versions)

-- the line of an object of the answer, with both bounds
abbrev pub answer_line : Item → List ℕ
answer_line item = spaced (codes "answer" ∷ decimal item.object ∷ decimal item.low ∷ decimal item.high ∷ [])

-- the line of a guarantee, and the lines of one that may be there
abbrev pub guarantee_line : Factor → List ℕ
guarantee_line factor = spaced (codes "guarantee" ∷ decimal factor.p ∷ decimal factor.q ∷ [])

abbrev pub guarantee_lines : Option Factor → List (List ℕ)
guarantee_lines None = []
guarantee_lines (Some factor) = guarantee_line factor ∷ []

-- the line of the figures: the greatest depth of a list, the numbers of sorted and of random accesses, and their cost
abbrev pub stop_line : ℕ → ℕ → ℕ → ℕ → List ℕ
stop_line depth sorted random cost =
    spaced (codes "stop" ∷ codes "depth" ∷ decimal depth ∷ codes "sorted" ∷ decimal sorted ∷ codes "random" ∷ decimal random ∷ codes "cost" ∷ decimal cost ∷ [])

-- the line of an access: how it was made, its list by name, its object and its grade
abbrev pub access_line : List (List ℕ) → Access → List ℕ
access_line names (Sorted list object grade) = spaced (codes "s" ∷ name_of names list ∷ decimal object ∷ decimal grade ∷ [])
access_line names (Random list object grade) = spaced (codes "r" ∷ name_of names list ∷ decimal object ∷ decimal grade ∷ [])

-- the lines of the accesses, and the line that ends a certificate
abbrev pub access_lines : List (List ℕ) → List Access → List (List ℕ)
access_lines names accesses = map (access_line names) accesses ++ codes "end" ∷ []

-- what a certificate says that is guaranteed
abbrev pub guaranteed : Certificate → Option Factor
guaranteed c = option_map factor_of c.guarantee

-- the lines of a certificate
abbrev pub certificate_lines : Certificate → List (List ℕ)
certificate_lines c =
    number_line c.line ∷ query_line c.query ∷ count_line c.count
    ∷ (version_lines c.query.names c.versions
    ++ (map answer_line c.items
    ++ (guarantee_lines (guaranteed c) ++ stop_line c.depth c.sorted c.random c.cost ∷ access_lines c.query.names c.accesses)))

-- an object has 32 bits and its bounds have 64
pub record IsItem (item : Item) : Type 0 where
  pub object : item.object < 2 ^ 32
  pub low : item.low < 2 ^ 64
  pub high : item.high < 2 ^ 64

-- the numbers of a guarantee have 64 bits
pub record IsGuarantee (g : Guarantee) : Type 0 where
  pub p : g.p < 2 ^ 64
  pub q : g.q < 2 ^ 64

-- an access is of one of the lists, and its object and its grade have 32 bits
pub record IsAccess (lists : ℕ) (access : Access) : Type 0 where
  pub list : list_of access < lists
  pub object : object_of access < 2 ^ 32
  pub grade : grade_of access < 2 ^ 32

-- what a certificate may say: the numbers are within their ranges, a query line is read as the query, each of its lists has a version, there is a
-- guarantee exactly where its algorithm has one, and the accesses are of its lists
pub record IsCertificate (c : Certificate) : Type 0 where
  pub line_from : 1 ≤ c.line
  pub line_to : c.line < 2 ^ 63
  pub query : Reads (printed c.query) (Ok c.query)
  pub count_from : 1 ≤ c.count
  pub count_to : c.count ≤ MAX_OBJECTS
  pub versioned : length c.versions ≡ length c.query.names
  pub versions : All (λ version. version < 2 ^ 64) c.versions
  pub items : All IsItem c.items
  pub guaranteed : is_some c.guarantee ≡ has_guarantee c.query.algorithm
  pub guarantee : IfSome c.guarantee IsGuarantee
  pub depth : c.depth < 2 ^ 64
  pub sorted : c.sorted < 2 ^ 64
  pub random : c.random < 2 ^ 64
  pub cost : c.cost < 2 ^ 64
  pub accesses : All (IsAccess (length c.query.names)) c.accesses
