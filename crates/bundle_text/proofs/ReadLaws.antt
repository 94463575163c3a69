-- The reading of a bundle, line by line.
use Rattle.std.proofs.Common.{◌≡◌, ℕ, ◌+◌, true, false, List, [], ◌∷◌, Result, Ok, Err, refl, sym, ap, ◌∙◌}
use Rattle.std.proofs.Common.{Bor}
use Rattle.std.proofs.lemmas.Bool.{false≢true}
use Rattle.bundle_text.specs.declared.line.Line.{Line}
use Rattle.bundle_text.specs.declared.line.Line.TheVariants.{Heading, Entry, Query, Other}
use Rattle.bundle_text.specs.Bundle.{Content}
use Rattle.bundle_text.specs.Reading.{InsideList, Part, list_part, row_part, query_part, no_part, part_of, is_whole, with_query, read_part, read_on, read_first, read_all, first_front, takes_part, with_part, part_read}

-- the ends of a query line: no line after it, or one
pub ends_alone : (front : InsideList) (line : ℕ) (ls : List (List ℕ)) (go : InsideList → Result Content ℕ) (query : List ℕ) → is_whole front ≡ true → ls ≡ []
    → read_part front line ls go (query_part query) ≡ Ok (with_query front query)
ends_alone front line ls go query whole none = rw (whole, none) refl

pub ends_before_more : (front : InsideList) (line : ℕ) (ls more : List (List ℕ)) (next : List ℕ) (go : InsideList → Result Content ℕ) (query : List ℕ)
    → is_whole front ≡ true → ls ≡ next ∷ more
    → read_part front line ls go (query_part query) ≡ Err (line + 1)
ends_before_more front line ls more next go query whole some = rw (whole, some) refl

pub ends_short : (front : InsideList) (line : ℕ) (ls : List (List ℕ)) (go : InsideList → Result Content ℕ) (query : List ℕ) → is_whole front ≡ false
    → read_part front line ls go (query_part query) ≡ Err line
ends_short front line ls go query short = rw short refl

-- one line on, and at the end
pub read_on-nil : (front : InsideList) (line : ℕ) → read_on front line [] ≡ Err line
unfolding read_on
read_on-nil front line = refl

pub read_on-cons : (front : InsideList) (line : ℕ) (next : List ℕ) (ls : List (List ℕ))
    → read_on front line (next ∷ ls) ≡ read_part front line ls (λ front. read_on front (line + 1) ls) (part_of next)
unfolding read_on
read_on-cons front line next ls = refl

-- a line that may come is taken in
pub read_part-takes : (front : InsideList) (line : ℕ) (ls : List (List ℕ)) (go : InsideList → Result Content ℕ) (part : Part) → takes_part front part ≡ true
    → read_part front line ls go part ≡ go (with_part front part)
read_part-takes front line ls go (list_part name) takes = rw takes refl
read_part-takes front line ls go (row_part row) takes = rw takes refl
read_part-takes front line ls go (query_part text) takes = absurd (false≢true takes)
read_part-takes front line ls go no_part takes = absurd (false≢true takes)

-- and one that may not is at fault, but for the query's
pub read_part-refuses : (front : InsideList) (line : ℕ) (ls : List (List ℕ)) (go : InsideList → Result Content ℕ) (part : Part)
    → ((text : List ℕ) → part ≡ query_part text → ⊥) → takes_part front part ≡ false
    → read_part front line ls go part ≡ Err line
read_part-refuses front line ls go (list_part name) other refuses = rw refuses refl
read_part-refuses front line ls go (row_part row) other refuses = rw refuses refl
read_part-refuses front line ls go (query_part text) other refuses = absurd (other text refl)
read_part-refuses front line ls go no_part other refuses = refl

-- a line that was read as no query is none
pub no_query : (line : Line) → ((text : Bor (List ℕ)) → line ≡ Query text → ⊥) → (text : List ℕ) → part_read line ≡ query_part text → ⊥
no_query (Heading name) other text e = absurd cc
no_query (Entry row) other text e = absurd cc
no_query (Query query) other text e = other query refl
no_query Other other text e = absurd cc

-- the steps, with the lines named by an equation
pub read_on-takes : (front : InsideList) (line : ℕ) (next : List ℕ) (ls all : List (List ℕ)) (part : Part) → all ≡ next ∷ ls → part ≡ part_of next
    → takes_part front part ≡ true
    → read_on front line all ≡ read_on (with_part front part) (line + 1) ls
read_on-takes front line next ls all part e is takes =
    ap (read_on front line) e ∙ read_on-cons front line next ls ∙ ap (read_part front line ls (λ front. read_on front (line + 1) ls)) (sym is)
    ∙ read_part-takes front line ls (λ front. read_on front (line + 1) ls) part takes

pub read_on-refuses : (front : InsideList) (line : ℕ) (next : List ℕ) (ls all : List (List ℕ)) (part : Part) → all ≡ next ∷ ls → part ≡ part_of next
    → ((text : List ℕ) → part ≡ query_part text → ⊥) → takes_part front part ≡ false → read_on front line all ≡ Err line
read_on-refuses front line next ls all part e is other refuses =
    ap (read_on front line) e ∙ read_on-cons front line next ls ∙ ap (read_part front line ls (λ front. read_on front (line + 1) ls)) (sym is)
    ∙ read_part-refuses front line ls (λ front. read_on front (line + 1) ls) part other refuses

pub read_on-query : (front : InsideList) (line : ℕ) (next : List ℕ) (ls all : List (List ℕ)) (query : List ℕ) → all ≡ next ∷ ls
    → query_part query ≡ part_of next
    → read_on front line all ≡ read_part front line ls (λ front. Err line) (query_part query)
read_on-query front line next ls all query e is =
    ap (read_on front line) e ∙ read_on-cons front line next ls ∙ ap (read_part front line ls (λ front. read_on front (line + 1) ls)) (sym is)

-- the first line
pub read_all-none : (all : List (List ℕ)) → all ≡ [] → read_all all ≡ Err 1
read_all-none all e = ap read_all e

pub read_all-first : (next : List ℕ) (ls all : List (List ℕ)) (name : List ℕ) → all ≡ next ∷ ls → list_part name ≡ part_of next
    → read_all all ≡ read_on (first_front name) 2 ls
read_all-first next ls all name e is = ap read_all e ∙ ap (read_first ls) (sym is)

pub read_all-other : (next : List ℕ) (ls all : List (List ℕ)) (line : Line) → all ≡ next ∷ ls → part_read line ≡ part_of next
    → ((name : Bor (List ℕ)) → line ≡ Heading name → ⊥) → read_all all ≡ Err 1
read_all-other next ls all line e is other = ap read_all e ∙ ap (read_first ls) (sym is) ∙ by_line line other
  where
    by_line : (line : Line) → ((name : Bor (List ℕ)) → line ≡ Heading name → ⊥) → read_first ls (part_read line) ≡ Err 1
    by_line (Heading name) other = absurd (other name refl)
    by_line (Entry row) other = refl
    by_line (Query query) other = refl
    by_line Other other = refl
