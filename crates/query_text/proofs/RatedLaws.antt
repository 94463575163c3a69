-- The numbers of an algorithm, and its text.
use Rattle.std.proofs.Common.{◌≡◌, ℕ, ◌<◌, ◌≤◌, ◌^◌, List, [], refl, sym, ap, ◌∙◌, subst, unwrap_or, arith}
use Rattle.std.specs.List.{find}
use Rattle.std.specs.Str.{bytes_eq}
use Rattle.std.specs.Str.Parse.{digits_value}
use Rattle.std.specs.Fmt.{decimal}
use Rattle.topk_base.proofs.NumberLaws.{number_of-decimal, number_of-some}
use Rattle.query_text.specs.Written.{IsNumber}
use Rattle.query_text.specs.Pieces.{Piece, IsInRange, AreInRange, names_in}
use Rattle.query_text.specs.Shape.{Named, IsNamed, algorithm_word, algorithms, count_piece, named_pieces}
use Rattle.query_text.specs.Query.{named_as, IsCount, IsFactor, IsRated, IsLawful}
use Rattle.query_text.specs.Finish.{IsFair, AreSmall}
use Rattle.query_text.specs.declared.query.Query.{Query}
use Rattle.query_text.specs.declared.algorithm.Algorithm.{Algorithm}
use Rattle.query_text.specs.declared.algorithm.Algorithm.TheVariants.{Ta, Nra, Ca, Fa, Theta, Early, Taz}
use Rattle.topk_base.specs.declared.TheConstants.{MAX_NUMBER}

-- the value of a number's text
pub value_of : (n : ℕ) → n < 2 ^ 64 → digits_value 10 (decimal n) ≡ n
value_of n small = (number_of-some (decimal n) n (number_of-decimal n small)).1

pub count_from : (n : ℕ) → n < 2 ^ 32 → IsInRange (count_piece (decimal n)) → IsCount n
count_from n small h =
    let fits : n < 2 ^ 64 = omega arith in
    let e = value_of n fits in
    (omega (arith, h.0, e), omega (arith, h.1, e))

pub number_is : (n : ℕ) → n < 2 ^ 64 → IsNumber (decimal n)
number_is n small = (number_of-some (decimal n) n (number_of-decimal n small)).0

pub range_of : (least most n : ℕ) → n < 2 ^ 64 → least ≤ n → n ≤ most → IsInRange (Piece.number least most (decimal n))
range_of least most n small low high = let e = value_of n small in (omega (arith, e), omega (arith, e))

pub count_small : (n : ℕ) → IsCount n → n < 2 ^ 64
count_small n h = let high = h.1 in omega arith

-- a count is within the range of its piece
count_range : (n : ℕ) → IsCount n → IsInRange (count_piece (decimal n))
count_range n h = range_of 1 MAX_NUMBER n (count_small n h) h.0 h.1

-- the depth and the factor of a lawful query
pub depth_counts : (query : Query) (depth : ℕ) → IsLawful query → query.algorithm ≡ Early depth → IsCount depth
depth_counts query depth lawful is = subst IsRated is lawful.algorithm

pub factor_counts : (query : Query) (p q : ℕ) → IsLawful query → query.algorithm ≡ Theta p q → IsFactor p q
factor_counts query p q lawful is = subst IsRated is lawful.algorithm

-- numbers of a text within their ranges, and a factor that isn't below 1
pub rated_from : (a : Algorithm) → AreSmall a → IsFair a → AreInRange (named_pieces (named_as a)) → IsRated a
rated_from Ta small fair ranges = tt
rated_from Nra small fair ranges = tt
rated_from Ca small fair ranges = tt
rated_from Fa small fair ranges = tt
rated_from (Theta p q) small fair ranges = record { p = count_from p small.0 ranges.1.0; q = count_from q small.1 ranges.1.1.1.0; fair = fair }
rated_from (Early depth) small fair ranges = count_from depth small ranges.1.0
rated_from Taz small fair ranges = tt

pub rated_named : (a : Algorithm) → IsRated a → IsNamed (named_as a)
rated_named Ta rated = refl
rated_named Nra rated = refl
rated_named Ca rated = refl
rated_named Fa rated = refl
rated_named (Theta p q) rated = (number_is p (count_small p rated.p), number_is q (count_small q rated.q))
rated_named (Early depth) rated = number_is depth (count_small depth rated)
rated_named Taz rated = refl

pub rated_ranges : (a : Algorithm) → IsRated a → AreInRange (named_pieces (named_as a))
rated_ranges Ta rated = (tt, tt)
rated_ranges Nra rated = (tt, tt)
rated_ranges Ca rated = (tt, tt)
rated_ranges Fa rated = (tt, tt)
rated_ranges (Theta p q) rated = (tt, (count_range p rated.p, (tt, (count_range q rated.q, tt))))
rated_ranges (Early depth) rated = (tt, (count_range depth rated, tt))
rated_ranges Taz rated = (tt, tt)

-- no list is named there
pub named_names : (a : Named) → names_in (named_pieces a) ≡ []
named_names (Named.word w) = refl
named_names (Named.factor p q) = refl
named_names (Named.depth d) = refl

-- the algorithm of a text
named_back : Named → Algorithm
named_back (Named.word w) = unwrap_or (find (λ a. bytes_eq w (algorithm_word a)) algorithms) Ta
named_back (Named.factor p q) = Theta (digits_value 10 p) (digits_value 10 q)
named_back (Named.depth d) = Early (digits_value 10 d)

back_named : (a : Algorithm) → IsRated a → named_back (named_as a) ≡ a
unfolding named_back
back_named Ta rated = refl
back_named Nra rated = refl
back_named Ca rated = refl
back_named Fa rated = refl
back_named (Theta p q) rated = λ i. Theta (value_of p (count_small p rated.p) i) (value_of q (count_small q rated.q) i)
back_named (Early depth) rated = ap Early (value_of depth (count_small depth rated))
back_named Taz rated = refl

-- algorithms with the same text are the same
pub named_same : (a b : Algorithm) → IsRated a → IsRated b → named_as a ≡ named_as b → a ≡ b
named_same a b h k e = sym (back_named a h) ∙ (ap named_back e ∙ back_named b k)

-- a factor that is below 1 isn't that of a lawful query
pub never_below : (a : Algorithm) (over under : List ℕ) (p q : ℕ) → IsRated a → named_as a ≡ Named.factor over under
    → digits_value 10 over ≡ p → digits_value 10 under ≡ q → p < q → ⊥
unfolding named_back
never_below a over under p q rated e first second less =
    let is : a ≡ Theta (digits_value 10 over) (digits_value 10 under) = sym (back_named a rated) ∙ ap named_back e in
    let fair = (subst IsRated is rated).fair in
    omega (arith, fair, first, second, less)
