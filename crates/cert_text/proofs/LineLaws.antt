-- A line of a certificate says what it was written from, and nothing else does.
use Rattle.std.proofs.Common.{◌≡◌, ℕ, ◌<◌, ◌≤◌, ◌^◌, List, [], ◌∷◌, ◌++◌, length, codes, All, Option, Some, None, refl, sym, ap, subst, ◌∙◌, arith}
use Rattle.std.specs.Fmt.{decimal}
use Rattle.std.proofs.lemmas.Bool.{ne_eqb}
use Rattle.std.proofs.lemmas.Option.{same_Some}
use Rattle.topk_base.specs.Cuts.{cut_at, rest_after}
use Rattle.topk_base.specs.Numbers.{number_up_to}
use Rattle.topk_base.proofs.CutLaws.{cut_at-append, cut_at-some, rest_after-append, rest_after-some}
use Rattle.topk_base.proofs.NumberLaws.{up_to-decimal, decimal-up_to, up_to-some}
use Rattle.ranked_list.specs.declared.item.Item.{Item}
use Rattle.topk_theory.specs.declared.access.Access.{Access}
use Rattle.topk_theory.specs.declared.access.Access.TheVariants.{Sorted, Random}
use Rattle.query_text.specs.Query.{name_of}
use Rattle.algorithm_theory.specs.Within.{Factor}
use Rattle.cert_text.specs.declared.factor.Guarantee.{Guarantee}
use Rattle.cert_text.specs.Guarantee.{factor_of}
use Rattle.cert_text.specs.declared.parts.Figures.{Figures}
use Rattle.cert_text.specs.Certificate.{number_line, count_line, version_line, answer_line, guarantee_line, stop_line, access_line, IsItem, IsGuarantee, IsAccess}
use Rattle.cert_text.specs.Judging.{AreNames, AreFigures}
use Rattle.cert_text.specs.Parts.{◌>>=◌, number_within, number_before, number_in, count_in, version_in, item_in, guarantee_in, figures_in, list_named, row_in, access_or, access_in, top_32, top_64}
use Rattle.cert_text.proofs.PartLaws.{NoSpace, bind_some, within-decimal, within-some, before-decimal, before-some, list_named-name_of, list_named-some, name_of_spaceless}

pub number_in-line : (n : ℕ) → 1 ≤ n → n < 2 ^ 63 → number_in (number_line n) ≡ Some n
unfolding number_in
number_in-line n low high = within-decimal 1 9223372036854775807 n low (omega arith) (omega arith)

pub record IsNumberLine (line : List ℕ) (n : ℕ) : Type 0 where
  pub line_is : line ≡ number_line n
  pub low : 1 ≤ n
  pub high : n < 2 ^ 63

pub number_in-some : (line : List ℕ) (n : ℕ) → number_in line ≡ Some n → IsNumberLine line n
unfolding number_in
number_in-some line n h =
    let word = bind_some (rest_after (codes "certificate ") line) (number_within 1 9223372036854775807) n h in
    let within = within-some 1 9223372036854775807 n word.0 (omega arith) word.2 in
    record {
      line_is = rest_after-some (codes "certificate ") line word.0 word.1 ∙ ap (λ t. codes "certificate " ++ t) within.text_is;
      low = within.low;
      high = omega (arith, within.high);
    }

pub count_in-line : (n : ℕ) → 1 ≤ n → n ≤ 200000 → count_in (count_line n) ≡ Some n
unfolding count_in
count_in-line n low high = within-decimal 1 200000 n low high (omega arith)

pub record IsCountLine (line : List ℕ) (n : ℕ) : Type 0 where
  pub line_is : line ≡ count_line n
  pub low : 1 ≤ n
  pub high : n ≤ 200000

pub count_in-some : (line : List ℕ) (n : ℕ) → count_in line ≡ Some n → IsCountLine line n
unfolding count_in
count_in-some line n h =
    let word = bind_some (rest_after (codes "count ") line) (number_within 1 200000) n h in
    let within = within-some 1 200000 n word.0 (omega arith) word.2 in
    record {
      line_is = rest_after-some (codes "count ") line word.0 word.1 ∙ ap (λ t. codes "count " ++ t) within.text_is;
      low = within.low;
      high = within.high;
    }

-- the line of a version of a list with a name
abbrev pub version_text : List ℕ → ℕ → List ℕ
version_text name version = codes "version " ++ (name ++ (codes " " ++ decimal version))

pub version_line_some : (name : List ℕ) (version : ℕ) → 1 ≤ version → version_line name version ≡ version_text name version ∷ []
version_line_some name version some = rw (ne_eqb version 0 (λ e. absurd (omega arith))) refl

pub version_in-line : (name : List ℕ) (version : ℕ) → 1 ≤ version → version < 2 ^ 64 → version_in name (version_text name version) ≡ Some version
unfolding version_in
version_in-line name version low high =
    rw (
      rest_after-append name (codes " " ++ decimal version),
      within-decimal 1 top_64 version low (omega arith) (omega arith),
    ) refl

pub record IsVersionLine (name line : List ℕ) (version : ℕ) : Type 0 where
  pub line_is : line ≡ version_text name version
  pub low : 1 ≤ version
  pub high : version < 2 ^ 64

pub version_in-some : (name line : List ℕ) (version : ℕ) → version_in name line ≡ Some version → IsVersionLine name line version
unfolding version_in
version_in-some name line version h =
    let word = bind_some (rest_after (codes "version ") line) (λ text. do
      text ← rest_after name text
      text ← rest_after (codes " ") text
      number_within 1 top_64 text) version h in
    let named = bind_some (rest_after name word.0) (λ text. do
      text ← rest_after (codes " ") text
      number_within 1 top_64 text) version word.2 in
    let number = bind_some (rest_after (codes " ") named.0) (number_within 1 top_64) version named.2 in
    let within = within-some 1 top_64 version number.0 (omega arith) number.2 in
    record {
      line_is = rest_after-some (codes "version ") line word.0 word.1
          ∙ ap (λ t. codes "version " ++ t) (rest_after-some name word.0 named.0 named.1
          ∙ ap (λ t. name ++ t) (rest_after-some (codes " ") named.0 number.0 number.1 ∙ ap (λ t. codes " " ++ t) within.text_is));
      low = within.low;
      high = omega (arith, within.high);
    }

-- a line gives a version of one list alone
pub version_in-other : (name other line : List ℕ) (version its : ℕ) → All NoSpace name → All NoSpace other → version_in name line ≡ Some version
    → line ≡ version_text other its → name ≡ other
version_in-other name other line version its spaceless other_spaceless read is =
    let says = version_in-some name line version read in
    let whole : version_text name version ≡ version_text other its = sym says.line_is ∙ is in
    let named : name ++ 32 ∷ decimal version ≡ other ++ 32 ∷ decimal its = same_Some _ _ (ap (rest_after (codes "version ")) whole) in
    let cut : (name, decimal version) ≡ (other, decimal its) = same_Some _ _
    (sym (cut_at-append 32 name (decimal version) spaceless) ∙ (ap (cut_at 32) named ∙ cut_at-append 32 other (decimal its) other_spaceless)) in
    ap (λ (parts : List ℕ × List ℕ). parts.0) cut

-- the lines that follow give no version
pub version_in-stop : (name : List ℕ) (depth sorted random cost : ℕ) → version_in name (stop_line depth sorted random cost) ≡ None
unfolding version_in
version_in-stop name depth sorted random cost = refl

pub version_in-answer : (name : List ℕ) (item : Item) → version_in name (answer_line item) ≡ None
unfolding version_in
version_in-answer name item = refl

pub item_in-line : (item : Item) → IsItem item → item_in (answer_line item) ≡ Some item
unfolding item_in
item_in-line item is =
    rw (
      before-decimal top_32 item.object (decimal item.low ++ 32 ∷ decimal item.high) (omega (arith, is.object)) (omega arith),
      before-decimal top_64 item.low (decimal item.high) (omega (arith, is.low)) (omega arith),
      up_to-decimal top_64 item.high (omega (arith, is.high)) (omega arith),
    ) refl

pub record IsItemLine (line : List ℕ) (item : Item) : Type 0 where
  pub line_is : line ≡ answer_line item
  pub fits : IsItem item

pub item_in-some : (line : List ℕ) (item : Item) → item_in line ≡ Some item → IsItemLine line item
unfolding item_in
item_in-some line item h =
    let word = bind_some (rest_after (codes "answer ") line) (λ text. do
      object ← number_before top_32 text
      low ← number_before top_64 object.1
      high ← number_up_to top_64 low.1
      Some (record { object = object.0; low = low.0; high = high })) item h in
    let object = bind_some (number_before top_32 word.0) (λ object. do
      low ← number_before top_64 object.1
      high ← number_up_to top_64 low.1
      Some (record { object = object.0; low = low.0; high = high })) item word.2 in
    let low = bind_some (number_before top_64 object.0.1) (λ low. do
      high ← number_up_to top_64 low.1
      Some (record { object = object.0.0; low = low.0; high = high })) item object.2 in
    let high = bind_some (number_up_to top_64 low.0.1) (λ high. Some (record { object = object.0.0; low = low.0.0; high = high })) item low.2 in
    let read : Item = record { object = object.0.0; low = low.0.0; high = high.0 } in
    let is : read ≡ item = same_Some read item high.2 in
    let first = before-some top_32 word.0 object.0 (omega arith) object.1 in
    let second = before-some top_64 object.0.1 low.0 (omega arith) low.1 in
    let third = up_to-some top_64 high.0 low.0.1 high.1 in
    subst (IsItemLine line) is record {
      line_is = rest_after-some (codes "answer ") line word.0 word.1
          ∙ ap (λ t. codes "answer " ++ t) (first.text_is ∙ ap (λ t. decimal object.0.0 ++ 32 ∷ t) (second.text_is ∙ ap (λ t. decimal low.0.0 ++ 32 ∷ t) (decimal-up_to top_64 high.0 low.0.1 (omega arith) high.1)));
      fits = record { object = omega (arith, first.high); low = omega (arith, second.high); high = omega (arith, third.1) };
    }

pub guarantee_in-line : (g : Guarantee) → IsGuarantee g → guarantee_in (guarantee_line (factor_of g)) ≡ Some g
unfolding guarantee_in
guarantee_in-line g is =
    rw (
      before-decimal top_64 g.p (decimal g.q) (omega (arith, is.p)) (omega arith),
      up_to-decimal top_64 g.q (omega (arith, is.q)) (omega arith),
    ) refl

pub record IsGuaranteeLine (line : List ℕ) (g : Guarantee) : Type 0 where
  pub line_is : line ≡ guarantee_line (factor_of g)
  pub fits : IsGuarantee g

pub guarantee_in-some : (line : List ℕ) (g : Guarantee) → guarantee_in line ≡ Some g → IsGuaranteeLine line g
unfolding guarantee_in
guarantee_in-some line g h =
    let word = bind_some (rest_after (codes "guarantee ") line) (λ text. do
      p ← number_before top_64 text
      q ← number_up_to top_64 p.1
      Some (record { p = p.0; q = q })) g h in
    let p = bind_some (number_before top_64 word.0) (λ p. do
      q ← number_up_to top_64 p.1
      Some (record { p = p.0; q = q })) g word.2 in
    let q = bind_some (number_up_to top_64 p.0.1) (λ q. Some (record { p = p.0.0; q = q })) g p.2 in
    let read : Guarantee = record { p = p.0.0; q = q.0 } in
    let is : read ≡ g = same_Some read g q.2 in
    let first = before-some top_64 word.0 p.0 (omega arith) p.1 in
    let second = up_to-some top_64 q.0 p.0.1 q.1 in
    subst (IsGuaranteeLine line) is record {
      line_is = rest_after-some (codes "guarantee ") line word.0 word.1
          ∙ ap (λ t. codes "guarantee " ++ t) (first.text_is ∙ ap (λ t. decimal p.0.0 ++ 32 ∷ t) (decimal-up_to top_64 q.0 p.0.1 (omega arith) q.1));
      fits = record { p = omega (arith, first.high); q = omega (arith, second.1) };
    }

-- the line of a guarantee gives no version, and is no object of the answer
pub version_in-guarantee : (name : List ℕ) (factor : Factor) → version_in name (guarantee_line factor) ≡ None
unfolding version_in
version_in-guarantee name factor = refl

pub item_in-guarantee : (factor : Factor) → item_in (guarantee_line factor) ≡ None
unfolding item_in
item_in-guarantee factor = refl

pub figures_in-line : (f : Figures) → AreFigures f → figures_in (stop_line f.depth f.sorted f.random f.cost) ≡ Some f
unfolding figures_in
figures_in-line f are =
    rw (
      before-decimal top_64 f.depth (codes "sorted " ++ (decimal f.sorted ++ 32 ∷ (codes "random " ++ (decimal f.random ++ 32 ∷ (codes "cost " ++ decimal f.cost))))) (omega (arith, are.depth)) (omega arith),
      before-decimal top_64 f.sorted (codes "random " ++ (decimal f.random ++ 32 ∷ (codes "cost " ++ decimal f.cost))) (omega (arith, are.sorted)) (omega arith),
      before-decimal top_64 f.random (codes "cost " ++ decimal f.cost) (omega (arith, are.random)) (omega arith),
      up_to-decimal top_64 f.cost (omega (arith, are.cost)) (omega arith),
    ) refl

pub record IsStopLine (line : List ℕ) (f : Figures) : Type 0 where
  pub line_is : line ≡ stop_line f.depth f.sorted f.random f.cost
  pub figures : AreFigures f

-- a word, a number and a space, where what follows them is read on
record Worded {X : Type 0} (word line : List ℕ) (next : ℕ → List ℕ → Option X) (x : X) : Type 0 where
  n : ℕ
  rest : List ℕ
  text : line ≡ word ++ (decimal n ++ 32 ∷ rest)
  high : n ≤ top_64
  goes : next n rest ≡ Some x

worded : {X : Type 0} (word line : List ℕ) (next : ℕ → List ℕ → Option X) (x : X)
    → (rest_after word line >>= λ text. number_before top_64 text >>= λ number. next number.0 number.1) ≡ Some x → Worded word line next x
worded word line next x h =
    let taken = bind_some (rest_after word line) (λ text. number_before top_64 text >>= λ number. next number.0 number.1) x h in
    let number = bind_some (number_before top_64 taken.0) (λ number. next number.0 number.1) x taken.2 in
    let says = before-some top_64 taken.0 number.0 (omega arith) number.1 in
    record {
      n = number.0.0;
      rest = number.0.1;
      text = rest_after-some word line taken.0 taken.1 ∙ ap (λ t. word ++ t) says.text_is;
      high = says.high;
      goes = number.2;
    }

-- the figures that the rest of a line gives, behind the depth, behind the sorted accesses, and behind the random ones
abbrev from_cost : ℕ → ℕ → ℕ → List ℕ → Option Figures
from_cost depth sorted random rest = do
  text ← rest_after (codes "cost ") rest
  cost ← number_up_to top_64 text
  Some (record { depth = depth; sorted = sorted; random = random; cost = cost })

abbrev from_random : ℕ → ℕ → List ℕ → Option Figures
from_random depth sorted rest = do
  text ← rest_after (codes "random ") rest
  random ← number_before top_64 text
  from_cost depth sorted random.0 random.1

abbrev from_sorted : ℕ → List ℕ → Option Figures
from_sorted depth rest = do
  text ← rest_after (codes "sorted ") rest
  sorted ← number_before top_64 text
  from_random depth sorted.0 sorted.1

record CostText (depth sorted random : ℕ) (rest : List ℕ) (f : Figures) : Type 0 where
  depth_is : depth ≡ f.depth
  sorted_is : sorted ≡ f.sorted
  random_is : random ≡ f.random
  text : rest ≡ codes "cost " ++ decimal f.cost
  high : f.cost ≤ top_64

cost_text : (depth sorted random : ℕ) (rest : List ℕ) (f : Figures) → from_cost depth sorted random rest ≡ Some f → CostText depth sorted random rest f
cost_text depth sorted random rest f h =
    let taken = bind_some (rest_after (codes "cost ") rest) (λ text. number_up_to top_64 text >>= λ cost. Some (record { depth = depth; sorted = sorted; random = random; cost = cost })) f h in
    let cost = bind_some (number_up_to top_64 taken.0) (λ cost. Some (record { depth = depth; sorted = sorted; random = random; cost = cost })) f taken.2 in
    let read : Figures = record { depth = depth; sorted = sorted; random = random; cost = cost.0 } in
    let is : read ≡ f = same_Some read f cost.2 in
    let says = up_to-some top_64 cost.0 taken.0 cost.1 in
    subst (CostText depth sorted random rest) is record {
      depth_is = refl;
      sorted_is = refl;
      random_is = refl;
      text = rest_after-some (codes "cost ") rest taken.0 taken.1 ∙ ap (λ t. codes "cost " ++ t) (decimal-up_to top_64 cost.0 taken.0 (omega arith) cost.1);
      high = says.1;
    }

record RandomText (depth sorted : ℕ) (rest : List ℕ) (f : Figures) : Type 0 where
  depth_is : depth ≡ f.depth
  sorted_is : sorted ≡ f.sorted
  text : rest ≡ codes "random " ++ (decimal f.random ++ 32 ∷ (codes "cost " ++ decimal f.cost))
  random : f.random ≤ top_64
  cost : f.cost ≤ top_64

random_text : (depth sorted : ℕ) (rest : List ℕ) (f : Figures) → from_random depth sorted rest ≡ Some f → RandomText depth sorted rest f
random_text depth sorted rest f h =
    let here : Worded (codes "random ") rest (from_cost depth sorted) f = worded (codes "random ") rest (from_cost depth sorted) f h in
    let more : CostText depth sorted here.n here.rest f = cost_text depth sorted here.n here.rest f here.goes in
    record {
      depth_is = more.depth_is;
      sorted_is = more.sorted_is;
      text = here.text ∙ ap (λ n. codes "random " ++ (decimal n ++ 32 ∷ here.rest)) more.random_is ∙ ap (λ t. codes "random " ++ (decimal f.random ++ 32 ∷ t)) more.text;
      random = subst (λ n. n ≤ top_64) more.random_is here.high;
      cost = more.high;
    }

record SortedText (depth : ℕ) (rest : List ℕ) (f : Figures) : Type 0 where
  depth_is : depth ≡ f.depth
  text : rest ≡ codes "sorted " ++ (decimal f.sorted ++ 32 ∷ (codes "random " ++ (decimal f.random ++ 32 ∷ (codes "cost " ++ decimal f.cost))))
  sorted : f.sorted ≤ top_64
  random : f.random ≤ top_64
  cost : f.cost ≤ top_64

sorted_text : (depth : ℕ) (rest : List ℕ) (f : Figures) → from_sorted depth rest ≡ Some f → SortedText depth rest f
sorted_text depth rest f h =
    let here : Worded (codes "sorted ") rest (from_random depth) f = worded (codes "sorted ") rest (from_random depth) f h in
    let more : RandomText depth here.n here.rest f = random_text depth here.n here.rest f here.goes in
    record {
      depth_is = more.depth_is;
      text = here.text ∙ ap (λ n. codes "sorted " ++ (decimal n ++ 32 ∷ here.rest)) more.sorted_is ∙ ap (λ t. codes "sorted " ++ (decimal f.sorted ++ 32 ∷ t)) more.text;
      sorted = subst (λ n. n ≤ top_64) more.sorted_is here.high;
      random = more.random;
      cost = more.cost;
    }

pub figures_in-some : (line : List ℕ) (f : Figures) → figures_in line ≡ Some f → IsStopLine line f
unfolding figures_in
figures_in-some line f h =
    let here : Worded (codes "stop depth ") line from_sorted f = worded (codes "stop depth ") line from_sorted f h in
    let more : SortedText here.n here.rest f = sorted_text here.n here.rest f here.goes in
    let depth : f.depth ≤ top_64 = subst (λ n. n ≤ top_64) more.depth_is here.high in
    record {
      line_is = here.text ∙ ap (λ n. codes "stop depth " ++ (decimal n ++ 32 ∷ here.rest)) more.depth_is ∙ ap (λ t. codes "stop depth " ++ (decimal f.depth ++ 32 ∷ t)) more.text;
      figures = record { depth = omega (arith, depth); sorted = omega (arith, more.sorted); random = omega (arith, more.random); cost = omega (arith, more.cost) };
    }

-- a list by its name, an object and a grade
pub record IsRowText (names : List (List ℕ)) (text : List ℕ) (row : ℕ × ℕ × ℕ) : Type 0 where
  pub text_is : text ≡ name_of names row.0 ++ 32 ∷ (decimal row.1 ++ 32 ∷ decimal row.2)
  pub list : row.0 < length names
  pub object : row.1 < 2 ^ 32
  pub grade : row.2 < 2 ^ 32

pub row_in-text : (names : List (List ℕ)) (list object grade : ℕ) → AreNames names → list < length names → object < 2 ^ 32 → grade < 2 ^ 32
    → row_in names (name_of names list ++ 32 ∷ (decimal object ++ 32 ∷ decimal grade)) ≡ Some (list, object, grade)
unfolding row_in
row_in-text names list object grade are within small_object small_grade =
    rw (
      cut_at-append 32 (name_of names list) (decimal object ++ 32 ∷ decimal grade) (name_of_spaceless names list are within),
      list_named-name_of names list are within,
      before-decimal top_32 object (decimal grade) (omega arith) (omega arith),
      up_to-decimal top_32 grade (omega arith) (omega arith),
    ) refl

pub row_in-some : (names : List (List ℕ)) (text : List ℕ) (row : ℕ × ℕ × ℕ) → row_in names text ≡ Some row → IsRowText names text row
unfolding row_in
row_in-some names text row h =
    let name = bind_some (cut_at 32 text) (λ name. do
      list ← list_named names name.0
      object ← number_before top_32 name.1
      grade ← number_up_to top_32 object.1
      Some (list, object.0, grade)) row h in
    let list = bind_some (list_named names name.0.0) (λ list. do
      object ← number_before top_32 name.0.1
      grade ← number_up_to top_32 object.1
      Some (list, object.0, grade)) row name.2 in
    let object = bind_some (number_before top_32 name.0.1) (λ object. do
      grade ← number_up_to top_32 object.1
      Some (list.0, object.0, grade)) row list.2 in
    let grade = bind_some (number_up_to top_32 object.0.1) (λ grade. Some (list.0, object.0.0, grade)) row object.2 in
    let is : (list.0, object.0.0, grade.0) ≡ row = same_Some _ _ grade.2 in
    let cut = cut_at-some 32 text name.0.0 name.0.1 name.1 in
    let found = list_named-some names name.0.0 list.0 list.1 in
    let first = before-some top_32 name.0.1 object.0 (omega arith) object.1 in
    let second = up_to-some top_32 grade.0 object.0.1 grade.1 in
    subst (IsRowText names text) is record {
      text_is = cut.whole ∙ ap (λ t. t ++ 32 ∷ name.0.1) found.1
          ∙ ap (λ t. name_of names list.0 ++ 32 ∷ t) (first.text_is ∙ ap (λ t. decimal object.0.0 ++ 32 ∷ t) (decimal-up_to top_32 grade.0 object.0.1 (omega arith) grade.1));
      list = found.0;
      object = omega (arith, first.high);
      grade = omega (arith, second.1);
    }

pub access_in-line : (names : List (List ℕ)) (access : Access) → AreNames names → IsAccess (length names) access
    → access_in names (access_line names access) ≡ Some access
unfolding access_in
access_in-line names (Sorted list object grade) are is =
    rw (row_in-text names list object grade are is.list is.object is.grade) refl
access_in-line names (Random list object grade) are is =
    rw (row_in-text names list object grade are is.list is.object is.grade) refl

pub record IsAccessLine (names : List (List ℕ)) (line : List ℕ) (access : Access) : Type 0 where
  pub line_is : line ≡ access_line names access
  pub fits : IsAccess (length names) access

by_word : (names : List (List ℕ)) (line : List ℕ) (access : Access) (o : Option (List ℕ)) → rest_after (codes "s ") line ≡ o
    → access_or o names (do
      text ← rest_after (codes "r ") line
      row ← row_in names text
      Some (Random row.0 row.1 row.2)) ≡ Some access
    → IsAccessLine names line access
by_word names line access (Some text) word h =
    let row = bind_some (row_in names text) (λ row. Some (Sorted row.0 row.1 row.2)) access h in
    let is : Sorted row.0.0 row.0.1 row.0.2 ≡ access = same_Some _ _ row.2 in
    let says = row_in-some names text row.0 row.1 in
    subst (IsAccessLine names line) is record {
      line_is = rest_after-some (codes "s ") line text word ∙ ap (λ t. codes "s " ++ t) says.text_is;
      fits = record { list = says.list; object = says.object; grade = says.grade };
    }
by_word names line access None word h =
    let text = bind_some (rest_after (codes "r ") line) (λ text. do
      row ← row_in names text
      Some (Random row.0 row.1 row.2)) access h in
    let row = bind_some (row_in names text.0) (λ row. Some (Random row.0 row.1 row.2)) access text.2 in
    let is : Random row.0.0 row.0.1 row.0.2 ≡ access = same_Some _ _ row.2 in
    let says = row_in-some names text.0 row.0 row.1 in
    subst (IsAccessLine names line) is record {
      line_is = rest_after-some (codes "r ") line text.0 text.1 ∙ ap (λ t. codes "r " ++ t) says.text_is;
      fits = record { list = says.list; object = says.object; grade = says.grade };
    }

pub access_in-some : (names : List (List ℕ)) (line : List ℕ) (access : Access) → access_in names line ≡ Some access → IsAccessLine names line access
unfolding access_in
access_in-some names line access h = by_word names line access (rest_after (codes "s ") line) refl h

-- the line that ends a certificate is no access
pub access_in-end : (names : List (List ℕ)) → access_in names (codes "end") ≡ None
unfolding access_in
access_in-end names = refl

-- the line of the figures is no object of the answer
pub item_in-stop : (depth sorted random cost : ℕ) → item_in (stop_line depth sorted random cost) ≡ None
unfolding item_in
item_in-stop depth sorted random cost = refl
