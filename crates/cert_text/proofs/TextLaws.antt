-- The lines of a certificate are read again as they were written: they have no control bytes.
use Rattle.std.proofs.Common.{◌≡◌, ◌≢◌, ℕ, zero, suc, ◌<◌, ◌≤◌, ◌^◌, true, false, ◌&&◌, List, [], ◌∷◌, ◌++◌, length, map, codes, nat_le, nat_lt, Option, Some, None, IfSome, option_map, refl, sym, ap, subst, ◌∙◌, ⊎_elim, arith, le-leb}
use Rattle.std.specs.List.{All, list_all}
use Rattle.std.specs.Char.{is_ascii_alphabetic}
use Rattle.std.specs.Fmt.{decimal}
use Rattle.std.proofs.lemmas.Bool.{false≢true, and_parts, leb-true, lt-leb, ne_eqb, cases_lt}
use Rattle.std.proofs.lemmas.List.{get_or_past}
use Rattle.std.proofs.lemmas.List.Folds.{list_all-append}
use Rattle.std.proofs.lemmas.List.Elements.{All-nil, All-cons, All-head, All-tail, All-weaker, All-append, All-map, All-contains, All-get_or, Contains-push}
use Rattle.std.proofs.lemmas.Grind.{flat_map-append}
use Rattle.topk_base.specs.Lines.{lines, unlines, IsPlainLine}
use Rattle.topk_base.specs.Names.{is_name_byte, IsName}
use Rattle.topk_base.proofs.LineLaws.{lines-unlines}
use Rattle.topk_base.proofs.NumberLaws.{decimal_bytes}
use Rattle.ranked_list.specs.declared.item.Item.{Item}
use Rattle.topk_theory.specs.declared.access.Access.{Access}
use Rattle.topk_theory.specs.declared.access.Access.TheVariants.{Sorted, Random}
use Rattle.monotone_fn.specs.Tree.{Tree, Trees, Terms}
use Rattle.monotone_fn.specs.declared.costs.Costs.{Costs}
use Rattle.query_text.specs.Written.{Written, Arguments}
use Rattle.query_text.specs.Pieces.{Piece, piece_text, text_of}
use Rattle.query_text.specs.Shape.{weight_pieces, expr_pieces, argument_pieces, further_pieces, front_pieces, algorithm_pieces, cost_pieces, room_pieces}
use Rattle.query_text.specs.Query.{name_of, named_as, written, arguments, weighted, cost_digits, printed, IsPlain, ArePlain, AreWeighed, IsCount, IsRated, IsLawful}
use Rattle.query_text.specs.declared.query.Query.{Query}
use Rattle.query_text.specs.declared.algorithm.Algorithm.{Algorithm}
use Rattle.query_text.specs.declared.algorithm.Algorithm.TheVariants.{Ta, Nra, Ca, Fa, Theta, Early, Taz}
use Rattle.cert_text.specs.declared.factor.Guarantee.{Guarantee}
use Rattle.cert_text.specs.Guarantee.{factor_of}
use Rattle.cert_text.specs.declared.certificate.Certificate.{Certificate}
use Rattle.cert_text.specs.Certificate.{number_line, query_line, count_line, version_lines, answer_line, guarantee_line, guarantee_lines, guaranteed, stop_line, access_line, access_lines, certificate_lines, IsItem, IsGuarantee, IsAccess, IsCertificate}
use Rattle.cert_text.proofs.LineLaws.{version_text, version_line_some}

-- no byte of the text is a control byte
abbrev pub IsClean : List ℕ → Type 0
IsClean text = list_all (λ byte. nat_le 32 byte) text ≡ true

clean-append : (xs ys : List ℕ) → IsClean xs → IsClean ys → IsClean (xs ++ ys)
clean-append xs ys x y = rw (list_all-append (λ byte. nat_le 32 byte) xs ys, x, y) refl

clean_from_all : (xs : List ℕ) → All (λ byte. 32 ≤ byte) xs → IsClean xs
clean_from_all [] all = refl
clean_from_all (x ∷ xs) all =
    rw (le-leb 32 x (All-head (λ byte. 32 ≤ byte) x xs all), clean_from_all xs (All-tail (λ byte. 32 ≤ byte) x xs all)) refl

all_from_clean : (xs : List ℕ) → IsClean xs → All (λ byte. 32 ≤ byte) xs
all_from_clean [] clean = All-nil (λ byte. 32 ≤ byte)
all_from_clean (x ∷ xs) clean =
    let parts = and_parts (nat_le 32 x) (list_all (λ byte. nat_le 32 byte) xs) clean in
    All-cons (λ byte. 32 ≤ byte) x xs (leb-true 32 x parts.0) (all_from_clean xs parts.1)

-- a clean line is a line that is read as it was written
plain_from_clean : (line : List ℕ) → IsClean line → IsPlainLine line
plain_from_clean line clean =
    let all = all_from_clean line clean in
    record {
      no_end = All-weaker (λ byte. 32 ≤ byte) (λ byte. byte ≢ 10) (λ byte low e. absurd (omega arith)) line all;
      no_return = λ front e.
          let low : 32 ≤ 13 = All-contains (λ byte. 32 ≤ byte) (front ++ 13 ∷ []) 13 (subst (λ t. All (λ byte. 32 ≤ byte) t) e all) (Contains-push front 13) in
          absurd (omega arith);
    }

clean_decimal : (n : ℕ) → n < 2 ^ 64 → IsClean (decimal n)
clean_decimal n small =
    clean_from_all (decimal n) (All-weaker (λ byte. (48 ≤ byte) × (byte ≤ 57)) (λ byte. 32 ≤ byte) (λ byte digit. omega (arith, digit.0)) (decimal n) (decimal_bytes n small))

low_no_letter : (b : ℕ) → b < 32 → is_ascii_alphabetic b ≡ false
low_no_letter b low = rw (lt-leb 65 b (omega arith), lt-leb 97 b (omega arith)) refl

low_no_byte : (b : ℕ) → b < 32 → is_name_byte b ≡ false
low_no_byte b low = rw (lt-leb 48 b (omega arith), lt-leb 65 b (omega arith), lt-leb 97 b (omega arith), ne_eqb b 95 (λ e. absurd (omega arith))) refl

bytes_clean : (xs : List ℕ) → list_all is_name_byte xs ≡ true → IsClean xs
bytes_clean [] h = refl
bytes_clean (x ∷ xs) h =
    let parts = and_parts (is_name_byte x) (list_all is_name_byte xs) h in
    let low : 32 ≤ x = ⊎_elim (λ lt. absurd (false≢true (sym (low_no_byte x lt) ∙ parts.0))) (λ le. le) (cases_lt x 32) in
    rw (le-leb 32 x low, bytes_clean xs parts.1) refl

name_clean : (name : List ℕ) → IsName name → IsClean name
name_clean [] is = refl
name_clean (x ∷ xs) is =
    let parts = and_parts (is_ascii_alphabetic x && list_all is_name_byte xs) (nat_lt (length xs) 32) is in
    let bytes = and_parts (is_ascii_alphabetic x) (list_all is_name_byte xs) parts.0 in
    let low : 32 ≤ x = ⊎_elim (λ lt. absurd (false≢true (sym (low_no_letter x lt) ∙ bytes.0))) (λ le. le) (cases_lt x 32) in
    rw (le-leb 32 x low, bytes_clean xs bytes.1) refl

name_of_clean : (names : List (List ℕ)) → All IsName names → (list : ℕ) → IsClean (name_of names list)
name_of_clean names are list =
    ⊎_elim (λ within. name_clean (name_of names list) (All-get_or IsName names list [] within are))
    (λ past. subst IsClean (sym (get_or_past names list [] past)) refl)
    (cases_lt list (length names))

-- the text of pieces is clean
abbrev AreClean : List Piece → Type 0
AreClean pieces = IsClean (text_of pieces)

pieces-append : (xs ys : List Piece) → AreClean xs → AreClean ys → AreClean (xs ++ ys)
pieces-append xs ys x y = subst IsClean (sym (flat_map-append piece_text xs ys)) (clean-append (text_of xs) (text_of ys) x y)

argument_clean : (args : Arguments) → AreClean (further_pieces args) → AreClean (argument_pieces args)
argument_clean Arguments.no_argument clean = refl
argument_clean (Arguments.argument_then weight first rest) clean = clean

closed_clean : (args : Arguments) → AreClean (further_pieces args) → AreClean (argument_pieces args ++ Piece.fixed (codes ")") ∷ [])
closed_clean args clean = pieces-append (argument_pieces args) (Piece.fixed (codes ")") ∷ []) (argument_clean args clean) refl

further_clean : (weight : Option (List ℕ)) (first : Written) (rest : Arguments) → AreClean (weight_pieces weight) → AreClean (expr_pieces first)
    → AreClean (further_pieces rest)
    → AreClean (weight_pieces weight ++ (expr_pieces first ++ further_pieces rest))
further_clean weight first rest w f r = pieces-append (weight_pieces weight) (expr_pieces first ++ further_pieces rest) w (pieces-append (expr_pieces first) (further_pieces rest) f r)

weight_clean : (w : ℕ) → w < 2 ^ 64 → AreClean (weight_pieces (Some (decimal w)))
weight_clean w small = clean-append (decimal w) (codes "*") (clean_decimal w small) refl

mutual
  tree_clean : (names : List (List ℕ)) → All IsName names → (t : Tree) → IsPlain t → AreClean (expr_pieces (written names t))
  tree_clean names are (Tree.Grade list) plain = clean-append (name_of names list) [] (name_of_clean names are list) refl
  tree_clean names are (Tree.Min ts) plain = closed_clean (arguments names ts) (trees_clean names are ts plain.1)
  tree_clean names are (Tree.Max ts) plain = closed_clean (arguments names ts) (trees_clean names are ts plain.1)
  tree_clean names are (Tree.Sum ts) plain = closed_clean (arguments names ts) (trees_clean names are ts plain.1)
  tree_clean names are (Tree.Median ts) plain = closed_clean (arguments names ts) (trees_clean names are ts plain.1)
  tree_clean names are (Tree.Wsum us) plain = closed_clean (weighted names us) (terms_clean names are us plain.1)

  trees_clean : (names : List (List ℕ)) → All IsName names → (ts : Trees) → ArePlain ts → AreClean (further_pieces (arguments names ts))
  trees_clean names are Trees.no_tree plain = refl
  trees_clean names are (Trees.tree_then t ts) plain =
      further_clean None (written names t) (arguments names ts) refl (tree_clean names are t plain.0) (trees_clean names are ts plain.1)

  terms_clean : (names : List (List ℕ)) → All IsName names → (us : Terms) → AreWeighed us → AreClean (further_pieces (weighted names us))
  terms_clean names are Terms.no_term plain = refl
  terms_clean names are (Terms.term_then w t us) plain =
      further_clean (Some (decimal w)) (written names t) (weighted names us) (weight_clean w (omega (arith, plain.0))) (tree_clean names are t plain.1) (terms_clean names are us plain.2)

count_clean : (n : ℕ) → IsCount n → IsClean (decimal n)
count_clean n is = clean_decimal n (omega (arith, is.1))

algorithm_clean : (algorithm : Algorithm) → IsRated algorithm → AreClean (algorithm_pieces (named_as algorithm))
algorithm_clean Ta rated = refl
algorithm_clean Nra rated = refl
algorithm_clean Ca rated = refl
algorithm_clean Fa rated = refl
algorithm_clean (Theta p q) rated =
    clean-append (decimal p) (codes "/" ++ (decimal q ++ [])) (count_clean p rated.p) (clean-append (decimal q) [] (count_clean q rated.q) refl)
algorithm_clean (Early depth) rated = clean-append (decimal depth) [] (count_clean depth rated) refl
algorithm_clean Taz rated = refl

cost_clean : (cost : Option Costs) → IfSome cost (λ c. IsCount c.sorted × IsCount c.random) → AreClean (cost_pieces (option_map cost_digits cost))
cost_clean None are = refl
cost_clean (Some c) are =
    clean-append (decimal c.sorted) (32 ∷ (decimal c.random ++ [])) (count_clean c.sorted are.0) (clean-append (decimal c.random) [] (count_clean c.random are.1) refl)

room_clean : (room : Option ℕ) → IfSome room IsCount → AreClean (room_pieces (option_map decimal room))
room_clean None is = refl
room_clean (Some n) is = clean-append (decimal n) [] (count_clean n is) refl

printed_clean : (query : Query) → IsLawful query → IsClean (printed query)
unfolding printed
printed_clean query lawful =
    let front = front_pieces (decimal query.k) in
    let tree = expr_pieces (written query.names query.expr) in
    let word = algorithm_pieces (named_as query.algorithm) in
    let cost = cost_pieces (option_map cost_digits query.cost) in
    let room = room_pieces (option_map decimal query.room) in
    pieces-append front (tree ++ (word ++ (cost ++ room))) (clean-append (decimal query.k) (codes " by ") (count_clean query.k lawful.k) refl)
    (pieces-append tree (word ++ (cost ++ room)) (tree_clean query.names lawful.names query.expr lawful.weights)
    (pieces-append word (cost ++ room) (algorithm_clean query.algorithm lawful.algorithm)
    (pieces-append cost room (cost_clean query.cost lawful.cost) (room_clean query.room lawful.room))))

-- the lines of a certificate

version_clean : (name : List ℕ) (version : ℕ) → IsName name → 1 ≤ version → version < 2 ^ 64 → IsClean (version_text name version)
version_clean name version is some small =
    clean-append name (32 ∷ decimal version) (name_clean name is) (clean_decimal version small)

versions_plain : (names : List (List ℕ)) (versions : List ℕ) → All IsName names → All (λ version. version < 2 ^ 64) versions
    → All IsPlainLine (version_lines names versions)
versions_plain [] versions are small = All-nil IsPlainLine
versions_plain (name ∷ names) [] are small = All-nil IsPlainLine
versions_plain (name ∷ names) (zero ∷ versions) are small =
    versions_plain names versions (All-tail IsName name names are) (All-tail (λ version. version < 2 ^ 64) 0 versions small)
versions_plain (name ∷ names) (suc version ∷ versions) are small =
    subst (All IsPlainLine) (ap (λ t. t ++ version_lines names versions) (sym (version_line_some name (suc version) (omega arith))))
    (All-cons IsPlainLine (version_text name (suc version)) (version_lines names versions)
    (plain_from_clean (version_text name (suc version))
    (version_clean name (suc version) (All-head IsName name names are) (omega arith) (All-head (λ version. version < 2 ^ 64) (suc version) versions small)))
    (versions_plain names versions (All-tail IsName name names are) (All-tail (λ version. version < 2 ^ 64) (suc version) versions small)))

answer_clean : (item : Item) → IsItem item → IsClean (answer_line item)
answer_clean item is =
    clean-append (decimal item.object) (32 ∷ (decimal item.low ++ 32 ∷ decimal item.high)) (clean_decimal item.object (omega (arith, is.object)))
    (clean-append (decimal item.low) (32 ∷ decimal item.high) (clean_decimal item.low is.low) (clean_decimal item.high is.high))

guarantee_clean : (g : Guarantee) → IsGuarantee g → IsClean (guarantee_line (factor_of g))
guarantee_clean g is = clean-append (decimal g.p) (32 ∷ decimal g.q) (clean_decimal g.p is.p) (clean_decimal g.q is.q)

guarantee_plain : (its : Option Guarantee) → IfSome its IsGuarantee → All IsPlainLine (guarantee_lines (option_map factor_of its))
guarantee_plain None is = All-nil IsPlainLine
guarantee_plain (Some g) is = All-cons IsPlainLine (guarantee_line (factor_of g)) [] (plain_from_clean (guarantee_line (factor_of g)) (guarantee_clean g is)) (All-nil IsPlainLine)

stop_clean : (depth sorted random cost : ℕ) → depth < 2 ^ 64 → sorted < 2 ^ 64 → random < 2 ^ 64 → cost < 2 ^ 64 → IsClean (stop_line depth sorted random cost)
stop_clean depth sorted random cost d s r c =
    clean-append (decimal depth) (codes " sorted " ++ (decimal sorted ++ (codes " random " ++ (decimal random ++ (codes " cost " ++ decimal cost))))) (clean_decimal depth d)
    (clean-append (decimal sorted) (codes " random " ++ (decimal random ++ (codes " cost " ++ decimal cost))) (clean_decimal sorted s)
    (clean-append (decimal random) (codes " cost " ++ decimal cost) (clean_decimal random r) (clean_decimal cost c)))

row_clean : (names : List (List ℕ)) → All IsName names → (list object grade : ℕ) → object < 2 ^ 32 → grade < 2 ^ 32
    → IsClean (name_of names list ++ 32 ∷ (decimal object ++ 32 ∷ decimal grade))
row_clean names are list object grade o g =
    clean-append (name_of names list) (32 ∷ (decimal object ++ 32 ∷ decimal grade)) (name_of_clean names are list)
    (clean-append (decimal object) (32 ∷ decimal grade) (clean_decimal object (omega arith)) (clean_decimal grade (omega arith)))

access_clean : (names : List (List ℕ)) → All IsName names → (lists : ℕ) (access : Access) → IsAccess lists access → IsClean (access_line names access)
access_clean names are lists (Sorted list object grade) is = row_clean names are list object grade is.object is.grade
access_clean names are lists (Random list object grade) is = row_clean names are list object grade is.object is.grade

lines_plain : (c : Certificate) → IsCertificate c → All IsPlainLine (certificate_lines c)
lines_plain c is =
    let reads = is.query in
    let spells = reads.0 in
    let names = c.query.names in
    let stop = stop_line c.depth c.sorted c.random c.cost in
    let stopped = stop ∷ access_lines names c.accesses in
    let ending = guarantee_lines (guaranteed c) ++ stopped in
    let found = map answer_line c.items ++ ending in
    let ends = All-append IsPlainLine (map (access_line names) c.accesses) (codes "end" ∷ [])
    (All-map IsPlainLine (access_line names) c.accesses
    (All-weaker (IsAccess (length names)) (λ a. IsPlainLine (access_line names a)) (λ a fits. plain_from_clean (access_line names a) (access_clean names spells.lawful.names (length names) a fits)) c.accesses is.accesses))
    (All-cons IsPlainLine (codes "end") [] (plain_from_clean (codes "end") refl) (All-nil IsPlainLine)) in
    let rest = All-append IsPlainLine (map answer_line c.items) ending
    (All-map IsPlainLine answer_line c.items
    (All-weaker IsItem (λ i. IsPlainLine (answer_line i)) (λ i fits. plain_from_clean (answer_line i) (answer_clean i fits)) c.items is.items))
    (All-append IsPlainLine (guarantee_lines (guaranteed c)) stopped (guarantee_plain c.guarantee is.guarantee)
    (All-cons IsPlainLine stop (access_lines names c.accesses) (plain_from_clean stop (stop_clean c.depth c.sorted c.random c.cost is.depth is.sorted is.random is.cost)) ends)) in
    let versioned = version_lines names c.versions ++ found in
    All-cons IsPlainLine (number_line c.line) (query_line c.query ∷ count_line c.count ∷ versioned) (plain_from_clean (number_line c.line) (clean_decimal c.line (omega (arith, is.line_to))))
    (All-cons IsPlainLine (query_line c.query) (count_line c.count ∷ versioned) (plain_from_clean (query_line c.query) (printed_clean c.query spells.lawful))
    (All-cons IsPlainLine (count_line c.count) versioned (plain_from_clean (count_line c.count) (clean_decimal c.count (omega (arith, is.count_to))))
    (All-append IsPlainLine (version_lines names c.versions) found (versions_plain names c.versions spells.lawful.names is.versions) rest)))

-- a certificate's text is read as its lines
pub lines-certificate : (c : Certificate) → IsCertificate c → lines (unlines (certificate_lines c)) ≡ certificate_lines c
lines-certificate c is = lines-unlines (certificate_lines c) (lines_plain c is)
