-- A line becomes one text over lists whose rows are told.
use Rattle.std.proofs.Common.{◌≡◌, ℕ, ◌<◌, List, [], ◌∷◌, ◌++◌, map, length, All, Option, Some, None, option_map, IfSome, is_none, Ok, inl, inr, refl, sym, ap, ◌∙◌, subst, arith}
use Rattle.std.specs.Prelude.{◌⊎◌}
use Rattle.std.specs.List.{flat_map, position}
use Rattle.std.specs.Fmt.{decimal}
use Rattle.std.proofs.lemmas.Option.{same_Some}
use Rattle.std.proofs.lemmas.List.Elements.{All-head, All-tail}
use Rattle.topk_base.specs.Lines.{unlines}
use Rattle.ranked_list.specs.declared.row.Row.{Row}
use Rattle.ranked_list.specs.declared.item.Item.{Item}
use Rattle.monotone_fn.specs.Shape.{list_count}
use Rattle.monotone_fn.specs.Value.{value}
use Rattle.topk_theory.specs.declared.access.Access.{Access}
use Rattle.topk_theory.specs.Transcript.{depth, sorted_count, random_count, cost}
use Rattle.topk_theory.specs.Threshold.{item_objects}
use Rattle.topk_theory.proofs.Agreement.{contains_middle}
use Rattle.topk_theory.proofs.AgreementLists.{member_of_all}
use Rattle.machine_base.specs.declared.answer.Answer.{Answer}
use Rattle.query_text.specs.declared.query.Query.{Query}
use Rattle.query_text.specs.declared.fault.QueryFault.{QueryFault}
use Rattle.query_text.specs.declared.fault.QueryFault.TheVariants.{Memory}
use Rattle.query_text.specs.Costs.{costs_in_force}
use Rattle.query_text.specs.Query.{name_of}
use Rattle.query_text.specs.Reading.{Reads}
use Rattle.cert_text.specs.Guarantee.{guarantee_of, guarantee_by}
use Rattle.cert_text.specs.declared.outcome.Outcome.{Outcome}
use Rattle.cert_text.specs.declared.outcome.Outcome.TheVariants.{Answered, Refused}
use Rattle.cert_text.specs.declared.refusal.Refusal.{Refusal}
use Rattle.cert_text.specs.declared.refusal.Refusal.TheVariants.{UnknownList, NotOpened, TooLarge, CountsDiffer, KAboveCount, NoRandom, NoSorted, RoomFull}
use Rattle.cert_text.specs.declared.certificate.Certificate.{Certificate}
use Rattle.cert_text.specs.Certificate.{certificate_lines}
use Rattle.cert_text.specs.Refusal.{Field, refusal_row, field_word, lists_in, refused_lists}
use Rattle.cert_text.specs.Outcome.{names_of, refused_words, refused_line, outcome_text}
use Rattle.query_core.specs.OneAnswer.{IsOneAnswerWith, one_run_with, one_items_with}
use Rattle.query_admission.specs.View.{AreListed, AreTold, differs, versions_at, method_over, size_stated, count_of}
use Rattle.query_admission.specs.Causes.{QueryLine, Cause, line_causes, text_refusal, Over, ListsGive, RefusesFor, NoneOf, IsFirstOf}
use Rattle.query_admission.specs.Admission.{RefusesLine}
use Rattle.query_admission.specs.Becomes.{AnswersLine, Becomes}
use Rattle.query_admission.specs.declared.lists.ListInfo.{ListInfo}
use Rattle.query_admission.proofs.Admitting.{read_once, lists_once}
use Rattle.catalog_run.specs.Running.{is_answer}
use Rattle.topk_top.proofs.OneReading.{two_splits, fault_once}

-- what holds over the lists of a line's query holds over the same ones
over_both : (x : QueryLine) (P Q : Query → List ListInfo → Type 0) → (h : Over x P) → Over x Q → Q h.query h.lists
over_both x P Q h k =
    let same : k.query ≡ h.query = read_once x.bytes k.query h.query k.reads h.reads in
    let listed : map Some k.lists ≡ map Some h.lists = sym k.listed ∙ ap (λ (q : Query). map x.view.listed q.names) same ∙ h.listed in
    subst (Q h.query) (lists_once k.lists h.lists listed) (subst (λ q. Q q k.lists) same k.holds)

-- a cause gives one refusal
lists_give_once : (q : Query) (lists : List ListInfo) (cause : Cause) (r s : Refusal) → ListsGive q lists cause r → ListsGive q lists cause s → r ≡ s
lists_give_once q lists Cause.not_opened r s (l, is, at) (m, same, place) = is ∙ ap (λ n. NotOpened n) (same_Some l m (sym at ∙ place)) ∙ sym same
lists_give_once q lists Cause.too_large r s (l, n, is, at, size) (m, o, same, place, other) =
    let list : l ≡ m = same_Some l m (sym at ∙ place) in
    let count : n ≡ o = same_Some n o (sym size ∙ ap (λ k. size_stated lists k) list ∙ other) in
    is ∙ (λ i. TooLarge (list i) (count i)) ∙ sym same
lists_give_once q lists Cause.counts_differ r s (n, l, m, is, count, at, size) (o, k, p, same, other, place, large) =
    let first : n ≡ o = same_Some n o (sym count ∙ other) in
    let list : l ≡ k = same_Some l k (sym at ∙ (ap (λ c. position (differs c) lists) first ∙ place)) in
    let second : m ≡ p = same_Some m p (sym size ∙ ap (λ j. size_stated lists j) list ∙ large) in
    is ∙ (λ i. CountsDiffer 0 (first i) (list i) (second i)) ∙ sym same
lists_give_once q lists Cause.k_above_count r s (n, is, count, above) (m, same, other, more) =
    is ∙ ap (λ c. KAboveCount q.k c) (same_Some n m (sym count ∙ other)) ∙ sym same
lists_give_once q lists Cause.no_random r s (l, is, asks, at) (m, same, wants, place) = is ∙ ap (λ n. NoRandom n) (same_Some l m (sym at ∙ place)) ∙ sym same
lists_give_once q lists Cause.no_sorted r s (l, is, at) (m, same, place) = is ∙ ap (λ n. NoSorted n) (same_Some l m (sym at ∙ place)) ∙ sym same
lists_give_once q lists Cause.many_queries r s h k = absurd h
lists_give_once q lists Cause.text r s h k = absurd h
lists_give_once q lists Cause.unknown_list r s h k = absurd h
lists_give_once q lists Cause.room_full r s h k = absurd h

text_gives : (f g : QueryFault) (r s : Refusal) → text_refusal f ≡ Some r → text_refusal g ≡ Some s → (f ≡ Memory) ⊎ ((g ≡ Memory) ⊎ (f ≡ g)) → r ≡ s
text_gives f g r s e d (inl none) = let no : text_refusal Memory ≡ Some r = subst (λ x. text_refusal x ≡ Some r) none e in absurd cc
text_gives f g r s e d (inr (inl none)) = let no : text_refusal Memory ≡ Some s = subst (λ x. text_refusal x ≡ Some s) none d in absurd cc
text_gives f g r s e d (inr (inr same)) = same_Some r s (sym e ∙ ap text_refusal same ∙ d)

gives_once : (x : QueryLine) (cause : Cause) (r s : Refusal) → RefusesFor x cause r → RefusesFor x cause s → r ≡ s
gives_once x Cause.many_queries r s h k = h.0 ∙ sym k.0
gives_once x Cause.text r s (f, e, reads) (g, d, other) = text_gives f g r s e d (fault_once x.bytes f g reads other)
gives_once x Cause.unknown_list r s h k =
    let same : k.query ≡ h.query = read_once x.bytes k.query h.query k.reads h.reads in
    let at = h.holds in
    let place = subst (λ (q : Query). (list : ℕ) × (s ≡ UnknownList list) × (position is_none (map x.view.listed q.names) ≡ Some list)) same k.holds in
    at.1 ∙ ap (λ n. UnknownList n) (same_Some at.0 place.0 (sym at.2 ∙ place.2)) ∙ sym place.1
gives_once x Cause.not_opened r s h k =
    lists_give_once h.query h.lists Cause.not_opened r s h.holds (over_both x _ (λ q lists. ListsGive q lists Cause.not_opened s) h k)
gives_once x Cause.too_large r s h k =
    lists_give_once h.query h.lists Cause.too_large r s h.holds (over_both x _ (λ q lists. ListsGive q lists Cause.too_large s) h k)
gives_once x Cause.counts_differ r s h k =
    lists_give_once h.query h.lists Cause.counts_differ r s h.holds (over_both x _ (λ q lists. ListsGive q lists Cause.counts_differ s) h k)
gives_once x Cause.k_above_count r s h k =
    lists_give_once h.query h.lists Cause.k_above_count r s h.holds (over_both x _ (λ q lists. ListsGive q lists Cause.k_above_count s) h k)
gives_once x Cause.no_random r s h k =
    lists_give_once h.query h.lists Cause.no_random r s h.holds (over_both x _ (λ q lists. ListsGive q lists Cause.no_random s) h k)
gives_once x Cause.no_sorted r s h k =
    lists_give_once h.query h.lists Cause.no_sorted r s h.holds (over_both x _ (λ q lists. ListsGive q lists Cause.no_sorted s) h k)
gives_once x Cause.room_full r s h k =
    let same : k.query ≡ h.query = read_once x.bytes k.query h.query k.reads h.reads in
    let one = h.holds in
    let other = k.holds in
    let stated : h.query.room ≡ Some other.2 = ap (λ (q : Query). q.room) (sym same) ∙ other.6.stated in
    one.3 ∙ ap (λ n. RoomFull n) (same_Some one.2 other.2 (sym one.6.stated ∙ stated)) ∙ sym other.3

-- the first of the causes that holds is one
none_before : (x : QueryLine) (front : List Cause) (cause : Cause) (rest : List Cause) (r : Refusal) → NoneOf (RefusesFor x) (front ++ cause ∷ rest) → RefusesFor x cause r → ⊥
none_before x front cause rest r none gives =
    absurd (member_of_all (λ (c : Cause). (refusal : Refusal) → ¬ RefusesFor x c refusal) (front ++ cause ∷ rest) cause none (contains_middle front cause rest) r gives)

first_once : (x : QueryLine) (causes : List Cause) (r s : Refusal) → IsFirstOf (RefusesFor x) causes r → IsFirstOf (RefusesFor x) causes s → r ≡ s
first_once x causes r s f g = elim (two_splits f.earlier g.earlier f.cause g.cause f.later g.later (sym f.order ∙ g.order)) [
  | inl same ↦ gives_once x f.cause r s f.gives (subst (λ c. RefusesFor x c s) (sym same.1) g.gives)
  | inr (inl on) ↦ absurd (none_before x f.earlier f.cause on.rest r (subst (NoneOf (RefusesFor x)) on.is g.first) f.gives)
  | inr (inr on) ↦ absurd (none_before x g.earlier g.cause on.rest s (subst (NoneOf (RefusesFor x)) on.is f.first) g.gives)
]

not_refused : (x : QueryLine) (causes : List Cause) (r : Refusal) → IsFirstOf (RefusesFor x) causes r → NoneOf (RefusesFor x) causes → ⊥
not_refused x causes r f none = none_before x f.earlier f.cause f.later r (subst (NoneOf (RefusesFor x)) f.order none) f.gives

-- the words of a refusal don't depend on whether its query was read
abbrev ReadAs : List ℕ → Option Query → Type 0
ReadAs bytes query = IfSome query (λ q. Reads bytes (Ok q))

name_same : (bytes : List ℕ) (p q : Option Query) → ReadAs bytes p → ReadAs bytes q → (list : ℕ) → list < length (names_of p) → list < length (names_of q)
    → name_of (names_of p) list ≡ name_of (names_of q) list
name_same bytes None q a b list l m = absurd (omega (arith, l))
name_same bytes (Some p) None a b list l m = absurd (omega (arith, m))
name_same bytes (Some p) (Some q) a b list l m = ap (λ (z : Query). name_of z.names list) (read_once bytes p q a b)

words_same : (bytes : List ℕ) (p q : Option Query) → ReadAs bytes p → ReadAs bytes q → (fields : List Field)
    → All (λ list. list < length (names_of p)) (flat_map lists_in fields) → All (λ list. list < length (names_of q)) (flat_map lists_in fields)
    → map (field_word (names_of p)) fields ≡ map (field_word (names_of q)) fields
words_same bytes p q a b [] l m = refl
words_same bytes p q a b (Field.number n ∷ fields) l m = ap (λ ws. decimal n ∷ ws) (words_same bytes p q a b fields l m)
words_same bytes p q a b (Field.list list ∷ fields) l m =
    ap (λ w. w ∷ map (field_word (names_of p)) fields) (name_same bytes p q a b list (All-head (λ n. n < length (names_of p)) list _ l) (All-head (λ n. n < length (names_of q)) list _ m))
    ∙ ap (λ ws. name_of (names_of q) list ∷ ws)
    (words_same bytes p q a b fields (All-tail (λ n. n < length (names_of p)) list _ l) (All-tail (λ n. n < length (names_of q)) list _ m))

refused_text : (number : ℕ) (query : Option Query) (count : ℕ) (versions : List ℕ) (r : Refusal)
    → outcome_text number query count versions (Refused r) ≡ unlines (refused_line number (names_of query) r ∷ [])
unfolding outcome_text
refused_text number None count versions r = refl
refused_text number (Some query) count versions r = refl

refused_once : (x : QueryLine) (causes : List Cause) (number : ℕ) (p q : Option Query) (c d : ℕ) (v w : List ℕ) (r s : Refusal) → RefusesLine causes x r p
    → RefusesLine causes x s q → outcome_text number p c v (Refused r) ≡ outcome_text number q d w (Refused s)
refused_once x causes number p q c d v w r s one two =
    let same : s ≡ r = first_once x causes s r two.first one.first in
    let named : All (λ list. list < length (names_of q)) (refused_lists r) = subst (λ z. All (λ list. list < length (names_of q)) (refused_lists z)) same two.named in
    let words = words_same x.bytes p q one.reads two.reads (refusal_row r).1 one.named named in
    refused_text number p c v r ∙ ap (λ ws. unlines (refused_words number (refusal_row r).0 ws ∷ [])) words ∙ sym (refused_text number q d w r)
    ∙ ap (λ z. outcome_text number q d w (Refused z)) (sym same)

-- an answer is certified by its items and its accesses
certified : ℕ → Query → ℕ → List ℕ → List Item → ℕ → List Access → Certificate
certified line query count versions items lists accesses = record {
  line = line;
  query = query;
  count = count;
  versions = versions;
  items = items;
  guarantee = option_map guarantee_of (guarantee_by query.algorithm (value query.expr) lists accesses (item_objects items));
  depth = depth lists accesses;
  sorted = sorted_count accesses;
  random = random_count accesses;
  cost = cost (costs_in_force query).sorted (costs_in_force query).random accesses;
  accesses = accesses;
}

answered_text : (number : ℕ) (query : Query) (count : ℕ) (versions : List ℕ) (a : Answer)
    → outcome_text number (Some query) count versions (Answered a)
    ≡ unlines (certificate_lines (certified number query count versions a.items a.transcript.lists a.transcript.accesses))
unfolding outcome_text certified
answered_text number query count versions a = refl

-- the rows of a line's lists are told, where nothing refuses it
pub record HasRows (x : QueryLine) : Type 0 where
  pub rows : (q : Query) (lists : List ListInfo) → NoneOf (RefusesFor x) line_causes → Reads x.bytes (Ok q) → AreListed x.view q lists
      → (D : List (List Row)) × AreTold x.view q D

answered_once : (x : QueryLine) (number : ℕ) (p q : Query) (c d : ℕ) (v w : List ℕ) (a b : Answer) → HasRows x → AnswersLine x p c v a
    → AnswersLine x q d w b → outcome_text number (Some p) c v (Answered a) ≡ outcome_text number (Some q) d w (Answered b)
answered_once x number p q c d v w a b has one two =
    let query : p ≡ q = read_once x.bytes p q one.reads two.reads in
    let listed : map Some one.lists ≡ map Some two.lists = sym one.listed ∙ ap (λ (z : Query). map x.view.listed z.names) query ∙ two.listed in
    let count : c ≡ d = same_Some c d (sym one.counted ∙ ap count_of (lists_once one.lists two.lists listed) ∙ two.counted) in
    let versions : v ≡ w = sym one.opened ∙ ap versions_at (lists_once one.lists two.lists listed) ∙ two.opened in
    let told = has.rows p one.lists one.unrefused one.reads one.listed in
    let places : one.lists ≡ two.lists = lists_once one.lists two.lists listed in
    let here : IsOneAnswerWith (method_over p one.lists) p told.0 a = one.right.every told.0 (one.agrees told.0 told.1) in
    let there : IsOneAnswerWith (method_over q two.lists) q told.0 b = two.right.every told.0 (two.agrees told.0 (subst (λ z. AreTold x.view z told.0) query told.1)) in
    let items : a.items ≡ b.items = here.items ∙ (λ i. one_items_with (method_over (query i) (places i)) (query i) told.0) ∙ sym there.items in
    let accesses : a.transcript.accesses ≡ b.transcript.accesses = here.run ∙ (λ i. one_run_with (method_over (query i) (places i)) (query i) told.0) ∙ sym there.run in
    let lists : a.transcript.lists ≡ b.transcript.lists = one.right.lists ∙ ap (λ (z : Query). list_count z.expr) query ∙ sym two.right.lists in
    answered_text number p c v a
    ∙ (λ i. unlines (certificate_lines (certified number (query i) (count i) (versions i) (items i) (lists i) (accesses i)))) ∙ sym (answered_text number q d w b)

-- the text of a line over lists that are told, and whether it is an answer
pub becomes_once : (x : QueryLine) (number : ℕ) (p q : Option Query) (c d : ℕ) (v w : List ℕ) (o u : Outcome) → HasRows x → Becomes x p c v o
    → Becomes x q d w u → (outcome_text number p c v o ≡ outcome_text number q d w u) × (is_answer o ≡ is_answer u)
becomes_once x number p q c d v w (Refused r) (Refused s) has one two = (refused_once x line_causes number p q c d v w r s one two, refl)
becomes_once x number p None c d v w (Refused r) (Answered b) has one two = absurd two
becomes_once x number p (Some q) c d v w (Refused r) (Answered b) has one two = absurd (not_refused x line_causes r one.first two.unrefused)
becomes_once x number None q c d v w (Answered a) (Refused s) has one two = absurd one
becomes_once x number (Some p) q c d v w (Answered a) (Refused s) has one two = absurd (not_refused x line_causes s two.first one.unrefused)
becomes_once x number None q c d v w (Answered a) (Answered b) has one two = absurd one
becomes_once x number (Some p) None c d v w (Answered a) (Answered b) has one two = absurd two
becomes_once x number (Some p) (Some q) c d v w (Answered a) (Answered b) has one two = (answered_once x number p q c d v w a b has one two, refl)
