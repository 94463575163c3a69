-- Lines over lists that say the same of themselves come to the same.
use Rattle.std.proofs.Common.{◌≡◌, ℕ, zero, suc, ◌+◌, ◌<◌, Bool, not, nat_lt, cond, is_some, List, [], ◌∷◌, ◌++◌, Contains, map, length, Option, None, Some, is_none, refl, sym, ap, ◌∙◌, subst, arith}
use Rattle.std.specs.List.{position, position_or_len}
use Rattle.std.specs.Prelude.{Ok}
use Rattle.std.proofs.lemmas.List.{length-map}
use Rattle.std.proofs.lemmas.List.Elements.{All-from_recursion, Contains-append_left}
use Rattle.topk_theory.proofs.AgreementLists.{contains_here, contains_nil, all_from_members, member_of_all}
use Rattle.ranked_list.specs.declared.row.Row.{Row}
use Rattle.query_text.specs.declared.algorithm.Algorithm.{Algorithm}
use Rattle.query_text.specs.declared.algorithm.Algorithm.TheVariants.{Ta, Nra, Ca, Fa, Theta, Early, Taz}
use Rattle.query_text.specs.declared.query.Query.{Query}
use Rattle.query_text.specs.Reading.{Reads}
use Rattle.cert_text.specs.declared.refusal.Refusal.{Refusal}
use Rattle.cert_text.specs.declared.refusal.Refusal.TheVariants.{ManyQueries, RoomFull}
use Rattle.cert_text.specs.declared.outcome.Outcome.{Outcome}
use Rattle.cert_text.specs.declared.outcome.Outcome.TheVariants.{Answered, Refused}
use Rattle.query_core.specs.Methods.{method_with}
use Rattle.query_core.specs.OneAnswer.{IsOverRoomWith, IsAnsweredWith}
use Rattle.query_admission.specs.View.{View, AreTold, is_closed, is_large, differs, lacks_random, lacks_sorted, offers_sorted, unread_list, sorted_at, method_over, versions_at, size_stated, count_of}
use Rattle.query_admission.specs.Causes.{most_queries, Cause, admission_causes, Over, ListsGive, RefusesFor, NoneOf, IsFirstOf, line_over}
use Rattle.query_admission.specs.Admission.{RefusesLine}
use Rattle.query_admission.specs.Becomes.{Becomes}
use Rattle.query_admission.specs.declared.lists.ListInfo.{ListInfo}

-- what a list says of itself, without the number of its source
abbrev pub plain : ListInfo → ListInfo
plain list = record list { source = 0 }

-- where tests pass at the same places they first pass at the same place
first_same : {A B : Type 0} (p : A → Bool) (q : B → Bool) (xs : List A) (ys : List B) → map p xs ≡ map q ys → position_or_len p xs ≡ position_or_len q ys
first_same p q [] [] e = refl
first_same p q [] (y ∷ ys) e = absurd cc
first_same p q (x ∷ xs) [] e = absurd cc
first_same p q (x ∷ xs) (y ∷ ys) e =
    let here : p x ≡ q y = cc in
    let rest : map p xs ≡ map q ys = cc in
    ap (λ b. cond (not b) (1 + position_or_len p xs) 0) here ∙ ap (λ n. cond (not (q y)) (1 + n) 0) (first_same p q xs ys rest)

position_same : {A B : Type 0} (p : A → Bool) (q : B → Bool) (xs : List A) (ys : List B) → map p xs ≡ map q ys → position p xs ≡ position q ys
position_same p q xs ys e =
    let long : length xs ≡ length ys = sym (length-map xs p) ∙ ap (length {A = Bool}) e ∙ length-map ys q in
    ap (λ n. cond {A = Option ℕ} (nat_lt n (length xs)) (Some n) None) (first_same p q xs ys e)
    ∙ ap (λ l. cond {A = Option ℕ} (nat_lt (position_or_len q ys) l) (Some (position_or_len q ys)) None) long

-- a test and a size that don't look at the number of the source
through_plain : (test : ListInfo → Bool) (xs : List ListInfo) → ((l : ListInfo) → test (plain l) ≡ test l) → map test (map plain xs) ≡ map test xs
through_plain test [] same = refl
through_plain test (x ∷ xs) same = ap (λ b. b ∷ map test (map plain xs)) (same x) ∙ ap (λ bs. test x ∷ bs) (through_plain test xs same)

tested_same : (test : ListInfo → Bool) (xs ys : List ListInfo) → ((l : ListInfo) → test (plain l) ≡ test l) → map plain xs ≡ map plain ys
    → position test xs ≡ position test ys
tested_same test xs ys same e = position_same test test xs ys (sym (through_plain test xs same) ∙ ap (map test) e ∙ through_plain test ys same)

size_plain : (xs : List ListInfo) (place : ℕ) → size_stated (map plain xs) place ≡ size_stated xs place
size_plain [] place = refl
size_plain (x ∷ xs) zero = refl
size_plain (x ∷ xs) (suc place) = size_plain xs place

size_same : (xs ys : List ListInfo) (place : ℕ) → map plain xs ≡ map plain ys → size_stated xs place ≡ size_stated ys place
size_same xs ys place e = sym (size_plain xs place) ∙ ap (λ ls. size_stated ls place) e ∙ size_plain ys place

versions_plain : (xs : List ListInfo) → versions_at (map plain xs) ≡ versions_at xs
versions_plain [] = refl
versions_plain (x ∷ xs) = ap (λ vs. x.version ∷ vs) (versions_plain xs)

versions_same : (xs ys : List ListInfo) → map plain xs ≡ map plain ys → versions_at xs ≡ versions_at ys
versions_same xs ys e = sym (versions_plain xs) ∙ ap versions_at e ∙ versions_plain ys

sorted_plain : (xs : List ListInfo) → sorted_at (map plain xs) ≡ sorted_at xs
sorted_plain [] = refl
sorted_plain (x ∷ xs) = ap (λ bs. x.sorted ∷ bs) (sorted_plain xs)

method_same : (q : Query) (xs ys : List ListInfo) → map plain xs ≡ map plain ys → method_over q xs ≡ method_over q ys
method_same q xs ys e = ap (method_with q.algorithm) (sym (sorted_plain xs) ∙ ap sorted_at e ∙ sorted_plain ys)

unread_same : (a : Algorithm) (xs ys : List ListInfo) → map plain xs ≡ map plain ys → unread_list a xs ≡ unread_list a ys
unread_same Ta xs ys e = tested_same lacks_sorted xs ys (λ l. refl) e
unread_same Nra xs ys e = tested_same lacks_sorted xs ys (λ l. refl) e
unread_same Ca xs ys e = tested_same lacks_sorted xs ys (λ l. refl) e
unread_same Fa xs ys e = tested_same lacks_sorted xs ys (λ l. refl) e
unread_same (Theta p q) xs ys e = tested_same lacks_sorted xs ys (λ l. refl) e
unread_same (Early depth) xs ys e = tested_same lacks_sorted xs ys (λ l. refl) e
unread_same Taz xs ys e = ap (λ (o : Option ℕ). cond {A = Option ℕ} (is_some o) None (Some 0)) (tested_same offers_sorted xs ys (λ l. refl) e)

-- what lists give that say the same
lists_give : (q : Query) (xs ys : List ListInfo) → map plain xs ≡ map plain ys → (c : Cause) (refusal : Refusal) → ListsGive q xs c refusal
    → ListsGive q ys c refusal
lists_give q xs ys e Cause.many_queries refusal g = g
lists_give q xs ys e Cause.text refusal g = g
lists_give q xs ys e Cause.unknown_list refusal g = g
lists_give q xs ys e Cause.not_opened refusal g = (g.0, g.1, sym (tested_same is_closed xs ys (λ l. refl) e) ∙ g.2)
lists_give q xs ys e Cause.too_large refusal g = (g.0, g.1, g.2, sym (tested_same is_large xs ys (λ l. refl) e) ∙ g.3, sym (size_same xs ys g.0 e) ∙ g.4)
lists_give q xs ys e Cause.counts_differ refusal g =
    (g.0, g.1, g.2, g.3, sym (size_same xs ys 0 e) ∙ g.4, sym (tested_same (differs g.0) xs ys (λ l. refl) e) ∙ g.5, sym (size_same xs ys g.1 e) ∙ g.6)
lists_give q xs ys e Cause.k_above_count refusal g = (g.0, g.1, sym (size_same xs ys 0 e) ∙ g.2, g.3)
lists_give q xs ys e Cause.no_random refusal g = (g.0, g.1, g.2, sym (tested_same lacks_random xs ys (λ l. refl) e) ∙ g.3)
lists_give q xs ys e Cause.no_sorted refusal g = (g.0, g.1, sym (unread_same q.algorithm xs ys e) ∙ g.2)
lists_give q xs ys e Cause.room_full refusal g = g

-- lists that are known elsewhere, and say the same
pub record AlikeLists (known : List ℕ → Option ListInfo) (q : Query) (xs : List ListInfo) : Type 0 where
  pub lists : List ListInfo
  pub there : map known q.names ≡ map Some lists
  pub same : map plain xs ≡ map plain lists

-- the lists that the query of these bytes names are known here and there, and say the same
pub record Alike (bytes : List ℕ) (here there : List ℕ → Option ListInfo) : Type 0 where
  pub known : (q : Query) → Reads bytes (Ok q) → map is_none (map here q.names) ≡ map is_none (map there q.names)
  pub lists : (q : Query) (xs : List ListInfo) → Reads bytes (Ok q) → map here q.names ≡ map Some xs → AlikeLists there q xs

-- the rows of lists are told the same where a cause looks at them
abbrev pub SameTold : View → View → Cause → Type 0
SameTold V W Cause.room_full = V.told ≡ W.told
SameTold V W other = Unit {0}

over_alike : (V W : View) (number : ℕ) (bytes : List ℕ) → Alike bytes V.listed W.listed → (P R : Query → List ListInfo → Type 0)
    → ((q : Query) (xs ys : List ListInfo) → map plain xs ≡ map plain ys → P q xs → R q ys)
    → Over (line_over V number bytes) P → Over (line_over W number bytes) R
over_alike V W number bytes alike P R f over =
    let l = alike.lists over.query over.lists over.reads over.listed in
    record { query = over.query; lists = l.lists; reads = over.reads; listed = l.there; holds = f over.query over.lists l.lists l.same over.holds }

-- what a cause gives
gives_alike : (V W : View) (number : ℕ) (bytes : List ℕ) → Alike bytes V.listed W.listed → (c : Cause) → SameTold V W c → (refusal : Refusal)
    → RefusesFor (line_over V number bytes) c refusal → RefusesFor (line_over W number bytes) c refusal
gives_alike V W number bytes alike Cause.many_queries told refusal g = g
gives_alike V W number bytes alike Cause.text told refusal g = g
gives_alike V W number bytes alike Cause.unknown_list told refusal g =
    let q = g.query in
    let unknown = sym (position_same is_none is_none (map V.listed q.names) (map W.listed q.names) (alike.known q g.reads)) ∙ g.holds.2 in
    record { query = q; reads = g.reads; holds = (g.holds.0, g.holds.1, unknown) }
gives_alike V W number bytes alike Cause.not_opened told refusal g =
    over_alike V W number bytes alike (λ q xs. ListsGive q xs Cause.not_opened refusal) (λ q xs. ListsGive q xs Cause.not_opened refusal)
    (λ q xs ys e h. lists_give q xs ys e Cause.not_opened refusal h) g
gives_alike V W number bytes alike Cause.too_large told refusal g =
    over_alike V W number bytes alike (λ q xs. ListsGive q xs Cause.too_large refusal) (λ q xs. ListsGive q xs Cause.too_large refusal)
    (λ q xs ys e h. lists_give q xs ys e Cause.too_large refusal h) g
gives_alike V W number bytes alike Cause.counts_differ told refusal g =
    over_alike V W number bytes alike (λ q xs. ListsGive q xs Cause.counts_differ refusal) (λ q xs. ListsGive q xs Cause.counts_differ refusal)
    (λ q xs ys e h. lists_give q xs ys e Cause.counts_differ refusal h) g
gives_alike V W number bytes alike Cause.k_above_count told refusal g =
    over_alike V W number bytes alike (λ q xs. ListsGive q xs Cause.k_above_count refusal) (λ q xs. ListsGive q xs Cause.k_above_count refusal)
    (λ q xs ys e h. lists_give q xs ys e Cause.k_above_count refusal h) g
gives_alike V W number bytes alike Cause.no_random told refusal g =
    over_alike V W number bytes alike (λ q xs. ListsGive q xs Cause.no_random refusal) (λ q xs. ListsGive q xs Cause.no_random refusal)
    (λ q xs ys e h. lists_give q xs ys e Cause.no_random refusal h) g
gives_alike V W number bytes alike Cause.no_sorted told refusal g =
    over_alike V W number bytes alike (λ q xs. ListsGive q xs Cause.no_sorted refusal) (λ q xs. ListsGive q xs Cause.no_sorted refusal)
    (λ q xs ys e h. lists_give q xs ys e Cause.no_sorted refusal h) g
gives_alike V W number bytes alike Cause.room_full told refusal g =
    over_alike V W number bytes alike
    (λ q xs. (D : List (List Row)) × (n room : ℕ) × (refusal ≡ RoomFull room) × AreTold V q D × (count_of xs ≡ Some n)
    × IsOverRoomWith (method_over q xs) q n D room)
    (λ q xs. (D : List (List Row)) × (n room : ℕ) × (refusal ≡ RoomFull room) × AreTold W q D × (count_of xs ≡ Some n)
    × IsOverRoomWith (method_over q xs) q n D room)
    (λ q xs ys e h. (
      h.0,
      h.1,
      h.2,
      h.3,
      subst (λ t. map t q.names ≡ map Some h.0) told h.4,
      sym (size_same xs ys 0 e) ∙ h.5,
      subst (λ method. IsOverRoomWith method q h.1 h.0 h.2) (method_same q xs ys e) h.6,
    )) g

-- where none of some causes holds here none holds there
pub none_alike : (V W : View) (number : ℕ) (bytes : List ℕ) → Alike bytes W.listed V.listed → (causes : List Cause)
    → ((c : Cause) → Contains causes c → SameTold W V c)
    → NoneOf (RefusesFor (line_over V number bytes)) causes → NoneOf (RefusesFor (line_over W number bytes)) causes
none_alike V W number bytes alike causes told none =
    all_from_members (λ c. (refusal : Refusal) → ¬ RefusesFor (line_over W number bytes) c refusal) causes
    (λ c m refusal g. member_of_all (λ (d : Cause). (refusal : Refusal) → ¬ RefusesFor (line_over V number bytes) d refusal) causes c none m refusal (gives_alike W V number bytes alike c (told c m) refusal g))

-- the causes before a run don't look at rows
pub unseen_rows : (V W : View) (c : Cause) → Contains admission_causes c → SameTold V W c
unseen_rows V W c m =
    member_of_all (SameTold V W) admission_causes c
    (All-from_recursion (SameTold V W) admission_causes (tt, (tt, (tt, (tt, (tt, (tt, (tt, (tt, (tt, tt)))))))))) m

-- the first cause
pub refused_alike : (V W : View) (number : ℕ) (bytes : List ℕ) → Alike bytes V.listed W.listed → Alike bytes W.listed V.listed → (causes : List Cause)
    → ((c : Cause) → Contains causes c → SameTold V W c) → ((c : Cause) → Contains causes c → SameTold W V c) → (refusal : Refusal) (query : Option Query)
    → RefusesLine causes (line_over V number bytes) refusal query → RefusesLine causes (line_over W number bytes) refusal query
refused_alike V W number bytes to from causes told back refusal query refused =
    let f = refused.first in
    let in_front : (c : Cause) → Contains f.earlier c → Contains causes c =
    λ c m. subst (λ cs. Contains cs c) (sym f.order) (Contains-append_left f.earlier (f.cause ∷ f.later) c m) in
    let here : Contains causes f.cause = subst (λ cs. Contains cs f.cause) (sym f.order) (contains_behind f.earlier f.cause f.later) in
    record {
      first = record {
        cause = f.cause;
        earlier = f.earlier;
        later = f.later;
        order = f.order;
        gives = gives_alike V W number bytes to f.cause (told f.cause here) refusal f.gives;
        first = none_alike V W number bytes from f.earlier (λ c m. back c (in_front c m)) f.first;
      };
      reads = refused.reads;
      named = refused.named;
    }
  where
    contains_behind : (front : List Cause) (c : Cause) (rest : List Cause) → Contains (front ++ c ∷ rest) c
    contains_behind [] c rest = contains_here c rest
    contains_behind (d ∷ front) c rest = let m = contains_behind front c rest in (suc m.0, omega (arith, m.1), m.2)

-- a line that is one too many is refused for that alone
pub first_is_many : (V : View) (number : ℕ) (bytes : List ℕ) (refusal : Refusal) → most_queries < number
    → (f : IsFirstOf (RefusesFor (line_over V number bytes)) admission_causes refusal) → Cause.many_queries ≡ f.cause
first_is_many V number bytes refusal late f = go f.earlier f.cause f.later f.order f.first
  where
    go : (earlier : List Cause) (cause : Cause) (later : List Cause) → admission_causes ≡ earlier ++ cause ∷ later
        → NoneOf (RefusesFor (line_over V number bytes)) earlier → Cause.many_queries ≡ cause
    go [] cause later order none = cc
    go (c ∷ cs) cause later order none =
        let same : Cause.many_queries ≡ c = cc in
        absurd (member_of_all (λ (d : Cause). (r : Refusal) → ¬ RefusesFor (line_over V number bytes) d r) (c ∷ cs) c none (contains_here c cs) (ManyQueries most_queries)
        (subst (λ (d : Cause). RefusesFor (line_over V number bytes) d (ManyQueries most_queries)) same (refl, late)))

pub late_refused : (V W : View) (number : ℕ) (bytes : List ℕ) (refusal : Refusal) (query : Option Query) → most_queries < number
    → RefusesLine admission_causes (line_over V number bytes) refusal query → RefusesLine admission_causes (line_over W number bytes) refusal query
late_refused V W number bytes refusal query late refused =
    let f = refused.first in
    let many : RefusesFor (line_over V number bytes) Cause.many_queries refusal =
    subst (λ (d : Cause). RefusesFor (line_over V number bytes) d refusal) (sym (first_is_many V number bytes refusal late f)) f.gives in
    record {
      first = record {
        cause = Cause.many_queries;
        earlier = [];
        later = Cause.text ∷ Cause.unknown_list ∷ Cause.not_opened ∷ Cause.too_large ∷ Cause.counts_differ ∷ Cause.k_above_count ∷ Cause.no_random
            ∷ Cause.no_sorted ∷ [];
        order = refl;
        gives = many;
        first = all_from_members (λ c. (r : Refusal) → ¬ RefusesFor (line_over W number bytes) c r) [] (λ c m. absurd (contains_nil c m));
      };
      reads = refused.reads;
      named = refused.named;
    }

-- what becomes of a line
pub becomes_alike : (V W : View) (number : ℕ) (bytes : List ℕ) → Alike bytes V.listed W.listed → Alike bytes W.listed V.listed
    → ((c : Cause) → SameTold V W c) → ((c : Cause) → SameTold W V c) → (query : Option Query) (count : ℕ) (versions : List ℕ) (outcome : Outcome)
    → Becomes (line_over V number bytes) query count versions outcome → Becomes (line_over W number bytes) query count versions outcome
becomes_alike V W number bytes to from told back query count versions (Refused refusal) is =
    refused_alike V W number bytes to from (admission_causes ++ Cause.room_full ∷ []) (λ c m. told c) (λ c m. back c) refusal query is
becomes_alike V W number bytes to from told back None count versions (Answered answer) is = absurd is
becomes_alike V W number bytes to from told back (Some q) count versions (Answered answer) is =
    let l = to.lists q is.lists is.reads is.listed in
    record {
      unrefused = none_alike V W number bytes from (admission_causes ++ Cause.room_full ∷ []) (λ c m. back c) is.unrefused;
      reads = is.reads;
      lists = l.lists;
      listed = l.there;
      counted = sym (size_same is.lists l.lists 0 l.same) ∙ is.counted;
      opened = sym (versions_same is.lists l.lists l.same) ∙ is.opened;
      right = subst (λ method. IsAnsweredWith method q count answer) (method_same q is.lists l.lists l.same) is.right;
      agrees = λ D e. is.agrees D (subst (λ t. map t q.names ≡ map Some D) (back Cause.room_full) e);
    }
