-- What a query line comes to, from what its query comes to over its lists.
use Rattle.std.proofs.Common.{◌≡◌, ℕ, zero, suc, ◌<◌, ◌≤◌, inl, inr, Bool, true, false, is_none, List, [], ◌∷◌, ◌++◌, append_assoc, length, map, All, Contains, Option, Some, None, Result, Ok, Err, IfOk, IfSome, slice_index_or, refl, sym, ap, ◌∙◌, subst, arith}
use Rattle.std.specs.Prelude.{is_some, if◌then◌else◌}
use Rattle.std.specs.List.{position}
use Rattle.std.proofs.lemmas.Bool.{cases_lt}
use Rattle.std.proofs.lemmas.List.{length-map}
use Rattle.std.proofs.lemmas.List.Elements.{All-from_recursion, Contains-append_left, Contains-append_right}
use Rattle.std.proofs.lemmas.List.Quantifiers.{position-Some}
use Rattle.topk_theory.proofs.AgreementLists.{contains_here, contains_cases, all_from_members, member_of_all}
use Rattle.query_text.specs.declared.query.Query.{Query}
use Rattle.query_text.specs.declared.algorithm.Algorithm.{Algorithm}
use Rattle.query_text.specs.declared.algorithm.Algorithm.TheVariants.{Ta, Nra, Ca, Fa, Theta, Early, Taz}
use Rattle.query_text.specs.declared.fault.QueryFault.{QueryFault}
use Rattle.query_text.specs.declared.fault.QueryFault.TheVariants.{LongLine, Syntax, Number, TooManyLists, BadTheta, TooManyNodes, TooDeep, TooBig, Memory}
use Rattle.query_text.specs.Reading.{Reads}
use Rattle.query_text.proofs.BackLaws.{read_back}
use Rattle.cert_text.specs.declared.refusal.Refusal.{Refusal}
use Rattle.cert_text.specs.declared.refusal.Refusal.TheVariants.{ManyQueries, UnknownList, KAboveCount, NoSorted}
use Rattle.cert_text.specs.Refusal.{refused_lists}
use Rattle.query_core.specs.declared.ready.Ready.{Ready}
use Rattle.query_core.specs.Ready.{HasToRead}
use Rattle.query_core.proofs.ListCount.{lists_counted}
use Rattle.query_admission.specs.View.{View, AreListed, versions_at, sorted_at, offers_sorted, unread_list}
use Rattle.query_admission.specs.Causes.{most_queries, QueryLine, Cause, text_causes, admission_causes, text_refusal, Over, ListsGive, RefusesFor, NoneOf}
use Rattle.query_admission.specs.Admission.{RefusesLine, IsAdmitted, Admits}
use Rattle.query_admission.specs.Screening.{list_causes, Screens, FitsOver, Weighs, admitted_as}
use Rattle.query_admission.specs.declared.admission.Weighed.{Weighed}
use Rattle.query_admission.specs.declared.admission.Weighed.TheVariants.{Ready as Fits, Refused as NotReady}
use Rattle.query_admission.specs.declared.lists.ListInfo.{ListInfo}
use Rattle.query_admission.proofs.Positions.{nothing, found_within, found_passes, small_size, size_there}

-- a line is read as one query, and where it's read as one it has no fault
pub read_once : (bytes : List ℕ) (p q : Query) → Reads bytes (Ok p) → Reads bytes (Ok q) → p ≡ q
read_once bytes p q is_p is_q =
    elim (read_back bytes (Ok p) is_p q is_q.0.lawful is_q.1 is_q.0.text) [ inl same ↦ cc | inr other ↦ absurd cc ]

no_memory : (fault : QueryFault) (refusal : Refusal) → fault ≡ Memory → text_refusal fault ≡ Some refusal → ⊥
no_memory fault refusal is e = let none : text_refusal Memory ≡ Some refusal = subst (λ f. text_refusal f ≡ Some refusal) is e in absurd cc

read_faultless : (bytes : List ℕ) (q : Query) (fault : QueryFault) (refusal : Refusal) → Reads bytes (Ok q) → text_refusal fault ≡ Some refusal
    → Reads bytes (Err fault) → ⊥
read_faultless bytes q fault refusal is_q e bad =
    elim (read_back bytes (Err fault) bad q is_q.0.lawful is_q.1 is_q.0.text) [
      | inl other ↦ absurd cc
      | inr none ↦ no_memory fault refusal (cc) e
    ]

-- the lists of a query are known one way
pub lists_once : (xs ys : List ListInfo) → map Some xs ≡ map Some ys → xs ≡ ys
lists_once [] [] e = refl
lists_once [] (y ∷ ys) e = absurd cc
lists_once (x ∷ xs) [] e = absurd cc
lists_once (x ∷ xs) (y ∷ ys) e =
    let here : x ≡ y = cc in
    let rest : map Some xs ≡ map Some ys = cc in
    ap (λ z. z ∷ xs) here ∙ ap (λ zs. y ∷ zs) (lists_once xs ys rest)

pub listed_many : (view : View) (q : Query) (lists : List ListInfo) → AreListed view q lists → length q.names ≡ length lists
listed_many view q lists listed = sym (length-map q.names view.listed) ∙ ap length listed ∙ length-map lists Some

-- the query of a line and its lists
pub record IsHere (x : QueryLine) (q : Query) (lists : List ListInfo) : Type 0 where
  pub few : x.number ≤ most_queries
  pub reads : Reads x.bytes (Ok q)
  pub listed : AreListed x.view q lists

over_here : (x : QueryLine) (q : Query) (lists : List ListInfo) (P : Query → List ListInfo → Type 0) → IsHere x q lists → Over x P → P q lists
over_here x q lists P here over =
    let same : over.query ≡ q = read_once x.bytes over.query q over.reads here.reads in
    let listed : map Some over.lists ≡ map Some lists = sym over.listed ∙ ap (λ p. map x.view.listed p.names) same ∙ here.listed in
    subst (P q) (lists_once over.lists lists listed) (subst (λ p. P p over.lists) same over.holds)

-- the causes that lie in the lists
abbrev IsOfLists : Cause → Type 0
IsOfLists Cause.not_opened = Unit {0}
IsOfLists Cause.too_large = Unit {0}
IsOfLists Cause.counts_differ = Unit {0}
IsOfLists Cause.k_above_count = Unit {0}
IsOfLists Cause.no_random = Unit {0}
IsOfLists Cause.no_sorted = Unit {0}
IsOfLists cause = ⊥

of_lists : (cause : Cause) → Contains list_causes cause → IsOfLists cause
of_lists cause h = member_of_all IsOfLists list_causes cause (All-from_recursion IsOfLists list_causes (tt, (tt, (tt, (tt, (tt, (tt, tt))))))) h

gives_here : (x : QueryLine) (q : Query) (lists : List ListInfo) (cause : Cause) (refusal : Refusal) → IsHere x q lists → ListsGive q lists cause refusal
    → RefusesFor x cause refusal
gives_here x q lists Cause.many_queries refusal here h = absurd h
gives_here x q lists Cause.text refusal here h = absurd h
gives_here x q lists Cause.unknown_list refusal here h = absurd h
gives_here x q lists Cause.room_full refusal here h = absurd h
gives_here x q lists Cause.not_opened refusal here h = record { query = q; lists = lists; reads = here.reads; listed = here.listed; holds = h }
gives_here x q lists Cause.too_large refusal here h = record { query = q; lists = lists; reads = here.reads; listed = here.listed; holds = h }
gives_here x q lists Cause.counts_differ refusal here h = record { query = q; lists = lists; reads = here.reads; listed = here.listed; holds = h }
gives_here x q lists Cause.k_above_count refusal here h = record { query = q; lists = lists; reads = here.reads; listed = here.listed; holds = h }
gives_here x q lists Cause.no_random refusal here h = record { query = q; lists = lists; reads = here.reads; listed = here.listed; holds = h }
gives_here x q lists Cause.no_sorted refusal here h = record { query = q; lists = lists; reads = here.reads; listed = here.listed; holds = h }

gives_back : (x : QueryLine) (q : Query) (lists : List ListInfo) (cause : Cause) (refusal : Refusal) → IsHere x q lists → IsOfLists cause → RefusesFor x cause refusal
    → ListsGive q lists cause refusal
gives_back x q lists Cause.many_queries refusal here of h = absurd of
gives_back x q lists Cause.text refusal here of h = absurd of
gives_back x q lists Cause.unknown_list refusal here of h = absurd of
gives_back x q lists Cause.room_full refusal here of h = absurd of
gives_back x q lists Cause.not_opened refusal here of h = over_here x q lists (λ p ls. ListsGive p ls Cause.not_opened refusal) here h
gives_back x q lists Cause.too_large refusal here of h = over_here x q lists (λ p ls. ListsGive p ls Cause.too_large refusal) here h
gives_back x q lists Cause.counts_differ refusal here of h = over_here x q lists (λ p ls. ListsGive p ls Cause.counts_differ refusal) here h
gives_back x q lists Cause.k_above_count refusal here of h = over_here x q lists (λ p ls. ListsGive p ls Cause.k_above_count refusal) here h
gives_back x q lists Cause.no_random refusal here of h = over_here x q lists (λ p ls. ListsGive p ls Cause.no_random refusal) here h
gives_back x q lists Cause.no_sorted refusal here of h = over_here x q lists (λ p ls. ListsGive p ls Cause.no_sorted refusal) here h

-- the causes before those of the lists don't hold
abbrev Never : QueryLine → Cause → Type 0
Never x cause = (refusal : Refusal) → ¬ RefusesFor x cause refusal

not_many : (x : QueryLine) → x.number ≤ most_queries → Never x Cause.many_queries
not_many x few = λ refusal h. absurd (omega (arith, h.1))

not_text : (x : QueryLine) (q : Query) → Reads x.bytes (Ok q) → Never x Cause.text
not_text x q reads = λ refusal h. read_faultless x.bytes q h.0 refusal reads h.1 h.2

known_somewhere : (lists : List ListInfo) (place : ℕ) → place < length (map Some lists) → is_none (slice_index_or (map Some lists) place None) ≡ false
known_somewhere [] place l = absurd (omega arith)
known_somewhere (list ∷ lists) zero l = refl
known_somewhere (list ∷ lists) (suc place) l = known_somewhere lists place (omega arith)

none_unknown : (lists : List ListInfo) (place : ℕ) → position is_none (map Some lists) ≡ Some place → ⊥
none_unknown lists place e =
    let found = position-Some is_none (map Some lists) place None e in
    let known = known_somewhere lists place found.0 in
    let here : is_none (slice_index_or (map Some lists) place None) ≡ true = found.1 in
    absurd cc

not_unknown : (x : QueryLine) (q : Query) (lists : List ListInfo) → IsHere x q lists → Never x Cause.unknown_list
not_unknown x q lists here = λ refusal h.
    let same : h.query ≡ q = read_once x.bytes h.query q h.reads here.reads in
    none_unknown lists h.holds.0 (subst (λ ks. position is_none ks ≡ Some h.holds.0) (ap (λ p. map x.view.listed p.names) same ∙ here.listed) h.holds.2)

all_cons : (P : Cause → Type 0) (cause : Cause) (causes : List Cause) → P cause → All P causes → All P (cause ∷ causes)
all_cons P cause causes here rest =
    all_from_members P (cause ∷ causes) (λ other h. elim (contains_cases cause causes other h) [ inl same ↦ subst P same here | inr later ↦ member_of_all P causes other rest later ])

none_before : (x : QueryLine) (q : Query) (lists : List ListInfo) (earlier : List Cause) → IsHere x q lists
    → ((cause : Cause) → Contains earlier cause → IsOfLists cause) → NoneOf (ListsGive q lists) earlier
    → NoneOf (RefusesFor x) (Cause.many_queries ∷ Cause.text ∷ Cause.unknown_list ∷ earlier)
none_before x q lists earlier here of none =
    let rest : All (Never x) earlier = all_from_members (Never x) earlier
    (λ cause h refusal gives. member_of_all (λ c. (any : Refusal) → ¬ ListsGive q lists c any) earlier cause none h refusal (gives_back x q lists cause refusal here (of cause h) gives)) in
    all_cons (Never x) Cause.many_queries (Cause.text ∷ Cause.unknown_list ∷ earlier) (not_many x here.few)
    (all_cons (Never x) Cause.text (Cause.unknown_list ∷ earlier) (not_text x q here.reads)
    (all_cons (Never x) Cause.unknown_list earlier (not_unknown x q lists here) rest))

-- a line too many, a fault of the text, and a name without a list
pub refused_many : (x : QueryLine) → most_queries < x.number → RefusesLine text_causes x (ManyQueries most_queries) None
refused_many x many = record {
  first = record {
    cause = Cause.many_queries;
    earlier = [];
    later = Cause.text ∷ [];
    order = refl;
    gives = (refl, many);
    first = All-from_recursion (Never x) [] tt;
  };
  reads = tt;
  named = All-from_recursion (λ list. list < 0) [] tt;
}

faults_name_none : (fault : QueryFault) → IfSome (text_refusal fault) (λ refusal. refused_lists refusal ≡ [])
faults_name_none (LongLine limit) = refl
faults_name_none (Syntax at) = refl
faults_name_none (Number at) = refl
faults_name_none (TooManyLists at) = refl
faults_name_none (BadTheta p q) = refl
faults_name_none (TooManyNodes nodes) = refl
faults_name_none (TooDeep depth) = refl
faults_name_none (TooBig node) = refl
faults_name_none Memory = tt

text_names_none : (fault : QueryFault) (refusal : Refusal) → text_refusal fault ≡ Some refusal → refused_lists refusal ≡ []
text_names_none fault refusal e = subst (λ o. IfSome o (λ r. refused_lists r ≡ [])) e (faults_name_none fault)

pub refused_text : (x : QueryLine) (fault : QueryFault) (refusal : Refusal) → x.number ≤ most_queries → text_refusal fault ≡ Some refusal
    → Reads x.bytes (Err fault) → RefusesLine text_causes x refusal None
refused_text x fault refusal few e reads = record {
  first = record {
    cause = Cause.text;
    earlier = Cause.many_queries ∷ [];
    later = [];
    order = refl;
    gives = (fault, e, reads);
    first = All-from_recursion (Never x) (Cause.many_queries ∷ []) (not_many x few, tt);
  };
  reads = tt;
  named = subst (All (λ list. list < 0)) (sym (text_names_none fault refusal e)) (All-from_recursion (λ list. list < 0) [] tt);
}

-- a line that is refused for a cause that lies in it alone is refused over any lists, and spells no query that is one of the first
pub refused_alone : (x : QueryLine) (refusal : Refusal) → RefusesLine text_causes x refusal None → RefusesLine admission_causes x refusal None
refused_alone x refusal is = record {
  first = record {
    cause = is.first.cause;
    earlier = is.first.earlier;
    later = is.first.later ++ Cause.unknown_list ∷ list_causes;
    order = ap (λ cs. cs ++ Cause.unknown_list ∷ list_causes) is.first.order
        ∙ append_assoc is.first.earlier (is.first.cause ∷ is.first.later) (Cause.unknown_list ∷ list_causes);
    gives = is.first.gives;
    first = is.first.first;
  };
  reads = is.reads;
  named = is.named;
}

pub refused_unread : (x : QueryLine) (refusal : Refusal) (q : Query) → RefusesLine text_causes x refusal None → x.number ≤ most_queries → Reads x.bytes (Ok q) → ⊥
refused_unread x refusal q is few reads =
    let f = is.first in
    let never : All (Never x) text_causes = All-from_recursion (Never x) text_causes (not_many x few, (not_text x q reads, tt)) in
    let there : Contains text_causes f.cause = subst (λ cs. Contains cs f.cause) (sym f.order) (Contains-append_right f.earlier (f.cause ∷ f.later) f.cause (contains_here f.cause f.later)) in
    member_of_all (Never x) text_causes f.cause never there refusal f.gives

pub refused_unknown : (x : QueryLine) (q : Query) (refusal : Refusal) (list : ℕ) → x.number ≤ most_queries → Reads x.bytes (Ok q) → refusal ≡ UnknownList list
    → position is_none (map x.view.listed q.names) ≡ Some list → RefusesLine admission_causes x refusal (Some q)
refused_unknown x q refusal list few reads is unknown =
    let within : list < length (map x.view.listed q.names) = (position-Some is_none (map x.view.listed q.names) list None unknown).0 in
    let below : list < length q.names = omega (arith, within, length-map q.names x.view.listed) in
    record {
      first = record {
        cause = Cause.unknown_list;
        earlier = Cause.many_queries ∷ Cause.text ∷ [];
        later = list_causes;
        order = refl;
        gives = record { query = q; reads = reads; holds = (list, is, unknown) };
        first = All-from_recursion (Never x) (Cause.many_queries ∷ Cause.text ∷ []) (not_many x few, (not_text x q reads, tt));
      };
      reads = reads;
      named = subst (λ r. All (λ l. l < length q.names) (refused_lists r)) (sym is) (All-from_recursion (λ l. l < length q.names) (list ∷ []) (below, tt));
    }

-- a cause that lies in the lists
pub refused_lists_why : (x : QueryLine) (q : Query) (lists : List ListInfo) (refusal : Refusal) → IsHere x q lists → Screens q lists (Err refusal)
    → RefusesLine admission_causes x refusal (Some q)
refused_lists_why x q lists refusal here why =
    let f = why.0 in
    let before : (cause : Cause) → Contains f.earlier cause → IsOfLists cause = λ cause h. of_lists cause (subst (λ cs. Contains cs cause) (sym f.order) (Contains-append_left f.earlier (f.cause ∷ f.later) cause h)) in
    record {
      first = record {
        cause = f.cause;
        earlier = Cause.many_queries ∷ Cause.text ∷ Cause.unknown_list ∷ f.earlier;
        later = f.later;
        order = ap (λ cs. Cause.many_queries ∷ Cause.text ∷ Cause.unknown_list ∷ cs) f.order;
        gives = gives_here x q lists f.cause refusal here f.gives;
        first = none_before x q lists f.earlier here before f.first;
      };
      reads = here.reads;
      named = subst (λ n. All (λ list. list < n) (refused_lists refusal)) (sym (listed_many x.view q lists here.listed)) why.1;
    }

-- an algorithm that isn't refused for it has what it reads
sorted_there : (lists : List ListInfo) (place : ℕ) (d : ListInfo) → place < length lists → offers_sorted (slice_index_or lists place d) ≡ true
    → Contains (sorted_at lists) true
sorted_there [] place d within is = absurd (omega arith)
sorted_there (list ∷ lists) zero d within is = (0, omega arith, is)
sorted_there (list ∷ lists) (suc place) d within is = let later = sorted_there lists place d (omega arith) is in (suc later.0, omega (arith, later.1), later.2)

has_some : (lists : List ListInfo) (found : Option ℕ) → position offers_sorted lists ≡ found
    → (◌≡◌ {A = Option ℕ} (if is_some found then None else Some 0) (Some 0) → ⊥)
    → Contains (sorted_at lists) true
has_some lists None e none = absurd (none refl)
has_some lists (Some place) e none = sorted_there lists place nothing (found_within offers_sorted lists place e) (found_passes offers_sorted lists place e)

has_to_read : (algorithm : Algorithm) (lists : List ListInfo) (sorted : List Bool) → sorted_at lists ≡ sorted
    → ((list : ℕ) → unread_list algorithm lists ≡ Some list → ⊥) → HasToRead algorithm sorted
has_to_read Ta lists sorted is none = tt
has_to_read Nra lists sorted is none = tt
has_to_read Ca lists sorted is none = tt
has_to_read Fa lists sorted is none = tt
has_to_read (Theta p q) lists sorted is none = tt
has_to_read (Early depth) lists sorted is none = tt
has_to_read Taz lists sorted is none = subst (λ s. Contains s true) is (has_some lists (position offers_sorted lists) refl (none 0))

-- a query is ready
pub ready_admitted : (x : QueryLine) (ready : Ready) (lists : List ListInfo) → IsHere x ready.query lists → Screens ready.query lists (Ok ready.count)
    → map (λ list. list.source) lists ≡ ready.sources.items → versions_at lists ≡ ready.versions.items → sorted_at lists ≡ ready.sorted.items
    → IsAdmitted x ready
ready_admitted x ready lists here screens sources versions sorted =
    let many = listed_many x.view ready.query lists here.listed in
    let some : 0 < length lists = omega (arith, many, lists_counted ready.query here.reads.0.lawful, here.reads.1.lists.some) in
    record {
      unrefused = none_before x ready.query lists list_causes here of_lists screens.0;
      sound = record {
        lawful = here.reads.0.lawful;
        expr = here.reads.1;
        fits = elim (cases_lt ready.count ready.query.k) [
          | inl less ↦ absurd (member_of_all (λ c. (any : Refusal) → ¬ ListsGive ready.query lists c any) list_causes Cause.k_above_count screens.0 (3, omega arith, refl) (KAboveCount ready.query.k ready.count) (ready.count, refl, screens.1, less))
          | inr fits ↦ fits
        ];
        counted = small_size lists 0 ready.count screens.2 some (sym (size_there lists 0 some) ∙ screens.1);
        sources = ap length (sym sources) ∙ length-map lists (λ (list : ListInfo). list.source) ∙ sym many;
        versions = ap length (sym versions) ∙ length-map lists (λ (list : ListInfo). list.version) ∙ sym many;
        sorted = ap length (sym sorted) ∙ length-map lists (λ (list : ListInfo). list.sorted) ∙ sym many;
        readable = has_to_read ready.query.algorithm lists ready.sorted.items sorted (λ list e.
            member_of_all (λ c. (any : Refusal) → ¬ ListsGive ready.query lists c any) list_causes Cause.no_sorted screens.0 (5, omega arith, refl) (NoSorted list) (list, refl, e));
      };
      reads = here.reads;
      lists = lists;
      listed = here.listed;
      count = screens.1;
      sources = sources;
      versions = versions;
      sorted = sorted;
    }

-- a query that fits its lists
pub fits_weighed : {E : Type 0} (view : View) (q : Query) (lists : List ListInfo) (n : ℕ) (weighed : Result Weighed E) → AreListed view q lists
    → Screens q lists (Ok n) → IfOk weighed (FitsOver lists n) → IfOk weighed (Weighs view q)
fits_weighed view q lists n (Ok (Fits count sources versions sorted)) listed screens is =
    (lists, listed, subst (λ m. Screens q lists (Ok m)) (sym is.0) screens, is.1, is.2, is.3)
fits_weighed view q lists n (Ok (NotReady refusal)) listed screens is = absurd is
fits_weighed view q lists n (Err e) listed screens is = tt

-- a query that was weighed over the lists of the line's view
pub ready_weighed : (x : QueryLine) (ready : Ready) → x.number ≤ most_queries → Reads x.bytes (Ok ready.query)
    → Weighs x.view ready.query (Fits ready.count ready.sources ready.versions ready.sorted) → IsAdmitted x ready
ready_weighed x ready few reads weighed =
    ready_admitted x ready weighed.0 (record { few = few; reads = reads; listed = weighed.1 }) weighed.2 weighed.3 weighed.4 weighed.5

pub query_weighed : (x : QueryLine) (q : Query) (refusal : Refusal) → x.number ≤ most_queries → Reads x.bytes (Ok q) → Weighs x.view q (NotReady refusal)
    → RefusesLine admission_causes x refusal (Some q)
query_weighed x q refusal few reads weighed =
    elim weighed [
      | inl unknown ↦ refused_unknown x q refusal unknown.0 few reads unknown.1 unknown.2
      | inr screened ↦ refused_lists_why x q screened.0 refusal (record { few = few; reads = reads; listed = screened.1 }) screened.2
    ]

pub weighed_admits : {E : Type 0} (x : QueryLine) (q : Query) (weighed : Result Weighed E) → x.number ≤ most_queries → Reads x.bytes (Ok q)
    → IfOk weighed (Weighs x.view q) → IfOk (admitted_as q weighed) (Admits x)
weighed_admits x q (Ok (Fits count sources versions sorted)) few reads is =
    ready_weighed x (record { query = q; count = count; sources = sources; versions = versions; sorted = sorted }) few reads is
weighed_admits x q (Ok (NotReady refusal)) few reads is = query_weighed x q refusal few reads is
weighed_admits x q (Err memory) few reads is = tt
