-- What becomes of a line, from what admission answers and from what comes of its query.
use Rattle.std.proofs.Common.{◌≡◌, ℕ, ◌<◌, ◌≤◌, List, [], ◌∷◌, ◌++◌, length, map, All, Option, Some, None, IfSome, unwrap_or, refl, sym, ap, ◌∙◌, subst, arith, append_assoc}
use Rattle.std.proofs.lemmas.List.Elements.{All-from_recursion, All-push}
use Rattle.std.proofs.lemmas.List.{length-map}
use Rattle.ranked_list.specs.declared.row.Row.{Row}
use Rattle.ranked_list.specs.declared.item.Item.{Item}
use Rattle.monotone_fn.specs.Value.{value}
use Rattle.topk_theory.specs.Asked.{Asked}
use Rattle.topk_theory.specs.Threshold.{item_objects}
use Rattle.algorithm_theory.specs.Within.{Factor}
use Rattle.cert_text.specs.Guarantee.{guarantee_by}
use Rattle.monotone_fn.specs.declared.costs.Costs.{Costs}
use Rattle.access_log.specs.Log.{AgreesWith}
use Rattle.machine_base.specs.declared.answer.Answer.{Answer}
use Rattle.query_text.specs.declared.query.Query.{Query}
use Rattle.query_text.specs.Query.{IsCount}
use Rattle.cert_text.specs.declared.refusal.Refusal.{Refusal}
use Rattle.cert_text.specs.declared.refusal.Refusal.TheVariants.{RoomFull}
use Rattle.cert_text.specs.declared.outcome.Outcome.TheVariants.{Answered, Refused}
use Rattle.cert_text.specs.Outcome.{IsOutcome}
use Rattle.query_core.specs.declared.ready.Ready.{Ready}
use Rattle.query_core.specs.Methods.{Method, method_with, IsGoodBy}
use Rattle.query_core.specs.OneAnswer.{asked_by, IsOverRoomWith, IsAnsweredWith}
use Rattle.query_core.specs.Driving.{AnswersOver}
use Rattle.query_core.specs.Ready.{IsReady, method_of_ready}
use Rattle.query_core.proofs.Answering.{answered_short}
use Rattle.query_admission.specs.View.{AreTold, method_over, count_of}
use Rattle.query_admission.specs.Causes.{QueryLine, Cause, admission_causes, RefusesFor}
use Rattle.query_admission.specs.Admission.{RefusesLine, IsAdmitted}
use Rattle.query_admission.specs.Becomes.{Becomes}
use Rattle.query_admission.proofs.Admitting.{read_once, lists_once}

-- what admission refuses is refused
pub refused_line : (x : QueryLine) (refusal : Refusal) (query : Option Query) (count : ℕ) (versions : List ℕ) → RefusesLine admission_causes x refusal query
    → Becomes x query count versions (Refused refusal)
refused_line x refusal query count versions refused =
    let f = refused.first in
    record {
      first = record {
        cause = f.cause;
        earlier = f.earlier;
        later = f.later ++ Cause.room_full ∷ [];
        order = ap (λ cs. cs ++ Cause.room_full ∷ []) f.order ∙ append_assoc f.earlier (f.cause ∷ f.later) (Cause.room_full ∷ []);
        gives = f.gives;
        first = f.first;
      };
      reads = refused.reads;
      named = refused.named;
    }

pub refused_writable : (query : Option Query) (versions : List ℕ) (x : QueryLine) (causes : List Cause) (refusal : Refusal) → RefusesLine causes x refusal query
    → IsOutcome query versions (Refused refusal)
refused_writable None versions x causes refusal refused = refused.named
refused_writable (Some q) versions x causes refusal refused = refused.named

-- the rows of a query's lists are told one way
told_once : (D E : List (List Row)) → map Some D ≡ map Some E → D ≡ E
told_once [] [] e = refl
told_once [] (rows ∷ E) e = absurd cc
told_once (rows ∷ D) [] e = absurd cc
told_once (rows ∷ D) (others ∷ E) e =
    let here : rows ≡ others = cc in
    let rest : map Some D ≡ map Some E = cc in
    ap (λ r. r ∷ D) here ∙ ap (λ ds. others ∷ ds) (told_once D E rest)

-- a query that is ready runs by the method of its lists
pub method_ready : (x : QueryLine) (ready : Ready) (admitted : IsAdmitted x ready) → method_over ready.query admitted.lists ≡ method_of_ready ready
method_ready x ready admitted = ap (method_with ready.query.algorithm) admitted.sorted

-- a query that is ready is refused for its room
pub full_line : (x : QueryLine) (ready : Ready) (D : List (List Row)) (room count : ℕ) (versions : List ℕ) → IsAdmitted x ready → AreTold x.view ready.query D
    → IsOverRoomWith (method_of_ready ready) ready.query ready.count D room → Becomes x (Some ready.query) count versions (Refused (RoomFull room))
full_line x ready D room count versions admitted told over =
    let by_lists = subst (λ method. IsOverRoomWith method ready.query ready.count D room) (sym (method_ready x ready admitted)) over in record {
      first = record {
        cause = Cause.room_full;
        earlier = admission_causes;
        later = [];
        order = refl;
        gives = record {
          query = ready.query;
          lists = admitted.lists;
          reads = admitted.reads;
          listed = admitted.listed;
          holds = (D, ready.count, room, refl, told, admitted.count, by_lists);
        };
        first = admitted.unrefused;
      };
      reads = admitted.reads;
      named = All-from_recursion (λ list. list < length ready.query.names) [] tt;
    }

-- a query that is ready and fits its room isn't refused
fits_room : (x : QueryLine) (ready : Ready) (D : List (List Row)) → IsAdmitted x ready → AreTold x.view ready.query D
    → ((room : ℕ) → ¬ IsOverRoomWith (method_of_ready ready) ready.query ready.count D room) → (refusal : Refusal) → ¬ RefusesFor x Cause.room_full refusal
fits_room x ready D admitted told fits refusal over =
    let q = ready.query in
    let h = over.holds in
    let same : over.query ≡ q = read_once x.bytes over.query q over.reads admitted.reads in
    let listed : map Some over.lists ≡ map Some admitted.lists = sym over.listed ∙ (ap (λ p. map x.view.listed p.names) same ∙ admitted.listed) in
    let lists : over.lists ≡ admitted.lists = lists_once over.lists admitted.lists listed in
    let told_same : h.0 ≡ D = told_once h.0 D (sym h.4 ∙ (ap (λ p. map x.view.told p.names) same ∙ told)) in
    let counts : Some h.1 ≡ Some ready.count = sym h.5 ∙ (ap count_of lists ∙ admitted.count) in
    let count : h.1 ≡ ready.count = cc in
    let over_q : IsOverRoomWith (method_over q over.lists) q h.1 h.0 h.2 = subst (λ p. IsOverRoomWith (method_over p over.lists) p h.1 h.0 h.2) same h.6 in
    let over_ready : IsOverRoomWith (method_of_ready ready) q h.1 h.0 h.2 =
    subst (λ method. IsOverRoomWith method q h.1 h.0 h.2) (ap (method_over q) lists ∙ method_ready x ready admitted) over_q in
    fits h.2 (subst (λ n. IsOverRoomWith (method_of_ready ready) q n D h.2) count (subst (λ E. IsOverRoomWith (method_of_ready ready) q h.1 E h.2) told_same over_ready))

one_more_cause : (P : Cause → Type 0) (causes : List Cause) (cause : Cause) → All P causes → P cause → All P (causes ++ cause ∷ [])
one_more_cause P causes cause all here = All-push P causes cause all here

-- a query that is ready is answered
pub answered_line : (x : QueryLine) (ready : Ready) (D : List (List Row)) (answer : Answer) → IsAdmitted x ready → AreTold x.view ready.query D
    → AnswersOver ready D answer → Becomes x (Some ready.query) ready.count ready.versions.items (Answered answer)
answered_line x ready D answer admitted told over = record {
  unrefused = one_more_cause (λ cause. (refusal : Refusal) → ¬ RefusesFor x cause refusal) admission_causes Cause.room_full admitted.unrefused (fits_room x ready D admitted told over.roomy);
  reads = admitted.reads;
  lists = admitted.lists;
  listed = admitted.listed;
  counted = admitted.count;
  opened = admitted.versions;
  right = subst (λ method. IsAnsweredWith method ready.query ready.count answer) (sym (method_ready x ready admitted)) over.answered;
  agrees = λ E e. subst (λ F. AgreesWith F answer.transcript) (sym (told_once E D (sym e ∙ told))) over.agrees;
}

-- what costs may be
pub cost_small : (cost : Option Costs) → IfSome cost (λ c. IsCount c.sorted × IsCount c.random)
    → ((unwrap_or cost (record { sorted = 1; random = 1 })).sorted ≤ 1000000) × ((unwrap_or cost (record { sorted = 1; random = 1 })).random ≤ 1000000)
cost_small None h = (omega arith, omega arith)
cost_small (Some cost) h = (h.0.1, h.1.1)

-- what is as good as is guaranteed is as many objects as were asked for
good_sized : (factor : Option Factor) (asked : Asked) (D : List (List Row)) (Y : List ℕ) → IsGoodBy factor asked D Y → length Y ≡ asked.k
good_sized None asked D Y h = h.sized
good_sized (Some factor) asked D Y h = h.sized

-- a right answer has as many items as its query asks for
pub answered_sized : (method : Method) (q : Query) (n : ℕ) (answer : Answer) → IsAnsweredWith method q n answer → length answer.items ≡ q.k
answered_sized method q n answer right =
    let one = right.every right.some.0 right.some.1 in
    let factor = guarantee_by method.algorithm (value q.expr) (length right.some.0) answer.transcript.accesses (item_objects answer.items) in
    sym (length-map answer.items (λ (item : Item). item.object)) ∙ good_sized factor (asked_by q) right.some.0 (item_objects answer.items) one.top

pub answered_writable : (ready : Ready) (answer : Answer) → IsReady ready → IsAnsweredWith (method_of_ready ready) ready.query ready.count answer
    → IsOutcome (Some ready.query) ready.versions.items (Answered answer)
answered_writable ready answer is right =
    let costs = cost_small ready.query.cost is.lawful.cost in
    let some : 1 ≤ ready.query.k = is.lawful.k.0 in (
      is.versions,
      record {
        sorted = costs.0;
        random = costs.1;
        accesses = answered_short (method_of_ready ready) ready.query ready.count answer is.lawful is.expr.lists.some is.fits is.counted right;
      },
      sym right.lists,
      λ has. omega (arith, some, answered_sized (method_of_ready ready) ready.query ready.count answer right),
    )
