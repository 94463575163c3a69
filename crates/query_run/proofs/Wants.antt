-- What a query wants of its sources, look by look.
use Rattle.std.proofs.Common.{◌≡◌, ◌≢◌, ◌≤◌, ◌<◌, inl, inr, ℕ, List, [], ◌∷◌, ◌++◌, length, AllPairs, Contains, sym, ap, subst, ◌∙◌, arith, append-nil, append_assoc}
use Rattle.std.proofs.lemmas.Bool.{cases_lt}
use Rattle.std.proofs.lemmas.List.{length-append}
use Rattle.std.proofs.lemmas.List.Kept.{AllPairs-cons}
use Rattle.std.proofs.lemmas.List.Elements.{All-append, All-cons, All-nil, Contains-append_left, Contains-append_cases}
use Rattle.ranked_list.specs.declared.need.Need.{Need}
use Rattle.ranked_list.specs.declared.need.Need.TheVariants as need
use Rattle.turn_lock.specs.declared.known.Known.{Known}
use Rattle.turn_lock.specs.Facts.{IsFrontOf}
use Rattle.topk_theory.proofs.AgreementLists.{contains_here, contains_there, all_from_members, member_of_all, distinct_head, distinct_tail}
use Rattle.source_state.specs.declared.entry.LogEntry.{LogEntry}
use Rattle.source_pool.specs.declared.hold.Hold.{Hold}
use Rattle.source_pool.specs.Looks.{KeepsMarks, HasCalled}
use Rattle.query_run.specs.declared.running_query.RunningQuery.{RunningQuery}
use Rattle.query_run.specs.Inquiries.{list_needed, source_of}
use Rattle.query_run.specs.Asking.{IsCertainFor, IsAskedFor, AsksGradeOf, Wanted}
use Rattle.query_run.proofs.AskingLaws.{AsksMore, asked_more, grade_more}

abbrev Apart : ℕ → ℕ → Type 0
Apart one other = one ≢ other

-- the pass hasn't met an object
abbrev Unmet : Known LogEntry → ℕ → Type 0
Unmet now object = ¬ Contains now.met object

-- the pass's marks stay
pub marks_same : (now after : Hold) → after ≡ now → KeepsMarks now.pass.1 after.pass.1
marks_same now after e = record {
  high = ap (λ (h : Hold). h.pass.1.high) e;
  asked = ap (λ (h : Hold). h.pass.1.asked) e;
  mine = ap (λ (h : Hold). h.pass.1.mine) e;
}

none_apart : AllPairs Apart []
none_apart = λ i j d lt within. absurd (omega arith)

-- nothing new is wanted
pub wanted_none : (q : RunningQuery) (source : ℕ) (now after : Known LogEntry) → KeepsMarks now after → Wanted q source now after
wanted_none q source now after marks = record {
  rows = inl (let e = marks.high in omega (arith, e));
  news = [];
  mine = marks.mine ∙ sym (append-nil now.mine);
  grades = let e = marks.asked in omega (arith, e);
  apart = none_apart;
  unmet = All-nil (Unmet now);
  met = All-nil (Contains after.met);
  each = All-nil (AsksGradeOf q source);
}

-- two lists without repeats of which no member of the one is in the other
apart_append : (xs ys : List ℕ) → AllPairs Apart xs → AllPairs Apart ys → ((x : ℕ) → Contains xs x → ¬ Contains ys x) → AllPairs Apart (xs ++ ys)
apart_append [] ys one other none = other
apart_append (x ∷ xs) ys one other none =
    AllPairs-cons Apart x (xs ++ ys)
    (all_from_members (λ y. x ≢ y) (xs ++ ys) (λ y c. elim (Contains-append_cases xs ys y c) [
      | inl here ↦ distinct_head x xs y one here
      | inr there ↦ λ e. none x (contains_here x xs) (subst (Contains ys) (sym e) there)
    ]))
    (apart_append xs ys (distinct_tail x xs one) other (λ y c. none y (contains_there x xs y c)))

-- what is wanted by one look and then by another
pub wanted_on : (q : RunningQuery) (source : ℕ) (before now after : Known LogEntry) → IsFrontOf before.met now.met → IsFrontOf now.met after.met
    → Wanted q source before now → Wanted q source now after → Wanted q source before after
wanted_on q source before now after first second one other = record {
  rows = elim other.rows [
    | inl kept ↦ elim one.rows [
      | inl low ↦ inl (omega (arith, kept, low))
      | inr asked ↦ elim (cases_lt before.high after.high) [
        | inr low ↦ inl low
        | inl high ↦ inr (asked_less q source now.high after.high kept asked)
      ]
    ]
    | inr asked ↦ inr asked
  ];
  news = one.news ++ other.news;
  mine = other.mine ∙ ap (λ xs. xs ++ other.news) one.mine ∙ append_assoc before.mine one.news other.news;
  grades =
      let a = one.grades in
      let b = other.grades in
      let e = length-append one.news other.news in
      omega (arith, a, b, e);
  apart = apart_append one.news other.news one.apart other.apart
      (λ x c d. member_of_all (Unmet now) other.news x other.unmet d (member_of_all (Contains now.met) one.news x one.met c));
  unmet = All-append (Unmet before) one.news other.news one.unmet
      (all_from_members (Unmet before) other.news (λ x c met. member_of_all (Unmet now) other.news x other.unmet c (on_front before.met now.met x first met)));
  met = All-append (Contains after.met) one.news other.news
      (all_from_members (Contains after.met) one.news (λ x c. on_front now.met after.met x second (member_of_all (Contains now.met) one.news x one.met c))) other.met;
  each = All-append (AsksGradeOf q source) one.news other.news one.each other.each;
}
  where
    on_front : (xs ys : List ℕ) (x : ℕ) → IsFrontOf xs ys → Contains xs x → Contains ys x
    on_front xs ys x front c = subst (λ zs. Contains zs x) (sym front.goes_on) (Contains-append_left xs front.rest x c)

    asked_less : (q : RunningQuery) (source deep depth : ℕ) → depth ≤ deep → IsAskedFor q source deep → IsAskedFor q source depth
    asked_less q source deep depth less h = record {
      list = h.list;
      listed = h.listed;
      of = h.of;
      deep = record { met = λ D agrees. let most = h.deep.met D agrees in omega (arith, most, less) };
    }

-- the want of a row, and the ask of an object
row_called : (q : RunningQuery) (source list depth : ℕ) (now after : Known LogEntry) → list < length q.sources.items → source_of q list ≡ source
    → IsCertainFor q (need.Row list depth) → HasCalled (need.Row list depth) now after → Wanted q source now after
row_called q source list depth now after listed of certain called = record {
  rows = elim (cases_lt now.high after.high) [
    | inr low ↦ inl low
    | inl high ↦ inr (record {
      list = list;
      listed = listed;
      of = of;
      deep = record { met = λ D agrees. let most = called.high in let deep = certain.met D agrees in omega (arith, high, most, deep) };
    })
  ];
  news = [];
  mine = called.mine ∙ sym (append-nil now.mine);
  grades = let e = called.asked in omega (arith, e);
  apart = none_apart;
  unmet = All-nil (Unmet now);
  met = All-nil (Contains after.met);
  each = All-nil (AsksGradeOf q source);
}

one_apart : (x : ℕ) → AllPairs Apart (x ∷ [])
one_apart x = AllPairs-cons Apart x [] (All-nil (Apart x)) none_apart

grade_called : (q : RunningQuery) (source list object : ℕ) (now after : Known LogEntry) → list < length q.sources.items → source_of q list ≡ source
    → IsCertainFor q (need.Grade list object) → HasCalled (need.Grade list object) now after → Wanted q source now after
grade_called q source list object now after listed of certain called = elim called.added [
  | inl same ↦ record {
    rows = inl (let e = called.high in omega (arith, e));
    news = [];
    mine = same.mine ∙ sym (append-nil now.mine);
    grades = let e = same.asked in omega (arith, e);
    apart = none_apart;
    unmet = All-nil (Unmet now);
    met = All-nil (Contains after.met);
    each = All-nil (AsksGradeOf q source);
  }
  | inr more ↦ record {
    rows = inl (let e = called.high in omega (arith, e));
    news = object ∷ [];
    mine = more.mine;
    grades = let e = more.asked in omega (arith, e);
    apart = one_apart object;
    unmet = All-cons (Unmet now) object [] more.unmet (All-nil (Unmet now));
    met = All-cons (Contains after.met) object [] called.asks (All-nil (Contains after.met));
    each = All-cons (AsksGradeOf q source) object [] (record { list = list; listed = listed; of = of; asks = certain }) (All-nil (AsksGradeOf q source));
  }
]

-- what a need makes that is called for
pub need_called : (q : RunningQuery) (source : ℕ) (n : Need) (now after : Known LogEntry) → list_needed n < length q.sources.items → source_of q (list_needed n) ≡ source
    → IsCertainFor q n → HasCalled n now after → Wanted q source now after
need_called q source (need.Row list depth) now after listed of certain called = row_called q source list depth now after listed of certain called
need_called q source (need.Grade list object) now after listed of certain called = grade_called q source list object now after listed of certain called
need_called q source need.Done now after listed of certain called = absurd called

-- a later query wanted it too
pub wanted_more : (q r : RunningQuery) (source : ℕ) (before now : Known LogEntry) → AsksMore q r → Wanted q source before now → Wanted r source before now
wanted_more q r source before now more h = record {
  rows = elim h.rows [ inl kept ↦ inl kept | inr asked ↦ inr (asked_more q r source now.high more asked) ];
  news = h.news;
  mine = h.mine;
  grades = h.grades;
  apart = h.apart;
  unmet = h.unmet;
  met = h.met;
  each = all_from_members (AsksGradeOf r source) h.news (λ object c. grade_more q r source object more (member_of_all (AsksGradeOf q source) h.news object h.each c));
}
