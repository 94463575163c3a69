-- The routes of plain paths.
use Rattle.std.proofs.Common.{◌≡◌, ◌≢◌, ℕ, zero, suc, ◌+◌, ◌-◌, ◌<◌, ◌≤◌, List, [], ◌∷◌, ◌++◌, length, Option, Some, None, option_map, OnOk, Result, Ok, Err, Bool, true, false, cond, inl, inr, refl, sym, ap, subst, ◌∙◌, arith, nat_eq, ◌==◌, ◌&&◌, append_assoc, append-nil}
use Rattle.std.proofs.lemmas.Bool.Decides.{nat_tests}
use Rattle.std.proofs.lemmas.Slice.Eq.{bytes_eq-Decides}
use Rattle.std.proofs.lemmas.Str.{IsUtf8-from_ascii}
use Rattle.std.specs.List.{list_all}
use Rattle.std.specs.Str.{bytes_eq, IsUtf8}
use Rattle.std.specs.Prelude.{slice_index, ⊤}
use Rattle.matchit.specs.Conflict.{conflicts}
use Rattle.matchit.specs.Order.{placed, lookup, common_len}
use Rattle.matchit.specs.Route.{Scan, scan, scan_start, feed, push_byte, after_shape, on_shape, shape_error, parse_route}
use Rattle.matchit.specs.Router.{RouteOf, InsertsRead, route_from, nearer, nearest_from, nearest}
use Rattle.matchit.specs.Rows.{RowsOf, comes_before, param_token, catch_all_token}
use Rattle.matchit.specs.Seek.{own, step, or_else, seek, first, param_step, has_slash, same_text}
use Rattle.matchit.specs.declared.error.InsertError.{InsertError}
use Rattle.matchit.proofs.NearestLemmas.{conflicts-self, nearer-some, from-some}
use Rattle.matchit.proofs.RouteLemmas.{scan-ok, scan-end}
use Rattle.wire.specs.Routes.{is_plain_byte, ArePlain, value_at}

-- no row has this pattern
abbrev Lacks : {K : Type 0} → List ℕ → RowsOf K → Type 0
Lacks p [] = ⊤
Lacks p ((t, k) ∷ rows) = (t ≢ p) × Lacks p rows

-- texts that are the same by the test are the same, and the other way round
same_is : (a b : List ℕ) → same_text a b ≡ true → a ≡ b
same_is a b e = (bytes_eq-Decides a b).0 e

differs : (a b : List ℕ) → (a ≡ b → ⊥) → same_text a b ≡ false
differs a b n = by (same_text a b) refl
  where
    by : (v : Bool) → same_text a b ≡ v → same_text a b ≡ false
    by true e = absurd (n (same_is a b e))
    by false e = e

turned : (a b : List ℕ) → same_text a b ≡ same_text b a
turned a b = by (same_text a b) refl
  where
    by : (v : Bool) → same_text a b ≡ v → same_text a b ≡ same_text b a
    by true e = e ∙ sym ((bytes_eq-Decides b a).1 (sym (same_is a b e)))
    by false e = e ∙ sym (differs b a (λ same. let t = (bytes_eq-Decides a b).1 (sym same) in cc))

-- ---- plain patterns are found where they stand

or_none : {K : Type 0} (a : Option K) → or_else a None ≡ a
or_none None = refl
or_none (Some k) = refl

param_none : {K : Type 0} (p : List ℕ) → (param_step {K = K} [] p).1 ≡ []
unfolding param_step
param_none {K} p =
    elim (has_slash p) as (λ v. (cond {A = ℕ × RowsOf K} v (0, []) (length p, [])).1 ≡ []) [
      | true ↦ refl
      | false ↦ refl
    ]

seek_none : {K : Type 0} (k : ℕ) (p : List ℕ) → seek {K = K} k [] p ≡ None
unfolding seek
seek_none k [] = refl
seek_none (suc k) (b ∷ p) = seek_none k p
seek_none {K} zero (b ∷ p) = simp (seek_none {K = K} 0 p, param_none {K = K} (b ∷ p), seek_none {K = K} (((param_step {K = K} [] (b ∷ p)).0) - 1) p)

-- a token above all bytes leads nowhere
wild_step : {K : Type 0} (x : ℕ) (rows : RowsOf K) → 256 ≤ x → ArePlain rows → step x rows ≡ []
wild_step x [] high plain = refl
wild_step x (([], k) ∷ rows) high plain = wild_step x rows high plain.1
wild_step x ((b ∷ t, k) ∷ rows) high plain =
    let e : (b == x) ≡ false = grind (arith, nat_tests, plain.0) in
    rw e (wild_step x rows high plain.1)

seek_plain : {K : Type 0} (rows : RowsOf K) (b : ℕ) (path : List ℕ) → ArePlain rows → seek 0 rows (b ∷ path) ≡ seek 0 (step b rows) path
unfolding seek
seek_plain {K} rows b path plain =
    let one = wild_step param_token rows (omega arith) plain in
    let two = wild_step catch_all_token rows (omega arith) plain in
    simp (one, two, param_none {K = K} (b ∷ path), seek_none {K = K} ((param_step {K = K} [] (b ∷ path)).0 - 1) path, or_none {K = K})

step_kept : {K : Type 0} (b : ℕ) (rows : RowsOf K) → ArePlain rows → ArePlain (step b rows)
step_kept b [] plain = tt
step_kept b (([], k) ∷ rows) plain = step_kept b rows plain.1
step_kept b ((x ∷ t, k) ∷ rows) plain =
    elim (x == b) as (λ v. ArePlain (cond v ((t, k) ∷ step b rows) (step b rows))) [
      | true ↦ (grind (arith, plain.0), step_kept b rows plain.1)
      | false ↦ step_kept b rows plain.1
    ]

own_lookup : {K : Type 0} (rows : RowsOf K) → own rows ≡ lookup [] rows
own_lookup [] = refl
own_lookup (([], k) ∷ rows) = refl
own_lookup ((x ∷ t, k) ∷ rows) = own_lookup rows

step_lookup : {K : Type 0} (b : ℕ) (path : List ℕ) (rows : RowsOf K) → lookup path (step b rows) ≡ lookup (b ∷ path) rows
step_lookup b path [] = refl
step_lookup b path (([], k) ∷ rows) = step_lookup b path rows
step_lookup b path ((x ∷ t, k) ∷ rows) =
    elim (x == b) as (λ v. lookup path (cond v ((t, k) ∷ step b rows) (step b rows)) ≡ cond (v && same_text t path) (Some k) (lookup (b ∷ path) rows)) [
      | true ↦ ap (cond (same_text t path) (Some k)) (step_lookup b path rows)
      | false ↦ step_lookup b path rows
    ]

plain_first : {K : Type 0} (path : List ℕ) (rows : RowsOf K) → ArePlain rows → first rows path ≡ lookup path rows
unfolding seek
plain_first [] rows plain = own_lookup rows
plain_first (b ∷ path) rows plain = seek_plain rows b path plain ∙ plain_first path (step b rows) (step_kept b rows plain) ∙ step_lookup b path rows

-- ---- one more path

lookup_placed : {K : Type 0} (p t : List ℕ) (k : K) (rows : RowsOf K) → Lacks t rows → lookup p (placed (t, k) rows) ≡ cond (same_text t p) (Some k) (lookup p rows)
lookup_placed p t k [] lacks = refl
lookup_placed {K} p t k ((u, j) ∷ rows) lacks = by_order (comes_before t u) (lookup_placed p t k rows lacks.1)
  where
    swap : (a c : Bool) → same_text t p ≡ a → same_text u p ≡ c
        → cond c (Some j) (cond a (Some k) (lookup p rows)) ≡ cond a (Some k) (cond c (Some j) (lookup p rows))
    swap true true e f = absurd (lacks.0 (same_is u p f ∙ sym (same_is t p e)))
    swap true false e f = refl
    swap false true e f = refl
    swap false false e f = refl

    by_order : (v : Bool) → lookup p (placed (t, k) rows) ≡ cond (same_text t p) (Some k) (lookup p rows)
        → lookup p (cond v ((t, k) ∷ (u, j) ∷ rows) ((u, j) ∷ placed (t, k) rows)) ≡ cond (same_text t p) (Some k) (cond (same_text u p) (Some j) (lookup p rows))
    by_order true ih = refl
    by_order false ih = ap (cond (same_text u p) (Some j)) ih ∙ swap (same_text t p) (same_text u p) refl refl

plain_placed : {K : Type 0} (t : List ℕ) (k : K) (rows : RowsOf K) → list_all is_plain_byte t ≡ true → ArePlain rows → ArePlain (placed (t, k) rows)
plain_placed t k [] is plain = (is, tt)
plain_placed t k ((u, j) ∷ rows) is plain =
    elim (comes_before t u) as (λ v. ArePlain (cond v ((t, k) ∷ (u, j) ∷ rows) ((u, j) ∷ placed (t, k) rows))) [
      | true ↦ (is, plain)
      | false ↦ (plain.0, plain_placed t k rows is plain.1)
    ]

-- a route that conflicts with none is there not yet
clean : {K : Type 0} (p : List ℕ) (b : Option K × ℕ) (rows : RowsOf K) → nearest_from p b rows ≡ None → Lacks p rows
clean p b [] e = tt
clean {K} p b ((t, k) ∷ rows) e = by (conflicts p t) refl e (clean p b rows)
  where
    by : (v : Bool) → conflicts p t ≡ v → nearest_from p (cond v (nearer b (common_len p t) k) b) rows ≡ None → (nearest_from p b rows ≡ None → Lacks p rows) → (t ≢ p) × Lacks p rows
    by true q m ih =
        let y = nearer-some b (common_len p t) k in
        absurd (from-some p (nearer b (common_len p t) k) rows y.0 y.1 m)
    by false q m ih = (λ same. let c = conflicts-self p in cc (rw same at q), ih m)

-- a plain text is its own pattern
scan_plain : (s n : Scan) (text : List ℕ) → s.mode ≡ 0 → list_all is_plain_byte text ≡ true → scan s text ≡ Ok n → n.pattern ≡ s.pattern ++ text
scan_plain s n [] mode is read =
    let end : scan s [] ≡ Ok s = scan-end s ∙ rw mode refl in
    let same : s ≡ n = cc in
    ap (λ (x : Scan). x.pattern) (sym same) ∙ sym (append-nil s.pattern)
scan_plain s n (b ∷ text) mode is read =
    let one : (b == 123) ≡ false = grind (arith, nat_tests, is) in
    let two : (b == 125) ≡ false = grind (arith, nat_tests, is) in
    let rest : list_all is_plain_byte text ≡ true = grind (arith, is) in
    let fed : feed s b ≡ Ok (push_byte s b) = rw (mode, one, two) refl in
    scan_plain (push_byte s b) n text refl rest (sym (scan-ok s (push_byte s b) b text fed) ∙ read) ∙ append_assoc s.pattern (b ∷ []) text

-- a plain path that was inserted stands in its place, with its value
placed_there : {T : Type 0} (text : List ℕ) (value : T) (old new : RowsOf (RouteOf T)) (u : Unit {0}) → list_all is_plain_byte text ≡ true
    → InsertsRead (parse_route text) value old new (Ok u) → (r : RouteOf T) × (r.value ≡ value) × Lacks text old × (new ≡ placed (text, r) old)
placed_there {T} text value old new u is inserts = by (scan scan_start text) refl inserts
  where
    Placed : Type 0
    Placed = (r : RouteOf T) × (r.value ≡ value) × Lacks text old × (new ≡ placed (text, r) old)

    by_shape : (s : Scan) (e : Option InsertError) → s.pattern ≡ text → InsertsRead (on_shape e s) value old new (Ok u) → Placed
    by_shape s None same h =
        (route_from s value, refl, clean text (None, 0) old (subst (λ (p : List ℕ). nearest p old ≡ None) same h.0), subst (λ (p : List ℕ). new ≡ placed (p, route_from s value) old) same h.1)
    by_shape s (Some e) same h = elim h.1 [ inl x ↦ absurd cc | inr x ↦ absurd cc ]

    by : (r : Result Scan InsertError) → scan scan_start text ≡ r → InsertsRead (after_shape r) value old new (Ok u) → Placed
    by (Ok s) read h = by_shape s (shape_error s.pattern) (scan_plain scan_start s text refl is read) h
    by (Err e) read h = elim h.1 [ inl x ↦ absurd cc | inr x ↦ absurd cc ]

value_lookup : {T : Type 0} (rows : RowsOf (RouteOf T)) (path : List ℕ) → ArePlain rows → value_at rows path ≡ option_map (λ (r : RouteOf T). r.value) (lookup path rows)
value_lookup {T} rows path plain = ap (option_map (λ (r : RouteOf T). r.value)) (plain_first path rows plain)

-- the rows stay plain, and have one path more
pub plain_added : {T : Type 0} (text : List ℕ) (value : T) (old new : RowsOf (RouteOf T)) (u : Unit {0}) → list_all is_plain_byte text ≡ true → ArePlain old
    → InsertsRead (parse_route text) value old new (Ok u) → ArePlain new
plain_added {T} text value old new u is plain inserts =
    let there = placed_there text value old new u is inserts in
    subst (λ (rows : RowsOf (RouteOf T)). ArePlain rows) (sym there.3) (plain_placed text there.0 old is plain)

pub value_added : {T : Type 0} (text : List ℕ) (value : T) (old new : RowsOf (RouteOf T)) (u : Unit {0}) (other : List ℕ) → list_all is_plain_byte text ≡ true → ArePlain old
    → InsertsRead (parse_route text) value old new (Ok u) → value_at new other ≡ cond (bytes_eq other text) (Some value) (value_at old other)
value_added {T} text value old new u other is plain inserts =
    let there = placed_there text value old new u is inserts in
    let said : option_map (λ (r : RouteOf T). r.value) (lookup other (placed (text, there.0) old)) ≡ cond (same_text text other) (Some value) (value_at old other)
    = ap (option_map (λ (r : RouteOf T). r.value)) (lookup_placed other text there.0 old there.2) ∙ by (same_text text other) there.0 there.1 in
    value_lookup new other (plain_added text value old new u is plain inserts)
    ∙ subst (λ (rows : RowsOf (RouteOf T)). option_map (λ (r : RouteOf T). r.value) (lookup other rows) ≡ cond (same_text text other) (Some value) (value_at old other)) (sym there.3) said
    ∙ ap (λ t. cond t (Some value) (value_at old other)) (turned text other)
  where
    by : (v : Bool) (r : RouteOf T) → r.value ≡ value
        → option_map (λ (r : RouteOf T). r.value) (cond v (Some r) (lookup other old)) ≡ cond v (Some value) (value_at old other)
    by true r same = ap Some same
    by false r same = sym (value_lookup old other plain)

-- where a route isn't inserted the rows stay
pub value_kept : {T : Type 0} (read : Result Scan InsertError) (value : T) (old new : RowsOf (RouteOf T)) (why : InsertError) → InsertsRead read value old new (Err why) → new ≡ old
value_kept (Ok s) value old new why h = h.0
value_kept (Err e) value old new why h = h.0

-- the same whatever came of it
pub plain_still : {T : Type 0} (text : List ℕ) (value : T) (old new : RowsOf (RouteOf T)) (result : Result (Unit {0}) InsertError) → list_all is_plain_byte text ≡ true
    → ArePlain old → InsertsRead (parse_route text) value old new result → ArePlain new
plain_still text value old new (Ok u) is plain inserts = plain_added text value old new u is plain inserts
plain_still {T} text value old new (Err why) is plain inserts =
    subst (λ (rows : RowsOf (RouteOf T)). ArePlain rows) (sym (value_kept (parse_route text) value old new why inserts)) plain

pub all_added : {T : Type 0} (text : List ℕ) (value : T) (old before new : RowsOf (RouteOf T)) (result : Result (Unit {0}) InsertError)
    → list_all is_plain_byte text ≡ true → ArePlain old → old ≡ before → InsertsRead (parse_route text) value old new result
    → OnOk result ((other : List ℕ) → value_at new other ≡ cond (bytes_eq other text) (Some value) (value_at before other))
all_added {T} text value old before new (Ok u) is plain same inserts = λ other.
    value_added text value old new u other is plain inserts
    ∙ ap (λ (rows : RowsOf (RouteOf T)). cond (bytes_eq other text) (Some value) (value_at rows other)) same
all_added text value old before new (Err why) is plain same inserts = tt

-- no path has a route where there is none
pub none_at : {T : Type 0} (rows : RowsOf (RouteOf T)) (path : List ℕ) → rows ≡ [] → value_at rows path ≡ None
none_at {T} rows path is =
    ap (λ (r : RowsOf (RouteOf T)). value_at r path) is ∙ ap (option_map (λ (r : RouteOf T). r.value)) (seek_none 0 path)

-- what is no text is no plain path
pub no_text : {T : Type 0} (rows : RowsOf (RouteOf T)) (path : List ℕ) → ArePlain rows → (IsUtf8 path → ⊥) → value_at rows path ≡ None
no_text {T} rows path plain none = value_lookup rows path plain ∙ ap (option_map (λ (r : RouteOf T). r.value)) (by rows plain)
  where
    ascii : (t : List ℕ) → list_all is_plain_byte t ≡ true → (i : ℕ) → slice_index t i < 128
    ascii [] is i = omega arith
    ascii (b ∷ t) is zero = grind (arith, nat_tests, is)
    ascii (b ∷ t) is (suc i) = ascii t (grind (arith, is)) i

    by : (rows : RowsOf (RouteOf T)) → ArePlain rows → lookup path rows ≡ None
    by [] plain = refl
    by ((t, r) ∷ rows) plain =
        rw (differs t path (λ same. none (subst IsUtf8 same (IsUtf8-from_ascii t (ascii t plain.0))))) (by rows plain.1)
