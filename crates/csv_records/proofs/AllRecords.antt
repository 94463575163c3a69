-- The records that a reader gives until it finds none are all records of its text.
use Rattle.std.proofs.Common.{◌≡◌, ◌≤◌, ◌<◌, ◌+◌, ℕ, zero, suc, Bool, true, false, cond, ◌==◌, ◌||◌, ◌&&◌, List, [], ◌∷◌, ◌++◌, length, Some, None, refl, sym, ap, ◌∙◌, subst, arith}
use Rattle.csv.specs.Machine.{Read, next_record, step, in_field, start_field, start_record, is_end, ends_at_end, fields_after, field_after}
use Rattle.csv.specs.Reading.{default_config, records, records_from, records_next, Reached}
use Rattle.csv.specs.declared.parser.State.{State}
use Rattle.csv.specs.declared.parser.State.TheVariants as st
use Rattle.csv.specs.declared.parser.Action.{Action}
use Rattle.csv.specs.declared.parser.Action.TheVariants as act

-- a state between two records
abbrev pub IsBetween : State → Type 0
IsBetween st.StartRecord = Unit {0}
IsBetween st.AfterCr = Unit {0}
IsBetween st.StartField = ⊥
IsBetween st.InField = ⊥
IsBetween st.InQuoted = ⊥
IsBetween st.AfterQuote = ⊥
IsBetween st.InEscape = ⊥
IsBetween st.InComment = ⊥

-- a step that ends a record leaves a state between two
abbrev pub EndsBetween : State × Action → Type 0
EndsBetween next = is_end next.1 ≡ true → IsBetween next.0

either : (b : Bool) (x y : State × Action) → EndsBetween x → EndsBetween y → EndsBetween (cond {A = State × Action} b x y)
either true x y first second = first
either false x y first second = second

goes_on : (s : State) (a : Action) → is_end a ≡ false → EndsBetween (s, a)
goes_on s a on h = absurd (cc)

ended : (c : ℕ) (b : Bool) → IsBetween (cond b st.AfterCr st.StartRecord)
ended c true = tt
ended c false = tt

field_step : (c : ℕ) → EndsBetween (in_field default_config c)
field_step c =
    either (c == 44) (st.StartField, act.EndField) _ (goes_on st.StartField act.EndField refl)
    (either ((c == 13) || (c == 10)) (cond (c == 13) st.AfterCr st.StartRecord, act.EndRecord) (st.InField, act.Copy) (λ h. ended c (c == 13)) (goes_on st.InField act.Copy refl))

start_field_step : (c : ℕ) → EndsBetween (start_field default_config c)
start_field_step c = either (true && (c == 34)) (st.InQuoted, act.Skip) (in_field default_config c) (goes_on st.InQuoted act.Skip refl) (field_step c)

start_record_step : (c : ℕ) → EndsBetween (start_record default_config c)
start_record_step c =
    either ((c == 13) || (c == 10)) (st.StartRecord, act.Skip) _ (goes_on st.StartRecord act.Skip refl) (start_field_step c)

step_ends : (s : State) (c : ℕ) → EndsBetween (step default_config s c)
step_ends st.StartRecord c = start_record_step c
step_ends st.StartField c = start_field_step c
step_ends st.InField c = field_step c
step_ends st.InQuoted c = either (true && (c == 34)) (st.AfterQuote, act.Skip) (st.InQuoted, act.Copy) (goes_on st.AfterQuote act.Skip refl) (goes_on st.InQuoted act.Copy refl)
step_ends st.InEscape c = goes_on st.InQuoted act.Copy refl
step_ends st.AfterQuote c = either (true && true && (c == 34)) (st.InQuoted, act.Copy) (in_field default_config c) (goes_on st.InQuoted act.Copy refl) (field_step c)
step_ends st.InComment c = either (c == 10) (st.StartRecord, act.Skip) (st.InComment, act.Skip) (goes_on st.StartRecord act.Skip refl) (goes_on st.InComment act.Skip refl)
step_ends st.AfterCr c = either (c == 10) (st.StartRecord, act.Skip) (start_record default_config c) (goes_on st.StartRecord act.Skip refl) (start_record_step c)

-- what a read leaves
pub record Leaves (most : ℕ) (q : Read) : Type 0 where
  pub between : IsBetween q.1
  pub shorter : length q.2 ≤ most

leaves_as : (most : ℕ) (p q : Read) → Leaves most p → Some p ≡ Some q → Leaves most q
leaves_as most p q h e = let same : p ≡ q = cc in subst (Leaves most) same h

more_room : (most : ℕ) (q : Read) → Leaves most q → Leaves (suc most) q
more_room most q h = record {
  between = h.between;
  shorter = let s = h.shorter in omega arith;
}

leaves : (s : State) (fields : List (List ℕ)) (field xs : List ℕ) (q : Read) → next_record default_config s fields field xs ≡ Some q → Leaves (length xs) q
unfolding next_record
leaves s fields field [] q e = by (ends_at_end s) e
  where
    by : (b : Bool) → cond b (Some (fields ++ (field ∷ []), st.StartRecord, [])) None ≡ Some q → Leaves 0 q
    by true e = leaves_as 0 (fields ++ (field ∷ []), st.StartRecord, []) q (record {
      between = tt;
      shorter = omega arith;
    }) e
    by false e = absurd (cc)
leaves s fields field (c ∷ rest) q e =
    by (is_end (step default_config s c).1) refl e
    (leaves (step default_config s c).0 (fields_after (step default_config s c).1 fields field) (field_after (step default_config s c).1 c field) rest q)
  where
    by : (b : Bool) → is_end (step default_config s c).1 ≡ b
        → cond b (Some (fields_after (step default_config s c).1 fields field, (step default_config s c).0, rest))
        (next_record default_config (step default_config s c).0 (fields_after (step default_config s c).1 fields field) (field_after (step default_config s c).1 c field) rest) ≡ Some q
        → (next_record default_config (step default_config s c).0 (fields_after (step default_config s c).1 fields field) (field_after (step default_config s c).1 c field) rest ≡ Some q → Leaves (length rest) q)
        → Leaves (suc (length rest)) q
    by true ends e more = leaves_as (suc (length rest)) (fields_after (step default_config s c).1 fields field, (step default_config s c).0, rest) q (record {
      between = step_ends s c ends;
      shorter = omega arith;
    }) e
    by false ends e more = more_room (length rest) q (more e)

-- from a state between two records each read takes a byte
pub record Takes (xs : List ℕ) (q : Read) : Type 0 where
  pub between : IsBetween q.1
  pub shorter : length q.2 < length xs

between_ends : (s : State) → IsBetween s → ends_at_end s ≡ false
between_ends st.StartRecord h = refl
between_ends st.AfterCr h = refl
between_ends st.StartField h = absurd h
between_ends st.InField h = absurd h
between_ends st.InQuoted h = absurd h
between_ends st.AfterQuote h = absurd h
between_ends st.InEscape h = absurd h
between_ends st.InComment h = absurd h

takes : (s : State) (xs : List ℕ) (q : Read) → IsBetween s → next_record default_config s [] [] xs ≡ Some q → Takes xs q
unfolding next_record
takes s [] q b e = by (ends_at_end s) (between_ends s b) e
  where
    by : (t : Bool) → t ≡ false → cond t (Some ([] ++ ([] ∷ []), st.StartRecord, [])) None ≡ Some q → Takes [] q
    by true off e = absurd (cc)
    by false off e = absurd (cc)
takes s (c ∷ rest) q b e = by (is_end (step default_config s c).1) refl e
  where
    by : (t : Bool) → is_end (step default_config s c).1 ≡ t
        → cond t (Some (fields_after (step default_config s c).1 [] [], (step default_config s c).0, rest))
        (next_record default_config (step default_config s c).0 (fields_after (step default_config s c).1 [] []) (field_after (step default_config s c).1 c []) rest) ≡ Some q
        → Takes (c ∷ rest) q
    by true ends e =
        let h = leaves_as (length rest) (fields_after (step default_config s c).1 [] [], (step default_config s c).0, rest) q (record {
          between = step_ends s c ends;
          shorter = omega arith;
        }) e in
        let less = h.shorter in record {
          between = h.between;
          shorter = omega arith;
        }
    by false ends e =
        let h = leaves (step default_config s c).0 (fields_after (step default_config s c).1 [] []) (field_after (step default_config s c).1 c []) rest q e in
        let less = h.shorter in record {
          between = h.between;
          shorter = omega arith;
        }

-- so as many turns as there are bytes, and one more, are enough
whole : (n : ℕ) (s s2 : State) (xs ys : List ℕ) (rows : List (List (List ℕ))) → IsBetween s → length xs < n
    → Reached default_config s xs rows s2 ys → next_record default_config s2 [] [] ys ≡ None → records_from default_config n s xs ≡ rows
unfolding Reached records_from
whole zero s s2 xs ys rows b l h none = absurd (omega arith)
whole (suc n) s s2 xs ys [] b l h none =
    ap (records_next (records_from default_config n))
    (subst (λ t. next_record default_config t [] [] xs ≡ None) (sym h.0) (subst (λ z. next_record default_config s2 [] [] z ≡ None) (sym h.1) none))
whole (suc n) s s2 xs ys (r ∷ rows) b l h none =
    let p = h.0 in
    let t = takes s xs p b h.1 in
    let less = t.shorter in
    ap (records_next (records_from default_config n)) h.1
    ∙ (ap (λ more. p.0 ∷ more) (whole n p.1 s2 p.2 ys rows t.between (omega arith) h.3 none) ∙ ap (λ f. f ∷ rows) (sym h.2))

pub are_all : (text ys : List ℕ) (s2 : State) (rows : List (List (List ℕ))) → Reached default_config st.StartRecord text rows s2 ys
    → next_record default_config s2 [] [] ys ≡ None → rows ≡ records default_config text
are_all text ys s2 rows h none = sym (whole (length text + 1) st.StartRecord s2 text ys rows tt (omega arith) h none)
