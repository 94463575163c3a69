-- Each source is asked for once.
use Rattle.std.proofs.Common.{◌≡◌, ◌≢◌, ℕ, zero, suc, ◌+◌, ◌≤◌, ◌<◌, Bool, true, false, List, [], ◌∷◌, ◌++◌, length, length-take-le, take, slice_index_or, Result, Ok, Err, OnOk, refl, sym, ap, ◌∙◌, subst, arith}
use Rattle.std.specs.Prelude.{if◌then◌else◌}
use Rattle.std.specs.Result.{is_err}
use Rattle.std.specs.Str.{bytes_eq}
use Rattle.std.proofs.lemmas.Bool.{false≢true}
use Rattle.std.proofs.lemmas.List.{take_all, take_more}
use Rattle.std.proofs.lemmas.Slice.Eq.{bytes_eq-Decides}
use Rattle.tk_io.specs.Faults.{counted, Rose}
use Rattle.source_api.specs.declared.ledger.PlaceCounts.{PlaceCounts}
use Rattle.source_api.specs.Places.{SameElsewhere}
use Rattle.catalog_text.specs.Catalog.{Listed as Entry}
use Rattle.catalog_open.specs.Entries.{entry_at}
use Rattle.catalog_open.specs.Openings.{AsksAtMost, AsksEachAtMostOnce, AsksEachOnce, AsksFor, Counted, PutsBack, Used, counted_times, marked_at, one_at}
use Rattle.catalog_open.proofs.Moving.{times_add}

counted_on : (a b : ℕ) → a ≤ b → counted a ≤ counted b
counted_on a b h = omega (arith, h)

times_on : (n a b : ℕ) → a ≤ b → counted_times n a ≤ counted_times n b
times_on zero a b h = h
times_on (suc n) a b h = counted_on (counted_times n a) (counted_times n b) (times_on n a b h)

-- it wasn't asked for
pub asks_none : (before now : PlaceCounts) → now ≡ before → AsksFor 0 before now
asks_none before now same =
    let faults : now.take_faults ≡ before.take_faults = ap (λ (c : PlaceCounts). c.take_faults) same in
    record { given = 0; failed = 0; all = refl; taken = ap (λ (c : PlaceCounts). c.taken) same; faults = omega (arith, faults); quiet = λ none. faults }

-- one call gave a source
pub asks_given : (before now : PlaceCounts) → now.taken ≡ counted before.taken → now.take_faults ≡ before.take_faults → AsksFor 1 before now
asks_given before now taken same = record { given = 1; failed = 0; all = refl; taken = taken; faults = omega (arith, same); quiet = λ none. same }

-- one call failed
pub asks_failed : (before now : PlaceCounts) → now.taken ≡ before.taken → Rose before.take_faults now.take_faults → AsksFor 1 before now
asks_failed before now taken rose = record { given = 0; failed = 1; all = refl; taken = taken; faults = rose; quiet = λ none. absurd (omega (arith, none)) }

-- memory was refused
pub few_none : (most : ℕ) (before now : PlaceCounts) → now ≡ before → AsksAtMost most before now
few_none most before now same = record { calls = 0; few = omega arith; asks = asks_none before now same }

-- exactly so many times is at most so many
pub few_asked : (calls : ℕ) (before now : PlaceCounts) → AsksFor calls before now → AsksAtMost calls before now
few_asked calls before now asks = record { calls = calls; few = omega arith; asks = asks }

-- calls, and then further ones
pub asks_then : (m n calls : ℕ) (before mid now : PlaceCounts) → AsksFor m before mid → AsksFor n mid now → calls ≡ m + n → AsksFor calls before now
asks_then m n calls before mid now first second all =
    let faults : counted_times (second.failed + first.failed) before.take_faults ≡ counted_times second.failed (counted_times first.failed before.take_faults) =
    times_add second.failed first.failed before.take_faults in
    let on = times_on second.failed (counted_times first.failed before.take_faults) mid.take_faults first.faults in
    record {
      given = second.given + first.given;
      failed = second.failed + first.failed;
      all = omega (arith, first.all, second.all, all);
      taken = second.taken ∙ ap (counted_times second.given) first.taken ∙ sym (times_add second.given first.given before.taken);
      faults = subst (λ n. n ≤ now.take_faults) (sym faults) (omega (arith, on, second.faults));
      quiet = λ none. second.quiet (omega (arith, none)) ∙ first.quiet (omega (arith, none));
    }

pub few_then : (m n most : ℕ) (before mid now : PlaceCounts) → AsksAtMost m before mid → AsksAtMost n mid now → most ≡ m + n → AsksAtMost most before now
few_then m n most before mid now first second all = record {
  calls = first.calls + second.calls;
  few = omega (arith, first.few, second.few, all);
  asks = asks_then first.calls second.calls (first.calls + second.calls) before mid now first.asks second.asks refl;
}

-- at one place it was asked for so, and elsewhere not
here_alone : (R : ℕ → PlaceCounts → PlaceCounts → Type 0) → ((c d : PlaceCounts) → d ≡ c → R 0 c d) → (here text : List ℕ) (before now : Counted) → here ≡ text
    → SameElsewhere text before now → R 1 (before text) (now text) → (place : List ℕ) → R (one_at here place) (before place) (now place)
here_alone R none here text before now is elsewhere one place =
    subst (λ t. R (one_at t place) (before place) (now place)) (sym is)
    (elim (bytes_eq text place) as (λ t. bytes_eq text place ≡ t → R (one_at text place) (before place) (now place)) [
      | true ↦ λ e. subst (λ n. R n (before place) (now place)) (sym (ap (λ b. if b then 1 else 0) e)) (subst (λ p. R 1 (before p) (now p)) ((bytes_eq-Decides text place).0 e) one)
      | false ↦ λ e.
          let apart : place ≢ text = λ same. false≢true (sym e ∙ (bytes_eq-Decides text place).1 (sym same)) in
          subst (λ n. R n (before place) (now place)) (sym (ap (λ b. if b then 1 else 0) e)) (none (before place) (now place) (elsewhere place apart))
    ] refl)

pub asks_here : (here text : List ℕ) (before now : Counted) → here ≡ text → SameElsewhere text before now → AsksFor 1 (before text) (now text) → (place : List ℕ)
    → AsksFor (one_at here place) (before place) (now place)
asks_here here text before now is elsewhere one = here_alone AsksFor asks_none here text before now is elsewhere one

no_marks : (catalog : List Entry) (place : List ℕ) → marked_at catalog [] place ≡ 0
no_marks [] place = refl
no_marks (entry ∷ catalog) place = refl

-- one entry more
marked_more : (catalog : List Entry) (marks : List Bool) (marked : Bool) (place : List ℕ) → length marks < length catalog
    → marked_at catalog (marks ++ marked ∷ []) place ≡ marked_at catalog marks place + (if marked then one_at (entry_at catalog (length marks)).place place else 0)
marked_more [] marks marked place h = absurd (omega (arith, h))
marked_more (entry ∷ catalog) [] marked place h = let none = no_marks catalog place in omega (arith, none)
marked_more (entry ∷ catalog) (mark ∷ marks) marked place h = let more = marked_more catalog marks marked place (omega (arith, h)) in omega (arith, more)

pub once_none : (catalog : List Entry) (before : Counted) → AsksEachOnce catalog [] before before
once_none catalog before = λ place. subst (λ n. AsksFor n (before place) (before place)) (sym (no_marks catalog place)) (asks_none (before place) (before place) refl)

-- the next entry was visited
visited : (R : ℕ → PlaceCounts → PlaceCounts → Type 0)
    → ((m n all : ℕ) (before mid now : PlaceCounts) → R m before mid → R n mid now → all ≡ m + n → R all before now)
    → (catalog : List Entry) (marks : List Bool) (i : ℕ) (before mid now : Counted) → length marks ≡ length catalog → i < length marks
    → ((place : List ℕ) → R (marked_at catalog (take i marks) place) (before place) (mid place))
    → ((place : List ℕ) → R (if slice_index_or marks i false then one_at (entry_at catalog i).place place else 0) (mid place) (now place))
    → (place : List ℕ) → R (marked_at catalog (take (i + 1) marks) place) (before place) (now place)
visited R joins catalog marks i before mid now many within so_far step place =
    let long : length (take i marks) ≡ i = length-take-le i marks (omega (arith, within)) in
    let marked = slice_index_or marks i false in
    let one : marked_at catalog (take (i + 1) marks) place ≡ marked_at catalog (take i marks) place + (if marked then one_at (entry_at catalog i).place place else 0) =
    ap (λ ms. marked_at catalog ms place) (take_more marks i false within)
    ∙ marked_more catalog (take i marks) marked place (omega (arith, long, many, within))
    ∙ ap (λ n. marked_at catalog (take i marks) place + (if marked then one_at (entry_at catalog n).place place else 0)) long in
    joins (marked_at catalog (take i marks) place) (if marked then one_at (entry_at catalog i).place place else 0) (marked_at catalog (take (i + 1) marks) place)
    (before place) (mid place) (now place) (so_far place) (step place) one

pub once_more : (catalog : List Entry) (marks : List Bool) (i : ℕ) (before mid now : Counted) → length marks ≡ length catalog → i < length marks
    → AsksEachOnce catalog (take i marks) before mid
    → ((place : List ℕ) → AsksFor (if slice_index_or marks i false then one_at (entry_at catalog i).place place else 0) (mid place) (now place))
    → AsksEachOnce catalog (take (i + 1) marks) before now
once_more = visited AsksFor asks_then

pub few_each : (catalog : List Entry) (marks : List Bool) (before now : Counted) → AsksEachOnce catalog marks before now → AsksEachAtMostOnce catalog marks before now
few_each catalog marks before now once = λ place. few_asked (marked_at catalog marks place) (before place) (now place) (once place)

-- all entries were visited
pub once_all : (catalog : List Entry) (marks : List Bool) (i : ℕ) (before now : Counted) → length marks ≤ i → AsksEachOnce catalog (take i marks) before now
    → AsksEachOnce catalog marks before now
once_all catalog marks i before now all so_far = subst (λ ms. AsksEachOnce catalog ms before now) (take_all i marks all) so_far

-- some entries, and all
marked_front : (catalog : List Entry) (marks : List Bool) (i : ℕ) (place : List ℕ) → marked_at catalog (take i marks) place ≤ marked_at catalog marks place
marked_front catalog marks zero place = let none = no_marks catalog place in omega (arith, none)
marked_front [] marks (suc i) place = omega arith
marked_front (entry ∷ catalog) [] (suc i) place = omega arith
marked_front (entry ∷ catalog) (mark ∷ marks) (suc i) place = let rest = marked_front catalog marks i place in omega (arith, rest)

few_all : (catalog : List Entry) (marks : List Bool) (i : ℕ) (before now : Counted) → AsksEachAtMostOnce catalog (take i marks) before now
    → AsksEachAtMostOnce catalog marks before now
few_all catalog marks i before now so_far = λ place.
    let t = so_far place in
    let front = marked_front catalog marks i place in
    record { calls = t.calls; few = omega (arith, t.few, front); asks = t.asks }

-- memory was refused at an entry
pub few_more : (catalog : List Entry) (marks : List Bool) (i : ℕ) (before mid now : Counted) → length marks ≡ length catalog → i < length marks
    → AsksEachOnce catalog (take i marks) before mid
    → ((place : List ℕ) → AsksAtMost (if slice_index_or marks i false then one_at (entry_at catalog i).place place else 0) (mid place) (now place))
    → AsksEachAtMostOnce catalog marks before now
few_more catalog marks i before mid now many within so_far step =
    few_all catalog marks (i + 1) before now
    (visited AsksAtMost few_then catalog marks i before mid now many within (few_each catalog (take i marks) before mid so_far) step)

-- putting sources back asks for none
pub few_back : (catalog : List Entry) (marks : List Bool) (back : List Used) (before mid now : Counted) → AsksEachAtMostOnce catalog marks before mid → PutsBack back mid now
    → AsksEachAtMostOnce catalog marks before now
few_back catalog marks back before mid now so_far puts = λ place.
    let t = so_far place in
    let asks = t.asks in
    let same : (now place).take_faults ≡ (mid place).take_faults = puts.takes place in
    record {
      calls = t.calls;
      few = t.few;
      asks = record {
        given = asks.given;
        failed = asks.failed;
        all = asks.all;
        taken = puts.taken place ∙ asks.taken;
        faults = subst (λ n. counted_times asks.failed (before place).take_faults ≤ n) (sym same) asks.faults;
        quiet = λ none. same ∙ asks.quiet none;
      };
    }

pub once_back : (catalog : List Entry) (marks : List Bool) (back : List Used) (before mid now : Counted) → AsksEachOnce catalog marks before mid → PutsBack back mid now
    → AsksEachOnce catalog marks before now
once_back catalog marks back before mid now so_far puts = λ place.
    let asks = so_far place in
    let same : (now place).take_faults ≡ (mid place).take_faults = puts.takes place in
    record {
      given = asks.given;
      failed = asks.failed;
      all = asks.all;
      taken = puts.taken place ∙ asks.taken;
      faults = subst (λ n. counted_times asks.failed (before place).take_faults ≤ n) (sym same) asks.faults;
      quiet = λ none. same ∙ asks.quiet none;
    }

-- what holds unless memory was refused
pub unless_short : {A E : Type 0} (r : Result A E) (P : Type 0) → OnOk r P → is_err r ≡ false → P
unless_short (Ok x) P h e = h
unless_short (Err why) P h e = absurd cc
