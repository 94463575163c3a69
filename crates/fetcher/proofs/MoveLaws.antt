-- Where a log tells that the list of its source was replaced: turn by turn, and over turns.
use Rattle.std.proofs.Common.{◌≡◌, inl, inr, ℕ, Option, Some, None, List, [], ◌∷◌, ◌++◌, ◌≤◌, refl, sym, subst, ◌∙◌, arith}
use Rattle.std.proofs.lemmas.Bool.Decides.{eqb_tells}
use Rattle.ranked_list.specs.declared.row.Row.{Row}
use Rattle.tk_io.specs.Faults.{Rose}
use Rattle.turn_lock.specs.declared.known.Known.{Known}
use Rattle.source_state.specs.declared.entry.LogEntry.{LogEntry}
use Rattle.source_state.specs.declared.entry.LogEntry.TheVariants.{Settled}
use Rattle.source_state.specs.declared.entry.Settling.{Settling}
use Rattle.source_state.specs.declared.entry.Settling.TheVariants.{Bad, Missed}
use Rattle.source_state.specs.declared.entry.SourceFault.TheVariants.{Moved}
use Rattle.source_state.specs.Log.{rows_in, settling_in}
use Rattle.source_state.proofs.LogLaws.{settled_other, settled_same, fault_settling, fault_first}
use Rattle.source_state.specs.declared.event.Event.{Event}
use Rattle.source_state.specs.declared.event.Event.TheVariants as event
use Rattle.source_state.specs.State.{State, settle}
use Rattle.source_state.specs.Events as events
use Rattle.source_state.specs.Events.{logged, paged, MayPage, MayCome}
use Rattle.source_state.proofs.AskLaws.{pending_parts}
use Rattle.source_api.specs.declared.counts.Counts.{Counts}
use Rattle.source_api.specs.declared.source.Trouble.{Trouble}
use Rattle.source_api.specs.declared.source.Trouble.TheVariants as trouble
use Rattle.source_api.specs.Counting.{NoneFell, MovedHasCause}
use Rattle.fetcher.specs.declared.turned.Turned.{Turned}
use Rattle.fetcher.specs.declared.turned.Turned.TheVariants as turned
use Rattle.fetcher.specs.Turning.{IsFed, Brings, answer_by}
use Rattle.fetcher.specs.Moving.{IsMovedAs, TellsMove, IsCountedMove, MovesOnly, HasMovesOf}
use Rattle.fetcher.proofs.CauseLaws.{some_same, page_settling, page_no_move}
use Rattle.fetcher.proofs.EventLaws.{settling_fault}
use Rattle.fetcher.proofs.ToldLaws.{settle_tells}

-- what a turn tells of a move is what its call answered
pub answer_as : (version : ℕ) (told : Option ℕ) (object : ℕ) (grade : Option ℕ) → IsMovedAs version told (answer_by object grade)
answer_as version told object None = tt
answer_as version told object (Some grade) = tt

pub trouble_as : (version : ℕ) (told : Option ℕ) (why : Trouble) → MovedHasCause version told why → IsMovedAs version told (turned.Troubled why)
trouble_as version told why cause = cause

-- a page tells no move
page_moves : (P : ℕ → ℕ → Type 0) (s : State) (given : List Row) → MayPage s given → MovesOnly P s.log (paged s given).log
page_moves P s given may had other (inl e) = absurd (page_no_move s given may had other e)
page_moves P s given may had other (inr at) = inl (inr (at.0, sym (page_settling s given at.0) ∙ at.1))

-- one more settling
settled_moves : (P : ℕ → ℕ → Type 0) (s : State) (object : ℕ) (settling : Settling) → settling_in s.log object ≡ None
    → ((had other : ℕ) → settling ≡ Bad (Moved had other) → P had other) → MovesOnly P s.log (logged s (Settled object settling)).log
settled_moves P s object settling pending cause had other (inl e) = inl (inl (sym (settling_fault s object settling) ∙ e))
settled_moves P s object settling pending cause had other (inr at) =
    elim (eqb_tells object at.0) [
      | inl same ↦ inr (cause had other (some_same (sym (settled_same s.log object settling pending)
          ∙ subst (λ o. settling_in (s.log ++ Settled object settling ∷ []) o ≡ Some (Bad (Moved had other))) (sym same.1) at.1)))
      | inr apart ↦ inl (inr (at.0, sym (settled_other s.log object settling at.0 apart.1) ∙ at.1))
    ]

same_move : (P : ℕ → ℕ → Type 0) (had other h o : ℕ) → Moved had other ≡ Moved h o → P had other → P h o
same_move P had other h o e c =
    let one : had ≡ h = cc in
    let two : other ≡ o = cc in
    subst (λ n. P h n) two (subst (λ n. P n other) one c)

-- a move
moved_moves : (P : ℕ → ℕ → Type 0) (s : State) (object : Option ℕ) (had other : ℕ) → MayCome s (event.Move object had other) → P had other
    → MovesOnly P s.log (events.after s (event.Move object had other)).log
moved_moves P s None had other may cause h o (inl e) =
    inr (same_move P had other h o (some_same (sym (fault_first s.log (Moved had other) may.1.0) ∙ e)) cause)
moved_moves P s None had other may cause h o (inr at) = inl (inr (at.0, sym (fault_settling s.log (Moved had other) at.0) ∙ at.1))
moved_moves P s (Some object) had other may cause h o tells =
    settled_moves P s object (Bad (Moved had other)) (pending_parts s object may.1).1
    (λ h o e. let same : Moved had other ≡ Moved h o = cc in same_move P had other h o same cause) h o tells

-- what a feeder sees of an event
fed_moves : (P : ℕ → ℕ → Type 0) (e : Event) (k1 k2 : Known LogEntry) → (fed : IsFed e k1 k2) → MovesOnly P fed.found.log (events.after fed.found e).log
    → MovesOnly P k1.seen k2.seen
fed_moves P e k1 k2 fed h =
    subst (λ log. MovesOnly P log k2.seen) fed.is.log (subst (λ log. MovesOnly P fed.found.log log) (sym fed.sees.log) h)

same_moves : (P : ℕ → ℕ → Type 0) (before after : List LogEntry) → after ≡ before → MovesOnly P before after
same_moves P before after e = λ had other tells. inl (subst (λ log. TellsMove log had other) e tells)

-- one turn
pub turn_moves : (P : ℕ → ℕ → Type 0) (page ahead : ℕ) (list : Option (List Row)) (counts now : Counts) (k1 k2 : Known LogEntry) (answer : Turned)
    → Brings page ahead list counts now k1 k2 answer → ((had other : ℕ) → answer ≡ turned.Troubled (trouble.Moved had other) → P had other) → MovesOnly P k1.seen k2.seen
turn_moves P page ahead list counts now k1 k2 (turned.Paged rows) b cause =
    fed_moves P (event.Page b.given) k1 k2 b.fed (page_moves P b.fed.found b.given b.fed.may)
turn_moves P page ahead list counts now k1 k2 (turned.Graded object) b cause =
    fed_moves P (event.Grade object b.grade) k1 k2 b.fed
    (settled_moves P b.fed.found object (settle (rows_in b.fed.found.log) object b.grade) (pending_parts b.fed.found object b.fed.may).1
    (λ had other e. absurd (settle_tells (rows_in b.fed.found.log) object b.grade (Moved had other) e)))
turn_moves P page ahead list counts now k1 k2 (turned.Missed object) b cause =
    fed_moves P (event.Miss object) k1 k2 b.fed
    (settled_moves P b.fed.found object Missed (pending_parts b.fed.found object b.fed.may).1
    (λ had other e. absurd (let bad : Missed ≡ Bad (Moved had other) = e in cc)))
turn_moves P page ahead list counts now k1 k2 (turned.Troubled (trouble.Fail what)) b cause = same_moves P k1.seen k2.seen b.seen
turn_moves P page ahead list counts now k1 k2 (turned.Troubled (trouble.Moved had other)) b cause =
    fed_moves P (event.Move b.object had other) k1 k2 b.fed (moved_moves P b.fed.found b.object had other b.fed.may (cause had other refl))
turn_moves P page ahead list counts now k1 k2 turned.Idle b cause = same_moves P k1.seen k2.seen b.seen

-- a turn that tells a move had its cause
pub rose_as : (page ahead : ℕ) (list : Option (List Row)) (counts now : Counts) (k1 k2 : Known LogEntry) (answer : Turned)
    → Brings page ahead list counts now k1 k2 answer → (had other : ℕ) → answer ≡ turned.Troubled (trouble.Moved had other) → Rose counts.moves now.moves
rose_as page ahead list counts now k1 k2 answer b had other e =
    let brought : Brings page ahead list counts now k1 k2 (turned.Troubled (trouble.Moved had other)) = subst (Brings page ahead list counts now k1 k2) e b in
    brought.cause

pub counted_as : (version : ℕ) (told : Option ℕ) (page ahead : ℕ) (list : Option (List Row)) (counts now : Counts) (k1 k2 : Known LogEntry) (answer : Turned)
    → Brings page ahead list counts now k1 k2 answer → IsMovedAs version told answer → (had other : ℕ) → answer ≡ turned.Troubled (trouble.Moved had other)
    → IsCountedMove version told counts now had other
counted_as version told page ahead list counts now k1 k2 answer b said had other e =
    record { move = subst (IsMovedAs version told) e said; counted = rose_as page ahead list counts now k1 k2 answer b had other e }

-- no turn, and one more turn
pub moves_none : (P : ℕ → ℕ → Type 0) (log : List LogEntry) → MovesOnly P log log
moves_none P log = λ had other tells. inl tells

pub moves_more : (P Q R : ℕ → ℕ → Type 0) (before middle after : List LogEntry) → ((had other : ℕ) → P had other → R had other)
    → ((had other : ℕ) → Q had other → R had other) → MovesOnly P before middle → MovesOnly Q middle after → MovesOnly R before after
moves_more P Q R before middle after p q a b = λ had other tells.
    elim (b had other tells) [
      | inl earlier ↦ elim (a had other earlier) [ inl was ↦ inl was | inr one ↦ inr (p had other one) ]
      | inr one ↦ inr (q had other one)
    ]

pub rose_later : (before middle now : ℕ) → before ≤ middle → Rose middle now → Rose before now
rose_later before middle now h rose = omega arith

pub rose_still : (before middle now : ℕ) → middle ≤ now → Rose before middle → Rose before now
rose_still before middle now h rose = omega arith

pub counted_more : (version : ℕ) (told : Option ℕ) (c0 c1 c2 : Counts) (before middle after : List LogEntry) → NoneFell c0 c1 → NoneFell c1 c2
    → HasMovesOf version told c0 c1 before middle → HasMovesOf version told c1 c2 middle after → HasMovesOf version told c0 c2 before after
counted_more version told c0 c1 c2 before middle after first last a b =
    moves_more (λ had other. IsCountedMove version told c0 c1 had other) (λ had other. IsCountedMove version told c1 c2 had other)
    (λ had other. IsCountedMove version told c0 c2 had other) before middle after
    (λ had other one. record { move = one.move; counted = rose_still c0.moves c1.moves c2.moves last.moves one.counted })
    (λ had other one. record { move = one.move; counted = rose_later c0.moves c1.moves c2.moves first.moves one.counted }) a b
