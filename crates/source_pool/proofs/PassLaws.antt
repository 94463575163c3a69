-- What a change of what is held of one source leaves of a pool's pass.
use Rattle.std.proofs.Common.{◌≡◌, ◌<◌, ℕ, List, length, get_or, set, sym, ap, subst, ◌∙◌}
use Rattle.std.proofs.lemmas.List.{get_or_read}
use Rattle.atomic_table.specs.Seated.{TableId}
use Rattle.source_state.specs.State.{IsSound}
use Rattle.source_pool.specs.declared.hold.Hold.{Hold}
use Rattle.source_pool.specs.Seen.{state_seen}
use Rattle.source_pool.specs.Remembering.{Remembers}
use Rattle.source_pool.specs.Holds.{no_lock, no_hold, IsFree}
use Rattle.source_pool.specs.Passes.{hold_at, IsPassOf, OthersStay}
use Rattle.source_pool.proofs.HoldLaws.{read_set, others_set, pass_set}

-- what a change of what is held of a source leaves of the pass, by the lists of the locks and of what is held
pub pass_given : (pool locks : List TableId) (holds items : List Hold) (source : ℕ) (table : TableId) (hold : Hold) → locks ≡ pool → items ≡ holds
    → IsPassOf pool holds → source < length pool → table ≡ get_or locks source table → IsFree table hold.pass → IsSound (state_seen hold.pass.1)
    → Remembers hold.pass.1.seen hold.remembered → IsPassOf pool (set items source hold)
pass_given pool locks holds items source table hold pool_is holds_is h within lock free sound remembers =
    let there : table ≡ get_or pool source table = lock ∙ ap (λ xs. get_or xs source table) pool_is in
    subst (λ xs. IsPassOf pool (set xs source hold)) (sym holds_is)
    (pass_set pool holds source hold h within (subst (λ t. IsFree t hold.pass) (get_or_read pool source table within there no_lock) free) sound remembers)

pub others_given : (holds items : List Hold) (source : ℕ) (hold : Hold) → items ≡ holds → OthersStay source holds (set items source hold)
others_given holds items source hold holds_is = subst (λ xs. OthersStay source holds (set xs source hold)) (sym holds_is) (others_set holds source hold)

-- what is known of a hold before and after its change is known of what the pass holds of its source
pub changed_there : (P : Hold → Hold → Type 0) (pool : List TableId) (holds items : List Hold) (source : ℕ) (before after : Hold) → items ≡ holds
    → IsPassOf pool holds → source < length pool → before ≡ get_or items source before → P before after
    → P (hold_at holds source) (hold_at (set items source after) source)
changed_there P pool holds items source before after holds_is h within held known =
    let lt : source < length holds = subst (λ n. source < n) (sym h.size) within in
    let there : before ≡ get_or holds source before = held ∙ ap (λ xs. get_or xs source before) holds_is in
    let its : before ≡ hold_at holds source = get_or_read holds source before lt there no_hold in
    subst (λ xs. P (hold_at holds source) (hold_at (set xs source after) source)) (sym holds_is)
    (subst (λ new. P (hold_at holds source) new) (sym (read_set holds source after lt)) (subst (λ old. P old after) its known))

-- what the pass keeps of the source is known of what is held of it
pub kept_there : (P : Hold → Type 0) (pool : List TableId) (holds items : List Hold) (source : ℕ) (hold : Hold) → items ≡ holds → IsPassOf pool holds
    → source < length pool → hold ≡ get_or items source hold → P (hold_at holds source) → P hold
kept_there P pool holds items source hold holds_is h within held known =
    let lt : source < length holds = subst (λ n. source < n) (sym h.size) within in
    let there : hold ≡ get_or holds source hold = held ∙ ap (λ xs. get_or xs source hold) holds_is in
    subst P (sym (get_or_read holds source hold lt there no_hold)) known
