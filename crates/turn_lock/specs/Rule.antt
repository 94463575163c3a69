-- What holds between any two steps on a lock: of its words, of the slot, and of all passes.
-- The words are the next ticket, the ticket whose turn it is, both modulo 2^64, and the length of the log.
use Rattle.std.specs.Prelude.{◌≡◌, ℕ, zero, suc, ◌+◌, ◌%◌, ◌^◌, ◌<◌, ◌≤◌, List, [], ◌∷◌, length, Contains, true, false, Option, Some, None}
use mathlib.Core.Option as slot
use lib.ListN.{get_elem?}
use Rattle.atomic_table.specs.Table.{State, Me}
use Rattle.turn_lock.specs.declared.facts.Facts.{Facts}
use Rattle.turn_lock.specs.declared.known.Known.{Known}
use Rattle.turn_lock.specs.declared.view.View.{View}
use Rattle.turn_lock.specs.Known.{all_parts, opened, IsPastOf, HasAll}

-- the words, the slot and the views of a lock's table
abbrev pub LockState : Type 0 → Type 0 → Type 0
LockState V E = State (Option V) (View E)

-- the view of one pass, and the slot with what it has in it
abbrev pub PassState : Type 0 → Type 0 → Type 0
PassState V E = Me (Option V) (View E)

-- a number of each, added up
abbrev pub total : {A : Type 0} → (A → ℕ) → List A → ℕ
total f [] = 0
total f (x ∷ xs) = f x + total f xs

-- 1 where there is something
abbrev pub count_some : {A : Type 0} → Option A → ℕ
count_some None = 0
count_some (Some _) = 1

module _ {E : Type 0} where
  -- how many parts a pass has
  abbrev pub parts_of : View E → ℕ
  parts_of v = v.known.parts

  -- how many asks its turns added
  abbrev pub asked_of : View E → ℕ
  asked_of v = v.known.asked

  -- 1 where it drew a ticket and has not passed the turn on
  abbrev pub drew : View E → ℕ
  drew v = count_some v.ticket

  -- 1 where it has the turn
  abbrev pub has_turn : View E → ℕ
  has_turn v = count_some v.known.held

  -- how many passes wait or have the turn
  abbrev pub queue : List (View E) → ℕ
  queue views = total drew views

  -- what a pass knows that no longer lives
  abbrev pub nobody : Known E
  nobody = record {
    name = (0, 0);
    seen = [];
    met = [];
    tally = record { failed = 0; garbled = 0; memory = 0 };
    sight = record { mark = 0; due = 0 };
    high = 0;
    asked = 0;
    mine = [];
    parts = 0;
    turns = 0;
    gave = [];
    writer = false;
    held = None;
  }

  -- a pass that waits for nothing
  abbrev pub resting : Known E → View E
  resting known = record { ticket = None; known = known; one = nobody; other = nobody; offer = 0 }

  -- the pass that opens a lock
  abbrev pub first_view : Facts E → View E
  first_view f = resting (opened f)

  -- a pass that was joined to another
  abbrev pub spent_view : View E
  spent_view = resting nobody

  -- what a pass knows fits what is in force
  pub record Knows (writer : ℕ) (now : Facts E) (seat : ℕ) (pass : Known E) : Type 0 where
    pub name : 0 < pass.parts → now.name ≡ pass.name
    pub past : IsPastOf now pass
    pub role : pass.writer ≡ true → (seat ≡ writer) × HasAll now pass
    pub sight : pass.sight.mark ≤ now.mark
    pub high : pass.high ≤ now.mark
    pub spent : pass.parts ≡ 0 → (pass.high ≡ 0) × (pass.asked ≡ 0)
    pub mine : length pass.mine ≡ pass.asked

  -- the ticket of a pass waits to be served, and who has the turn is served and took what is in force; another pass that was joined to it
  -- was one of the same value
  pub record Fits (serving length writer : ℕ) (now : Facts E) (seat : ℕ) (v : View E) : Type 0 where
    pub ticket : (k : ℕ) → v.ticket ≡ Some k → (serving ≤ k) × (k < serving + length)
    pub turn : (f : Facts E) → v.known.held ≡ Some f → (v.ticket ≡ Some serving) × (f ≡ now)
    pub spent : v.known.parts ≡ 0 → v.ticket ≡ None
    pub knows : Knows writer now seat v.known
    pub one : IsPastOf now v.one
    pub other : IsPastOf now v.other
    pub twin : 0 < v.other.parts → v.other.name ≡ v.known.name

  -- no two passes have one ticket
  abbrev pub Apart : List (View E) → Type 0
  Apart views = (i j k : ℕ) (v w : View E) → get_elem? views i ≡ slot.some v → get_elem? views j ≡ slot.some w → v.ticket ≡ Some k
      → w.ticket ≡ Some k → i ≡ j

  -- some pass raised the mark so high
  abbrev pub Reached : ℕ → List (View E) → Type 0
  Reached mark views = (seat : ℕ) × (v : View E) × (get_elem? views seat ≡ slot.some v) × (mark ≤ v.known.high)

  -- some pass added the ask
  abbrev pub IsAdded : ℕ → List (View E) → Type 0
  IsAdded ask views = (seat : ℕ) × (v : View E) × (get_elem? views seat ≡ slot.some v) × Contains v.known.mine ask

-- the words of the table, for what is served, how many are in the queue, and the length of the log
abbrev pub words_of : ℕ → ℕ → ℕ → List ℕ
words_of serving length entries = ((serving + length) % 2 ^ 64) ∷ (serving % 2 ^ 64) ∷ entries ∷ []

module _ {V E : Type 0} (facts : V → Facts E) where
  -- the value is at home, with the facts in force, where no pass has the turn
  abbrev pub Shelf : ℕ → Facts E → List (slot.Option (Option V)) → Type 0
  Shelf zero now homes = (y : V) × (homes ≡ slot.some (Some y) ∷ []) × (facts y ≡ now)
  Shelf (suc _) now homes = homes ≡ slot.none ∷ []

  -- the rule but for its sums: the words, each pass, the tickets and the slot
  pub record Core (serving writer : ℕ) (now : Facts E) (s : LockState V E) : Type 0 where
    pub words : s.words ≡ words_of serving (queue s.views) (length now.log)
    pub each : (seat : ℕ) (v : View E) → get_elem? s.views seat ≡ slot.some v → Fits serving (queue s.views) writer now seat v
    pub apart : Apart s.views
    pub shelf : Shelf (total has_turn s.views) now s.homes

  -- the rule of the lock: the parts add up to all, the asks to those in force, some pass set the mark, and each ask was added by some pass
  pub record Ruled (s : LockState V E) : Type 0 where
    pub serving : ℕ
    pub writer : ℕ
    pub now : Facts E
    pub core : Core serving writer now s
    pub whole : total parts_of s.views ≡ all_parts
    pub asked : total asked_of s.views ≡ length now.asks
    pub reached : Reached now.mark s.views
    pub mine : (ask : ℕ) → Contains now.asks ask → IsAdded ask s.views
