-- A run as a whole.
use Rattle.std.proofs.Common.{◌≡◌, ℕ, ◌<◌, Bool, List, ◌++◌, All, Contains, length, reverse, slice_index_or, Option, true, false, refl, sym, ◌∙◌, subst}
use Rattle.std.proofs.lemmas.List.{ext_get_or, get_or_default}
use Rattle.ranked_list.specs.declared.row.Row.{Row}
use Rattle.source_api.specs.declared.counts.Counts.{Counts}
use Rattle.source_api.specs.Calls.{Call}
use Rattle.catalog_text.specs.Catalog.{Listed as Entry}
use Rattle.catalog_open.specs.declared.opened.Opening.{Opening}
use Rattle.catalog_open.specs.declared.opened.Opening.TheVariants.{Closed, Open}
use Rattle.catalog_open.specs.Views.{view_over, nothing_told}
use Rattle.catalog_open.specs.Entries.{opening_at, is_marked, IsMarked}
use Rattle.topk_base.specs.declared.settings.Settings.{Settings}
use Rattle.query_admission.specs.declared.line_outcome.LineOutcome.{LineOutcome}
use Rattle.catalog_run.specs.Runs.{AsksWantedAtMostOnce, AsksWantedOnce, IsRun, RanOver}
use Rattle.catalog_open.specs.Wanted.{IsWanted, AreMarked}
use Rattle.catalog_open.specs.Openings.{AsksEachAtMostOnce, marked_at, Counted, Used, IsUnread, GivesNothing, Moves, PutsBack, standing, KeepsOthers, Sources, IsOpening, AreOpened, put_back}
use Rattle.catalog_open.proofs.Moving.{moves_back, keeps_then}
use Rattle.catalog_open.proofs.Back.{back_standing}
use Rattle.catalog_open.proofs.Once.{few_back, few_none}
use Rattle.catalog_open.proofs.Opens.{numbered_within}

opening_for : (lists : List ℕ → Option (List Row)) (versions : List ℕ → Option ℕ) (catalog : List Entry) (s : Sources) (W V : ℕ → Type 0) (before now : Counted) (place : ℕ) (o : Opening)
    → ((p : ℕ) → W p → V p) → ((p : ℕ) → V p → W p)
    → IsOpening lists versions catalog s W before now place o → IsOpening lists versions catalog s V before now place o
opening_for lists versions catalog s W V before now place Closed to from is = λ v. is (from place v)
opening_for lists versions catalog s W V before now place (Open size source version) to from is = (to place is.0, is.1)

-- the same sources are wanted, in other words
pub opened_for : (lists : List ℕ → Option (List Row)) (versions : List ℕ → Option ℕ) (catalog : List Entry) (W V : ℕ → Type 0) (before now : Counted) (openings : List Opening) (s : Sources)
    → ((p : ℕ) → W p → V p) → ((p : ℕ) → V p → W p)
    → AreOpened lists versions catalog W before now openings s → AreOpened lists versions catalog V before now openings s
opened_for lists versions catalog W V before now openings s to from are = record {
  each = λ place within. opening_for lists versions catalog s W V before now place (opening_at openings place) to from (are.each place within);
  numbered = are.numbered;
  many_told = are.many_told;
  many_versions = are.many_versions;
  many_counts = are.many_counts;
  small = are.small;
  used = are.used;
  moves = are.moves;
  others = λ place apart. are.others place (λ entry w. apart entry (to entry w));
}

pub opened_marked : (lists : List ℕ
    → Option (List Row)) (versions : List ℕ → Option ℕ) (catalog : List Entry) (lines : List (List ℕ)) (marks : List Bool) (before now : Counted) (openings : List Opening) (s : Sources) → AreMarked catalog lines marks
    → AreOpened lists versions catalog (IsMarked marks) before now openings s → AreOpened lists versions catalog (IsWanted catalog lines) before now openings s
opened_marked lists versions catalog lines marks before now openings s marked are = opened_for lists versions catalog (IsMarked marks) (IsWanted catalog lines) before now openings s marked.wanted marked.marked are

-- an open source is wanted
pub open_wanted : (lists : List ℕ → Option (List Row)) (versions : List ℕ → Option ℕ) (catalog : List Entry) (W : ℕ → Type 0) (before now : Counted) (openings : List Opening) (s : Sources)
    → AreOpened lists versions catalog W before now openings s
    → (source : ℕ) → source < length s.places → W (slice_index_or s.places source 0)
open_wanted lists versions catalog W before now openings s are source within =
    let place = slice_index_or s.places source 0 in
    let is = are.numbered source within in
    let opening : IsOpening lists versions catalog s W before now place (Open is.size source is.version) = subst (IsOpening lists versions catalog s W before now place) is.open_as (are.each place (numbered_within catalog openings place source is)) in
    opening.0

member_is : (xs : List ℕ) (x : ℕ) → (c : Contains xs x) → slice_index_or xs c.0 0 ≡ x
member_is xs x c = get_or_default xs c.0 0 x c.1 ∙ c.2

-- putting back keeps the others
pub back_keeps : (lists : List ℕ → Option (List Row)) (versions : List ℕ → Option ℕ) (catalog : List Entry) (W : ℕ
    → Type 0) (before mid now : Counted) (openings : List Opening) (s : Sources) → AreOpened lists versions catalog W before mid openings s
    → KeepsOthers catalog (Contains s.places) mid now → KeepsOthers catalog W before now
back_keeps lists versions catalog W before mid now openings s are back =
    keeps_then catalog W before mid now are.others
    (λ place apart. back place (λ entry c. apart entry (subst W (member_is s.places entry c) (open_wanted lists versions catalog W before mid openings s are c.0 (c.1)))))

-- the whole run
pub is_run : (catalog : List Entry) (lines : List (List ℕ)) (lists : List ℕ
    → Option (List Row)) (versions : List ℕ → Option ℕ) (settings : Settings) (before mid after : Counted) (openings : List Opening) (s : Sources) (begun now : List Counts) (made calls : List (Option (List Call))) (outcomes : List LineOutcome)
    → AreOpened lists versions catalog (IsWanted catalog lines) before mid openings s → length openings ≡ length catalog → AsksWantedOnce catalog lines before mid
    → ((place : List ℕ) → GivesNothing (before place) (mid place)) → All IsUnread begun
    → RanOver settings s begun now made calls (view_over catalog openings nothing_told) lines outcomes → PutsBack (reverse (put_back catalog s.places now)) mid after
    → IsRun (record { catalog = catalog; lines = lines; lists = lists; versions = versions; settings = settings; before = before; after = after }) outcomes
is_run catalog lines lists versions settings before mid after openings s begun now made calls outcomes are all once idle unread ran back = record {
  openings = openings;
  sources = s;
  mid = mid;
  idle = idle;
  opened = are;
  all = all;
  once = once;
  begun = begun;
  unread = unread;
  now = now;
  made = made;
  calls = calls;
  ran = ran;
  back = back;
}

-- the marks of the sources that lines want are told by what is wanted
pub marked_same : (catalog : List Entry) (lines : List (List ℕ)) (marks others : List Bool) → AreMarked catalog lines marks → AreMarked catalog lines others → marks ≡ others
marked_same catalog lines marks others one other =
    ext_get_or false marks others (one.many ∙ sym other.many)
    (λ place within. same (is_marked marks place) (is_marked others place) (λ is. other.marked place (one.wanted place is)) (λ is. one.marked place (other.wanted place is)))
  where
    same : (a b : Bool) → (a ≡ true → b ≡ true) → (b ≡ true → a ≡ true) → a ≡ b
    same true true to from = refl
    same true false to from = sym (to refl)
    same false true to from = from refl
    same false false to from = refl

-- the source of each wanted entry was asked for at most once, in other words, and also after the sources were put back
pub few_wanted : (catalog : List Entry) (lines : List (List ℕ)) (marks : List Bool) (before now : Counted) → AreMarked catalog lines marks
    → AsksEachAtMostOnce catalog marks before now → AsksWantedAtMostOnce catalog lines before now
few_wanted catalog lines marks before now marked few = λ others are. subst (λ ms. AsksEachAtMostOnce catalog ms before now) (marked_same catalog lines marks others marked are) few

pub few_still : (catalog : List Entry) (lines : List (List ℕ)) (before now : Counted) → ((place : List ℕ) → now place ≡ before place) → AsksWantedAtMostOnce catalog lines before now
few_still catalog lines before now same = λ marks are place. few_none (marked_at catalog marks place) (before place) (now place) (same place)

pub few_put : (catalog : List Entry) (lines : List (List ℕ)) (back : List Used) (before mid now : Counted) → AsksWantedAtMostOnce catalog lines before mid → PutsBack back mid now
    → AsksWantedAtMostOnce catalog lines before now
few_put catalog lines back before mid now few puts = λ marks are. few_back catalog marks back before mid now (few marks are) puts

-- what the shelf counted
pub run_moves : (lists : List ℕ → Option (List Row)) (versions : List ℕ → Option ℕ) (catalog : List Entry) (W : ℕ
    → Type 0) (before mid after : Counted) (openings : List Opening) (s : Sources) (now : List Counts) → length now ≡ length s.places
    → AreOpened lists versions catalog W before mid openings s → PutsBack (reverse (put_back catalog s.places now)) mid after → (used : List Used) × Moves used before after
run_moves lists versions catalog W before mid after openings s now many are back =
    let used = reverse (put_back catalog s.places now) in
    (are.used ++ used, moves_back (standing catalog s.places) are.used used before mid after are.moves back (λ place. back_standing catalog s.places now place many))
