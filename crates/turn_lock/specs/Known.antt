-- What a pass knows, what holds of it and the value that it takes, and how a turn, a split and a join change it.
use Rattle.std.specs.Prelude.{◌≡◌, ℕ, ◌+◌, ◌-◌, ◌≤◌, List, [], ◌∷◌, ◌++◌, length, drop, Contains, Bool, true, false, ◌||◌, max, Some, None, nat_lt, if◌then◌else◌}
use Rattle.turn_lock.specs.declared.facts.Tally.{Tally}
use Rattle.turn_lock.specs.declared.facts.Facts.{Facts}
use Rattle.turn_lock.specs.declared.known.Known.{Known}
use Rattle.turn_lock.specs.Facts.{IsFrontOf, AtMost}

-- all parts of a lock
abbrev pub all_parts : ℕ
all_parts = 4294967296

-- what a pass saw is how what is in force begins
pub record IsPastOf {E : Type 0} (now : Facts E) (pass : Known E) : Type 0 where
  pub seen : IsFrontOf pass.seen now.log
  pub met : IsFrontOf pass.met now.asks
  pub tally : AtMost pass.tally now.tally

-- the writer has seen the whole log and the whole tally
pub record HasAll {E : Type 0} (now : Facts E) (pass : Known E) : Type 0 where
  pub seen : pass.seen ≡ now.log
  pub tally : pass.tally ≡ now.tally

-- what the pass that has all parts did is all that was done
pub record DidAll {E : Type 0} (now : Facts E) (pass : Known E) : Type 0 where
  pub mark : now.mark ≡ pass.high
  pub asks : length now.asks ≡ pass.asked
  pub mine : (ask : ℕ) → Contains now.asks ask → Contains pass.mine ask

-- what holds of a pass and of the value that it takes
pub record KnowsOf {E : Type 0} (now : Facts E) (pass : Known E) : Type 0 where
  pub name : now.name ≡ pass.name
  pub past : IsPastOf now pass
  pub writer : pass.writer ≡ true → HasAll now pass
  pub sight : pass.sight.mark ≤ now.mark
  pub high : pass.high ≤ now.mark
  pub asked : pass.asked ≤ length now.asks
  pub mine : length pass.mine ≡ pass.asked
  pub whole : pass.parts ≡ all_parts → DidAll now pass

-- what a pass has seen is how what it sees later begins
pub record Follows {E : Type 0} (before after : Known E) : Type 0 where
  pub seen : IsFrontOf before.seen after.seen
  pub met : IsFrontOf before.met after.met
  pub tally : AtMost before.tally after.tally

-- the highest mark that a pass set, after a turn: the value's new mark where the turn raised it
abbrev pub raised : ℕ → ℕ → ℕ → ℕ
raised before after high = if nat_lt before after then after else high

module _ {E : Type 0} where
  -- the first pass of a lock
  abbrev pub opened : Facts E → Known E
  opened f = record {
    name = f.name;
    seen = f.log;
    met = f.asks;
    tally = f.tally;
    sight = record { mark = f.mark; due = f.due };
    high = f.mark;
    asked = length f.asks;
    mine = f.asks;
    parts = all_parts;
    turns = 0;
    gave = [];
    writer = true;
    held = None;
  }

  -- the pass with its turn, in which it took a value of these facts
  abbrev pub holding : Facts E → Known E → Known E
  holding taken pass = record pass { held = Some taken }

  -- the asks that a turn added, in which the one was taken and the other given
  abbrev pub new_asks : Facts E → Facts E → List ℕ
  new_asks taken given = drop (length taken.asks) given.asks

  -- the pass after its turn, in which it took the one and gave the other
  abbrev pub after_turn : Facts E → Facts E → Known E → Known E
  after_turn taken given pass = record {
    name = pass.name;
    seen = given.log;
    met = given.asks;
    tally = given.tally;
    sight = record { mark = given.mark; due = given.due };
    high = raised taken.mark given.mark pass.high;
    asked = pass.asked + (length given.asks - length taken.asks);
    mine = pass.mine ++ new_asks taken given;
    parts = pass.parts;
    turns = pass.turns + 1;
    gave = pass.gave ++ given ∷ [];
    writer = pass.writer;
    held = None;
  }

  -- the pass from which so many parts were split off
  abbrev pub without : ℕ → Known E → Known E
  without parts pass = record pass { parts = pass.parts - parts }

  -- the pass that was split off with so many parts: it did nothing yet, and is no writer
  abbrev pub split_off : ℕ → Known E → Known E
  split_off parts pass = record pass { high = 0; asked = 0; mine = []; parts = parts; turns = 0; gave = []; writer = false }

-- the longer list
abbrev pub longer : {A : Type 0} → List A → List A → List A
longer xs ys = if nat_lt (length xs) (length ys) then ys else xs

-- the greater of each number
abbrev pub greatest : Tally → Tally → Tally
greatest s t = record { failed = max s.failed t.failed; garbled = max s.garbled t.garbled; memory = max s.memory t.memory }

-- what the writer has, where one of the two is the writer, else what the third says
abbrev pub writers : {A : Type 0} → Bool → Bool → A → A → A → A
writers true _ x y z = x
writers false true x y z = y
writers false false x y z = z

-- two passes as one: what the writer saw, or what either saw last, and what both did
abbrev pub joined : {E : Type 0} → Known E → Known E → Known E
joined a b = record {
  name = a.name;
  seen = writers a.writer b.writer a.seen b.seen (longer a.seen b.seen);
  met = longer a.met b.met;
  tally = writers a.writer b.writer a.tally b.tally (greatest a.tally b.tally);
  sight = a.sight;
  high = max a.high b.high;
  asked = a.asked + b.asked;
  mine = a.mine ++ b.mine;
  parts = a.parts + b.parts;
  turns = a.turns + b.turns;
  gave = a.gave ++ b.gave;
  writer = a.writer || b.writer;
  held = None;
}
