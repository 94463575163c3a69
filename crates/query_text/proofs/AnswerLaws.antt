-- What reading answers.
use Rattle.std.proofs.Common.{ℕ, ◌<◌, ◌≤◌, ◌^◌, List, length, Some, Result, Ok, Err, sym, ap, subst, arith}
use Rattle.std.specs.Fmt.{decimal}
use Rattle.monotone_fn.specs.Shown.{tree_of}
use Rattle.monotone_fn.specs.Shape.{NumbersLists}
use Rattle.query_text.specs.Reading.{Reads, Spells}
use Rattle.query_text.specs.Query.{shape_of, named_as, printed}
use Rattle.query_text.specs.Draft.{names_of}
use Rattle.query_text.specs.Reached.{IsDraftOf, WordsRead}
use Rattle.query_text.specs.Finish.{query_in, Finishes, IsFair, TestsFactor, AreSmall, IsSmall}
use Rattle.query_text.specs.declared.draft.Draft.{Draft}
use Rattle.query_text.specs.declared.query.Query.{Query}
use Rattle.query_text.specs.declared.fault.QueryFault.{QueryFault}
use Rattle.query_text.specs.declared.fault.QueryFault.TheVariants as faults
use Rattle.query_text.proofs.FinalLaws.{draft_shown, draft_listed, draft_lawful, draft_text}
use Rattle.query_text.proofs.RatedLaws.{value_of}
use Rattle.query_text.proofs.NumberingLaws.{numbers_lists}
use Rattle.topk_base.specs.declared.TheConstants.{MAX_LINE}

-- a draft of a whole line is numbered as an expression wants it
pub draft_numbered : (line : List ℕ) (d : Draft) → IsDraftOf line d → NumbersLists (tree_of d.operand)
draft_numbered line d h =
    let l = draft_listed line d h in
    numbers_lists (names_of d) (tree_of d.operand) l.different l.few l.listed l.numbered l.plain

draft_spells : (line : List ℕ) (d : Draft) → length line ≤ MAX_LINE → IsDraftOf line d → IsSmall d → IsFair d.algorithm → Spells line (query_in d)
draft_spells line d short h small fair = record { short = short; lawful = draft_lawful line d h small fair; text = draft_text line d h }

-- what becomes of a draft of a whole line is what the line is read as
pub reads_finish : (line : List ℕ) (d : Draft) (r : Result Query QueryFault) → length line ≤ MAX_LINE → IsDraftOf line d → IsSmall d → Finishes d r
    → Reads line r
unfolding printed
reads_finish line d (Ok q) short h small f = (subst (Spells line) (sym f.0) (draft_spells line d short h small f.2), f.1)
reads_finish line d (Err (faults.LongLine l)) short h small f = absurd f
reads_finish line d (Err (faults.Syntax a)) short h small f = absurd f
reads_finish line d (Err (faults.Number a)) short h small f = absurd f
reads_finish line d (Err (faults.TooManyLists a)) short h small f = absurd f
reads_finish line d (Err (faults.BadTheta p q)) short h small f =
    let shown = draft_shown line d h in
    let fits : (p < 2 ^ 32) × (q < 2 ^ 32) = subst AreSmall f.0 small.algorithm in
    record {
      short = short;
      shape = shape_of (query_in d);
      sound = shown.sound;
      text = draft_text line d h;
      fine = shown.fine;
      over = decimal p;
      under = decimal q;
      factor = ap named_as f.0;
      is_over = value_of p (omega (arith, fits.0));
      is_under = value_of q (omega (arith, fits.1));
      less = f.1;
    }
reads_finish line d (Err (faults.TooManyNodes n)) short h small f = record { query = query_in d; spells = draft_spells line d short h small f.0; refused = f.1 }
reads_finish line d (Err (faults.TooDeep n)) short h small f = record { query = query_in d; spells = draft_spells line d short h small f.0; refused = f.1 }
reads_finish line d (Err (faults.TooBig n)) short h small f = record { query = query_in d; spells = draft_spells line d short h small f.0; refused = f.1 }
reads_finish line d (Err faults.Memory) short h small f = tt

-- a fault of the words is what the line is refused for
pub reads_fault : (line : List ℕ) (fault : QueryFault) → length line ≤ MAX_LINE → WordsRead line (Err fault) → Reads line (Err fault)
reads_fault line (faults.LongLine l) short h = absurd h
reads_fault line (faults.Syntax a) short h = (short, h)
reads_fault line (faults.Number a) short h = record { short = short; shape = h.shape; sound = h.sound; text = h.text; fault = h.fault }
reads_fault line (faults.TooManyLists a) short h = record { short = short; shape = h.shape; sound = h.sound; text = h.text; fault = h.fault }
reads_fault line (faults.BadTheta p q) short h = absurd h
reads_fault line (faults.TooManyNodes n) short h = absurd h
reads_fault line (faults.TooDeep n) short h = absurd h
reads_fault line (faults.TooBig n) short h = absurd h
reads_fault line faults.Memory short h = tt

-- what becomes of a draft whose factor is below 1
pub finishes_factor : (d : Draft) (fault : QueryFault) → TestsFactor d.algorithm (Some fault) → Finishes d (Err fault)
finishes_factor d (faults.LongLine l) h = absurd h
finishes_factor d (faults.Syntax a) h = absurd h
finishes_factor d (faults.Number a) h = absurd h
finishes_factor d (faults.TooManyLists a) h = absurd h
finishes_factor d (faults.BadTheta p q) h = h
finishes_factor d (faults.TooManyNodes n) h = absurd h
finishes_factor d (faults.TooDeep n) h = absurd h
finishes_factor d (faults.TooBig n) h = absurd h
finishes_factor d faults.Memory h = absurd h
