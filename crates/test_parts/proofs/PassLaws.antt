-- What splits, joins and turns leave of the passes of a lock.
use Rattle.std.proofs.Common.{◌≡◌, ◌+◌, ◌-◌, ◌<◌, ◌∷◌, [], ◌++◌, ◌||◌, Some, ℕ, List, All, take, drop, length, refl, sym, ap, subst, ◌∙◌, arith}
use Rattle.std.proofs.lemmas.List.Elements.{All-append, All-drop, All-pop, All-push, All-take}
use Rattle.atomic_table.specs.Seated.{TableId}
use Rattle.turn_lock.specs.declared.known.Known.{Known}
use Rattle.turn_lock.specs.Known.{all_parts, without, split_off, joined}
use Rattle.test_parts.specs.declared.journal.Reader.{Reader}
use Rattle.test_parts.specs.Readers.{IsReady, IsWriter}

-- the writer, from which one part was split off, and the reader that got it
writer_split : (lock : TableId) (before after : TableId × Known ℕ) → after ≡ (lock, without 1 before.1) → IsWriter lock before → IsWriter lock after
writer_split lock before after is writer = subst (IsWriter lock) (sym is) (record { own = refl; rests = writer.rests; writer = writer.writer })

split_ready : (lock : TableId) (before : TableId × Known ℕ) (reader : Reader) → reader.pass ≡ (lock, split_off 1 before.1) → IsWriter lock before
    → IsReady lock reader
split_ready lock before reader is writer = record {
  own = ap (λ (p : TableId × Known ℕ). p.0) is;
  rests = ap (λ (p : TableId × Known ℕ). p.1.held) is ∙ writer.rests;
  part = ap (λ (p : TableId × Known ℕ). p.1.parts) is;
}

-- one reader more
pub split_more : (lock : TableId) (before after : TableId × Known ℕ) (made size more : ℕ) (olds news : List Reader) (reader : Reader)
    → after ≡ (lock, without 1 before.1) → reader.pass ≡ (lock, split_off 1 before.1) → made < all_parts
    → IsWriter lock before → before.1.parts + made ≡ all_parts → size ≡ made → All (IsReady lock) olds
    → more ≡ size + 1 → news ≡ olds ++ reader ∷ []
    → IsWriter lock after × (after.1.parts + (made + 1) ≡ all_parts) × (more ≡ made + 1) × All (IsReady lock) news
split_more lock before after made size more olds news reader kept given below writer parts same ready longer its =
    let left : after.1.parts ≡ before.1.parts - 1 = ap (λ (p : TableId × Known ℕ). p.1.parts) kept in (
      writer_split lock before after kept writer,
      omega (arith, left, parts, below),
      omega (arith, longer, same),
      subst (All (IsReady lock)) (sym its) (All-push (IsReady lock) olds reader ready (split_ready lock before reader given writer)),
    )

-- a reader less
pub join_more : (lock : TableId) (before after : TableId × Known ℕ) (size less : ℕ) (olds news : List Reader) (reader : Reader)
    → after ≡ (lock, joined before.1 reader.pass.1) → IsWriter lock before → before.1.parts + size ≡ all_parts → All (IsReady lock) olds
    → less + 1 ≡ size → olds ≡ news ++ reader ∷ []
    → IsWriter lock after × (after.1.parts + less ≡ all_parts) × All (IsReady lock) news
join_more lock before after size less olds news reader is writer parts ready shorter its =
    let left = All-pop (IsReady lock) olds news (Some reader) its ready in
    let both : after.1.parts ≡ before.1.parts + reader.pass.1.parts = ap (λ (p : TableId × Known ℕ). p.1.parts) is in
    let one : reader.pass.1.parts ≡ 1 = left.1.part in (
      record {
        own = ap (λ (p : TableId × Known ℕ). p.0) is;
        rests = ap (λ (p : TableId × Known ℕ). p.1.held) is;
        writer = ap (λ (p : TableId × Known ℕ). p.1.writer) is ∙ ap (λ w. w || reader.pass.1.writer) writer.writer;
      },
      omega (arith, both, one, parts, shorter),
      left.0,
    )

-- readers that were lent out of a vector and came back
pub ready_back : (lock : TableId) (size : ℕ) (after before : List Reader) → All (IsReady lock) after → All (IsReady lock) before
    → All (IsReady lock) (take size (after ++ drop (length after) before))
ready_back lock size after before lent kept =
    All-take (IsReady lock) size (after ++ drop (length after) before)
    (All-append (IsReady lock) after (drop (length after) before) lent (All-drop (IsReady lock) (length after) before kept))
