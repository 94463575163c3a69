-- What reads of bytes give.
use Rattle.std.proofs.Common.{◌≡◌, ℕ, ◌+◌, ◌-◌, ◌<◌, ◌≤◌, min, List, [], ◌++◌, Option, length, take, drop, arith, sym, ap, ◌∙◌, length-append}
use Rattle.std.proofs.Math.Seq.{take-append_seam}
use Rattle.std.proofs.Math.ListN.{drop_of_length-le}
use Rattle.std.proofs.lemmas.List.{take-append-drop, length-take-le, length-drop, drop-drop, take_rest}
use Rattle.std.specs.Io.KnownBytes.{Consumes}
use Rattle.std.proofs.KnownBytes.{Consumes-kept, Consumes-trans}
use Rattle.tk_io.specs.Faults.{counted}
use Rattle.tk_io.specs.InMemory.{Incoming, failed_read, read_of}
use Rattle.tk_io.specs.Whole.{StopsPiece, StopsReading}
use Rattle.tk_io.specs.declared.whole.ReadError.{ReadError}
use Rattle.tk_io.specs.declared.whole.ReadError.TheVariants.{Failed, Long, Memory}

-- the buffer's new front is the front of what was left, and 0 bytes for a buffer with room are the end
pub reads_front : (bytes into new : List ℕ) (at piece count : ℕ) → at ≤ length bytes → 0 < piece
    → count ≡ min (min (length (drop at bytes)) (length into)) piece
    → new ≡ take count (drop at bytes) ++ drop (length (take count (drop at bytes))) into → length new ≡ length into
    → (drop at bytes ≡ take count new ++ drop (at + count) bytes)
    × (count ≡ 0 → 0 < length new → drop (at + count) bytes ≡ [])
reads_front bytes into new at piece count within some counts copied kept =
    let left = drop at bytes in
    let fits : count ≤ length left = omega arith in
    let long : length (take count left) ≡ count = length-take-le count left fits in
    let front : take count new ≡ take count left =
    ap (take count) copied
    ∙ ap (λ n. take n (take count left ++ drop (length (take count left)) into)) (sym long)
    ∙ take-append_seam (take count left) (drop (length (take count left)) into) in
    let rest : drop count left ≡ drop (at + count) bytes = drop-drop count at bytes in (
      sym (take-append-drop count left) ∙ ap (λ xs. xs ++ drop count left) (sym front) ∙ ap (λ xs. take count new ++ xs) rest,
      λ none room. drop_of_length-le bytes {i = at + count} (omega (arith, length-drop at bytes)),
    )

-- one more piece that stopped stops the whole
pub stops_reading : (limit most : ℕ) (before mid now : Option (List ℕ)) (text piece : List ℕ) (faults_before faults_mid faults_now : ℕ)
    (error : ReadError) → faults_mid ≡ faults_before → Consumes before mid text → length text ≤ limit → length text + most ≤ limit + 1
    → Consumes mid now piece → length piece ≤ most → StopsPiece mid now faults_mid faults_now error
    → StopsReading limit before now faults_before faults_now error
stops_reading limit most before mid now text piece f g h Failed same given within fits more short stop =
    ((text, within, Consumes-kept before mid now text given stop.0), omega arith)
stops_reading limit most before mid now text piece f g h Long same given within fits more short stop = absurd stop
stops_reading limit most before mid now text piece f g h Memory same given within fits more short stop =
    ((text ++ piece, omega (arith, length-append text piece), Consumes-trans before mid now text piece given more), omega arith)

-- the same of a slice of what a vector holds
pub reads_left : (seen bytes into new : List ℕ) (at piece least count : ℕ) → seen ≡ bytes → at ≤ length bytes → 0 < piece
    → least ≡ min (length (take (length seen - at) (drop at seen))) (length into) → count ≡ min least piece
    → new ≡ take count (take (length seen - at) (drop at seen)) ++ drop (length (take count (take (length seen - at) (drop at seen)))) into
    → length new ≡ length into
    → (drop at bytes ≡ take count new ++ drop (at + count) bytes)
    × (count ≡ 0 → 0 < length new → drop (at + count) bytes ≡ [])
reads_left seen bytes into new at piece least count same within some first counts copied kept =
    let rest : take (length seen - at) (drop at seen) ≡ drop at bytes = take_rest seen at ∙ ap (drop at) same in
    let least_is : least ≡ min (length (drop at bytes)) (length into) = first ∙ ap (λ xs. min (length xs) (length into)) rest in
    let count_is : count ≡ min (min (length (drop at bytes)) (length into)) piece = counts ∙ ap (λ n. min n piece) least_is in
    let copy_is : new ≡ take count (drop at bytes) ++ drop (length (take count (drop at bytes))) into =
    copied ∙ ap (λ xs. take count xs ++ drop (length (take count xs)) into) rest in
    reads_front bytes into new at piece count within some count_is copy_is kept

-- how many a slice of what a vector holds gives, and what it leaves
pub reads_least : (seen bytes into : List ℕ) (at piece least count : ℕ) → seen ≡ bytes
    → least ≡ min (length (take (length seen - at) (drop at seen))) (length into) → count ≡ min least piece
    → count ≡ min (min piece (length into)) (length (drop at bytes))
reads_least seen bytes into at piece least count same first counts =
    let rest : take (length seen - at) (drop at seen) ≡ drop at bytes = take_rest seen at ∙ ap (drop at) same in
    let least_is : least ≡ min (length (drop at bytes)) (length into) = first ∙ ap (λ (xs : List ℕ). min (length xs) (length into)) rest in
    omega arith

pub reads_on : (bytes fails : List ℕ) (at count piece calls called faults : ℕ) → called ≡ counted calls
    → (let m : Incoming = record { left = drop (at + count) bytes; piece = piece; fails = fails; calls = called; faults = faults } in m)
    ≡ read_of count (record { left = drop at bytes; piece = piece; fails = fails; calls = calls; faults = faults })
reads_on bytes fails at count piece calls called faults once =
    ap (λ (xs : List ℕ). let m : Incoming = record { left = xs; piece = piece; fails = fails; calls = called; faults = faults } in m) (sym (drop-drop count at bytes))
    ∙ ap (λ (n : ℕ). let m : Incoming = record { left = drop count (drop at bytes); piece = piece; fails = fails; calls = n; faults = faults } in m) once

-- a call that failed
pub reads_none : (left fails : List ℕ) (piece calls called faults failed : ℕ) → called ≡ counted calls → failed ≡ counted faults
    → (let m : Incoming = record { left = left; piece = piece; fails = fails; calls = called; faults = failed } in m)
    ≡ failed_read (record { left = left; piece = piece; fails = fails; calls = calls; faults = faults })
reads_none left fails piece calls called faults failed once more =
    ap (λ (n : ℕ). let m : Incoming = record { left = left; piece = piece; fails = fails; calls = n; faults = failed } in m) once
    ∙ ap (λ (n : ℕ). let m : Incoming = record { left = left; piece = piece; fails = fails; calls = counted calls; faults = n } in m) more
