-- What the lines of a text are, apart from how they are read.
use Rattle.std.proofs.Common.{◌≡◌, ◌≢◌, ℕ, suc, ◌+◌, ◌-◌, ◌<◌, Bool, true, false, cond, ◌&&◌, eqb, List, [], ◌∷◌, ◌++◌, length, get_or, take, drop, refl, sym, ap, ◌∙◌, subst, ⊎_elim, arith, eq-eqb, ne_eqb, append_assoc, append-nil, Some, None, length-append}
use Rattle.std.specs.List.{All, onto_first, slice_split, Contains}
use Rattle.std.specs.Str.Lines.{strip_carriage_return}
use Rattle.std.specs.Str.Lines as std
use Rattle.std.proofs.lemmas.List.Elements.{All-head, All-tail, All-cons, All-nil, All-contains, Contains-push, All-same}
use Rattle.std.proofs.lemmas.Bool.{cases_eq, cond-false, true≢false, false≢true}
use Rattle.std.proofs.lemmas.List.{take-append-drop, drop_more, drop_all}
use Rattle.std.proofs.lemmas.Grind.{flat_map-append}
use Rattle.topk_base.specs.Cuts.{cut_at}
use Rattle.topk_base.proofs.CutLaws.{cut_at-some, lacks_from_none}
use Rattle.topk_base.specs.Lines.{begins_with_end, before_lines, lines, unlines, IsPlainLine}

-- the text of two parts of a list of lines
pub unlines-append : (xs ys : List (List ℕ)) → unlines (xs ++ ys) ≡ unlines xs ++ unlines ys
unlines-append xs ys = flat_map-append (λ (line : List ℕ). line ++ 10 ∷ []) xs ys

-- a byte that isn't LF
abbrev pub NoEnd : ℕ → Type 0
NoEnd byte = byte ≢ 10

pub lines-nil : lines [] ≡ []
unfolding lines
lines-nil = refl

pub lines-cons : (byte : ℕ) (rest : List ℕ) → lines (byte ∷ rest) ≡ before_lines byte (begins_with_end rest) (lines rest)
unfolding lines
lines-cons byte rest = refl

-- a byte other than LF with no LF after it belongs to the first line
before_plain : (byte : ℕ) (ls : List (List ℕ)) → NoEnd byte → before_lines byte false ls ≡ onto_first byte ls
before_plain byte ls ne = rw (ne_eqb byte 10 ne) (by_return (eqb byte 13))
  where
    by_return : (b : Bool) → cond (b && false) ls (onto_first byte ls) ≡ onto_first byte ls
    by_return true = refl
    by_return false = refl

-- a line of two bytes or more loses a CR at its end
strip-cons : (first second : ℕ) (rest : List ℕ) → strip_carriage_return (first ∷ second ∷ rest) ≡ first ∷ strip_carriage_return (second ∷ rest)
strip-cons first second rest =
    let e : length (first ∷ second ∷ rest) - 1 ≡ suc (length rest) = omega arith in
    let f : length (second ∷ rest) - 1 ≡ length rest = omega arith in
    rw (e, f) (by_return (eqb (get_or (second ∷ rest) (length rest) 0) 13))
  where
    by_return : (b : Bool)
        → cond b (first ∷ take (length rest) (second ∷ rest)) (first ∷ second ∷ rest) ≡ first ∷ cond b (take (length rest) (second ∷ rest)) (second ∷ rest)
    by_return true = refl
    by_return false = refl

-- LF ends the first line, which loses one CR before it
pub lines-cut : (line rest : List ℕ) → All NoEnd line → lines (line ++ 10 ∷ rest) ≡ strip_carriage_return line ∷ lines rest
lines-cut [] rest plain = lines-cons 10 rest
lines-cut (byte ∷ []) rest plain =
    let ne : byte ≢ 10 = All-head NoEnd byte [] plain in
    lines-cons byte (10 ∷ rest) ∙ rw (lines-cons 10 rest, ne_eqb byte 10 ne) (by_return (eqb byte 13))
  where
    by_return : (b : Bool) → cond (b && true) ([] ∷ lines rest) ((byte ∷ []) ∷ lines rest) ≡ cond b [] (byte ∷ []) ∷ lines rest
    by_return true = refl
    by_return false = refl
lines-cut (byte ∷ next ∷ line) rest plain =
    let ne : byte ≢ 10 = All-head NoEnd byte (next ∷ line) plain in
    let more = All-tail NoEnd byte (next ∷ line) plain in
    let apart : eqb next 10 ≡ false = ne_eqb next 10 (All-head NoEnd next line more) in
    lines-cons byte ((next ∷ line) ++ 10 ∷ rest)
    ∙ ap (λ b. before_lines byte b (lines ((next ∷ line) ++ 10 ∷ rest))) apart
    ∙ before_plain byte _ ne
    ∙ ap (onto_first byte) (lines-cut (next ∷ line) rest more)
    ∙ ap (λ l. l ∷ lines rest) (sym (strip-cons byte next line))

-- text without LF is one line, if it isn't empty
pub lines-last : (byte : ℕ) (rest : List ℕ) → All NoEnd (byte ∷ rest) → lines (byte ∷ rest) ≡ (byte ∷ rest) ∷ []
lines-last byte [] plain = lines-cons byte [] ∙ rw lines-nil (before_plain byte [] (All-head NoEnd byte [] plain))
lines-last byte (next ∷ rest) plain =
    let ne : byte ≢ 10 = All-head NoEnd byte (next ∷ rest) plain in
    let more = All-tail NoEnd byte (next ∷ rest) plain in
    let apart : eqb next 10 ≡ false = ne_eqb next 10 (All-head NoEnd next rest more) in
    lines-cons byte (next ∷ rest)
    ∙ ap (λ b. before_lines byte b (lines (next ∷ rest))) apart
    ∙ before_plain byte _ ne
    ∙ ap (onto_first byte) (lines-last next rest more)

-- what a cut at the first LF says of the lines
pub lines_at_cut : (text line rest stripped : List ℕ) → cut_at 10 text ≡ Some (line, rest) → stripped ≡ strip_carriage_return line
    → (lines text ≡ stripped ∷ lines rest) × (length rest < length text)
lines_at_cut text line rest stripped cut is =
    let parts = cut_at-some 10 text line rest cut in (
      ap lines parts.whole ∙ lines-cut line rest parts.apart ∙ ap (λ l. l ∷ lines rest) (sym is),
      let e : length text ≡ length line + suc (length rest) = ap length parts.whole ∙ length-append line (10 ∷ rest) in omega arith,
    )

-- a text without LF is its own last line
pub lines_uncut : (text : List ℕ) → cut_at 10 text ≡ None → 0 < length text → lines text ≡ text ∷ []
lines_uncut [] none some = absurd (omega arith)
lines_uncut (byte ∷ rest) none some = lines-last byte rest (lacks_from_none 10 (byte ∷ rest) none)

-- a plain line keeps all its bytes
strip-plain : (line : List ℕ) → IsPlainLine line → strip_carriage_return line ≡ line
strip-plain [] plain = refl
strip-plain (byte ∷ rest) plain =
    cond-false (eqb (get_or line place 0) 13) (take place line) line (ne_eqb _ 13 (λ e.
    plain.no_return (take place line)
    (sym (take-append-drop place line)
    ∙ ap (λ t. take place line ++ t) (drop_more line place 0 (omega arith) ∙ ap (λ b. b ∷ drop (place + 1) line) e ∙ ap (λ t. 13 ∷ t) (drop_all (place + 1) line (omega arith))))))
  where
    line : List ℕ
    line = byte ∷ rest

    place : ℕ
    place = length line - 1

-- lines that are written are read again, whatever text follows
pub lines-unlines-append : (ls : List (List ℕ)) (text : List ℕ) → All IsPlainLine ls → lines (unlines ls ++ text) ≡ ls ++ lines text
lines-unlines-append [] text plain = refl
lines-unlines-append (line ∷ ls) text plain =
    let one : IsPlainLine line = All-head IsPlainLine line ls plain in
    let shape : unlines (line ∷ ls) ++ text ≡ line ++ 10 ∷ (unlines ls ++ text) =
    append_assoc (line ++ 10 ∷ []) (unlines ls) text ∙ append_assoc line (10 ∷ []) (unlines ls ++ text) in
    ap lines shape ∙ lines-cut line (unlines ls ++ text) one.no_end
    ∙ ap (λ l. l ∷ lines (unlines ls ++ text)) (strip-plain line one)
    ∙ ap (λ more. line ∷ more) (lines-unlines-append ls text (All-tail IsPlainLine line ls plain))

-- lines that are written, each ended by LF, are read as they were
pub lines-unlines : (ls : List (List ℕ)) → All IsPlainLine ls → lines (unlines ls) ≡ ls
lines-unlines ls plain =
    ap lines (sym (append-nil (unlines ls))) ∙ lines-unlines-append ls [] plain ∙ ap (λ more. ls ++ more) lines-nil ∙ append-nil ls

-- a line without LF and CR is plain
pub plain_from_bytes : (line : List ℕ) → All NoEnd line → All (λ byte. byte ≢ 13) line → IsPlainLine line
plain_from_bytes line no_end no_return = record {
  no_end = no_end;
  no_return = λ front e. All-contains (λ byte. byte ≢ 13) line 13 no_return (subst (λ l. Contains l 13) (sym e) (Contains-push front 13)) refl;
}

none_onto : (byte : ℕ) (ls : List (List ℕ)) → NoEnd byte → All (All NoEnd) ls → All (All NoEnd) (onto_first byte ls)
none_onto byte [] ne all = All-cons (All NoEnd) (byte ∷ []) [] (All-cons NoEnd byte [] ne (All-nil NoEnd)) (All-nil (All NoEnd))
none_onto byte (l ∷ ls) ne all =
    All-cons (All NoEnd) (byte ∷ l) ls (All-cons NoEnd byte l ne (All-head (All NoEnd) l ls all)) (All-tail (All NoEnd) l ls all)

none_before : (byte : ℕ) (b : Bool) (ls : List (List ℕ)) → All (All NoEnd) ls → All (All NoEnd) (before_lines byte b ls)
none_before byte b ls all =
    ⊎_elim
    (λ e. rw (eq-eqb byte 10 e) (All-cons (All NoEnd) [] ls (All-nil NoEnd) all))
    (λ ne. rw (ne_eqb byte 10 ne) (by_return (eqb byte 13 && b) (none_onto byte ls ne all)))
    (cases_eq byte 10)
  where
    by_return : (t : Bool) → All (All NoEnd) (onto_first byte ls) → All (All NoEnd) (cond t ls (onto_first byte ls))
    by_return true onto = all
    by_return false onto = onto

-- no line has an LF
pub lines_have_no_end : (text : List ℕ) → All (All NoEnd) (lines text)
lines_have_no_end [] = All-same (All NoEnd) (lines []) [] lines-nil (All-nil (All NoEnd))
lines_have_no_end (byte ∷ rest) =
    All-same (All NoEnd) (lines (byte ∷ rest)) _ (lines-cons byte rest) (none_before byte (begins_with_end rest) (lines rest) (lines_have_no_end rest))

-- where a text begins with LF, its first part is empty and another follows; it has a part in any case
abbrev EndInParts : Bool → List (List ℕ) → Type 0
EndInParts b [] = ⊥
EndInParts b (part ∷ []) = b ≡ false
EndInParts b (part ∷ next ∷ parts) = (b ≡ true → part ≡ []) × (b ≡ false → part ≢ [])

end_before : (byte : ℕ) (b next_is : Bool) (parts : List (List ℕ)) → EndInParts next_is parts → EndInParts b (cond b ([] ∷ parts) (onto_first byte parts))
end_before byte b next_is [] h = absurd h
end_before byte true next_is (part ∷ parts) h = (λ _. refl, λ e. absurd (true≢false e))
end_before byte false next_is (part ∷ []) h = refl
end_before byte false next_is (part ∷ next ∷ parts) h = (λ e. absurd (false≢true e), λ _ e. cc)

end_in_parts : (text : List ℕ) → EndInParts (begins_with_end text) (slice_split (λ b. eqb b 10) text)
end_in_parts [] = refl
end_in_parts (byte ∷ rest) = end_before byte (eqb byte 10) (begins_with_end rest) (slice_split (λ b. eqb b 10) rest) (end_in_parts rest)

by_two : (byte : ℕ) (b : Bool) (part : List ℕ) (more : List (List ℕ)) → (b ≡ true → part ≡ []) → (b ≡ false → part ≢ [])
    → cond (eqb byte 13 && b) (strip_carriage_return part ∷ more) ((byte ∷ strip_carriage_return part) ∷ more) ≡ strip_carriage_return (byte ∷ part) ∷ more
by_two byte true [] more empty some = by_return (eqb byte 13)
  where
    by_return : (t : Bool) → cond (t && true) ([] ∷ more) ((byte ∷ []) ∷ more) ≡ cond t [] (byte ∷ []) ∷ more
    by_return true = refl
    by_return false = refl
by_two byte true (p ∷ part) more empty some = absurd (let e : p ∷ part ≡ [] = empty refl in cc)
by_two byte false [] more empty some = absurd (some refl refl)
by_two byte false (p ∷ part) more empty some =
    by_return (eqb byte 13) ∙ ap (λ l. l ∷ more) (sym (strip-cons byte p part))
  where
    by_return : (t : Bool) → cond (t && false) (strip_carriage_return (p ∷ part) ∷ more) ((byte ∷ strip_carriage_return (p ∷ part)) ∷ more)
        ≡ (byte ∷ strip_carriage_return (p ∷ part)) ∷ more
    by_return true = refl
    by_return false = refl

by_one : (byte : ℕ) (part : List ℕ) → (t : Bool)
    → cond (t && false) (std.lines_of_parts (part ∷ [])) (onto_first byte (std.lines_of_parts (part ∷ []))) ≡ (byte ∷ part) ∷ []
by_one byte [] true = refl
by_one byte [] false = refl
by_one byte (p ∷ part) true = rw (ne_eqb (suc (length part)) 0 (omega arith)) refl
by_one byte (p ∷ part) false = rw (ne_eqb (suc (length part)) 0 (omega arith)) refl

by_end : (byte : ℕ) (b : Bool) (parts : List (List ℕ)) → EndInParts b parts → (t : Bool)
    → cond t ([] ∷ std.lines_of_parts parts) (cond (eqb byte 13 && b) (std.lines_of_parts parts) (onto_first byte (std.lines_of_parts parts)))
    ≡ std.lines_of_parts (cond t ([] ∷ parts) (onto_first byte parts))
by_end byte b [] h t = absurd h
by_end byte b (part ∷ parts) h true = refl
by_end byte b (part ∷ []) h false =
    rw h (by_one byte part (eqb byte 13) ∙ sym (cond-false (eqb (suc (length part)) 0) [] ((byte ∷ part) ∷ []) (ne_eqb (suc (length part)) 0 (omega arith))))
by_end byte b (part ∷ next ∷ parts) h false = by_two byte b part (std.lines_of_parts (next ∷ parts)) h.0 h.1

std_before : (byte : ℕ) (b : Bool) (parts : List (List ℕ)) → EndInParts b parts
    → before_lines byte b (std.lines_of_parts parts) ≡ std.lines_of_parts (cond (eqb byte 10) ([] ∷ parts) (onto_first byte parts))
std_before byte b parts h = by_end byte b parts h (eqb byte 10)

-- the lines are those that std's `lines` gives
pub lines_as_std : (text : List ℕ) → lines text ≡ std.lines text
lines_as_std [] = lines-nil
lines_as_std (byte ∷ rest) =
    lines-cons byte rest ∙ ap (before_lines byte (begins_with_end rest)) (lines_as_std rest)
    ∙ std_before byte (begins_with_end rest) (slice_split (λ b. eqb b 10) rest) (end_in_parts rest)
