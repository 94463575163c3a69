-- What texts in pieces do to their stream.
use Rattle.std.proofs.Common.{◌≡◌, ℕ, ◌+◌, ◌<◌, ◌≤◌, Bool, true, false, cond, List, [], ◌∷◌, ◌++◌, map, Option, Some, None, Result, Ok, Err, OnOk, OnErr, length, take, drop, refl, sym, ap, subst, ◌∙◌, arith, append_assoc, append-nil, length-append, length-drop}
use Rattle.std.proofs.Math.Seq.{take-add}
use Rattle.std.specs.List.{flat_map, slice_get}
use Rattle.std.proofs.lemmas.List.{take-append-drop, length-take-le, take_all, take_more}
use Rattle.std.proofs.lemmas.List.Folds.{flat_map-map}
use Rattle.std.proofs.lemmas.Grind.{flat_map-append}
use Rattle.std.proofs.lemmas.Option.{slice_get_within, get_or_from_slice_get}
use Rattle.std.proofs.lemmas.Bool.{false≢true}
use Rattle.std.specs.Result.{is_err}
use Rattle.std.specs.Borrow.{MutBor}
use Rattle.std.specs.Io.KnownBytes.{Appends, Keeps}
use Rattle.std.proofs.KnownBytes.{Appends-nil, Appends-trans, Keeps-refl}
use Rattle.tk_io.specs.Faults.{HasCause, Rose}
use Rattle.tk_io.specs.Sides.{Side}
use Rattle.tk_io.specs.Whole.{TookFront}
use Rattle.tk_io.specs.Pieces.{Passes, Sends, Puts, WaitsWhole, Ends, Writes, Written, written_to}

-- after some of a text: what of it and of the bytes before it was sent and what waits, and that nothing was sent yet where all fits
pub record Goes (piece : ℕ) (held held_now : Option (List ℕ)) (faults faults_now : ℕ) (waiting now text : List ℕ) (done : ℕ) : Type 0 where
  pub within : done ≤ length text
  pub passes : Passes held held_now (waiting ++ take done text) now
  pub same : faults_now ≡ faults
  pub waits : length waiting + length text ≤ piece → (now ≡ waiting ++ take done text) × Keeps held held_now

pub goes_none : (piece : ℕ) (held : Option (List ℕ)) (faults : ℕ) (waiting text : List ℕ) → Goes piece held held faults faults waiting waiting text 0
goes_none piece held faults waiting text = record {
  within = omega arith;
  passes = ([], Appends-nil held, append-nil waiting);
  same = refl;
  waits = λ _. (sym (append-nil waiting), Keeps-refl held);
}

-- all that waits is sent, since it fills a piece and more comes
pub goes_sent : (piece : ℕ) (held mid now : Option (List ℕ)) (faults faults_mid faults_now : ℕ) (waiting full empty text : List ℕ) (done : ℕ)
    → Goes piece held mid faults faults_mid waiting full text done → length full ≡ piece → done < length text → Appends mid now full → faults_now ≡ faults_mid → empty ≡ []
    → Goes piece held now faults faults_now waiting empty text done
goes_sent piece held mid now f g h waiting full empty text done goes is_full more sent same none = record {
  within = goes.within;
  passes = (goes.passes.0 ++ full, Appends-trans held mid now goes.passes.0 full goes.passes.1 sent, goes.passes.2 ∙ sym (append-nil (goes.passes.0 ++ full)) ∙ ap (λ xs. (goes.passes.0 ++ full) ++ xs) (sym none));
  same = same ∙ goes.same;
  waits = λ fits.
      let w = goes.waits fits in
      let long : length full ≡ length waiting + done = ap length w.0 ∙ length-append waiting (take done text) ∙ ap (λ n. length waiting + n) (length-take-le done text goes.within) in
      absurd (omega arith);
}

-- some more of the text waits
pub goes_filled : (piece : ℕ) (held held_now : Option (List ℕ)) (faults faults_now : ℕ) (waiting mid now text rest : List ℕ) (done count : ℕ)
    → Goes piece held held_now faults faults_now waiting mid text done → rest ≡ drop done text → count ≤ length rest → now ≡ mid ++ take count rest
    → Goes piece held held_now faults faults_now waiting now text (done + count)
goes_filled piece held held_now f g waiting mid now text rest done count goes is_rest some filled =
    let next : take (done + count) text ≡ take done text ++ take count rest = take-add done count text ∙ ap (λ xs. take done text ++ take count xs) (sym is_rest) in
    let longer : waiting ++ take (done + count) text ≡ (waiting ++ take done text) ++ take count rest =
    ap (λ xs. waiting ++ xs) next ∙ sym (append_assoc waiting (take done text) (take count rest)) in
    let sent = goes.passes.0 in
    record {
      within = omega (arith, length-drop done text, ap length is_rest);
      passes = (
        sent,
        goes.passes.1,
        longer ∙ ap (λ xs. xs ++ take count rest) goes.passes.2 ∙ append_assoc sent mid (take count rest) ∙ ap (λ xs. sent ++ xs) (sym filled),
      );
      same = goes.same;
      waits = λ fits. (filled ∙ ap (λ xs. xs ++ take count rest) (goes.waits fits).0 ∙ sym longer, (goes.waits fits).1);
    }

-- what is put where all of the text was taken
pub goes_all : (piece : ℕ) (held held_now : Option (List ℕ)) (faults faults_now : ℕ) (waiting now text : List ℕ) (done : ℕ)
    → Goes piece held held_now faults faults_now waiting now text done → length text ≤ done
    → Sends held held_now faults faults_now (Some waiting) (Some now) text × WaitsWhole piece held held_now (Some waiting) (Some now) text
unfolding Sends WaitsWhole
goes_all piece held held_now f g waiting now text done goes past =
    let all : take done text ≡ text = take_all done text past in (
      ((goes.passes.0, goes.passes.1, ap (λ xs. waiting ++ xs) (sym all) ∙ goes.passes.2), goes.same),
      λ fits. (ap Some ((goes.waits fits).0 ∙ ap (λ xs. waiting ++ xs) all), (goes.waits fits).1),
    )

-- a front of what waits is a front of all
pub stops_front : (held mid now : Option (List ℕ)) (sent full bytes rest : List ℕ) → Appends held mid sent → bytes ≡ sent ++ full → TookFront mid now full
    → TookFront held now (bytes ++ rest)
stops_front held mid now sent full bytes rest passed is front =
    let all : bytes ≡ (sent ++ front.0) ++ front.1 = is ∙ ap (λ xs. sent ++ xs) front.2 ∙ sym (append_assoc sent front.0 front.1) in
    (sent ++ front.0, front.1 ++ rest, ap (λ xs. xs ++ rest) all ∙ append_assoc (sent ++ front.0) front.1 rest, Appends-trans held mid now sent front.0 passed front.3)

-- what is put where a write failed on the way
pub goes_stopped : (piece : ℕ) (held mid now : Option (List ℕ)) (faults faults_mid faults_now : ℕ) (waiting full text : List ℕ) (done : ℕ)
    → Goes piece held mid faults faults_mid waiting full text done → length full ≡ piece → done < length text → TookFront mid now full → faults_mid ≤ faults_now → Rose faults_mid faults_now
    → Sends held now faults faults_now (Some waiting) None text × WaitsWhole piece held now (Some waiting) None text
unfolding Sends WaitsWhole
goes_stopped piece held mid now f g h waiting full text done goes is_full more front later rose =
    let whole : (waiting ++ take done text) ++ drop done text ≡ waiting ++ text = append_assoc waiting (take done text) (drop done text) ∙ ap (λ xs. waiting ++ xs) (take-append-drop done text) in (
      record {
        front = subst (TookFront held now) whole (stops_front held mid now goes.passes.0 full (waiting ++ take done text) (drop done text) goes.passes.1 goes.passes.2 front);
        later = omega (arith, goes.same, later);
        rose = subst (λ n. Rose n h) goes.same rose;
      },
      λ fits.
          let w = goes.waits fits in
          let long : length full ≡ length waiting + done = ap length w.0 ∙ length-append waiting (take done text) ∙ ap (λ n. length waiting + n) (length-take-le done text goes.within) in
          absurd (omega arith),
    )

-- nothing is put once a write has failed
pub sends_failed : (piece : ℕ) (held : Option (List ℕ)) (faults : ℕ) (text : List ℕ)
    → Sends held held faults faults None None text × WaitsWhole piece held held None None text
unfolding Sends WaitsWhole
sends_failed piece held faults text = ((refl, refl, refl), tt)

-- one text and then another
pub sends_then : (hb hm hn : Option (List ℕ)) (fb fm fn : ℕ) (before mid now : Option (List ℕ)) (x y : List ℕ)
    → Sends hb hm fb fm before mid x → Sends hm hn fm fn mid now y → Sends hb hn fb fn before now (x ++ y)
unfolding Sends
sends_then hb hm hn fb fm fn None None now x y first second = (second.0, second.1 ∙ first.1, second.2 ∙ first.2)
sends_then hb hm hn fb fm fn None (Some m) now x y first second = absurd cc
sends_then hb hm hn fb fm fn (Some w) None None x y first second = record {
  front = (
    first.front.0,
    first.front.1 ++ y,
    sym (append_assoc w x y) ∙ ap (λ z. z ++ y) first.front.2 ∙ append_assoc first.front.0 first.front.1 y,
    subst (λ h. Appends hb h first.front.0) (sym second.1) first.front.3,
  );
  later = omega (arith, first.later, second.2);
  rose = subst (λ n. Rose fb n) (sym second.2) first.rose;
}
sends_then hb hm hn fb fm fn (Some w) None (Some n) x y first second = absurd cc
sends_then hb hm hn fb fm fn (Some w) (Some m) None x y first second =
    let sent = first.0.0 in
    let front = stops_front hb hm hn sent (m ++ y) (w ++ (x ++ y)) [] first.0.1 (sym (append_assoc w x y) ∙ ap (λ z. z ++ y) first.0.2 ∙ append_assoc sent m y) second.front in
    record {
      front = subst (TookFront hb hn) (append-nil (w ++ (x ++ y))) front;
      later = omega (arith, first.1, second.later);
      rose = subst (λ n. Rose n fn) first.1 second.rose;
    }
sends_then hb hm hn fb fm fn (Some w) (Some m) (Some n) x y first second =
    let sent = first.0.0 in
    let more = second.0.0 in (
      (
        sent ++ more,
        Appends-trans hb hm hn sent more first.0.1 second.0.1,
        sym (append_assoc w x y) ∙ ap (λ z. z ++ y) first.0.2 ∙ append_assoc sent m y ∙ ap (λ z. sent ++ z) second.0.2 ∙ sym (append_assoc sent more n),
      ),
      second.1 ∙ first.1,
    )

-- nothing at all is put
pub sends_none : (held : Option (List ℕ)) (faults : ℕ) (now : Option (List ℕ)) → Sends held held faults faults now now []
unfolding Sends
sends_none held faults None = (refl, refl, refl)
sends_none held faults (Some waiting) = (([], Appends-nil held, append-nil waiting), refl)

-- a text that was put where nothing waited, and its end
written_from_none : {T E : Type 0} (hb hm hn : Option (List ℕ)) (fb fm fn : ℕ) (mid : Option (List ℕ)) (result : Result T E) (text : List ℕ)
    → Sends hb hm fb fm (Some []) mid text → Ends hm hn fm fn mid result → Writes hb hn fb fn result text
unfolding Sends Ends
written_from_none hb hm hn fb fm fn None (Ok done) text puts ends = absurd ends
written_from_none hb hm hn fb fm fn None (Err failed) text puts ends = record {
  whole = tt;
  front = subst (λ h. TookFront hb h text) (sym ends.0) puts.front;
  cause = record { later = omega (arith, puts.later, ends.1); failed = subst (λ n. Rose fb n) (sym ends.1) puts.rose; stays = tt };
}
written_from_none hb hm hn fb fm fn (Some w) (Ok done) text puts ends = record {
  whole = subst (Appends hb hn) (sym puts.0.2) (Appends-trans hb hm hn puts.0.0 w puts.0.1 ends.0);
  front = tt;
  cause = record { later = omega (arith, puts.1, ends.1); failed = tt; stays = ends.1 ∙ puts.1 };
}
written_from_none hb hm hn fb fm fn (Some w) (Err failed) text puts ends = record {
  whole = tt;
  front = subst (TookFront hb hn) (append-nil text) (stops_front hb hm hn puts.0.0 w text [] puts.0.1 puts.0.2 ends.front);
  cause = record { later = omega (arith, puts.1, ends.later); failed = subst (λ n. Rose n fn) puts.1 ends.rose; stays = tt };
}

-- the end of a text of which a write failed before
pub ends_failed : (T : Type 0) {E : Type 0} (held : Option (List ℕ)) (faults : ℕ) (waiting : List ℕ) (failed : Bool) (self : Option (List ℕ)) (e : E)
    → cond failed None (Some waiting) ≡ self → failed ≡ true → Ends {T = T} held held faults faults self (Err e)
unfolding Ends
ends_failed T held faults waiting true self e view is = subst (λ s. Ends {T = T} held held faults faults s (Err e)) view (refl, refl)
ends_failed T held faults waiting false self e view is = absurd (false≢true is)

-- the end of one of which none failed
pub ends_sent : {T E : Type 0} (held held_now : Option (List ℕ)) (faults faults_now : ℕ) (waiting : List ℕ) (failed : Bool) (self : Option (List ℕ))
    (result : Result T E)
    → cond failed None (Some waiting) ≡ self → failed ≡ false → OnOk result (Appends held held_now waiting) → OnErr result (TookFront held held_now waiting) → HasCause faults faults_now result
    → Ends held held_now faults faults_now self result
unfolding Ends
ends_sent {T} {E} held held_now f g waiting true self result view is whole front cause = absurd (false≢true (sym is))
ends_sent {T} {E} held held_now f g waiting false self (Ok done) view is whole front cause = subst (λ s. Ends {T = T} {E = E} held held_now f g s (Ok done)) view (whole, cause.stays)
ends_sent {T} {E} held held_now f g waiting false self (Err e) view is whole front cause =
    subst (λ s. Ends {T = T} {E = E} held held_now f g s (Err e)) view (record { front = front; later = cause.later; rose = cause.failed })

-- what is put, and that it waits where it fits
abbrev pub SendsWhole : ℕ → Option (List ℕ) → Option (List ℕ) → ℕ → ℕ → Option (List ℕ) → Option (List ℕ) → List ℕ → Type 0
SendsWhole piece held held_now faults faults_now before now text = Sends held held_now faults faults_now before now text × WaitsWhole piece held held_now before now text

-- contracts see the bytes that wait where no write failed, and none where one did
pub seen_waiting : (failed : Bool) (waiting : List ℕ) → failed ≡ false → Some waiting ≡ cond failed None (Some waiting)
seen_waiting true waiting is = absurd (false≢true (sym is))
seen_waiting false waiting is = refl

pub seen_failed : (failed : Bool) (waiting : List ℕ) → failed ≡ true → None ≡ cond failed None (Some waiting)
seen_failed true waiting is = refl
seen_failed false waiting is = absurd (false≢true is)

pub sends_seen : (piece : ℕ) (held held_now : Option (List ℕ)) (faults faults_now : ℕ) (before now seen seen_now : Option (List ℕ)) (text : List ℕ)
    → before ≡ seen → now ≡ seen_now → SendsWhole piece held held_now faults faults_now before now text → SendsWhole piece held held_now faults faults_now seen seen_now text
sends_seen piece held held_now f g before now seen seen_now text is is_now puts =
    subst (λ n. SendsWhole piece held held_now f g seen n text) is_now (subst (λ b. SendsWhole piece held held_now f g b now text) is puts)

-- an error is one
pub failed_is : {T E : Type 0} (held : Option (List ℕ)) (held_now : Option (List ℕ)) (faults faults_now : ℕ) (bytes : List ℕ) (result : Result T E)
    → is_err result ≡ true
    → OnErr result (TookFront held held_now bytes) → HasCause faults faults_now result → TookFront held held_now bytes × (faults ≤ faults_now) × Rose faults faults_now
failed_is held held_now f g bytes (Ok x) is front cause = absurd (false≢true is)
failed_is held held_now f g bytes (Err e) is front cause = (front, cause.later, cause.failed)

-- a success is none
pub sent_is : {T E : Type 0} (held held_now : Option (List ℕ)) (faults faults_now : ℕ) (bytes rest : List ℕ) (result : Result T E) → is_err result ≡ false
    → OnOk result (Appends held held_now bytes) → OnOk result (rest ≡ []) → HasCause faults faults_now result → Appends held held_now bytes × (rest ≡ []) × (faults_now ≡ faults)
sent_is held held_now f g bytes rest (Ok x) is sent none cause = (sent, none, cause.stays)
sent_is held held_now f g bytes rest (Err e) is sent none cause = absurd (false≢true (sym is))

-- one text is put and then another
pub puts_then : (before mid now : Written) (x y : List ℕ) → Puts before mid x → Puts mid now y → Puts before now (x ++ y)
puts_then before mid now x y first second = record {
  sends = sends_then before.held mid.held now.held before.faults mid.faults now.faults before.waiting mid.waiting now.waiting x y first.sends second.sends;
  apart = second.apart ∙ first.apart;
  same = second.same ∙ first.same;
}

-- nothing at all is put
pub puts_none : (now : Written) → Puts now now []
puts_none now = record { sends = sends_none now.held now.faults now.waiting; apart = refl; same = refl }

-- the same text in other words
pub puts_as : (before now : Written) (a b : List ℕ) → a ≡ b → Puts before now b → Puts before now a
puts_as before now a b same puts = subst (Puts before now) (sym same) puts

-- one member more was put of a list whose texts are put one after another
more_text : {X : Type 0} (f : X → List ℕ) (xs : List X) (i : ℕ) (x : X) → slice_get xs i ≡ Some x → flat_map f (take (i + 1) xs) ≡ flat_map f (take i xs) ++ f x
more_text f xs i x found =
    ap (flat_map f) (take_more xs i x (slice_get_within xs i x found) ∙ ap (λ y. take i xs ++ y ∷ []) (get_or_from_slice_get xs i x x found))
    ∙ flat_map-append f (take i xs) (x ∷ []) ∙ ap (λ t. flat_map f (take i xs) ++ t) (append-nil (f x))

pub puts_next : {X : Type 0} (f : X → List ℕ) (xs : List X) (i : ℕ) (x : X) (before mid now : Written)
    → slice_get xs i ≡ Some x → Puts before mid (flat_map f (take i xs)) → Puts mid now (f x)
    → Puts before now (flat_map f (take (i + 1) xs))
puts_next f xs i x before mid now found first second =
    puts_as before now _ _ (more_text f xs i x found) (puts_then before mid now (flat_map f (take i xs)) (f x) first second)

-- the same where the members are first written as lines or words
pub puts_next_of : {X Y : Type 0} (f : Y → List ℕ) (g : X → Y) (xs : List X) (i : ℕ) (x : X) (before mid now : Written)
    → slice_get xs i ≡ Some x → Puts before mid (flat_map f (map g (take i xs))) → Puts mid now (f (g x))
    → Puts before now (flat_map f (map g (take (i + 1) xs)))
puts_next_of f g xs i x before mid now found first second =
    puts_as before now _ _ (flat_map-map f g (take (i + 1) xs))
    (puts_next (λ y. f (g y)) xs i x before mid now found (puts_as before mid _ _ (sym (flat_map-map f g (take i xs))) first) second)

-- and where all were put
pub puts_all : {X : Type 0} (text : List X → List ℕ) (xs : List X) (i : ℕ) (before now : Written)
    → length xs ≤ i → Puts before now (text (take i xs)) → Puts before now (text xs)
puts_all text xs i before now past puts = subst (λ ys. Puts before now (text ys)) (take_all i xs past) puts

-- what a writer wrote, from where it was made of a stream to its end, after which the stream is as `last`
pub puts_written : {K T E : Type 0} (held : K → Option (List ℕ)) (faults : K → ℕ) (aside : K → Side) (before made told : MutBor K) (none waiting : Option (List ℕ))
    (now last : K) (result : Result T E) (text : List ℕ)
    → made.now ≡ before.now → none ≡ Some [] → Puts (written_to held faults aside made none) (written_to held faults aside told waiting) text
    → Ends (held told.now) (held now) (faults told.now) (faults now) waiting result → now ≡ last
    → Writes (held before.now) (held last) (faults before.now) (faults last) result text
puts_written held faults aside before made told none waiting now last result text same is puts ends end =
    subst (λ k. Writes (held before.now) (held k) (faults before.now) (faults k) result text) end
    (written_from_none (held before.now) (held told.now) (held now) (faults before.now) (faults told.now) (faults now) waiting result text
    (subst (λ k. Sends (held k) (held told.now) (faults k) (faults told.now) (Some []) waiting text) same
    (subst (λ w. Sends (held made.now) (held told.now) (faults made.now) (faults told.now) w waiting text) is puts.sends)) ends)
