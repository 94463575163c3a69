-- A draft takes a word of each stage.
use Rattle.std.proofs.Common.{◌≡◌, ℕ, ◌<◌, ◌≤◌, ◌^◌, Bool, true, false, cond, List, [], ◌∷◌, ◌++◌, length, map, reverse, Option, Some, None, option_map, unwrap_or, refl, sym, ap, ◌∙◌, subst, arith, codes}
use Rattle.std.specs.List.{find}
use Rattle.std.specs.Str.{bytes_eq}
use Rattle.std.specs.Str.Parse.{digits_value}
use Rattle.std.specs.Fmt.{decimal}
use Rattle.std.proofs.lemmas.List.{reverse-append}
use Rattle.topk_base.specs.Numbers.{number_of, is_number}
use Rattle.topk_base.proofs.NumberLaws.{decimal-number_of, number_of-some}
use Rattle.monotone_fn.specs.Shown.{tree_of}
use Rattle.monotone_fn.specs.declared.node.Node.TheVariants as nodes
use Rattle.monotone_fn.specs.declared.costs.Costs.{Costs}
use Rattle.query_text.specs.Bytes.{bytes_of}
use Rattle.query_text.specs.Written.{Written}
use Rattle.query_text.specs.Pieces.{Piece, IsInRange, names_in, with_member, each_once_after}
use Rattle.query_text.specs.Query.{written, name_of, cost_digits, IsPlain}
use Rattle.query_text.specs.Shape.{Named, algorithm_word, algorithms}
use Rattle.query_text.specs.Words.{opened_by, using_words}
use Rattle.query_text.specs.Front.{Front, stage_of, next, shape_from, is_weighted, piece_at, operand_piece, operand_read, argument_read, begun, opened, all_done, head_of, named_read, IsFine}
use Rattle.query_text.specs.Front as front
use Rattle.query_text.specs.Draft.{frame_of, IsFramePlain, AreFramesPlain, AddsArgument, Closes, names_of, frames_in, expr_in, head_in, unset, unopened, priced, front_of, GoesOn, Takes, Misses, IsOutside}
use Rattle.query_text.specs.declared.frame.Frame.{Frame}
use Rattle.query_text.specs.declared.draft.Draft.{Draft}
use Rattle.query_text.specs.declared.algorithm.Algorithm.{Algorithm}
use Rattle.query_text.specs.declared.algorithm.Algorithm.TheVariants.{Ta, Theta, Early}
use Rattle.query_text.specs.declared.operator.Operator.{Operator}
use Rattle.query_text.specs.declared.parser_state.ParserState.{ParserState}
use Rattle.query_text.specs.declared.parser_state.ParserState.TheVariants as stages
use Rattle.query_text.specs.declared.fault.QueryFault.{QueryFault}
use Rattle.query_text.specs.declared.fault.QueryFault.TheVariants as faults
use Rattle.query_text.proofs.ListLaws.{any_same}
use Rattle.topk_base.specs.declared.TheConstants.{MAX_LISTS, MAX_NUMBER, MAX_WEIGHT}

-- a word that spells a number within its range
pub record Spelled (word : List ℕ) (least most n : ℕ) : Type 0 where
  pub value : number_of word ≡ Some n
  pub low : least ≤ n
  pub high : n ≤ most

decimal_is : (w : List ℕ) (least most n : ℕ) → most < 2 ^ 64 → Spelled w least most n → decimal n ≡ w
decimal_is w least most n small h = let low = h.high in sym (decimal-number_of w n h.value (omega (arith, h.high)))

range_is : (w : List ℕ) (least most n : ℕ) → Spelled w least most n → IsInRange (Piece.number least most w)
range_is w least most n h =
    let e : digits_value 10 w ≡ n = (number_of-some w n h.value).1 in
    (omega (arith, h.low, e), omega (arith, h.high, e))

-- a number out of its range isn't taken
pub misses_number : (s : ParserState) (d : Draft) (w : List ℕ) (at least most : ℕ) (fault : QueryFault) → piece_at s w ≡ Piece.number least most w
    → fault ≡ faults.Number at → (is_number w ≡ true → IsInRange (Piece.number least most w) → ⊥) → Misses s d w at fault
misses_number s d w at least most fault piece e h = subst (Misses s d w at) (sym e) (refl, subst IsOutside (sym piece) h)

pub takes_k : (d : Draft) (n : ℕ) (w : List ℕ) → Spelled w 1 MAX_NUMBER n → length (names_of d) ≤ MAX_LISTS → Takes stages.Count d (record d { k = n }) w
takes_k d n w h few = record {
  names = refl;
  few = few;
  range = range_is w 1 MAX_NUMBER n h;
  plain = λ p. record { operand = p.operand; weight = p.weight; frames = p.frames };
  shows = λ more st fine whole. by_frames more d.frames.items refl st;
}
  where
    by_frames : (more : List (List ℕ)) (xs : List Frame) → d.frames.items ≡ xs → stage_of (unopened xs Front.at_count) ≡ stages.Count
        → front_of (names_of d ++ more) (stage_of (next (unopened xs Front.at_count) w)) (record d { k = n }) ≡ next (unopened xs Front.at_count) w
    by_frames more [] e st = ap (λ z. unopened z (Front.at_by (decimal n))) e ∙ ap Front.at_by (decimal_is w 1 MAX_NUMBER n (omega arith) h)
    by_frames more (x ∷ xs) e st = absurd cc

pub takes_weight : (d : Draft) (n : ℕ) (w : List ℕ) → Spelled w 0 MAX_WEIGHT n → length (names_of d) ≤ MAX_LISTS
    → Takes stages.Weight d (record d { weight = n }) w
takes_weight d n w h few = record {
  names = refl;
  few = few;
  range = range_is w 0 MAX_WEIGHT n h;
  plain = λ p. record { operand = p.operand; weight = h.high; frames = p.frames };
  shows = λ more st fine whole. ap (Front.at_times (decimal d.k) (frames_in (names_of d ++ more) d)) (decimal_is w 0 MAX_WEIGHT n (omega arith) h);
}

pub takes_sorted : (d : Draft) (n : ℕ) (w : List ℕ) → Spelled w 1 MAX_NUMBER n → length (names_of d) ≤ MAX_LISTS
    → Takes stages.Sorted d (record d { sorted = n }) w
takes_sorted d n w h few = record {
  names = refl;
  few = few;
  range = range_is w 1 MAX_NUMBER n h;
  plain = λ p. record { operand = p.operand; weight = p.weight; frames = p.frames };
  shows = λ more st fine whole. by_room more d.room refl st;
}
  where
    by_room : (more : List (List ℕ)) (r : Option ℕ) → d.room ≡ r → stage_of (unset r (Front.at_sorted (head_in (names_of d ++ more) d))) ≡ stages.Sorted
        → front_of (names_of d ++ more) (stage_of (next (unset r (Front.at_sorted (head_in (names_of d ++ more) d))) w)) (record d { sorted = n })
        ≡ next (unset r (Front.at_sorted (head_in (names_of d ++ more) d))) w
    by_room more None e st =
        ap (λ z. unset z (Front.at_between (head_in (names_of d ++ more) d) (decimal n))) e
        ∙ ap (Front.at_between (head_in (names_of d ++ more) d)) (decimal_is w 1 MAX_NUMBER n (omega arith) h)
    by_room more (Some r) e st = absurd cc

pub takes_random : (d : Draft) (n : ℕ) (w : List ℕ) → Spelled w 1 MAX_NUMBER n → length (names_of d) ≤ MAX_LISTS
    → Takes stages.Random d (record d { cost = Some (record { sorted = d.sorted; random = n }) }) w
takes_random d n w h few = record {
  names = refl;
  few = few;
  range = range_is w 1 MAX_NUMBER n h;
  plain = λ p. record { operand = p.operand; weight = p.weight; frames = p.frames };
  shows = λ more st fine whole. by_room more d.room refl st;
}
  where
    cost : Costs
    cost = record { sorted = d.sorted; random = n }

    by_room : (more : List (List ℕ)) (r : Option ℕ) → d.room ≡ r
        → stage_of (unset r (Front.at_random (head_in (names_of d ++ more) d) (decimal d.sorted))) ≡ stages.Random
        → front_of (names_of d ++ more) (stage_of (next (unset r (Front.at_random (head_in (names_of d ++ more) d) (decimal d.sorted))) w)) (record d { cost = Some (record { sorted = d.sorted; random = n }) })
        ≡ next (unset r (Front.at_random (head_in (names_of d ++ more) d) (decimal d.sorted))) w
    by_room more None e st =
        ap (λ z. unset z (Front.at_priced (head_in (names_of d ++ more) d) (decimal d.sorted, decimal n))) e
        ∙ ap (λ z. Front.at_priced (head_in (names_of d ++ more) d) (decimal d.sorted, z)) (decimal_is w 1 MAX_NUMBER n (omega arith) h)
    by_room more (Some r) e st = absurd cc

pub takes_room : (d : Draft) (n : ℕ) (w : List ℕ) → Spelled w 1 MAX_NUMBER n → length (names_of d) ≤ MAX_LISTS
    → Takes stages.Room d (record d { room = Some n }) w
takes_room d n w h few = record {
  names = refl;
  few = few;
  range = range_is w 1 MAX_NUMBER n h;
  plain = λ p. record { operand = p.operand; weight = p.weight; frames = p.frames };
  shows = λ more st fine whole. ap (λ z. Front.at_end (shape_from (head_in (names_of d ++ more) d) (option_map cost_digits d.cost) (Some z))) (decimal_is w 1 MAX_NUMBER n (omega arith) h);
}

-- the algorithm that a word without numbers names
abbrev pub algorithm_found : List ℕ → Algorithm
algorithm_found word = unwrap_or (find (λ algorithm. bytes_eq word (algorithm_word algorithm)) algorithms) Ta

pub takes_algorithm : (d : Draft) (a : Algorithm) (w : List ℕ) → a ≡ algorithm_found w → length (names_of d) ≤ MAX_LISTS
    → Takes stages.Algorithm d (record d { algorithm = a; cost = None; room = None }) w
takes_algorithm d a w e few = record {
  names = refl;
  few = few;
  range = tt;
  plain = λ p. record { operand = p.operand; weight = p.weight; frames = p.frames };
  shows = λ more st fine whole.
      subst (λ z. GoesOn (front_of (names_of d ++ more) stages.Algorithm d) stages.Algorithm w (names_of d ++ more) (record d { algorithm = z; cost = None; room = None })) (sym e)
      (λ st fine whole. any_same (λ v. front_of (names_of d ++ more) (stage_of (named_read (decimal d.k) (expr_in (names_of d ++ more) d) v))
      (record d { algorithm = algorithm_found v; cost = None; room = None }) ≡ named_read (decimal d.k) (expr_in (names_of d ++ more) d) v) w using_words
      (refl, (refl, (refl, (refl, (refl, (refl, (refl, tt))))))) whole) st fine whole;
}

pub takes_factor : (d : Draft) (n : ℕ) (w : List ℕ) → Spelled w 1 MAX_NUMBER n → length (names_of d) ≤ MAX_LISTS
    → Takes stages.Factor d (record d { over = n }) w
takes_factor d n w h few = record {
  names = refl;
  few = few;
  range = range_is w 1 MAX_NUMBER n h;
  plain = λ p. record { operand = p.operand; weight = p.weight; frames = p.frames };
  shows = λ more st fine whole. ap (Front.at_over (decimal d.k) (expr_in (names_of d ++ more) d)) (decimal_is w 1 MAX_NUMBER n (omega arith) h);
}

pub takes_over : (d : Draft) (w : List ℕ) → length (names_of d) ≤ MAX_LISTS → Takes stages.Over d d w
takes_over d w few = record { names = refl; few = few; range = tt; plain = λ p. p; shows = λ more st fine whole. refl }

pub takes_under : (d : Draft) (n : ℕ) (w : List ℕ) → Spelled w 1 MAX_NUMBER n → length (names_of d) ≤ MAX_LISTS
    → Takes stages.Under d (record d { algorithm = Theta d.over n; cost = None; room = None }) w
takes_under d n w h few = record {
  names = refl;
  few = few;
  range = range_is w 1 MAX_NUMBER n h;
  plain = λ p. record { operand = p.operand; weight = p.weight; frames = p.frames };
  shows = λ more st fine whole.
      ap (λ z. Front.at_options (head_of (decimal d.k) (expr_in (names_of d ++ more) d) (Named.factor (decimal d.over) z))) (decimal_is w 1 MAX_NUMBER n (omega arith) h);
}

pub takes_depth : (d : Draft) (n : ℕ) (w : List ℕ) → Spelled w 1 MAX_NUMBER n → length (names_of d) ≤ MAX_LISTS
    → Takes stages.Depth d (record d { algorithm = Early n; cost = None; room = None }) w
takes_depth d n w h few = record {
  names = refl;
  few = few;
  range = range_is w 1 MAX_NUMBER n h;
  plain = λ p. record { operand = p.operand; weight = p.weight; frames = p.frames };
  shows = λ more st fine whole.
      ap (λ z. Front.at_options (head_of (decimal d.k) (expr_in (names_of d ++ more) d) (Named.depth z))) (decimal_is w 1 MAX_NUMBER n (omega arith) h);
}

-- the open operators with one more
frames_push : (names : List (List ℕ)) (xs rest : List Frame) (f : Frame) → xs ≡ rest ++ f ∷ []
    → map (frame_of names) (reverse xs) ≡ frame_of names f ∷ map (frame_of names) (reverse rest)
frames_push names xs rest f e = ap (λ z. map (frame_of names) (reverse z)) e ∙ ap (map (frame_of names)) (reverse-append rest (f ∷ []))

AreFramesPlain-push : (fs : List Frame) (f : Frame) → AreFramesPlain fs → IsFramePlain f → AreFramesPlain (fs ++ f ∷ [])
AreFramesPlain-push [] f h p = (p, tt)
AreFramesPlain-push (g ∷ fs) f h p = (h.0, AreFramesPlain-push fs f h.1 p)

AreFramesPlain-front : (fs : List Frame) (f : Frame) → AreFramesPlain (fs ++ f ∷ []) → AreFramesPlain fs × IsFramePlain f
AreFramesPlain-front [] f h = (tt, h.0)
AreFramesPlain-front (g ∷ fs) f h = let r = AreFramesPlain-front fs f h.1 in ((h.0, r.0), r.1)

-- the stage behind the beginning of an argument
begun_shown : (names : List (List ℕ)) (k : List ℕ) (f : front.Frame) (fs : List front.Frame) (d : Draft) → decimal d.k ≡ k → frames_in names d ≡ f ∷ fs
    → front_of names (stage_of (begun k f fs)) d ≡ begun k f fs
begun_shown names k f fs d ek ef = by_test (is_weighted f.operator)
  where
    by_test : (b : Bool)
        → front_of names (stage_of (cond b (Front.at_weight k (f ∷ fs)) (Front.at_operand k (f ∷ fs)))) d ≡ cond b (Front.at_weight k (f ∷ fs))
        (Front.at_operand k (f ∷ fs))
    by_test true = λ i. Front.at_weight (ek i) (ef i)
    by_test false = λ i. Front.at_operand (ek i) (ef i)

pub takes_opened : (d new : Draft) (f : Frame) (op : Operator) (w : List ℕ) → opened_by w ≡ Some op → new.frames.items ≡ d.frames.items ++ f ∷ []
    → new.k ≡ d.k → new.names ≡ d.names → new.operand ≡ d.operand → new.weight ≡ d.weight
    → ((names : List (List ℕ)) → frame_of names f ≡ opened op) → IsFramePlain f → length (names_of d) ≤ MAX_LISTS → Takes stages.Operand d new w
takes_opened d new f op w o e ek en eo ew shows plain few = record {
  names = ap (λ z. bytes_of z.items) en ∙ ap (λ z. each_once_after bytes_eq (names_of d) (names_in (operand_piece w z ∷ []))) (sym o);
  few = subst (λ z. length (bytes_of z.items) ≤ MAX_LISTS) (sym en) few;
  range = subst (λ z. IsInRange (operand_piece w z)) (sym o) tt;
  plain = λ p. record {
    operand = subst (λ z. IsPlain (tree_of z)) (sym eo) p.operand;
    weight = subst (λ z. z ≤ MAX_WEIGHT) (sym ew) p.weight;
    frames = subst AreFramesPlain (sym e) (AreFramesPlain-push d.frames.items f p.frames plain);
  };
  shows = λ more st fine whole.
      let names = names_of new ++ more in
      subst (λ z. front_of names (stage_of (operand_read (decimal d.k) (frames_in names d) w z)) new ≡ operand_read (decimal d.k) (frames_in names d) w z) (sym o)
      (begun_shown names (decimal d.k) (opened op) (frames_in names d) new (ap decimal ek)
      (frames_push names new.frames.items d.frames.items f e ∙ ap (λ z. z ∷ frames_in names d) (shows names)));
}

pub takes_name : (d new : Draft) (n : ℕ) (w : List ℕ) → opened_by w ≡ None → new.frames ≡ d.frames → new.k ≡ d.k → new.operand ≡ nodes.List n
    → new.weight ≡ d.weight
    → names_of new ≡ with_member bytes_eq (names_of d) w → length (names_of new) ≤ MAX_LISTS
    → ((more : List (List ℕ)) → name_of (names_of new ++ more) n ≡ w) → Takes stages.Operand d new w
takes_name d new n w o ef ek eo ew en few named = record {
  names = en ∙ ap (λ z. each_once_after bytes_eq (names_of d) (names_in (operand_piece w z ∷ []))) (sym o);
  few = few;
  range = subst (λ z. IsInRange (operand_piece w z)) (sym o) tt;
  plain = λ p. record {
    operand = subst (λ z. IsPlain (tree_of z)) (sym eo) tt;
    weight = subst (λ z. z ≤ MAX_WEIGHT) (sym ew) p.weight;
    frames = subst (λ z. AreFramesPlain z.items) (sym ef) p.frames;
  };
  shows = λ more st fine whole.
      let names = names_of new ++ more in
      subst (λ z. front_of names (stage_of (operand_read (decimal d.k) (frames_in names d) w z)) new ≡ operand_read (decimal d.k) (frames_in names d) w z) (sym o)
      (λ i. Front.at_behind (decimal (ek i)) (map (frame_of names) (reverse (ef i).items)) (expr_is names (named more) i));
}
  where
    expr_is : (names : List (List ℕ)) → name_of names n ≡ w → expr_in names new ≡ Written.name w
    expr_is names h = ap (λ z. written names (tree_of z)) eo ∙ ap Written.name h

-- behind an operand outside of all operators
pub takes_end : (d new : Draft) (w : List ℕ) → d.frames.items ≡ [] → new.frames.items ≡ [] → new.k ≡ d.k → new.names ≡ d.names → new.operand ≡ d.operand
    → new.weight ≡ d.weight
    → length (names_of d) ≤ MAX_LISTS → Takes stages.Behind d new w
takes_end d new w e e2 ek en eo ew few = record {
  names = ap (λ z. bytes_of z.items) en;
  few = subst (λ z. length (bytes_of z.items) ≤ MAX_LISTS) (sym en) few;
  range = tt;
  plain = λ p. record { operand = subst (λ z. IsPlain (tree_of z)) (sym eo) p.operand; weight = subst (λ z. z ≤ MAX_WEIGHT) (sym ew) p.weight; frames = subst AreFramesPlain (sym e2) tt };
  shows = λ more st fine whole.
      let names = names_of new ++ more in
      subst (λ fs. front_of names (stage_of (next (Front.at_behind (decimal d.k) fs (expr_in names d)) w)) new ≡ next (Front.at_behind (decimal d.k) fs (expr_in names d)) w)
      (sym (ap (λ z. map (frame_of names) (reverse z)) e))
      (λ i. Front.at_algorithm (decimal (ek i)) (written names (tree_of (eo i))));
}

-- behind an argument of an operator, by the frame that was the innermost
abbrev BehindShown : List (List ℕ) → Draft → Draft → List ℕ → List front.Frame → Type 0
BehindShown names d new w fs =
    IsFine (Front.at_behind (decimal d.k) fs (expr_in names d)) →
    front_of names (stage_of (next (Front.at_behind (decimal d.k) fs (expr_in names d)) w)) new ≡ next (Front.at_behind (decimal d.k) fs (expr_in names d)) w

pub takes_comma : (d new : Draft) (rest : List Frame) (f g : Frame) (w : List ℕ) → bytes_eq w (codes ",") ≡ true → d.frames.items ≡ rest ++ f ∷ []
    → new.frames.items ≡ rest ++ g ∷ []
    → AddsArgument f g (tree_of d.operand) → new.k ≡ d.k → new.names ≡ d.names → new.operand ≡ nodes.List 0 → new.weight ≡ d.weight
    → length (names_of d) ≤ MAX_LISTS → Takes stages.Behind d new w
takes_comma d new rest f g w is e e2 adds ek en eo ew few = record {
  names = ap (λ z. bytes_of z.items) en;
  few = subst (λ z. length (bytes_of z.items) ≤ MAX_LISTS) (sym en) few;
  range = tt;
  plain = λ p.
      let parts = AreFramesPlain-front rest f (subst AreFramesPlain e p.frames) in
      record {
        operand = subst (λ z. IsPlain (tree_of z)) (sym eo) tt;
        weight = subst (λ z. z ≤ MAX_WEIGHT) (sym ew) p.weight;
        frames = subst AreFramesPlain (sym e2) (AreFramesPlain-push rest g parts.0 (adds.plain p.operand parts.1));
      };
  shows = λ more st fine whole. subst (BehindShown (names_of new ++ more) d new w) (sym (frames_push (names_of new ++ more) d.frames.items rest f e)) (shown (names_of new ++ more)) fine;
}
  where
    shown : (names : List (List ℕ)) → BehindShown names d new w (frame_of names f ∷ map (frame_of names) (reverse rest))
    shown names fine =
        let k = decimal d.k in
        let fs = map (frame_of names) (reverse rest) in
        subst (λ b. front_of names (stage_of (argument_read k (frame_of names f) fs (expr_in names d) b)) new ≡ argument_read k (frame_of names f) fs (expr_in names d) b) (sym is)
        (begun_shown names k (record (frame_of names f) { done = all_done (frame_of names f) (expr_in names d); weight = None }) fs new (ap decimal ek)
        (frames_push names new.frames.items rest g e2 ∙ ap (λ z. z ∷ fs) (adds.shows names fine.1.1)))

pub takes_close : (d new : Draft) (rest : List Frame) (f : Frame) (w : List ℕ) → bytes_eq w (codes ",") ≡ false → d.frames.items ≡ rest ++ f ∷ []
    → new.frames.items ≡ rest
    → Closes f (tree_of d.operand) (tree_of new.operand) → new.k ≡ d.k → new.names ≡ d.names → new.weight ≡ d.weight
    → length (names_of d) ≤ MAX_LISTS → Takes stages.Behind d new w
takes_close d new rest f w is e e2 closes ek en ew few = record {
  names = ap (λ z. bytes_of z.items) en;
  few = subst (λ z. length (bytes_of z.items) ≤ MAX_LISTS) (sym en) few;
  range = tt;
  plain = λ p.
      let parts = AreFramesPlain-front rest f (subst AreFramesPlain e p.frames) in
      record { operand = closes.plain p.operand parts.1; weight = subst (λ z. z ≤ MAX_WEIGHT) (sym ew) p.weight; frames = subst AreFramesPlain (sym e2) parts.0 };
  shows = λ more st fine whole. subst (BehindShown (names_of new ++ more) d new w) (sym (frames_push (names_of new ++ more) d.frames.items rest f e)) (shown (names_of new ++ more)) fine;
}
  where
    shown : (names : List (List ℕ)) → BehindShown names d new w (frame_of names f ∷ map (frame_of names) (reverse rest))
    shown names fine =
        let k = decimal d.k in
        let fs = map (frame_of names) (reverse rest) in
        subst (λ b. front_of names (stage_of (argument_read k (frame_of names f) fs (expr_in names d) b)) new ≡ argument_read k (frame_of names f) fs (expr_in names d) b) (sym is)
        (λ i. Front.at_behind (decimal (ek i)) (map (frame_of names) (reverse (e2 i))) (closes.shows names fine.1.1 i))

-- behind `*` outside of all operators, and inside one
abbrev TimesShown : List (List ℕ) → Draft → Draft → List ℕ → List front.Frame → Type 0
TimesShown names d new w fs =
    front_of names (stage_of (next (Front.at_times (decimal d.k) fs (decimal d.weight)) w)) new ≡ next (Front.at_times (decimal d.k) fs (decimal d.weight)) w

pub takes_times_outside : (d new : Draft) (w : List ℕ) → d.frames.items ≡ [] → new.frames.items ≡ [] → new.k ≡ d.k → new.names ≡ d.names
    → new.operand ≡ d.operand → new.weight ≡ d.weight
    → length (names_of d) ≤ MAX_LISTS → Takes stages.Times d new w
takes_times_outside d new w e e2 ek en eo ew few = record {
  names = ap (λ z. bytes_of z.items) en;
  few = subst (λ z. length (bytes_of z.items) ≤ MAX_LISTS) (sym en) few;
  range = tt;
  plain = λ p. record { operand = subst (λ z. IsPlain (tree_of z)) (sym eo) p.operand; weight = subst (λ z. z ≤ MAX_WEIGHT) (sym ew) p.weight; frames = subst AreFramesPlain (sym e2) tt };
  shows = λ more st fine whole.
      let names = names_of new ++ more in
      subst (TimesShown names d new w) (sym (ap (λ z. map (frame_of names) (reverse z)) e))
      (λ i. Front.at_operand (decimal (ek i)) (map (frame_of names) (reverse (e2 i))));
}

pub takes_times : (d new : Draft) (rest : List Frame) (f : Frame) (w : List ℕ) → d.frames.items ≡ rest ++ f ∷ []
    → new.frames.items ≡ rest ++ record f { weight = Some d.weight } ∷ []
    → new.k ≡ d.k → new.names ≡ d.names → new.operand ≡ d.operand → new.weight ≡ d.weight → length (names_of d) ≤ MAX_LISTS → Takes stages.Times d new w
takes_times d new rest f w e e2 ek en eo ew few = record {
  names = ap (λ z. bytes_of z.items) en;
  few = subst (λ z. length (bytes_of z.items) ≤ MAX_LISTS) (sym en) few;
  range = tt;
  plain = λ p.
      let parts = AreFramesPlain-front rest f (subst AreFramesPlain e p.frames) in
      record {
        operand = subst (λ z. IsPlain (tree_of z)) (sym eo) p.operand;
        weight = subst (λ z. z ≤ MAX_WEIGHT) (sym ew) p.weight;
        frames = subst AreFramesPlain (sym e2) (AreFramesPlain-push rest (record f { weight = Some d.weight }) parts.0 (record { weight = p.weight; nodes = parts.1.nodes; terms = parts.1.terms }));
      };
  shows = λ more st fine whole.
      let names = names_of new ++ more in
      let fs = map (frame_of names) (reverse rest) in
      subst (TimesShown names d new w) (sym (frames_push names d.frames.items rest f e))
      (let same : frames_in names new ≡ frame_of names (record f { weight = Some d.weight }) ∷ fs = frames_push names new.frames.items rest (record f { weight = Some d.weight }) e2 in
      λ i. Front.at_operand (decimal (ek i)) (same i));
}

-- a fixed word that changes nothing
pub takes_top : (d : Draft) (w : List ℕ) → length (names_of d) ≤ MAX_LISTS → Takes stages.Top d d w
takes_top d w few = record { names = refl; few = few; range = tt; plain = λ p. p; shows = λ more st fine whole. by_frames more d.frames.items refl st }
  where
    by_frames : (more : List (List ℕ)) (xs : List Frame) → d.frames.items ≡ xs → stage_of (unopened xs Front.at_top) ≡ stages.Top
        → front_of (names_of d ++ more) (stage_of (next (unopened xs Front.at_top) w)) d ≡ next (unopened xs Front.at_top) w
    by_frames more [] e st = ap (λ z. unopened z Front.at_count) e
    by_frames more (x ∷ xs) e st = absurd cc

pub takes_by : (d : Draft) (w : List ℕ) → length (names_of d) ≤ MAX_LISTS → Takes stages.By d d w
takes_by d w few = record { names = refl; few = few; range = tt; plain = λ p. p; shows = λ more st fine whole. by_frames more d.frames.items refl st }
  where
    by_frames : (more : List (List ℕ)) (xs : List Frame) → d.frames.items ≡ xs → stage_of (unopened xs (Front.at_by (decimal d.k))) ≡ stages.By
        → front_of (names_of d ++ more) (stage_of (next (unopened xs (Front.at_by (decimal d.k))) w)) d ≡ next (unopened xs (Front.at_by (decimal d.k))) w
    by_frames more [] e st = ap (λ z. Front.at_operand (decimal d.k) (map (frame_of (names_of d ++ more)) (reverse z))) e
    by_frames more (x ∷ xs) e st = absurd cc

pub takes_options : (d : Draft) (w : List ℕ) → length (names_of d) ≤ MAX_LISTS → Takes stages.Options d d w
takes_options d w few = record { names = refl; few = few; range = tt; plain = λ p. p; shows = λ more st fine whole. by_options more d.cost d.room refl refl st }
  where
    by_options : (more : List (List ℕ)) (c : Option Costs) (r : Option ℕ) → d.cost ≡ c → d.room ≡ r
        → stage_of (unset c (unset r (Front.at_options (head_in (names_of d ++ more) d)))) ≡ stages.Options
        → front_of (names_of d ++ more) (stage_of (next (unset c (unset r (Front.at_options (head_in (names_of d ++ more) d)))) w)) d
        ≡ next (unset c (unset r (Front.at_options (head_in (names_of d ++ more) d)))) w
    by_options more None None ec er st = by_word (bytes_eq w (codes " cost "))
      where
        by_word : (b : Bool)
            → front_of (names_of d ++ more)
            (stage_of (cond b (Front.at_sorted (head_in (names_of d ++ more) d)) (Front.at_room (head_in (names_of d ++ more) d) None))) d
            ≡ cond b (Front.at_sorted (head_in (names_of d ++ more) d)) (Front.at_room (head_in (names_of d ++ more) d) None)
        by_word true = ap (λ z. unset z (Front.at_sorted (head_in (names_of d ++ more) d))) er
        by_word false = ap (λ z. Front.at_room (head_in (names_of d ++ more) d) (option_map cost_digits z)) ec
    by_options more None (Some r) ec er st = absurd cc
    by_options more (Some c) r ec er st = absurd cc

pub takes_between : (d : Draft) (w : List ℕ) → length (names_of d) ≤ MAX_LISTS → Takes stages.Between d d w
takes_between d w few = record { names = refl; few = few; range = tt; plain = λ p. p; shows = λ more st fine whole. by_room more d.room refl st }
  where
    by_room : (more : List (List ℕ)) (r : Option ℕ) → d.room ≡ r
        → stage_of (unset r (Front.at_between (head_in (names_of d ++ more) d) (decimal d.sorted))) ≡ stages.Between
        → front_of (names_of d ++ more) (stage_of (next (unset r (Front.at_between (head_in (names_of d ++ more) d) (decimal d.sorted))) w)) d
        ≡ next (unset r (Front.at_between (head_in (names_of d ++ more) d) (decimal d.sorted))) w
    by_room more None e st = ap (λ z. unset z (Front.at_random (head_in (names_of d ++ more) d) (decimal d.sorted))) e
    by_room more (Some r) e st = absurd cc

pub takes_priced : (d : Draft) (w : List ℕ) → length (names_of d) ≤ MAX_LISTS → Takes stages.Priced d d w
takes_priced d w few = record { names = refl; few = few; range = tt; plain = λ p. p; shows = λ more st fine whole. by_options more d.cost d.room refl refl st }
  where
    by_options : (more : List (List ℕ)) (c : Option Costs) (r : Option ℕ) → d.cost ≡ c → d.room ≡ r
        → stage_of (unset r (priced (head_in (names_of d ++ more) d) c)) ≡ stages.Priced
        → front_of (names_of d ++ more) (stage_of (next (unset r (priced (head_in (names_of d ++ more) d) c)) w)) d
        ≡ next (unset r (priced (head_in (names_of d ++ more) d) c)) w
    by_options more (Some c) None ec er st = ap (λ z. Front.at_room (head_in (names_of d ++ more) d) (option_map cost_digits z)) ec
    by_options more None None ec er st = absurd cc
    by_options more c (Some r) ec er st = absurd cc

pub takes_done : (d : Draft) (w : List ℕ) → length (names_of d) ≤ MAX_LISTS → Takes stages.Done d d w
takes_done d w few = record { names = refl; few = few; range = tt; plain = λ p. p; shows = λ more st fine whole. refl }
