-- An address has the pieces that it is taken to, and no others.
use Rattle.std.proofs.Common.{◌≡◌, ◌≢◌, ◌<◌, ◌≤◌, ◌+◌, ◌==◌, ◌&&◌, ◌||◌, ℕ, zero, suc, Bool, true, false, cond, eqb, inl, inr, List, [], ◌∷◌, ◌++◌, length, drop, take, get_or, Option, Some, None, refl, sym, ap, ◌∙◌, subst, arith, eqb-true, append_assoc, append-nil, length-append}
use Rattle.std.specs.Prelude.{codes, decimal, nat_eq, nat_le, IsUtf8}
use Rattle.std.specs.List.{All, list_all, starts_with}
use Rattle.std.specs.Cmp.Lexicographic.{pointwise}
use Rattle.std.specs.Char.{is_ascii_alphanumeric}
use Rattle.std.specs.Int.{is_in_range}
use Rattle.std.specs.Option.{option_map, option_and_then}
use Rattle.std.proofs.Math.Seq.{drop-append_seam}
use Rattle.std.proofs.lemmas.List.Elements.{All-head, All-tail, All-append, All-cons}
use Rattle.std.proofs.lemmas.List.Sums.{AllPass-from_list_all}
use Rattle.std.proofs.lemmas.Bool.{false≢true}
use Rattle.std.proofs.lemmas.Bool.Decides.{nat_tests}
use Rattle.std.proofs.lemmas.Option.{same_Some}
use Rattle.std.proofs.lemmas.Str.{IsUtf8-from_ascii}
use Rattle.std.proofs.lemmas.Str.Ascii.{IsAscii-nil}
use Rattle.topk_base.specs.Cuts.{cut_at, rest_after}
use Rattle.topk_base.specs.Numbers.{number_up_to}
use Rattle.topk_base.proofs.CutLaws.{cut_at-append, cut_at-none, cut_at-some, rest_after-append, rest_after-some}
use Rattle.topk_base.proofs.NumberLaws.{up_to-decimal, decimal-up_to, up_to-some, decimal_bytes}
use Rattle.catalog_text.specs.Places.{is_remote, is_host_byte, is_path_byte, IsHost, IsPath, SpellsPort, IsAddress, IsPathOrAddress, IsLocation}
use Rattle.catalog_text.specs.declared.place.Location.{Location}
use Rattle.catalog_text.specs.declared.place.Location.TheVariants.{File, Http}
use Rattle.catalog_text.specs.Pieces.{port_in, host_and_port, authority_and_path, with_path, pieces_in, pieces_now, IsOf}
use Rattle.catalog_text.specs.declared.place.Pieces.{Pieces}
use Rattle.catalog_text.specs.declared.place.Address.{Address}

-- ---- bytes

-- where all pass, none is one that doesn't pass
none_is : (test : ℕ → Bool) (byte : ℕ) → test byte ≡ false → (xs : List ℕ) → list_all test xs ≡ true → All (λ b. b ≢ byte) xs
none_is test byte fails xs all = λ k d inside e. false≢true (sym fails ∙ (ap test (sym e) ∙ AllPass-from_list_all test xs all k d inside))

either : {P : Type 0} (a b : Bool) → (a ≡ true → P) → (b ≡ true → P) → (a || b) ≡ true → P
either true b f g h = f refl
either false b f g h = g h

range_small : (low high byte : ℕ) → high < 128 → is_in_range low high byte ≡ true → byte < 128
range_small low high byte few e = grind (arith, nat_tests)

same_small : (byte number : ℕ) → number < 128 → (byte == number) ≡ true → byte < 128
same_small byte number few e = subst (λ b. b < 128) (sym (eqb-true byte number e)) few

host_small : (byte : ℕ) → is_host_byte byte ≡ true → byte < 128
host_small byte h =
    either (is_ascii_alphanumeric byte) ((byte == 46) || (byte == 45))
    (λ e. either (is_in_range 48 57 byte || is_in_range 65 90 byte) (is_in_range 97 122 byte)
    (λ f. either (is_in_range 48 57 byte) (is_in_range 65 90 byte) (range_small 48 57 byte (omega arith)) (range_small 65 90 byte (omega arith)) f)
    (range_small 97 122 byte (omega arith)) e)
    (λ e. either (byte == 46) (byte == 45) (same_small byte 46 (omega arith)) (same_small byte 45 (omega arith)) e) h

path_small : (byte : ℕ) → is_path_byte byte ≡ true → byte < 128
path_small byte h =
    either (is_host_byte byte) ((byte == 47) || (byte == 95)) (host_small byte)
    (λ e. either (byte == 47) (byte == 95) (same_small byte 47 (omega arith)) (same_small byte 95 (omega arith)) e) h

ascii : (xs : List ℕ) → All (λ b. b < 128) xs → (i : ℕ) → get_or xs i 0 < 128
ascii [] all i = IsAscii-nil i
ascii (x ∷ xs) all zero = All-head (λ b. b < 128) x xs all
ascii (x ∷ xs) all (suc i) = ascii xs (All-tail (λ b. b < 128) x xs all) i

-- a host and a path are text
pub host_is_text : (host : List ℕ) → IsHost host → IsUtf8 host
host_is_text host h = IsUtf8-from_ascii host (ascii host (λ k d inside. host_small _ (AllPass-from_list_all is_host_byte host h.bytes k d inside)))

pub path_is_text : (path : List ℕ) → IsPath path → IsUtf8 path
path_is_text path h = IsUtf8-from_ascii path (ascii path (λ k d inside. path_small _ (AllPass-from_list_all is_path_byte path h.bytes k d inside)))

-- ---- an address has its pieces

rooted : (path : List ℕ) → starts_with nat_eq path (codes "/") ≡ true → path ≡ 47 ∷ drop 1 path
rooted [] h = absurd (false≢true h)
rooted (x ∷ xs) h = by (eqb 47 x) refl h
  where
    by : (t : Bool) → eqb 47 x ≡ t → (t && pointwise nat_eq [] (take 0 xs)) ≡ true → x ∷ xs ≡ 47 ∷ xs
    by true is more = ap (λ b. b ∷ xs) (sym (eqb-true 47 x is))
    by false is more = absurd (false≢true more)

splits : (front path : List ℕ) → All (λ b. b ≢ 47) front → path ≡ 47 ∷ drop 1 path → authority_and_path (front ++ path) ≡ Some (front, path)
splits front path apart begins =
    let cut : cut_at 47 (front ++ path) ≡ Some (front, drop 1 path) = ap (λ p. cut_at 47 (front ++ p)) begins ∙ cut_at-append 47 front (drop 1 path) apart in
    ap (option_map (λ (c : List ℕ × List ℕ). (c.0, drop (length c.0) (front ++ path)))) cut ∙ ap (λ p. Some (front, p)) (drop-append_seam front path)

tested : (number : ℕ) → 1 ≤ number → cond (nat_le 1 number) (Some number) None ≡ Some number
tested number least = grind (arith, nat_tests)

port_read : (port : ℕ) → 1 ≤ port → port ≤ 65535 → port_in (decimal port) ≡ Some port
port_read port least most =
    ap (option_and_then (λ (number : ℕ). cond (nat_le 1 number) (Some number) None)) (up_to-decimal 65535 port most (omega arith)) ∙ tested port least

with_host : (host spelled path : List ℕ) (port : ℕ) → All (λ b. b ≢ 58) host → 1 ≤ port → port ≤ 65535 → SpellsPort spelled port
    → with_path (host ++ spelled, path) ≡ Some (host, port, path)
with_host host spelled path port apart least most (inl e) =
    let cut : cut_at 58 (host ++ spelled) ≡ Some (host, decimal port) = ap (λ s. cut_at 58 (host ++ s)) e ∙ cut_at-append 58 host (decimal port) apart in
    ap (λ o. option_map (λ (ported : List ℕ × ℕ). (ported.0, ported.1, path)) (host_and_port (host ++ spelled) o)) cut
    ∙ ap (λ o. option_map (λ (ported : List ℕ × ℕ). (ported.0, ported.1, path)) (option_map (λ (p : ℕ). (host, p)) o)) (port_read port least most)
with_host host spelled path port apart least most (inr e) =
    let bare : host ++ spelled ≡ host = ap (λ s. host ++ s) e.0 ∙ append-nil host in
    ap (λ h. with_path (h, path)) bare
    ∙ (ap (λ o. option_map (λ (ported : List ℕ × ℕ). (ported.0, ported.1, path)) (host_and_port host o)) (cut_at-none 58 host apart)
    ∙ ap (λ p. Some (host, p, path)) (sym e.1))

digits_apart : (port : ℕ) → port ≤ 65535 → All (λ b. b ≢ 47) (decimal port)
digits_apart port most = λ k d inside e.
    let at = decimal_bytes port (omega arith) k d inside in
    let least : 48 ≤ 47 = subst (λ b. 48 ≤ b) e at.0 in omega (arith, least)

spelled_apart : (spelled : List ℕ) (port : ℕ) → port ≤ 65535 → SpellsPort spelled port → All (λ b. b ≢ 47) spelled
spelled_apart spelled port most (inl e) = subst (All (λ b. b ≢ 47)) (sym e) (All-cons (λ b. b ≢ 47) 58 (decimal port) (λ same. omega (arith, same)) (digits_apart port most))
spelled_apart spelled port most (inr e) = subst (All (λ b. b ≢ 47)) (sym e.0) (λ k d inside. absurd (omega (arith, inside)))

pub complete : (text host : List ℕ) (port : ℕ) (path : List ℕ) → IsAddress text host port path → pieces_in text ≡ Some (host, port, path)
complete text host port path a =
    let stripped : rest_after (codes "http://") text ≡ Some (host ++ (a.spelled ++ path)) =
    ap (rest_after (codes "http://")) a.whole ∙ rest_after-append (codes "http://") (host ++ (a.spelled ++ path)) in
    let apart : All (λ b. b ≢ 47) (host ++ a.spelled) =
    All-append (λ b. b ≢ 47) host a.spelled (none_is is_host_byte 47 refl host a.host_form.bytes) (spelled_apart a.spelled port a.greatest a.port_text) in
    ap (λ o. option_and_then with_path (option_and_then authority_and_path o)) stripped
    ∙ (ap (λ r. option_and_then with_path (authority_and_path r)) (sym (append_assoc host a.spelled path))
    ∙ (ap (option_and_then with_path) (splits (host ++ a.spelled) path apart (rooted path a.path_form.begins))
    ∙ with_host host a.spelled path port (none_is is_host_byte 58 refl host a.host_form.bytes) a.least a.greatest a.port_text))

-- ---- the pieces make an address

abbrev pub Triple : Type 0
Triple = List ℕ × ℕ × List ℕ

abbrev pub triple : List ℕ → ℕ → List ℕ → Triple
triple host port path = (host, port, path)

record HasRest (o : Option (List ℕ)) (p : Triple) : Type 0 where
  pub rest : List ℕ
  pub is : o ≡ Some rest
  pub goes_on : option_and_then with_path (authority_and_path rest) ≡ Some p

has_rest : (o : Option (List ℕ)) (p : Triple) → option_and_then with_path (option_and_then authority_and_path o) ≡ Some p → HasRest o p
has_rest None p h = absurd cc
has_rest (Some rest) p h = record { rest = rest; is = refl; goes_on = h }

record HasCut (rest : List ℕ) (o : Option (List ℕ × List ℕ)) (p : Triple) : Type 0 where
  pub front : List ℕ
  pub behind : List ℕ
  pub is : o ≡ Some (front, behind)
  pub goes_on : with_path (front, drop (length front) rest) ≡ Some p

has_cut : (rest : List ℕ) (o : Option (List ℕ × List ℕ)) (p : Triple)
    → option_and_then with_path (option_map (λ (c : List ℕ × List ℕ). (c.0, drop (length c.0) rest)) o) ≡ Some p → HasCut rest o p
has_cut rest None p h = absurd cc
has_cut rest (Some cut) p h = record { front = cut.0; behind = cut.1; is = refl; goes_on = h }

record HasPort (authority path : List ℕ) (p : Triple) : Type 0 where
  pub spelled : List ℕ
  pub port_text : SpellsPort spelled p.1
  pub whole : authority ≡ p.0 ++ spelled
  pub path_is : path ≡ p.2
  pub least : 1 ≤ p.1
  pub greatest : p.1 ≤ 65535

record IsPort (text : List ℕ) (port : ℕ) : Type 0 where
  pub least : 1 ≤ port
  pub read : number_up_to 65535 text ≡ Some port

is_port : (text : List ℕ) (o : Option ℕ) (port : ℕ) → number_up_to 65535 text ≡ o
    → option_and_then (λ (number : ℕ). cond (nat_le 1 number) (Some number) None) o ≡ Some port → IsPort text port
is_port text None port is h = absurd cc
is_port text (Some number) port is h = by (nat_le 1 number) refl h
  where
    by : (t : Bool) → nat_le 1 number ≡ t → cond t (Some number) None ≡ Some port → IsPort text port
    by true test e = let same : number ≡ port = same_Some _ _ e in record {
      least = subst (λ n. 1 ≤ n) same (grind (arith, nat_tests));
      read = is ∙ ap Some same;
    }
    by false test e = absurd cc

has_spelled : (authority path host digits : List ℕ) (p : Triple) (o : Option ℕ) → cut_at 58 authority ≡ Some (host, digits) → port_in digits ≡ o
    → option_map (λ (ported : List ℕ × ℕ). (ported.0, ported.1, path)) (option_map (λ (port : ℕ). (host, port)) o) ≡ Some p → HasPort authority path p
has_spelled authority path host digits p None cut is h = absurd cc
has_spelled authority path host digits p (Some port) cut is h =
    let same : (host, port, path) ≡ p = same_Some _ _ h in
    let read = is_port digits (number_up_to 65535 digits) port refl is in
    let few : port ≤ 65535 = (up_to-some 65535 port digits read.read).1 in
    subst (HasPort authority path) same record {
      spelled = 58 ∷ decimal port;
      port_text = inl refl;
      whole = (cut_at-some 58 authority host digits cut).whole ∙ ap (λ d. host ++ 58 ∷ d) (decimal-up_to 65535 port digits (omega arith) read.read);
      path_is = refl;
      least = read.least;
      greatest = few;
    }

has_port : (authority path : List ℕ) (p : Triple) (o : Option (List ℕ × List ℕ)) → cut_at 58 authority ≡ o
    → option_map (λ (ported : List ℕ × ℕ). (ported.0, ported.1, path)) (host_and_port authority o) ≡ Some p → HasPort authority path p
has_port authority path p None cut h =
    let same : (authority, 80, path) ≡ p = same_Some _ _ h in
    subst (HasPort authority path) same record {
      spelled = [];
      port_text = inr (refl, refl);
      whole = sym (append-nil authority);
      path_is = refl;
      least = omega arith;
      greatest = omega arith;
    }
has_port authority path p (Some parts) cut h = has_spelled authority path parts.0 parts.1 p (port_in parts.1) cut refl h

pub sound : (text host : List ℕ) (port : ℕ) (path : List ℕ) → pieces_in text ≡ Some (host, port, path) → IsHost host → IsPath path → IsAddress text host port path
sound text host port path h good fine =
    let r = has_rest (rest_after (codes "http://") text) (host, port, path) h in
    let c = has_cut r.rest (cut_at 47 r.rest) (host, port, path) r.goes_on in
    let p = has_port c.front (drop (length c.front) r.rest) (host, port, path) (cut_at 58 c.front) refl c.goes_on in
    let cut = cut_at-some 47 r.rest c.front c.behind c.is in
    let path_here : drop (length c.front) r.rest ≡ 47 ∷ c.behind = ap (drop (length c.front)) cut.whole ∙ drop-append_seam c.front (47 ∷ c.behind) in
    let whole : r.rest ≡ host ++ (p.spelled ++ path) =
    cut.whole ∙ (ap (λ t. c.front ++ t) (sym path_here ∙ p.path_is) ∙ (ap (λ f. f ++ path) p.whole ∙ append_assoc host p.spelled path)) in
    record {
      host_form = good;
      least = p.least;
      greatest = p.greatest;
      path_form = fine;
      spelled = p.spelled;
      port_text = p.port_text;
      whole = rest_after-some (codes "http://") text r.rest r.is ∙ ap (λ t. codes "http://" ++ t) whole;
    }

-- ---- what the code tests

-- what stands before a cut is no longer than the text
pub cut_within : (byte : ℕ) (text front rest : List ℕ) → Some (front, rest) ≡ cut_at byte text → length front ≤ length text
cut_within byte text front rest h =
    let cut = cut_at-some byte text front rest (sym h) in
    let long : length text ≡ length front + suc (length rest) = ap length cut.whole ∙ length-append front (byte ∷ rest) in
    omega (arith, long)

no_triple : (p : Triple) → None ≡ Some p → ⊥
no_triple p e = absurd cc

-- without pieces there is no address
pub no_address : (text : List ℕ) → None ≡ pieces_in text → (host : List ℕ) (port : ℕ) (path : List ℕ) → IsAddress text host port path → ⊥
no_address text none host port path a = no_triple (triple host port path) (none ∙ complete text host port path a)

-- pieces that pass no test are of no address
pub not_these : (text : List ℕ) (pieces : Pieces) → Some (pieces_now pieces) ≡ pieces_in text → (IsHost pieces.host.now → IsPath pieces.path.now → ⊥)
    → (host : List ℕ) (port : ℕ) (path : List ℕ) → IsAddress text host port path → ⊥
not_these text pieces is fail host port path a =
    let same : pieces_now pieces ≡ (host, port, path) = same_Some _ _ (is ∙ complete text host port path a) in
    fail (subst IsHost (sym (ap (λ (p : Triple). p.0) same)) a.host_form) (subst IsPath (sym (ap (λ (p : Triple). p.2) same)) a.path_form)

-- pieces that pass are those of the address
pub these : (text : List ℕ) (pieces : Pieces) (address : Address) → Some (pieces_now pieces) ≡ pieces_in text → IsOf pieces address
    → IsAddress text address.host.now address.port address.path.now
these text pieces address is of =
    let same : pieces_now pieces ≡ (address.host.now, address.port, address.path.now) =
    ap (λ h. (h, pieces.port, pieces.path.now)) (sym of.host) ∙ (ap (λ p. (address.host.now, p, pieces.path.now)) (sym of.port) ∙ ap (λ p. (address.host.now, address.port, p)) (sym of.path)) in
    sound text address.host.now address.port address.path.now (sym is ∙ ap Some same) (subst IsHost (sym of.host) of.host_form) (subst IsPath (sym of.path) of.path_form)

-- a text is the address of one place
pub same_address : (text host other : List ℕ) (port number : ℕ) (path tail : List ℕ) → IsAddress text host port path → IsAddress text other number tail
    → triple host port path ≡ triple other number tail
same_address text host other port number path tail a b = same_Some _ _ (sym (complete text host port path a) ∙ complete text other number tail b)

-- what is found to be at some place is a place
pub located : (text : List ℕ) (location : Location) → IsLocation text location → IsPathOrAddress text
located text File is = inl is
located text (Http address) is = inr (address.host.now, address.port, address.path.now, is)

-- what begins as an address does and isn't one is no place
pub unlocated : (text : List ℕ) → is_remote text ≡ true → ((host : List ℕ) (port : ℕ) (path : List ℕ) → IsAddress text host port path → ⊥) → IsPathOrAddress text → ⊥
unlocated text remote none (inl is) = false≢true (sym is ∙ remote)
unlocated text remote none (inr a) = none a.0 a.1 a.2 a.3

-- what is an address begins as one does
begins_remote : (rest : List ℕ) → is_remote (codes "http://" ++ rest) ≡ true
begins_remote rest = refl

pub address_is_remote : (text host : List ℕ) (port : ℕ) (path : List ℕ) → IsAddress text host port path → is_remote text ≡ true
address_is_remote text host port path a = ap is_remote a.whole ∙ begins_remote (host ++ (a.spelled ++ path))
