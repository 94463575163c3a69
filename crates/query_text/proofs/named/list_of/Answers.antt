use Rattle.std.proofs.Common.{◌≡◌, ◌++◌, [], ◌∷◌, List, ℕ, length, refl, sym, ap, ◌∙◌, arith}
use Rattle.std.specs.List.{position}
use Rattle.std.specs.Global.{Vec}
use Rattle.std.specs.Str.{bytes_eq}
use Rattle.std.proofs.lemmas.List.{map-append}
use Rattle.query_text.specs.Bytes.{bytes_of}
use Rattle.query_text.proofs.ListLaws.{known_member, known_name, new_member, new_longer}
use Rattle.query_text.specs.Query.{name_of}
use Rattle.query_text.proofs.NamedLaws.{last_name}
use Rattle.query_text.proofs.named.list_of.Goals as goal

pub returns-in-Some-clause-names : goal.returns-in-Some-clause-names
returns-in-Some-clause-names c =
    known_member c.args.names.now.items c.args.word.now c.in-Some.place
    (ap (position (λ x. bytes_eq x.items c.args.word.now)) (sym c.deref.ensures.value) ∙ (sym c.place_of_name.ensures ∙ c.in-Some.is))

pub returns-in-Some-clause-number : goal.returns-in-Some-clause-number
returns-in-Some-clause-number c =
    known_name c.args.names.now.items c.args.word.now c.in-Some.place
    (ap (position (λ x. bytes_eq x.items c.args.word.now)) (sym c.deref.ensures.value) ∙ (sym c.place_of_name.ensures ∙ c.in-Some.is))

pub returns-then-count-ge-MAX_LISTS-clause-err : goal.returns-then-count-ge-MAX_LISTS-clause-err
returns-then-count-ge-MAX_LISTS-clause-err c =
    let e = new_longer c.args.names.now.items c.args.word.now
    (ap (position (λ x. bytes_eq x.items c.args.word.now)) (sym c.deref.ensures.value) ∙ (sym c.place_of_name.ensures ∙ c.in_default.is)) in
    (refl, omega (arith, e, c.args.names.now.ok.0))

pub returns-clause-names : goal.returns-clause-names
returns-clause-names c =
    let e = new_member c.args.names.now.items c.args.word.now
    (ap (position (λ x. bytes_eq x.items c.args.word.now)) (sym c.deref.ensures.value) ∙ (sym c.place_of_name.ensures ∙ c.in_default.is)) in
    ap bytes_of c.in-Ok-push.ensures.items
    ∙ (map-append (λ x. x.items) c.args.names.now.items (c.in-Ok.name ∷ [])
    ∙ (ap (λ z. bytes_of c.args.names.now.items ++ z ∷ []) c.in-Ok.ensures.items ∙ sym e))

pub returns-clause-number : goal.returns-clause-number
returns-clause-number c = λ more.
    let place : c.len-count.result ≡ length c.args.names.now.items = omega (arith, c.len-count.ensures, c.args.names.now.ok.0) in
    ap (name_of (bytes_of c.push.new.self.items ++ more)) place
    ∙ (ap (λ (names : List (Vec ℕ)). name_of (bytes_of names ++ more) (length c.args.names.now.items)) c.in-Ok-push.ensures.items
    ∙ (last_name c.args.names.now.items c.in-Ok.name more ∙ c.in-Ok.ensures.items))
