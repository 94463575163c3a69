use Rattle.std.proofs.Common.{sym, ◌∙◌, ap, ◌||◌}
use Rattle.std.specs.List.{list_any}
use Rattle.std.specs.Str.{bytes_eq}
use Rattle.bundle_text.proofs.TrackLaws.{list_any-map}
use Rattle.bundle_text.proofs.reader.Reader.is_taken.Goals as goal

pub returns-then-has_name : goal.returns-then-has_name
returns-then-has_name c =
    let self = c.args.self.now in
    let any = c.has_name.ensures ∙ ap (λ names. list_any (λ other. bytes_eq other.items c.args.name.now) names) c.deref.ensures.value ∙ sym (list_any-map (λ other. bytes_eq other c.args.name.now) (λ other. other.items) self.names.items) in
    c.if-has_name.true ∙ sym (ap (λ b. b || bytes_eq self.name.items c.args.name.now) (sym any ∙ c.if-has_name.true))

pub returns-else-has_name : goal.returns-else-has_name
returns-else-has_name c =
    let self = c.args.self.now in
    let any = c.has_name.ensures ∙ ap (λ names. list_any (λ other. bytes_eq other.items c.args.name.now) names) c.deref.ensures.value ∙ sym (list_any-map (λ other. bytes_eq other c.args.name.now) (λ other. other.items) self.names.items) in
    c.eq.ensures ∙ ap (λ bytes. bytes_eq bytes c.args.name.now) c.as_slice.ensures.value ∙ sym (ap (λ b. b || bytes_eq self.name.items c.args.name.now) (sym any ∙ c.if-has_name.false))
