use Rattle.std.proofs.Common.{[], ◌∷◌, ◌++◌, ap, ◌∙◌}
use Rattle.tk_io.proofs.Putting.{puts_as}
use Rattle.cert_judge.specs.Refusing.{shown_refusal}
use Rattle.cert_judge.proofs.Refusing.{refused_text}
use Rattle.cert_judge.proofs.writing.put_told.Goals as goal

pub returns-in-Some-One : goal.returns-in-Some-One
returns-in-Some-One g c =
    puts_as _ _ _ _
    (refused_text c.args.told.now c.in-Some-One.field-0 c.in-Some-One.ensures ∙ ap (λ line. shown_refusal line ++ 10 ∷ []) c.in-Some-One.field-0-is)
    c.put_refused.ensures

pub returns-in-Some-Two : goal.returns-in-Some-Two
returns-in-Some-Two g c =
    puts_as _ _ _ _
    (refused_text c.args.told.now c.in-Some-Two.field-0 c.in-Some-Two.ensures ∙ ap (λ line. shown_refusal line ++ 10 ∷ []) c.in-Some-Two.field-0-is)
    c.put_refused-in-Some-Two.ensures
