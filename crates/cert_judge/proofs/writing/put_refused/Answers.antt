use Rattle.std.proofs.Common.{[], ◌∷◌, ◌++◌, codes, ap, take, append-nil, arith}
use Rattle.std.specs.Fmt.{decimal}
use Rattle.tk_io.proofs.Putting.{puts_then, puts_as, puts_all}
use Rattle.topk_theory.proofs.AgreementLists.{slice_get_from_read}
use Rattle.cert_judge.specs.Text.{refused_line}
use Rattle.cert_judge.proofs.Putting.{refused_more}
use Rattle.cert_judge.proofs.writing.put_refused.Goals as goal

pub loop-field-init : goal.loop-field-init
loop-field-init g c =
    puts_as _ _ _ _ (ap (λ t. codes "refused " ++ t) (append-nil c.args.name.now))
    (puts_then _ _ _ (codes "refused ") c.args.name.now c.put.ensures.puts c.put-2.ensures.puts)

pub loop-field-preserved : goal.loop-field-preserved
loop-field-preserved g c =
    let fields = c.args.fields.now in
    let so_far = refused_line c.args.name.now (take c.loop-field.field-index fields) in
    puts_as _ _ _ _ (refused_more c.args.name.now fields c.loop-field.field-index _ (slice_get_from_read fields c.loop-field.field-index 0 c.loop-field-test.true))
    (puts_then _ _ _ so_far _ c.loop-field.invariant
    (puts_then _ _ _ (32 ∷ []) (decimal _) c.put-in-loop-field.ensures.puts c.put_number.ensures.puts))

pub returns : goal.returns
returns g c =
    puts_then _ _ _ (refused_line c.args.name.now c.args.fields.now) (10 ∷ [])
    (puts_all (λ fields. refused_line c.args.name.now fields) c.args.fields.now c.loop-field.field-index _ _ (omega arith) c.loop-field.invariant)
    c.put-3.ensures.puts
