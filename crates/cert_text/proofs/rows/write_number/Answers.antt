use Rattle.std.proofs.Common.{◌≡◌, ◌<◌, ◌^◌, ◌++◌, drop, length, subst, arith, rules}
use Rattle.std.specs.Fmt.{decimal}
use Rattle.cert_text.proofs.NumberPlaces.{few_digits, space_before}
use Rattle.cert_text.proofs.rows.write_number.Goals as goal

pub write_digits-at-requires : goal.write_digits-at-requires
write_digits-at-requires c =
    let few : c.from.result < 2 ^ 32 = search rules in
    (omega (arith, (few_digits c.from.result few).1, c.requires.0), c.requires.1)

pub overflow_sub-at : goal.overflow_sub-at
overflow_sub-at c =
    let few : c.from.result < 2 ^ 32 = search rules in
    omega (arith, (few_digits c.from.result few).1, c.requires.0, c.write_digits-at.ensures.start)

pub returns-clause-begins : goal.returns-clause-begins
returns-clause-begins c =
    let few : c.from.result < 2 ^ 32 = search rules in
    let digits = few_digits c.from.result few in
    (omega (arith, digits.1, c.requires.0, c.write_digits-at.ensures.start), omega (arith, c.write_digits-at.ensures.start))

pub returns-clause-written : goal.returns-clause-written
returns-clause-written c =
    let few : c.from.result < 2 ^ 32 = search rules in
    let digits = few_digits c.from.result few in
    let long : length c.write_digits-at.new.buf ≡ length c.args.text.now = search rules in
    let end : drop c.write_digits-at.result c.write_digits-at.new.buf ≡ decimal c.args.number ++ drop c.args.end c.args.text.now =
    subst (λ n. drop c.write_digits-at.result c.write_digits-at.new.buf ≡ decimal n ++ drop c.args.end c.args.text.now) c.from.ensures c.write_digits-at.ensures.written in
    space_before c.write_digits-at.new.buf c.write_digits-at.result (decimal c.args.number) (drop c.args.end c.args.text.now)
    (omega (arith, digits.1, c.requires.0, c.write_digits-at.ensures.start)) (omega (arith, long, c.requires.1, c.write_digits-at.ensures.start)) end
