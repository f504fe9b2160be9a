use Rattle.std.proofs.Common.{◌≡◌, sym, ◌∙◌, refl, arith}
use Rattle.std.specs.Prelude.{Err}
use Rattle.std.specs.Float.{binary64}
use Rattle.std.proofs.lemmas.Bool.Decides.{nat_tests}
use Rattle.digit_numbers.specs.Numbers.{plain_at}
use Rattle.digit_numbers.specs.declared.number.NumberError.TheVariants as errors
use Rattle.digit_numbers.proofs.Decimals.{ends, large_onward}
use Rattle.digit_numbers.proofs.decimal.read_end.Goals as goal

pub returns-then-word-form-clause-all : goal.returns-then-word-form-clause-all
returns-then-word-form-clause-all c =
    let s = c.requires.sign in
    let i = c.in-Ok-Integer-default in
    let no = rw s.ends at c.requires.no_float in
    let none = rw s.ends at c.requires.no_prefix in
    let is = rw i.field-0-0-is at i.ensures.is in
    rw (c.requires.digits.whole_end, c.requires.start, s.ends)
    (ends c.args.form c.args.text.now c.args.start no none _ _ is
    (grind (arith, nat_tests, c.if-word-form.true)))

pub returns-in-Ok-Float-default-clause-all : goal.returns-in-Ok-Float-default-clause-all
returns-in-Ok-Float-default-clause-all c =
    let s = c.requires.sign in
    let i = c.in-Ok-Float-default in
    let no = rw s.ends at c.requires.no_float in
    let none = rw s.ends at c.requires.no_prefix in
    let is = rw i.field-0-0-is at i.ensures.is in
    rw (c.requires.digits.whole_end, c.requires.start, s.ends)
    (ends c.args.form c.args.text.now c.args.start no none _ _ is refl)

pub returns-in-Err-Overflow-clause-end : goal.returns-in-Err-Overflow-clause-end
returns-in-Err-Overflow-clause-end c =
    let s = c.requires.sign in
    let m = c.requires.digits.is in
    let no = rw s.ends at c.requires.no_float in
    let none = rw s.ends at c.requires.no_prefix in
    let is : plain_at c.args.form c.args.text.now c.args.start binary64
    ≡ Err (errors.Overflow c.in-Err-Overflow.field-0-0) =
    cc (c.in-Err-Overflow.ensures, c.in-Err-Overflow.field-0-is) in
    let other = rw s.ends at (sym c.is_zero.ensures.is ∙ c.if-not-is_zero.true) in
    let past = large_onward c.args.form c.args.text.now c.args.start no none _ is other in
    let whole = rw (c.requires.start, s.ends) at c.requires.digits.whole_end in
    (omega (arith, past, whole, s.onward, s.ends), omega (arith, m.onward, m.fraction, m.within))
