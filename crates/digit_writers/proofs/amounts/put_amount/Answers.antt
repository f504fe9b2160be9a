use Rattle.std.proofs.Common.{ℕ, length, ap, arith}
use Rattle.digit_writers.specs.Amounts.{whole_text}
use Rattle.digit_writers.proofs.AmountParts.{amount_length, amount_written}
use Rattle.digit_writers.proofs.amounts.put_amount.Goals as goal

pub returns-clause-written : goal.returns-clause-written
returns-clause-written c =
    let a = c.args in
    let whole = c.without_places-whole in
    let start = c.put_sign-start in
    let middle = c.put_whole-middle in
    let last = c.put_fraction in
    let long = amount_length a.is_grouped a.separator a.point a.places a.is_negative a.magnitude in
    let same = ap (λ (k : ℕ). length (whole_text a.is_grouped a.separator k)) whole.ensures in
    amount_written a.is_grouped a.separator a.point a.places a.is_negative a.magnitude a.out.now
    start.new.out middle.new.out last.new.out start.result middle.result last.result whole.result
    whole.ensures start.ensures.end start.ensures.written middle.ensures.end middle.ensures.written
    last.ensures.end last.ensures.written
    (omega (
      arith,
      long,
      same,
      c.count_signs.ensures.is,
      c.count_whole.ensures.is,
      c.count_fraction.ensures.is,
      c.if-needed-out.false,
    ))
