use Rattle.std.proofs.Common.{◌≡◌, ◌+◌, take, sym, subst, ap, ◌∙◌, arith}
use Rattle.std.specs.Prelude.{if◌then◌else◌, min}
use Rattle.std.specs.Float.Parse.{parse_float}
use Rattle.std.specs.Str.{IsUtf8}
use Rattle.digit_floats.proofs.Written.{reads_kept, cut_utf8, ok_of, some_of, some_is}
use Rattle.digit_floats.proofs.long.round_digits.Goals as goal

pub unwrap-text-requires : goal.unwrap-text-requires
unwrap-text-requires g c =
    let kept = c.keep_both-kept in
    let tens = c.tens_of-tens in
    let text =
    cut_utf8 (take kept.result.len kept.new.bytes) kept.result.more tens.result.up
    tens.result.down kept.ensures.keeps.digits (omega (arith, tens.ensures.most))
    (omega (arith, tens.ensures.most)) in
    ok_of _ _ c.from_utf8.result c.from_utf8.ensures.cases
    (subst IsUtf8 (sym c.push_tens-n.ensures.written) text)

pub unwrap-x-requires : goal.unwrap-x-requires
unwrap-x-requires g c =
    let kept = c.keep_both-kept in
    let tens = c.tens_of-tens in
    let n = c.args.power.value in
    let e : c.args.power.value ≡ min c.args.power.value 18446744073709551615 = omega arith in
    let is =
    (rw c.unwrap-text.ensures at c.from_utf8.ensures.cases).0 ∙ c.push_tens-n.ensures.written in
    let read =
    reads_kept g.F.Float.format kept.new.bytes kept.result _
    (if c.args.power.negative then 0 else n)
    (c.args.places + (if c.args.power.negative then n else 0)) tens.result.up tens.result.down
    kept.ensures.keeps (omega arith) (tens.ensures.up n e) (tens.ensures.down n e) in
    some_of c.of_text.result _ _ _ c.of_text.ensures (ap (parse_float g.F.Float.format) is ∙ read)

pub returns : goal.returns
returns g c n e =
    let kept = c.keep_both-kept in
    let tens = c.tens_of-tens in
    let is =
    (rw c.unwrap-text.ensures at c.from_utf8.ensures.cases).0 ∙ c.push_tens-n.ensures.written in
    let read =
    reads_kept g.F.Float.format kept.new.bytes kept.result _
    (if c.args.power.negative then 0 else n)
    (c.args.places + (if c.args.power.negative then n else 0)) tens.result.up tens.result.down
    kept.ensures.keeps (omega arith) (tens.ensures.up n e) (tens.ensures.down n e) in
    let found = rw c.unwrap-x.ensures at c.of_text.ensures in
    let both = sym found ∙ ap (parse_float g.F.Float.format) is ∙ read in
    c.signed.ensures _ _ (some_is both)
