use Rattle.lexical_digits.specs.declared.skip.component.Component.TheVariants.{Integer, Fraction, Exponent, Special}
use Rattle.std.proofs.Common.{rules}
use Rattle.lexical_digits.specs.CallTable.{On}
use Rattle.digit_script.specs.Script.{Makes}
use Rattle.digit_script.proofs.Scripts.{is_on}
use Rattle.digit_script.proofs.dispatch.read_on.Goals as goal

pub returns-in-Integer : goal.returns-in-Integer
returns-in-Integer c =
    let a = c.is_at_separator-at_separator.new.bytes in
    let b = c.read.new.iter.byte.now in
    let makes : Makes (On Integer) c.args.op a b c.read.result =
    c.read.ensures.makes Integer (λ m. m) (is_on Integer a.state) in
    rw (c.in-Integer.is, ← c.is_at_separator-at_separator.ensures.same) (search (rules, makes))

pub returns-in-Fraction : goal.returns-in-Fraction
returns-in-Fraction c =
    let a = c.is_at_separator-at_separator.new.bytes in
    let b = c.read-in-Fraction.new.iter.byte.now in
    let makes : Makes (On Fraction) c.args.op a b c.read-in-Fraction.result =
    c.read-in-Fraction.ensures.makes Fraction (λ m. m) (is_on Fraction a.state) in
    rw (c.in-Fraction.is, ← c.is_at_separator-at_separator.ensures.same) (search (rules, makes))

pub returns-in-Exponent : goal.returns-in-Exponent
returns-in-Exponent c =
    let a = c.is_at_separator-at_separator.new.bytes in
    let b = c.read-in-Exponent.new.iter.byte.now in
    let makes : Makes (On Exponent) c.args.op a b c.read-in-Exponent.result =
    c.read-in-Exponent.ensures.makes Exponent (λ m. m) (is_on Exponent a.state) in
    rw (c.in-Exponent.is, ← c.is_at_separator-at_separator.ensures.same) (search (rules, makes))

pub returns-in-Special : goal.returns-in-Special
returns-in-Special c =
    let a = c.is_at_separator-at_separator.new.bytes in
    let b = c.read-in-Special.new.iter.byte.now in
    let makes : Makes (On Special) c.args.op a b c.read-in-Special.result =
    c.read-in-Special.ensures.makes Special (λ m. m) (is_on Special a.state) in
    rw (c.in-Special.is, ← c.is_at_separator-at_separator.ensures.same) (search (rules, makes))
