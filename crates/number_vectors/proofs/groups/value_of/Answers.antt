use Rattle.std.proofs.Common.{◌-◌, ◌^◌, arith, sym}
use Rattle.digit_literals.proofs.ForCallers.{all_is, few_digits_fit}
use Rattle.digit_integers.proofs.Texts.{says_some, says_none}
use Rattle.number_vectors.specs.Groups.{colons}
use Rattle.number_vectors.proofs.groups.value_of.Goals as goal

pub returns : goal.returns
returns c =
    let is = sym (rw c.requires.rule at c.in-Ok.ensures.is) in
    let read = says_some colons c.args.text.now 0 (2 ^ 64 - 1) _ _ is in
    grind (arith, all_is, read, c.requires.ends)

pub unreachable-requires : goal.unreachable-requires
unreachable-requires c =
    let is = sym (rw (c.in-Err-Empty.field-0-is, c.requires.rule) at c.in-Err-Empty.ensures.is) in
    let none = says_none colons c.args.text.now 0 (2 ^ 64 - 1) _ is in
    grind (arith, all_is, none, c.requires.ends, c.requires.some)

pub unreachable-requires-in-Err-Overflow : goal.unreachable-requires-in-Err-Overflow
unreachable-requires-in-Err-Overflow c =
    few_digits_fit colons c.args.text.now c.in-Err-Overflow.field-0-0 16
    (sym (rw (c.in-Err-Overflow.field-0-is, c.requires.rule) at c.in-Err-Overflow.ensures.is))
    (omega arith) (omega arith) c.requires.few
