use Rattle.std.proofs.Common.{◌≡◌, rules, arith}
use Rattle.digit_values.proofs.Counted.{one_read, fewer_left, stops_before, ends_there}
use Rattle.digit_values.proofs.slice.read_bytes.Goals as goal

pub loop-digit-init : goal.loop-digit-init
loop-digit-init c = record {
  same = search rules;
  fits = c.requires;
  below = omega arith;
  all = λ d read n same h. let as_many : n ≡ read.count = omega (arith, same) in rw as_many h;
}

pub loop-digit-preserved : goal.loop-digit-preserved
loop-digit-preserved c =
    let peeked = c.peek_digit_of.ensures in
    one_read _ _ _ _ _ _ _ _ _ c.loop-digit.invariant peeked.costs peeked.settles c.in-Some.digit
    (search rules) _ _ c.in-Some-add_if.ensures.is c.next_of.ensures.costs
    c.next_of.ensures.takes.takes

pub loop-digit-smaller : goal.loop-digit-smaller
loop-digit-smaller c =
    let peeked = c.peek_digit_of.ensures in
    fewer_left _ _ _ _ _ _ _ _ _ c.loop-digit.invariant peeked.costs peeked.settles c.in-Some.digit
    (search rules) _ c.next_of.ensures.takes.takes

pub returns-in_default-add_if : goal.returns-in_default-add_if
returns-in_default-add_if c =
    let peeked = c.peek_digit_of.ensures in
    stops_before _ _ _ _ _ _ _ _ _ c.loop-digit.invariant peeked.costs peeked.settles
    c.in-Some.digit (search rules) _ c.cursor-end.ensures.value c.in_default-add_if.ensures.is

pub returns : goal.returns
returns c =
    let peeked = c.peek_digit_of.ensures in
    rw c.at.ensures
    (ends_there _ _ _ _ _ _ _ _ _ c.loop-digit.invariant peeked.costs peeked.settles _
    c.cursor.ensures.value (search rules))
