use Rattle.std.proofs.Common.{◌≡◌, ◌<◌, ◌%◌}
use Rattle.std.specs.Str.Parse.{digits_value}
use Rattle.digit_literals.specs.After.{digits_between}
use Rattle.number_vectors.proofs.remainder.remainder_between.Given as goal

-- the remainder of the digits so far
abbrev pub invariant-loop-at : goal.invariant-loop-at
invariant-loop-at l = record {
  rest : l.rest ≡ digits_value l.rule.radix (digits_between l.rule l.text 0 l.at) % l.by;
  below : l.rest < l.by;
}
