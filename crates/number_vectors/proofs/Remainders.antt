-- The remainder of a number with one digit more, by the remainder of the number.
use Rattle.std.proofs.Common.{◌≡◌, ◌∙◌, ℕ, ◌+◌, ◌*◌, ◌%◌, ◌<◌, List, length, Some, None, slice_index, refl, ap, sym, arith}
use Rattle.std.proofs.Math.Nat.{add-mod}
use Rattle.std.proofs.lemmas.Nat.{mul-mod_first}
use Rattle.std.specs.Str.Parse.{digits_value}
use Rattle.lexical_format.specs.Digits.{digit_of_radix}
use Rattle.lexical_digits.specs.declared.skip.rule.Rule.{Rule}
use Rattle.digit_literals.specs.After.{digits_between}
use Rattle.digit_literals.proofs.ForCallers.{value_more, same_more}

-- the remainder of a value is enough
of_more : (a r d n : ℕ) → (a % n * r + d) % n ≡ (a * r + d) % n
of_more a r d n =
    add-mod (a % n * r) d n ∙ ap (λ x. (x + d % n) % n) (mul-mod_first a r n)
    ∙ sym (add-mod (a * r) d n)

-- with the digit at a position
pub with_digit : (rule : Rule) (text : List ℕ) (at d rest by : ℕ) → at < length text
    → digit_of_radix rule.radix (slice_index text at) ≡ Some d
    → rest ≡ digits_value rule.radix (digits_between rule text 0 at) % by
    → (rest * rule.radix + d) % by
    ≡ digits_value rule.radix (digits_between rule text 0 (at + 1)) % by
with_digit rule text at d rest by l e is =
    let more = value_more rule text 0 0 at rule.radix d (omega arith) l refl e in
    rw (is, more)
    (of_more (digits_value rule.radix (digits_between rule text 0 at)) rule.radix d by)

-- a byte that is no digit leaves it
pub without : (rule : Rule) (text : List ℕ) (at rest by : ℕ) → at < length text
    → digit_of_radix rule.radix (slice_index text at) ≡ None
    → rest ≡ digits_value rule.radix (digits_between rule text 0 at) % by
    → rest ≡ digits_value rule.radix (digits_between rule text 0 (at + 1)) % by
without rule text at rest by l e is = rw (same_more rule text 0 at (omega arith) l e) is
