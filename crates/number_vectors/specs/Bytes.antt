-- What passing digits or a byte leaves.
use Rattle.std.specs.Prelude.{ℕ, ◌+◌, if◌then◌else◌, List}
use Rattle.lexical_format.specs.Digits.{is_digit_of_radix}
use Rattle.lexical_digits.specs.declared.skip.component.Component.{Component}
use Rattle.lexical_digits.specs.State.{State, with_cursor}
use Rattle.lexical_digits.specs.Stop.{after_leading, past_digits_of}
use Rattle.digit_literals.specs.Numbers.{has_byte}

-- past the digits of a component that lead, and then past the byte at the cursor if it is `mark`
abbrev pub past_component : Component → ℕ → State → State
past_component k mark s =
    let t = past_digits_of k s in
    if has_byte t.buffer t.cursor mark then with_cursor t (t.cursor + 1) else t

-- the same of an iterator, for the digits of a radix
module _ {M : Type 0} (buffer : M → List ℕ) (cursor place : M → ℕ) (taken settled : M → M)
    (moved : M → ℕ → M) (radix : ℕ) where
  abbrev pub past_leading : ℕ → M → M
  past_leading mark m =
      let t = after_leading buffer cursor place taken settled (is_digit_of_radix radix) m in
      if has_byte (buffer t) (cursor t) mark then moved t (cursor t + 1) else t
