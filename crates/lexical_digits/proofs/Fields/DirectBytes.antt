-- Direct bytes: which they are by the shortcuts, and by the rule of the reader.
use Rattle.std.proofs.Common.{◌≡◌, ℕ, ◌<◌, ◌≤◌, Bool, false, ltb, unwrap_or, sym, ◌∙◌, ap, arith}
use Rattle.lexical_digits.specs.Laws.Terms.{digit_value, Rule, Shortcuts, separator, is_digit, is_separator, IsSupported, Component, Inside, rule_of, counts, is_direct, is_direct_by, AreShortcuts, nat_tests}
use Rattle.lexical_digits.proofs.Rule.Supported.{supported_rule}
use Rattle.lexical_digits.proofs.Looks.Owed.{separator_of}

digit_by : (rule : Rule) (byte : ℕ) → rule.radix ≤ 36
    → ltb (unwrap_or (digit_value byte) 36) rule.radix ≡ is_digit rule byte
unfolding is_digit digit_value
digit_by rule byte high = grind (arith, nat_tests)

values_low : (byte : ℕ) → unwrap_or (digit_value byte) 36 < 255
unfolding digit_value
values_low byte = grind (arith, nat_tests)

direct_test : (rule : Rule) (s : Shortcuts) (byte : ℕ) → IsSupported rule → AreShortcuts rule s
    → is_direct_by s byte ≡ is_direct rule byte
direct_test rule s byte supported are =
    grind (arith, nat_tests, are, digit_by rule byte supported.high, values_low byte)

-- another byte is no separator
pub not_separator : (separator byte : ℕ) → (byte ≡ separator → ⊥)
    → is_separator separator byte ≡ false
unfolding is_separator
not_separator separator byte other = grind (arith, nat_tests)

-- what is decoded is that of the component that reads
module _ (b : Inside) (k : Component) (reader : b.tally.reader ≡ k) where
  pub rule_by : b.rule ≡ rule_of b.format k
  rule_by = b.reading.rule ∙ ap (rule_of b.format) reader

  pub counts_by : b.tally.is_counting ≡ counts k b.format
  counts_by = b.reading.counting ∙ ap (λ r. counts r b.format) reader

  pub direct_by : (byte : ℕ) (t : Bool) → byte < 256 → is_direct_by b.shortcuts byte ≡ t
      → is_direct (rule_of b.format k) byte ≡ t
  direct_by byte t fits e =
      sym (direct_test (rule_of b.format k) b.shortcuts byte
      (supported_rule b.format k b.holds.word) (rw rule_by at b.reading.direct)) ∙ e

  -- a byte that is no separator by the rule, by the word
  pub other_by : (byte : ℕ) → is_separator b.rule.separator byte ≡ false
      → is_separator (separator b.format) byte ≡ false
  other_by byte e = rw (rule_by, separator_of k b.format) at e
