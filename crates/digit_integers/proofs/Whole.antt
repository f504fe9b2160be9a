-- A text whose bytes from a start on are all decimal digits: its integer is the number that they
-- write, and ends at the end.
use Rattle.std.proofs.Common.{◌≡◌, ℕ, zero, suc, ◌+◌, ◌-◌, ◌<◌, ◌≤◌, true, false, List, length, take, drop, sym, ap, ◌∙◌, inl, inr, arith}
use Rattle.std.specs.Prelude.{slice_index, Some, Ok}
use Rattle.std.specs.Str.Parse.{digits_value_after}
use Rattle.std.proofs.lemmas.Bool.Decides.{nat_tests}
use Rattle.lexical_format.specs.Digits.{digit_of_radix}
use Rattle.lexical_digits.specs.declared.skip.rule.Rule.{Rule}
use Rattle.lexical_digits.specs.Separators.{is_digit, is_separator}
use Rattle.lexical_digits.specs.Stop.{stop}
use Rattle.lexical_digits.proofs.Calls.FirstOther.{stop_is_first}
use Rattle.digit_values.specs.declared.slice.ReadTo.{ReadTo}
use Rattle.digit_values.specs.After.{digits_between}
use Rattle.digit_integers.specs.Integers.{integer_at}
use Rattle.digit_values.specs.Reads.{ArePlain, ReadsTo}
use Rattle.digit_words.specs.Eight.{written, IsWritten}
use Rattle.digit_values.proofs.PlainDigits.{decimal}
use Rattle.digit_words.proofs.Joined.{lt_or_le}
use Rattle.digit_values.proofs.Passed.{byte_kept}
use Rattle.digit_values.proofs.Between.{none_between, one_more}
use Rattle.digit_values.proofs.ForCallers.{value_more}
use Rattle.digit_integers.proofs.Texts.{integer_is}
use Rattle.digit_words.proofs.Joined.{part_written}

module _ (rule : Rule) (text : List ℕ) (start : ℕ) (ten : rule.radix ≡ 10) (count value : ℕ)
    (all : IsWritten text start count value) where
  abbrev digit : ℕ → ℕ
  digit i = slice_index text (start + i) - 48

  of_radix : (i : ℕ) → i < count
      → digit_of_radix rule.radix (slice_index text (start + i)) ≡ Some (digit i)
  of_radix i l =
      let byte = all.digits i l in
      ap (λ r. digit_of_radix r (slice_index text (start + i))) ten ∙ decimal _ byte.0 byte.1

  are_digits : (i : ℕ) → i < count → is_digit rule (slice_index text (start + i)) ≡ true
  unfolding is_digit
  are_digits i l = grind (arith, of_radix i l)

  -- as many digits as bytes
  counted : (n : ℕ) → n ≤ count → length (digits_between rule text start (start + n)) ≡ n
  counted zero l =
      ap (λ k. length (digits_between rule text start k)) {y = start} (omega arith)
      ∙ ap length (none_between rule text start)
  counted (suc n) l =
      let next : start + suc n ≡ start + n + 1 = omega arith in
      let more =
      one_more rule text start (start + n) (omega arith) (omega (arith, all.within, l)) in
      ap (λ k. length (digits_between rule text start k)) next
      ∙ grind (arith, more, counted n (omega (arith, l)), are_digits n (omega (arith, l)))

  -- and the number that they write
  worth : (n : ℕ) → n ≤ count
      → digits_value_after rule.radix 0 (digits_between rule text start (start + n)) ≡ written digit
      n
  worth zero l =
      ap (λ k. digits_value_after rule.radix 0 (digits_between rule text start k)) {y = start}
      (omega arith)
      ∙ ap (digits_value_after rule.radix 0) (none_between rule text start)
  worth (suc n) l =
      let next : start + suc n ≡ start + n + 1 = omega arith in
      let rest = worth n (omega (arith, l)) in
      let more =
      value_more rule text start 0 (start + n) 10 (digit n) (omega arith)
      (omega (arith, all.within, l)) (sym ten)
      (ap (λ r. digit_of_radix r (slice_index text (start + n))) (sym ten)
      ∙ of_radix n (omega (arith, l))) in
      ap (λ k. digits_value_after rule.radix 0 (digits_between rule text start k)) next
      ∙ omega (arith, more, rest)

  -- they are plain digits
  pub whole_plain : (most : ℕ) → value ≤ most
      → ArePlain rule text start 0 (Some most) (start + count) value
  whole_plain most fits = record {
    onward = omega arith;
    within = all.within;
    digits = λ q a b.
        ap (λ k. is_digit rule (slice_index text k)) {x = q} (omega (arith, a))
        ∙ are_digits (q - start) (omega (arith, a, b));
    worth = record { is = all.is ∙ sym (worth count (omega arith)); fits = fits };
    wrapped = tt;
  }

  -- the stop is the end
  ends : start + count ≡ length text → (own : ℕ) → length text ≡ stop rule text start own
  ends there own =
      let first = stop_is_first rule text start own (omega (arith, there)) in
      let at = stop rule text start own in
      let same : start + (at - start) ≡ at = omega (arith, first.onward) in
      grind (
        arith,
        first.within,
        first.onward,
        first.at,
        there,
        ap (slice_index text) same,
        are_digits (at - start),
      )

  -- the stop is after them, where a byte is that is neither a digit nor the separator
  stops_after : start + count < length text
      → is_digit rule (slice_index text (start + count)) ≡ false
      → is_separator rule.separator (slice_index text (start + count)) ≡ false
      → (own : ℕ) → start + count ≡ stop rule text start own
  stops_after inside other apart own =
      let first = stop_is_first rule text start own (omega (arith, inside)) in
      let at = stop rule text start own in
      let end : ℕ = start + count in
      let kept = byte_kept rule text start own end inside (λ k. grind (arith, apart, k)) in
      let back : start + (at - start) ≡ at = omega (arith, first.onward) in
      elim (lt_or_le at end) [
        | inl sooner ↦
            grind (
              arith,
              first.at (omega (arith, sooner, inside)),
              ap (slice_index text) back,
              are_digits (at - start) (omega (arith, sooner, first.onward)),
            )
        | inr late ↦
            elim (lt_or_le end at) [
              | inl later ↦ grind (arith, first.before end (omega arith) later kept, other)
              | inr same ↦ omega (arith, late, same)
            ]
      ]

  -- so their number is the integer, wherever the stop is after them
  integer_to : 0 < count → ((own : ℕ) → start + count ≡ stop rule text start own) → (most : ℕ)
      → value ≤ most → integer_at rule text start most ≡ Ok (value, start + count)
  integer_to some stops most fits =
      let read : ReadTo = record {
        value = value;
        count = count;
        end = start + count;
        is_too_large =
            false;
      } in
      let reads : ReadsTo rule text start 0 (Some value) read 0 =
      record {
        onward = omega arith;
        within = all.within;
        digits = sym (counted count (omega arith));
        worth = record {
          is = all.is ∙ sym (worth count (omega arith));
          fits = omega arith;
        };
        stops = λ _. stops 0;
        exceeds = λ large. grind (arith, large);
      } in
      sym (integer_is rule text start value most (omega (arith, ten)) (omega (arith, all.within))
      fits read false reads (grind (arith, nat_tests, some)) (λ large. grind (arith, large)))

  pub whole_is : start + count ≡ length text → 0 < count → (most : ℕ) → value ≤ most
      → integer_at rule text start most ≡ Ok (value, length text)
  whole_is there some most fits =
      integer_to some (λ own. there ∙ ends there own) most fits
      ∙ ap (λ end. Ok (value, end)) there

  pub number_is_plain : start + count < length text
      → is_digit rule (slice_index text (start + count)) ≡ false
      → is_separator rule.separator (slice_index text (start + count)) ≡ false
      → 0 < count → (most : ℕ) → value ≤ most
      → integer_at rule text start most ≡ Ok (value, start + count)
  number_is_plain inside other apart some most fits =
      integer_to some (stops_after inside other apart) most fits

-- a number that was read off the rest of a text
pub rest_is : (rule : Rule) (text : List ℕ) (start value most : ℕ) → rule.radix ≡ 10
    → start < length text
    → IsWritten (take (length text - start) (drop start text)) 0
    (length (take (length text - start) (drop start text))) value
    → value ≤ most → integer_at rule text start most ≡ Ok (value, length text)
rest_is rule text start value most ten some all fits =
    let count = length text - start in
    whole_is rule text start ten count value
    (part_written text start count value (omega (arith, some)) all) (omega (arith, some))
    (omega (arith, some)) most fits
