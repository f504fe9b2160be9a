-- Digits of radix 16: one more, and the integer that they are.
use Rattle.std.proofs.Common.{◌≡◌, ℕ, suc, ◌+◌, ◌-◌, ◌*◌, ◌^◌, ◌<◌, ◌≤◌, true, List, length, refl, sym, ap, ◌∙◌, ◌%◌, inl, inr, arith}
use Rattle.std.specs.Prelude.{slice_index, Some, None, Ok}
use native.Mathlib.Nat.{mul-le-mul_right}
use lib.Pow.{pow-add}
use Rattle.std.proofs.Math.Nat.{pow-suc, pow-le-pow_right, mod-eq_of_lt, mul-add-mod_self_right}
use Rattle.std.proofs.lemmas.Int.Digits.{digits_value-lt}
use Rattle.std.specs.Str.Parse.{digits_value}
use Rattle.std.proofs.lemmas.Bool.Decides.{nat_tests}
use Rattle.lexical_format.specs.Digits.{digit_of_radix}
use Rattle.lexical_digits.specs.declared.skip.rule.Rule.{Rule}
use Rattle.lexical_digits.specs.Separators.{is_digit}
use Rattle.lexical_digits.specs.Stop.{stop}
use Rattle.lexical_digits.proofs.Calls.FirstOther.{stop_is_first}
use Rattle.digit_values.specs.After.{digits_between}
use Rattle.digit_integers.specs.Hexadecimal.{AreHexadecimal}
use Rattle.digit_integers.specs.Integers.{integer_at}
use Rattle.digit_values.specs.Reads.{ArePlain}
use Rattle.digit_values.proofs.Between.{none_between}
use Rattle.digit_values.proofs.ForCallers.{value_more, all_digits}
use Rattle.digit_values.proofs.Onward.{value_on}
use Rattle.digit_words.proofs.Joined.{lt_or_le}
use Rattle.digit_values.proofs.PlainDigits.{counted}
use Rattle.digit_integers.proofs.Texts.{some_at}

-- a digit of the radix is below it
pub digit_below : (b d : ℕ) → digit_of_radix 16 b ≡ Some d → d < 16
digit_below b d e = grind (arith, nat_tests, e)

module _ (rule : Rule) (text : List ℕ) (start : ℕ) where
  pub none_hexadecimal : start ≤ length text → AreHexadecimal rule text start start 0
  none_hexadecimal within = grind (arith, none_between)

  -- one more
  pub hexadecimal_more : (at value d end : ℕ) → end ≡ at + 1 → rule.radix ≡ 16
      → AreHexadecimal rule text start at value → at < length text
      → digit_of_radix 16 (slice_index text at) ≡ Some d
      → AreHexadecimal rule text start end (value * 16 + d)
  unfolding is_digit
  hexadecimal_more at value d end there sixteen all l e = rw there (
      let below : d < 16 = digit_below _ d e in
      let next : at + 1 - start ≡ suc (at - start) = omega (arith, all.onward) in
      let power : 16 ^ (at + 1 - start) ≡ 16 * 16 ^ (at - start) =
      ap (λ k. 16 ^ k) next ∙ grind (arith, pow-suc 16 (at - start)) in
      let here : is_digit rule (slice_index text at) ≡ true = grind (arith, sixteen, e) in
      record {
        onward = omega (arith, all.onward);
        within = omega (arith, l);
        digits = λ q a b.
            elim (lt_or_le q at) [
              | inl k ↦ all.digits q a k
              | inr k ↦
                  ap (λ i. is_digit rule (slice_index text i)) {x = q} (omega (arith, k, b)) ∙ here
            ];
        is = omega (
          arith,
          all.is,
          value_more rule text start 0 at 16 d all.onward l (sym sixteen) e,
        );
        few = omega (arith, power, below, all.few);
      }
      )

  -- the integer is these digits, if they go on to the end
  module _ (value : ℕ) (all : AreHexadecimal rule text start (length text) value) where
    ends : stop rule text start 0 ≡ length text
    ends =
        let first = stop_is_first rule text start 0 all.onward in
        let at = stop rule text start 0 in
        grind (arith, first.within, first.onward, first.at, all.digits at)

    as_many : length (digits_between rule text start (length text)) ≡ length text - start
    as_many =
        let plain : ArePlain rule text start 0 (Some value) (length text) value = record {
          onward = all.onward;
          within = omega arith;
          digits = all.digits;
          worth = record { is = all.is; fits = omega arith };
          wrapped = tt;
        } in
        omega (arith, counted rule text start plain)

    pub integer_is_hexadecimal : start < length text → (most : ℕ) → value ≤ most
        → integer_at rule text start most ≡ Ok (value, length text)
    integer_is_hexadecimal some most fits =
        let at = some_at rule text start most
        (rw ends (omega (arith, as_many, some))) (rw ends (omega (arith, all.is, fits))) in
        grind (arith, at, ends, all.is)

-- fewer digits are worth less
pub at_most_digits : (start end value limit : ℕ) → value < 16 ^ (end - start) → end ≤ start + limit
    → value < 16 ^ limit
at_most_digits start end value limit few l =
    let low : end - start ≤ limit = omega (arith, l) in
    let power : 16 ^ (end - start) ≤ 16 ^ limit = pow-le-pow_right {n = 16} (omega arith) low in
    omega (arith, few, power)

-- after eight digits there is room for eight
pub scaled_fits : (first count : ℕ) → first < 16 ^ 8 → count ≤ 8
    → first * 16 ^ count + 16 ^ count ≤ 2 ^ 64
scaled_fits first count l few =
    let small : first + 1 ≤ 16 ^ 8 = omega (arith, l) in
    let bound : (first + 1) * 16 ^ count ≤ 16 ^ 8 * 16 ^ count =
    mul-le-mul_right (16 ^ count) small in
    let spread : (first + 1) * 16 ^ count ≡ first * 16 ^ count + 16 ^ count = grind arith in
    let power : 16 ^ count ≤ 16 ^ 8 = pow-le-pow_right {n = 16} (omega arith) few in
    omega (arith, bound, spread, power)

pub some_scale : (count : ℕ) → 0 < 16 ^ count
some_scale count =
    let low : 0 ≤ count = omega arith in
    let power : 16 ^ 0 ≤ 16 ^ count = pow-le-pow_right {n = 16} (omega arith) low in
    omega (arith, power)

-- digits that end at the same position
pub to_there : (rule : Rule) (text : List ℕ) (from end there value : ℕ) → end ≡ there
    → AreHexadecimal rule text from there value → AreHexadecimal rule text from end value
to_there rule text from end there value same all = rw same all

-- sixteen of them in two pieces: the last eight may be some of the first
module _ (rule : Rule) (text : List ℕ) (start : ℕ) (sixteen : rule.radix ≡ 16)
    (first last count : ℕ) (all : start + 8 + count ≡ length text) (few : count ≤ 8)
    (firsts : AreHexadecimal rule text start (start + 8) first)
    (lasts : AreHexadecimal rule text (length text - 8) (length text) last) where
  abbrev piece : ℕ
  piece = digits_value rule.radix (digits_between rule text (start + 8) (length text))

  of_both : (q : ℕ) → start ≤ q → q < length text → is_digit rule (slice_index text q) ≡ true
  of_both q a b =
      elim (lt_or_le q (start + 8)) [
        | inl l ↦ firsts.digits q a l
        | inr l ↦ lasts.digits q (omega (arith, l, all, few)) b
      ]

  so_long : (from n : ℕ) → start ≤ from → from + n ≡ length text
      → length (digits_between rule text from (length text)) ≡ n
  so_long from n low there =
      let plain : ArePlain rule text from 0 None (length text)
      (digits_value rule.radix (digits_between rule text from (length text)) % 2 ^ 64) = record {
        onward = omega (arith, there);
        within = omega arith;
        digits = λ q a b. of_both q (omega (arith, low, a)) b;
        worth = tt;
        wrapped = refl;
      } in
      omega (arith, counted rule text from plain, there)

  piece_few : piece < 16 ^ count
  piece_few =
      let below : piece < rule.radix ^ length (digits_between rule text (start + 8) (length text)) =
      digits_value-lt rule.radix (digits_between rule text (start + 8) (length text))
      (all_digits rule _) in
      let power : rule.radix ^ length (digits_between rule text (start + 8) (length text))
      ≡ 16 ^ count =
      ap (λ r. r ^ length (digits_between rule text (start + 8) (length text))) sixteen
      ∙ ap (λ k. 16 ^ k) (so_long (start + 8) count (omega arith) all) in
      omega (arith, below, power)

  -- what the last eight are besides
  last_is : last % 16 ^ count ≡ piece
  last_is =
      let before = digits_value rule.radix
      (digits_between rule text (length text - 8) (start + 8)) in
      let parts : before * rule.radix ^ count + piece ≡ digits_value rule.radix
      (digits_between rule text (length text - 8) (length text)) =
      value_on rule text (length text - 8) (start + 8) (length text) (omega (arith, all, few))
      (omega (arith, all)) before count piece refl
      (sym (so_long (start + 8) count (omega arith) all)) refl in
      let sum : before * 16 ^ count + piece ≡ last =
      ap (λ r. before * r ^ count + piece) (sym sixteen) ∙ parts ∙ sym lasts.is in
      ap (λ k. k % 16 ^ count) (sym sum)
      ∙ mul-add-mod_self_right before (16 ^ count) piece ∙ mod-eq_of_lt piece_few

  pub both_hexadecimal : (value : ℕ) → value ≡ first * 16 ^ count + last % 16 ^ count
      → AreHexadecimal rule text start (length text) value
  both_hexadecimal value is =
      let parts : first * rule.radix ^ count + piece ≡ digits_value rule.radix
      (digits_between rule text start (length text)) =
      value_on rule text start (start + 8) (length text) (omega arith) (omega (arith, all))
      first count piece firsts.is (sym (so_long (start + 8) count (omega arith) all)) refl in
      let sum : first * 16 ^ count + piece ≡ digits_value rule.radix
      (digits_between rule text start (length text)) =
      ap (λ r. first * r ^ count + piece) (sym sixteen) ∙ parts in
      let power : 16 ^ (length text - start) ≡ 16 ^ 8 * 16 ^ count =
      ap (λ k. 16 ^ k) {y = 8 + count} (omega (arith, all)) ∙ pow-add 16 8 count in
      let small : first + 1 ≤ 16 ^ 8 =
      omega (arith, at_most_digits start (start + 8) first 8 firsts.few (omega arith)) in
      let bound : (first + 1) * 16 ^ count ≤ 16 ^ 8 * 16 ^ count =
      mul-le-mul_right (16 ^ count) small in
      let spread : (first + 1) * 16 ^ count ≡ first * 16 ^ count + 16 ^ count = grind arith in
      record {
        onward = omega (arith, all);
        within = omega arith;
        digits = of_both;
        is = is ∙ ap (λ k. first * 16 ^ count + k) last_is ∙ sum;
        few = omega (arith, is, last_is, piece_few, power, bound, spread);
      }
