-- A word says what its builder says.
use Rattle.std.proofs.Common.{◌≡◌, ℕ, ◌+◌, ◌*◌, ◌/◌, ◌%◌, ◌^◌, ◌<◌, ◌≤◌, ◌==◌, ◌&&◌, Bool, true, false, refl, sym, ap, subst, ◌∙◌, arith}
use Rattle.lexical_format.specs.declared.builder.DigitSeparatorFlags.{DigitSeparatorFlags}
use Rattle.lexical_format.specs.declared.builder.NumberFormatBuilder.{NumberFormatBuilder}
use Rattle.lexical_format.specs.Builder.{bit_if, word_of, serves_for, HasFlags, Says}
use Rattle.lexical_format.specs.Word.{mantissa_radix, exponent_radix, serves, is_supported}

-- a flag as a number
num : Bool → ℕ
num true = 1
num false = 0

num_small : (b : Bool) → num b ≤ 1
unfolding num
num_small true = omega arith
num_small false = omega arith

bit_is : (b : Bool) (place : ℕ) → bit_if b place ≡ num b * 2 ^ place
unfolding num
bit_is true place = omega arith
bit_is false place = omega arith

is_set : (b : Bool) (n : ℕ) → n ≡ num b → (n == 1) ≡ b
unfolding num
is_set true n e = rw e refl
is_set false n e = rw e refl

-- what stands in a word: two radixes, a separator, the special flag, and the flags of a component
record HasParts (w e m s x : ℕ) : Type 0 where
  exponent_radix : w / 2 ^ 120 % 2 ^ 8 ≡ e
  mantissa_radix : w / 2 ^ 104 % 2 ^ 8 ≡ m
  separator : w / 2 ^ 64 % 2 ^ 8 ≡ s
  special : w / 2 ^ 44 % 2 ^ 1 ≡ x

record HasBits (w place i l t c : ℕ) : Type 0 where
  internal : w / 2 ^ place % 2 ^ 1 ≡ i
  leading : w / 2 ^ (place + 3) % 2 ^ 1 ≡ l
  trailing : w / 2 ^ (place + 6) % 2 ^ 1 ≡ t
  consecutive : w / 2 ^ (place + 9) % 2 ^ 1 ≡ c

module _ (e m s x ei el et ec fi fl ft fc ii il it ic : ℕ)
    (me : e < 256) (mm : m < 256) (ms : s < 256) (mx : x ≤ 1)
    (mei : ei ≤ 1) (mel : el ≤ 1) (met : et ≤ 1) (mec : ec ≤ 1)
    (mfi : fi ≤ 1) (mfl : fl ≤ 1) (mft : ft ≤ 1) (mfc : fc ≤ 1)
    (mii : ii ≤ 1) (mil : il ≤ 1) (mit : it ≤ 1) (mic : ic ≤ 1) where
  -- the word that is the sum of its parts
  abbrev sum : ℕ
  sum =
      e * 2 ^ 120 + m * 2 ^ 104 + s * 2 ^ 64 + x * 2 ^ 44
      + (ei * 2 ^ 0 + el * 2 ^ 3 + et * 2 ^ 6 + ec * 2 ^ 9) * 2 ^ 34
      + (fi * 2 ^ 0 + fl * 2 ^ 3 + ft * 2 ^ 6 + fc * 2 ^ 9) * 2 ^ 33
      + (ii * 2 ^ 0 + il * 2 ^ 3 + it * 2 ^ 6 + ic * 2 ^ 9) * 2 ^ 32

  sum_parts : HasParts sum e m s x
  sum_parts = record {
    exponent_radix = omega arith;
    mantissa_radix = omega arith;
    separator = omega arith;
    special = omega arith;
  }

  integer_bits : HasBits sum 32 ii il it ic
  integer_bits = record {
    internal = omega arith;
    leading = omega arith;
    trailing = omega arith;
    consecutive = omega arith;
  }

  fraction_bits : HasBits sum 33 fi fl ft fc
  fraction_bits = record {
    internal = omega arith;
    leading = omega arith;
    trailing = omega arith;
    consecutive = omega arith;
  }

  exponent_bits : HasBits sum 34 ei el et ec
  exponent_bits = record {
    internal = omega arith;
    leading = omega arith;
    trailing = omega arith;
    consecutive = omega arith;
  }

-- a component's bits are its flags
flags_are : (w place : ℕ) (f : DigitSeparatorFlags)
    → HasBits w place (num f.internal) (num f.leading) (num f.trailing) (num f.consecutive)
    → HasFlags w place f
flags_are w place f bits = record {
  internal = is_set f.internal _ bits.internal;
  leading = is_set f.leading _ bits.leading;
  trailing = is_set f.trailing _ bits.trailing;
  consecutive = is_set f.consecutive _ bits.consecutive;
}

module _ (b : NumberFormatBuilder) (me : b.exponent_radix < 256) (mm : b.mantissa_radix < 256)
    (ms : b.digit_separator < 256) where
  abbrev summed : ℕ
  summed =
      sum b.exponent_radix b.mantissa_radix b.digit_separator (num b.special)
      (num b.exponent.internal) (num b.exponent.leading)
      (num b.exponent.trailing) (num b.exponent.consecutive)
      (num b.fraction.internal) (num b.fraction.leading)
      (num b.fraction.trailing) (num b.fraction.consecutive)
      (num b.integer.internal) (num b.integer.leading)
      (num b.integer.trailing) (num b.integer.consecutive)
      me mm ms (num_small _) (num_small _) (num_small _) (num_small _) (num_small _)
      (num_small _) (num_small _) (num_small _) (num_small _) (num_small _) (num_small _)
      (num_small _) (num_small _)

  word_is : word_of b ≡ summed
  unfolding word_of
  word_is =
      rw (
        bit_is b.special 44,
        bit_is b.exponent.internal 0,
        bit_is b.exponent.leading 3,
        bit_is b.exponent.trailing 6,
        bit_is b.exponent.consecutive 9,
        bit_is b.fraction.internal 0,
        bit_is b.fraction.leading 3,
        bit_is b.fraction.trailing 6,
        bit_is b.fraction.consecutive 9,
        bit_is b.integer.internal 0,
        bit_is b.integer.leading 3,
        bit_is b.integer.trailing 6,
        bit_is b.integer.consecutive 9,
      ) refl

  parts : HasParts summed b.exponent_radix b.mantissa_radix b.digit_separator (num b.special)
  parts = sum_parts _ _ _ _ _ _ _ _ _ _ _ _ _ _ _ _ me mm ms
      (num_small _) (num_small _) (num_small _) (num_small _) (num_small _) (num_small _)
      (num_small _) (num_small _) (num_small _) (num_small _) (num_small _) (num_small _)
      (num_small _)

  says_sum : Says summed b
  says_sum = record {
    mantissa_radix = parts.mantissa_radix;
    exponent_radix = rw (parts.exponent_radix, parts.mantissa_radix) refl;
    separator = parts.separator;
    integer = flags_are _ 32 b.integer (integer_bits _ _ _ _ _ _ _ _ _ _ _ _ _ _ _ _ me mm ms
        (num_small _) (num_small _) (num_small _) (num_small _) (num_small _) (num_small _)
        (num_small _) (num_small _) (num_small _) (num_small _) (num_small _) (num_small _)
        (num_small _));
    fraction = flags_are _ 33 b.fraction (fraction_bits _ _ _ _ _ _ _ _ _ _ _ _ _ _ _ _ me mm ms
        (num_small _) (num_small _) (num_small _) (num_small _) (num_small _) (num_small _)
        (num_small _) (num_small _) (num_small _) (num_small _) (num_small _) (num_small _)
        (num_small _));
    exponent = flags_are _ 34 b.exponent (exponent_bits _ _ _ _ _ _ _ _ _ _ _ _ _ _ _ _ me mm ms
        (num_small _) (num_small _) (num_small _) (num_small _) (num_small _) (num_small _)
        (num_small _) (num_small _) (num_small _) (num_small _) (num_small _) (num_small _)
        (num_small _));
    special = is_set b.special _ parts.special;
  }

pub says : (b : NumberFormatBuilder) (w : ℕ) → b.exponent_radix < 256 → b.mantissa_radix < 256
    → b.digit_separator < 256 → w ≡ word_of b → Says w b
says b w me mm ms is =
    subst (λ v. Says v b) (sym (is ∙ word_is b me mm ms)) (says_sum b me mm ms)

pub supported : (b : NumberFormatBuilder) (w : ℕ) → Says w b → is_supported w ≡ serves_for b
supported b w is =
    ap (λ (s : ℕ). serves (mantissa_radix w) s && serves (exponent_radix w) s) is.separator
    ∙ ap (λ (m : ℕ). serves m b.digit_separator && serves (exponent_radix w) b.digit_separator)
    is.mantissa_radix
    ∙ ap (λ (e : ℕ). serves b.mantissa_radix b.digit_separator && serves e b.digit_separator)
    is.exponent_radix
