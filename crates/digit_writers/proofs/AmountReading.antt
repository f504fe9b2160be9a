-- An amount that was written is read.
use Rattle.std.proofs.Common.{◌≡◌, ℕ, ℤ, zero, suc, ◌+◌, ◌-◌, ◌*◌, ◌/◌, ◌%◌, ◌^◌, ◌<◌, ◌≤◌, Bool, true, false, List, [], ◌∷◌, ◌++◌, length, take, get_or, refl, sym, ap, subst, ◌∙◌, inl, inr, arith, filter, append_assoc, length-append}
use Rattle.std.specs.Prelude.{Result, Ok, Err, IfOk, IsTrue, Some, None, decimal, slice_get, if◌then◌else◌, ◌==◌}
use Rattle.std.specs.List.{splice, list_all, slice_range}
use Rattle.std.specs.Str.Parse.{AllDigits, digits_value, digits_value_after}
use Rattle.std.proofs.Math.Nat.{one-le-pow, div-le_self}
use Rattle.std.proofs.lemmas.Bool.Decides.{nat_tests}
use Rattle.std.proofs.lemmas.Fmt.{decimal_is_IsNumeral_wide}
use Rattle.std.proofs.lemmas.List.{take_all, drop_all, get_or-append-add}
use Rattle.std.proofs.lemmas.Nat.{div-add-mod', mod_below}
use Rattle.std.proofs.lemmas.Option.{gets}
use Rattle.lexical_digits.specs.declared.skip.component.Component.TheVariants.{Integer, Fraction}
use Rattle.lexical_digits.specs.declared.skip.rule.Rule.{Rule}
use Rattle.lexical_digits.specs.Follows.{Ends}
use Rattle.lexical_digits.specs.Separators.{is_digit, is_separator}
use Rattle.lexical_digits.specs.State.{rule_of}
use Rattle.lexical_digits.specs.Stop.{stop}
use Rattle.lexical_digits.proofs.Rule.Supported.{supported_rule}
use Rattle.digit_integers.specs.Numbers.{signed}
use Rattle.digit_integers.specs.Written.{IsWrittenAt}
use Rattle.digit_values.proofs.ForCallers.{value_of_pieces}
use Rattle.digit_integers.proofs.Written.{whole_written, first_written, later_written}
use Rattle.lexical_digits.specs.Cursor.{holds_of}
use Rattle.digit_values.specs.After.{digits_between}
use Rattle.digit_floats.specs.Bytes.{stands, is_point}
use Rattle.digit_floats.specs.Float.{digits_end, digits_from, fraction_digits, fraction_end, mantissa_end}
use Rattle.digit_amounts.specs.Scaled.{first_value, scaled_value, is_exact, scaled_to, scaled_at, read_scaled_at}
use Rattle.digit_writers.specs.Amounts.{fraction_text, magnitude_text, ReadsAmounts}
use Rattle.digit_writers.specs.Digits.{last_decimals}
use Rattle.digit_writers.specs.Layouts.{grouped, sign_of}
use Rattle.digit_writers.proofs.AmountParts.{fraction_cases}
use Rattle.digit_writers.proofs.Grouped.{group_zero}
use Rattle.digit_writers.proofs.LaidReading.{last_all, last_value, filter_group, first_group, lone_group, digit_is, no_sign}
use Rattle.digit_writers.proofs.LastDigits.{last_of_rest, length_last, no_digits}
use Rattle.decimal_writers.specs.declared.room.NoRoom.{NoRoom}
use Rattle.lexical_format.specs.Word.{is_supported, mantissa_radix}
use Rattle.digit_writers.proofs.Splices.{take_spliced}
use Rattle.digit_writers.proofs.Lone.{IsLone, stop_at, lone_digits}

-- ---- the value

value_is : (n places : ℕ) → places ≤ 38
    → scaled_value (n / 10 ^ places) places (last_decimals places n) ≡ n
unfolding first_value
value_is n places few =
    let fr : List ℕ = last_decimals places n in
    let long : length fr ≡ places = length_last 10 false places n in
    let all : take places fr ≡ fr = take_all places fr (omega (arith, long)) in
    let none : places - length fr ≡ 0 = omega (arith, long) in
    let power : 0 < 10 ^ places = one-le-pow places 10 (omega arith) in
    let rest : digits_value 10 fr ≡ n % 10 ^ places =
    ap (digits_value 10) (sym (last_of_rest 10 false places n (omega arith)))
    ∙ last_value 10 false (omega arith) (omega arith) places (n % 10 ^ places)
    (mod_below n (10 ^ places) power) in
    let pieces : digits_value_after 10 (n / 10 ^ places) fr ≡ n / 10 ^ places * 10 ^ places + n %
    10 ^ places =
    value_of_pieces 10 (n / 10 ^ places) fr
    ∙ (λ i. n / 10 ^ places * 10 ^ long i + rest i) in
    rw (all, none) (omega (arith, pieces, div-add-mod' n (10 ^ places)))

-- ---- plain digits

lone_plain : (rule : Rule) (ds : List ℕ) → rule.radix ≤ 36 → AllDigits rule.radix ds → (q : ℕ)
    → q < length ds → IsLone rule ds q
lone_plain rule [] high all q l = absurd (omega arith)
lone_plain rule (d ∷ ds) high all zero l = inl (digit_is rule d high all.0)
lone_plain rule (d ∷ ds) high all (suc q) l =
    plain_shift (lone_plain rule ds high all.1 q (omega arith))
  where
    plain_shift : IsLone rule ds q → IsLone rule (d ∷ ds) (suc q)
    plain_shift (inl digit) = inl digit
    plain_shift (inr sep) =
        let same : suc q + 1 ≡ suc (q + 1) = omega arith in
        inr (
          sep.0,
          sep.1,
          omega arith,
          omega (arith, sep.3),
          ap (λ (i : ℕ). is_digit rule (get_or (d ∷ ds) i 0)) same ∙ sep.4,
        )

all_kept : (rule : Rule) (ds : List ℕ) → rule.radix ≤ 36 → AllDigits rule.radix ds
    → filter (is_digit rule) ds ≡ ds
all_kept rule [] high all = refl
all_kept rule (d ∷ ds) high all = grind (arith, digit_is rule d, all_kept rule ds)

-- ---- bytes

get_past : (xs ys : List ℕ) (i : ℕ) → slice_get (xs ++ ys) (length xs + i) ≡ slice_get ys i
get_past xs ys i =
    grind (arith, gets, get_or-append-add xs ys i 0, length-append {A = ℕ} xs ys)

same_byte : (byte : ℕ) → (byte == byte) ≡ true
same_byte byte = grind (arith, nat_tests)

pub quotient_few : (n k : ℕ) → n < 10 ^ 64 → n / k < 10 ^ 64
quotient_few n k few = omega (arith, div-le_self n k)

-- a number of some digits, which is neither too large nor too fine
scaled_to_is : (word : ℕ) (text : List ℕ) (point places most at n end : ℕ) (whole fraction : List ℕ)
    → mantissa_end word text point at ≡ end → 0 < length whole
    → scaled_value (digits_value 10 whole) places fraction ≡ n → n ≤ most
    → is_exact fraction places ≡ true
    → scaled_to word text point places most at whole fraction ≡ Ok (n, end)
scaled_to_is word text point places most at n end whole fraction ends some worth fits exact =
    grind (arith, nat_tests, ends, some, worth, fits, exact)

-- ---- integer and fraction

-- some bytes are the digits of a number, maybe with separators that are dropped
pub record AreDigitsOf (rule : Rule) (bytes ds : List ℕ) : Type 0 where
  pub some : 0 < length bytes
  pub first : is_digit rule (get_or bytes 0 0) ≡ true
  pub lone : (q : ℕ) → q < length bytes → IsLone rule bytes q
  pub digits : filter (is_digit rule) bytes ≡ ds

module _ (word point places n : ℕ) (front whole : List ℕ) (by : ReadsAmounts word point)
    (few : places ≤ 38) (are : AreDigitsOf (rule_of word Integer) whole (decimal (n / 10 ^ places)))
    (small : n < 10 ^ 64) where
  abbrev fraction : List ℕ
  fraction = fraction_text point places n

  abbrev text : List ℕ
  text = front ++ (whole ++ fraction)

  abbrev start : ℕ
  start = length front

  abbrev middle : ℕ
  middle = length front + length whole

  ends : (places : ℕ) → Ends (rule_of word Integer) (fraction_text point places n) 0
  ends zero = refl
  ends (suc k) = by.apart

  whole_there : IsWrittenAt (rule_of word Integer) text start whole
  whole_there =
      let none : length front + 0 ≡ length front = omega arith in
      subst (λ (at : ℕ). IsWrittenAt (rule_of word Integer) text at whole) none
      (later_written (rule_of word Integer) front (whole ++ fraction) whole 0
      (first_written (rule_of word Integer) whole fraction (ends places)))

  whole_end : digits_end word text Integer start ≡ middle
  unfolding digits_end
  whole_end =
      stop_at (rule_of word Integer) text start (supported_rule word Integer by.supported) whole
      whole_there are.some are.lone

  whole_digits : digits_from word text Integer start ≡ decimal (n / 10 ^ places)
  unfolding digits_from digits_end
  whole_digits =
      lone_digits (rule_of word Integer) text start (supported_rule word Integer by.supported) whole
      whole_there are.some are.lone
      ∙ are.digits

  -- the byte after the integer
  after_whole : slice_get text middle ≡ slice_get fraction 0
  after_whole =
      let none : length whole + 0 ≡ length whole = omega arith in
      get_past front (whole ++ fraction) (length whole)
      ∙ ap (slice_get (whole ++ fraction)) (sym none) ∙ get_past whole fraction 0

  -- the fraction: its digits, and where it ends
  record HasFraction : Type 0 where
    digits : fraction_digits word text point middle ≡ last_decimals places n
    end : fraction_end word text point middle ≡ length text

  no_fraction : places ≡ 0 → fraction ≡ [] → HasFraction
  unfolding fraction_digits fraction_end
  no_fraction zeros e =
      let none : slice_get text middle ≡ None = after_whole
      ∙ ap (λ (f : List ℕ). slice_get f 0) e in
      let not_there : stands (is_point point) text middle ≡ false =
      ap (holds_of (is_point point)) none in
      let empty : last_decimals places n ≡ [] =
      ap (λ (k : ℕ). last_decimals k n) zeros ∙ no_digits 10 false n in
      let joined = length-append front (whole ++ fraction) in
      let inner = length-append whole fraction in
      record {
        digits =
            ap (λ (b : Bool). if b then digits_from word text Fraction (middle + 1) else [])
            not_there
            ∙ sym empty;
        end =
            ap (λ (b : Bool). if b then digits_end word text Fraction (middle + 1) else middle)
            not_there
            ∙ omega (arith, joined, inner, ap length e);
      }

  abbrev places_text : List ℕ
  places_text = last_decimals places n

  module _ (some : 0 < places) (e : fraction ≡ point ∷ places_text) where
    abbrev rule : Rule
    rule = rule_of word Fraction

    abbrev before : List ℕ
    before = front ++ (whole ++ (point ∷ []))

    split : before ++ places_text ≡ text
    split =
        append_assoc front (whole ++ (point ∷ [])) places_text
        ∙ ap (λ (t : List ℕ). front ++ t)
        (append_assoc whole (point ∷ []) places_text ∙ ap (λ (f : List ℕ). whole ++ f) (sym e))

    before_length : length before ≡ middle + 1
    before_length =
        omega (arith, length-append front (whole ++ (point ∷ [])), length-append whole (point ∷ []))

    high : rule.radix ≤ 36
    high = omega (arith, by.decimal.0)

    all : AllDigits rule.radix places_text
    all = subst (λ (r : ℕ). AllDigits r places_text) (sym by.decimal.0)
        (last_all 10 false (omega arith) (omega arith) places n)

    fraction_there : IsWrittenAt rule text (middle + 1) places_text
    fraction_there =
        let at : length before + 0 ≡ middle + 1 = omega (arith, before_length) in
        subst (λ (t : List ℕ). IsWrittenAt rule t (middle + 1) places_text) split
        (subst (λ (k : ℕ). IsWrittenAt rule (before ++ places_text) k places_text) at
        (later_written rule before places_text places_text 0 (whole_written rule places_text)))

    long : length places_text ≡ places
    long = length_last 10 false places n

    stops : stop rule text (middle + 1) 0 ≡ length text
    stops =
        stop_at rule text (middle + 1) (supported_rule word Fraction by.supported) places_text
        fraction_there (omega (arith, long, some)) (lone_plain rule places_text high all)
        ∙ omega (arith, ap length split, length-append before places_text, before_length)

    kept : digits_between rule text (middle + 1) (stop rule text (middle + 1) 0) ≡ places_text
    kept =
        lone_digits rule text (middle + 1) (supported_rule word Fraction by.supported) places_text
        fraction_there (omega (arith, long, some)) (lone_plain rule places_text high all)
        ∙ all_kept rule places_text high all

    some_fraction : HasFraction
    unfolding fraction_digits fraction_end digits_from digits_end
    some_fraction =
        let byte : slice_get text middle ≡ Some point =
        after_whole ∙ ap (λ (f : List ℕ). slice_get f 0) e in
        let there : stands (is_point point) text middle ≡ true =
        ap (holds_of (is_point point)) byte ∙ same_byte point in
        record {
          digits =
              ap (λ (b : Bool). if b then digits_between rule text (middle + 1)
              (stop rule text (middle + 1) 0) else []) there
              ∙ kept;
          end = ap (λ (b : Bool). if b then stop rule text (middle + 1) 0 else middle) there
              ∙ stops;
        }

  has_fraction : HasFraction
  has_fraction = elim (fraction_cases point places n) [
    | inl none ↦ no_fraction none.0 none.1
    | inr some ↦ some_fraction some.0 some.1
  ]

  -- what a reader of prices asks: the digits of the integer, and how many places there are
  pub whole_bytes : slice_range text start (digits_end word text Integer start) ≡ whole
  whole_bytes = ap (slice_range text start) whole_end ∙ whole_there.same

  pub places_are : length (fraction_digits word text point (digits_end word text Integer start))
      ≡ places
  places_are =
      ap length (ap (fraction_digits word text point) whole_end ∙ has_fraction.digits)
      ∙ length_last 10 false places n

  -- the number
  pub scaled_is : (most : ℕ) → n ≤ most
      → scaled_at word text point places most start ≡ Ok (n, length text)
  unfolding scaled_at
  scaled_is most fits =
      let has = has_fraction in
      let numeral = decimal_is_IsNumeral_wide (n / 10 ^ places)
      (quotient_few n (10 ^ places) small) in
      let fraction_same : fraction_digits word text point (digits_end word text Integer start)
      ≡ places_text = ap (fraction_digits word text point) whole_end ∙ has.digits in
      let end : mantissa_end word text point start ≡ length text =
      ap (fraction_end word text point) whole_end ∙ has.end in
      let worth : scaled_value (digits_value 10 (decimal (n / 10 ^ places))) places places_text ≡ n
      =
      ap (λ (w : ℕ). scaled_value w places places_text) numeral.1 ∙ value_is n places few in
      let exact : is_exact places_text places ≡ true =
      ap (list_all (λ d. d == 48))
      (drop_all places places_text (omega (arith, length_last 10 false places n))) in
      (λ i. scaled_to word text point places most start (whole_digits i) (fraction_same i))
      ∙ scaled_to_is word text point places most start n (length text)
      (decimal (n / 10 ^ places)) places_text end numeral.0.0 worth fits exact

-- ---- a sign before it

pub digits_of_whole : (word n between every : ℕ) → IsTrue (is_supported word)
    → mantissa_radix word ≡ 10
    → n < 10 ^ 64 → (0 < every → is_digit (rule_of word Integer) between ≡ false)
    → (0 < every → (is_separator (rule_of word Integer).separator between ≡ true)
    × ((rule_of word Integer).internal ≡ true))
    → AreDigitsOf (rule_of word Integer) (grouped between every (decimal n)) (decimal n)
digits_of_whole word n between every supported ten few apart separates =
    let rule : Rule = rule_of word Integer in
    let numeral = decimal_is_IsNumeral_wide n few in
    let high : rule.radix ≤ 36 = omega (arith, ten) in
    let all : AllDigits rule.radix (decimal n) =
    subst (λ (r : ℕ). AllDigits r (decimal n)) (sym ten) numeral.0.1 in
    let begins = first_group rule between every high apart separates (decimal n) all numeral.0.0 in
    record {
      some = begins.0;
      first = begins.1;
      lone = lone_group rule between every high apart separates (decimal n) all;
      digits = filter_group rule between every high apart separates (decimal n) all;
    }

-- without groups
pub plain_whole : (word n : ℕ) → IsTrue (is_supported word) → mantissa_radix word ≡ 10
    → n < 10 ^ 64 → AreDigitsOf (rule_of word Integer) (decimal n) (decimal n)
plain_whole word n supported ten few =
    subst (λ (t : List ℕ). AreDigitsOf (rule_of word Integer) t (decimal n))
    (group_zero 0 (decimal n))
    (digits_of_whole word n 0 0 supported ten few (λ p. absurd (omega arith))
    (λ p. absurd (omega arith)))

module _ (word point places least most n : ℕ) (rest : List ℕ) where
  minus_scaled : 0 < least
      → scaled_at word (45 ∷ rest) point places least 1 ≡ Ok (n, length (45 ∷ rest))
      → read_scaled_at word (45 ∷ rest) point places least most 0
      ≡ Ok (signed true n, length (45 ∷ rest))
  minus_scaled some read = grind (arith, nat_tests, read)

  plain_scaled : 0 < length rest → (get_or rest 0 0 ≡ 45 → ⊥) × (get_or rest 0 0 ≡ 43 → ⊥)
      → scaled_at word rest point places most 0 ≡ Ok (n, length rest)
      → read_scaled_at word rest point places least most 0 ≡ Ok (signed false n, length rest)
  plain_scaled some none read = grind (arith, nat_tests, gets, none, read)

pub first_of : (xs ys : List ℕ) → 0 < length xs → get_or (xs ++ ys) 0 0 ≡ get_or xs 0 0
first_of [] ys some = absurd (omega arith)
first_of (x ∷ xs) ys some = refl

pub amount_is_read : (word point places least most n : ℕ) (whole : List ℕ) (negative : Bool)
    → ReadsAmounts word point → places ≤ 38
    → AreDigitsOf (rule_of word Integer) whole (decimal (n / 10 ^ places)) → n < 10 ^ 64
    → n ≤ (if negative then least else most) → (negative ≡ true → 0 < n)
    → let text = sign_of false negative ++ (whole ++ fraction_text point places n) in
    read_scaled_at word text point places least most 0 ≡ Ok (signed negative n, length text)
amount_is_read word point places least most n whole true by few are small fits some =
    minus_scaled word point places least most n (whole ++ fraction_text point places n)
    (omega (arith, some refl, fits))
    (scaled_is word point places n (45 ∷ []) whole by few are small least fits)
amount_is_read word point places least most n whole false by few are small fits some =
    let rest : List ℕ = whole ++ fraction_text point places n in
    let same = first_of whole (fraction_text point places n) are.some in
    let none = no_sign (rule_of word Integer) (get_or whole 0 0) are.first in
    plain_scaled word point places least most n rest
    (omega (arith, are.some, length-append whole (fraction_text point places n)))
    ((λ e. none.0 (sym same ∙ e)), (λ e. none.1 (sym same ∙ e)))
    (scaled_is word point places n [] whole by few are small most fits)

-- what a writer of amounts answers
pub scaled_is_read : (word point places least most n : ℕ) (negative : Bool) (z : ℤ)
    (out new : List ℕ) (answer : Result ℕ NoRoom) → ReadsAmounts word point → places ≤ 38
    → n < 10 ^ 64 → n ≤ (if negative then least else most) → (negative ≡ true → 0 < n)
    → signed negative n ≡ z
    → IfOk answer (λ end. (end ≡ length (magnitude_text false 0 point places negative n))
    × (end ≤ length out)
    × (new ≡ splice out 0 end (magnitude_text false 0 point places negative n)))
    → IfOk answer
    (λ end. read_scaled_at word (take end new) point places least most 0 ≡ Ok (z, end))
scaled_is_read word point places least most n negative z out new (Err error) by few small fits some
    number h = tt
scaled_is_read word point places least most n negative z out new (Ok end) by few small fits some
    number h =
    let text : List ℕ = magnitude_text false 0 point places negative n in
    let front : text ≡ take end new =
    sym (ap (take end) h.2 ∙ take_spliced out text 0 end (omega (arith, h.0)) h.1) in
    let are = plain_whole word (n / 10 ^ places) by.supported by.decimal.0
    (quotient_few n (10 ^ places) small) in
    let read = amount_is_read word point places least most n (decimal (n / 10 ^ places)) negative
    by few are small fits some in
    subst (λ (t : List ℕ). read_scaled_at word t point places least most 0 ≡ Ok (z, end)) front
    (read ∙ (λ i. Ok (number i, sym h.0 i)))
