-- A line that is a number alone: it is read without looking for the line feed first.
use Rattle.std.proofs.Common.{◌≡◌, ℕ, ℤ, ◌+◌, ◌-◌, ◌*◌, ◌^◌, ◌<◌, ◌≤◌, Bool, true, cond, List, ◌++◌, length, take, drop, get_or, refl, sym, ◌∙◌, ap, arith, Some, None, Ok, Err, Result, slice_get, subst, take_while}
use Rattle.std.proofs.lemmas.Bool.Decides.{nat_tests}
use Rattle.lexical_format.specs.Digits.{digit_value}
use Rattle.lexical_format.specs.declared.TheConstants.{STANDARD}
use Rattle.lexical_format.specs.declared.words.TheConstants.{PYTHON_LITERAL}
use Rattle.lexical_digits.specs.Follows.{Ends, AreSameUpTo}
use Rattle.lexical_digits.specs.Laws.Terms.{gets, slice_get_past}
use Rattle.lexical_digits.specs.Separators.{is_digit, is_separator}
use Rattle.lexical_digits.specs.State.{rule_of}
use Rattle.lexical_digits.specs.Stop.{stop}
use Rattle.lexical_digits.specs.declared.skip.component.Component.{Component}
use Rattle.lexical_digits.specs.declared.skip.component.Component.TheVariants.{Integer, Fraction, Exponent, Special}
use Rattle.lexical_digits.specs.declared.skip.rule.Rule.{Rule}
use Rattle.lexical_digits.proofs.Calls.BothSides.{AreSameFrom, from_start, zero_later}
use Rattle.lexical_digits.proofs.Calls.WhatFollows.{same_as_cut, stop_upto}
use Rattle.lexical_digits.specs.ByteSet.{accepts}
use Rattle.digit_values.specs.declared.LiteralError.{LiteralError}
use Rattle.digit_values.specs.declared.LiteralError.TheVariants as literal
use Rattle.digit_values.specs.declared.bytes.TheConstants.{BLANKS}
use Rattle.digit_values.specs.Bytes.{past_bytes}
use Rattle.digit_values.proofs.Passing.{none_passed}
use Rattle.digit_literals.specs.declared.list.TheConstants.{LINES}
use Rattle.digit_integers.specs.Integers.{integer_at}
use Rattle.digit_literals.specs.Lists.{past_blanks, next_after}
use Rattle.digit_integers.specs.Numbers.{signed, with_sign, is_negative_from, digits_from, most_from, number_at, to_end}
use Rattle.digit_values.proofs.Between.{none_between}
use Rattle.digit_values.proofs.ForCallers.{all_is, stop_from, stop_within, value_of_both}
use Rattle.digit_integers.proofs.Texts.{says_some, reads_more}
use Rattle.digit_integers.proofs.WhatFollows.{same_number}
use Rattle.digit_amounts.specs.declared.scaled.ScaledError.{ScaledError}
use Rattle.digit_floats.specs.Float.{digits_end, mantissa_end}
use Rattle.digit_floats.specs.Float as floats
use Rattle.digit_floats.specs.Float.{fraction_digits}
use Rattle.digit_floats.specs.declared.parts.Mantissa.{Mantissa}
use Rattle.digit_floats.specs.Parts.{IsMantissa, integer_of, fraction_of}
use Rattle.std.specs.Str.Parse.{digits_value}
use Rattle.std.proofs.lemmas.List.{take_all, take-take, drop_all}
use Rattle.digit_values.specs.Significant.{significant, IsOfFirstDigits}
use Rattle.digit_values.proofs.Significant.{worth_same}
use Rattle.digit_amounts.specs.Scaled as Scaled
use Rattle.digit_amounts.specs.Scaled.{first_value, is_exact, scaled_at, read_scaled_at}
use Rattle.digit_floats.proofs.BothSides.{NoScaled, no_scaled, mantissa_upto}
use Rattle.digit_amounts.proofs.WhatFollows.{same_scaled}
use Rattle.digit_totals.specs.declared.options.Kind.TheVariants.{Integers, Places}
use Rattle.digit_totals.specs.declared.options.Options.{Options}
use Rattle.digit_totals.specs.Lines.{IsFirstLine}
use Rattle.digit_totals.specs.Quick.{HasNoLowByte, BeginsWith, FirstIs}
use Rattle.digit_totals.specs.Value.{word_of, number_in, value_of, integer_in}
use Rattle.digit_totals.proofs.InLine.{no_high_blank, StandsInLine, stands, ends_line, blanks_before, blanks_after, long, first_line}

-- ---- bytes

pub standard_has_none : (k : Component) → HasNoLowByte (rule_of STANDARD k)
unfolding is_digit is_separator digit_value
standard_has_none Integer byte l = grind (arith, nat_tests, l)
standard_has_none Fraction byte l = grind (arith, nat_tests, l)
standard_has_none Exponent byte l = grind (arith, nat_tests, l)
standard_has_none Special byte l = grind (arith, nat_tests, l)

pub python_has_none : (k : Component) → HasNoLowByte (rule_of PYTHON_LITERAL k)
unfolding is_digit is_separator digit_value
python_has_none Integer byte l = grind (arith, nat_tests, l)
python_has_none Fraction byte l = grind (arith, nat_tests, l)
python_has_none Exponent byte l = grind (arith, nat_tests, l)
python_has_none Special byte l = grind (arith, nat_tests, l)

-- ---- the answer of a reader

pub of_sign : (negative : Bool) (read : Result (ℕ × ℕ) LiteralError) (value : ℤ) (end : ℕ)
    → with_sign negative read ≡ Ok (value, end)
    → (magnitude : ℕ) × (read ≡ Ok (magnitude, end)) × (value ≡ signed negative magnitude)
of_sign negative (Ok (magnitude, stop)) value end h =
    (magnitude, grind (arith, h), grind (arith, h))
of_sign negative (Err error) value end h = absurd (grind (arith, h))

pub of_scaled_sign : (word : ℕ) (text : List ℕ) (places : ℕ) (negative : Bool)
    (read : Result (ℕ × ℕ) ScaledError) (value : ℤ) (end : ℕ)
    → Scaled.with_sign word text 46 places negative read ≡ Ok (value, end)
    → (magnitude : ℕ) × (read ≡ Ok (magnitude, end)) × (value ≡ signed negative magnitude)
of_scaled_sign word text places negative (Ok (magnitude, stop)) value end h =
    (magnitude, grind (arith, h), grind (arith, h))
of_scaled_sign word text places negative (Err error) value end h = absurd (grind (arith, h))

scaled_end : (word : ℕ) (text : List ℕ) (places most i magnitude end : ℕ)
    → scaled_at word text 46 places most i ≡ Ok (magnitude, end)
    → end ≡ mantissa_end word text 46 i
unfolding scaled_at
scaled_end word text places most i magnitude end e = grind (arith, nat_tests, e)

-- ---- an integer

module _ (rule : Rule) (low : HasNoLowByte rule) (text : List ℕ) (place : ℕ) (value : ℤ) (end : ℕ)
    (is : number_at (2 ^ 63) (2 ^ 63 - 1) rule text place ≡ Ok (value, end)) where
  abbrev negative : Bool
  negative = is_negative_from (2 ^ 63) text place

  abbrev begin : ℕ
  begin = digits_from (2 ^ 63) text place

  abbrev most : ℕ
  most = most_from (2 ^ 63) (2 ^ 63 - 1) rule text place

  digits : (magnitude : ℕ) × (integer_at rule text begin most ≡ Ok (magnitude, end))
      × (value ≡ signed negative magnitude)
  digits = of_sign negative (integer_at rule text begin most) value end is

  stops : end ≡ stop rule text begin 0
  stops = (says_some rule text begin most digits.0 end digits.1).ends

  short_sign : begin ≤ place + 1
  short_sign = grind (arith, nat_tests)

  -- the sign is no low byte
  high_sign : (q : ℕ) → place ≤ q → q < begin → 43 ≤ get_or text q 0
  high_sign q from l =
      let only : q ≡ place = omega (arith, from, l, short_sign) in
      grind (arith, nat_tests, gets, only, l)

  ends_there : (q : ℕ) → q < length text → get_or text q 0 < 43 → Ends rule text q
  ends_there q inside l = grind (arith, gets, low (get_or text q 0) l, inside)

  -- nor is any other byte before the end
  stops_by : (q : ℕ) → begin ≤ q → q < length text → get_or text q 0 < 43 → end ≤ q
  stops_by q from inside l =
      let there = ends_there q inside l in
      let upto : AreSameUpTo rule text text q = record {
        same = refl;
        one_within = omega (arith, inside);
        other_within = omega (arith, inside);
        one_ends = there;
        other_ends = there;
      } in
      omega (arith, stops, stop_upto rule text text q upto begin 0 from)

  pub high : end ≤ length text → (q : ℕ) → place ≤ q → q < end → 43 ≤ get_or text q 0
  high within q from l = grind (arith, high_sign q, stops_by q, within, l, from)

  pub ends_after : place ≤ length text → (place < end) × (end ≤ length text)
  ends_after within =
      let first : begin ≤ length text = grind (arith, nat_tests, gets, within) in
      let low_end = stop_from rule text begin 0 first in
      let high_end = stop_within rule text begin 0 first in
      let some = (says_some rule text begin most digits.0 end digits.1).some in
      let past : begin < end = grind (arith, some, stops, low_end, none_between rule text begin) in
      let from : place ≤ begin = grind (arith, nat_tests) in
      (omega (arith, past, from), omega (arith, stops, high_end))

  -- it is read so too as an integer of 128 bits
  more_read : number_at (2 ^ 127) (2 ^ 127 - 1) rule text place ≡ Ok (value, end)
  more_read =
      let more : ℕ = most_from (2 ^ 127) (2 ^ 127 - 1) rule text place in
      let fits : most ≤ more = grind (arith, nat_tests) in
      ap (with_sign negative) (reads_more rule text begin most more digits.0 end fits digits.1)
      ∙ ap (λ v. Ok (v, end)) (sym digits.2)

  module _ (feed : ℕ) (s : StandsInLine text place end feed) where
    abbrev alone : List ℕ
    alone = take feed text

    upto_feed : AreSameUpTo rule alone text feed
    upto_feed = same_as_cut rule text feed (omega (arith, s.within))
        (ends_there feed s.within (omega (arith, s.mark)))

    short_line_sign : digits_from (2 ^ 127) alone place ≤ feed
    short_line_sign = grind (arith, nat_tests, s.some, s.order)

    pub wide : number_at (2 ^ 127) (2 ^ 127 - 1) rule alone place ≡ Ok (value, end)
    wide =
        same_number rule alone text feed upto_feed (2 ^ 127) (2 ^ 127 - 1) place short_line_sign
        (omega (arith, short_sign, s.some, s.order))
        ∙ more_read

of_to_end : (text : List ℕ) (read : Result (ℤ × ℕ) LiteralError) (value : ℤ)
    → to_end text read ≡ Ok value → read ≡ Ok (value, length text)
of_to_end text (Ok (other, end)) value e = grind (arith, nat_tests, e)
of_to_end text (Err (literal.Empty at)) value e = absurd (grind (arith, nat_tests, e))
of_to_end text (Err (literal.Overflow at)) value e = absurd (grind (arith, nat_tests, e))

-- an integer of 64 bits alone is one of 128 bits, with no blanks around it
pub whole_integer : (word : ℕ) (text : List ℕ) (value : ℤ) → HasNoLowByte (rule_of word Integer)
    → to_end text (number_at (2 ^ 63) (2 ^ 63 - 1) (rule_of word Integer) text 0) ≡ Ok value
    → integer_in word text ≡ Ok value
unfolding past_bytes
whole_integer word text value low e =
    let rule = rule_of word Integer in
    let end = length text in
    let is = of_to_end text (number_at (2 ^ 63) (2 ^ 63 - 1) rule text 0) value e in
    let some = (ends_after rule low text 0 value end is (omega arith)).0 in
    let first : slice_get text 0 ≡ Some (get_or text 0 0) = grind (arith, gets, some) in
    let tall = high rule low text 0 value end is (omega arith) 0 (omega arith) some in
    let none : length (take_while (accepts BLANKS) (drop 0 text)) ≡ 0 =
    none_passed (accepts BLANKS) text 0 (rw first (no_high_blank (get_or text 0 0) tall)) in
    let begin : past_bytes text 0 BLANKS ≡ 0 = omega (arith, none) in
    let after : past_bytes text end BLANKS ≡ end =
    rw (drop_all {X = ℕ} end text (omega arith)) (omega arith) in
    rw (begin, more_read rule low text 0 value end is, after) (grind (arith, nat_tests))

-- the number of the first line, with any blanks around it
pub begins_integer : (word : ℕ) (text : List ℕ) (place : ℕ) (value : ℤ) (end next : ℕ)
    → HasNoLowByte (rule_of word Integer) → place ≡ past_blanks LINES text 0
    → number_at (2 ^ 63) (2 ^ 63 - 1) (rule_of word Integer) text place ≡ Ok (value, end)
    → place < end → end ≤ length text → next_after LINES text end ≡ Ok next
    → BeginsWith word Integers text value (drop next text)
begins_integer word text place value end next low at is some within after =
    let rule = rule_of word Integer in
    let feed = past_blanks LINES text end in
    let there : past_blanks LINES text 0 ≡ place = sym at in
    let stand : StandsInLine text place end feed =
    subst (λ p. StandsInLine text p end feed) there
    (stands text end next (omega (arith, at, some))
    (λ q from l. high rule low text place value end is within q
    (omega (arith, at, from)) l) after) in
    let line = ends_line text end next after in (
      take feed text,
      rw (
        blanks_before text place end feed stand,
        wide rule low text place value end is feed stand,
        blanks_after text place end feed stand,
        long text place end feed stand,
      ) (grind (arith, nat_tests)),
      subst (λ n. IsFirstLine text (take feed text) (drop n text)) (sym line.next_is)
          (first_line text place end feed stand),
      omega (arith, long text place end feed stand, stand.within),
    )

-- ---- a decimal number

-- few digits all count
same_value : (digits : List ℕ) (value : ℕ) → IsOfFirstDigits 10 19 digits value 0
    → digits_value 10 digits ≡ value
same_value digits value h =
    let few : length (significant digits) ≤ 19 = omega (arith, h.after) in
    sym (worth_same 10 digits) ∙ ap (digits_value 10) (sym (take_all 19 (significant digits) few))
    ∙ sym h.is

all_count : (whole fraction : List ℕ) (places value : ℕ)
    → IsOfFirstDigits 10 19 (whole ++ fraction) value 0 → length fraction ≤ places
    → first_value (digits_value 10 whole) places fraction ≡ value
unfolding first_value
all_count whole fraction places value h l =
    rw (take_all {A = ℕ} places fraction l, value_of_both 10 whole fraction)
    (same_value (whole ++ fraction) value h)

none_follows : (fraction : List ℕ) (places : ℕ) → length fraction ≤ places
    → is_exact fraction places ≡ true
none_follows fraction places l = rw (drop_all {X = ℕ} places fraction l) refl

-- with all of its places, and few digits
pub short_scaled : (word : ℕ) (text : List ℕ) (places begin most : ℕ) (m : Mantissa)
    → IsMantissa text m → m.dropped ≡ 0 → m.places ≡ places → 0 < m.digits → m.value ≤ most
    → integer_of text m ≡ floats.digits_from word text Integer begin
    → fraction_of text m ≡ fraction_digits word text 46 (digits_end word text Integer begin)
    → m.end ≡ mantissa_end word text 46 begin
    → scaled_at word text 46 places most begin ≡ Ok (m.value, m.end)
unfolding scaled_at
short_scaled word text places begin most m is all same some fits integer fraction end =
    let whole : List ℕ = floats.digits_from word text Integer begin in
    let part : List ℕ = fraction_digits word text 46 (digits_end word text Integer begin) in
    let long : length part ≡ places = ap length (sym fraction) ∙ sym is.places ∙ same in
    let first : IsOfFirstDigits 10 19 (whole ++ part) m.value 0 =
    rw (integer, fraction, all) at is.first in
    let value = all_count whole part places m.value first (omega (arith, long)) in
    let none = none_follows part places (omega (arith, long)) in
    let count : 0 < length whole + length part =
    omega (arith, some, is.digits, ap length integer, ap length fraction) in
    let zero : places - length part ≡ 0 = omega (arith, long) in
    let once : m.value * 1 ≡ m.value = omega arith in
    rw (value, zero, none, ← end) (grind (arith, nat_tests, count, fits, once))

module _ (word : ℕ) (low : (k : Component) → HasNoLowByte (rule_of word k)) (text : List ℕ)
    (places place : ℕ) (value : ℤ) (end : ℕ)
    (is : read_scaled_at word text 46 places (2 ^ 127) (2 ^ 127 - 1) place ≡ Ok (value, end)) where
  abbrev minus : Bool
  minus = is_negative_from (2 ^ 127) text place

  abbrev from : ℕ
  from = digits_from (2 ^ 127) text place

  abbrev limit : ℕ
  limit = cond minus (2 ^ 127) (2 ^ 127 - 1)

  scaled : (magnitude : ℕ) × (scaled_at word text 46 places limit from ≡ Ok (magnitude, end))
      × (value ≡ signed minus magnitude)
  scaled = of_scaled_sign word text places minus (scaled_at word text 46 places limit from) value
      end is

  ends : end ≡ mantissa_end word text 46 from
  ends = scaled_end word text places limit from scaled.0 end scaled.1

  low_ends : (q : ℕ) → q < length text → get_or text q 0 < 43
      → NoScaled word 46 (slice_get text q)
  low_ends q inside l =
      let there : slice_get text q ≡ Some (get_or text q 0) = grind (arith, gets, inside) in
      record {
        whole = rw there (low Integer (get_or text q 0) l);
        part = rw there (low Fraction (get_or text q 0) l);
        point = rw there (grind (arith, nat_tests, l));
        sign = rw there (grind (arith, nat_tests, l));
      }

  decimal_stops : (q : ℕ) → from ≤ q → q < length text → get_or text q 0 < 43 → end ≤ q
  decimal_stops q onward inside l =
      let upto = low_ends q inside l in
      let both =
      from_start (NoScaled word 46) (no_scaled word 46) text text q refl upto upto in
      omega (
        arith,
        ends,
        mantissa_upto word 46 text 0 text q both from from (zero_later from) onward,
      )

  short_from : from ≤ place + 1
  short_from = grind (arith, nat_tests)

  sign_high : (q : ℕ) → place ≤ q → q < from → 43 ≤ get_or text q 0
  sign_high q onward l =
      let only : q ≡ place = omega (arith, onward, l, short_from) in
      grind (arith, nat_tests, gets, only, l)

  decimal_high : end ≤ length text → (q : ℕ) → place ≤ q → q < end → 43 ≤ get_or text q 0
  decimal_high within q onward l =
      grind (arith, sign_high q, decimal_stops q, within, l, onward)

  module _ (feed : ℕ) (s : StandsInLine text place end feed) where
    abbrev decimal_alone : List ℕ
    decimal_alone = take feed text

    decimal_cut : AreSameFrom (NoScaled word 46) decimal_alone 0 text feed
    decimal_cut =
        let past : slice_get decimal_alone feed ≡ None =
        slice_get_past decimal_alone feed (omega (arith, long text place end feed s)) in
        from_start (NoScaled word 46) (no_scaled word 46) decimal_alone text feed
        (take-take feed feed text (omega arith)) (rw past (no_scaled word 46))
        (low_ends feed s.within (omega (arith, s.mark)))

    pub same_decimal : read_scaled_at word decimal_alone 46 places (2 ^ 127) (2 ^ 127 - 1) place
        ≡ Ok (value, end)
    same_decimal =
        same_scaled word 46 decimal_alone text feed decimal_cut places (2 ^ 127)
        (2 ^ 127 - 1) place
        (omega (arith, s.some, s.order))
        ∙ is

pub begins_decimal : (word : ℕ) (text : List ℕ) (places place : ℕ) (value : ℤ) (end next : ℕ)
    → ((k : Component) → HasNoLowByte (rule_of word k)) → place ≡ past_blanks LINES text 0
    → read_scaled_at word text 46 places (2 ^ 127) (2 ^ 127 - 1) place ≡ Ok (value, end)
    → place < end → end ≤ length text → next_after LINES text end ≡ Ok next
    → BeginsWith word (Places places) text value (drop next text)
begins_decimal word text places place value end next low at is some within after =
    let feed = past_blanks LINES text end in
    let there : past_blanks LINES text 0 ≡ place = sym at in
    let stand : StandsInLine text place end feed =
    subst (λ p. StandsInLine text p end feed) there
    (stands text end next (omega (arith, at, some))
    (λ q from l. decimal_high word low text places place value end is within q
    (omega (arith, at, from)) l) after) in
    let line = ends_line text end next after in (
      take feed text,
      rw (
        blanks_before text place end feed stand,
        same_decimal word low text places place value end is feed stand,
        blanks_after text place end feed stand,
        long text place end feed stand,
      ) (grind (arith, nat_tests)),
      subst (λ n. IsFirstLine text (take feed text) (drop n text)) (sym line.next_is)
          (first_line text place end feed stand),
      omega (arith, long text place end feed stand, stand.within),
    )

-- ---- such a line is added

plain_value : (options : Options) (word : ℕ) (line : List ℕ) (value : ℤ)
    → options.column ≡ None → word_of options ≡ word
    → number_in word line options.kind ≡ Ok value → value_of options line ≡ Ok value
plain_value options word line value none same is =
    rw (none, same, all_is line, is) refl

pub line_is : (options : Options) (word : ℕ) (text rest : List ℕ) (value : ℤ)
    → options.column ≡ None → word_of options ≡ word
    → BeginsWith word options.kind text value rest → FirstIs options text value rest
line_is options word text rest value none same begins =
    (begins.0, plain_value options word begins.0 value none same begins.1, begins.2, begins.3)

pub ruleset no_low_bytes = (standard_has_none, python_has_none)
