-- What is read by JSON is the longest number of RFC 8259.
use Rattle.std.proofs.Common.{◌≡◌, ℕ, ◌+◌, ◌-◌, ◌^◌, ◌<◌, ◌≤◌, Bool, true, false, Option, Some}
use Rattle.std.proofs.Common.{None, List, [], ◌∷◌, length, take, drop, refl, sym, subst, ◌∙◌, ◌⊎◌}
use Rattle.std.proofs.Common.{inl, inr, arith, slice_get, slice_index, length-drop, zero, suc}
use Rattle.std.specs.Prelude.{not, filter, get_or, ◌&&◌, ◌||◌, ◌==◌, if◌then◌else◌, nat_lt, Result}
use Rattle.std.specs.Prelude.{Ok, Err}
use Rattle.std.specs.Char.{is_ascii_digit}
use Rattle.std.specs.Float.{Float, Format}
use Rattle.std.specs.Float.Numeral.{has_digits}
use Rattle.std.specs.Str.Parse.{digits_value}
use Rattle.std.proofs.lemmas.Bool.{cases_lt}
use Rattle.std.proofs.lemmas.Bool.Decides.{nat_tests}
use Rattle.std.proofs.lemmas.List.{get_or-drop}
use Rattle.std.proofs.lemmas.List.Filters.{length-filter_more}
use Rattle.lexical_format.specs.Word.{separator}
use Rattle.lexical_digits.specs.declared.skip.rule.Rule.{Rule}
use Rattle.lexical_digits.specs.declared.skip.component.Component.TheVariants.{Integer, Fraction}
use Rattle.lexical_digits.specs.declared.skip.component.Component.TheVariants.{Exponent}
use Rattle.lexical_digits.specs.declared.skip.rule.Class.TheVariants.{Digit, Separator, Other}
use Rattle.lexical_digits.specs.Cursor.{holds_of}
use Rattle.lexical_digits.specs.Separators.{class, is_digit, is_dropped, is_kept, is_separator}
use Rattle.lexical_digits.specs.Separators.{is_separator_class, holds_separator}
use Rattle.lexical_digits.specs.State.{rule_of}
use Rattle.lexical_digits.specs.Stop.{stop}
use Rattle.lexical_digits.proofs.Calls.FirstOther.{stop_is_first}
use Rattle.digit_values.specs.After.{digits_between}
use Rattle.digit_integers.specs.Integers.{first_over, integer_at, value_to, IsIntegerFrom}
use Rattle.digit_values.specs.declared.LiteralError.{LiteralError}
use Rattle.digit_values.specs.declared.LiteralError.TheVariants as integers
use Rattle.digit_values.specs.Bytes.{has_byte}
use Rattle.digit_integers.proofs.Texts.{says_some, some_at, reads_more}
use Rattle.digit_floats.specs.Bytes.{stands, is_point, is_minus, is_sign}
use Rattle.digit_floats.proofs.Bytes.{stands_is, stands_within}
use Rattle.digit_floats.proofs.Decimals.{same_digit}
use Rattle.digit_floats.specs.Float as floats
use Rattle.digit_floats.specs.Float.{digits_end, digits_from, fraction_digits, fraction_end}
use Rattle.digit_floats.specs.Float.{exponent_digits, exponent_end}
use Rattle.digit_floats.specs.Float.{plain_marks, read_at, parse_at}
use Rattle.digit_languages.specs.declared.language.Language.{Language}
use Rattle.digit_languages.specs.declared.literal.LanguageError.TheVariants as literals
use Rattle.digit_languages.specs.Literals.{has_prefix, prefix_word, plain_word, word_at, digits_at}
use Rattle.digit_languages.specs.declared.literal.Literal.{Literal}
use Rattle.digit_languages.specs.declared.literal.LanguageError.{LanguageError}
use Rattle.digit_languages.specs.Literals.{literal_at, literal_of}
use Rattle.digit_numbers.specs.declared.forms.TheConstants.{JSON}
use Rattle.digit_numbers.specs.declared.number.Number.{Number}
use Rattle.digit_numbers.specs.declared.number.Number.TheVariants as numbers
use Rattle.digit_numbers.specs.declared.number.NumberError.{NumberError}
use Rattle.digit_numbers.specs.declared.number.NumberError.TheVariants as errors
use Rattle.digit_numbers.specs.Forms.{is_plus_of, unprefixed}
use Rattle.digit_numbers.specs.Json.{is_e, is_zero, IsDigits, IsExp, IsFrac, IsJsonInteger, IsOptional}
use Rattle.digit_numbers.specs.Json.{IsJsonNumber, IsLongest, IsDelimited, past_minus}
use Rattle.digit_numbers.specs.Numbers.{Outcome, is_float, past_sign, has_sign, has_exponent}
use Rattle.digit_numbers.specs.Numbers.{language, parts}
use Rattle.digit_numbers.specs.Numbers.{has_more_zeros, has_point, mark_at, fraction}
use Rattle.digit_numbers.specs.Numbers.{is_negative, whole_digits, digits_stop, hex_word_at}
use Rattle.digit_numbers.specs.Numbers.{float_here, integer_here, plain_at, number_of_at}
use Rattle.digit_numbers.specs.Numbers.{to_end}
use Rattle.digit_numbers.specs.Specials.{special_at}
use Rattle.digit_numbers.proofs.Digits.{alone_stop}
use Rattle.digit_numbers.proofs.JsonFloats.{float_read}
use Rattle.digit_numbers.proofs.JsonBytes.{IsRun, IsScan, IsPartOrNone, apart, int_digits, int_some}
use Rattle.digit_numbers.proofs.JsonBytes.{integer_is, longest, minus_is, no_sign, none, zero_alone}

abbrev word : ℕ
word = JSON.integers.decimal

-- ---- a byte

none_past : (p : ℕ → Bool) (text : List ℕ) (i : ℕ) → length text ≤ i → stands p text i ≡ false
none_past p text i l = by (stands p text i) refl
  where
    by : (b : Bool) → stands p text i ≡ b → stands p text i ≡ false
    by true h = let m = stands_within p text i h in let f : ⊥ = omega (arith, l, m) in absurd f
    by false h = h

-- a number ends within the text
last_within : (text : List ℕ) (from to : ℕ) → IsDigits text from to → from < to
    → to ≤ length text
last_within text from to ds l =
    let h = stands_within is_ascii_digit text (to - 1)
    (ds.all (to - 1) (omega (arith, l)) (omega (arith, l))) in
    omega (arith, h)

json_within : (text : List ℕ) (start end : ℕ) → IsJsonNumber text start end → end ≤ length text
json_within text start end n = by n.fraction n.exponent
  where
    by : (n.exp ≡ n.frac) ⊎ IsFrac text n.frac n.exp → (end ≡ n.exp) ⊎ IsExp text n.exp end
        → end ≤ length text
    by f (inr x) = last_within text x.first end x.digits x.some
    by (inr f) (inl x) =
        omega (arith, x, last_within text (n.frac + 1) n.exp f.digits f.some)
    by (inl f) (inl x) =
        omega (
          arith,
          x,
          f,
          last_within text n.int n.frac
              (int_digits text n.int n.frac n.integer) (int_some text n.int n.frac n.integer),
        )

yes : (b : Bool) → not b ≡ false → b ≡ true
yes true e = refl
yes false e = cc

no : (b : Bool) → not b ≡ true → b ≡ false
no true e = cc
no false e = refl

no_separator_of : (o : Option ℕ) → holds_of (is_separator (separator word)) o ≡ false
unfolding is_separator
no_separator_of None = refl
no_separator_of (Some b) = refl

never : (o : Option ℕ) → holds_of (is_plus_of JSON.signs) o ≡ false
never None = refl
never (Some b) = refl

-- ---- digits

all_pass : (p : ℕ → Bool) (xs : List ℕ) (n : ℕ) → n ≤ length xs
    → ((k : ℕ) → k < n → p (get_or xs k 0) ≡ true) → length (filter p (take n xs)) ≡ n
all_pass p xs zero l h = refl
all_pass p xs (suc n) l h =
    let one : suc n ≡ n + 1 = omega arith in
    let rest = all_pass p xs n (omega (arith, l)) (λ k m. h k (omega (arith, m))) in
    let more = length-filter_more p xs n 0 (omega (arith, l)) in
    let last = h n (omega arith) in
    rw (one, more, rest, last) refl

module _ (rule : Rule) (text : List ℕ) (ten : rule.radix ≡ 10) (plain : rule.separator ≡ 0) where
  no_separator : (q : ℕ) → holds_separator rule text q ≡ false
  unfolding holds_separator is_separator
  no_separator q = by (slice_get text q)
    where
      here : (d : Bool) (b : ℕ)
          → is_separator_class
          (if d then Digit else if is_separator rule.separator b then Separator else Other)
          ≡ false
      here true b = refl
      here false b = rw plain refl

      by : (o : Option ℕ) → is_separator_class (class rule o) ≡ false
      by None = refl
      by (Some b) = here (is_digit rule b) b

  kept : (start q : ℕ) → is_kept rule text start 0 q ≡ true
  unfolding is_kept is_dropped
  kept start q = rw (no_separator q) refl

  digit : (q : ℕ) → stands is_ascii_digit text q ≡ is_digit rule (slice_index text q)
  digit q = stands_is is_ascii_digit text q refl ∙ sym (same_digit rule (slice_index text q) ten)

  run : (at : ℕ) → at ≤ length text → IsRun text at (stop rule text at 0)
  run at l =
      let first = stop_is_first rule text at 0 l in
      let end = stop rule text at 0 in
      record {
        digits = record {
          onward = first.onward;
          all = λ q l m. digit q ∙ yes _ (first.before q l m (kept at q));
        };
        stops = stops (cases_lt end (length text)) (λ l. first.at l);
      }
    where
      stops : (stop rule text at 0 < length text) ⊎ (length text ≤ stop rule text at 0)
          → (stop rule text at 0 < length text
          → (is_kept rule text at 0 (stop rule text at 0) ≡ true)
          × (not (is_digit rule (slice_index text (stop rule text at 0))) ≡ true))
          → stands is_ascii_digit text (stop rule text at 0) ≡ false
      stops (inl l) f = digit (stop rule text at 0) ∙ no _ (f l).1
      stops (inr l) f = none_past is_ascii_digit text (stop rule text at 0) l

  count : (at : ℕ) → at ≤ length text
      → length (digits_between rule text at (stop rule text at 0)) ≡ stop rule text at 0 - at
  count at l =
      let first = stop_is_first rule text at 0 l in
      let end = stop rule text at 0 in
      let long : length (drop at text) ≡ length text - at = length-drop at text in
      all_pass (is_digit rule) (drop at text) (end - at) (omega (arith, long, first.within))
      (λ k m. rw get_or-drop
      (yes _ (first.before (at + k) (omega arith) (omega (arith, m)) (kept at (at + k)))))

-- a `0` is worth nothing
first_is_zero : (text : List ℕ) (at : ℕ) → stands is_zero text at ≡ true
    → take 1 (drop at text) ≡ 48 ∷ []
first_is_zero [] at z = cc
first_is_zero (b ∷ bs) zero z = here b z
  where
    here : (b : ℕ) → is_zero b ≡ true → b ∷ [] ≡ 48 ∷ []
    here b z = let e : b ≡ 48 = grind (arith, nat_tests) in rw e refl
first_is_zero (b ∷ bs) (suc at) z = first_is_zero bs at z

zero_value : (rule : Rule) (text : List ℕ) (at end : ℕ) → rule.radix ≡ 10
    → stands is_zero text at ≡ true → end ≡ at + 1 → value_to rule text at end ≡ 0
zero_value rule text at end ten z e =
    let one : at + 1 - at ≡ 1 = omega arith in
    rw (e, one, first_is_zero text at z) (by (is_digit rule 48))
  where
    by : (b : Bool) → digits_value rule.radix (if b then 48 ∷ [] else []) ≡ 0
    by true = rw ten refl
    by false = refl

-- ---- tests, by what they say

more : (n : ℕ) → 0 < n → nat_lt 0 n ≡ true
more n l = grind (arith, nat_tests)

no_more : (n : ℕ) → n ≡ 0 → nat_lt 0 n ≡ false
no_more n l = grind (arith, nat_tests)

is_none : (n : ℕ) → (n == 0) ≡ true → n ≡ 0
is_none n e = grind (arith, nat_tests)

is_some : (n : ℕ) → (n == 0) ≡ false → 0 < n
is_some n e = grind (arith, nat_tests)

is_less : (a b : ℕ) → nat_lt a b ≡ true → a < b
is_less a b e = grind (arith, nat_tests)

is_no_less : (a b : ℕ) → nat_lt a b ≡ false → b ≤ a
is_no_less a b e = grind (arith, nat_tests)

same_number : (a b : ℕ) → (a == b) ≡ true → a ≡ b
same_number a b e = grind (arith, nat_tests)

other_number : (a b : ℕ) → (a == b) ≡ false → a ≤ b → a < b
other_number a b e l = grind (arith, nat_tests)

no_more_digits : (at w : ℕ) → at < w → nat_lt (at + 1) w ≡ false → w ≡ at + 1
no_more_digits at w some l = grind (arith, nat_tests)

zero_digit : (o : Option ℕ) → holds_of is_zero o ≡ true → holds_of is_ascii_digit o ≡ true
zero_digit None z = cc
zero_digit (Some b) z = grind (arith, nat_tests)

point_says : (nw nf : ℕ) (p : Bool)
    → p && ((nat_lt 0 nw || false) && (nat_lt 0 nf || false)) ≡ true
    → (p ≡ true) × (0 < nw) × (0 < nf)
point_says nw nf p h =
    (grind (arith, nat_tests), grind (arith, nat_tests), grind (arith, nat_tests))

is_point_of : (nw nf : ℕ) (p : Bool) → p ≡ true → 0 < nw → 0 < nf
    → p && ((nat_lt 0 nw || false) && (nat_lt 0 nf || false)) ≡ true
is_point_of nw nf p h w f = grind (arith, nat_tests)

all_of : (a b c : Bool) → a && b && c ≡ true → (a ≡ true) × (b ≡ true) × (c ≡ true)
all_of true true c h = (refl, refl, h)
all_of true false c h = cc
all_of false b c h = cc

-- ---- of a text, from a start on

module _ (text : List ℕ) (start : ℕ) (l : start ≤ length text) where
  abbrev at : ℕ
  at = past_sign JSON text start

  abbrev w : ℕ
  w = digits_end word text Integer at

  -- where an exponent may be, its digits would begin, and these would end
  abbrev q : ℕ
  q = mark_at JSON text at

  abbrev x : ℕ
  x = floats.past_sign text (q + 1)

  abbrev e : ℕ
  e = digits_end word text Exponent x

  after_minus : stands is_minus text start ≡ true → at ≡ start + 1
  unfolding past_sign
  after_minus h = rw h refl

  no_minus : stands is_minus text start ≡ false → at ≡ start
  unfolding past_sign
  no_minus h = rw (h, never (slice_get text start)) refl

  at_is : at ≡ past_minus text start
  at_is = by (stands is_minus text start) refl
    where
      by : (b : Bool) → stands is_minus text start ≡ b → at ≡ past_minus text start
      by true h = after_minus h ∙ sym (rw h refl)
      by false h = no_minus h ∙ sym (rw h refl)

  at_within : at ≤ length text
  at_within = by (stands is_minus text start) refl
    where
      by : (b : Bool) → stands is_minus text start ≡ b → at ≤ length text
      by true h =
          let n = stands_within is_minus text start h in
          omega (arith, n, after_minus h)
      by false h = omega (arith, l, no_minus h)

  whole_run : IsRun text at w
  unfolding digits_end
  whole_run = run (rule_of word Integer) text refl refl at at_within

  whole_stops : stands is_ascii_digit text (stop (rule_of word Integer) text at 0) ≡ false
  unfolding digits_end
  whole_stops = whole_run.stops

  scan : IsScan text start at w
  scan = record { minus = after_minus; plain = no_minus; whole = whole_run }

  -- ---- how many digits there are

  whole_count : length (digits_from word text Integer at) ≡ w - at
  unfolding digits_from digits_end
  whole_count = count (rule_of word Integer) text refl refl at at_within

  -- ---- an integer

  language_is : language JSON text start ≡ JSON.integers
  language_is = by (has_sign JSON text start)
    where
      by : (b : Bool)
          → (if b && not JSON.signed_prefix then unprefixed JSON.integers else JSON.integers)
          ≡ JSON.integers
      by true = refl
      by false = refl

  no_prefix : prefix_word JSON.integers text at ≡ None
  no_prefix =
      by (has_prefix JSON.integers text at 98) (has_prefix JSON.integers text at 111)
      (has_prefix JSON.integers text at 120)
    where
      by : (a b c : Bool)
          → (if a then JSON.integers.binary else
          if b then JSON.integers.octal else
          if c then JSON.integers.hexadecimal else None)
          ≡ None
      by true b c = refl
      by false true c = refl
      by false false true = refl
      by false false false = refl

  plain_is : plain_word JSON.integers text at ≡ word
  plain_is = by (has_byte text at 48)
    where
      by : (b : Bool) → (if b then word else word) ≡ word
      by true = refl
      by false = refl

  -- a `0` is a digit
  no_zero : at ≡ w → stands is_zero text at ≡ true → ⊥
  no_zero same z =
      let digit = zero_digit (slice_get text at) z in
      let none : stands is_ascii_digit text at ≡ false =
      subst (λ i. stands is_ascii_digit text i ≡ false) (sym same) whole_run.stops in
      cc

  -- ---- what follows digits

  -- if a point is there, how many digits follow it
  fraction_count : stands (is_point 46) text w ≡ true
      → IsRun text (w + 1) (fraction_end word text 46 w)
      × (length (fraction JSON text at) ≡ fraction_end word text 46 w - (w + 1))
  unfolding fraction_digits fraction_end digits_from digits_end
  fraction_count h =
      let n = stands_within (is_point 46) text w h in
      let r = rule_of word Fraction in
      rw h (
        run r text refl refl (w + 1) (omega (arith, n)),
        count r text refl refl (w + 1) (omega (arith, n)),
      )

  fraction_is : at < w → IsPartOrNone text (w + 1) q (is_point 46) w
  fraction_is some = by (has_point JSON text at) refl
    where
      nw : ℕ
      nw = length (whole_digits JSON text at)

      nf : ℕ
      nf = length (fraction JSON text at)

      p : Bool
      p = stands (is_point 46) text w

      none : has_point JSON text at ≡ false → p ≡ true
          → (w + 1 < fraction_end word text 46 w) ⊎ (fraction_end word text 46 w ≤ w + 1)
          → stands is_ascii_digit text (w + 1) ≡ false
      none e h (inl k) =
          let n = fraction_count h in
          let yes =
          is_point_of nw nf p h (omega (arith, whole_count, some)) (omega (arith, n.1, k)) in
          cc (e, yes)
      none e h (inr k) =
          let n = fraction_count h in
          let end : fraction_end word text 46 w ≡ w + 1 = omega (arith, k, n.0.digits.onward) in
          subst (λ (z : ℕ). stands is_ascii_digit text z ≡ false) end n.0.stops

      by : (b : Bool) → has_point JSON text at ≡ b → IsPartOrNone text (w + 1) q (is_point 46) w
      by true e =
          let is = point_says nw nf p e in
          let n = fraction_count is.0 in
          rw e (inl (record { mark = is.0; run = n.0; some = omega (arith, n.1, is.2) }))
      by false e =
          inr (record {
            ends = rw e refl;
            none = λ h. none e h (cases_lt (w + 1) (fraction_end word text 46 w));
          })

  x_within : stands is_e text q ≡ true → x ≤ length text
  x_within h = by (stands is_sign text (q + 1)) refl
    where
      by : (b : Bool) → stands is_sign text (q + 1) ≡ b → x ≤ length text
      by true h = let n = stands_within is_sign text (q + 1) h in rw h (omega (arith, n))
      by false k = let n = stands_within is_e text q h in rw k (omega (arith, n))

  exponent_is : IsPartOrNone text x (digits_stop JSON text at) is_e q
  unfolding exponent_end exponent_digits digits_from digits_end
  exponent_is = by (stands is_e text q) refl
    where
      r : Rule
      r = rule_of word Exponent

      marked : stands is_e text q ≡ true → (x < e) ⊎ (e ≤ x)
          → IsPartOrNone text x (digits_stop JSON text at) is_e q
      marked h (inl k) =
          let n = count r text refl refl x (x_within h) in
          let some = more (e - x) (omega (arith, k)) in
          let ends : digits_stop JSON text at ≡ e = rw (h, n, some) refl in
          rw ends (inl (record { mark = h; run = run r text refl refl x (x_within h); some = k }))
      marked h (inr k) =
          let n = count r text refl refl x (x_within h) in
          let there = run r text refl refl x (x_within h) in
          let none = no_more (e - x) (omega (arith, k)) in
          inr (record {
            ends = rw (h, n, none) refl;
            none = λ y.
                subst (λ (z : ℕ). stands is_ascii_digit text z ≡ false)
                (omega (arith, k, there.digits.onward)) there.stops;
          })

      by : (b : Bool) → stands is_e text q ≡ b
          → IsPartOrNone text x (digits_stop JSON text at) is_e q
      by true h = marked h (cases_lt x e)
      by false h = inr (record { ends = rw h refl; none = λ y. cc (h, y) })

  sign_is : IsOptional text is_sign (q + 1) x
  sign_is = by (stands is_sign text (q + 1)) refl
    where
      by : (b : Bool) → stands is_sign text (q + 1) ≡ b → IsOptional text is_sign (q + 1) x
      by true h = inr (h, rw h refl)
      by false h = inl (rw h refl)

  same_first : (first : ℕ) → IsOptional text is_sign (q + 1) first
      → stands is_ascii_digit text first ≡ true → first ≡ x
  same_first first (inl h) d =
      let there = subst (λ (z : ℕ). stands is_ascii_digit text z ≡ true) h d in
      h ∙ sym (rw (apart is_ascii_digit is_sign text (q + 1) no_sign there) refl)
  same_first first (inr h) d = h.1 ∙ sym (rw h.0 refl)

  -- digits, and what follows them
  digits_longest : at < w → (stands is_zero text at ≡ true → w ≡ at + 1)
      → IsLongest text start (digits_stop JSON text at)
  digits_longest some alone =
      longest text start at w scan some alone q x (digits_stop JSON text at) sign_is same_first
      (fraction_is some) exponent_is

  -- ---- a float

  -- its digits, and that a fraction or an exponent follows them
  float_some : is_float JSON text at ≡ true
      → (at < w) × (stands is_zero text at ≡ true → w ≡ at + 1)
      × (has_point JSON text at || has_exponent JSON text at ≡ true)
  unfolding is_float
  float_some h = (some, zero (stands is_zero text at) all.1, all.2)
    where
      all : (has_digits (parts JSON text at) ≡ true) × (not (has_more_zeros JSON text at) ≡ true)
          × (has_point JSON text at || has_exponent JSON text at ≡ true)
      all =
          all_of (has_digits (parts JSON text at)) (not (has_more_zeros JSON text at))
          (has_point JSON text at || has_exponent JSON text at) h

      some_by : (b : Bool) → has_point JSON text at ≡ b → at < w
      some_by true e =
          omega (
            arith,
            whole_count,
            (point_says (length (whole_digits JSON text at)) (length (fraction JSON text at))
                (stands (is_point 46) text w) e).1,
          )
      some_by false e = grind (arith, nat_tests, all.0, e, whole_count)

      some : at < w
      some = some_by (has_point JSON text at) refl

      zero : (z : Bool) → not (z && nat_lt (at + 1) w) ≡ true → z ≡ true → w ≡ at + 1
      zero z n e = grind (arith, nat_tests, some)

  float_of : is_float JSON text at ≡ true → IsLongest text start (digits_stop JSON text at)
  float_of h = let is = float_some h in digits_longest is.0 is.1

  -- it ends after its whole digits
  exponent_onward : q ≤ digits_stop JSON text at
  exponent_onward = by exponent_is sign_is
    where
      by : IsPartOrNone text x (digits_stop JSON text at) is_e q
          → IsOptional text is_sign (q + 1) x → q ≤ digits_stop JSON text at
      by (inl h) (inl f) = omega (arith, f, h.some)
      by (inl h) (inr f) = omega (arith, f.1, h.some)
      by (inr h) f = omega (arith, h.ends)

  exponent_further : has_exponent JSON text at ≡ true → q < digits_stop JSON text at
  unfolding exponent_end exponent_digits digits_from digits_end
  exponent_further has = by (stands is_e text q) refl
    where
      r : Rule
      r = rule_of word Exponent

      first : IsOptional text is_sign (q + 1) x → q < x
      first (inl f) = omega (arith, f)
      first (inr f) = omega (arith, f.1)

      by : (b : Bool) → stands is_e text q ≡ b → q < digits_stop JSON text at
      by true h =
          let n = count r text refl refl x (x_within h) in
          let long : nat_lt 0 (e - x) ≡ true = rw (h, n) at has in
          let ends : digits_stop JSON text at ≡ e = rw (h, n, long) refl in
          omega (arith, first sign_is, is_less 0 (e - x) long, ends)
      by false h = let none : false ≡ true = rw h at has in cc

  float_further : is_float JSON text at ≡ true → w < digits_stop JSON text at
  float_further h =
      by (has_point JSON text at) (has_exponent JSON text at) refl refl (float_some h).2
    where
      by : (p x : Bool) → has_point JSON text at ≡ p → has_exponent JSON text at ≡ x
          → p || x ≡ true → w < digits_stop JSON text at
      by true x e f k =
          let is =
          point_says (length (whole_digits JSON text at)) (length (fraction JSON text at))
          (stands (is_point 46) text w) e in
          let n = fraction_count is.0 in
          let there : q ≡ fraction_end word text 46 w = rw e refl in
          omega (arith, there, n.0.digits.onward, exponent_onward)
      by false true e f k =
          let here : q ≡ w = rw e refl in
          omega (arith, here, exponent_further f)
      by false false e f k = cc k

  -- where digits begin, floats pass the same sign
  past_is : at < w → floats.past_sign text start ≡ at
  past_is some = by (stands is_minus text start) refl
    where
      signed : (o : Option ℕ) → holds_of is_minus o ≡ true → holds_of is_sign o ≡ true
      signed None h = cc
      signed (Some b) h = grind (arith, nat_tests)

      by : (b : Bool) → stands is_minus text start ≡ b → floats.past_sign text start ≡ at
      by true h = rw (signed (slice_get text start) h) (sym (after_minus h))
      by false h =
          let digit = whole_run.digits.all at (omega arith) some in
          let first : stands is_ascii_digit text start ≡ true =
          subst (λ (i : ℕ). stands is_ascii_digit text i ≡ true) (no_minus h) digit in
          rw (apart is_ascii_digit is_sign text start no_sign first) (sym (no_minus h))

  -- digits without a fraction and an exponent
  digits_alone : is_float JSON text at ≡ false → at < w
      → (stands is_zero text at ≡ true → w ≡ at + 1) → IsLongest text start w
  digits_alone h some alone =
      subst (λ (z : ℕ). IsLongest text start z)
      (alone_stop JSON text at h (few (stands is_zero text at) alone)
      (omega (arith, whole_count, some))) (digits_longest some alone)
    where
      few : (z : Bool) → (z ≡ true → w ≡ at + 1) → z && nat_lt (at + 1) w ≡ false
      few true l = let n = l refl in grind (arith, nat_tests, n)
      few false l = refl

  -- ---- the law

  module _ (format : Format) where
    -- where no digit follows, the integer is that of its digits
    abbrev IntegerSays : Bool → ℕ → ℕ → ℕ → Type 0
    IntegerSays negative magnitude said end =
        (negative ≡ stands is_minus text start) × (said ≡ word) × (magnitude ≤ 2 ^ 128 - 1)
        × (stands is_ascii_digit text end ≡ false → (most : ℕ) → magnitude ≤ most
        → integer_at (rule_of word Integer) text at most ≡ Ok (magnitude, end))

    -- where nothing goes on with it, the float is that of its text; it is no integer that fits
    abbrev FloatSays : Float → ℕ → Type 0
    FloatSays x end =
        (IsDelimited text end → read_at word text plain_marks format start ≡ Ok (x, end))
        × ((magnitude : ℕ)
        → integer_at (rule_of word Integer) text at (2 ^ 128 - 1) ≡ Ok (magnitude, end) → ⊥)

    -- what the outcome says of the text
    abbrev pub Says : Outcome → Type 0
    Says (Ok (numbers.Integer negative magnitude said, end)) =
        IsLongest text start end × IsJsonInteger text start end
        × IntegerSays negative magnitude said end
    Says (Ok (numbers.Float x, end)) = IsLongest text start end × FloatSays x end
    Says (Err error) = (end : ℕ) → IsJsonNumber text start end → ⊥

    abbrev of_integer : Result Literal LanguageError → Outcome
    of_integer = integer_here JSON text start format

    -- the digits here are an integer, if they are no float
    module _ (h : is_float JSON text at ≡ false) where
      abbrev r : Rule
      r = rule_of word Integer

      abbrev digits : List ℕ
      digits = digits_between r text at (stop r text at 0)

      abbrev value : ℕ
      value = value_to r text at (stop r text at 0)

      w_is : stop r text at 0 ≡ w
      unfolding digits_end
      w_is = refl

      digits_count : length digits ≡ w - at
      unfolding digits_end
      digits_count = count r text refl refl at at_within

      -- the first `0` by itself, if it is there
      abbrev zero_of : Bool → Outcome
      zero_of z =
          if z then Ok (numbers.Integer (is_negative JSON text start) 0 word, at + 1)
          else Err (errors.Empty at)

      alone : stands is_zero text at ≡ true → at + 1 < w
          → Says (zero_of true)
      alone z more = (
        zero_alone text start at w scan z more,
        record {
          int = at;
          minus = minus_is text start at w scan;
          integer = inl (z, refl);
        },
        (
          refl,
          refl,
          omega arith,
          λ none. cc (none, whole_run.digits.all (at + 1) (omega arith) more),
        ),
      )

      empty : at ≡ w → (z : Bool) → has_byte text at 48 ≡ z
          → Says (zero_of z)
      empty same true e = absurd (no_zero same e)
      empty same false e = λ end j. none text start at w scan same end j

      -- digits that are too large are more than a first `0`
      follow : at < w → 2 ^ 128 - 1 < value → stands is_zero text at ≡ true → at + 1 < w
      follow some over z = by (cases_lt (at + 1) w)
        where
          by : (at + 1 < w) ⊎ (w ≤ at + 1) → at + 1 < w
          by (inl l) = l
          by (inr l) =
              let end : w ≡ at + 1 = omega (arith, some, l) in
              let zero = zero_value r text at (stop r text at 0) refl z (w_is ∙ end) in
              absurd (omega (arith, over, zero))

      too_large : 2 ^ 128 - 1 < value → (magnitude : ℕ)
          → integer_at r text at (2 ^ 128 - 1) ≡ Ok (magnitude, digits_stop JSON text at) → ⊥
      too_large large magnitude is =
          let said = says_some r text at (2 ^ 128 - 1) magnitude (digits_stop JSON text at) is in
          let same : value_to r text at (digits_stop JSON text at) ≡ value = rw said.ends refl in
          omega (arith, large, said.is, said.fits, same)

      large : at < w → 2 ^ 128 - 1 < value → (over : ℕ) (z : Bool) → has_byte text at 48 ≡ z
          → Says (of_integer
          (if z && true then Err (literals.Zero at) else Err (literals.Overflow over)))
      large some value over true e = rw e (alone e (follow some value e))
      large some value over false e =
          let digits : 0 < length (whole_digits JSON text at) =
          omega (arith, whole_count, some) in
          rw e (
            digits_longest some (λ q. cc (q, e)),
            (λ d. float_read text at d start format digits (past_is some), too_large value),
          )

      abbrev literal : Literal
      literal = record { value = value; word = word; digits = at; end = w }

      integer_read : at < w → (most : ℕ) → value ≤ most
          → integer_at r text at most ≡ Ok (value, w)
      unfolding digits_end
      integer_read some most fits = some_at r text at most (omega (arith, digits_count, some)) fits

      one : at < w → value ≤ 2 ^ 128 - 1 → (stands is_zero text at ≡ true → w ≡ at + 1)
          → Says (of_integer (Ok literal))
      one some fits less = (
        digits_alone h some less,
        record {
          int = at;
          minus = minus_is text start at w scan;
          integer = integer_is text start at w scan some less;
        },
        (refl, refl, fits, λ none. integer_read some),
      )

      fitting : at < w → value ≤ 2 ^ 128 - 1 → (z m : Bool) → has_byte text at 48 ≡ z
          → nat_lt (at + 1) w ≡ m
          → Says (of_integer (if z && m then Err (literals.Zero at) else Ok literal))
      fitting some fits true true e l = rw e (alone e (is_less (at + 1) w l))
      fitting some fits true false e l = one some fits (λ q. no_more_digits at w some l)
      fitting some fits false m e l = one some fits (λ q. cc (q, e))

      outcome : (none over : Bool) → (length digits == 0) ≡ none → nat_lt (2 ^ 128 - 1) value ≡ over
          → Says (of_integer (literal_of JSON.integers text at
          (if none then Err (integers.Empty (stop r text at 0)) else
          if over then Err (integers.Overflow (first_over r text at (2 ^ 128 - 1))) else
          Ok (value, stop r text at 0))))
      unfolding digits_end
      outcome true over n k =
          empty (omega (arith, is_none (length digits) n, digits_count, whole_run.digits.onward))
          (has_byte text at 48) refl
      outcome false true n k =
          rw no_prefix
          (large (omega (arith, is_some (length digits) n, digits_count))
          (is_less (2 ^ 128 - 1) value k)
          (first_over r text at (2 ^ 128 - 1)) (has_byte text at 48) refl)
      outcome false false n k =
          let some : at < w = omega (arith, is_some (length digits) n, digits_count) in
          rw (no_prefix, plain_is)
          (fitting some (is_no_less (2 ^ 128 - 1) value k) (has_byte text at 48)
          (nat_lt (at + 1) w) refl refl)

    integer_says : is_float JSON text at ≡ false
        → Says (of_integer (literal_at JSON.integers text at (2 ^ 128 - 1)))
    unfolding integer_at
    integer_says h =
        subst
        (λ (o : Result (ℕ × ℕ) LiteralError).
        Says (of_integer (literal_of JSON.integers text at o)))
        (sym here) (outcome h _ _ refl refl)
      where
        here : integer_at (rule_of (word_at JSON.integers text at) Integer) text
            (digits_at JSON.integers text at) (2 ^ 128 - 1)
            ≡ integer_at (rule_of word Integer) text at (2 ^ 128 - 1)
        here = rw (no_prefix, plain_is) refl

    -- what has a fraction or an exponent ends after the integer
    no_integer : is_float JSON text at ≡ true → (magnitude : ℕ)
        → integer_at (rule_of word Integer) text at (2 ^ 128 - 1)
        ≡ Ok (magnitude, digits_stop JSON text at) → ⊥
    unfolding digits_end
    no_integer h magnitude is =
        let end : ℕ = digits_stop JSON text at in
        let said = says_some (rule_of word Integer) text at (2 ^ 128 - 1) magnitude end is in
        omega (arith, said.ends, float_further h)

    pub says : Says (number_of_at JSON text start format)
    unfolding number_of_at plain_at special_at hex_word_at
    says = rw (no_separator_of (slice_get text at)) (by (is_float JSON text at) refl)
      where
        by : (b : Bool) → is_float JSON text at ≡ b
            → Says (if b then float_here JSON text start format else
            of_integer (literal_at (language JSON text start) text at (2 ^ 128 - 1)))
        by true h =
            let some = (float_some h).0 in
            let digits : 0 < length (whole_digits JSON text at) =
            omega (arith, whole_count, some) in (
              float_of h,
              (λ d. float_read text at d start format digits (past_is some), no_integer h),
            )
        by false h =
            subst (λ (l : Language). Says (of_integer (literal_at l text at (2 ^ 128 - 1))))
            (sym language_is)
            (integer_says h)

    -- the same of a text that is to be one number
    abbrev pub SaysWhole : Result (Number Float) NumberError → Type 0
    SaysWhole (Ok number) = IsJsonNumber text start (length text)
    SaysWhole (Err error) = IsJsonNumber text start (length text) → ⊥

    pub says_whole : SaysWhole (to_end text (number_of_at JSON text start format))
    says_whole = by (number_of_at JSON text start format) says
      where
        ends : (n : Number Float) (end : ℕ) (b : Bool) → (end == length text) ≡ b
            → IsLongest text start end
            → SaysWhole (if b then Ok n else Err (errors.Invalid end))
        ends n end true e l =
            subst (λ (q : ℕ). IsJsonNumber text start q) (same_number end (length text) e) l.is
        ends n end false e l =
            λ j. omega (
              arith,
              other_number end (length text) e (json_within text start end l.is),
              l.longest (length text) j,
            )

        by : (o : Outcome) → Says o → SaysWhole (to_end text o)
        by (Ok (numbers.Integer negative magnitude said, end)) l =
            ends (numbers.Integer negative magnitude said) end (end == length text) refl l.0
        by (Ok (numbers.Float x, end)) l =
            ends (numbers.Float x) end (end == length text) refl l.0
        by (Err error) none = none (length text)

    pub number_of : (n : Number Float) (end : ℕ)
        → number_of_at JSON text start format ≡ Ok (n, end) → IsLongest text start end
    number_of (numbers.Integer negative magnitude said) end h = (subst Says h says).0
    number_of (numbers.Float x) end h = (subst Says h says).0

    -- an integer, and a float
    pub integer_in : (negative : Bool) (magnitude said end : ℕ)
        → number_of_at JSON text start format
        ≡ Ok (numbers.Integer negative magnitude said, end)
        → (negative ≡ stands is_minus text start)
        × (stands is_ascii_digit text end ≡ false → (most : ℕ) → magnitude ≤ most
        → integer_at (rule_of word Integer) text (past_minus text start) most
        ≡ Ok (magnitude, end))
    integer_in negative magnitude said end h =
        let is = (subst Says h says).2 in rw (← at_is) (is.0, is.3)

    pub float_in : (f : Float) (end : ℕ) → number_of_at JSON text start format
        ≡ Ok (numbers.Float f, end)
        → IsDelimited text end → read_at word text plain_marks format start ≡ Ok (f, end)
    float_in f end h = (subst Says h says).1.0

    -- a number that ends where its digits do, up to 128 bits, is the integer of these digits
    pub fits_in : (magnitude end : ℕ) → IsLongest text start end
        → integer_at (rule_of word Integer) text (past_minus text start) (2 ^ 128 - 1)
        ≡ Ok (magnitude, end)
        → number_of_at JSON text start format
        ≡ Ok (numbers.Integer (stands is_minus text start) magnitude word, end)
    fits_in magnitude end l fits = by (number_of_at JSON text start format) says
      where
        is : integer_at (rule_of word Integer) text at (2 ^ 128 - 1) ≡ Ok (magnitude, end)
        is = rw at_is fits

        r : Rule
        r = rule_of word Integer

        ends : IsIntegerFrom r text at (2 ^ 128 - 1) magnitude end
        ends = says_some r text at (2 ^ 128 - 1) magnitude end is

        none : stands is_ascii_digit text end ≡ false
        none = subst (λ (z : ℕ). stands is_ascii_digit text z ≡ false) (sym ends.ends) whole_stops

        same_end : (other : ℕ) → IsLongest text start other → other ≡ end
        same_end other o = omega (arith, l.longest other o.is, o.longest end l.is)

        one : (n : Bool) (m said : ℕ) → IntegerSays n m said end
            → ◌≡◌ {A = Outcome} (Ok (numbers.Integer n m said, end))
            (Ok (numbers.Integer (stands is_minus text start) magnitude word, end))
        one n m said s =
            let more = s.3 none (m + magnitude) (omega arith) in
            let also =
            reads_more r text at (2 ^ 128 - 1) (2 ^ 128 - 1 + (m + magnitude)) magnitude end
            (omega arith) is in
            let less = reads_more r text at (m + magnitude) (2 ^ 128 - 1 + (m + magnitude)) m end
            (omega arith) more in
            let same : m ≡ magnitude = grind (arith, also, less) in
            rw (s.0, s.1, same) refl

        by : (o : Outcome) → Says o
            → o ≡ Ok (numbers.Integer (stands is_minus text start) magnitude word, end)
        by (Ok (numbers.Integer n m said, other)) s =
            let same = same_end other s.0 in
            rw same (one n m said (subst (λ (z : ℕ). IntegerSays n m said z) same s.2))
        by (Ok (numbers.Float f, other)) s =
            let same = same_end other s.0 in
            absurd (s.1.1 magnitude (rw same is))
        by (Err error) s = absurd (s end l.is)

    -- any other is the float, where nothing goes on with it
    pub rounds_in : (x : Float) (end : ℕ) → IsLongest text start end → IsDelimited text end
        → ((magnitude : ℕ) → integer_at (rule_of word Integer) text (past_minus text start)
        (2 ^ 128 - 1) ≡ Ok (magnitude, end) → ⊥)
        → read_at word text plain_marks format start ≡ Ok (x, end)
        → number_of_at JSON text start format ≡ Ok (numbers.Float x, end)
    rounds_in x end l d none is = by (number_of_at JSON text start format) says
      where
        same_end : (other : ℕ) → IsLongest text start other → other ≡ end
        same_end other o = omega (arith, l.longest other o.is, o.longest end l.is)

        one : (f : Float) → FloatSays f end
            → ◌≡◌ {A = Outcome} (Ok (numbers.Float f, end)) (Ok (numbers.Float x, end))
        one f s =
            let same : f ≡ x = grind (arith, s.0 d, is) in
            rw same refl

        by : (o : Outcome) → Says o → o ≡ Ok (numbers.Float x, end)
        by (Ok (numbers.Integer n m said, other)) s =
            let same = same_end other s.0 in
            let integer = subst (λ (z : ℕ). IntegerSays n m said z) same s.2 in
            absurd (none m (rw (← at_is) (integer.3 d.digit (2 ^ 128 - 1) integer.2)))
        by (Ok (numbers.Float f, other)) s =
            let same = same_end other s.0 in
            rw same (one f (subst (λ (z : ℕ). FloatSays f z) same s.1))
        by (Err error) s = absurd (s end l.is)

    -- ---- of a text that is one number

    ended : (n : Number Float) (o : Outcome) → to_end text o ≡ Ok n → o ≡ Ok (n, length text)
    ended n (Ok (m, end)) h = grind (arith, nat_tests, h)
    ended n (Err error) h = cc

    delimited_end : IsDelimited text (length text)
    delimited_end = record {
      digit = none_past is_ascii_digit text (length text) (omega arith);
      point = none_past (is_point 46) text (length text) (omega arith);
      mark = none_past is_e text (length text) (omega arith);
    }

    pub whole_integer : (negative : Bool) (magnitude said : ℕ)
        → to_end text (number_of_at JSON text start format)
        ≡ Ok (numbers.Integer negative magnitude said)
        → (negative ≡ stands is_minus text start)
        × ((most : ℕ) → magnitude ≤ most
        → integer_at (rule_of word Integer) text (past_minus text start) most
        ≡ Ok (magnitude, length text))
    whole_integer negative magnitude said h =
        let is = ended (numbers.Integer negative magnitude said)
        (number_of_at JSON text start format) h in
        let read = integer_in negative magnitude said (length text) is in
        (read.0, read.1 delimited_end.digit)

    pub whole_float : (x : Float)
        → to_end text (number_of_at JSON text start format) ≡ Ok (numbers.Float x)
        → parse_at word text plain_marks format start ≡ Ok x
    whole_float x h =
        let is = ended (numbers.Float x) (number_of_at JSON text start format) h in
        let read = (subst Says is says).1.0 delimited_end in
        rw read (grind (arith, nat_tests))
