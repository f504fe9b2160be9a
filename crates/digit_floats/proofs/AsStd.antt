-- On a text without separators the float is that of std's `parse`.
use Rattle.std.proofs.Common.{◌≡◌, ℕ, suc, ◌+◌, ◌-◌, ◌<◌, ◌≤◌, Bool, true, false, List, [], ◌∷◌, length, take, drop, get_or, slice_index, refl, sym, ap, subst, ◌∙◌, length-drop, arith, inl, inr, ◌++◌}
use Rattle.std.specs.Prelude.{not, filter, slice_range, Some, Ok, Result, if◌then◌else◌, ◌==◌, ◌||◌, ◌&&◌}
use Rattle.std.specs.Char.{is_ascii_digit}
use Rattle.std.specs.List.{prefix_len}
use Rattle.std.proofs.lemmas.List.{get_or-drop, drop-drop, length-take, get_or_past}
use Rattle.std.proofs.lemmas.Float.Parse.{scan_numeral-text_of, parse_float-text_of}
use Rattle.std.specs.Fmt.{sign_text}
use Rattle.std.proofs.lemmas.Bool.{cases_lt}
use Rattle.std.specs.Str.Parse.{AllDigits}
use Rattle.std.proofs.lemmas.List.Folds.{length-prefix_len}
use Rattle.std.proofs.lemmas.List.Sums.{prefix_len_is, prefix_len_passes, prefix_len-drop_yes}
use Rattle.std.proofs.lemmas.Bool.Decides.{nat_tests}
use Rattle.lexical_digits.specs.declared.skip.rule.Rule.{Rule}
use Rattle.lexical_digits.specs.Separators.{is_dropped, is_kept, holds_separator}
use Rattle.lexical_digits.specs.Stop.{stop}
use Rattle.lexical_digits.proofs.Calls.FirstOther.{stop_is_first}
use Rattle.lexical_digits.specs.State.{rule_of}
use Rattle.lexical_digits.specs.declared.skip.component.Component.{Component}
use Rattle.lexical_digits.specs.declared.skip.component.Component.TheVariants.{Integer, Fraction, Exponent}
use Rattle.std.specs.Float.{Float, Format}
use Rattle.std.specs.Float.Numeral.{nearest_float}
use Rattle.std.specs.Float.Parse.{parse_float, read_float, sign_len}
use Rattle.std.specs.Float.Numeral as std
use Rattle.digit_values.specs.After.{digits_between}
use Rattle.digit_floats.specs.Bytes.{stands, is_sign, is_minus, is_point, is_mark}
use Rattle.digit_floats.specs.Float.{IsDecimal, plain_marks, past_sign, digits_end, digits_from, fraction_digits, fraction_end, exponent_digits, exponent_end, exponent_negative, mantissa_end, number_end, float_end, float_at, parts_at, mantissa_count, parse_at}
use Rattle.digit_floats.specs.Separators.{HasNoSeparator}
use Rattle.digit_floats.proofs.Bytes.{stands_is, stands_within}
use Rattle.digit_floats.proofs.Decimals.{same_digit, digits_are}

-- there is a digit, and one after any mark
pub record HasFloat (word : ℕ) (text : List ℕ) (at : ℕ) : Type 0 where
  pub some : 0 < mantissa_count word text 46 at
  pub exponent : stands (is_mark 101) text (mantissa_end word text 46 at) ≡ true
      → 0 < length (exponent_digits word text 101 (mantissa_end word text 46 at))

front : (p : ℕ → Bool) (xs : List ℕ)
    → filter p (take (prefix_len p xs) xs) ≡ take (prefix_len p xs) xs
front p [] = refl
front p (x ∷ xs) = go (p x) refl (front p xs)
  where
    go : (b : Bool) → p x ≡ b
        → filter p (take (prefix_len p xs) xs) ≡ take (prefix_len p xs) xs
        → filter p (take (prefix_len p (x ∷ xs)) (x ∷ xs)) ≡ take (prefix_len p (x ∷ xs)) (x ∷ xs)
    go true e rest =
        let one : 1 + prefix_len p xs ≡ suc (prefix_len p xs) = omega arith in
        rw (e, one, e) (ap (λ (t : List ℕ). x ∷ t) rest)
    go false e rest = rw e refl

-- ---- by a rule of radix 10

module _ (rule : Rule) (text : List ℕ) (ten : rule.radix ≡ 10)
    (plain : (q : ℕ) → holds_separator rule text q ≡ false) where
  kept : (start count q : ℕ) → is_kept rule text start count q ≡ true
  unfolding is_kept is_dropped
  kept start count q = rw (plain q) refl

  len : ℕ → ℕ
  len at = prefix_len is_ascii_digit (drop at text)

  pub stop_is : (at : ℕ) → at ≤ length text
      → stop rule text at 0 ≡ at + prefix_len is_ascii_digit (drop at text)
  stop_is at l =
      let first = stop_is_first rule text at 0 l in
      let end = stop rule text at 0 in
      let long : length (drop at text) ≡ length text - at = length-drop at text in
      let passes : (k : ℕ) → k < end - at → is_ascii_digit (get_or (drop at text) k 0) ≡ true =
      λ k less.
      let digit = first.before (at + k) (omega arith) (omega arith) (kept at 0 (at + k)) in
      rw (get_or-drop, ← same_digit rule (slice_index text (at + k)) ten) (not_false _ digit) in
      let stops : end - at < length (drop at text)
      → is_ascii_digit (get_or (drop at text) (end - at) 0) ≡ false =
      λ less.
      let other = (first.at (omega arith)).1 in
      let there : at + (end - at) ≡ end = omega (arith, first.onward) in
      rw (get_or-drop, there, ← same_digit rule (slice_index text end) ten) (not_true _ other) in
      let n =
      prefix_len_is is_ascii_digit (drop at text) (end - at) 0 (omega (arith, first.within)) passes
      stops in
      omega (arith, first.onward)
    where
      not_false : (b : Bool) → not b ≡ false → b ≡ true
      not_false true e = refl
      not_false false e = cc

      not_true : (b : Bool) → not b ≡ true → b ≡ false
      not_true true e = cc
      not_true false e = refl

  -- the digits in front are all that is kept up to the stop
  pub digits_are_front : (at : ℕ) → at ≤ length text
      → digits_between rule text at (stop rule text at 0)
      ≡ take (prefix_len is_ascii_digit (drop at text)) (drop at text)
  digits_are_front at l =
      let n = prefix_len is_ascii_digit (drop at text) in
      let same : at + n - at ≡ n = omega arith in
      rw (stop_is at l, same, ← digits_are rule (take n (drop at text)) ten)
      (front is_ascii_digit (drop at text))

-- ---- the components from a position on, in std's words for the rest of the text

module _ (word : ℕ) (text : List ℕ) (decimal : IsDecimal word) (plain : HasNoSeparator word text)
    (at : ℕ) where
  abbrev r : List ℕ
  r = drop at text

  byte : (p : ℕ → Bool) (i : ℕ) → p 0 ≡ false → stands p text (at + i) ≡ p (slice_index r i)
  byte p i z = stands_is p text (at + i) z ∙ ap p (sym (get_or-drop at text i 0))

  module _ (k : Component) (ten : (rule_of word k).radix ≡ 10) (i : ℕ) (l : at + i ≤ length text)
    where
      end_is : digits_end word text k (at + i) ≡ at + std.digits_end r i
      unfolding digits_end
      end_is =
          let e = stop_is (rule_of word k) text ten (plain k) (at + i) l in
          rw (e, drop-drop i at text) (omega arith)

      digits_is : digits_from word text k (at + i) ≡ slice_range r i (std.digits_end r i)
      unfolding digits_from digits_end
      digits_is =
          let e = digits_are_front (rule_of word k) text ten (plain k) (at + i) l in
          let n = prefix_len is_ascii_digit (drop i r) in
          let same : i + n - i ≡ n = omega arith in
          rw (e, same, drop-drop i at text) refl

  fraction_by : (i : ℕ) (b : Bool) → stands (is_point 46) text (at + i) ≡ b
      → fraction_digits word text 46 (at + i)
      ≡ (if b
      then slice_range r (i + 1) (if b then std.digits_end r (i + 1) else i)
      else [])
  unfolding fraction_digits
  fraction_by i true e =
      let l = stands_within (is_point 46) text (at + i) e in
      let n : at + i + 1 ≡ at + (i + 1) = omega arith in
      rw (e, n) (digits_is Fraction decimal.0 (i + 1) (omega arith))
  fraction_by i false e = rw e refl

  fraction_end_by : (i : ℕ) (b : Bool) → stands (is_point 46) text (at + i) ≡ b
      → fraction_end word text 46 (at + i) ≡ at + (if b then std.digits_end r (i + 1) else i)
  unfolding fraction_end
  fraction_end_by i true e =
      let l = stands_within (is_point 46) text (at + i) e in
      let n : at + i + 1 ≡ at + (i + 1) = omega arith in
      rw (e, n) (end_is Fraction decimal.0 (i + 1) (omega arith))
  fraction_end_by i false e = rw e refl

  -- ---- the exponent, whose mark would stand at j

  swap : (x : ℕ) → (x == 45 || x == 43) ≡ is_sign x
  swap x = grind (arith, nat_tests)

  start_by : (j : ℕ) (b : Bool) → stands is_sign text (at + (j + 1)) ≡ b
      → past_sign text (at + (j + 1)) ≡ at + std.exponent_start r j
  start_by j true e =
      let s : is_sign (slice_index r (j + 1)) ≡ true = sym (byte is_sign (j + 1) refl) ∙ e in
      rw (e, swap, s) (omega arith)
  start_by j false e =
      let s : is_sign (slice_index r (j + 1)) ≡ false = sym (byte is_sign (j + 1) refl) ∙ e in
      rw (e, swap, s) refl

  start_is : (j : ℕ) → past_sign text (at + (j + 1)) ≡ at + std.exponent_start r j
  start_is j = start_by j _ refl

  sign_within : (i : ℕ) (b : Bool) → stands is_sign text i ≡ b → i ≤ length text
      → past_sign text i ≤ length text
  sign_within i true e l = let h = stands_within is_sign text i e in rw e (omega arith)
  sign_within i false e l = rw e l

  start_within : (j : ℕ) → stands (is_mark 101) text (at + j) ≡ true
      → at + std.exponent_start r j ≤ length text
  start_within j e =
      let l = stands_within (is_mark 101) text (at + j) e in
      subst (λ (z : ℕ). z ≤ length text) (start_is j)
      (sign_within (at + (j + 1)) _ refl (omega arith))

  exponent_by : (j : ℕ) (b : Bool) → stands (is_mark 101) text (at + j) ≡ b
      → exponent_digits word text 101 (at + j)
      ≡ (if b
      then slice_range r (std.exponent_start r j) (std.digits_end r (std.exponent_start r j))
      else [])
  unfolding exponent_digits
  exponent_by j true e =
      let n : at + j + 1 ≡ at + (j + 1) = omega arith in
      rw (e, n, start_is j) (digits_is Exponent decimal.1 _ (start_within j e))
  exponent_by j false e = rw e refl

  exponent_end_by : (j : ℕ) (b : Bool) → stands (is_mark 101) text (at + j) ≡ b
      → exponent_end word text 101 (at + j)
      ≡ at + (if b then std.digits_end r (std.exponent_start r j) else j)
  unfolding exponent_end
  exponent_end_by j true e =
      let n : at + j + 1 ≡ at + (j + 1) = omega arith in
      rw (e, n, start_is j) (end_is Exponent decimal.1 _ (start_within j e))
  exponent_end_by j false e = rw e refl

  negative_by : (j : ℕ) (b : Bool) → stands (is_mark 101) text (at + j) ≡ b
      → exponent_negative word text 101 (at + j) ≡ (b && slice_index r (j + 1) == std.minus)
  unfolding exponent_negative
  negative_by j b e =
      let n : at + j + 1 ≡ at + (j + 1) = omega arith in
      rw (e, n, byte is_minus (j + 1) refl) refl

  -- a digit follows the mark
  has_by : (j : ℕ) (b : Bool) → stands (is_mark 101) text (at + j) ≡ b
      → (b ≡ true → 0 < length (exponent_digits word text 101 (at + j))) → std.has_exponent r j ≡ b
  has_by j false e some =
      let m : is_mark 101 (slice_index r j) ≡ false = sym (byte (is_mark 101) j refl) ∙ e in
      rw m refl
  has_by j true e some =
      let m : is_mark 101 (slice_index r j) ≡ true = sym (byte (is_mark 101) j refl) ∙ e in
      let c = std.exponent_start r j in
      let long : 0 < length (slice_range r c (std.digits_end r c)) =
      subst (λ (z : List ℕ). 0 < length z) (exponent_by j true e) (some refl) in
      rw m (first_digit c long)
    where
      first_digit : (c : ℕ) → 0 < length (slice_range r c (std.digits_end r c))
          → is_ascii_digit (slice_index r c) ≡ true
      first_digit c long =
          let n = prefix_len is_ascii_digit (drop c r) in
          let same : c + n - c ≡ n = omega arith in
          let few : 0 < length (take n (drop c r)) =
          subst (λ (y : ℕ). 0 < length (take y (drop c r))) same long in
          let some : 0 < n = omega (arith, length-take n (drop c r)) in
          let z : c + 0 ≡ c = omega arith in
          subst (λ (y : ℕ). is_ascii_digit (slice_index r y) ≡ true) z
          (subst (λ (y : ℕ). is_ascii_digit y ≡ true) (get_or-drop c r 0 0)
          (prefix_len_passes is_ascii_digit (drop c r) 0 0 some))

  -- ---- the whole number

  module _ (within : at ≤ length text) where
    abbrev i : ℕ
    i = std.digits_end r 0

    abbrev j : ℕ
    j = if slice_index r i == 46 then std.digits_end r (i + 1) else i

    here : at + 0 ≡ at
    here = omega arith

    whole_end_is : digits_end word text Integer at ≡ at + std.digits_end r 0
    whole_end_is =
        subst (λ (y : ℕ). digits_end word text Integer y ≡ at + std.digits_end r 0) here
        (end_is Integer decimal.0 0 (omega arith))

    whole_is : digits_from word text Integer at ≡ slice_range r 0 (std.digits_end r 0)
    whole_is =
        subst (λ (y : ℕ). digits_from word text Integer y ≡ slice_range r 0 (std.digits_end r 0))
        here (digits_is Integer decimal.0 0 (omega arith))

    mantissa_is : mantissa_end word text 46 at ≡ at + j
    mantissa_is = rw whole_end_is (fraction_end_by i _ (byte (is_point 46) i refl))

    -- ---- of a text that was written

    module _ (p : std.Parts) (well : std.IsWellFormed p) (some : 0 < length p.whole)
        (written : r ≡ std.text_of p) where
      scanned : std.scan_numeral r ≡ p
      scanned = ap std.scan_numeral written ∙ scan_numeral-text_of p well

      counted : 0 < mantissa_count word text 46 at
      unfolding std.scan_numeral
      counted =
          let same : slice_range r 0 (std.digits_end r 0) ≡ p.whole =
          ap (λ (q : std.Parts). q.whole) scanned in
          omega (arith, ap length whole_is, ap length same)

      long : (std.scan_numeral r).len ≡ length r
      long = ap (λ (q : std.Parts). q.len) scanned ∙ well.len_is ∙ ap length (sym written)

      -- a digit stands where an exponent's begin
      some_exponent : (c : ℕ) → is_ascii_digit (slice_index r c) ≡ true
          → 0 < length (slice_range r c (std.digits_end r c))
      some_exponent c digit =
          let inside : c < length r = within_of c digit in
          let n = prefix_len is_ascii_digit (drop c r) in
          let same : c + n - c ≡ n = omega arith in
          let many = prefix_len-drop_yes is_ascii_digit r c 0 inside digit in
          rw same (omega (arith, length-prefix_len is_ascii_digit (drop c r), many))
        where
          within_of : (c : ℕ) → is_ascii_digit (slice_index r c) ≡ true → c < length r
          within_of c digit =
              elim (cases_lt c (length r)) [
                | inl l ↦ l
                | inr past ↦
                    let z : slice_index r c ≡ 0 = get_or_past r c 0 past in
                    let no : is_ascii_digit 0 ≡ true = ap is_ascii_digit (sym z) ∙ digit in
                    cc
              ]

      after_mark : (b : Bool) → std.has_exponent r j ≡ b
          → stands (is_mark 101) text (at + j) ≡ true
          → 0 < length (exponent_digits word text 101 (at + j))
      unfolding std.scan_numeral
      after_mark true h m =
          let digit : is_ascii_digit (slice_index r (std.exponent_start r j)) ≡ true =
          grind (arith, nat_tests, h) in
          rw (exponent_by j true m) (some_exponent (std.exponent_start r j) digit)
      after_mark false h m =
          let ends : j ≡ length r =
          ap (λ (b : Bool). if b then std.digits_end r (std.exponent_start r j) else j) (sym h)
          ∙ long in
          absurd
          (omega
          (arith, ends, length-drop at text, stands_within (is_mark 101) text (at + j) m, within))

      has_float : HasFloat word text at
      has_float = record {
        some = counted;
        exponent = λ m. rw mantissa_is
            (after_mark (std.has_exponent r j) refl
            (subst (λ (y : ℕ). stands (is_mark 101) text y ≡ true) mantissa_is m));
      }

    module _ (is : HasFloat word text at) where
      has_is : std.has_exponent r j ≡ stands (is_mark 101) text (at + j)
      has_is =
          has_by j _ refl
          (subst (λ (y : ℕ). stands (is_mark 101) text y ≡ true
          → 0 < length (exponent_digits word text 101 y))
          mantissa_is is.exponent)

      exponent_is : exponent_digits word text 101 (mantissa_end word text 46 at)
          ≡ (std.scan_numeral r).exponent
      unfolding std.scan_numeral
      exponent_is = rw mantissa_is (exponent_by j _ (sym has_is))

      negative_is : exponent_negative word text 101 (mantissa_end word text 46 at)
          ≡ (std.scan_numeral r).exponent_negative
      unfolding std.scan_numeral
      negative_is = rw mantissa_is (negative_by j _ (sym has_is))

      end_is_std : number_end word text plain_marks at ≡ at + (std.scan_numeral r).len
      unfolding std.scan_numeral
      end_is_std = rw mantissa_is (exponent_end_by j _ (sym has_is))

      whole_is_std : digits_from word text Integer at ≡ (std.scan_numeral r).whole
      unfolding std.scan_numeral
      whole_is_std = whole_is

      fraction_is_std : fraction_digits word text 46 (digits_end word text Integer at)
          ≡ (std.scan_numeral r).fraction
      unfolding std.scan_numeral
      fraction_is_std = rw whole_end_is (fraction_by i _ (byte (is_point 46) i refl))

      pub nearest_is : (f : Format) (negative : Bool)
          → nearest_float f negative (parts_at word text plain_marks at)
          ≡ nearest_float f negative (std.scan_numeral r)
      nearest_is f negative =
          rw (whole_is_std, fraction_is_std, exponent_is, negative_is) refl

      pub has_digits_is : std.has_digits (std.scan_numeral r) ≡ true
      has_digits_is = rw (← whole_is_std, ← fraction_is_std) (grind (arith, nat_tests, is.some))

one_value : {A E : Type 0} (r : Result A E) (x y : A) → r ≡ Ok x → r ≡ Ok y → x ≡ y
one_value r x y e f = cc

-- ---- the whole text

sign_is : (text : List ℕ) → sign_len text ≡ past_sign text 0
sign_is [] = refl
sign_is (x ∷ xs) = grind (arith, nat_tests)

sign_fits : (text : List ℕ) → past_sign text 0 ≤ length text
sign_fits [] = omega arith
sign_fits (x ∷ xs) = grind (arith, nat_tests)

same : (n : ℕ) → (n == n) ≡ true
same n = grind (arith, nat_tests)

finish : (f : Format) (text : List ℕ) (x : Float) (k : ℕ) → read_float f text ≡ Some (x, k)
    → k ≡ length text → parse_float f text ≡ Some x
finish f text x k e l = rw (e, l, same (length text)) refl

read_is : (f : Format) (text : List ℕ) (at : ℕ) → sign_len text ≡ at
    → std.has_digits (std.scan_numeral (drop at text)) ≡ true
    → read_float f text
    ≡ Some (
      nearest_float f (slice_index text 0 == std.minus) (std.scan_numeral (drop at text)),
      at + (std.scan_numeral (drop at text)).len,
    )
unfolding read_float
read_is f text at sign some = rw (sign, some) refl

as_std : (word : ℕ) (text : List ℕ) → IsDecimal word → HasNoSeparator word text
    → HasFloat word text (past_sign text 0)
    → float_end word text plain_marks 0 ≡ length text
    → (f : Format) → parse_float f text ≡ Some (float_at word text plain_marks f 0)
as_std word text decimal plain is whole f =
    let at = past_sign text 0 in
    let l = sign_fits text in
    let some = has_digits_is word text decimal plain at l is in
    let ends = end_is_std word text decimal plain at l is in
    let minus = stands_is is_minus text 0 refl in
    let nearest = nearest_is word text decimal plain at l is f (is_minus (slice_index text 0)) in
    finish f text _ _ (read_is f text at (sign_is text) some) (sym ends ∙ whole)
    ∙ rw (minus, nearest) refl

-- of what is read of it
module _ (word : ℕ) (text : List ℕ) (decimal : IsDecimal word) (plain : HasNoSeparator word text)
    (f : Format) (x : Float) where
  abbrev at : ℕ
  at = past_sign text 0

  abbrev mark : ℕ
  mark = mantissa_end word text 46 at

  pub as_parsed : parse_at word text plain_marks f 0 ≡ Ok x → parse_float f text ≡ Some x
  as_parsed e =
      go (mantissa_count word text 46 at == 0)
      (stands (is_mark 101) text mark && (length (exponent_digits word text 101 mark) == 0))
      (number_end word text plain_marks at == length text) refl refl refl e
    where
      go : (a b c : Bool) → (mantissa_count word text 46 at == 0) ≡ a
          → (stands (is_mark 101) text mark && (length (exponent_digits word text 101 mark) == 0)) ≡
          b
          → (number_end word text plain_marks at == length text) ≡ c
          → parse_at word text plain_marks f 0 ≡ Ok x → parse_float f text ≡ Some x
      go true b c d g h e = let none = rw d at e in cc
      go false true c d g h e = let none = rw (d, g) at e in cc
      go false false false d g h e = let none = rw (d, g, h) at e in cc
      go false false true d g h e =
          let is : HasFloat word text at = record {
            some = grind (arith, nat_tests);
            exponent = λ m. grind (arith, nat_tests);
          } in
          let ends : number_end word text plain_marks at ≡ length text = grind (arith, nat_tests) in
          let here : parse_at word text plain_marks f 0 ≡ Ok (float_at word text plain_marks f 0) =
          rw (d, g, h) refl in
          as_std word text decimal plain is ends f ∙ ap Some (one_value _ _ _ here e)

-- ---- a float that was written is read

module _ (word : ℕ) (text : List ℕ) (decimal : IsDecimal word) (plain : HasNoSeparator word text)
    (negative : Bool) (p : std.Parts) (well : std.IsWellFormed p) (some : 0 < length p.whole)
    (written : text ≡ sign_text negative ++ std.text_of p) where
  begun : (past_sign text 0 ≤ length text) × (drop (past_sign text 0) text ≡ std.text_of p)
  begun = (sign_fits text, by_sign negative text written)
    where
      digit_first : (ws rest : List ℕ) → AllDigits 10 ws → 0 < length ws
          → past_sign (ws ++ rest) 0 ≡ 0
      digit_first [] rest all some = absurd (omega arith)
      digit_first (d ∷ ds) rest all some = grind (arith, nat_tests, all.0)

      by_sign : (n : Bool) (t : List ℕ) → t ≡ sign_text n ++ std.text_of p
          → drop (past_sign t 0) t ≡ std.text_of p
      by_sign true t e = rw e refl
      by_sign false t e = rw (e, digit_first p.whole _ well.whole_digits some) refl

  pub as_written : (f : Format)
      → parse_at word text plain_marks f 0 ≡ Ok (nearest_float f negative p)
  as_written f =
      let at = past_sign text 0 in
      let is = has_float word text decimal plain at begun.0 p well some begun.1 in
      let len = end_is_std word text decimal plain at begun.0 is in
      let all = long word text decimal plain at begun.0 p well some begun.1 in
      let ends : number_end word text plain_marks at ≡ length text =
      omega (arith, len, all, length-drop at text, begun.0) in
      let std_reads = as_std word text decimal plain is ends f in
      let same : Some (float_at word text plain_marks f 0) ≡ Some (nearest_float f negative p) =
      sym std_reads ∙ ap (parse_float f) written ∙ parse_float-text_of f negative p well some in
      let mark = mantissa_end word text 46 at in
      let d : (mantissa_count word text 46 at == 0) ≡ false = grind (arith, nat_tests, is.some) in
      let g : (stands (is_mark 101) text mark && (length (exponent_digits word text 101 mark) == 0))
      ≡ false =
      no_fault (stands (is_mark 101) text mark)
      (length (exponent_digits word text 101 mark)) is.exponent in
      let h : (number_end word text plain_marks at == length text) ≡ true =
      grind (arith, nat_tests, ends) in
      let here : parse_at word text plain_marks f 0 ≡ Ok (float_at word text plain_marks f 0) =
      rw (d, g, h) refl in
      here ∙ ap Ok (one_of same)
    where
      no_fault : (b : Bool) (n : ℕ) → (b ≡ true → 0 < n) → (b && (n == 0)) ≡ false
      no_fault true n some = grind (arith, nat_tests, some refl)
      no_fault false n some = refl

      one_of : {x y : Float} → Some x ≡ Some y → x ≡ y
      one_of e = cc
