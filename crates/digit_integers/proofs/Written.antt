-- A number that was written is read.
use Rattle.std.proofs.Common.{◌≡◌, ℕ, ℤ, zero, suc, ◌+◌, ◌-◌, ◌^◌, ◌<◌, ◌≤◌, Bool, true, false, List, [], ◌∷◌, ◌++◌, length, take, drop, get_or, refl, sym, ap, ◌∙◌, arith, filter, slice_get, length-append}
use Rattle.std.specs.Prelude.{Ok, pos, negsuc, if◌then◌else◌, decimal}
use Rattle.std.specs.Int.RustNames.{FitsSigned}
use Rattle.std.specs.Char.{digit_value}
use Rattle.std.specs.Fmt.{sign_text, signed_decimal}
use Rattle.std.specs.Str.Parse.{AllDigits, IsNumeral, digits_value}
use Rattle.std.proofs.Math.Seq.{drop-append-add, take-append_seam}
use Rattle.std.proofs.lemmas.Bool.Decides.{nat_tests}
use Rattle.std.proofs.lemmas.Fmt.{decimal_is_IsNumeral_wide}
use Rattle.std.proofs.lemmas.List.{get_or-take, get_or-drop, get_or-append-add, length-take, length-drop, take_all}
use mir.Syntax.{Width, w8, w16, w32, w64, w128}
use mir.Val.{hbits}
use Rattle.lexical_format.specs.Digits as words
use Rattle.lexical_digits.specs.declared.skip.rule.Rule.{Rule}
use Rattle.lexical_digits.specs.Follows.{Ends, AreSameUpTo}
use Rattle.lexical_digits.specs.Laws.Terms.{gets, slice_get_past, drop_more}
use Rattle.lexical_digits.specs.Separators.{is_digit}
use Rattle.lexical_digits.specs.Stop.{stop}
use Rattle.lexical_digits.proofs.Calls.FirstOther.{stop_is_first}
use Rattle.lexical_digits.proofs.Calls.WhatFollows.{stop_upto}
use Rattle.digit_values.specs.After.{digits_between}
use Rattle.digit_integers.specs.Integers.{integer_at, value_to}
use Rattle.digit_integers.specs.Numbers.{number_at, signed}
use Rattle.digit_integers.specs.Written.{IsWrittenAt}
use Rattle.digit_integers.proofs.Texts.{some_at}

-- ---- digits

-- std's digits are those of a radix
digit_is : (rule : Rule) (byte : ℕ) → rule.radix ≤ 36 → digit_value byte < rule.radix
    → is_digit rule byte ≡ true
unfolding is_digit words.digit_value
digit_is rule byte high l = grind (arith, nat_tests)

all_are : (rule : Rule) (ds : List ℕ) → rule.radix ≤ 36 → AllDigits rule.radix ds
    → filter (is_digit rule) ds ≡ ds
all_are rule [] high all = refl
all_are rule (d ∷ ds) high all = grind (arith, digit_is rule d, all_are rule ds)

each_is : (rule : Rule) (ds : List ℕ) (i : ℕ) → rule.radix ≤ 36 → AllDigits rule.radix ds
    → i < length ds → is_digit rule (get_or ds i 0) ≡ true
each_is rule [] i high all l = absurd (omega arith)
each_is rule (d ∷ ds) zero high all l = digit_is rule d high all.0
each_is rule (d ∷ ds) (suc i) high all l = each_is rule ds i high all.1 (omega arith)

module _ (rule : Rule) (text : List ℕ) (start : ℕ) (ds : List ℕ)
    (at : IsWrittenAt rule text start ds) where
  abbrev end : ℕ
  end = start + length ds

  span : end - start ≡ length ds
  span = omega arith

  within : 0 < length ds → end ≤ length text
  within some =
      let long = ap length at.same in
      grind (arith, long, length-take {A = ℕ}, length-drop {A = ℕ})

  pub byte_at : (i : ℕ) → i < length ds → get_or text (start + i) 0 ≡ get_or ds i 0
  byte_at i l =
      sym (get_or-drop start text i 0)
      ∙ sym (get_or-take (end - start) (drop start text) i 0 (omega (arith, span, l)))
      ∙ ap (λ bs. get_or bs i 0) at.same

  pub first_at : 0 < length ds → get_or text start 0 ≡ get_or ds 0 0
  first_at some =
      let here : start + 0 ≡ start = omega arith in
      let first : get_or text (start + 0) 0 ≡ get_or ds 0 0 = byte_at 0 some in
      rw here at first

  upto : 0 < length ds → AreSameUpTo rule text text end
  upto some = record {
    same = refl;
    one_within = within some;
    other_within = within some;
    one_ends = at.ends;
    other_ends = at.ends;
  }

  module _ (high : rule.radix ≤ 36) (numeral : IsNumeral rule.radix ds) where
    digit_there : (q : ℕ) → start ≤ q → q < end → is_digit rule (get_or text q 0) ≡ true
    digit_there q low l =
        let back : start + (q - start) ≡ q = omega (arith, low) in
        let byte = byte_at (q - start) (omega (arith, low, l)) in
        let same : get_or text q 0 ≡ get_or ds (q - start) 0 = rw back at byte in
        rw same (each_is rule ds (q - start) high numeral.1 (omega (arith, low, l)))

    stop_at : stop rule text start 0 ≡ end
    stop_at =
        let l = within numeral.0 in
        let first = stop_is_first rule text start 0 (omega (arith, l)) in
        let high = stop_upto rule text text end (upto numeral.0) start 0 (omega arith) in
        grind (arith, l, first, high, digit_there)

    between : digits_between rule text start (stop rule text start 0) ≡ ds
    between = rw (stop_at, at.same) (all_are rule ds high numeral.1)

    pub digits_read : (most : ℕ) → digits_value rule.radix ds ≤ most
        → integer_at rule text start most ≡ Ok (digits_value rule.radix ds, end)
    digits_read most fits =
        let value : value_to rule text start (stop rule text start 0) ≡ digits_value rule.radix ds =
        ap (digits_value rule.radix) between in
        let some : 0 < length (digits_between rule text start (stop rule text start 0)) =
        rw between numeral.0 in
        some_at rule text start most some (omega (arith, value, fits))
        ∙ rw (value, stop_at) refl

-- ---- what std writes of a number

module _ (rule : Rule) (text : List ℕ) (start n : ℕ) (ten : rule.radix ≡ 10) (few : n < 10 ^ 64)
    (at : IsWrittenAt rule text start (decimal n)) where
  numeral : IsNumeral rule.radix (decimal n)
  numeral = rw ten (decimal_is_IsNumeral_wide n few).0

  pub integer_read : (most : ℕ) → n ≤ most
      → integer_at rule text start most ≡ Ok (n, start + length (decimal n))
  integer_read most fits =
      let is : digits_value rule.radix (decimal n) ≡ n =
      rw ten (decimal_is_IsNumeral_wide n few).1 in
      digits_read rule text start (decimal n) at (omega (arith, ten)) numeral most (rw is fits)
      ∙ rw is refl

-- the first byte of a number is no sign
first_byte : (n : ℕ) → n < 10 ^ 64
    → (0 < length (decimal n)) × (48 ≤ get_or (decimal n) 0 0) × (get_or (decimal n) 0 0 ≤ 57)
first_byte n few = first (decimal n) (decimal_is_IsNumeral_wide n few).0
  where
    first : (ds : List ℕ) → IsNumeral 10 ds
        → (0 < length ds) × (48 ≤ get_or ds 0 0) × (get_or ds 0 0 ≤ 57)
    first [] numeral = absurd (omega (arith, numeral.0))
    first (d ∷ ds) numeral = grind (arith, nat_tests, numeral)

-- after its first byte
rest_written : (rule : Rule) (text : List ℕ) (start byte : ℕ) (ds : List ℕ)
    → IsWrittenAt rule text start (byte ∷ ds) → IsWrittenAt rule text (start + 1) ds
rest_written rule text start byte ds at =
    let l = within rule text start (byte ∷ ds) at (omega arith) in
    let next : start + 1 + length ds ≡ start + suc (length ds) = omega arith in
    let span : start + suc (length ds) - start ≡ suc (length ds) = omega arith in
    let rest : start + suc (length ds) - (start + 1) ≡ length ds = omega arith in
    let all : take (suc (length ds)) (drop start text) ≡ byte ∷ ds = rw span at at.same in
    let tail : take (length ds) (drop (start + 1) text) ≡ ds =
    ap (drop 1) (rw (drop_more text start 0 (omega (arith, l))) at all) in
    record {
      same = rw (next, rest) tail;
      ends = rw next at.ends;
    }

module _ (rule : Rule) (text : List ℕ) (start least most n : ℕ) (ten : rule.radix ≡ 10)
    (few : n < 10 ^ 64) where
  plain_read : IsWrittenAt rule text start (decimal n) → n ≤ most
      → number_at least most rule text start ≡ Ok (pos n, start + length (decimal n))
  plain_read at fits =
      let first = first_byte n few in
      let byte : get_or text start 0 ≡ get_or (decimal n) 0 0 =
      first_at rule text start (decimal n) at first.0 in
      let l = within rule text start (decimal n) at first.0 in
      grind (arith, nat_tests, gets, first, byte, l, integer_read rule text start n ten few at most)

  minus_read : 0 < least → IsWrittenAt rule text start (45 ∷ decimal n) → n ≤ least
      → number_at least most rule text start ≡ Ok (signed true n, start + suc (length (decimal n)))
  minus_read some at fits =
      let byte : get_or text start 0 ≡ 45 =
      first_at rule text start (45 ∷ decimal n) at (omega arith) in
      let l = within rule text start (45 ∷ decimal n) at (omega arith) in
      let rest = rest_written rule text start 45 (decimal n) at in
      let next : start + 1 + length (decimal n) ≡ start + suc (length (decimal n)) = omega arith in
      let read = integer_read rule text (start + 1) n ten few rest least in
      grind (arith, nat_tests, gets, byte, l, next, read)

  pub number_read : (negative : Bool) → n ≤ (if negative then least else most)
      → (negative ≡ true → 0 < least)
      → IsWrittenAt rule text start (sign_text negative ++ decimal n)
      → number_at least most rule text start
      ≡ Ok (signed negative n, start + length (sign_text negative ++ decimal n))
  number_read true fits some at = minus_read (some refl) at fits
  number_read false fits some at = plain_read at fits

-- the numbers of a type with a sign
few_of : (w : Width) → 2 ^ hbits w < 10 ^ 64
few_of w8 = omega arith
few_of w16 = omega arith
few_of w32 = omega arith
few_of w64 = omega arith
few_of w128 = omega arith

pub signed_read : (rule : Rule) (text : List ℕ) (start : ℕ) (w : Width) (z : ℤ) → rule.radix ≡ 10
    → FitsSigned w z → IsWrittenAt rule text start (signed_decimal z)
    → number_at (2 ^ hbits w) (2 ^ hbits w - 1) rule text start
    ≡ Ok (z, start + length (signed_decimal z))
signed_read rule text start w (pos n) ten fits at =
    plain_read rule text start (2 ^ hbits w) (2 ^ hbits w - 1) n ten
    (omega (arith, fits.sfits, few_of w)) at (omega (arith, fits.sfits))
signed_read rule text start w (negsuc n) ten fits at =
    minus_read rule text start (2 ^ hbits w) (2 ^ hbits w - 1) (suc n) ten
    (omega (arith, fits.sfits, few_of w)) (omega (arith, fits.sfits)) at (omega (arith, fits.sfits))

-- ---- what is written

pub whole_written : (rule : Rule) (text : List ℕ) → IsWrittenAt rule text 0 text
whole_written rule text =
    let end : 0 + length text ≡ length text = omega arith in
    let span : length text - 0 ≡ length text = omega arith in
    record {
      same = rw (end, span) (take_all (length text) text (omega arith));
      ends = rw (end, slice_get_past text (length text) (omega arith)) refl;
    }

get_past : (xs ys : List ℕ) (i : ℕ) → slice_get (xs ++ ys) (length xs + i) ≡ slice_get ys i
get_past xs ys i =
    grind (arith, gets, get_or-append-add xs ys i 0, length-append {A = ℕ} xs ys)

pub first_written : (rule : Rule) (ds after : List ℕ) → Ends rule after 0
    → IsWrittenAt rule (ds ++ after) 0 ds
first_written rule ds after ends =
    let end : 0 + length ds ≡ length ds = omega arith in
    let span : length ds - 0 ≡ length ds = omega arith in
    let none : length ds + 0 ≡ length ds = omega arith in
    let there : slice_get (ds ++ after) (length ds) ≡ slice_get after 0 =
    rw none at (get_past ds after 0) in
    record {
      same = rw (end, span) (take-append_seam ds after);
      ends = rw (end, there) ends;
    }

pub later_written : (rule : Rule) (before text ds : List ℕ) (start : ℕ)
    → IsWrittenAt rule text start ds → IsWrittenAt rule (before ++ text) (length before + start) ds
later_written rule before text ds start at =
    let end : length before + start + length ds ≡ length before + (start + length ds) =
    omega arith in
    let span : length before + (start + length ds) - (length before + start)
    ≡ start + length ds - start = omega arith in
    record {
      same = rw (end, span, drop-append-add before text start) at.same;
      ends = rw (end, get_past before text (start + length ds)) at.ends;
    }

-- what `written_numbers_are_read` promises
pub ruleset written = (
  digits_read,
  integer_read,
  number_read,
  signed_read,
  whole_written,
  first_written,
  later_written,
)
