-- The outcome of an integer in a text, case by case; `says` stays, for those who call.
use Rattle.std.proofs.Common.{◌≡◌, ℕ, zero, suc, ◌+◌, ◌-◌, ◌<◌, ◌≤◌, Bool, true, false, List, [], ◌∷◌, length, take, drop, find, unwrap_or, arith, add-one, filter}
use Rattle.std.specs.Prelude.{Some, Ok, Err, nat_lt, ◌==◌}
use Rattle.std.specs.List.{range_with_len}
use Rattle.std.specs.Str.Parse.{digits_value, digits_value_after}
use Rattle.std.proofs.lemmas.Bool.Decides.{nat_tests}
use Rattle.std.proofs.lemmas.List.{nil_from_length}
use Rattle.lexical_digits.specs.declared.skip.rule.Rule.{Rule}
use Rattle.lexical_digits.specs.Laws.Terms.{is_digit, stop}
use Rattle.lexical_digits.proofs.Rule.Supported.{supported_rule}
use Rattle.digit_values.specs.declared.LiteralError.TheVariants.{Empty, Overflow}
use Rattle.digit_values.specs.declared.slice.ReadTo.{ReadTo}
use Rattle.digit_values.specs.After.{digits_between, ExceedsAt}
use Rattle.digit_integers.specs.Answered.{ReadsInteger}
use Rattle.digit_integers.specs.Integers.{value_to, first_over, integer_at, IsIntegerFrom, HasNoDigitFrom}
use Rattle.digit_values.specs.Reads.{ReadsTo, integer_of}
use Rattle.digit_values.proofs.ForCallers.{stop_within, stops}
use Rattle.digit_values.proofs.Between.{none_between}
use Rattle.digit_values.proofs.Significant.{value_grows}
use Rattle.digit_values.proofs.UpToStop.{some_before_stop}

-- the digits of more bytes are worth no less
rises : (radix : ℕ) (p : ℕ → Bool) (m n : ℕ) (ys : List ℕ) (v : ℕ) → 1 ≤ radix → m ≤ n
    → digits_value_after radix v (filter p (take m ys))
    ≤ digits_value_after radix v (filter p (take n ys))
rises radix p zero n ys v one l = value_grows radix 0 (filter p (take n ys)) v one
rises radix p (suc m) zero ys v one l = absurd (omega arith)
rises radix p (suc m) (suc n) [] v one l = omega arith
rises radix p (suc m) (suc n) (y ∷ ys) v one l = grind (arith, rises radix p m n ys)

-- the first number from a on of which p holds, up to b
record First (p : ℕ → Bool) (a b r : ℕ) : Type 0 where
  onward : a ≤ r
  upto : r ≤ b
  holds : p r ≡ true
  before : (q : ℕ) → a ≤ q → q < r → p q ≡ false

first : (p : ℕ → Bool) (n a b end : ℕ) → a ≤ b → b < a + n → p b ≡ true
    → First p a b (unwrap_or (find p (range_with_len a n)) end)
first p zero a b end low high is = absurd (omega arith)
first p (suc n) a b end low high is = grind (arith, first p n (a + 1) b end)

module _ (rule : Rule) (text : List ℕ) (start most : ℕ) (low : 2 ≤ rule.radix) where
  abbrev end : ℕ
  end = stop rule text start 0

  abbrev over : ℕ → Bool
  over q = nat_lt most (value_to rule text start (q + 1))

  value_rises : (a b : ℕ) → a ≤ b → value_to rule text start a ≤ value_to rule text start b
  value_rises a b l =
      rises rule.radix (is_digit rule) (a - start) (b - start) (drop start text) 0
      (omega (arith, low))
      (omega (arith, l))

  -- it is above `most` with all digits as well
  pub over_all : (at : ℕ) → ExceedsAt rule text start 0 0 most at
      → most < value_to rule text start end
  over_all at h = omega (arith, h.passes, value_rises (at + 1) end (omega (arith, h.before_stop)))

  -- before the first it is at most `most`
  fits_before : (at : ℕ) → ((q : ℕ) → start ≤ q → q < at → over q ≡ false)
      → value_to rule text start at ≤ most
  fits_before zero before = grind arith
  fits_before (suc q) before =
      grind (
        arith,
        nat_tests,
        add-one,
        before q,
        none_between rule text start,
        value_rises (suc q) start,
      )

  module _ (within : start ≤ length text) where
    first_is : (b : ℕ) → start ≤ b → b < length text → over b ≡ true
        → First over start b (first_over rule text start most)
    first_is b from upto is = first over (length text - start) start b (length text) from
        (omega (arith, from, upto)) is

    -- one with which it is above `most`, the first
    pub over_at : (at : ℕ) → ExceedsAt rule text start 0 0 most at
        → integer_at rule text start most ≡ Err (Overflow at)
    unfolding integer_at
    over_at at h =
        let some = some_before_stop rule text start most at h in
        let high = stop_within rule text start 0 within in
        let found = first_is at h.onward (omega (arith, h.before_stop, high))
        (grind (arith, nat_tests, h.passes)) in
        let r = first_over rule text start most in
        let same : r ≡ at = grind (arith, nat_tests, found, h.fits, value_rises (r + 1) at) in
        grind (arith, nat_tests, same, some, over_all at h)

    pub says_over : (at : ℕ) → integer_at rule text start most ≡ Err (Overflow at)
        → ExceedsAt rule text start 0 0 most at
    unfolding integer_at
    says_over at h =
        let ds : List ℕ = digits_between rule text start end in
        let some : 0 < length ds = grind (arith, nat_tests, h) in
        let large : most < value_to rule text start end = grind (arith, nat_tests, h) in
        let is : at ≡ first_over rule text start most = grind (arith, nat_tests, h) in
        let high = stop_within rule text start 0 within in
        let past : start < end = grind (arith, some) in
        let last : end - 1 + 1 ≡ end = omega (arith, past) in
        let found = first_is (end - 1) (omega (arith, past)) (omega (arith, past, high))
        (grind (arith, nat_tests, large, last)) in
        record {
          onward = omega (arith, is, found.onward);
          before_stop = omega (arith, is, found.upto, past);
          fits = fits_before at (λ q a b. found.before q a (omega (arith, is, b)));
          passes = grind (arith, nat_tests, is, found.holds);
        }

module _ (rule : Rule) (text : List ℕ) (start most : ℕ) where
  -- digits up to the stop, whose value is at most `most`
  pub some_at : 0 < length (digits_between rule text start (stop rule text start 0))
      → value_to rule text start (stop rule text start 0) ≤ most
      → integer_at rule text start most
      ≡ Ok (value_to rule text start (stop rule text start 0), stop rule text start 0)
  unfolding integer_at
  some_at some fits = grind (arith, nat_tests)

  pub says_some : (value end : ℕ) → integer_at rule text start most ≡ Ok (value, end)
      → IsIntegerFrom rule text start most value end
  unfolding integer_at
  says_some value end is = grind (arith, nat_tests, is)

  -- none
  pub none_at : length (digits_between rule text start (stop rule text start 0)) ≡ 0
      → integer_at rule text start most ≡ Err (Empty (stop rule text start 0))
  unfolding integer_at
  none_at none = grind (arith, nat_tests)

  pub says_none : (at : ℕ) → integer_at rule text start most ≡ Err (Empty at)
      → HasNoDigitFrom rule text start at
  unfolding integer_at
  says_none at is =
      grind (arith, nat_tests, is, nil_from_length (digits_between rule text start at))

-- what an answer says, for those who call; to be named in an attribute
pub ruleset says = (says_some, says_none)

-- what a reader answers of digits that it read up to a greatest value
module _ (rule : Rule) (text : List ℕ) (start given most : ℕ) (low : 2 ≤ rule.radix)
    (within : start ≤ length text) (fits : given ≤ most) where
  pub integer_is : (read : ReadTo) (is_empty : Bool)
      → ReadsTo rule text start 0 (Some given) read 0 → is_empty ≡ (read.count == 0)
      → (read.is_too_large ≡ true → given ≡ most)
      → integer_of read is_empty ≡ integer_at rule text start most
  integer_is read is_empty reads empty same =
      let over = over_at rule text start most low within read.end in
      let some = some_at rule text start most in
      let none = none_at rule text start most in
      grind (
        arith,
        nat_tests,
        over,
        some,
        none,
        reads.stops,
        reads.exceeds,
        reads.digits,
        reads.worth,
        empty,
        fits,
        same,
      )

  pub reads_integer : (read : ReadTo) (is_empty : Bool)
      → ReadsTo rule text start 0 (Some given) read 0 → is_empty ≡ (read.count == 0)
      → (read.is_too_large ≡ true → given ≡ most)
      → ReadsInteger rule text start most (integer_of read is_empty)
  reads_integer read is_empty reads empty same =
      let is = integer_is read is_empty reads empty same in
      let end = stop_within rule text start 0 within in
      let none = none_between rule text start in
      grind (
        arith,
        nat_tests,
        is,
        end,
        none,
        reads.onward,
        reads.within,
        reads.exceeds,
        reads.digits,
        reads.worth,
        empty,
        fits,
        same,
      )

-- the digits up to the stop, where one of them is too large for a smaller value
pub wide_at : (given rule : Rule) (text : List ℕ) (start least at most value end : ℕ)
    → given ≡ rule → ExceedsAt rule text start 0 0 least at → end ≡ stop rule text start 0
    → value ≡ digits_value given.radix (digits_between given text start end) → value ≤ most
    → integer_at rule text start most ≡ Ok (value, end)
wide_at given rule text start least at most value end same large ends is fits =
    let some = some_before_stop rule text start least at large in
    grind (arith, same, ends, is, fits, some_at rule text start most some)

-- ---- up to a greater number

-- the first of some numbers is none before them
not_before : (p : ℕ → Bool) (n a b end : ℕ) → b ≤ a → b ≤ end
    → b ≤ unwrap_or (find p (range_with_len a n)) end
not_before p zero a b end low high = high
not_before p (suc n) a b end low high = grind (arith, not_before p n (a + 1) b end)

-- the first of which less is asked is no later
sooner : (p q : ℕ → Bool) (n a end : ℕ) → ((b : ℕ) → q b ≡ true → p b ≡ true)
    → (0 < n → a + n ≤ end)
    → unwrap_or (find p (range_with_len a n)) end ≤ unwrap_or (find q (range_with_len a n)) end
sooner p q zero a end less within = omega arith
sooner p q (suc n) a end less within = grind (
  arith,
  less a,
  sooner p q n (a + 1) end less (λ _. omega (arith, within)),
  not_before q n (a + 1) a end,
  within,
)

module _ (rule : Rule) (text : List ℕ) (start most more : ℕ) where
  pub reads_more : (value end : ℕ) → most ≤ more → integer_at rule text start most ≡ Ok (value, end)
      → integer_at rule text start more ≡ Ok (value, end)
  unfolding integer_at
  reads_more value end l is = grind (arith, nat_tests, l, is)

  pub empty_too : (at : ℕ) → integer_at rule text start most ≡ Err (Empty at)
      → integer_at rule text start more ≡ Err (Empty at)
  unfolding integer_at
  empty_too at is = grind (arith, nat_tests, is)

  pub over_later : (over beyond : ℕ) → most ≤ more
      → integer_at rule text start most ≡ Err (Overflow over)
      → integer_at rule text start more ≡ Err (Overflow beyond) → over ≤ beyond
  unfolding integer_at
  over_later over beyond l is large =
      let first = sooner (λ at. nat_lt most (value_to rule text start (at + 1)))
      (λ at. nat_lt more (value_to rule text start (at + 1))) (length text - start) start
      (length text) (λ at h. grind (arith, nat_tests, l, h)) (λ some. omega (arith, some)) in
      grind (arith, nat_tests, is, large, first)

-- to be named in an attribute
pub ruleset outcomes = (some_at, none_at, over_at, stops, some_before_stop, supported_rule)
