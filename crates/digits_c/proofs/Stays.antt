-- What is read before the sure end of a text stays, whatever follows it.
use Rattle.std.proofs.Common.{◌≡◌, ℕ, ℤ, suc, ◌-◌, ◌<◌, ◌≤◌, Bool, true, false, List, ◌++◌, length, length-append, refl, ap, arith}
use Rattle.std.specs.Prelude.{◌&&◌, ◌||◌, nat_lt, ◌^◌, if◌then◌else◌, slice_get, Option, Some, None, Result, Err}
use Rattle.std.specs.Float.{Format, binary64}
use Rattle.std.proofs.lemmas.Bool.{and_parts, or_from, or_parts}
use Rattle.std.proofs.lemmas.Bool.Decides.{nat_tests}
use Rattle.lexical_digits.specs.State.{rule_of}
use Rattle.lexical_digits.specs.declared.skip.component.Component.TheVariants.{Integer}
use Rattle.digit_languages.specs.Follows.{AreSameBefore}
use Rattle.digit_amounts.specs.Prices.{price_by}
use Rattle.digit_floats.specs.Bytes.{is_sign}
use Rattle.digit_floats.specs.Float.{IsDecimal}
use Rattle.digit_floats.specs.declared.parts.Marks.{Marks}
use Rattle.digit_numbers.specs.Follows.{is_number_byte}
use Rattle.digit_pieces.specs.Cuts.{is_float_byte, is_integer_byte, is_of_rule, is_scaled_byte, sure_end}
use Rattle.digit_pieces.specs.Laws.NoBytes.{fails_of, none_of_float, none_of_scaled}
use Rattle.digit_pieces.specs.Laws.OfForm.{number_follows}
use Rattle.digit_pieces.specs.Laws.OfKinds.{integer_follows, float_follows, scaled_follows}
use Rattle.digit_pieces.specs.Laws.OfPrices.{price_follows}
use Rattle.digit_pieces.proofs.SureEnds.{sure_same, sure_within}
use Rattle.digits.specs.Words.{Form, STANDARD, is_supported, number_at, number_of_at, plain_marks, read_at, read_scaled_at}
use Rattle.digits_c.specs.declared.outcome.Outcome.{Outcome}
use Rattle.digits_c.specs.declared.outcome.TheConstants.{BAD_PLACES}
use Rattle.digits_c.specs.Calls.{by_word, by_places, float_from, integer_from, is_decimal, or_fault, price_from, scaled_from, within}
use Rattle.digits_c.specs.Numbers.{in_parts, number_by}
use Rattle.digits_c.specs.Outcomes.{fault, float_fault, literal_fault, number_fault, price_fault, scaled_fault}
use Rattle.digits_c.specs.Pieces.{is_byte_by, sure_by, sure_of}

decimal_is : (word : ℕ) → is_decimal word ≡ true → IsDecimal word
decimal_is word h = grind (arith, nat_tests)

-- ---- a byte that no float has

no_integer : (least word : ℕ) (marks : Marks) (b : ℕ) → is_float_byte word marks b ≡ false
    → is_integer_byte least word b ≡ false
no_integer least word marks b h =
    let scaled = none_of_scaled word marks.point b (none_of_float word marks b h).scaled in
    by (nat_lt 0 least) scaled.whole scaled.sign
  where
    by : (is_signed : Bool) → is_of_rule (rule_of word Integer) b ≡ false → is_sign b ≡ false
        → (is_of_rule (rule_of word Integer) b || is_signed && is_sign b) ≡ false
    by true whole sign = rw (whole, sign) refl
    by false whole sign = rw whole refl

-- texts that are the same up to a byte that fails a test, which passes more
fewer : (p q : ℕ → Bool) → ((b : ℕ) → p b ≡ false → q b ≡ false) → (one other : List ℕ) (at : ℕ)
    → AreSameBefore p one other at → AreSameBefore q one other at
fewer p q less one other at same = record {
  same = same.same;
  one_within = same.one_within;
  other_within = same.other_within;
  one_ends = fails_of p q less (slice_get one at) same.one_ends;
  other_ends = fails_of p q less (slice_get other at) same.other_ends;
}

module _ (text more : List ℕ) (start : ℕ) where
  -- up to the sure end a text that goes on is the same
  record Same (p : ℕ → Bool) : Type 0 where
    at : ℕ
    same : AreSameBefore p (text ++ more) text at
    before : start ≤ at
    here : start ≤ length text

  same_of : (p : ℕ → Bool) → start < sure_end p text → Same p
  same_of p before =
      let last : ℕ = sure_end p text - 1 in
      let next : suc last ≡ sure_end p text = omega (arith, before) in
      record {
        at = last;
        same = sure_same p text more last next;
        before = omega (arith, before);
        here = omega (arith, before, sure_within p text);
      }

  -- a start in the text
  within_same : {T : Type 0} (one other : Result T Outcome) → start ≤ length text → one ≡ other
      → within (text ++ more) start one ≡ within text start other
  within_same one other here same =
      let first : nat_lt (length text) start ≡ false = grind (arith) in
      let second : nat_lt (length (text ++ more)) start ≡ false =
      grind (arith, length-append text more) in
      rw (first, second) same

  -- a word that may not serve
  served : {T : Type 0} (serves : Bool) (one other : Result T Outcome)
      → (serves ≡ true → one ≡ other) → by_word serves start one ≡ by_word serves start other
  served true one other same = same refl
  served false one other same = refl

  -- a byte that passes none of a test passes none of a kind
  module _ (word : ℕ) (p : ℕ → Bool) (before : start < sure_end p text) where
    s : Same p
    s = same_of p before

    upto : (q : ℕ → Bool) → ((b : ℕ) → p b ≡ false → q b ≡ false)
        → AreSameBefore q (text ++ more) text s.at
    upto q less = fewer p q less (text ++ more) text s.at s.same

    integer_after : (least most : ℕ)
        → ((b : ℕ) → p b ≡ false → is_integer_byte least word b ≡ false)
        → integer_from least most word (text ++ more) start
        ≡ integer_from least most word text start
    integer_after least most less =
        let r = rule_of word Integer in
        let follows =
        integer_follows least most word (text ++ more) text s.at start
        (upto (is_integer_byte least word) less) s.before in
        ap (by_word (is_supported word) start)
        (within_same (or_fault literal_fault (number_at least most r (text ++ more) start))
        (or_fault literal_fault (number_at least most r text start)) s.here
        (ap (or_fault literal_fault) follows))

    float_after : (f : Format) → (is_decimal word ≡ true
        → (b : ℕ) → p b ≡ false → is_float_byte word plain_marks b ≡ false)
        → float_from f word (text ++ more) start ≡ float_from f word text start
    unfolding float_from
    float_after f less =
        let first = or_fault float_fault (read_at word (text ++ more) plain_marks f start) in
        let second = or_fault float_fault (read_at word text plain_marks f start) in
        served (is_supported word && is_decimal word) (within (text ++ more) start first)
        (within text start second) (λ serves.
        within_same first second s.here (ap (or_fault float_fault)
        (float_follows word plain_marks f (text ++ more) text s.at start
        (upto (is_float_byte word plain_marks) (less (and_parts _ _ serves).1)) s.before)))

    -- what is read by a decimal word with so many places
    amount_after : (least most places : ℕ) (first second : Result (ℤ × ℕ) Outcome)
        → (is_decimal word ≡ true → first ≡ second)
        → by_word (is_supported word && is_decimal word) start
        (by_places least most word (text ++ more) 46 places start
        (within (text ++ more) start first))
        ≡ by_word (is_supported word && is_decimal word) start
        (by_places least most word text 46 places start (within text start second))
    amount_after least most places first second same =
        served (is_supported word && is_decimal word)
        (by_places least most word (text ++ more) 46 places start
        (within (text ++ more) start first))
        (by_places least most word text 46 places start (within text start second)) (λ serves.
        ap (λ r. if nat_lt 38 places then Err (fault BAD_PLACES start) else r)
        (within_same first second s.here (same (and_parts _ _ serves).1)))

    scaled_after : (least most places : ℕ) → (is_decimal word ≡ true
        → (b : ℕ) → p b ≡ false → is_scaled_byte word 46 b ≡ false)
        → scaled_from least most word (text ++ more) 46 places start
        ≡ scaled_from least most word text 46 places start
    scaled_after least most places less =
        amount_after least most places
        (or_fault scaled_fault (read_scaled_at word (text ++ more) 46 places least most start))
        (or_fault scaled_fault (read_scaled_at word text 46 places least most start)) (λ decimal.
        ap (or_fault scaled_fault)
        (scaled_follows word 46 places least most (decimal_is word decimal) (text ++ more) text
        s.at start (upto (is_scaled_byte word 46) (less decimal)) s.before))

    price_after : (is_grouped : Bool) (least most places : ℕ) → (is_decimal word ≡ true
        → (b : ℕ) → p b ≡ false → is_scaled_byte word 46 b ≡ false)
        → price_from is_grouped least most word (text ++ more) 46 places start
        ≡ price_from is_grouped least most word text 46 places start
    price_after is_grouped least most places less =
        amount_after least most places
        (or_fault price_fault
        (price_by true is_grouped word (text ++ more) 46 places least most start))
        (or_fault price_fault (price_by true is_grouped word text 46 places least most start))
        (λ decimal. ap (or_fault price_fault)
        (price_follows true is_grouped word 46 places least most (decimal_is word decimal)
        (text ++ more) text s.at start (upto (is_scaled_byte word 46) (less decimal)) s.before))

  -- ---- without a word

  module _ (before : start < sure_end (is_float_byte STANDARD plain_marks) text) where
    pub integer_stays : (least most : ℕ) → integer_from least most STANDARD (text ++ more) start
        ≡ integer_from least most STANDARD text start
    integer_stays least most =
        integer_after STANDARD (is_float_byte STANDARD plain_marks) before least most
        (no_integer least STANDARD plain_marks)

    pub float_stays : (f : Format) → float_from f STANDARD (text ++ more) start
        ≡ float_from f STANDARD text start
    float_stays f =
        float_after STANDARD (is_float_byte STANDARD plain_marks) before f (λ decimal b none. none)

    pub scaled_stays : (least most places : ℕ)
        → scaled_from least most STANDARD (text ++ more) 46 places start
        ≡ scaled_from least most STANDARD text 46 places start
    scaled_stays least most places =
        scaled_after STANDARD (is_float_byte STANDARD plain_marks) before least most places
        (λ decimal b none. (none_of_float STANDARD plain_marks b none).scaled)

  -- ---- by a word

  module _ (word : ℕ) where
    -- the text has an end, so the word is supported
    sure_is : start < sure_by text word → start < sure_end (is_byte_by word) text
    sure_is = by (is_supported word)
      where
        by : (serves : Bool) → start < (if serves then sure_end (is_byte_by word) text else 0)
            → start < sure_end (is_byte_by word) text
        by true before = before
        by false before = absurd (omega arith)

    no_float : is_decimal word ≡ true → (b : ℕ) → is_byte_by word b ≡ false
        → is_float_byte word plain_marks b ≡ false
    no_float decimal b none = rw decimal at none

    no_number : (least b : ℕ) → is_byte_by word b ≡ false → is_integer_byte least word b ≡ false
    no_number least b = by (is_decimal word)
      where
        by : (decimal : Bool)
            → (if decimal then is_float_byte word plain_marks b
            else is_integer_byte (2 ^ 63) word b) ≡ false
            → is_integer_byte least word b ≡ false
        by true none = no_integer least word plain_marks b none
        by false none =
            let two = or_parts _ _ none in
            or_from _ _ two.0 (no_sign (nat_lt 0 least) two.1)
          where
            no_sign : (is_signed : Bool) → is_sign b ≡ false → (is_signed && is_sign b) ≡ false
            no_sign true none = none
            no_sign false none = refl

    module _ (before : start < sure_by text word) where
      pub integer_stays_by : (least most : ℕ) → integer_from least most word (text ++ more) start
          ≡ integer_from least most word text start
      integer_stays_by least most =
          integer_after word (is_byte_by word) (sure_is before) least most (no_number least)

      pub float_stays_by : (f : Format) → float_from f word (text ++ more) start
          ≡ float_from f word text start
      float_stays_by f = float_after word (is_byte_by word) (sure_is before) f no_float

      pub scaled_stays_by : (least most places : ℕ)
          → scaled_from least most word (text ++ more) 46 places start
          ≡ scaled_from least most word text 46 places start
      scaled_stays_by least most places =
          scaled_after word (is_byte_by word) (sure_is before) least most places
          (λ decimal b none. (none_of_float word plain_marks b (no_float decimal b none)).scaled)

      pub price_stays_by : (is_grouped : Bool) (least most places : ℕ)
          → price_from is_grouped least most word (text ++ more) 46 places start
          ≡ price_from is_grouped least most word text 46 places start
      price_stays_by is_grouped least most places =
          price_after word (is_byte_by word) (sure_is before) is_grouped least most places
          (λ decimal b none. (none_of_float word plain_marks b (no_float decimal b none)).scaled)

  -- ---- by a form

  pub number_stays : (form : Option Form) → start < sure_of text form
      → number_by (text ++ more) start form ≡ number_by text start form
  number_stays None before = absurd (omega arith)
  number_stays (Some form) before =
      let s = same_of (is_number_byte form) before in
      within_same
      (or_fault number_fault (in_parts (number_of_at form (text ++ more) start binary64)))
      (or_fault number_fault (in_parts (number_of_at form text start binary64))) s.here
      (ap (λ read. or_fault number_fault (in_parts read))
      (number_follows form (text ++ more) text s.at start binary64 s.same s.before))

-- to be named in an attribute
pub ruleset stays = (integer_stays, float_stays, scaled_stays)

pub ruleset stays_by = (integer_stays_by, float_stays_by, scaled_stays_by, price_stays_by)
