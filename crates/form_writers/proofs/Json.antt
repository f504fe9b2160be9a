-- JSON has each finite float.
use Rattle.std.proofs.Common.{◌≡◌, ℕ, ℤ, zero, suc, ◌+◌, ◌-◌, ◌*◌, ◌/◌, ◌%◌, ◌^◌, ◌<◌, ◌≤◌, Bool, true, false, List, [], ◌∷◌, ◌++◌, length, refl, sym, ap, subst, ◌∙◌, arith, append_assoc, append-nil, length-append, unsigned_abs}
use Rattle.std.specs.Prelude.{Result, Ok, Err, pos, negsuc, IsTrue, decimal, if◌then◌else◌}
use Rattle.std.specs.Float.{Float, Format, float_is_finite, is_sign_negative}
use Rattle.std.specs.Fmt.{sign_text, signed_decimal}
use Rattle.std.specs.Str.Parse.{AllDigits}
use Rattle.std.proofs.lemmas.Bool.Decides.{nat_tests}
use Rattle.std.proofs.lemmas.Fmt.{decimal_is_IsNumeral_wide}
use native.Mathlib.Nat.{le-div_iff_mul-le, div-lt_iff_lt-mul, mod-eq_of_lt}
use Rattle.lexical_format.specs.declared.TheConstants.{STANDARD}
use Rattle.digit_floats.specs.Bytes.{stands}
use Rattle.digit_floats.specs.Float.{plain_marks, parse_at}
use Rattle.digit_floats.specs.declared.error.FloatError.{FloatError}
use Rattle.digit_numbers.specs.Json.{is_digit1_9, IsJsonNumber, IsJsonInteger}
use Rattle.digit_numbers.specs.Numbers.{Outcome, number_of_at, to_end}
use Rattle.digit_numbers.specs.declared.forms.TheConstants.{JSON}
use Rattle.digit_numbers.specs.declared.number.Number.{Number}
use Rattle.digit_numbers.specs.declared.number.Number.TheVariants as numbers
use Rattle.digit_numbers.specs.declared.number.NumberError.{NumberError}
use Rattle.digit_numbers.proofs.Json.{Says, says, SaysWhole, says_whole, whole_float}
use Rattle.decimal_writers.specs.Text.{number_text, last_digits, with_point, first_power, plain_text, exponent_text, zero_place, is_plain, usual_text}
use Rattle.decimal_writers.proofs.Bigs.{ten_more}
use Rattle.decimal_writers.proofs.Bytes.{standard}
use Rattle.decimal_writers.proofs.Numerals.{counted, last_more, length-last, ten_pos}
use Rattle.decimal_writers.proofs.Points.{with_some_point}
use Rattle.decimal_writers.proofs.Reading.{usual_reads}
use Rattle.decimal_writers.proofs.Values.{last_are}
use Rattle.float_writers.proofs.ReadBack.{near, first_small}
use Rattle.float_writers.proofs.Written.{back}
use Rattle.form_writers.specs.Numbers.{IsNumberOf, HasNone}
use Rattle.form_writers.proofs.JsonTexts.{IsNumeral, Zero, Other, NoFraction, Fraction, IsExponent, NoExponent, Exponent, is_json, is_stop, no_integer}
use Rattle.form_writers.proofs.Positions.{byte_there}

-- ---- the digits of a number begin with no 0 too many

first_is : (d : ℕ) → 1 ≤ d → d < 10 → is_digit1_9 (48 + d) ≡ true
first_is d some few = grind (arith, nat_tests, some, few)

numeral : (n count : ℕ) → number_text n ≡ last_digits (suc count) n → n < 10 ^ suc count
    → 10 ^ count ≤ n → IsNumeral (number_text n)
numeral n count same below least =
    let one : 1 ≤ n / 10 ^ count =
    (le-div_iff_mul-le (ten_pos count)).1 (omega (arith, least)) in
    let next : count + 1 ≡ suc count = omega arith in
    let few : n / 10 ^ count < 10 =
    (div-lt_iff_lt-mul (ten_pos count)).1
    (omega (arith, below, ten_more count, ap (λ (x : ℕ). 10 ^ x) next)) in
    let digit : n / 10 ^ count % 10 ≡ n / 10 ^ count = mod-eq_of_lt few in
    subst (λ (ds : List ℕ). IsNumeral ds) (sym (same ∙ last_more count n))
    (Other (48 + n / 10 ^ count % 10) (last_digits count n)
    (first_is (n / 10 ^ count % 10) (omega (arith, digit, one)) (omega (arith, digit, few)))
    (last_are count n))

zero_text : number_text 0 ≡ 48 ∷ []
unfolding number_text
zero_text = refl

number_numeral : (n : ℕ) → IsNumeral (number_text n)
number_numeral zero = subst (λ (ds : List ℕ). IsNumeral ds) (sym zero_text) Zero
number_numeral (suc m) = by (length (number_text (suc m))) refl
  where
    by : (count : ℕ) → length (number_text (suc m)) ≡ count → IsNumeral (number_text (suc m))
    by zero e = absurd (omega (arith, (counted (suc m)).some, e))
    by (suc zero) e =
        let is = counted (suc m) in
        numeral (suc m) 0 (is.same ∙ ap (λ (x : ℕ). last_digits x (suc m)) e)
        (subst (λ (x : ℕ). suc m < 10 ^ x) e is.below) (omega arith)
    by (suc (suc more)) e =
        let is = counted (suc m) in
        let back : length (number_text (suc m)) - 1 ≡ suc more = omega (arith, e) in
        numeral (suc m) (suc more) (is.same ∙ ap (λ (x : ℕ). last_digits x (suc m)) e)
        (subst (λ (x : ℕ). suc m < 10 ^ x) e is.below)
        (subst (λ (x : ℕ). 10 ^ x ≤ suc m) back (is.least (omega (arith, e))))

-- ---- the usual text

-- a text is a number of JSON, and no integer
abbrev IsJsonFloat : List ℕ → Type 0
IsJsonFloat text = IsJsonNumber text 0 (length text)
    × (IsJsonInteger text 0 (length text) → ⊥)

sign_few : (negative : Bool) (whole rest text : List ℕ)
    → text ≡ sign_text negative ++ (whole ++ rest)
    → length text ≡ length (sign_text negative) + length whole + length rest
sign_few negative whole rest text e =
    ap length e ∙ length-append (sign_text negative) (whole ++ rest)
    ∙ omega (arith, length-append whole rest)

-- where a point or a mark follows the integer
stopped : (negative : Bool) (whole rest text : List ℕ) (b : ℕ) → is_stop b ≡ true
    → IsNumeral whole → text ≡ sign_text negative ++ (whole ++ b ∷ rest)
    → IsJsonInteger text 0 (length text) → ⊥
stopped negative whole rest text b is numeral e =
    let same : text ≡ (sign_text negative ++ whole) ++ b ∷ rest =
    e ∙ sym (append_assoc (sign_text negative) whole (b ∷ rest)) in
    let place = length (sign_text negative ++ whole) in
    let long = length-append (sign_text negative) whole in
    no_integer text place (omega (arith, long, some whole numeral))
    (omega (arith, long, sign_few negative whole (b ∷ rest) text e))
    (ap (λ (t : List ℕ). stands is_stop t place) same
    ∙ byte_there is_stop (sign_text negative ++ whole) rest b is)
  where
    some : (ds : List ℕ) → IsNumeral ds → 0 < length ds
    some _ Zero = omega arith
    some _ (Other d ds is all) = omega arith

with_fraction : (negative : Bool) (n : ℕ) (ds exponent text : List ℕ) → AllDigits 10 ds
    → 0 < length ds → IsExponent exponent
    → text ≡ sign_text negative ++ (number_text n ++ ((46 ∷ ds) ++ exponent))
    → IsJsonFloat text
with_fraction negative n ds exponent text all some is e = (
  is_json negative (number_text n) (46 ∷ ds) exponent text (number_numeral n)
      (Fraction ds all some) is e,
  stopped negative (number_text n) (ds ++ exponent) text 46 refl (number_numeral n) e,
)

with_mark : (negative : Bool) (n : ℕ) (down : Bool) (ds text : List ℕ) → AllDigits 10 ds
    → 0 < length ds → text ≡ sign_text negative ++ (number_text n ++ 101 ∷ (sign_text down ++ ds))
    → IsJsonFloat text
with_mark negative n down ds text all some e = (
  is_json negative (number_text n) [] (101 ∷ (sign_text down ++ ds)) text (number_numeral n)
      NoFraction (Exponent down ds all some) e,
  stopped negative (number_text n) (sign_text down ++ ds) text 101 refl (number_numeral n) e,
)

pointed_json : (negative : Bool) (digits : ℕ) (power : ℤ)
    → IsJsonFloat (plain_text negative digits power ++ zero_place power)
pointed_json negative digits (pos n) =
    with_fraction negative (digits * 10 ^ n) (48 ∷ []) [] _ (omega arith, tt) (omega arith)
    NoExponent
    (append_assoc (sign_text negative) (number_text (digits * 10 ^ n)) (46 ∷ 48 ∷ []))
pointed_json negative digits (negsuc n) =
    let front = number_text (digits / 10 ^ (n + 1)) in
    with_fraction negative (digits / 10 ^ (n + 1)) (last_digits (n + 1) digits) [] _
    (last_are (n + 1) digits) (omega (arith, length-last (n + 1) digits)) NoExponent
    (append-nil (plain_text negative digits (negsuc n))
    ∙ ap (λ (t : List ℕ). sign_text negative ++ t) (with_some_point digits (n + 1) (omega arith))
    ∙ ap (λ (t : List ℕ). sign_text negative ++ (front ++ 46 ∷ t))
    (sym (append-nil (last_digits (n + 1) digits))))

marked_json : (negative : Bool) (digits places : ℕ) (down : Bool) (ds text : List ℕ)
    → AllDigits 10 ds → 0 < length ds
    → text ≡ sign_text negative ++ (with_point places digits ++ 101 ∷ (sign_text down ++ ds))
    → IsJsonFloat text
marked_json negative digits zero down ds text all some e =
    with_mark negative digits down ds text all some e
marked_json negative digits (suc more) down ds text all some e =
    with_fraction negative (digits / 10 ^ suc more) (last_digits (suc more) digits)
    (101 ∷ (sign_text down ++ ds)) text (last_are (suc more) digits)
    (omega (arith, length-last (suc more) digits)) (Exponent down ds all some)
    (e ∙ ap (λ (t : List ℕ). sign_text negative ++ t)
    (append_assoc (number_text (digits / 10 ^ suc more)) (46 ∷ last_digits (suc more) digits)
    (101 ∷ (sign_text down ++ ds))))

exponent_json : (negative : Bool) (digits places : ℕ) (z : ℤ) → unsigned_abs z < 10 ^ 64
    → IsJsonFloat (sign_text negative ++ (with_point places digits ++ 101 ∷ signed_decimal z))
exponent_json negative digits places (pos k) few =
    let is = decimal_is_IsNumeral_wide k few in
    marked_json negative digits places false (decimal k) _ is.0.1 is.0.0 refl
exponent_json negative digits places (negsuc k) few =
    let is = decimal_is_IsNumeral_wide (suc k) few in
    marked_json negative digits places true (decimal (suc k)) _ is.0.1 is.0.0 refl

usual_json : (negative : Bool) (digits : ℕ) (power : ℤ)
    → unsigned_abs (first_power digits power) < 10 ^ 64
    → IsJsonFloat (usual_text negative digits power)
usual_json negative digits power few = by (is_plain digits power)
  where
    by : (b : Bool) → IsJsonFloat (if b then plain_text negative digits power ++ zero_place power
        else exponent_text negative digits power)
    by true = pointed_json negative digits power
    by false =
        exponent_json negative digits (length (number_text digits) - 1) (first_power digits power)
        few

-- ---- as JSON reads it

ended : (text : List ℕ) (n : Number Float) (o : Outcome) → to_end text o ≡ Ok n
    → o ≡ Ok (n, length text)
ended text n (Ok (m, end)) h = grind (arith, nat_tests, h)
ended text n (Err error) h = cc

one : (read : Result Float FloatError) (y x : Float) → read ≡ Ok y → read ≡ Ok x → y ≡ x
one read y x first second = cc

module _ (f : Format) (x : Float) (text : List ℕ) (json : IsJsonFloat text)
    (read : parse_at STANDARD text plain_marks f 0 ≡ Ok x) where
  from : 0 ≤ length text
  from = omega arith

  is_number : IsNumberOf JSON f (numbers.Float x) text
  is_number = by (to_end text (number_of_at JSON text 0 f)) refl
    where
      by : (r : Result (Number Float) NumberError) → to_end text (number_of_at JSON text 0 f) ≡ r
          → IsNumberOf JSON f (numbers.Float x) text
      by (Ok (numbers.Float y)) e = record {
        read = numbers.Float y;
        is = e;
        same = one _ y x (whole_float text 0 from f y e) read;
      }
      by (Ok (numbers.Integer n m w)) e =
          let here = ended text (numbers.Integer n m w) (number_of_at JSON text 0 f) e in
          absurd (json.1 (subst (Says text 0 from f) here (says text 0 from f)).1)
      by (Err error) e =
          absurd (subst (SaysWhole text 0 from f) e (says_whole text 0 from f) json.0)

pub json_has : (f : Format) (x : Float) → IsTrue (float_is_finite x)
    → HasNone JSON f (numbers.Float x) → ⊥
json_has f x finite none =
    let no = none finite in
    let d = no.d in
    let small = first_small d.digits d.power no.few (near d.power no.least no.most) in
    no.usual
    (is_number f x (usual_text (is_sign_negative x) d.digits d.power)
    (usual_json (is_sign_negative x) d.digits d.power small)
    (usual_reads STANDARD standard f (is_sign_negative x) d.digits d.power small
    ∙ ap Ok (back f x d no.shortest.reads)))
