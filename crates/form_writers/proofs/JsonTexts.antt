-- A text of these parts is a number of JSON: a sign, an integer, a fraction and an exponent.
use Rattle.std.proofs.Common.{◌≡◌, ◌⊎◌, ℕ, ◌+◌, ◌-◌, ◌<◌, ◌≤◌, Bool, true, false, List, [], ◌∷◌, ◌++◌, length, refl, sym, ap, subst, ◌∙◌, inl, inr, arith, append_assoc, append-nil, length-append}
use Rattle.std.specs.Prelude.{Option, Some, None, slice_get, ◌==◌, ◌||◌}
use Rattle.std.specs.Char.{is_ascii_digit}
use Rattle.std.specs.Fmt.{sign_text}
use Rattle.std.specs.Str.Parse.{AllDigits}
use Rattle.std.proofs.lemmas.Bool.{cases_lt}
use Rattle.std.proofs.lemmas.Bool.Decides.{nat_tests}
use Rattle.lexical_digits.specs.Cursor.{holds_of}
use Rattle.digit_floats.specs.Bytes.{stands, is_point, is_minus, is_sign}
use Rattle.digit_numbers.specs.Json.{is_digit1_9, is_e, is_zero, Has, IsOptional, IsDigits, IsInt, IsFrac, IsExp, IsJsonNumber, IsJsonInteger}
use Rattle.form_writers.proofs.Positions.{byte_there, digits_there}

-- ---- a byte, and digits, after some bytes

has_in : (p : ℕ → Bool) (text before after : List ℕ) (b i : ℕ) → text ≡ before ++ b ∷ after
    → i ≡ length before → p b ≡ true → Has text p i
has_in p text before after b i e there is =
    (λ j. stands p (e j) (there j)) ∙ byte_there p before after b is

digits_in : (text before ds after : List ℕ) (i j : ℕ) → text ≡ before ++ (ds ++ after)
    → i ≡ length before → j ≡ length before + length ds → AllDigits 10 ds → IsDigits text i j
digits_in text before ds after i j e there ends all =
    subst (λ (t : List ℕ). IsDigits t i j) (sym e)
    (subst (λ (k : ℕ). IsDigits (before ++ (ds ++ after)) k j) (sym there)
    (subst (λ (k : ℕ). IsDigits (before ++ (ds ++ after)) (length before) k) (sym ends)
    (digits_there before ds after all)))

-- with one byte more before them
one_more : (before rest : List ℕ) (b : ℕ) → before ++ b ∷ rest ≡ (before ++ b ∷ []) ++ rest
one_more before rest b = sym (append_assoc before (b ∷ []) rest)

one_longer : (before : List ℕ) (b : ℕ) → length (before ++ b ∷ []) ≡ length before + 1
one_longer before b = length-append before (b ∷ [])

-- ---- the parts

-- digits of an integer, of which the first is 0 only by itself
pub data IsNumeral : List ℕ → Type 0 where
  Zero : IsNumeral (48 ∷ [])
  Other : (d : ℕ) (ds : List ℕ) → is_digit1_9 d ≡ true → AllDigits 10 ds → IsNumeral (d ∷ ds)

pub data IsFraction : List ℕ → Type 0 where
  NoFraction : IsFraction []
  Fraction : (ds : List ℕ) → AllDigits 10 ds → 0 < length ds → IsFraction (46 ∷ ds)

pub data IsExponent : List ℕ → Type 0 where
  NoExponent : IsExponent []
  Exponent : (down : Bool) (ds : List ℕ) → AllDigits 10 ds → 0 < length ds
      → IsExponent (101 ∷ (sign_text down ++ ds))

minus_in : (negative : Bool) (rest text : List ℕ) → text ≡ sign_text negative ++ rest
    → IsOptional text is_minus 0 (length (sign_text negative))
minus_in true rest text e = inr (has_in is_minus text [] rest 45 0 e refl refl, refl)
minus_in false rest text e = inl refl

int_in : (text before whole after : List ℕ) (i j : ℕ) → text ≡ before ++ (whole ++ after)
    → i ≡ length before → j ≡ length before + length whole → IsNumeral whole → IsInt text i j
int_in text before _ after i j e there ends Zero =
    inl (has_in is_zero text before after 48 i e there refl, omega (arith, there, ends))
int_in text before _ after i j e there ends (Other d ds is all) =
    let next : i + 1 ≡ length (before ++ d ∷ []) = omega (arith, there, one_longer before d) in
    let last : j ≡ length (before ++ d ∷ []) + length ds =
    omega (arith, ends, one_longer before d) in
    inr (
      has_in is_digit1_9 text before (ds ++ after) d i e there is,
      digits_in text (before ++ d ∷ []) ds after (i + 1) j
          (e ∙ one_more before (ds ++ after) d) next last all,
    )

frac_in : (text before part after : List ℕ) (i j : ℕ) → text ≡ before ++ (part ++ after)
    → i ≡ length before → j ≡ length before + length part → IsFraction part
    → (j ≡ i) ⊎ IsFrac text i j
frac_in text before _ after i j e there ends NoFraction = inl (omega (arith, there, ends))
frac_in text before _ after i j e there ends (Fraction ds all some) =
    let next : i + 1 ≡ length (before ++ 46 ∷ []) = omega (arith, there, one_longer before 46) in
    let last : j ≡ length (before ++ 46 ∷ []) + length ds =
    omega (arith, ends, one_longer before 46) in
    inr (record {
      point = has_in (is_point 46) text before (ds ++ after) 46 i e there refl;
      digits = digits_in text (before ++ 46 ∷ []) ds after (i + 1) j
          (e ∙ one_more before (ds ++ after) 46) next last all;
      some = omega (arith, there, ends, some);
    })

sign_in : (text before : List ℕ) (down : Bool) (rest : List ℕ) (i : ℕ)
    → text ≡ before ++ (sign_text down ++ rest) → i ≡ length before
    → IsOptional text is_sign i (i + length (sign_text down))
sign_in text before true rest i e there =
    inr (has_in is_sign text before rest 45 i e there refl, refl)
sign_in text before false rest i e there = inl (omega arith)

exp_in : (text before part : List ℕ) (i j : ℕ) → text ≡ before ++ part → i ≡ length before
    → j ≡ length before + length part → IsExponent part → (j ≡ i) ⊎ IsExp text i j
exp_in text before _ i j e there ends NoExponent = inl (omega (arith, there, ends))
exp_in text before _ i j e there ends (Exponent down ds all some) =
    let marked : text ≡ (before ++ 101 ∷ []) ++ (sign_text down ++ ds) =
    e ∙ one_more before (sign_text down ++ ds) 101 in
    let next : i + 1 ≡ length (before ++ 101 ∷ []) = omega (arith, there, one_longer before 101) in
    let signed : text ≡ ((before ++ 101 ∷ []) ++ sign_text down) ++ (ds ++ []) =
    marked ∙ sym (append_assoc (before ++ 101 ∷ []) (sign_text down) ds)
    ∙ ap (λ (t : List ℕ). ((before ++ 101 ∷ []) ++ sign_text down) ++ t) (sym (append-nil ds)) in
    let long = length-append (before ++ 101 ∷ []) (sign_text down) in
    let both = length-append (sign_text down) ds in
    inr (record {
      first = i + 1 + length (sign_text down);
      mark = has_in is_e text before (sign_text down ++ ds) 101 i e there refl;
      sign = sign_in text (before ++ 101 ∷ []) down ds (i + 1) marked next;
      digits = digits_in text ((before ++ 101 ∷ []) ++ sign_text down) ds []
          (i + 1 + length (sign_text down)) j signed (omega (arith, long, next))
          (omega (arith, long, one_longer before 101, ends, both)) all;
      some = omega (arith, there, ends, both, some);
    })

-- ---- the whole text

module _ (negative : Bool) (whole fraction exponent text : List ℕ) (is_whole : IsNumeral whole)
    (is_fraction : IsFraction fraction) (is_exponent : IsExponent exponent)
    (is : text ≡ sign_text negative ++ (whole ++ (fraction ++ exponent))) where
  abbrev s : List ℕ
  s = sign_text negative

  two : text ≡ (s ++ whole) ++ (fraction ++ exponent)
  two = is ∙ sym (append_assoc s whole (fraction ++ exponent))

  three : text ≡ ((s ++ whole) ++ fraction) ++ exponent
  three = two ∙ sym (append_assoc (s ++ whole) fraction exponent)

  long_two : length (s ++ whole) ≡ length s + length whole
  long_two = length-append s whole

  long_three : length ((s ++ whole) ++ fraction) ≡ length s + length whole + length fraction
  long_three = length-append (s ++ whole) fraction ∙ ap (λ (n : ℕ). n + length fraction) long_two

  long : length text ≡ length s + length whole + length fraction + length exponent
  long =
      ap length three ∙ length-append ((s ++ whole) ++ fraction) exponent
      ∙ ap (λ (n : ℕ). n + length exponent) long_three

  pub is_json : IsJsonNumber text 0 (length text)
  is_json = record {
    int = length s;
    frac = length s + length whole;
    exp = length s + length whole + length fraction;
    minus = minus_in negative (whole ++ (fraction ++ exponent)) text is;
    integer = int_in text s whole (fraction ++ exponent) (length s) (length s + length whole) is
        refl refl is_whole;
    fraction = frac_in text (s ++ whole) fraction exponent (length s + length whole)
        (length s + length whole + length fraction) two (sym long_two)
        (ap (λ (n : ℕ). n + length fraction) (sym long_two)) is_fraction;
    exponent = exp_in text ((s ++ whole) ++ fraction) exponent
        (length s + length whole + length fraction) (length text) three (sym long_three)
        (long ∙ ap (λ (n : ℕ). n + length exponent) (sym long_three)) is_exponent;
  }

-- ---- a text with a point or a mark is no integer

abbrev pub is_stop : ℕ → Bool
is_stop byte = byte == 46 || is_e byte

weaker : (p q : ℕ → Bool) (byte : Option ℕ) → ((b : ℕ) → p b ≡ true → q b ≡ true)
    → holds_of p byte ≡ true → holds_of q byte ≡ true
weaker p q None only is = cc
weaker p q (Some b) only is = only b is

clash : (byte : Option ℕ) → holds_of is_stop byte ≡ true → holds_of is_ascii_digit byte ≡ true → ⊥
clash None stop digit = cc
clash (Some b) stop digit = by b stop digit
  where
    by : (b : ℕ) → is_stop b ≡ true → is_ascii_digit b ≡ true → ⊥
    by b stop digit = grind (arith, nat_tests, stop, digit)

zero_digit : (b : ℕ) → is_zero b ≡ true → is_ascii_digit b ≡ true
zero_digit b is = grind (arith, nat_tests, is)

first_digit : (b : ℕ) → is_digit1_9 b ≡ true → is_ascii_digit b ≡ true
first_digit b is = grind (arith, nat_tests, is)

pub no_integer : (text : List ℕ) (i : ℕ) → 0 < i → i < length text
    → stands is_stop text i ≡ true → IsJsonInteger text 0 (length text) → ⊥
no_integer text i some within stop json =
    let few : json.int ≤ 1 = by_sign json.minus in
    by json.int few json.integer
  where
    by_sign : {n : ℕ} → IsOptional text is_minus 0 n → n ≤ 1
    by_sign (inl e) = omega (arith, e)
    by_sign (inr m) = omega (arith, m.1)

    no_digit : stands is_ascii_digit text i ≡ true → ⊥
    no_digit digit = clash (slice_get text i) stop digit

    here : (n : ℕ) → n ≤ i → i ≤ n → stands is_ascii_digit text n ≡ true → ⊥
    here n low high digit =
        let same : n ≡ i = omega (arith, low, high) in
        no_digit (subst (λ (k : ℕ). stands is_ascii_digit text k ≡ true) same digit)

    by : (n : ℕ) → n ≤ 1 → IsInt text n (length text) → ⊥
    by n few (inl z) =
        here n (omega arith) (omega (arith, z.1, within))
        (weaker is_zero is_ascii_digit (slice_get text n) zero_digit z.0)
    by n few (inr o) = elim (cases_lt n i) [
      | inl more ↦ no_digit (o.1.all i (omega (arith, more)) within)
      | inr last ↦
          here n (omega arith) (omega (arith, last))
          (weaker is_digit1_9 is_ascii_digit (slice_get text n) first_digit o.0)
    ]
