-- A text that was written is read.
use Rattle.std.proofs.Common.{◌≡◌, ℕ, ℤ, suc, ◌+◌, ◌-◌, ◌*◌, ◌/◌, ◌%◌, ◌^◌, ◌<◌, Bool, true, false, List, [], ◌∷◌, ◌++◌, length, refl, sym, ap, subst, ◌∙◌, inl, inr, arith, append_assoc, append-nil, unsigned_abs}
use Rattle.std.specs.Prelude.{Result, Ok, IfOk, FitsSigned, take, drop, decimal, pos, negsuc, ◌+ℤ◌, if◌then◌else◌}
use Rattle.std.specs.Float.{Format, fin}
use Rattle.std.specs.Float.Ieee.{round, up, down}
use lib.Ieee.Nearest.{closest}
use Rattle.decimal_writers.specs.Fixed.{fixed_text}
use Rattle.std.specs.Float.Numeral as std
use Rattle.std.specs.Fmt.{sign_text, signed_decimal}
use Rattle.std.specs.Str.Parse.{AllDigits, digits_value}
use Rattle.std.proofs.lemmas.Fmt.{decimal_is_IsNumeral_wide}
use Rattle.std.proofs.lemmas.Int.{ints}
use Rattle.std.proofs.Math.Seq.{take-append_seam}
use Rattle.std.proofs.lemmas.Bool.{cases_lt}
use mir.Syntax.{w32}
use native.Mathlib.Nat.{mul_assoc}
use lib.Ieee.Scale.{round_same}
use lib.Pow.{pow-add}
use Rattle.lexical_format.specs.declared.TheConstants.{STANDARD}
use Rattle.digit_floats.specs.Float.{plain_marks, parse_at}
use Rattle.digit_floats.proofs.AsStd.{as_written}
use Rattle.decimal_writers.specs.Text.{number_text, with_point, places_of, units_of, first_power, plain_text, exponent_text, zero_place, is_plain, usual_text}
use Rattle.decimal_writers.specs.Room.{Writes}
use Rattle.decimal_writers.specs.Value.{nearest_of, Reads, IsOfFloats}
use Rattle.decimal_writers.specs.declared.room.NoRoom.{NoRoom}
use Rattle.decimal_writers.proofs.Bytes.{AreBytes, both, sign_bytes, point_bytes, exponent_bytes, plain, standard}
use Rattle.decimal_writers.proofs.Numerals.{ten_pos, last_none, last_step, some_digits, word_digits}
use Rattle.decimal_writers.proofs.Values.{text_is, parts, well, nearest_is}

-- ---- digits with a point, and an exponent or none

-- by a word of floats
module _ (word : ℕ) (of : IsOfFloats word) where
  reads_parts : (f : Format) (negative : Bool) (places n : ℕ) (down : Bool) (exponent text : List ℕ)
      → AllDigits 10 exponent → (exponent ≡ [] → down ≡ false)
      → text ≡ sign_text negative ++ (with_point places n ++ std.exponent_text down exponent)
      → parse_at word text plain_marks f 0
      ≡ Ok (round f negative (n * 10 ^ (if down then 0 else digits_value 10 exponent))
      (10 ^ (places + (if down then digits_value 10 exponent else 0))))
  reads_parts f negative places n down exponent text digits some is =
      let p = parts places n down exponent digits some in
      let same : text ≡ sign_text negative ++ std.text_of p =
      is ∙ ap (λ (ds : List ℕ). sign_text negative ++ ds) (text_is places n down exponent p.len) in
      let are = both (sign_text negative) (with_point places n ++ std.exponent_text down exponent)
      (sign_bytes negative)
      (both (with_point places n) (std.exponent_text down exponent) (point_bytes places n)
      (exponent_bytes down exponent digits)) in
      let bytes : AreBytes text = subst (λ (ds : List ℕ). AreBytes ds) (sym is) are in
      as_written word text of.decimal (plain word of text bytes) negative p
      (well places n down exponent digits some)
      (some_digits (n / 10 ^ places)) same f
      ∙ ap Ok (nearest_is places n down exponent digits some f negative)

  reads_point : (f : Format) (negative : Bool) (places n : ℕ) (text : List ℕ)
      → text ≡ sign_text negative ++ with_point places n
      → parse_at word text plain_marks f 0 ≡ Ok (round f negative n (10 ^ places))
  reads_point f negative places n text is =
      let one : n * 10 ^ 0 ≡ n = omega arith in
      let last : places + 0 ≡ places = omega arith in
      reads_parts f negative places n false [] text tt (λ _. refl)
      (is ∙ ap (λ (ds : List ℕ). sign_text negative ++ ds) (sym (append-nil (with_point places n))))
      ∙ (λ i. Ok (round f negative (one i) (10 ^ last i)))

  pub plain_reads : (f : Format) (negative : Bool) (digits : ℕ) (power : ℤ)
      → parse_at word (plain_text negative digits power) plain_marks f 0
      ≡ Ok (nearest_of f negative digits power)
  plain_reads f negative digits power =
      reads_point f negative (places_of power) (units_of digits power) _ refl

  fixed_by : (f : Format) (negative : Bool) (significand : ℕ) (exponent : ℤ) (places : ℕ)
      → parse_at word (fixed_text (fin negative significand exponent) places) plain_marks f 0
      ≡ Ok (round f negative (closest (significand * up exponent * 10 ^ places) (down exponent))
      (10 ^ places))
  fixed_by f negative significand exponent places =
      reads_point f negative places
      (closest (significand * up exponent * 10 ^ places) (down exponent)) _ refl

  -- ---- a place after a whole number

  tenfold : (n : ℕ) → with_point 1 (n * 10) ≡ number_text n ++ 46 ∷ 48 ∷ []
  tenfold n =
      let front : n * 10 / 10 ^ 1 ≡ n = omega arith in
      let last : n * 10 % 10 ≡ 0 = omega arith in
      (λ i. number_text
      (front i) ++ 46 ∷ (last_step 0 (n * 10)
      ∙ ap (λ (ds : List ℕ). ds ++ (48 + n * 10 % 10) ∷ []) (last_none (n * 10 / 10))) i)
      ∙ ap (λ (x : ℕ). number_text n ++ 46 ∷ (48 + x) ∷ []) last

  pointed_reads : (f : Format) (negative : Bool) (digits : ℕ) (power : ℤ)
      → parse_at word (plain_text negative digits power ++ zero_place power) plain_marks f 0
      ≡ Ok (nearest_of f negative digits power)
  pointed_reads f negative digits (pos n) =
      let u = digits * 10 ^ n in
      let same : plain_text negative digits (pos n) ++ 46 ∷ 48 ∷ []
      ≡ sign_text negative ++ with_point 1 (u * 10) =
      append_assoc (sign_text negative) (number_text u) (46 ∷ 48 ∷ [])
      ∙ ap (λ (ds : List ℕ). sign_text negative ++ ds) (sym (tenfold u)) in
      reads_point f negative 1 (u * 10) _ same
      ∙ ap Ok (round_same f negative (u * 10) (10 ^ 1) u (10 ^ 0) (omega arith) (omega arith)
      (omega arith))
  pointed_reads f negative digits (negsuc n) =
      ap (λ (ds : List ℕ). parse_at word ds plain_marks f 0)
      (append-nil (plain_text negative digits (negsuc n)))
      ∙ plain_reads f negative digits (negsuc n)

  -- ---- an exponent

  marked : (down : Bool) (k : ℕ) → k < 10 ^ 64
      → std.exponent_text down (decimal k) ≡ 101 ∷ (sign_text down ++ decimal k)
  marked down k few = go (decimal k) (decimal_is_IsNumeral_wide k few).0.0
    where
      go : (ds : List ℕ) → 0 < length ds → std.exponent_text down ds ≡ 101 ∷ (sign_text down ++ ds)
      go [] some = absurd (omega arith)
      go (d ∷ ds) some = refl

  module _ (f : Format) (negative : Bool) (digits places : ℕ) where
    abbrev text : ℤ → List ℕ
    text z = sign_text negative ++ (with_point places digits ++ 101 ∷ signed_decimal z)

    reads_up : (k : ℕ) → k < 10 ^ 64
        → parse_at word (text (pos k)) plain_marks f 0 ≡ Ok
        (round f negative (digits * 10 ^ k) (10 ^ places))
    reads_up k few =
        let is = decimal_is_IsNumeral_wide k few in
        let last : places + 0 ≡ places = omega arith in
        reads_parts f negative places digits false (decimal k) (text (pos k)) is.0.1 (λ _. refl)
        (ap (λ (ds : List ℕ). sign_text negative ++ (with_point places digits ++ ds))
        (sym (marked false k few)))
        ∙ (λ i. Ok (round f negative (digits * 10 ^ is.1 i) (10 ^ last i)))

    reads_down : (k : ℕ) → suc k < 10 ^ 64
        → parse_at word (text (negsuc k)) plain_marks f 0 ≡ Ok
        (round f negative digits (10 ^ (places + suc k)))
    reads_down k few =
        let is = decimal_is_IsNumeral_wide (suc k) few in
        let one : digits * 10 ^ 0 ≡ digits = omega arith in
        reads_parts f negative places digits true (decimal (suc k)) (text (negsuc k)) is.0.1
        (λ e. absurd (omega (arith, is.0.0, ap length e)))
        (ap (λ (ds : List ℕ). sign_text negative ++ (with_point places digits ++ ds))
        (sym (marked true (suc k) few)))
        ∙ (λ i. Ok (round f negative (one i) (10 ^ (places + is.1 i))))

    -- the number is the same as without the places
    reads_power : (power z : ℤ) → power +ℤ pos places ≡ z → unsigned_abs z < 10 ^ 64
        → parse_at word (text z) plain_marks f 0 ≡ Ok (nearest_of f negative digits power)
    reads_power (pos a) (pos k) e few =
        let sum : k ≡ a + places = omega (arith, ints, e) in
        let tens : 10 ^ k ≡ 10 ^ a * 10 ^ places = ap (λ (x : ℕ). 10 ^ x) sum
        ∙ pow-add 10 a places in
        let cross : digits * 10 ^ k * 10 ^ 0 ≡ digits * 10 ^ a * 10 ^ places =
        omega (arith, ap (λ (x : ℕ). digits * x) tens, mul_assoc digits (10 ^ a) (10 ^ places)) in
        reads_up k few
        ∙ ap Ok (round_same f negative (digits * 10 ^ k) (10 ^ places) (digits * 10 ^ a) (10 ^ 0)
        (ten_pos places) (omega arith) cross)
    reads_power (pos a) (negsuc k) e few = absurd (omega (arith, ints, e))
    reads_power (negsuc a) (pos k) e few =
        let sum : k + (a + 1) ≡ places = omega (arith, ints, e) in
        let tens : 10 ^ places ≡ 10 ^ k * 10 ^ (a + 1) = ap (λ (x : ℕ). 10 ^ x) (sym sum)
        ∙ pow-add 10 k (a + 1) in
        let cross : digits * 10 ^ k * 10 ^ (a + 1) ≡ digits * 10 ^ places =
        mul_assoc digits (10 ^ k) (10 ^ (a + 1)) ∙ ap (λ (x : ℕ). digits * x) (sym tens) in
        reads_up k few
        ∙ ap Ok (round_same f negative (digits * 10 ^ k) (10 ^ places) digits (10 ^ (a + 1))
        (ten_pos places) (ten_pos (a + 1)) cross)
    reads_power (negsuc a) (negsuc k) e few =
        let sum : places + suc k ≡ a + 1 = omega (arith, ints, e) in
        reads_down k few ∙ ap (λ (x : ℕ). Ok (round f negative digits (10 ^ x))) sum

  pub exponent_reads : (f : Format) (negative : Bool) (digits : ℕ) (power : ℤ)
      → unsigned_abs (first_power digits power) < 10 ^ 64
      → parse_at word (exponent_text negative digits power) plain_marks f 0
      ≡ Ok (nearest_of f negative digits power)
  exponent_reads f negative digits power few =
      reads_power f negative digits (length (number_text digits) - 1) power
      (first_power digits power) refl few

  pub usual_reads : (f : Format) (negative : Bool) (digits : ℕ) (power : ℤ)
      → unsigned_abs (first_power digits power) < 10 ^ 64
      → parse_at word (usual_text negative digits power) plain_marks f 0
      ≡ Ok (nearest_of f negative digits power)
  usual_reads f negative digits power few = by (is_plain digits power)
    where
      by : (b : Bool)
          → parse_at word
          (if b then plain_text negative digits power
          ++ zero_place power else exponent_text negative digits power) plain_marks f 0
          ≡ Ok (nearest_of f negative digits power)
      by true = pointed_reads f negative digits power
      by false = exponent_reads f negative digits power few

pub fixed_reads : (f : Format) (negative : Bool) (significand : ℕ) (exponent : ℤ) (places : ℕ)
    → parse_at STANDARD (fixed_text (fin negative significand exponent) places) plain_marks f 0
    ≡ Ok (round f negative (closest (significand * up exponent * 10 ^ places) (down exponent))
    (10 ^ places))
fixed_reads = fixed_by STANDARD standard

-- ---- of what was written

pub first_few : (digits : ℕ) (power : ℤ) → digits < 2 ^ 64 → FitsSigned w32 power
    → unsigned_abs (first_power digits power) < 10 ^ 64
first_few digits (pos a) few fits = omega (arith, word_digits digits few, fits.sfits)
first_few digits (negsuc a) few fits = by (first_power digits (negsuc a)) refl
  where
    by : (z : ℤ) → negsuc a +ℤ pos (length (number_text digits) - 1) ≡ z → unsigned_abs z < 10 ^ 64
    by (pos k) e = omega (arith, ints, e, word_digits digits few)
    by (negsuc k) e = omega (arith, ints, e, fits.sfits)

module _ (negative : Bool) (digits : ℕ) (power : ℤ) (old new : List ℕ)
    (result : Result ℕ NoRoom) where
  reads_text : (text : List ℕ) → Reads negative digits power text → Writes text old new result
      → IfOk result (λ n. Reads negative digits power (take n new))
  reads_text text reads is = elim (cases_lt (length old) (length text)) [
    | inl none ↦
        subst (λ (r : Result ℕ NoRoom). IfOk r (λ n. Reads negative digits power (take n new)))
        (sym (is.no_room none)) tt
    | inr room ↦
        let same : take (length text) new ≡ text =
        ap (take (length text)) (is.written room)
        ∙ take-append_seam text (drop (length text) old) in
        subst (λ (r : Result ℕ NoRoom). IfOk r (λ n. Reads negative digits power (take n new)))
        (sym (is.ok room))
        (subst (Reads negative digits power) (sym same) reads)
  ]

  pub plain_read : Writes (plain_text negative digits power) old new result
      → IfOk result (λ n. Reads negative digits power (take n new))
  plain_read =
      reads_text _ (record {
        is = λ f. plain_reads STANDARD standard f negative digits power;
      })

  module _ (few : digits < 2 ^ 64) (fits : FitsSigned w32 power) where
    pub exponent_read : Writes (exponent_text negative digits power) old new result
        → IfOk result (λ n. Reads negative digits power (take n new))
    exponent_read =
        reads_text _ (record {
          is =
              λ f.
              exponent_reads STANDARD standard f negative digits power
              (first_few digits power few fits);
        })

    pub usual_read : Writes (usual_text negative digits power) old new result
        → IfOk result (λ n. Reads negative digits power (take n new))
    usual_read =
        reads_text _ (record {
          is =
              λ f.
              usual_reads STANDARD standard f negative digits power
              (first_few digits power few fits);
        })

pub ruleset reads = (plain_read, exponent_read, usual_read)
