-- std reads the digits and the power of ten back from the text that was written.
use Rattle.std.proofs.Common.{◌≡◌, ◌++◌, ℕ, ◌+◌, ◌-◌, ◌*◌, ◌/◌, ◌%◌, ◌^◌, ◌<◌, Bool, true, false, List, [], ◌∷◌, IsAscii, ap, length, take, refl, sym, subst, ◌∙◌, true≢false, arith}
use Rattle.std.specs.Prelude.{Option, Some, None, Result, Ok, Err, MatchOption, MatchResult, min, nat_lt, if◌then◌else◌}
use Rattle.std.specs.Option.{IsSome}
use Rattle.std.specs.Result.{IsOk}
use Rattle.std.specs.Char.{digit_value}
use Rattle.std.specs.Fmt.{sign_text}
use Rattle.std.specs.Float.{Float, Format}
use Rattle.std.specs.Float.Ieee.{round}
use Rattle.std.specs.Float.Numeral.{text_of, IsWellFormed}
use Rattle.std.specs.Float.Parse.{parse_float}
use Rattle.std.specs.Str.{IsUtf8}
use Rattle.std.specs.Str.Parse.{AllDigits, digits_value, digits_value_after}
use Rattle.std.proofs.lemmas.Bool.Decides.{nat_tests}
use Rattle.std.proofs.lemmas.Float.Parse.{parse_float-text_of}
use Rattle.std.proofs.lemmas.Int.Digits.{digits_value-lt, digits_value_push, digits_push}
use Rattle.std.proofs.lemmas.List.{append-nil, length-append, length-take-le}
use Rattle.std.proofs.lemmas.Str.{IsUtf8-from_ascii}
use Rattle.std.proofs.lemmas.Str.Ascii.{IsAscii-nil, IsAscii-cons}
use Rattle.std.proofs.lemmas.Str.Parse.{digit_from_value}
use Rattle.digit_values.proofs.ForCallers.{value_of_both}
use Rattle.digit_floats.specs.declared.long.Kept.{Kept}
use Rattle.digit_floats.specs.Cut.{room, IsKept, last_digit, four_digits, cut_parts}
use Rattle.digit_floats.proofs.Cut.{IsWritten, round_cut}

pub ok_of : {A E : Type 0} (P : A → Type 0) (Q : E → Type 0) {U : Type 0} (r : Result A E)
    → MatchResult r P (λ e. ¬ U × Q e) → U → IsOk r
ok_of P Q (Ok a) m u = refl
ok_of P Q (Err e) m u = absurd (m.0 u)

not_nil : {d : ℕ} {ds : List ℕ} → (d ∷ ds) ≡ [] → ⊥
not_nil e = omega (arith, ap length e)

ascii_then : (ds rest : List ℕ) → AllDigits 10 ds → IsAscii rest → IsAscii (ds ++ rest)
ascii_then [] rest h a = a
ascii_then (d ∷ ds) rest h a =
    let r = digit_from_value d h.0 in IsAscii-cons d _ (omega arith) (ascii_then ds rest h.1 a)

ascii_digits : (ds : List ℕ) → AllDigits 10 ds → IsAscii ds
ascii_digits [] h = IsAscii-nil
ascii_digits (d ∷ ds) h =
    let r = digit_from_value d h.0 in IsAscii-cons d _ (omega arith) (ascii_digits ds h.1)

signed : (negative : Bool) (rest : List ℕ) → IsAscii rest → IsAscii (sign_text negative ++ rest)
signed true rest a = IsAscii-cons 45 rest (omega arith) a
signed false rest a = a

-- ---- four digits

digit_is : (d : ℕ) → d < 10 → digit_value (48 + d) ≡ d
digit_is d h = grind (arith, nat_tests)

below : (d : ℕ) → d < 10 → digit_value (48 + d) < 10
below d h = omega (arith, digit_is d h)

four_are : (n : ℕ) → n < 10000 → AllDigits 10 (four_digits n)
four_are n h =
    let m = n / 10 / 10 in (
      below (m / 10) (omega arith),
      (
        below (m % 10) (omega arith),
        (below (n / 10 % 10) (omega arith), (below (n % 10) (omega arith), tt)),
      ),
    )

four_value : (n : ℕ) → n < 10000 → digits_value 10 (four_digits n) ≡ n
four_value n h =
    let m = n / 10 / 10 in
    rw (
      digit_is (m / 10) (omega arith),
      digit_is (m % 10) (omega arith),
      digit_is (n / 10 % 10) (omega arith),
      digit_is (n % 10) (omega arith),
    )
    (omega arith)

module _ (digits : List ℕ) (more : Bool) (up down : ℕ) (all : AllDigits 10 digits)
    (few : up < 10000) (low : down < 10000) where
  last_is : (m : Bool) → digit_value (48 + last_digit m) ≡ last_digit m
  last_is true = refl
  last_is false = refl

  last_below : (m : Bool) → digit_value (48 + last_digit m) < 10
  last_below true = omega arith
  last_below false = omega arith

  power : (t : Bool) → (if t then down else up) < 10000
  power true = low
  power false = few

  well : IsWellFormed (cut_parts digits more up down)
  well = record {
    whole_digits = digits_push 10 digits _ all (last_below more);
    fraction_digits = tt;
    exponent_digits = four_are _ (power (nat_lt 0 down));
    no_point = λ _. refl;
    no_exponent = λ e. absurd (not_nil e);
    len_is = refl;
  }

  some : 0 < length (digits ++ (48 + last_digit more) ∷ [])
  some = omega (arith, length-append digits ((48 + last_digit more) ∷ []))

  pub cut_utf8 : IsUtf8 (text_of (cut_parts digits more up down))
  cut_utf8 =
      IsUtf8-from_ascii _
      (ascii_then (digits ++ (48 + last_digit more) ∷ []) _ well.whole_digits
      (IsAscii-cons 101 _ (omega arith)
      (signed (nat_lt 0 down) _
      (ascii_digits (four_digits (if nat_lt 0 down then down else up)) well.exponent_digits))))

  whole_value : digits_value 10 ((digits ++ (48 + last_digit more) ∷ []) ++ [])
      ≡ digits_value 10 digits * 10 + last_digit more
  whole_value = rw (append-nil, digits_value_push, last_is more) refl

  abbrev e : Bool → ℕ
  e t = digits_value 10 (four_digits (if t then down else up))

  pub reads_cut : (f : Format) → (0 < down → up ≡ 0)
      → parse_float f (text_of (cut_parts digits more up down))
      ≡ Some (round f false ((digits_value 10 digits * 10 + last_digit more) * 10 ^ up) (10 ^ down))
  reads_cut f one =
      parse_float-text_of f false (cut_parts digits more up down) well some
      ∙ rw whole_value (by_sign (nat_lt 0 down) refl)
    where
      v : ℕ
      v = digits_value 10 digits * 10 + last_digit more

      by_sign : (t : Bool) → t ≡ nat_lt 0 down
          → Some (round f false (v * 10 ^ (if t then 0 else e t))
          (10 ^ (0 + (if t then e t else 0))))
          ≡ Some (round f false (v * 10 ^ up) (10 ^ down))
      by_sign true h =
          let u : up ≡ 0 = one (grind (arith, nat_tests)) in
          let same : 0 + down ≡ down = omega arith in
          rw (u, four_value down low, same) refl
      by_sign false h =
          let d : down ≡ 0 = grind (arith, nat_tests) in
          rw (d, four_value up few) refl

-- ---- what is kept of a number writes a text whose float is nearest to it

start : (bytes : List ℕ) → IsKept bytes (record { len = 0; cut = 0; more = false }) 0
start bytes =
    let one : 10 ^ 0 ≡ 1 = refl in
    record {
      digits = tt;
      is = record {
        least = omega arith;
        most = omega arith;
        same = λ _. refl;
        above = λ e. absurd (true≢false (sym e));
      };
      first = λ h. absurd (omega arith);
      fits = omega arith;
      full = λ h. absurd (omega arith);
    }

-- two texts, one after the other
pub kept_both : (zeros one two : List ℕ) (first second : Kept) (ds es : List ℕ)
    → ((n : ℕ) → IsKept zeros (record { len = 0; cut = 0; more = false }) n
    → IsKept one first (digits_value_after 10 n ds))
    → ((n : ℕ) → IsKept one first n → IsKept two second (digits_value_after 10 n es))
    → IsKept two second (digits_value 10 (ds ++ es))
kept_both zeros one two first second ds es f g =
    rw (← value_of_both 10 ds es) (g _ (f 0 (start zeros)))

module _ (f : Format) (bytes : List ℕ) (kept : Kept) (number a b up down : ℕ)
    (is : IsKept bytes kept number) (wide : room < length bytes)
    (above : up ≡ min (a + kept.cut - (b + 1)) 400)
    (below : down ≡ min (b + 1 - (a + kept.cut)) 3000) where
  fits : digits_value 10 (take kept.len bytes) < 10 ^ kept.len
  fits =
      let long : length (take kept.len bytes) ≡ kept.len =
      length-take-le kept.len bytes (omega (arith, is.fits)) in
      subst (λ (z : ℕ). digits_value 10 (take kept.len bytes) < 10 ^ z) long
      (digits_value-lt 10 (take kept.len bytes) is.digits)

  abbrev nearest : Float
  nearest = round f false (number * 10 ^ a) (10 ^ b)

  pub reads_kept : parse_float f (text_of (cut_parts (take kept.len bytes) kept.more up down))
      ≡ Some nearest
  reads_kept =
      let value = digits_value 10 (take kept.len bytes) in
      let cut = kept.cut in
      let same : IsWritten f number value kept.more a b up down =
      rw (above, below)
      (round_cut f number value cut kept.len kept.more a b is.is is.first fits is.fits is.full) in
      let one : 0 < down → up ≡ 0 = λ h. omega arith in
      reads_cut (take kept.len bytes) kept.more up down is.digits (omega arith) (omega arith) f one
      ∙ ap Some (sym same)

-- ---- answers of calls

pub some_of : {A B : Type 0} (o : Option A) (p : Option B) (Q : A → Type 0) (y : B)
    → MatchOption o (p ≡ None) Q → p ≡ Some y → IsSome o
some_of (Some x) p Q y m e = refl
some_of None p Q y m e = cc

pub some_is : {A : Type 0} {x y : A} → Some x ≡ Some y → x ≡ y
some_is e = cc
