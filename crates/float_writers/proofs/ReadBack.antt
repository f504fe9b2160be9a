-- The laws of what is written.
use Rattle.std.proofs.Common.{◌≡◌, ℕ, ℤ, ◌-◌, ◌^◌, ◌<◌, ◌≤◌, Bool, true, List, length, sym, ap, subst, ◌∙◌, arith, unsigned_abs}
use Rattle.std.specs.Prelude.{Result, Ok, IsTrue, IfErr, pos, negsuc, ◌≤ℤ◌}
use Rattle.std.specs.Float.{Float, Format, nan, inf, fin, float_is_finite, float_is_infinite, is_sign_negative}
use Rattle.std.proofs.lemmas.Int.{ints}
use lib.Ieee.{is_nan}
use Rattle.lexical_format.specs.declared.TheConstants.{STANDARD}
use Rattle.digit_floats.specs.Float.{plain_marks, parse_at}
use Rattle.digit_floats.specs.declared.error.FloatError.{FloatError}
use Rattle.decimal_writers.specs.Room.{Writes}
use Rattle.decimal_writers.specs.Text.{number_text, first_power}
use Rattle.decimal_writers.specs.Value.{nearest_of, IsOfFloats}
use Rattle.decimal_writers.specs.declared.room.NoRoom as room
use Rattle.decimal_writers.proofs.Bytes.{standard}
use Rattle.decimal_writers.proofs.Lengths.{sum_few, plain_fits, exponent_fits, usual_fits}
use Rattle.decimal_writers.proofs.Numerals.{few_digits, some_digits}
use Rattle.decimal_writers.proofs.Reading.{plain_reads, exponent_reads, usual_reads}
use Rattle.float_writers.specs.Write.{IsTextOf, HasRoom, text_of}
use Rattle.float_writers.specs.declared.decimal.Decimal.{Decimal}
use Rattle.float_writers.specs.declared.write.FloatLayout.{FloatLayout}
use Rattle.float_writers.specs.declared.write.FloatLayout.TheVariants.{Plain, Exponent, Usual}
use Rattle.float_writers.proofs.Written.{back}

pub near : (z : ℤ) → negsuc 323 ≤ℤ z → z ≤ℤ pos 309 → unsigned_abs z ≤ 400
near (pos n) least most = omega (arith, ints, most)
near (negsuc n) least most = omega (arith, ints, least)

pub first_small : (digits : ℕ) (power : ℤ) → digits < 10 ^ 17 → unsigned_abs power ≤ 400
    → unsigned_abs (first_power digits power) < 10 ^ 64
first_small digits power few small =
    let count = few_digits digits 17 (omega arith) few in
    omega (
      arith,
      sum_few power (length (number_text digits) - 1) small
          (omega (arith, count, some_digits digits)),
    )

decimal_read : (f : Format) (layout : FloatLayout) (word : ℕ) → IsOfFloats word → (negative : Bool)
    (d : Decimal) → d.digits < 10 ^ 17 → unsigned_abs d.power ≤ 400
    → parse_at word (text_of layout negative d) plain_marks f 0
    ≡ Ok (nearest_of f negative d.digits d.power)
decimal_read f Plain word of negative d few small =
    plain_reads word of f negative d.digits d.power
decimal_read f Exponent word of negative d few small =
    exponent_reads word of f negative d.digits d.power (first_small d.digits d.power few small)
decimal_read f Usual word of negative d few small =
    usual_reads word of f negative d.digits d.power (first_small d.digits d.power few small)

pub float_read : (f : Format) (x : Float) (layout : FloatLayout) (word : ℕ) (text : List ℕ)
    → IsOfFloats word → IsTextOf f x layout text → parse_at word text plain_marks f 0 ≡ Ok x
float_read f x layout word text of is =
    let d = is.written in
    ap (λ (t : List ℕ). parse_at word t plain_marks f 0) is.is
    ∙ decimal_read f layout word of (is_sign_negative x) d is.few (near d.power is.least is.most)
    ∙ ap Ok (back f x d is.shortest.reads)

ok_same : (read : Result Float FloatError) (x y : Float) → read ≡ Ok x → read ≡ Ok y → x ≡ y
ok_same read x y first second = cc

pub float_one : (f : Format) (x y : Float) (layout other : FloatLayout) (text : List ℕ)
    → IsTextOf f x layout text → IsTextOf f y other text → x ≡ y
float_one f x y layout other text first second =
    ok_same (parse_at STANDARD text plain_marks f 0) x y
    (float_read f x layout STANDARD text standard first)
    (float_read f y other STANDARD text standard second)

-- ---- the room

text_few : (layout : FloatLayout) (negative : Bool) (d : Decimal) (room : ℕ) → d.digits < 10 ^ 17
    → negsuc 323 ≤ℤ d.power → d.power ≤ℤ pos 309 → HasRoom layout room
    → length (text_of layout negative d) ≤ room
text_few Plain negative d room few least most has =
    omega (arith, has, plain_fits negative d.digits d.power few least most)
text_few Exponent negative d room few least most has =
    omega (arith, has, exponent_fits negative d.digits d.power few (near d.power least most))
text_few Usual negative d room few least most has =
    omega (arith, has, usual_fits negative d.digits d.power few (near d.power least most))

pub always : (layout : FloatLayout) (negative : Bool) (d : Decimal) (old new : List ℕ)
    (result : Result ℕ room.NoRoom) → d.digits < 10 ^ 17 → negsuc 323 ≤ℤ d.power
    → d.power ≤ℤ pos 309 → Writes (text_of layout negative d) old new result
    → HasRoom layout (length old) → IfErr result (λ error. ⊥)
always layout negative d old new result few least most is has =
    subst (λ (r : Result ℕ room.NoRoom). IfErr r (λ error. ⊥))
    (sym (is.ok (text_few layout negative d (length old) few least most has))) tt

pub not_nan : (x : Float) (b : Bool) → b ≡ is_nan x → b ≡ true → IsTrue (float_is_finite x) → ⊥
unfolding float_is_finite is_nan
not_nan nan b is e finite = cc
not_nan (inf s) b is e finite = cc
not_nan (fin s m k) b is e finite = cc

pub not_infinite : (x : Float) (b : Bool) → b ≡ float_is_infinite x → b ≡ true
    → IsTrue (float_is_finite x) → ⊥
unfolding float_is_finite float_is_infinite
not_infinite nan b is e finite = cc
not_infinite (inf s) b is e finite = cc
not_infinite (fin s m k) b is e finite = cc
