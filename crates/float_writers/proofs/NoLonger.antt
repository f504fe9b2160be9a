-- What is written of a float has no more digits than a text that is read as it.
use Rattle.std.proofs.Common.{◌≡◌, ℕ, ℤ, zero, suc, ◌+◌, ◌*◌, ◌^◌, ◌<◌, Bool, true, false, List, length, refl, sym, ap, ◌∙◌, arith}
use Rattle.std.specs.Prelude.{Result, Ok, Err, pos, negsuc, ◌-ℤ◌, ◌==◌, if◌then◌else◌}
use Rattle.std.specs.Float.{Float, Format, inf, float_with_sign}
use Rattle.std.specs.Float.Numeral.{numeral_digits, tens_up, tens_down}
use Rattle.std.proofs.lemmas.Int.{ints}
use mathlib.Core.Bool.{cond}
use lib.Dec.{ltb}
use lib.Ieee.{round, units, odd, prec, low, emax}
use lib.Ieee.Fits.{round_is}
use lib.Ieee.Scale.{round_same}
use lib.Pow.{pow-add}
use Rattle.digit_floats.specs.Bytes.{stands, is_minus}
use Rattle.digit_floats.specs.Float.{plain_marks, past_sign, parts_at, float_at, end_at, with_end, whole_of, parse_at}
use Rattle.digit_floats.specs.declared.error.FloatError.{FloatError}
use Rattle.digit_floats.specs.declared.error.FloatError.TheVariants.{Invalid}
use Rattle.decimal_writers.specs.Text.{units_of, places_of}
use Rattle.float_writers.specs.Write.{IsTextOf}
use Rattle.float_writers.specs.declared.write.FloatLayout.{FloatLayout}
use Rattle.float_writers.proofs.Fewest.{ten_pos}

-- ---- the sign

odd_size : (s : Bool) (d q k l : ℕ) → float_with_sign false (odd d s q k l) ≡ odd d false q k l
unfolding odd float_with_sign
odd_size s d zero k l = refl
odd_size s d (suc q) k l = refl

units_size : (f : Format) (s : Bool) (q k : ℕ)
    → float_with_sign false (units f s q k) ≡ units f false q k
unfolding units float_with_sign
units_size f s q k = go (ltb (q * 2 ^ k) (2 ^ (low f + suc (emax f))))
  where
    go : (b : Bool)
        → float_with_sign false (cond b (odd (suc (prec f)) s q k (low f)) (inf s))
        ≡ cond b (odd (suc (prec f)) false q k (low f)) (inf false)
    go true = odd_size s (suc (prec f)) q k (low f)
    go false = refl

round_size : (f : Format) (s : Bool) (a b : ℕ)
    → float_with_sign false (round f s a b) ≡ round f false a b
round_size f s a b =
    ap (float_with_sign false) (round_is f s a b) ∙ units_size f s _ _
    ∙ sym (round_is f false a b)

-- ---- a text that is read

parsed_is : (word : ℕ) (text : List ℕ) (f : Format) (x : Float)
    → parse_at word text plain_marks f 0 ≡ Ok x → float_at word text plain_marks f 0 ≡ x
parsed_is word text f x e = by (end_at word text plain_marks 0) e
  where
    go : (b : Bool) (y : Float) (end : ℕ) → (if b then Ok y else Err (Invalid end)) ≡ Ok x → y ≡ x
    go true y end e = cc
    go false y end e = cc

    by : (r : Result ℕ FloatError)
        → whole_of word text (with_end (float_at word text plain_marks f 0) r) ≡ Ok x
        → float_at word text plain_marks f 0 ≡ x
    by (Ok end) e = go (end == length text) (float_at word text plain_marks f 0) end e
    by (Err error) e = cc

decimal_reads : (f : Format) (digits up down : ℕ) (z : ℤ) → pos up -ℤ pos down ≡ z
    → round f false (units_of digits z) (10 ^ places_of z)
    ≡ round f false (digits * 10 ^ up) (10 ^ down)
decimal_reads f digits up down (pos n) e =
    let sum : up ≡ down + n = omega (arith, ints, e) in
    let tens : 10 ^ up ≡ 10 ^ down * 10 ^ n = ap (λ (x : ℕ). 10 ^ x) sum ∙ pow-add 10 down n in
    round_same f false (digits * 10 ^ n) (10 ^ 0) (digits * 10 ^ up) (10 ^ down) (omega arith)
    (ten_pos down) (omega (arith, ap (λ (x : ℕ). digits * x) tens))
decimal_reads f digits up down (negsuc n) e =
    let sum : down ≡ up + (n + 1) = omega (arith, ints, e) in
    let tens : 10 ^ down ≡ 10 ^ up * 10 ^ (n + 1) = ap (λ (x : ℕ). 10 ^ x) sum
    ∙ pow-add 10 up (n + 1) in
    round_same f false digits (10 ^ (n + 1)) (digits * 10 ^ up) (10 ^ down) (ten_pos (n + 1))
    (ten_pos down) (omega (arith, ap (λ (x : ℕ). digits * x) tens))

pub float_no_longer : (f : Format) (x : Float) (layout : FloatLayout) (word : ℕ)
    (text other : List ℕ) (is : IsTextOf f x layout text)
    → parse_at word other plain_marks f 0 ≡ Ok x → (n : ℕ)
    → numeral_digits (parts_at word other plain_marks (past_sign other 0)) < 10 ^ n
    → is.written.digits < 10 ^ n
float_no_longer f x layout word text other is reads n few =
    let p = parts_at word other plain_marks (past_sign other 0) in
    let z = pos (tens_up p) -ℤ pos (tens_down p) in
    let size : round f false (numeral_digits p * 10 ^ tens_up p) (10 ^ tens_down p)
    ≡ float_with_sign false x =
    sym (round_size f (stands is_minus other 0) (numeral_digits p * 10 ^ tens_up p)
    (10 ^ tens_down p))
    ∙ ap (float_with_sign false) (parsed_is word other f x reads) in
    is.shortest.shortest (record { digits = numeral_digits p; power = z })
    (decimal_reads f (numeral_digits p) (tens_up p) (tens_down p) z refl ∙ size) n few
