-- The text of any float, from that of a decimal.
use Rattle.std.proofs.Common.{◌≡◌, ℕ, ℤ, pos, negsuc, zero, suc, ◌*◌, ◌^◌, ◌<◌, ◌≤◌, Bool, true, false, true≢false, cond, T, not, List, ◌++◌, length, take, drop, refl, sym, ap, subst, ◌∙◌, inl, inr, arith}
use Rattle.std.specs.Prelude.{Result, Ok, Err, IsTrue, IfOk}
use Rattle.std.specs.Float.{Float, Format, nan, inf, fin, binary32, binary64, float_is_finite, float_is_infinite, is_sign_negative, float_with_sign, float_zero}
use Rattle.std.proofs.lemmas.Bool.{cases_lt}
use Rattle.std.proofs.Math.Seq.{take-append_seam}
use native.Mathlib.Nat.{zero-mul, mul-pos}
use mathlib.Core.Bool.{beq, ◌&&◌, ◌||◌}
use lib.Dec.{eqb, eqb→eq, lt→ltb}
use lib.Ieee.Fits.{up_pos}
use lib.Ieee.{round, units, odd, size, span, climb, neg, eq, up, down, fits, is_nan, level}
use lib.Ieee.Back.{whole_unique}
use lib.Ieee.Positive.{positive}
use Rattle.lexical_format.specs.declared.TheConstants.{STANDARD}
use Rattle.digit_floats.specs.Float.{plain_marks, parse_at}
use Rattle.digit_floats.proofs.Signs.{round_neg}
use Rattle.decimal_writers.specs.Text as text
use Rattle.decimal_writers.specs.Text.{units_of, places_of}
use Rattle.decimal_writers.specs.Room.{Writes}
use Rattle.decimal_writers.specs.Value as value
use Rattle.decimal_writers.specs.Value.{nearest_of}
use Rattle.decimal_writers.specs.declared.room.NoRoom as room
use Rattle.float_writers.specs.Decimals.{Reads, HasNoMoreDigits, IsAsNear, far_of}
use Rattle.float_writers.specs.Write.{IsShortest, IsTextOf}
use Rattle.float_writers.specs.declared.decimal.Decimal.{Decimal}
use Rattle.float_writers.specs.declared.write.FloatLayout.{FloatLayout}
use Rattle.float_writers.specs.declared.write.FloatTextError.TheVariants.{NoRoom}
use Rattle.float_writers.proofs.Fewest.{ten_pos}

-- ---- the sign

pub size_is : (b : Bool) (x y : Float) → b ≡ is_sign_negative x → y ≡ cond b (neg x) x
    → y ≡ float_with_sign false x
unfolding is_sign_negative float_with_sign neg
size_is b x y s e = e ∙ ap (λ (b : Bool). cond b (neg x) x) s ∙ by x
  where
    by : (x : Float) → cond (is_sign_negative x) (neg x) x ≡ float_with_sign false x
    by nan = refl
    by (inf true) = refl
    by (inf false) = refl
    by (fin true m e) = refl
    by (fin false m e) = refl

signed : (f : Format) (x : Float) (a b : ℕ) → round f false a b ≡ float_with_sign false x
    → round f (is_sign_negative x) a b ≡ x
unfolding is_sign_negative float_with_sign neg
signed f nan a b e = e
signed f (inf true) a b e = sym (round_neg f a b) ∙ ap neg e
signed f (inf false) a b e = e
signed f (fin true m k) a b e = sym (round_neg f a b) ∙ ap neg e
signed f (fin false m k) a b e = e

pub back : (f : Format) (x : Float) (d : Decimal) → Reads f (float_with_sign false x) d
    → nearest_of f (is_sign_negative x) d.digits d.power ≡ x
back f x d is =
    signed f x (units_of d.digits d.power) (10 ^ places_of d.power) is

-- ---- zeros

abbrev pub nothing : Decimal
nothing = record { digits = 0; power = pos 0 }

zero_reads : (f : Format) → Reads f float_zero nothing
unfolding round units odd size span climb
zero_reads binary32 = refl
zero_reads binary64 = refl

no_units : (z : ℤ) → units_of 0 z ≡ 0
no_units (pos n) = zero-mul (10 ^ n)
no_units (negsuc n) = refl

far_none : (u v : ℕ) → u ≡ 0 → far_of float_zero u v ≡ 0
far_none u v e = grind (arith, e, zero-mul (10 ^ v))

pub zero_shortest : (f : Format) → IsShortest f float_zero nothing
zero_shortest f = record {
  reads = zero_reads f;
  shortest = λ other r n less. ten_pos n;
  closest = λ other r few. inr (level other few);
  even = λ other r few near. inr refl;
  last = λ _. (refl, refl);
}
  where
    level : (other : Decimal) → HasNoMoreDigits other nothing → IsAsNear float_zero nothing other
    level other few =
        let none : other.digits ≡ 0 = omega (arith, few 0 (omega arith)) in
        let theirs : units_of other.digits other.power ≡ 0 =
        ap (λ (e : ℕ). units_of e other.power) none ∙ no_units other.power in
        ap (λ (z : ℕ). z * 10 ^ places_of other.power) (far_none 0 0 refl)
        ∙ zero-mul (10 ^ places_of other.power)
        ∙ sym (ap (λ (z : ℕ). z * 10 ^ 0)
        (far_none (units_of other.digits other.power) (places_of other.power) theirs)
        ∙ zero-mul (10 ^ 0))

level_same : (s : Bool) (a b : ℕ) → level s a false b ≡ true → a ≡ b
level_same s a b e = go (eqb a b) (eqb→eq a b) e
  where
    go : (c : Bool) → (T c → a ≡ b) → (c && (beq s false || eqb a 0)) ≡ true → a ≡ b
    go true f e = f tt
    go false f e = cc

pub zero_size : (f : Format) (x z : Float) → T (fits f x) → z ≡ float_zero → eq x z ≡ true
    → float_with_sign false x ≡ float_zero
unfolding eq float_with_sign fits
zero_size f x z fit is e = by x fit (sym (ap (eq x) is) ∙ e)
  where
    by : (x : Float) → T (fits f x) → eq x float_zero ≡ true → float_with_sign false x ≡ float_zero
    by nan fit e = cc
    by (inf s) fit e = cc
    by (fin s zero k) fit e =
        whole_unique f (fin false zero k) float_zero false 0 fit tt
        (refl, omega (arith, zero-mul (up k), zero-mul (down k))) (refl, refl)
    by (fin s (suc m) k) fit e =
        let size : 0 < suc m * up k = mul-pos (omega arith) (up_pos k) in
        absurd (omega (
          arith,
          size,
          level_same s (suc m * up k * 1) (0 * down k) e,
          zero-mul (down k),
        ))

level_zero : (s : Bool) (a b : ℕ) → a ≡ 0 → b ≡ 0 → level s a false b ≡ true
level_zero s a b i j = (λ t. level s (i t) false (j t)) ∙ by s
  where
    by : (s : Bool) → level s 0 false 0 ≡ true
    by true = refl
    by false = refl

pub above_size : (x z : Float) → IsTrue (float_is_finite x) → z ≡ float_zero → eq x z ≡ false
    → T (positive (float_with_sign false x))
unfolding eq float_with_sign float_is_finite
above_size x z finite is e = by x finite (sym (ap (eq x) is) ∙ e)
  where
    by : (x : Float) → IsTrue (float_is_finite x) → eq x float_zero ≡ false
        → T (positive (float_with_sign false x))
    by nan h e = cc
    by (inf s) h e = cc
    by (fin s zero k) h e =
        absurd (true≢false
        (sym (level_zero s (0 * up k * 1) (0 * down k) (omega (arith, zero-mul (up k)))
        (zero-mul (down k))) ∙ e))
    by (fin s (suc m) k) h e = lt→ltb 0 (suc m) (omega arith)

-- ---- a finite float

module _ (f : Format) (x : Float) (layout : FloatLayout) (b : Bool) (d : Decimal)
    (finite : IsTrue (float_is_finite x)) (sign : b ≡ is_sign_negative x)
    (shortest : IsShortest f (float_with_sign false x) d) (old new : List ℕ)
    (result : Result ℕ room.NoRoom) where
  pub read_back : IfOk result (λ n. value.Reads b d.digits d.power (take n new))
      → IfOk result (λ n. parse_at STANDARD (take n new) plain_marks f 0 ≡ Ok x)
  read_back is = by result is
    where
      by : (r : Result ℕ room.NoRoom) → IfOk r (λ n. value.Reads b d.digits d.power (take n new))
          → IfOk r (λ n. parse_at STANDARD (take n new) plain_marks f 0 ≡ Ok x)
      by (Ok n) is =
          is.is f ∙ ap (λ (b : Bool). Ok (nearest_of f b d.digits d.power)) sign
          ∙ ap Ok (back f x d shortest.reads)
      by (Err e) is = tt

-- ---- in the words of callers

count : Result ℕ room.NoRoom → ℕ
count (Ok n) = n
count (Err e) = e.needed

module _ (text old new : List ℕ) (result : Result ℕ room.NoRoom)
    (is : Writes text old new result) where
  wrote : (n : ℕ) → result ≡ Ok n → (length text ≡ n)
      × ((length text ≤ length old) × (new ≡ text ++ drop (length text) old))
  unfolding count
  wrote n e = elim (cases_lt (length old) (length text)) [
    | inl none ↦ absurd (by (sym e ∙ is.no_room none))
    | inr room ↦ (ap count (sym (is.ok room) ∙ e), (room, is.written room))
  ]
    where
      by : {e : room.NoRoom} → Ok n ≡ Err e → ⊥
      by h = cc

module _ (f : Format) (x : Float) (layout : FloatLayout) (old new : List ℕ)
    (result : Result ℕ room.NoRoom)
    (is : (text : List ℕ) × (IsTextOf f x layout text × Writes text old new result)) where
  pub text_there : (n : ℕ) → result ≡ Ok n → IsTextOf f x layout (take n new)
  text_there n e =
      let w = wrote is.0 old new result is.1.1 n e in
      let same : is.0 ≡ take n new =
      sym (ap (λ (k : ℕ). take k new) (sym w.0) ∙ ap (take (length is.0)) w.1.1
      ∙ take-append_seam is.0 (drop (length is.0) old)) in
      subst (IsTextOf f x layout) same is.1.0

-- ---- the kinds of floats

pub number : (x : Float) → IsTrue (float_is_finite x) → T (not (is_nan x))
unfolding float_is_finite is_nan
number nan e = cc
number (inf s) e = cc
number (fin s m k) e = tt

pub finite_else : (x : Float) (a b : Bool) → a ≡ is_nan x → a ≡ false → b ≡ float_is_infinite x
    → b ≡ false
    → IsTrue (float_is_finite x)
unfolding float_is_finite float_is_infinite is_nan
finite_else nan a b i j k l = cc
finite_else (inf s) a b i j k l = cc
finite_else (fin s m e) a b i j k l = refl
