-- The sign of a float is the top bit of its pattern.
use Rattle.std.proofs.Common.{◌≡◌, ℕ, ◌+◌, ◌*◌, ◌%◌, ◌<◌, Bool, true, false, cond, T, sym, ap, subst, ◌∙◌, arith}
use mathlib.Core.Bool.{not}
use mathlib.Core.Logic.{◌⊎◌, inl, inr}
use lib.Ieee.{Float, Format, nan, inf, fin, binary32, binary64, top, neg, is_nan, fits, of_bits, to_bits, nan_bits}
use lib.Ieee.Fits.{neg-fits}
use lib.Ieee.Bits.{of_bits-to_bits, to_bits-lt, nan_bits_is}
use mir.Val.{bool_byte}
use Rattle.std.specs.Float.{NotNan}

sign : Float → Bool
sign nan = false
sign (inf s) = s
sign (fin s m e) = s

-- the bits below the top one
rest : Format → Float → ℕ
unfolding to_bits
rest f nan = 0
rest f (inf s) = to_bits f (inf false)
rest f (fin s m e) = to_bits f (fin false m e)

bits_are : (f : Format) (x : Float) → NotNan x → to_bits f x ≡ cond (sign x) (top f) 0 + rest f x
unfolding to_bits is_nan sign rest
bits_are f nan n = absurd n
bits_are f (inf s) n = omega arith
bits_are f (fin s m e) n = omega arith

negated_bits : (f : Format) (x : Float) → NotNan x
    → to_bits f (neg x) ≡ cond (not (sign x)) (top f) 0 + rest f x
unfolding to_bits is_nan sign rest neg
negated_bits f nan n = absurd n
negated_bits f (inf s) n = omega arith
negated_bits f (fin s m e) n = omega arith

-- the bits of a float and of its negative
abbrev pub Flips : Format → ℕ → ℕ → Type 0
Flips f b c = ((b < top f) × (c ≡ b + top f)) ⊎ ((b < 2 * top f) × (b ≡ c + top f))

pub flips : (f : Format) (x : Float) → T (fits f x) → NotNan x
    → Flips f (to_bits f x) (to_bits f (neg x))
flips f x fit n =
    go (sign x) (bits_are f x n) (negated_bits f x n)
    (to_bits-lt f x fit) (to_bits-lt f (neg x) (neg-fits f x fit))
  where
    go : (s : Bool) → to_bits f x ≡ cond s (top f) 0 + rest f x
        → to_bits f (neg x) ≡ cond (not s) (top f) 0 + rest f x
        → to_bits f x < 2 * top f → to_bits f (neg x) < 2 * top f
        → Flips f (to_bits f x) (to_bits f (neg x))
    go true a b l m = inr (l, omega (arith, a, b))
    go false a b l m = inl (omega (arith, a, b, m), omega (arith, a, b))

number_neg : (x : Float) → NotNan x → NotNan (neg x)
unfolding neg is_nan
number_neg nan n = absurd n
number_neg (inf s) n = tt
number_neg (fin s m e) n = tt

-- what bits are the float's and its negative's
pub reads_back : (f : Format) (x : Float) → T (fits f x) → (b : ℕ) → b ≡ to_bits f x
    → of_bits f b ≡ x
reads_back f x fit b e = ap (of_bits f) e ∙ of_bits-to_bits f x fit

pub reads_back_neg : (f : Format) (x : Float) → T (fits f x) → (b : ℕ) → b ≡ to_bits f (neg x)
    → of_bits f b ≡ neg x
reads_back_neg f x fit b e = reads_back f (neg x) (neg-fits f x fit) b e

no_nan_bits : (f : Format) (b : ℕ) (x : Float) → NotNan x → of_bits f b ≡ x → T (not (nan_bits f b))
no_nan_bits f b x n e =
    subst (λ b. T (not b)) (sym (nan_bits_is f b)) (subst (λ y. T (not (is_nan y))) (sym e) n)

pub number : (f : Format) (x : Float) → T (fits f x) → NotNan x → (b : ℕ) → b ≡ to_bits f x
    → T (not (nan_bits f b))
number f x fit n b e = no_nan_bits f b x n (reads_back f x fit b e)

pub number_negated : (f : Format) (x : Float) → T (fits f x) → NotNan x → (b : ℕ)
    → b ≡ to_bits f (neg x) → T (not (nan_bits f b))
number_negated f x fit n b e =
    no_nan_bits f b (neg x) (number_neg x n) (reads_back_neg f x fit b e)

-- the sign bit is added
flipped : (f : Format) (b : Bool) (x : Float) → T (fits f x) → NotNan x → (c : ℕ)
    → c ≡ to_bits f (cond b (neg x) x) → of_bits f c ≡ cond b (neg x) x
flipped f true x fit n c e = reads_back_neg f x fit c e
flipped f false x fit n c e = reads_back f x fit c e

no_nan : (f : Format) (b : Bool) (x : Float) → T (fits f x) → NotNan x → (c : ℕ)
    → c ≡ to_bits f (cond b (neg x) x) → T (not (nan_bits f c))
no_nan f true x fit n c e = number_negated f x fit n c e
no_nan f false x fit n c e = number f x fit n c e

bits_64 : (b : Bool) (x : Float) → T (fits binary64 x) → NotNan x → (k : ℕ) → k ≡ bool_byte b
    → (to_bits binary64 x + k * 9223372036854775808 % 18446744073709551616) % 18446744073709551616
    ≡ to_bits binary64 (cond b (neg x) x)
bits_64 true x fit n k e = go (flips binary64 x fit n)
  where
    go : Flips binary64 (to_bits binary64 x) (to_bits binary64 (neg x))
        → (to_bits binary64 x + k * 9223372036854775808 % 18446744073709551616)
        % 18446744073709551616 ≡ to_bits binary64 (neg x)
    go (inl m) = omega (arith, e, m.0, m.1)
    go (inr m) = omega (arith, e, m.0, m.1)
bits_64 false x fit n k e = omega (arith, e, to_bits-lt binary64 x fit)

bits_32 : (b : Bool) (x : Float) → T (fits binary32 x) → NotNan x → (k : ℕ) → k ≡ bool_byte b
    → (to_bits binary32 x + k * 2147483648 % 4294967296) % 4294967296
    ≡ to_bits binary32 (cond b (neg x) x)
bits_32 true x fit n k e = go (flips binary32 x fit n)
  where
    go : Flips binary32 (to_bits binary32 x) (to_bits binary32 (neg x))
        → (to_bits binary32 x + k * 2147483648 % 4294967296) % 4294967296
        ≡ to_bits binary32 (neg x)
    go (inl m) = omega (arith, e, m.0, m.1)
    go (inr m) = omega (arith, e, m.0, m.1)
bits_32 false x fit n k e = omega (arith, e, to_bits-lt binary32 x fit)

pub flipped_64 : (b : Bool) (x : Float) → T (fits binary64 x) → NotNan x → (k : ℕ)
    → k ≡ bool_byte b
    → of_bits binary64 ((to_bits binary64 x + k * 9223372036854775808 % 18446744073709551616)
    % 18446744073709551616) ≡ cond b (neg x) x
flipped_64 b x fit n k e = flipped binary64 b x fit n _ (bits_64 b x fit n k e)

pub no_nan_64 : (b : Bool) (x : Float) → T (fits binary64 x) → NotNan x → (k : ℕ)
    → k ≡ bool_byte b
    → T (not (nan_bits binary64 ((to_bits binary64 x
    + k * 9223372036854775808 % 18446744073709551616) % 18446744073709551616)))
no_nan_64 b x fit n k e = no_nan binary64 b x fit n _ (bits_64 b x fit n k e)

pub flipped_32 : (b : Bool) (x : Float) → T (fits binary32 x) → NotNan x → (k : ℕ)
    → k ≡ bool_byte b
    → of_bits binary32 ((to_bits binary32 x + k * 2147483648 % 4294967296) % 4294967296)
    ≡ cond b (neg x) x
flipped_32 b x fit n k e = flipped binary32 b x fit n _ (bits_32 b x fit n k e)

pub no_nan_32 : (b : Bool) (x : Float) → T (fits binary32 x) → NotNan x → (k : ℕ)
    → k ≡ bool_byte b
    → T (not (nan_bits binary32 ((to_bits binary32 x + k * 2147483648 % 4294967296) % 4294967296)))
no_nan_32 b x fit n k e = no_nan binary32 b x fit n _ (bits_32 b x fit n k e)
