-- What an outcome says of a float and of where it ends.
use Rattle.std.proofs.Common.{◌≡◌, ℕ, List, length, arith, refl}
use Rattle.std.specs.Prelude.{Result, Ok, Err}
use Rattle.std.proofs.lemmas.Bool.Decides.{nat_tests}
use Rattle.std.specs.Float.{Float}
use Rattle.digit_floats.specs.Float.{with_end, whole_of}
use Rattle.digit_floats.specs.declared.error.FloatError.{FloatError}

pub reads : (x y : Float) (r : Result ℕ FloatError) (end : ℕ)
    → with_end x r ≡ Ok (y, end) → (y ≡ x) × (r ≡ Ok end)
reads x y (Ok e) end h = grind (arith, h)
reads x y (Err error) end h = grind (arith, h)

pub reads_back : (x y : Float) (r : Result ℕ FloatError) (end : ℕ)
    → (y ≡ x) × (r ≡ Ok end) → with_end x r ≡ Ok (y, end)
reads_back x y r end h = rw (h.0, h.1) refl

pub faults : (x : Float) (r : Result ℕ FloatError) (error : FloatError)
    → with_end x r ≡ Err error → r ≡ Err error
faults x (Ok e) error h = grind (arith, h)
faults x (Err other) error h = grind (arith, h)

pub faults_back : (x : Float) (r : Result ℕ FloatError) (error : FloatError)
    → r ≡ Err error → with_end x r ≡ Err error
faults_back x r error h = rw h refl

module _ (word : ℕ) (text : List ℕ) (x y : Float) where
  pub parses : (r : Result ℕ FloatError)
      → whole_of word text (with_end x r) ≡ Ok y → (y ≡ x) × (r ≡ Ok (length text))
  parses (Ok e) h = grind (arith, nat_tests, h)
  parses (Err other) h = grind (arith, h)

  pub parses_back : (r : Result ℕ FloatError)
      → (y ≡ x) × (r ≡ Ok (length text)) → whole_of word text (with_end x r) ≡ Ok y
  parses_back r h = rw (h.0, h.1) (grind (arith, nat_tests))
