-- Of functions that no caller sees: what a reader of a float answers. No public clause uses these
-- words.
use Rattle.std.specs.Prelude.{◌≡◌, ℕ, ◌<◌, ◌≤◌, List, length, Result, Ok, Err, MatchResult}
use Rattle.std.specs.Float.{Float, Format, NotNan}
use Rattle.digit_floats.specs.declared.error.FloatError.{FloatError}
use Rattle.digit_floats.specs.Float.{plain_marks, read_at}

-- a float of a type, and the position after it, are those at a start, by the marks `.` and `e`
pub record IsFloatFrom {F : Type 0} (f : Format) (value : F → Float) (word : ℕ) (text : List ℕ)
    (start : ℕ) (read : F × ℕ) : Type 0 where
  pub is : read_at word text plain_marks f start ≡ Ok (value read.0, read.1)
  pub no_nan : NotNan (value read.0)
  pub onward : start < read.1
  pub within : read.1 ≤ length text

-- an answer is these, or why there is no float
abbrev pub ReadsFloat : {F : Type 0} → Format → (F → Float) → ℕ → List ℕ → ℕ
    → Result (F × ℕ) FloatError → Type 0
ReadsFloat f value word text start result =
    MatchResult result (IsFloatFrom f value word text start)
    (λ error. read_at word text plain_marks f start ≡ Err error)
