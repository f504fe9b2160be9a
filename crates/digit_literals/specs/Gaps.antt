-- What a gap says, byte by byte.
pub use Rattle.digit_values.specs.Bytes.{HasBytes}
use Rattle.std.specs.Prelude.{◌≡◌, ℕ, Bool}
use Rattle.digit_literals.specs.declared.list.Gap.{Gap}

-- the separators and the blanks of a gap, whether blanks separate, and whether a separator may be
-- last
pub record IsGap (gap : Gap) (separates is_around : ℕ → Bool) (blank_is_one is_last : Bool)
    : Type 0 where
  pub separators : HasBytes gap.separators separates
  pub blanks : HasBytes gap.blanks is_around
  pub blanks_separate : gap.blanks_separate ≡ blank_is_one
  pub may_trail : gap.may_trail ≡ is_last
