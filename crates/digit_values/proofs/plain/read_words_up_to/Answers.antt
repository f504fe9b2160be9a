use Rattle.std.proofs.Common.{◌≡◌, ℕ, ◌+◌, ◌*◌, ◌^◌, ◌≤◌, List, refl, arith}
use Rattle.std.specs.Prelude.{Some, length}
use Rattle.lexical_digits.specs.declared.skip.rule.Rule.{Rule}
use Rattle.digit_words.specs.Eight.{IsWritten}
use Rattle.digit_values.specs.Reads.{ArePlain}
use Rattle.digit_values.proofs.PlainDigits.{none_plain, more_plain}
use Rattle.digit_values.proofs.plain.read_words_up_to.Goals as goal

module _ (rule : Rule) (text : List ℕ) (start most count value : ℕ) (ten : rule.radix ≡ 10)
    (within : start ≤ length text) (first : IsWritten text start count value) where
  one_word : value ≤ most → ArePlain rule text start 0 (Some most) (start + count) value
  one_word fits =
      more_plain rule text start 0 (Some most) ten start 0 count value (start + count) value
      (none_plain rule text start 0 (Some most) within (omega arith) (omega arith)) first refl
      (record { is = omega arith; fits = fits }) tt

  two_words : (next more all : ℕ) → value ≤ most → IsWritten text (start + count) next more
      → all ≡ value * 10 ^ next + more → all ≤ most
      → ArePlain rule text start 0 (Some most) (start + count + next) all
  two_words next more all few second is fits =
      more_plain rule text start 0 (Some most) ten (start + count) value next more _ all
      (one_word few) second refl (record { is = is; fits = fits }) tt

pub returns-then-first-lt8 : goal.returns-then-first-lt8
returns-then-first-lt8 c =
    one_word c.args.rule c.args.text.now c.args.start c.args.most _ _ c.requires.radix
    (omega (arith, c.requires.within)) c.front_at-first.ensures.is
    (omega (arith, c.requires.large, c.front_at-first.ensures.below))

pub returns : goal.returns
returns c =
    two_words c.args.rule c.args.text.now c.args.start c.args.most _ _ c.requires.radix
    (omega (arith, c.requires.within)) c.front_at-first.ensures.is _ _ c.join.result
    (omega (arith, c.requires.large, c.front_at-first.ensures.below))
    c.front_at-second.ensures.is c.join.ensures.is
    (omega (arith, c.join.ensures.below, c.requires.large))
