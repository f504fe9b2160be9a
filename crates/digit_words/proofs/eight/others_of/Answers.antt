use Rattle.std.proofs.Common.{◌≡◌, ℕ, ◌≤◌, bit_or, refl, arith}
use Rattle.std.proofs.lemmas.Nat.{le_or_l, le_or_r}
use Rattle.digit_words.proofs.WordOfDigits.{are_digits}
use Rattle.digit_words.proofs.FrontOfWord.{first_are}
use Rattle.digit_words.proofs.eight.others_of.Goals as goal

module _ (a b : ℕ) (none : bit_or a b ≡ 0) where
  no_low : a ≡ 0
  no_low = let l : a ≤ bit_or a b = le_or_l a b in omega (arith, l, none)

  no_high : b ≡ 0
  no_high = let l : b ≤ bit_or a b = le_or_r a b in omega (arith, l, none)

pub returns-clause-none : goal.returns-clause-none
returns-clause-none c = λ none.
    are_digits c.args.digits (omega arith) (no_low _ _ none) (no_high _ _ none)

pub returns-clause-first : goal.returns-clause-first
returns-clause-first c = λ some.
    first_are c.args.digits _ refl (omega arith) some
