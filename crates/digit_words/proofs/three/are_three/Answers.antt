use Rattle.std.proofs.Common.{◌≡◌, ℕ, ◌≤◌, bit_or, arith}
use Rattle.std.proofs.lemmas.Bool.{eqb-true}
use Rattle.std.proofs.lemmas.Nat.{le_or_l, le_or_r}
use Rattle.digit_words.proofs.ThreeDigits.{three_is}
use Rattle.digit_words.proofs.three.are_three.Goals as goal

module _ (a b : ℕ) (none : bit_or a b ≡ 0) where
  no_low : a ≡ 0
  no_low = let l : a ≤ bit_or a b = le_or_l a b in omega (arith, l, none)

  no_high : b ≡ 0
  no_high = let l : b ≤ bit_or a b = le_or_r a b in omega (arith, l, none)

pub returns : goal.returns
returns c = λ same.
    let none = eqb-true _ 0 same in
    three_is c.args.digits (omega arith) (no_low _ _ none) (no_high _ _ none)
