use Rattle.std.proofs.Common.{◌≡◌, Bool, true, false, refl, arith}
use Rattle.digit_values.proofs.Firsts.{few_fit}
use Rattle.digit_values.proofs.first.decimals_slice.Goals as goal

never : (b : Bool) → (b ≡ true → ⊥) → b ≡ false
never true e = absurd (e refl)
never false e = refl

pub returns-then-are_few-clause-reads : goal.returns-then-are_few-clause-reads
returns-then-are_few-clause-reads c =
    few_fit _ _ _ _ _ _ (omega arith) (c.if-are_few.ensures refl) (omega arith)
    c.in_ok-read.ensures

pub returns-then-are_few-clause-all : goal.returns-then-are_few-clause-all
returns-then-are_few-clause-all c = never _ (c.in_ok-read.ensures.reads 0).exceeds
