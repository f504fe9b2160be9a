-- Flags of a word, as code reads them by a mask.
use Rattle.std.proofs.Common.{◌≡◌, ℕ, zero, suc, ◌*◌, ◌^◌, ◌<◌, not, nat_eq, bit_and, arith}
use Rattle.std.proofs.lemmas.Nat.{pow_pos}
use Rattle.std.proofs.lemmas.Nat.Bits.{and_high, and_pow, bit_at-lt}
use Rattle.std.proofs.lemmas.Bool.Decides.{nat_tests}
use Rattle.std.specs.Int.{bit_at}
use Rattle.lexical_format.specs.Word.{bit, separator_flags}

-- the mask of all thirteen flags
pub and_flags : (word : ℕ) → bit_and word (8191 * 2 ^ 32) ≡ separator_flags word
and_flags word = and_high word 13 32

-- a bit that is moved to its place is zero only if it was
moved_bit : (b place : ℕ) → b < 2 → 0 < place → not (nat_eq (b * place) 0) ≡ nat_eq b 1
moved_bit zero place below some = grind (arith, nat_tests)
moved_bit (suc zero) place below some = grind (arith, nat_tests)
moved_bit (suc (suc b)) place below some = absurd (omega arith)

-- the test `word & (1 << place) != 0`
pub flag_test : (word place : ℕ) → not (nat_eq (bit_and word (2 ^ place)) 0) ≡ bit word place
flag_test word place =
    rw (and_pow word place)
    (moved_bit (bit_at word place) (2 ^ place) (bit_at-lt word place) (pow_pos place))

pub special_test : (word : ℕ) → not (nat_eq (bit_and word (2 ^ 44)) 0) ≡ bit word 44
special_test word = flag_test word 44
