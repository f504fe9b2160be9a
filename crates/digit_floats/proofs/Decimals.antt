-- The digits of radix 10 are the ASCII digits, and those of radix 16 the hexadecimal ones.
use Rattle.std.proofs.Common.{◌≡◌, ℕ, Bool, List, [], ◌∷◌, refl, arith}
use Rattle.std.specs.Char.{is_ascii_digit, is_ascii_hexdigit}
use Rattle.std.specs.List.{filter}
use Rattle.std.proofs.lemmas.Bool.Decides.{nat_tests}
use Rattle.lexical_digits.specs.declared.skip.rule.Rule.{Rule}
use Rattle.lexical_digits.specs.Separators.{is_digit}
use Rattle.lexical_format.specs.Digits as words
use Rattle.digit_values.proofs.ForCallers.{dropped}

pub same_digit : (rule : Rule) (byte : ℕ) → rule.radix ≡ 10
    → is_digit rule byte ≡ is_ascii_digit byte
unfolding is_digit words.digit_value
same_digit rule byte e = grind (arith, nat_tests)

pub same_hexdigit : (rule : Rule) (byte : ℕ) → rule.radix ≡ 16
    → is_digit rule byte ≡ is_ascii_hexdigit byte
unfolding is_digit words.digit_value
same_hexdigit rule byte e = grind (arith, nat_tests)

same_filter : (p q : ℕ → Bool) → ((x : ℕ) → q x ≡ p x) → (xs : List ℕ)
    → filter p xs ≡ filter q xs
same_filter p q e [] = refl
same_filter p q e (x ∷ xs) = rw (e x, same_filter p q e xs) refl

pub digits_are : (rule : Rule) (xs : List ℕ) → rule.radix ≡ 10
    → filter is_ascii_digit xs ≡ filter (is_digit rule) xs
digits_are rule xs e = same_filter is_ascii_digit (is_digit rule) (λ x. same_digit rule x e) xs

pub hexdigits_are : (rule : Rule) (xs : List ℕ) → rule.radix ≡ 16
    → filter is_ascii_hexdigit xs ≡ filter (is_digit rule) xs
hexdigits_are rule xs e =
    same_filter is_ascii_hexdigit (is_digit rule) (λ x. same_hexdigit rule x e) xs

-- both, to be named in an attribute
pub ruleset digits_of_radix = (digits_are, hexdigits_are)

pub ruleset firsts = (digits_of_radix, dropped)
