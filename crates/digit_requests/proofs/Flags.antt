-- A field is read as a component, or as the flags of one, exactly if it is spelled so.
use Rattle.std.proofs.Common.{◌≡◌, ◌≢◌, ℕ, true, false, List, [], ◌∷◌, All, Some, refl, subst, arith}
use mathlib.Core.Logic.{inl, inr}
use Rattle.std.specs.Prelude.{nat_eq, codes, bytes_eq}
use Rattle.std.specs.List.{IsDistinct, AllByRecursion}
use Rattle.std.proofs.lemmas.Bool.{cases_Bool}
use Rattle.std.proofs.lemmas.Bool.Decides.{nat_tests}
use Rattle.std.proofs.lemmas.List.Elements.{All-head, All-tail, All-cons, All-nil}
use Rattle.lexical_digits.specs.declared.skip.component.Component.{Component}
use Rattle.lexical_digits.specs.declared.skip.component.Component.TheVariants.{Integer, Fraction, Exponent, Special}
use Rattle.lexical_format.specs.declared.builder.DigitSeparatorFlags.{DigitSeparatorFlags}
use Rattle.lexical_format.specs.declared.builder.NumberFormatBuilder.{NumberFormatBuilder}
use Rattle.digit_requests.specs.Line.{name_of, component_of, IsFlagLetter, has_letter, AreNumberFlags, AreLetters, AreFlags, is_flag_letter, are_flag_letters, number_flags_of, letters_of, flags_of, with_radixes}
use Rattle.std.proofs.lemmas.Slice.Eq.{bytes_eq-Decides}

-- ---- the names of the components

pub component_from : (field : List ℕ) (k : Component) →
    component_of field ≡ Some k → field ≡ name_of k
component_from field k e = grind (arith, bytes_eq-Decides)

pub component_to : (field : List ℕ) (k : Component) →
    field ≡ name_of k → component_of field ≡ Some k
component_to field k e = grind arith

-- ---- letters

letter_from : (b : ℕ) → is_flag_letter b ≡ true → IsFlagLetter b
letter_from b h = grind (arith, nat_tests)

letter_to : (b : ℕ) → IsFlagLetter b → is_flag_letter b ≡ true
letter_to b h = grind (arith, nat_tests)

-- a letter that a field doesn't have differs from each of its bytes
others_from : (x : ℕ) (field : List ℕ) → has_letter x field ≡ false
    → AllByRecursion (λ b. nat_eq x b ≡ false) field
others_from x [] h = tt
others_from x (b ∷ bs) h = grind (arith, nat_tests, others_from x bs)

others_to : (x : ℕ) (field : List ℕ) → AllByRecursion (λ b. nat_eq x b ≡ false) field
    → has_letter x field ≡ false
others_to x [] h = refl
others_to x (b ∷ bs) h = grind (arith, nat_tests, others_to x bs)

letters_from : (field : List ℕ) → are_flag_letters field ≡ true → All IsFlagLetter field
letters_from [] h = All-nil IsFlagLetter
letters_from (b ∷ bs) h = grind (arith, letter_from, letters_from bs, All-cons IsFlagLetter)

distinct_from : (field : List ℕ) → are_flag_letters field ≡ true → IsDistinct nat_eq field
unfolding IsDistinct
distinct_from [] h = tt
distinct_from (b ∷ bs) h = grind (arith, others_from, distinct_from bs)

letters_to : (field : List ℕ) → All IsFlagLetter field → IsDistinct nat_eq field
    → are_flag_letters field ≡ true
unfolding IsDistinct
letters_to [] letters distinct = refl
letters_to (b ∷ bs) letters distinct =
    let is = letter_to b (All-head IsFlagLetter b bs letters) in
    let once = others_to b bs distinct.0 in
    rw (is, once) (letters_to bs (All-tail IsFlagLetter b bs letters) distinct.1)

-- ---- the flags

number_flags_from : (field : List ℕ) (flags : DigitSeparatorFlags) →
    number_flags_of field ≡ Some flags → AreNumberFlags field flags
number_flags_from field flags e =
    grind (arith, nat_tests, letters_from field, distinct_from field)

number_flags_to : (field : List ℕ) (flags : DigitSeparatorFlags) →
    AreNumberFlags field flags → number_flags_of field ≡ Some flags
number_flags_to field flags a =
    grind (arith, nat_tests, letters_to field a.letters a.none_twice)

letters_of_from : (k : Component) (field : List ℕ) (f : NumberFormatBuilder) (r : ℕ × ℕ) (s : ℕ) →
    letters_of k field ≡ Some f → AreLetters k field (with_radixes f r s)
letters_of_from k field f r s e = grind (arith, bytes_eq-Decides, number_flags_from field)

-- what a format is without radixes and separator
abbrev flags_in : NumberFormatBuilder → NumberFormatBuilder
flags_in f = with_radixes f (10, 0) 0

letters_of_to : (k : Component) (field : List ℕ) (f : NumberFormatBuilder) →
    AreLetters k field f → letters_of k field ≡ Some (flags_in f)
letters_of_to Integer field f (a, b, c, d) = rw (number_flags_to field f.integer a, b, c, d) refl
letters_of_to Fraction field f (a, b, c, d) = rw (number_flags_to field f.fraction a, b, c, d) refl
letters_of_to Exponent field f (a, b, c, d) = rw (number_flags_to field f.exponent a, b, c, d) refl
letters_of_to Special field f (a, b, c, d, e) = rw (a, b, c, d, e) refl

pub flags_from : (k : Component) (field : List ℕ) (f : NumberFormatBuilder) (r : ℕ × ℕ) (s : ℕ) →
    flags_of k field ≡ Some f → AreFlags k field (with_radixes f r s)
flags_from k field f r s e = elim (cases_Bool (bytes_eq field (codes "-"))) [
  | inl t ↦ inl (grind (arith, bytes_eq-Decides))
  | inr t ↦ inr (letters_of_from k field f r s (rw t at e))
]

-- a hyphen is no letter
hyphen : (field : List ℕ) → All IsFlagLetter field → field ≢ codes "-"
hyphen field letters = λ e.
    let one : All IsFlagLetter (45 ∷ []) = subst (All IsFlagLetter) e letters in
    grind (arith, All-head IsFlagLetter 45 [] one)

letters_no_hyphen : (k : Component) (field : List ℕ) (f : NumberFormatBuilder)
    → AreLetters k field f → field ≢ codes "-"
letters_no_hyphen Integer field f a = hyphen field a.0.letters
letters_no_hyphen Fraction field f a = hyphen field a.0.letters
letters_no_hyphen Exponent field f a = hyphen field a.0.letters
letters_no_hyphen Special field f a = λ e. grind arith

pub flags_to : (k : Component) (field : List ℕ) (f : NumberFormatBuilder) →
    AreFlags k field f → flags_of k field ≡ Some (flags_in f)
flags_to k field f (inl none) = rw (none.0, none.1.0, none.1.1, none.1.2, none.1.3) refl
flags_to k field f (inr a) =
    grind (arith, bytes_eq-Decides, letters_no_hyphen k field f a, letters_of_to k field f a)
