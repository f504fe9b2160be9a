-- The text of a number is read as the number, and no shorter one is.
use Rattle.std.proofs.Common.{◌≡◌, ℕ, ℤ, zero, suc, ◌+◌, ◌-◌, ◌^◌, ◌<◌, ◌≤◌, Bool, true, false, List, [], ◌∷◌, ◌++◌, length, take, drop, refl, sym, ap, subst, ◌∙◌, arith, filter, unsigned_abs}
use Rattle.std.specs.Prelude.{Result, Ok, Err, decimal, slice_range, if◌then◌else◌}
use Rattle.std.specs.Fmt.{sign_text}
use Rattle.std.proofs.lemmas.Bool.Decides.{nat_tests}
use Rattle.std.proofs.lemmas.Fmt.{length-decimal-le_wide, decimal_is_IsNumeral_wide}
use Rattle.std.proofs.lemmas.Int.Digits.{digits_value-lt}
use Rattle.std.proofs.lemmas.List.{length-take}
use Rattle.lexical_digits.specs.declared.skip.component.Component.TheVariants.{Integer}
use Rattle.lexical_digits.specs.declared.skip.rule.Rule.{Rule}
use Rattle.lexical_digits.specs.Separators.{is_digit}
use Rattle.lexical_digits.specs.State.{rule_of}
use Rattle.digit_values.specs.declared.LiteralError.{LiteralError}
use Rattle.digit_values.specs.declared.LiteralError.TheVariants as literal
use Rattle.digit_values.specs.After.{digits_between}
use Rattle.digit_integers.specs.Integers.{integer_at}
use Rattle.digit_integers.specs.Numbers.{to_end, signed, with_sign, digits_from, is_negative_from, most_from}
use Rattle.digit_values.proofs.ForCallers.{all_digits}
use Rattle.digit_integers.proofs.Texts.{says_some}
use Rattle.digit_integers.proofs.Written.{number_read, whole_written}
use Rattle.digit_writers.specs.Written.{IsOfRadix, Reads, IsShortest}
use Rattle.std.specs.List.{splice}
use Rattle.digit_writers.proofs.Splices.{take_spliced}

-- ---- a text that was read to its end

pub ended : (text : List ℕ) (read : Result (ℤ × ℕ) LiteralError) (z : ℤ) → to_end text read ≡ Ok z
    → read ≡ Ok (z, length text)
ended text (Ok read) z e = grind (arith, nat_tests, e)
ended text (Err (literal.Empty at)) z e = grind (arith, nat_tests, e)
ended text (Err (literal.Overflow at)) z e = cc

pub to_the_end : (text : List ℕ) (read : Result (ℤ × ℕ) LiteralError) (z : ℤ)
    → read ≡ Ok (z, length text) → to_end text read ≡ Ok z
to_the_end text read z e = ap (to_end text) e ∙ grind (arith, nat_tests)

-- ---- its magnitude and sign

record HasMagnitude (negative : Bool) (read : Result (ℕ × ℕ) LiteralError) (z : ℤ) (end : ℕ)
    : Type 0 where
  magnitude : ℕ
  is : read ≡ Ok (magnitude, end)
  same : signed negative magnitude ≡ z

magnitude_of : (negative : Bool) (read : Result (ℕ × ℕ) LiteralError) (z : ℤ) (end : ℕ)
    → with_sign negative read ≡ Ok (z, end) → HasMagnitude negative read z end
magnitude_of negative (Ok read) z end e =
    let both : (signed negative read.0, read.1) ≡ (z, end) = cc in
    let number = λ (p : ℤ × ℕ). p.0 in
    let place = λ (p : ℤ × ℕ). p.1 in
    record {
      magnitude = read.0;
      is = ap (λ (x : ℕ). Ok (read.0, x)) (ap place both);
      same = ap number both;
    }
magnitude_of negative (Err error) z end e = cc

pub abs_of : (negative : Bool) (n : ℕ) → unsigned_abs (signed negative n) ≡ n
abs_of false n = refl
abs_of true zero = refl
abs_of true (suc n) = refl

minus_only : (negative : Bool) (n : ℕ) → 0 < n → signed negative n ≡ signed true n
    → negative ≡ true
minus_only true n some e = refl
minus_only false zero some e = absurd (omega arith)
minus_only false (suc n) some e = cc

after_minus : (least : ℕ) (text : List ℕ) → is_negative_from least text 0 ≡ true
    → digits_from least text 0 ≡ 1
after_minus least text e = grind (arith, nat_tests, e)

-- ---- it has no fewer digits

fewer_kept : (p : ℕ → Bool) (xs : List ℕ) → length (filter p xs) ≤ length xs
fewer_kept p [] = omega arith
fewer_kept p (x ∷ xs) = grind (arith, fewer_kept p xs)

digits_fit : (rule : Rule) (text : List ℕ) (start most n end : ℕ) → rule.radix ≡ 10 → n < 10 ^ 64
    → integer_at rule text start most ≡ Ok (n, end) → length (decimal n) ≤ end - start
digits_fit rule text start most n end ten few read =
    let is = says_some rule text start most n end read in
    let ds : List ℕ = digits_between rule text start end in
    let below : n < 10 ^ length ds =
    rw (is.is, ← ten) (digits_value-lt rule.radix ds
    (all_digits rule (slice_range text start end))) in
    let within : length ds ≤ end - start =
    omega (
      arith,
      fewer_kept (is_digit rule) (slice_range text start end),
      length-take
          (end - start) (drop start text),
    ) in
    omega (arith, within, length-decimal-le_wide (length ds) n is.some below few)

module _ (word least most n : ℕ) (of : IsOfRadix 10 word) (few : n < 10 ^ 64) where
  abbrev rule : Rule
  rule = rule_of word Integer

  pub none_shorter : (negative : Bool) → (negative ≡ true → 0 < n)
      → IsShortest word least most (signed negative n) (sign_text negative ++ decimal n)
  none_shorter negative some other reads =
      let minus = is_negative_from least other 0 in
      let at = digits_from least other 0 in
      let greatest = most_from least most rule other 0 in
      let read = magnitude_of minus (integer_at rule other at greatest) (signed negative n)
      (length other) (ended other _ _ reads) in
      let same : read.magnitude ≡ n =
      sym (abs_of minus read.magnitude) ∙ ap unsigned_abs read.same ∙ abs_of negative n in
      let is : integer_at rule other at greatest ≡ Ok (n, length other) =
      read.is ∙ ap (λ (x : ℕ). Ok (x, length other)) same in
      let fit = digits_fit rule other at greatest n (length other) of.1 few is in
      let signs : signed minus n ≡ signed negative n = ap (signed minus) (sym same) ∙ read.same in
      by_sign negative some signs fit
    where
      by_sign : (negative : Bool) → (negative ≡ true → 0 < n)
          → signed (is_negative_from least other 0) n ≡ signed negative n
          → length (decimal n) ≤ length other - digits_from least other 0
          → length (sign_text negative ++ decimal n) ≤ length other
      by_sign false some signs fit = omega (arith, fit)
      by_sign true some signs fit =
          let one : digits_from least other 0 ≡ 1 =
          after_minus least other
          (minus_only (is_negative_from least other 0) n (some refl) signs) in
          let begun : 0 < length (decimal n) = (decimal_is_IsNumeral_wide n few).0.0 in
          let long : length (45 ∷ decimal n) ≡ suc (length (decimal n)) = refl in
          omega (arith, fit, one, long, begun)

  pub written_is_read : (negative : Bool) → n ≤ (if negative then least else most)
      → (negative ≡ true → 0 < n)
      → Reads word least most (signed negative n) (sign_text negative ++ decimal n)
  written_is_read negative fits some =
      let text : List ℕ = sign_text negative ++ decimal n in
      let sure : negative ≡ true → 0 < least =
      λ e. omega (arith, some e, subst (λ b. n ≤ (if b then least else most)) e fits) in
      let none : 0 + length text ≡ length text = omega arith in
      let read = number_read rule text 0 least most n of.1 few negative fits sure
      (whole_written rule text) in
      to_the_end text _ _ (rw none at read)

-- ---- what was written at the front of a slice

module _ (word least most n r : ℕ) (negative : Bool) (z : ℤ) (out new : List ℕ) (few : n < 10 ^ 64)
    (fits : n ≤ (if negative then least else most)) (some : negative ≡ true → 0 < n)
    (number : signed negative n ≡ z) (end : r ≡ length (sign_text negative ++ decimal n))
    (written : new ≡ splice out 0 r (sign_text negative ++ decimal n)) (within : r ≤ length out)
    (of : IsOfRadix 10 word) where
  front : sign_text negative ++ decimal n ≡ take r new
  front = sym (ap (take r) written
      ∙ take_spliced out (sign_text negative ++ decimal n) 0 r (omega (arith, end)) within)

  pub front_is_read : Reads word least most z (take r new)
  front_is_read =
      subst (λ (y : ℤ). Reads word least most y (take r new)) number
      (subst (Reads word least most (signed negative n)) front
      (written_is_read word least most n of few negative fits some))

  pub front_is_shortest : IsShortest word least most z (take r new)
  front_is_shortest =
      subst (λ (y : ℤ). IsShortest word least most y (take r new)) number
      (subst (IsShortest word least most (signed negative n)) front
      (none_shorter word least most n of few negative some))
