-- The laws of what is written.
use Rattle.std.proofs.Common.{◌≡◌, ℕ, ℤ, suc, ◌^◌, ◌<◌, ◌≤◌, true, false, List, ◌∷◌, length, drop, refl, sym, ap, subst, ◌∙◌, arith, true≢false}
use Rattle.std.specs.Prelude.{Result, Ok, pos, negsuc, decimal}
use Rattle.std.specs.Char.{digit_value}
use Rattle.std.specs.Fmt.{signed_decimal}
use Rattle.std.specs.Str.Parse.{AllDigits, digits_value}
use Rattle.std.proofs.lemmas.Fmt.{decimal_is_IsNumeral_wide}
use Rattle.digit_integers.specs.declared.parse.ParseError.{ParseError}
use Rattle.digit_writers.specs.declared.layout.Layout.{Layout}
use Rattle.digit_writers.specs.Layouts.{laid_out, text_of, IsReadBy}
use Rattle.digit_writers.specs.Written.{IsOfRadix, IsOfType, Reads}
use Rattle.digit_writers.proofs.LaidReading.{laid_is_read, text_is}
use Rattle.digit_writers.proofs.Reading.{written_is_read, none_shorter, to_the_end}

never : {A : Type 0} → false ≡ true → A
never e = absurd (true≢false (sym e))

pub number_read : (word least most : ℕ) (z : ℤ) → IsOfRadix 10 word → IsOfType least most z
    → Reads word least most z (signed_decimal z)
number_read word least most (pos n) of is =
    written_is_read word least most n of (omega (arith, is.1)) false is.0 (λ e. never e)
number_read word least most (negsuc n) of is =
    written_is_read word least most (suc n) of (omega (arith, is.1)) true (omega (arith, is.0))
    (λ _. omega arith)

pub number_no_longer : (word least most : ℕ) (z : ℤ) (text : List ℕ) → IsOfRadix 10 word
    → IsOfType least most z → Reads word least most z text → length (signed_decimal z) ≤ length text
number_no_longer word least most (pos n) text of is reads =
    none_shorter word least most n of (omega (arith, is.1)) false (λ e. never e) text reads
number_no_longer word least most (negsuc n) text of is reads =
    none_shorter word least most (suc n) of (omega (arith, is.1)) true (λ _. omega arith) text reads

-- two numbers that one text is read as are one
ok_same : (read : Result ℤ ParseError) (y z : ℤ) → read ≡ Ok y → read ≡ Ok z → y ≡ z
ok_same read y z first second = cc

one_number : (word least most : ℕ) (y z : ℤ) (one other : List ℕ) → one ≡ other
    → Reads word least most y one → Reads word least most z other → y ≡ z
one_number word least most y z one other same first second =
    ok_same _ y z first (subst (λ (t : List ℕ). Reads word least most z t) (sym same) second)

pub layout_read : (word least most : ℕ) (layout : Layout) (z : ℤ) → IsReadBy word layout least
    → IsOfType least most z → Reads word least most z (laid_out layout z)
layout_read word least most layout (pos n) by is =
    let text : List ℕ = text_of layout false n in
    let read = laid_is_read word least most n layout false by is.0 (λ e. never e) layout.has_plus
    by.signs in
    subst (Reads word least most (pos n)) (text_is layout false n (pos n) (λ e. never e) refl)
    (to_the_end text _ _ read)
layout_read word least most layout (negsuc n) by is =
    let text : List ℕ = text_of layout true (suc n) in
    let read = laid_is_read word least most (suc n) layout true by (omega (arith, is.0))
    (λ _. omega arith) layout.has_plus by.signs in
    subst (Reads word least most (negsuc n))
    (text_is layout true (suc n) (negsuc n) (λ _. omega arith) refl)
    (to_the_end text _ _ read)

pub layout_one : (word least most : ℕ) (layout : Layout) (y z : ℤ) → IsReadBy word layout least
    → IsOfType least most y → IsOfType least most z → laid_out layout y ≡ laid_out layout z → y ≡ z
layout_one word least most layout y z by one other same =
    one_number word least most y z _ _ same (layout_read word least most layout y by one)
    (layout_read word least most layout z by other)

decimal_one : (m n : ℕ) → m < 10 ^ 64 → n < 10 ^ 64 → decimal m ≡ decimal n → m ≡ n
decimal_one m n few other same =
    sym (decimal_is_IsNumeral_wide m few).1
    ∙ ap (digits_value 10) same ∙ (decimal_is_IsNumeral_wide n other).1

no_minus : (m : ℕ) (ds : List ℕ) → m < 10 ^ 64 → decimal m ≡ 45 ∷ ds → ⊥
no_minus m ds few same =
    let all = subst (AllDigits 10) same (decimal_is_IsNumeral_wide m few).0.1 in
    let first : digit_value 45 < 10 = all.0 in
    omega arith

pub number_one : (least most : ℕ) (y z : ℤ) → IsOfType least most y → IsOfType least most z
    → signed_decimal y ≡ signed_decimal z → y ≡ z
number_one least most (pos m) (pos n) one other same =
    ap pos (decimal_one m n (omega (arith, one.1)) (omega (arith, other.1)) same)
number_one least most (pos m) (negsuc n) one other same =
    absurd (no_minus m (decimal (suc n)) (omega (arith, one.1)) same)
number_one least most (negsuc m) (pos n) one other same =
    absurd (no_minus n (decimal (suc m)) (omega (arith, other.1)) (sym same))
number_one least most (negsuc m) (negsuc n) one other same =
    let next : suc m ≡ suc n =
    decimal_one (suc m) (suc n) (omega (arith, one.1)) (omega (arith, other.1))
    (ap (drop 1) same) in
    let last : m ≡ n = omega (arith, next) in
    ap negsuc last

-- what the laws promise
pub ruleset laws = (number_read, number_no_longer, number_one, layout_read, layout_one)
