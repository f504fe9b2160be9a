-- Digits with a point and an exponent, in a text and in one that begins there, don't depend on what
-- is before them, nor on what follows a byte that no number has.
use Rattle.std.proofs.Common.{◌≡◌, ℕ, ◌+◌, ◌≤◌, Bool, true, false, cond, List, [], length, Option, Some, None, refl, ◌∙◌, ap, arith}
use Rattle.std.specs.Prelude.{◌&&◌, ◌||◌, ◌==◌, ◌++◌, nat_lt, not, if◌then◌else◌, IfSome}
use Rattle.std.specs.Float.{Format}
use Rattle.std.specs.Float.Numeral.{Parts, has_digits}
use Rattle.std.specs.Str.Parse.{digits_value}
use Rattle.std.proofs.lemmas.Bool.Decides.{nat_tests}
use Rattle.lexical_digits.specs.declared.skip.component.Component.TheVariants.{Integer}
use Rattle.lexical_digits.specs.Cursor.{holds_of}
use Rattle.lexical_digits.specs.State.{rule_of}
use Rattle.lexical_digits.proofs.Calls.BothSides.{AreSameFrom, weaker, cut_if, cut_and, cut_test}
use Rattle.digit_floats.specs.Bytes.{stands, is_mark, is_point}
use Rattle.digit_floats.specs.declared.parts.Marks.{Marks}
use Rattle.digit_floats.specs.Float.{exponent_digits, exponent_end, exponent_negative}
use Rattle.digit_floats.specs.Hexadecimal.{nearest_hex}
use Rattle.digit_floats.proofs.BothSides as floats
use Rattle.digit_floats.proofs.BothSides.{NoScaled, NoFloat}
use Rattle.digit_numbers.specs.declared.form.Form.{Form}
use Rattle.digit_numbers.specs.Forms.{is_barred, allows_exponent, is_pointed_hex}
use Rattle.digit_numbers.specs.Numbers.{whole_digits, whole_end, fraction, allows_point, has_point}
use Rattle.digit_numbers.specs.Numbers.{is_hex_here, mark, mark_or}
use Rattle.digit_numbers.specs.Numbers.{mark_at, exponent, has_exponent, digits_stop, parts}
use Rattle.digit_numbers.specs.Numbers.{has_more_zeros, is_float, is_hex_float, hex_value}

if_upto : (at : ℕ) (b : Bool) (x z : ℕ) → x ≤ at → z ≤ at → cond b x z ≤ at
if_upto at true x z h k = h
if_upto at false x z h k = k

some_same : (d e : List ℕ) → d ≡ e → nat_lt 0 (length d) ≡ nat_lt 0 (length e)
some_same d e h = rw h refl

-- ---- the parts of a form's digits

-- no float goes on with this byte, if there is one, and it doesn't say that a point is none
pub record NoPart (f : Form) (o : Option ℕ) : Type 0 where
  pub floats : NoFloat f.integers.decimal f.marks o
  pub allows : holds_of (is_barred f.after_point) o ≡ false
  pub others : IfSome f.other_mark (λ mark. holds_of (is_mark mark) o ≡ false)
  pub zero : holds_of (λ b. b == 48) o ≡ false

module _ (f : Form) (one : List ℕ) (from : ℕ) (other : List ℕ) (at : ℕ)
    (both : AreSameFrom (NoPart f) one from other at) (x i : ℕ) (e : x ≡ from + i)
    (low : i ≤ at) where
  abbrev word : ℕ
  word = f.integers.decimal

  scaled : AreSameFrom (NoScaled word f.marks.point) one from other at
  scaled = weaker (NoPart f) _ (λ o h. h.floats.scaled) one from other at both

  abbrev end : ℕ
  end = whole_end f other i

  whole_same : whole_digits f one x ≡ whole_digits f other i
  whole_same = floats.cut_whole word f.marks.point one from other at scaled x i e low

  end_later : whole_end f one x ≡ from + end
  end_later = floats.cut_whole_end word f.marks.point one from other at scaled x i e low

  end_upto : end ≤ at
  end_upto = floats.whole_upto word f.marks.point one from other at scaled x i e low

  fraction_same : fraction f one x ≡ fraction f other i
  fraction_same = floats.cut_part word f.marks.point one from other at scaled x i e low

  -- ---- the point

  stands_point : stands (is_point f.marks.point) one (whole_end f one x)
      ≡ stands (is_point f.marks.point) other end
  stands_point =
      floats.cut_point word f.marks.point one from other at scaled _ end end_later end_upto

  allowed : (w v d e : List ℕ) (b c : Bool) → w ≡ v → d ≡ e → b ≡ c
      → (nat_lt 0 (length w) || not f.needs_integer)
      && (nat_lt 0 (length d) || not (f.needs_fraction || b))
      ≡ (nat_lt 0 (length v) || not f.needs_integer)
      && (nat_lt 0 (length e) || not (f.needs_fraction || c))
  allowed w v d e b c h k l = rw (h, k, l) refl

  allows_same : stands (is_point f.marks.point) other end ≡ true
      → allows_point f one x ≡ allows_point f other i
  allows_same is =
      allowed _ _ _ _ _ _ whole_same fraction_same
      (cut_test (NoPart f) one from other at both (is_barred f.after_point) (λ o h. h.allows)
      (whole_end f one x + 1) (end + 1) (omega (arith, end_later))
      (floats.point_before word f.marks.point one from other at scaled _ end end_later end_upto is))

  point_same : has_point f one x ≡ has_point f other i
  point_same = cut_and _ _ _ _ stands_point allows_same

  -- ---- the exponent

  mark_later : mark_at f one x ≡ from + mark_at f other i
  mark_later =
      cut_if (λ n. from + n) _ _ _ _ _ _ point_same
      (λ is. floats.cut_mantissa word f.marks.point one from other at scaled x i e low) end_later

  mark_upto : mark_at f other i ≤ at
  mark_upto =
      if_upto at (has_point f other i) _ _
      (floats.mantissa_upto word f.marks.point one from other at scaled x i e low) end_upto

  letter_same : mark f one x ≡ mark f other i
  letter_same = by f.other_mark (λ o h. h.others)
    where
      by : (m : Option ℕ)
          → ((o : Option ℕ) → NoPart f o → IfSome m (λ mark. holds_of (is_mark mark) o ≡ false))
          → mark_or f one m (mark_at f one x) ≡ mark_or f other m (mark_at f other i)
      by None none = refl
      by (Some mark) none =
          ap (λ b. if b then mark else f.marks.exponent)
          (cut_test (NoPart f) one from other at both (is_mark mark) none _ (mark_at f other i)
          mark_later mark_upto)

  -- the marks of the form, with the letter that is there
  abbrev marks : Marks
  marks = record f.marks { exponent = mark f other i }

  no_letter : (o : Option ℕ) → NoPart f o → holds_of (is_mark (mark f other i)) o ≡ false
  no_letter o h = by f.other_mark h.others
    where
      by : (m : Option ℕ) → IfSome m (λ mark. holds_of (is_mark mark) o ≡ false)
          → holds_of (is_mark (mark_or f other m (mark_at f other i))) o ≡ false
      by None none = h.floats.mark
      by (Some mark) none = or (stands (is_mark mark) other (mark_at f other i))
        where
          or : (b : Bool) → holds_of (is_mark (if b then mark else f.marks.exponent)) o ≡ false
          or true = none
          or false = h.floats.mark

  marked : AreSameFrom (NoFloat word marks) one from other at
  marked =
      weaker (NoPart f) (NoFloat word marks)
      (λ o h. record {
        scaled = h.floats.scaled;
        power = h.floats.power;
        mark = no_letter o h;
      })
      one from other at both

  exponent_same : exponent f one x ≡ exponent f other i
  exponent_same =
      cut_if (λ (ds : List ℕ). ds) _ _ _ _ _ _
      (ap (allows_exponent f.exponents) (some_same _ _ fraction_same))
      (λ is. ap (λ m. exponent_digits word one m (mark_at f one x)) letter_same
      ∙ floats.cut_exponent word marks one from other at marked _ _ mark_later mark_upto) refl

  marked_same : has_exponent f one x ≡ has_exponent f other i
  marked_same = some_same _ _ exponent_same

  pub stop_later : digits_stop f one x ≡ from + digits_stop f other i
  stop_later =
      cut_if (λ n. from + n) _ _ _ _ _ _ marked_same
      (λ is. ap (λ m. exponent_end word one m (mark_at f one x)) letter_same
      ∙ floats.cut_exponent_end word marks one from other at marked _ _ mark_later mark_upto)
      mark_later

  negative_same : exponent_negative word one (mark f one x) (mark_at f one x)
      ≡ exponent_negative word other (mark f other i) (mark_at f other i)
  negative_same =
      ap (λ m. exponent_negative word one m (mark_at f one x)) letter_same
      ∙ floats.cut_negative word marks one from other at marked _ _ mark_later mark_upto

  -- ---- the parts, and whether they are a float

  abbrev parts_by : List ℕ → Bool → List ℕ → Bool → List ℕ → ℕ → Parts
  parts_by whole point fraction negative exponent len = record {
    whole = whole;
    point = point;
    fraction = if point then fraction else [];
    exponent_negative = negative;
    exponent = exponent;
    len = len;
  }

  parts_of : (w v : List ℕ) (p q : Bool) (d e : List ℕ) (n m : Bool) (y z : List ℕ) (s t : ℕ)
      → w ≡ v → p ≡ q → d ≡ e → n ≡ m → y ≡ z → s ≡ t
      → parts_by w p d n y s ≡ parts_by v q e m z t
  parts_of w v p q d e n m y z s t a b c h k l = rw (a, b, c, h, k, l) refl

  pub parts_same : parts f one x ≡ parts f other i
  parts_same =
      parts_of _ _ _ _ _ _ _ _ _ _ _ _ whole_same point_same fraction_same negative_same
      exponent_same (omega (arith, stop_later, e))

  zeros_of : (b c : Bool) (s t : ℕ) → b ≡ c → s ≡ from + t
      → not f.float_zeros && b && nat_lt (x + 1) s ≡ not f.float_zeros && c && nat_lt (i + 1) t
  zeros_of b c s t h k =
      let less : nat_lt (x + 1) s ≡ nat_lt (i + 1) t = grind (arith, nat_tests, e, k) in
      rw (h, less) refl

  pub zeros_same : has_more_zeros f one x ≡ has_more_zeros f other i
  zeros_same =
      zeros_of _ _ _ _
      (cut_test (NoPart f) one from other at both (λ b. b == 48) (λ o h. h.zero) x i e low)
      end_later

  float_of : (p q : Parts) (z y b c e d : Bool) → p ≡ q → z ≡ y → b ≡ c → e ≡ d
      → has_digits p && not z && (b || e) ≡ has_digits q && not y && (c || d)
  float_of p q z y b c e d h k l m = rw (h, k, l, m) refl

  pub float_same : is_float f one x ≡ is_float f other i
  unfolding is_float
  float_same = float_of _ _ _ _ _ _ _ _ parts_same zeros_same point_same marked_same

  -- ---- a hexadecimal float

  hex_of : (p q : Parts) (e d b c : Bool) → p ≡ q → e ≡ d → b ≡ c
      → has_digits p && (e || b) ≡ has_digits q && (d || c)
  hex_of p q e d b c k l m = rw (k, l, m) refl

  hex_same : is_hex_float f one x ≡ is_hex_float f other i
  unfolding is_hex_float
  hex_same =
      hex_of _ _ _ _ _ _ parts_same marked_same
      (cut_if (λ (b : Bool). b) _ _ _ _ _ _ stands_point
      (λ is. ap (λ a. a && is_pointed_hex f.hex_floats) (allows_same is)) refl)

  bare_of : (w v : List ℕ) (s t : ℕ) → w ≡ v → s ≡ from + t
      → length w == 0 && nat_lt x s && not (rule_of word Integer).trailing
      ≡ length v == 0 && nat_lt i t && not (rule_of word Integer).trailing
  bare_of w v s t k l =
      let less : nat_lt x s ≡ nat_lt i t = grind (arith, nat_tests, e, l) in
      rw (k, less) refl

  pub hex_here_same : is_hex_here f one x ≡ is_hex_here f other i
  unfolding is_hex_here
  hex_here_same =
      cut_and _ _ _ _ (ap not (bare_of _ _ _ _ whole_same end_later)) (λ is. hex_same)

  pub hex_value_same : (format : Format) (negative : Bool)
      → hex_value f one x format negative ≡ hex_value f other i format negative
  hex_value_same format negative =
      ap (λ (p : Parts). nearest_hex format negative (p.whole ++ p.fraction) (length p.fraction)
      p.exponent_negative (digits_value 10 p.exponent)) parts_same
