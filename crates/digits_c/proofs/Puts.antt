-- A text that was written at the front of places.
use Rattle.std.proofs.Common.{◌≡◌, ℕ, ◌^◌, ◌<◌, ◌≤◌, Bool, true, false, List, [], ◌++◌, length, take, drop, refl, sym, ap, subst, ◌∙◌, inl, inr, arith}
use Rattle.std.specs.Prelude.{ℤ, ◌==◌, nat_lt, if◌then◌else◌, max, decimal, unsigned_abs, Option, Some, None, MatchOption, Result, Ok, Err, IfOk, IfErr}
use Rattle.std.specs.Int.{is_negative}
use Rattle.std.specs.Result.{result_unwrap_or}
use Rattle.std.specs.Float.{Float, Format, float_is_finite, nan, inf, fin}
use Rattle.std.proofs.lemmas.Bool.{cases_lt}
use Rattle.std.proofs.lemmas.Bool.Decides.{nat_tests}
use Rattle.std.proofs.lemmas.List.{length-take-le, take_at, drop_at}
use Rattle.decimal_writers.specs.Fixed.{fixed_text}
use Rattle.decimal_writers.specs.Scientific.{scientific_text}
use Rattle.digits.specs.Words.{FloatLayout, FloatTextError, IsReason, IsTextOf, STANDARD, parse_at, plain_marks}
use Rattle.digits.specs.Words.{ExponentText, IsOfRadix, IsReadBy, Layout, NoRoom, Writes, laid_out}
use Rattle.digit_writers.specs.Digits.{last_digits}
use Rattle.digit_writers.specs.Layouts.{HasParts, digit_count, digits_in, grouped, sign_of, text_of}
use Rattle.digit_writers.specs.Valid.{is_layout}
use Rattle.digit_writers.proofs.Plainly.{decimal_is}
use Rattle.digits_c.specs.Texts.{IsGrouped, Puts, PutsFloat, ReadsGroups, grouped_text, scientific_by}
use Rattle.digits_c.proofs.FloatTexts.{never_empty}

module _ (text old new : List ℕ) where
  -- it is there
  pub put_here : (count : ℕ) → length new ≡ length old → take count new ≡ text
      → drop count new ≡ drop count old → count ≤ length old → Puts text old new count
  put_here count same is rest within =
      let long : length text ≡ count =
      ap length (sym is) ∙ length-take-le count new (omega (arith, same, within)) in
      record {
        written = λ some. is;
        rest = rest;
        all = λ room. sym long;
        none = λ less. absurd (omega (arith, long, less, within));
      }

  -- there was no room
  pub put_nowhere : new ≡ old → length old < length text → Puts text old new 0
  put_nowhere is less = record {
    written = λ some. absurd (omega (arith, some));
    rest = ap (drop 0) is;
    all = λ room. absurd (omega (arith, room, less));
    none = λ room. refl;
  }

  -- the answer of a call, or 0 where it refuses
  pub put_by : (r : Result ℕ NoRoom) (count : ℕ) → length new ≡ length old
      → count ≡ result_unwrap_or r 0 → IfOk r (λ end. take end new ≡ text)
      → IfOk r (λ end. drop end new ≡ drop end old) → IfOk r (λ end. end ≤ length old)
      → IfErr r (λ error. length old < error.needed)
      → IfErr r (λ error. error.needed ≡ length text) → IfErr r (λ _. new ≡ old)
      → Puts text old new count
  put_by (Ok end) count same is written rest within no_room needed unchanged =
      subst (Puts text old new) (sym is) (put_here end same written rest within)
  put_by (Err error) count same is written rest within no_room needed unchanged =
      subst (Puts text old new) (sym is)
      (put_nowhere unchanged (omega (arith, no_room, needed)))

  -- the same of `Writes`
  pub put_as_written : (r : Result ℕ NoRoom) (count : ℕ) → count ≡ result_unwrap_or r 0
      → Writes text old new r → Puts text old new count
  put_as_written r count is w =
      elim (cases_lt (length old) (length text)) [
        | inl less ↦
            let none : count ≡ 0 = is ∙ ap (λ (a : Result ℕ NoRoom). result_unwrap_or a 0)
            (w.no_room less) in
            subst (Puts text old new) (sym none) (put_nowhere (w.unchanged less) less)
        | inr room ↦
            let long : count ≡ length text = is ∙ ap (λ (a : Result ℕ NoRoom). result_unwrap_or a 0)
            (w.ok room) in
            let behind : List ℕ = drop (length text) old in
            let whole : new ≡ text ++ behind = w.written room in
            record {
              written = λ some. ap (take count) whole ∙ take_at text behind count (sym long);
              rest = ap (drop count) whole ∙ drop_at text behind count (sym long)
                  ∙ ap (λ (n : ℕ). drop n old) (sym long);
              all = λ _. long;
              none = λ less. absurd (omega (arith, less, room));
            }
      ]

-- no text
pub put_none : (old new : List ℕ) → new ≡ old → Puts [] old new 0
put_none old new is = record {
  written = λ some. absurd (omega (arith, some));
  rest = ap (drop 0) is;
  all = λ room. refl;
  none = λ less. refl;
}

-- the same text
pub put_same : (one other old new : List ℕ) (count : ℕ) → one ≡ other → Puts one old new count
    → Puts other old new count
put_same one other old new count is puts =
    subst (λ (text : List ℕ). Puts text old new count) is puts

-- what holds of an answer holds of it where it isn't 0
pub answer_holds : (Q : ℕ → Type 0) {E : Type 0} (r : Result ℕ E) (count : ℕ)
    → count ≡ result_unwrap_or r 0 → IfOk r Q → 0 < count → Q count
answer_holds Q (Ok end) count is holds some = subst Q (sym is) holds
answer_holds Q (Err error) count is holds some = absurd (omega (arith, is, some))

-- ---- amounts

pub put_no_places : (text old new : List ℕ) (places : ℕ) → 38 < places → new ≡ old
    → Puts (if nat_lt 38 places then [] else text) old new 0
put_no_places text old new places many is =
    let above : nat_lt 38 places ≡ true = grind (arith, nat_tests) in
    rw above (put_none old new is)

pub put_few_places : (text old new : List ℕ) (places count : ℕ) → places ≤ 38
    → Puts text old new count → Puts (if nat_lt 38 places then [] else text) old new count
put_few_places text old new places count few puts =
    let within : nat_lt 38 places ≡ false = grind (arith, nat_tests) in
    rw within puts

pub put_ungrouped : (one other old new : List ℕ) (between count : ℕ) → between ≡ 0
    → Puts one old new count → Puts (if between == 0 then one else other) old new count
put_ungrouped one other old new between count none puts = rw none puts

pub put_in_groups : (one other old new : List ℕ) (between count : ℕ) → (between ≡ 0 → ⊥)
    → Puts other old new count → Puts (if between == 0 then one else other) old new count
put_in_groups one other old new between count some puts =
    let above : (between == 0) ≡ false = grind (arith, nat_tests) in
    rw above puts

-- ---- groups

-- the layout that a decimal one gives
pub grouped_layout : (d : Layout) (between every : ℕ) (result : Option Layout)
    → HasParts 10 false 0 0 1 false d
    → MatchOption result (is_layout d.radix between every ≡ false)
    (HasParts d.radix d.is_upper between every d.digits d.has_plus)
    → MatchOption result (is_layout 10 between every ≡ false) (IsGrouped between every)
grouped_layout d between every None h refused =
    subst (λ (radix : ℕ). is_layout radix between every ≡ false) h.radix refused
grouped_layout d between every (Some layout) h parts = record {
  valid = valid_of layout (parts.radix ∙ h.radix) parts.separator parts.every;
  parts = record {
    radix = parts.radix ∙ h.radix;
    case = parts.case ∙ h.case;
    separator = parts.separator;
    every = parts.every;
    digits = parts.digits ∙ h.digits;
    sign = parts.sign ∙ h.sign;
  };
}
  where
    valid_of : (l : Layout) → l.radix ≡ 10 → l.separator ≡ between → l.every ≡ every
        → is_layout 10 between every ≡ true
    valid_of l ten byte size =
        (λ i. is_layout (sym ten i) (sym byte i) (sym size i)) ∙ l.valid

module _ (layout : Layout) (between every : ℕ) (h : HasParts 10 false between every 1 false layout)
  where
    module _ (n : ℕ) (few : n < 10 ^ 64) where
      digits_are : digits_in layout n ≡ decimal n
      digits_are =
          let count : max 1 (digit_count 10 n) ≡ digit_count 10 n = omega arith in
          (λ i. last_digits (h.radix i) (h.case i)
          (max (h.digits i) (digit_count (h.radix i) n)) n)
          ∙ ap (λ (k : ℕ). last_digits 10 false k n) count
          ∙ decimal_is false n few

      grouped_is : (negative : Bool)
          → text_of layout negative n ≡ sign_of false negative ++ grouped between every (decimal n)
      grouped_is negative = λ i.
          sign_of (h.sign i) negative ++ grouped (h.separator i) (h.every i) (digits_are i)

-- what is written by it is in groups
pub put_grouped : (layout : Layout) (between every : ℕ) (z : ℤ) (old new : List ℕ) (count : ℕ)
    → IsGrouped between every layout → unsigned_abs z < 10 ^ 64
    → Puts (laid_out layout z) old new count → Puts (grouped_text between every z) old new count
put_grouped layout between every z old new count is few puts =
    rw is.valid (put_same _ _ old new count
    (grouped_is layout between every is.parts (unsigned_abs z) few (is_negative z)) puts)

-- and read by a word that reads such groups
pub groups_read : (layout : Layout) (between every word least : ℕ) → IsGrouped between every layout
    → ReadsGroups word between every → IsReadBy word layout least
groups_read layout between every word least is reads = record {
  radix = subst (λ (radix : ℕ). IsOfRadix radix word) (sym is.parts.radix) reads.radix;
  separates = λ some.
      let parts = reads.separates (omega (arith, some, is.parts.every)) in
      (parts.0 ∙ sym is.parts.separator, parts.1);
  signs = λ plus. absurd (signed (sym is.parts.sign ∙ plus));
}
  where
    signed : false ≡ true → ⊥
    signed never = cc

-- where there are none
pub put_no_groups : (between every : ℕ) (z : ℤ) (old new : List ℕ)
    → is_layout 10 between every ≡ false → new ≡ old → Puts (grouped_text between every z) old new 0
put_no_groups between every z old new refused is = rw refused (put_none old new is)

-- ---- floats

pub no_fixed : (x : Float) (places : ℕ) → float_is_finite x ≡ false → fixed_text x places ≡ []
unfolding float_is_finite
no_fixed nan places is = refl
no_fixed (inf negative) places is = refl
no_fixed (fin negative significand exponent) places is = absurd (cc)

no_scientific : (x : Float) (places : ℕ) (style : ExponentText) → float_is_finite x ≡ false
    → scientific_text x places style ≡ []
unfolding float_is_finite
no_scientific nan places style is = refl
no_scientific (inf negative) places style is = refl
no_scientific (fin negative significand exponent) places style is = absurd (cc)

pub no_exponent : (x : Float) (places : ℕ) (style : Option ExponentText)
    → float_is_finite x ≡ false → scientific_by x places style ≡ []
no_exponent x places None is = refl
no_exponent x places (Some style) is = no_scientific x places style is

module _ (f : Format) (x : Float) (layout : FloatLayout) (old new : List ℕ) where
  pub float_by : (r : Result ℕ FloatTextError) (count : ℕ) → count ≡ result_unwrap_or r 0
      → IfOk r (λ n. IsTextOf f x layout (take n new))
      → IfOk r (λ n. parse_at STANDARD (take n new) plain_marks f 0 ≡ Ok x)
      → IfOk r (λ n. n ≤ length old) → IfOk r (λ n. drop n new ≡ drop n old)
      → IfErr r (IsReason f x layout (length old)) → IfErr r (λ _. new ≡ old)
      → PutsFloat f x layout old new count
  float_by (Ok end) count is written reads within rest none unchanged =
      subst (PutsFloat f x layout old new) (sym is)
      (record {
        written = λ some. written;
        reads = λ some. reads;
        within = within;
        rest = rest;
        none = λ zero.
            absurd (never_empty f x layout (take end new) written
            (ap (λ (n : ℕ). length (take n new)) zero));
      })
  float_by (Err error) count is written reads within rest none unchanged =
      subst (PutsFloat f x layout old new) (sym is)
      (record {
        written = λ some. absurd (omega (arith, some));
        reads = λ some. absurd (omega (arith, some));
        within = omega arith;
        rest = ap (drop 0) unchanged;
        none = λ zero. (error, none);
      })

-- to be named in an attribute
pub ruleset puts = (put_by, put_none, put_here, put_nowhere, answer_holds)

pub ruleset puts_amounts = (put_by, put_no_places, put_few_places, answer_holds)

pub ruleset puts_prices = (put_ungrouped, put_in_groups)

pub ruleset groups = (grouped_layout)

pub ruleset puts_groups = (put_grouped, groups_read, put_no_groups)

pub ruleset puts_floats = (float_by)

pub ruleset puts_fixed = (put_as_written, put_none, no_fixed)

pub ruleset puts_scientific = (put_none, no_exponent)
