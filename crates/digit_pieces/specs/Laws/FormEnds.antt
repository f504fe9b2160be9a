-- A number by a form ends within the text.
use Rattle.std.proofs.Common.{◌≡◌, ℕ, zero, suc, ◌+◌, ◌-◌, ◌≤◌, Bool, true, false, cond, List, ◌∷◌, length, get_or, Option, Some, None, arith, inl, inr}
use Rattle.std.specs.Prelude.{◌&&◌, ◌==◌, not, nat_lt, filter, if◌then◌else◌, IfOk, Result, Ok, Err, ◌^◌}
use Rattle.std.specs.List.{range_with_len}
use Rattle.std.specs.Float.{Float, Format}
use Rattle.std.specs.Float.Numeral.{has_digits}
use Rattle.std.proofs.lemmas.Bool.{and_parts, cases_lt, cond_both}
use Rattle.std.proofs.lemmas.Option.{gets}
use Rattle.lexical_format.specs.Word.{separator}
use Rattle.lexical_digits.specs.declared.skip.rule.Rule.{Rule}
use Rattle.lexical_digits.specs.declared.skip.component.Component.{Component}
use Rattle.lexical_digits.specs.declared.skip.component.Component.TheVariants.{Integer, Fraction, Exponent}
use Rattle.lexical_digits.specs.declared.skip.component.Component.TheVariants as components
use Rattle.lexical_digits.specs.Laws.Kept.{positions_end}
use Rattle.lexical_digits.specs.Separators.{is_kept, is_separator, kept_positions}
use Rattle.lexical_digits.specs.State.{rule_of}
use Rattle.lexical_digits.specs.Stop.{stop}
use Rattle.digit_values.specs.After.{digits_between}
use Rattle.digit_integers.specs.Integers.{integer_at, value_to, first_over}
use Rattle.digit_values.specs.Bytes.{has_byte}
use Rattle.digit_values.specs.declared.LiteralError.{LiteralError}
use Rattle.digit_values.specs.declared.LiteralError.TheVariants as integers
use Rattle.digit_values.proofs.ForCallers.{stop_within}
use Rattle.digit_floats.specs.Bytes.{stands, is_mark, is_point}
use Rattle.digit_floats.specs.Float.{digits_end, past_sign, fraction_end, exponent_end}
use Rattle.digit_languages.specs.declared.language.Language.{Language}
use Rattle.digit_languages.specs.declared.literal.Literal.{Literal}
use Rattle.digit_languages.specs.declared.literal.LanguageError.{LanguageError}
use Rattle.digit_languages.specs.declared.literal.LanguageError.TheVariants as literals
use Rattle.digit_languages.specs.Literals.{is_refused, literal_of, literal_at, digits_at, word_at}
use Rattle.digit_numbers.specs.declared.form.Form.{Form}
use Rattle.digit_numbers.specs.declared.form.Special.{Special}
use Rattle.digit_numbers.specs.declared.number.Number.{Number}
use Rattle.digit_numbers.specs.Forms.{hex_form, is_always_float, may_be_float}
use Rattle.digit_numbers.specs.Specials.{bytes_of}
use Rattle.digit_numbers.specs.Numbers as forms
use Rattle.digit_numbers.specs.Numbers.{Outcome, digits_stop, has_point, has_exponent, mark_at, mark}
use Rattle.digit_numbers.specs.Numbers.{whole_end, has_more_zeros, is_float, parts, language}
use Rattle.digit_numbers.specs.Numbers.{zero_here, whole_here, integer_here, plain_at, or_hex}
use Rattle.digit_numbers.specs.Numbers.{or_special, hex_word_here, special_here, number_of_at}

-- ---- where digits end, and names

module _ (text : List ℕ) where
  stop_low : (rule : Rule) (start : ℕ) → stop rule text start 0 ≤ length text
  unfolding stop
  stop_low rule start = elim (cases_lt (length text) start) [
    | inl l ↦ rw (positions_end rule text start 0 (omega arith)) (omega arith)
    | inr l ↦ stop_within rule text start 0 l
  ]

  end_low : (word : ℕ) (k : Component) (i : ℕ) → digits_end word text k i ≤ length text
  unfolding digits_end
  end_low word k i = stop_low (rule_of word k) i

  fraction_low : (word point i : ℕ) → i ≤ length text
      → fraction_end word text point i ≤ length text
  unfolding fraction_end
  fraction_low word point i l =
      cond_both (stands (is_point point) text i) _ i (λ n. n ≤ length text)
      (λ is. end_low word Fraction (i + 1)) (λ is. l)

  exponent_low : (word mark i : ℕ) → i ≤ length text
      → exponent_end word text mark i ≤ length text
  unfolding exponent_end
  exponent_low word mark i l =
      cond_both (stands (is_mark mark) text i) _ i (λ n. n ≤ length text)
      (λ is. end_low word Exponent (past_sign text (i + 1))) (λ is. l)

  -- of numbers from a start on that pass a test, or else another
  filtered_low : (p : ℕ → Bool) (m : ℕ) (d s n : ℕ) → s + d ≤ m
      → get_or (filter p (range_with_len s d)) n m ≤ m
  filtered_low p m zero s n l = omega arith
  filtered_low p m (suc d) s n l =
      by (p s) n (omega arith) (λ k. filtered_low p m d (s + 1) k (omega arith))
    where
      by : (b : Bool) (n : ℕ) → s ≤ m
          → ((k : ℕ) → get_or (filter p (range_with_len (s + 1) d)) k m ≤ m)
          → get_or (cond b (s ∷ filter p (range_with_len (s + 1) d))
          (filter p (range_with_len (s + 1) d))) n m ≤ m
      by true zero low rest = low
      by true (suc n) low rest = rest n
      by false n low rest = rest n

  position_low : (rule : Rule) (i n : ℕ)
      → get_or (kept_positions rule text i 0) n (length text) ≤ length text
  unfolding kept_positions
  position_low rule i n = elim (cases_lt (length text) i) [
    | inl l ↦
        let none : length text - i ≡ zero = omega arith in
        rw none (omega arith)
    | inr l ↦ filtered_low (is_kept rule text i 0) (length text) (length text - i) i n (omega arith)
  ]

  byte_low : (i byte : ℕ) → has_byte text i byte ≡ true → i + 1 ≤ length text
  byte_low i byte is = grind (arith, gets)

  -- ---- digits with a point and an exponent

  module _ (f : Form) (i : ℕ) where
    mark_low : mark_at f text i ≤ length text
    mark_low =
        cond_both (has_point f text i) _ _ (λ n. n ≤ length text)
        (λ is. fraction_low f.integers.decimal f.marks.point (whole_end f text i)
        (end_low f.integers.decimal Integer i))
        (λ is. end_low f.integers.decimal Integer i)

    digits_low : digits_stop f text i ≤ length text
    digits_low =
        cond_both (has_exponent f text i) _ _ (λ n. n ≤ length text)
        (λ is. exponent_low f.integers.decimal (mark f text i) (mark_at f text i) mark_low)
        (λ is. mark_low)

  -- ---- a literal

  abbrev pub EndsLow : Result Literal LanguageError → Type 0
  EndsLow read = IfOk read (λ r. r.end ≤ length text)

  abbrev ReadsLow : Result (ℕ × ℕ) LiteralError → Type 0
  ReadsLow read = IfOk read (λ r. r.1 ≤ length text)

  low_if : (none over : Bool) (value at end : ℕ) → end ≤ length text
      → ReadsLow (if none then Err (integers.Empty end)
      else if over then Err (integers.Overflow at)
      else Ok (value, end))
  low_if true over value at end l = tt
  low_if false true value at end l = tt
  low_if false false value at end l = l

  integer_low : (rule : Rule) (i most : ℕ) → ReadsLow (integer_at rule text i most)
  unfolding integer_at
  integer_low rule i most =
      low_if (length (digits_between rule text i (stop rule text i 0)) == 0)
      (nat_lt most (value_to rule text i (stop rule text i 0)))
      (value_to rule text i (stop rule text i 0)) (first_over rule text i most)
      (stop rule text i 0) (stop_low rule i)

  of_low : (l : Language) (i : ℕ) (read : Result (ℕ × ℕ) LiteralError)
      → ReadsLow read → EndsLow (literal_of l text i read)
  of_low l i (Ok (value, end)) low =
      cond_both (is_refused l text i (nat_lt (i + 1) end) (nat_lt 0 value)) _ _ EndsLow (λ no. tt)
      (λ is. low)
  of_low l i (Err (integers.Overflow over)) low =
      cond_both (is_refused l text i true true) _ _ EndsLow (λ no. tt) (λ is. tt)
  of_low l i (Err (integers.Empty none)) low = tt

  pub literal_low : (l : Language) (i most : ℕ) → EndsLow (literal_at l text i most)
  literal_low l i most =
      of_low l i _ (integer_low (rule_of (word_at l text i) Integer) (digits_at l text i) most)

-- ---- the number

module _ (f : Form) (text : List ℕ) (start : ℕ) (format : Format) where
  abbrev Low : Outcome → Type 0
  Low outcome = IfOk outcome (λ r. r.1 ≤ length text)

  abbrev at : ℕ
  at = forms.past_sign f text start

  zero_low : Low (zero_here f text start format)
  zero_low =
      cond_both (has_byte text at 48) _ _ Low (λ is. byte_low text at 48 is) (λ no. tt)

  first_zero : has_more_zeros f text at ≡ true → has_byte text at 48 ≡ true
  first_zero is =
      (and_parts (not f.float_zeros) (has_byte text at 48)
      (and_parts (not f.float_zeros && has_byte text at 48) (nat_lt (at + 1) (whole_end f text at))
      is).0).1

  whole_low : Low (whole_here f text start format)
  whole_low =
      cond_both (has_more_zeros f text at) _ _ Low (λ is. byte_low text at 48 (first_zero is))
      (λ no. cond_both (has_digits (parts f text at)) _ _ Low (λ is. digits_low text f at)
      (λ none. tt))

  integer_here_low : (read : Result Literal LanguageError) → IfOk read (λ r. r.end ≤ length text)
      → Low (integer_here f text start format read)
  integer_here_low (Ok read) low = low
  integer_here_low (Err (literals.Overflow over)) low =
      cond_both (may_be_float f.whole && not (has_byte text at 48)) _ _ Low
      (λ is. digits_low text f at) (λ no. tt)
  integer_here_low (Err (literals.Empty none)) low = zero_low
  integer_here_low (Err (literals.Zero none)) low = zero_low

  plain_low : Low (plain_at f text start format)
  unfolding plain_at
  plain_low =
      cond_both (is_float f text at) _ _ Low (λ is. digits_low text f at)
      (λ no. cond_both (is_always_float f.whole) _ _ Low (λ is. whole_low)
      (λ not. integer_here_low _
      (literal_low text (language f text start) at (2 ^ 128 - 1))))

  hex_low : (o : Option ℕ) → Low (or_hex f text start format o)
  hex_low (Some said) = digits_low text (hex_form f said) (at + 2)
  hex_low None =
      cond_both (stands (is_separator (separator f.integers.decimal)) text at) _ _ Low
      (λ is. tt) (λ no. plain_low)

  special_low : (o : Option Special) → Low (or_special f text start format o)
  special_low (Some s) =
      position_low text (rule_of f.integers.decimal components.Special) at
      (length (bytes_of s.name))
  special_low None = hex_low (hex_word_here f text start)

  number_low : Low (number_of_at f text start format)
  unfolding number_of_at
  number_low = special_low (special_here f text start)

  pub number_ends : (n : Number Float) (end : ℕ) → number_of_at f text start format ≡ Ok (n, end)
      → end ≤ length text
  number_ends n end h = rw h at number_low
