-- At the end of a text no number by a form begins.
use Rattle.std.proofs.Common.{◌≡◌, ℕ, ◌-◌, Bool, true, false, not, cond, ◌&&◌, List, [], ◌∷◌, None, length, filter, refl, ap, arith}
use Rattle.std.specs.Prelude.{◌^◌, ◌==◌, nat_lt, Err}
use Rattle.std.specs.List.{starts_with}
use Rattle.std.specs.Float.{Format}
use Rattle.std.specs.Float.Numeral.{has_digits}
use Rattle.lexical_digits.specs.declared.skip.component.Component.TheVariants as components
use Rattle.lexical_digits.specs.declared.skip.rule.Rule.{Rule}
use Rattle.lexical_digits.specs.Separators.{drain, kept_positions, is_separator}
use Rattle.lexical_digits.specs.State.{rule_of}
use Rattle.lexical_format.specs.Word.{separator}
use Rattle.digit_floats.specs.Bytes.{stands, is_point}
use Rattle.digit_languages.specs.declared.language.Language.{Language}
use Rattle.digit_languages.specs.declared.literal.LanguageError.TheVariants as literals
use Rattle.digit_languages.specs.Literals.{literal_at, typed}
use Rattle.digit_numbers.specs.declared.form.Form.{Form}
use Rattle.digit_numbers.specs.declared.form.Special.{Special}
use Rattle.digit_numbers.specs.declared.number.NumberError.TheVariants as errors
use Rattle.digit_numbers.specs.Forms.{is_minus_of, is_plus_of, is_always_float, has_hex, takes_sign}
use Rattle.digit_numbers.specs.Numbers.{is_negative, has_sign, past_sign, parts, has_more_zeros, is_float, special_here, hex_word_at, hex_word_here, language, whole_here, integer_here, plain_at, number_of_at}
use Rattle.digit_numbers.specs.Specials.{names_of, same_by, bytes_of, is_here, special_at}
use Rattle.digit_lists.proofs.AtEnd.{none_stands, integer_end, end_end, no_digits}

-- ---- choices

either : {A : Type 0} (b : Bool) (x y : A) → x ≡ y → cond b x y ≡ y
either true x y same = same
either false x y same = refl

neither : {A : Type 0} (b c : Bool) (x y z r : A) → b ≡ false → y ≡ r → z ≡ r
    → cond b x (cond c y z) ≡ r
neither b true x y z r none one other = rw none one
neither b false x y z r none one other = rw none other

middle : (b c : Bool) → b && false && c ≡ false
middle true c = refl
middle false c = refl

-- ---- a name

no_drain : (rule : Rule) (text : List ℕ) → drain rule text (length text) 0 ≡ []
unfolding drain kept_positions
no_drain rule text = let none : length text - length text ≡ 0 = omega arith in rw none refl

module _ (f : Form) (text : List ℕ) where
  bare : (name : List ℕ) (t : Bool)
      → nat_lt 0 (length name) && starts_with (same_by f.specials) [] name && t ≡ false
  bare [] t = refl
  bare (b ∷ bs) t = grind arith

  no_name : (s : Special) → is_here f text (length text) false false s ≡ false
  unfolding is_here
  no_name s =
      rw (no_drain (rule_of f.integers.decimal components.Special) text)
      (bare (bytes_of s.name) (takes_sign s.sign false false))

  no_names : (names : List Special)
      → filter (is_here f text (length text) false false) names ≡ []
  no_names [] = refl
  no_names (s ∷ others) = rw (no_name s, no_names others) refl

  no_special : special_at f text (length text) false false ≡ None
  unfolding special_at
  no_special = rw (no_names (names_of f.specials)) refl

  -- ---- a sign

  no_minus_of : is_negative f text (length text) ≡ false
  no_minus_of = none_stands (is_minus_of f.signs) text

  no_sign_of : has_sign f text (length text) ≡ false
  no_sign_of =
      rw (none_stands (is_minus_of f.signs) text, none_stands (is_plus_of f.signs) text) refl

  past_end_of : past_sign f text (length text) ≡ length text
  unfolding past_sign
  past_end_of = rw no_sign_of refl

  -- ---- digits

  no_zero : has_more_zeros f text (length text) ≡ false
  no_zero = rw (none_stands (λ b. b == 48) text) (middle (not f.float_zeros) _)

  no_parts : has_digits (parts f text (length text)) ≡ false
  no_parts =
      rw (
        no_digits f.integers.decimal text components.Integer,
        end_end f.integers.decimal text components.Integer,
        none_stands (is_point f.marks.point) text,
      ) refl

  no_float : is_float f text (length text) ≡ false
  unfolding is_float
  no_float = rw no_parts refl

no_literal : (l : Language) (text : List ℕ) (most : ℕ)
    → literal_at l text (length text) most ≡ Err (literals.Empty (length text))
no_literal l text most =
    let none = integer_end 0 most (rule_of l.decimal components.Integer) text in
    rw (none_stands (λ b. b == 48) text, none) refl

no_hex : (f : Form) (l : Language) (text : List ℕ) → hex_word_at f l text (length text) ≡ None
unfolding hex_word_at
no_hex f l text =
    rw (none_stands (λ b. b == 48) text) (either (has_hex f.hex_floats) None None refl)

-- ---- the number

module _ (f : Form) (text : List ℕ) (format : Format) where
  no_whole : whole_here f text (length text) format ≡ Err (errors.Empty (length text))
  no_whole = rw (past_end_of f text, no_zero f text, no_parts f text) refl

  no_integer : integer_here f text (length text) format (Err (literals.Empty (length text)))
      ≡ Err (errors.Empty (length text))
  no_integer = rw (past_end_of f text, none_stands (λ b. b == 48) text) refl

  no_integer_here : integer_here f text (length text) format
      (literal_at (language f text (length text)) text (past_sign f text (length text))
      (2 ^ 128 - 1))
      ≡ Err (errors.Empty (length text))
  no_integer_here =
      let l : Language = language f text (length text) in
      let none : literal_at l text (past_sign f text (length text)) (2 ^ 128 - 1)
      ≡ Err (literals.Empty (length text)) =
      rw (past_end_of f text) (no_literal l text (2 ^ 128 - 1)) in
      rw none no_integer

  no_plain : plain_at f text (length text) format ≡ Err (errors.Empty (length text))
  unfolding plain_at
  no_plain =
      neither (is_float f text (past_sign f text (length text))) (is_always_float f.whole) _ _ _ _
      (rw (past_end_of f text) (no_float f text)) no_whole no_integer_here

  pub number_ends : number_of_at f text (length text) format ≡ Err (errors.Empty (length text))
  unfolding number_of_at
  number_ends =
      let special : special_here f text (length text) ≡ None =
      rw (past_end_of f text, no_sign_of f text, no_minus_of f text) (no_special f text) in
      let hex : hex_word_here f text (length text) ≡ None =
      rw (past_end_of f text) (no_hex f (language f text (length text)) text) in
      let separates : stands (is_separator (separator f.integers.decimal)) text
      (past_sign f text (length text)) ≡ false =
      rw (past_end_of f text) (none_stands (is_separator (separator f.integers.decimal)) text) in
      rw (special, hex, separates) no_plain

pub literal_ends : (l : Language) (text : List ℕ) (most : ℕ)
    → typed (literal_at l text (length text) most) ≡ Err (literals.Empty (length text))
literal_ends l text most = ap typed (no_literal l text most)

pub ruleset form_ends = (number_ends, literal_ends)
