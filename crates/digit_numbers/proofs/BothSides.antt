-- A number by a form from a position on, in a text and in one that begins there: what is before
-- the position, and what follows a byte that no number has, make no difference.
use Rattle.std.proofs.Common.{◌≡◌, ℕ, ◌+◌, ◌-◌, ◌≤◌, Bool, true, false, List, length, drop, slice_get, Option, Some, None, refl, ◌∙◌, ap, arith}
use Rattle.std.specs.Prelude.{◌&&◌, ◌==◌, not, if◌then◌else◌, is_some, IfSome, Result, Ok, Err, ◌^◌, [], ◌∷◌}
use Rattle.std.specs.Char.{is_ascii_alphanumeric}
use Rattle.std.specs.List.{list_any}
use Rattle.std.specs.Float.{Float, Format}
use Rattle.std.specs.Float.Ieee.{round}
use Rattle.std.specs.Float.Numeral.{Parts, has_digits, nearest_float}
use Rattle.std.proofs.lemmas.Bool.{or_parts}
use Rattle.std.proofs.lemmas.Bool.Decides.{nat_tests}
use Rattle.lexical_format.specs.Word.{separator}
use Rattle.lexical_digits.specs.declared.skip.component.Component.TheVariants as components
use Rattle.lexical_digits.specs.declared.skip.component.Component.TheVariants.{Integer, Fraction, Exponent}
use Rattle.lexical_digits.specs.Cursor.{holds_of}
use Rattle.lexical_digits.specs.Moves.{IsFresh, outcome_later}
use Rattle.lexical_digits.specs.Separators.{drain, kept_positions, is_separator}
use Rattle.lexical_digits.specs.State.{rule_of}
use Rattle.lexical_digits.proofs.Calls.BothSides.{AreSameFrom, weaker, from_rest, moved_length, cut_if, cut_test, cut_before}
use Rattle.digit_values.specs.Bytes.{has_byte}
use Rattle.digit_floats.specs.Bytes.{stands, is_sign, is_point, is_mark}
use Rattle.digit_languages.specs.declared.language.Language.{Language}
use Rattle.digit_languages.specs.declared.literal.Literal.{Literal}
use Rattle.digit_languages.specs.declared.literal.LanguageError.{LanguageError}
use Rattle.digit_languages.specs.declared.literal.LanguageError.TheVariants as literals
use Rattle.digit_languages.specs.Follows.{separates, is_literal_byte}
use Rattle.digit_languages.specs.Literals.{prefix_word, literal_at}
use Rattle.digit_languages.specs.Moves.{read_later}
use Rattle.digit_languages.proofs.Before.{Fails, fails_of}
use Rattle.digit_languages.proofs.BothSides.{other_of, prefix_has, no_alphanumeric}
use Rattle.digit_languages.proofs.BothSides.{by_word, cut_has, cut_literal, cut_prefix_word, prefix_upto}
use Rattle.digit_numbers.specs.declared.form.Form.{Form}
use Rattle.digit_numbers.specs.declared.form.Signs.{Signs}
use Rattle.digit_numbers.specs.declared.form.Signs.TheVariants.{Absent, Minus, Either}
use Rattle.digit_numbers.specs.declared.form.Special.{Special}
use Rattle.digit_numbers.specs.declared.number.NumberError.TheVariants as errors
use Rattle.digit_numbers.specs.declared.number.Number.TheVariants as numbers
use Rattle.digit_numbers.specs.Follows.{is_name_byte, is_number_byte, is_other_mark}
use Rattle.digit_numbers.specs.Forms.{is_minus_of, is_plus_of, is_barred, has_hex, may_be_float}
use Rattle.digit_numbers.specs.Forms.{is_always_float, hex_form, unprefixed, with_hex_only}
use Rattle.digit_numbers.specs.Moves.{number_later}
use Rattle.digit_numbers.specs.Specials.{names_of, same_by, bytes_of, begins, is_here}
use Rattle.digit_numbers.specs.Specials.{name_end, special_at, special_float}
use Rattle.digit_numbers.specs.Numbers.{Outcome, is_negative, has_sign, past_sign, zero_here, is_hex_here}
use Rattle.digit_numbers.specs.Numbers.{parts, digits_stop, hex_value}
use Rattle.digit_numbers.specs.Numbers.{if_hex, hex_word_at, language}
use Rattle.digit_numbers.specs.Numbers.{hex_word_here, float_here, whole_here, integer_here}
use Rattle.digit_numbers.specs.Numbers.{plain_at, or_hex, or_special, number_of_at}
use Rattle.digit_numbers.proofs.SameNames.{AreSame, Each, Same, last_same, same_from}
use Rattle.digit_numbers.proofs.SameParts.{NoPart, parts_same, stop_later, zeros_same}
use Rattle.digit_numbers.proofs.SameParts.{float_same, hex_here_same, hex_value_same}

-- ---- a byte that no number has

record IsNoPart (f : Form) (b : ℕ) : Type 0 where
  pub literal : is_literal_byte f.integers b ≡ false
  pub sign : is_sign b ≡ false
  pub point : is_point f.marks.point b ≡ false
  pub mark : is_mark f.marks.exponent b ≡ false
  pub barred : is_barred f.after_point b ≡ false
  pub name : list_any (is_name_byte f b) (names_of f.specials) ≡ false
  pub other : is_other_mark f.other_mark b ≡ false

is_no_part : (f : Form) (b : ℕ) → is_number_byte f b ≡ false → IsNoPart f b
is_no_part f b h =
    let six = or_parts _ _ h in
    let five = or_parts _ _ six.0 in
    let four = or_parts _ _ five.0 in
    let three = or_parts _ _ four.0 in
    let two = or_parts _ _ three.0 in
    let one = or_parts _ _ two.0 in
    record {
      literal = one.0;
      sign = one.1;
      point = two.1;
      mark = three.1;
      barred = four.1;
      name = five.1;
      other = six.1;
    }

no_minus : (s : Signs) (b : ℕ) → is_sign b ≡ false → is_minus_of s b ≡ false
no_minus Absent b h = refl
no_minus Minus b h = grind (arith, nat_tests)
no_minus Either b h = grind (arith, nat_tests)

no_plus : (s : Signs) (b : ℕ) → is_sign b ≡ false → is_plus_of s b ≡ false
no_plus Absent b h = refl
no_plus Minus b h = refl
no_plus Either b h = grind (arith, nat_tests)

-- nor does a language have it without its prefixes
no_literal : (l : Language) (unsaid : Bool) (b : ℕ) → is_literal_byte l b ≡ false
    → is_literal_byte (if unsaid then unprefixed l else l) b ≡ false
no_literal l true b h = grind arith
no_literal l false b h = h

no_p : (b : ℕ) → is_ascii_alphanumeric b ≡ false → is_mark 112 b ≡ false
no_p b h = grind (arith, nat_tests)

no_zero : (b : ℕ) → is_ascii_alphanumeric b ≡ false → b == 48 ≡ false
no_zero b h = grind (arith, nat_tests)

names_have_none : (f : Form) (o : Option ℕ) (names : List Special)
    → holds_of (λ byte. list_any (is_name_byte f byte) names) o ≡ false
    → Each (λ s. holds_of (λ byte. is_name_byte f byte s) o ≡ false) names
names_have_none f o [] h = tt
names_have_none f None (s ∷ names) h = (refl, names_have_none f None names refl)
names_have_none f (Some byte) (s ∷ names) h =
    let parts = or_parts _ _ h in (parts.0, names_have_none f (Some byte) names parts.1)

both_all : (P Q : Special → Type 0) (names : List Special) → Each P names → Each Q names
    → Each (λ s. P s × Q s) names
both_all P Q [] h k = tt
both_all P Q (s ∷ names) h k = ((h.0, k.0), both_all P Q names h.1 k.1)

module _ (f : Form) (one : List ℕ) (from : ℕ) (other : List ℕ) (at : ℕ)
    (both : AreSameFrom (Fails (is_number_byte f)) one from other at)
    (in_one : from + at ≤ length one) (in_other : at ≤ length other) where
  abbrev p : ℕ → Bool
  p = is_number_byte f

  -- an outcome that counts from another start
  abbrev later : Outcome → Outcome
  later = outcome_later number_later from

  plain : (b : ℕ) → p b ≡ false → is_ascii_alphanumeric b ≡ false
  plain b h = no_alphanumeric f.integers b (is_no_part f b h).literal

  next : (x i more : ℕ) → x ≡ from + i → x + more ≡ from + (i + more)
  next x i more e = omega arith

  -- ---- the sign

  no_minus_here : (o : Option ℕ) → Fails p o → holds_of (is_minus_of f.signs) o ≡ false
  no_minus_here o = fails_of p _ (λ b h. no_minus f.signs b (is_no_part f b h).sign) o

  no_plus_here : (o : Option ℕ) → Fails p o → holds_of (is_plus_of f.signs) o ≡ false
  no_plus_here o = fails_of p _ (λ b h. no_plus f.signs b (is_no_part f b h).sign) o

  module _ (x i : ℕ) (e : x ≡ from + i) (l : i ≤ at) where
    minus_same : is_negative f one x ≡ is_negative f other i
    minus_same =
        cut_test (Fails p) one from other at both (is_minus_of f.signs) no_minus_here x i e l

    sign_same : has_sign f one x ≡ has_sign f other i
    sign_same =
        rw (
          minus_same,
          cut_test (Fails p) one from other at both (is_plus_of f.signs) no_plus_here x i e l,
        ) refl

    sign_before : has_sign f other i ≡ true → i + 1 ≤ at
    sign_before is =
        grind (
          arith,
          cut_before (Fails p) one from other at both (is_minus_of f.signs) no_minus_here i l,
          cut_before (Fails p) one from other at both (is_plus_of f.signs) no_plus_here i l,
        )

    past_later : past_sign f one x ≡ from + past_sign f other i
    unfolding past_sign
    past_later = cut_if (λ n. from + n) _ _ _ _ _ _ sign_same (λ is. next x i 1 e) e

    past_upto : past_sign f other i ≤ at
    unfolding past_sign
    past_upto = grind (arith, sign_before, l)

  -- ---- digits by a word

  -- no byte that fails is the separator of a word
  abbrev IsApart : ℕ → Type 0
  IsApart word = (b : ℕ) → p b ≡ false → separates (Some word) b ≡ false

  part_of : (g : Form) → IsApart g.integers.decimal
      → ((b : ℕ) → p b ≡ false → is_point g.marks.point b ≡ false)
      → ((b : ℕ) → p b ≡ false → is_mark g.marks.exponent b ≡ false)
      → ((b : ℕ) → p b ≡ false → is_barred g.after_point b ≡ false)
      → ((b : ℕ) → p b ≡ false → is_other_mark g.other_mark b ≡ false)
      → (o : Option ℕ) → Fails p o → NoPart g o
  part_of g apart point mark barred other_mark o h = record {
    floats = record {
      scaled = record {
        whole = other_of p plain g.integers.decimal apart Integer o h;
        part = other_of p plain g.integers.decimal apart Fraction o h;
        point = fails_of p _ point o h;
        sign = fails_of p _ (λ b k. (is_no_part f b k).sign) o h;
      };
      power = other_of p plain g.integers.decimal apart Exponent o h;
      mark = fails_of p _ mark o h;
    };
    allows = fails_of p _ barred o h;
    others = by g.other_mark other_mark;
    zero = fails_of p _ (λ b k. no_zero b (plain b k)) o h;
  }
    where
      by : (m : Option ℕ) → ((b : ℕ) → p b ≡ false → is_other_mark m b ≡ false)
          → IfSome m (λ mark. holds_of (is_mark mark) o ≡ false)
      by None none = tt
      by (Some mark) none = fails_of p _ none o h

  decimal_apart : IsApart f.integers.decimal
  decimal_apart b h = let l = (is_no_part f b h).literal in grind arith

  decimal_parts : AreSameFrom (NoPart f) one from other at
  decimal_parts =
      weaker (Fails p) (NoPart f)
      (part_of f decimal_apart (λ b h. (is_no_part f b h).point) (λ b h. (is_no_part f b h).mark)
      (λ b h. (is_no_part f b h).barred) (λ b h. (is_no_part f b h).other))
      one from other at both

  hex_parts : (said : ℕ) → IsApart said → AreSameFrom (NoPart (hex_form f said)) one from other at
  hex_parts said apart =
      weaker (Fails p) (NoPart (hex_form f said))
      (part_of (hex_form f said) apart (λ b h. (is_no_part f b h).point)
      (λ b h. no_p b (plain b h)) (λ b h. (is_no_part f b h).barred) (λ b h. refl))
      one from other at both

  -- ---- a hexadecimal float

  apart_of : (o : Option ℕ) → ((b : ℕ) → p b ≡ false → separates o b ≡ false) → IfSome o IsApart
  apart_of None h = tt
  apart_of (Some word) h = h

  -- the word of a hexadecimal float is apart, and its digits begin up to the position
  pub record IsHexWord (i : ℕ) (said : ℕ) : Type 0 where
    pub apart : IsApart said
    pub low : i + 2 ≤ at

  module _ (l : Language) (x i : ℕ) (e : x ≡ from + i) (low : i ≤ at)
      (apart : IfSome l.hexadecimal IsApart) where
    said_same : (o : Option ℕ) → IfSome o IsApart → (is_some o ≡ true → i + 2 ≤ at)
        → if_hex f one (x + 2) o ≡ if_hex f other (i + 2) o
    said_same None h k = refl
    said_same (Some said) h k =
        ap (λ b. if b then Some said else None)
        (hex_here_same (hex_form f said) one from other at (hex_parts said h) (x + 2) (i + 2)
        (next x i 2 e) (k refl))

    word_said : (o : Option ℕ) → IfSome o IsApart → (is_some o ≡ true → i + 2 ≤ at)
        → IfSome (if_hex f other (i + 2) o) (IsHexWord i)
    word_said None h k = tt
    word_said (Some said) h k = by (is_hex_here (hex_form f said) other (i + 2))
      where
        by : (b : Bool) → IfSome (if b then Some said else None) (IsHexWord i)
        by true = record { apart = h; low = k refl }
        by false = tt

    prefix_apart : IfSome (prefix_word (with_hex_only l) other i) IsApart
    prefix_apart = prefix_has IsApart (with_hex_only l) other i tt tt apart

    prefix_before : is_some (prefix_word (with_hex_only l) other i) ≡ true → i + 2 ≤ at
    prefix_before = prefix_upto p one from other at both plain (with_hex_only l) x i e low

    hex_word_same : hex_word_at f l one x ≡ hex_word_at f l other i
    unfolding hex_word_at
    hex_word_same =
        ap (λ o. if has_hex f.hex_floats then o else None)
        (ap (if_hex f one (x + 2))
        (cut_prefix_word p one from other at both plain (with_hex_only l) x i e low)
        ∙ said_same _ prefix_apart prefix_before)

    hex_word_is : IfSome (hex_word_at f l other i) (IsHexWord i)
    unfolding hex_word_at
    hex_word_is = by (has_hex f.hex_floats)
      where
        by : (b : Bool)
            → IfSome (if b then if_hex f other (i + 2) (prefix_word (with_hex_only l) other i) else
            None)
            (IsHexWord i)
        by true = word_said _ prefix_apart prefix_before
        by false = tt

  -- ---- a name

  abbrev Spared : Special → Type 0
  Spared s = (holds_of (λ byte. is_name_byte f byte s) (slice_get one (from + at)) ≡ false)
      × (holds_of (λ byte. is_name_byte f byte s) (slice_get other at) ≡ false)

  no_name : (o : Option ℕ) → Fails p o
      → holds_of (λ b. list_any (is_name_byte f b) (names_of f.specials)) o ≡ false
  no_name o = fails_of p _ (λ b h. (is_no_part f b h).name) o

  spared : Each Spared (names_of f.specials)
  spared =
      both_all _ _ _ (names_have_none f _ (names_of f.specials) (no_name _ both.one_ends))
      (names_have_none f _ (names_of f.specials) (no_name _ both.other_ends))

  module _ (x i : ℕ) (e : x ≡ from + i) (low : i ≤ at) where
    name_same : (s : Special) → Spared s
        → Same (rule_of f.integers.decimal components.Special) one from other at
        (by_word p one from other at both plain f.integers.decimal decimal_apart components.Special)
        in_one in_other x i e (same_by f.specials) x i (bytes_of s.name)
    name_same s none =
        same_from (rule_of f.integers.decimal components.Special) one from other at
        (by_word p one from other at both plain f.integers.decimal decimal_apart components.Special)
        in_one in_other x i e (same_by f.specials) (at - i) x i e (omega arith) (bytes_of s.name)
        none

    begins_same : (s : Special) → Spared s → begins f one x s.name ≡ begins f other i s.name
    unfolding drain kept_positions
    begins_same s none = (name_same s none).begins_so

    ends_later : (s : Special) → Spared s → begins f other i s.name ≡ true
        → name_end f one x s ≡ from + name_end f other i s
    unfolding drain kept_positions
    ends_later s none is = (name_same s none).ends_so is

    module _ (is_signed is_minus : Bool) where
      here_same : (s : Special) → Spared s
          → is_here f one x is_signed is_minus s ≡ is_here f other i is_signed is_minus s
      unfolding is_here
      here_same s none = rw (begins_same s none) refl

      here_begins : (s : Special) → is_here f other i is_signed is_minus s ≡ true
          → begins f other i s.name ≡ true
      unfolding is_here
      here_begins s is = grind arith

      special_same : AreSame from (name_end f one x) (name_end f other i)
          (special_at f one x is_signed is_minus) (special_at f other i is_signed is_minus)
      unfolding special_at
      special_same =
          last_same from (name_end f one x) (name_end f other i)
          (is_here f one x is_signed is_minus) (is_here f other i is_signed is_minus) Spared
          here_same (λ s none is. ends_later s none (here_begins s is)) (names_of f.specials) spared

  -- ---- the number

  module _ (begin start : ℕ) (e : begin ≡ from + start) (low : start ≤ at) (format : Format) where
    abbrev x : ℕ
    x = past_sign f one begin

    abbrev i : ℕ
    i = past_sign f other start

    abbrev l : Language
    l = language f other start

    here_upto : i ≤ at
    here_upto = past_upto begin start e low

    here : x ≡ from + i
    here = past_later begin start e low

    minus : is_negative f one begin ≡ is_negative f other start
    minus = minus_same begin start e low

    signed : has_sign f one begin ≡ has_sign f other start
    signed = sign_same begin start e low

    language_same : language f one begin ≡ l
    language_same =
        ap (λ b. if b && not f.signed_prefix then unprefixed f.integers else f.integers) signed

    language_apart : IfSome l.hexadecimal IsApart
    language_apart = by (has_sign f other start && not f.signed_prefix)
      where
        by : (b : Bool)
            → IfSome ((if b then unprefixed f.integers else f.integers).hexadecimal) IsApart
        by true = tt
        by false =
            apart_of f.integers.hexadecimal
            (λ b h. (let k = (is_no_part f b h).literal in grind arith))

    -- ---- digits

    abbrev float_to : Float → ℕ → Outcome
    float_to y end = Ok (numbers.Float y, end)

    float_of : (m n : Bool) (w v : Parts) (s t : ℕ) → m ≡ n → w ≡ v → s ≡ from + t
        → float_to (nearest_float format m w) s ≡ later (float_to (nearest_float format n v) t)
    float_of m n w v s t a b c = rw (a, b, c) refl

    parts_here : parts f one x ≡ parts f other i
    parts_here = parts_same f one from other at decimal_parts x i here here_upto

    float_here_later : float_here f one begin format ≡ later (float_here f other start format)
    float_here_later =
        float_of _ _ _ _ _ _ minus parts_here
        (stop_later f one from other at decimal_parts x i here here_upto)

    round_of : (m n : Bool) (s t : ℕ) → m ≡ n → s ≡ from + t
        → float_to (round format m 0 1) (s + 1) ≡ later (float_to (round format n 0 1) (t + 1))
    round_of m n s t a b = rw (a, b, next (from + t) t 1 refl) refl

    abbrev none_at : ℕ → Outcome
    none_at y = Err (errors.Empty y)

    whole_here_later : whole_here f one begin format ≡ later (whole_here f other start format)
    whole_here_later =
        cut_if later _ _ _ _ _ _ (zeros_same f one from other at decimal_parts x i here here_upto)
        (λ is. round_of _ _ _ _ minus here)
        (cut_if later _ _ _ _ _ _ (ap has_digits parts_here) (λ is. float_here_later)
        (ap none_at here))

    has_zero_here : has_byte one x 48 ≡ has_byte other i 48
    has_zero_here = cut_has p one from other at both plain 48 x i refl here here_upto

    abbrev zero_to : Bool → ℕ → Outcome
    zero_to negative y = Ok (numbers.Integer negative 0 f.integers.decimal, y + 1)

    zero_of : (m n : Bool) (s t : ℕ) → m ≡ n → s ≡ from + t → zero_to m s ≡ later (zero_to n t)
    zero_of m n s t a b = rw (a, b, next (from + t) t 1 refl) refl

    zero_here_later : zero_here f one begin format ≡ later (zero_here f other start format)
    zero_here_later =
        cut_if later _ _ _ _ _ _ has_zero_here (λ is. zero_of _ _ _ _ minus here)
        (ap none_at here)

    integer_here_later : (read : Result Literal LanguageError)
        → integer_here f one begin format (read_later from read)
        ≡ later (integer_here f other start format read)
    integer_here_later (Ok read) = rw minus refl
    integer_here_later (Err (literals.Overflow over)) =
        cut_if later _ _ _ _ _ _ (ap (λ b. may_be_float f.whole && not b) has_zero_here)
        (λ is. float_here_later) refl
    integer_here_later (Err (literals.Empty y)) = zero_here_later
    integer_here_later (Err (literals.Zero y)) = zero_here_later

    no_literal_here : (b : ℕ) → p b ≡ false → is_literal_byte l b ≡ false
    no_literal_here b h =
        no_literal f.integers (has_sign f other start && not f.signed_prefix) b
        (is_no_part f b h).literal

    literal_later : (k : Language) → k ≡ l → literal_at k one x (2 ^ 128 - 1)
        ≡ read_later from (literal_at l other i (2 ^ 128 - 1))
    literal_later k h =
        rw h (cut_literal p one from other at both plain l x i here here_upto no_literal_here
        (2 ^ 128 - 1))

    plain_later : plain_at f one begin format ≡ later (plain_at f other start format)
    unfolding plain_at
    plain_later =
        cut_if later _ _ _ _ _ _ (float_same f one from other at decimal_parts x i here here_upto)
        (λ is. float_here_later)
        (cut_if later (is_always_float f.whole) (is_always_float f.whole) _ _ _ _ refl
        (λ is. whole_here_later)
        (ap (integer_here f one begin format) (literal_later _ language_same)
        ∙ integer_here_later (literal_at l other i (2 ^ 128 - 1))))

    -- ---- a hexadecimal float, or a name

    separator_none : (b : ℕ) → p b ≡ false
        → is_separator (separator f.integers.decimal) b ≡ false
    unfolding is_separator
    separator_none b h = let k = (is_no_part f b h).literal in grind arith

    separator_here : stands (is_separator (separator f.integers.decimal)) one x
        ≡ stands (is_separator (separator f.integers.decimal)) other i
    separator_here =
        cut_test (Fails p) one from other at both (is_separator (separator f.integers.decimal))
        (fails_of p _ separator_none) x i here here_upto

    hex_here_of : (said : ℕ) (m n : Bool) → IsHexWord i said → m ≡ n
        → let h = hex_form f said in
        float_to (hex_value h one (x + 2) format m) (digits_stop h one (x + 2))
        ≡ later (float_to (hex_value h other (i + 2) format n) (digits_stop h other (i + 2)))
    hex_here_of said m n hex a =
        let h = hex_form f said in
        let same = hex_parts said hex.apart in
        let two = next x i 2 here in
        let value = hex_value_same h one from other at same (x + 2) (i + 2) two hex.low format n in
        let stop = stop_later h one from other at same (x + 2) (i + 2) two hex.low in
        rw (a, value, stop) refl

    or_hex_later : (o : Option ℕ) → IfSome o (IsHexWord i)
        → or_hex f one begin format o ≡ later (or_hex f other start format o)
    or_hex_later (Some said) hex = hex_here_of said _ _ hex minus
    or_hex_later None hex =
        cut_if later _ _ _ _ _ _ separator_here (λ is. ap none_at here) plain_later

    hex_word_of : (k : Language) → k ≡ l → hex_word_at f k one x ≡ hex_word_at f l other i
    hex_word_of k h = rw h (hex_word_same l x i here here_upto language_apart)

    hex_outcome_later : or_hex f one begin format (hex_word_here f one begin)
        ≡ later (or_hex f other start format (hex_word_here f other start))
    hex_outcome_later =
        ap (or_hex f one begin format) (hex_word_of _ language_same)
        ∙ or_hex_later _ (hex_word_is l x i here here_upto language_apart)

    name_of : (s : Special) (m n : Bool) (y z : ℕ) → m ≡ n → y ≡ from + z
        → float_to (special_float s.value m) y ≡ later (float_to (special_float s.value n) z)
    name_of s m n y z a b = rw (a, b) refl

    or_special_later : (o : Option Special)
        → IfSome o (λ s. name_end f one x s ≡ from + name_end f other i s)
        → or_special f one begin format o ≡ later (or_special f other start format o)
    or_special_later (Some s) end = name_of s _ _ _ _ minus end
    or_special_later None end = hex_outcome_later

    specials_of : (b c m n : Bool) → b ≡ c → m ≡ n
        → AreSame from (name_end f one x) (name_end f other i) (special_at f one x b m)
        (special_at f other i c n)
    specials_of b c m n h k = rw (h, k) (special_same x i here here_upto c n)

    pub cut_outcome : number_of_at f one begin format ≡ later (number_of_at f other start format)
    unfolding number_of_at
    cut_outcome =
        let name = specials_of _ _ _ _ signed minus in
        ap (or_special f one begin format) name.same ∙ or_special_later _ name.ends_so

-- ---- what is before

pub moved_outcome : (f : Form) (text : List ℕ) (from at : ℕ) (format : Format)
    → from + at ≤ length text → IsFresh (is_number_byte f) text from
    → number_of_at f text (from + at) format
    ≡ outcome_later number_later from (number_of_at f (drop from text) at format)
moved_outcome f text from at format within fresh =
    let p = is_number_byte f in
    let low : from ≤ length text = omega (arith, within) in
    let all : from + length (drop from text) ≡ length text = moved_length text from low in
    cut_outcome f text from (drop from text) (length (drop from text))
    (from_rest (Fails p) refl text from (length (drop from text)) low (omega (arith, all)) fresh)
    (omega (arith, all)) (omega arith) (from + at) at refl (omega (arith, all, within)) format
