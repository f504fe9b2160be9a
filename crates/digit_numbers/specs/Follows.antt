-- Which bytes a number by a form may have. Every other byte ends it, and what follows such a byte
-- makes no difference.
use Rattle.std.specs.Prelude.{ℕ, Bool, false, ◌||◌, Option, None, Some}
use Rattle.std.specs.List.{list_any}
use Rattle.digit_floats.specs.Bytes.{is_sign, is_point, is_mark}
use Rattle.digit_languages.specs.Follows.{is_literal_byte}
use Rattle.digit_numbers.specs.declared.form.Form.{Form}
use Rattle.digit_numbers.specs.declared.form.Special.{Special}
use Rattle.digit_numbers.specs.Forms.{is_barred}
use Rattle.digit_numbers.specs.Specials.{names_of, same_by, bytes_of}

-- whether a name has a byte
abbrev pub is_name_byte : Form → ℕ → Special → Bool
is_name_byte f byte s = list_any (λ b. same_by f.specials b byte) (bytes_of s.name)

-- whether a byte is another mark of an exponent
abbrev pub is_other_mark : Option ℕ → ℕ → Bool
is_other_mark None byte = false
is_other_mark (Some mark) byte = is_mark mark byte

-- whether a byte may be in a number, or say after a point that it is none: a letter, a digit or a
-- separator, a sign, the point, a mark, one that may not follow a point, or one of a name
abbrev pub is_number_byte : Form → ℕ → Bool
is_number_byte f byte =
    is_literal_byte f.integers byte || is_sign byte || is_point f.marks.point byte
    || is_mark f.marks.exponent byte || is_barred f.after_point byte
    || list_any (is_name_byte f byte) (names_of f.specials) || is_other_mark f.other_mark byte
