-- A line that is read from a position on is the first line of the text from there on.
use Rattle.std.proofs.Common.{◌≡◌, ℕ, ℤ, ◌+◌, ◌-◌, ◌/◌, ◌%◌, ◌^◌, ◌<◌, ◌≤◌, Bool, true, false, cond, List, length, drop, get_or, refl, sym, ◌∙◌, ap, arith, Some, None, Ok, Err, Result, slice_get, subst, add-one, inl, inr}
use Rattle.std.specs.Int.{bit_at, trailing_zeros, w64}
use Rattle.std.proofs.lemmas.Bool.{cases_lt}
use Rattle.std.proofs.lemmas.Bool.Decides.{nat_tests}
use Rattle.std.proofs.lemmas.Nat.Bits.{bit_at-trailing_zeros}
use Rattle.std.proofs.lemmas.List.{drop-drop, length-drop}
use Rattle.lexical_format.specs.declared.TheConstants.{STANDARD}
use Rattle.lexical_format.specs.declared.words.TheConstants.{PYTHON_LITERAL}
use Rattle.lexical_digits.specs.ByteSet.{accepts}
use Rattle.lexical_digits.specs.Laws.Terms.{gets}
use Rattle.lexical_digits.specs.Moves.{byte_before, outcome_later}
use Rattle.lexical_digits.specs.Separators.{class, is_digit, is_separator}
use Rattle.lexical_digits.specs.State.{rule_of}
use Rattle.lexical_digits.specs.declared.skip.component.Component.TheVariants.{Integer}
use Rattle.lexical_digits.specs.declared.skip.rule.Class.TheVariants.{Digit, Separator, Other}
use Rattle.lexical_digits.specs.declared.skip.rule.Rule.{Rule}
use Rattle.lexical_digits.proofs.Calls.BothSides.{moved_get}
use Rattle.digit_words.specs.Eight.{IsWritten}
use Rattle.digit_values.specs.declared.LiteralError.{LiteralError}
use Rattle.digit_values.specs.declared.LiteralError.TheVariants.{Empty, Overflow}
use Rattle.digit_values.specs.declared.bytes.TheConstants.{BLANKS}
use Rattle.digit_values.specs.Bytes.{has_byte}
use Rattle.digit_literals.specs.declared.list.TheConstants.{LINES}
use Rattle.digit_literals.specs.Ends.{AreOthers}
use Rattle.digit_literals.specs.Lists.{past_blanks, next_after}
use Rattle.digit_literals.proofs.ByEnds.{begins_at_once, digit_first, first_room, passed_on, some_bit}
use Rattle.digit_integers.specs.Integers.{integer_at}
use Rattle.digit_integers.specs.Numbers.{number_at}
use Rattle.digit_integers.proofs.BothSides.{moved_number}
use Rattle.digit_integers.proofs.Whole.{number_is_plain}
use Rattle.digit_values.specs.Moves.{literal_later}
use Rattle.digit_totals.specs.declared.many.Line.{Line}
use Rattle.digit_totals.specs.declared.options.Kind.TheVariants.{Integers}
use Rattle.digit_totals.specs.declared.options.Options.{Options}
use Rattle.digit_totals.specs.Lines.{EndsWith}
use Rattle.digit_totals.specs.Quick.{HasNoLowByte, BeginsWith, FirstIs, IsLineAt}
use Rattle.digit_totals.specs.Value.{word_of}
use Rattle.digit_totals.proofs.Adding.{ends_with_drop}
use Rattle.digit_totals.proofs.InLine.{EndsLine, begins_later, onward, blanks_within, blanks_passed, blank_is, no_digit_blank, no_high_blank, ends_line}
use Rattle.digit_totals.proofs.NumberLine.{begins_integer, line_is, ends_after, standard_has_none, python_has_none}

-- ---- from the start of a line on

module _ (text : List ℕ) (start : ℕ) where
  moved_blanks : (at : ℕ)
      → past_blanks LINES text (start + at) ≡ start + past_blanks LINES (drop start text) at
  unfolding past_blanks
  moved_blanks at = rw (drop-drop at start text) (omega arith)

  moved_after : (end next : ℕ) → next_after LINES text (start + end) ≡ Ok next
      → next_after LINES (drop start text) end ≡ Ok (next - start)
  moved_after end next e =
      let p = past_blanks LINES (drop start text) end in
      let line = ends_line text (start + end) next e in
      let feed : past_blanks LINES text (start + end) ≡ start + p = moved_blanks end in
      let there : slice_get text (past_blanks LINES text (start + end)) ≡ Some 10 =
      grind (arith, gets, line.within, line.mark) in
      let byte : slice_get (drop start text) p ≡ Some 10 =
      sym (moved_get text start p) ∙ rw feed at there in
      let last : next - start ≡ p + 1 = omega (arith, line.next_is, feed) in
      grind (arith, nat_tests, byte, last)

of_later : (by : ℕ) (read : Result (ℤ × ℕ) LiteralError) (x : ℤ) (end : ℕ)
    → outcome_later literal_later by read ≡ Ok (x, end) → read ≡ Ok (x, end - by)
of_later by (Ok (y, e)) x end h =
    let same : by + e ≡ end = grind (arith, h) in
    let left : e ≡ end - by = omega (arith, same) in
    rw (← left) (grind (arith, h))
of_later by (Err (Empty at)) x end h = absurd (cc)
of_later by (Err (Overflow at)) x end h = absurd (cc)

-- ---- what begins with a digit

module _ (text : List ℕ) (at others : ℕ) (are : AreOthers text at others)
    (fits : others < 2 ^ 64) (more : 0 < trailing_zeros w64 others)
    (few : trailing_zeros w64 others < 64) where
  pub begins_here : past_blanks LINES text at ≡ at
  begins_here = begins_at_once LINES text at others are fits more few no_digit_blank

  pub no_sign : (byte : ℕ) → byte < 48 → has_byte text at byte ≡ false
  no_sign byte l =
      let digit = digit_first text at others are fits more few in
      let room = first_room text at others are (some_bit others few) fits in
      let there : at < length text = omega (arith, room) in
      grind (arith, nat_tests, gets, digit, there, l)

-- ---- what begins with a blank and a digit

module _ (text : List ℕ) (at others : ℕ) (are : AreOthers text at others)
    (fits : others < 2 ^ 64) (some : 1 < others) (one : others % 4 ≡ 1)
    (blank : get_or text at 0 ≡ 32) where
  abbrev half : ℕ
  half = others / 2 ^ 1

  pub after_blank : AreOthers text (at + 1) half
  after_blank = passed_on text at 1 others are

  half_fits : half < 2 ^ 64
  half_fits = omega (arith, fits)

  first : (trailing_zeros w64 half < 64) × (bit_at half (trailing_zeros w64 half) ≡ 1)
      × ((i : ℕ) → i < trailing_zeros w64 half → bit_at half i ≡ 0)
  first = bit_at-trailing_zeros w64 half (omega (arith, some, one)) half_fits

  later_bit : 0 < trailing_zeros w64 half
  later_bit = elim (cases_lt 0 (trailing_zeros w64 half)) [
    | inl l ↦ l
    | inr l ↦
        let none : trailing_zeros w64 half ≡ 0 = omega (arith, l) in
        let bit : bit_at half 0 ≡ 1 = subst (λ k. bit_at half k ≡ 1) none first.1 in
        absurd (omega (arith, bit, one))
  ]

  pub begins_after : past_blanks LINES text at ≡ at + 1
  begins_after =
      let digit = digit_first text (at + 1) half after_blank half_fits later_bit first.0 in
      let room = first_room text (at + 1) half after_blank (some_bit half first.0) half_fits in
      begins_later text at (omega (arith, room)) blank (omega (arith, digit.0))

  pub no_sign_after : (byte : ℕ) → byte < 48 → has_byte text (at + 1) byte ≡ false
  no_sign_after = no_sign text (at + 1) half after_blank half_fits later_bit first.0

-- ---- what follows a number

pub blank_low : (byte : ℕ) → accepts BLANKS byte ≡ true → byte < 43
blank_low byte is = elim (cases_lt byte 43) [
  | inl l ↦ l
  | inr l ↦ absurd (grind (arith, is, no_high_blank byte l))
]

-- a line feed or a blank
low_after : (text : List ℕ) (end next : ℕ) → next_after LINES text end ≡ Ok next
    → get_or text end 0 < 43
low_after text end next e =
    let line = ends_line text end next e in
    elim (cases_lt end (past_blanks LINES text end)) [
      | inl l ↦ blank_low (get_or text end 0)
          (blank_is (get_or text end 0) (blanks_passed LINES text end end (omega arith) l))
      | inr l ↦
          let same : past_blanks LINES text end ≡ end = omega (arith, l, onward LINES text end) in
          let mark : get_or text end 0 ≡ 10 =
          subst (λ q. get_or text q 0 ≡ 10) same line.mark in
          omega (arith, mark)
    ]

-- it is no digit and no separator of the number
other_digit : (digit separator : Bool)
    → cond digit Digit (cond separator Separator Other) ≡ Other → digit ≡ false
other_digit true separator h = absurd (cc)
other_digit false separator h = refl

other_separator : (digit separator : Bool)
    → cond digit Digit (cond separator Separator Other) ≡ Other → separator ≡ false
other_separator true separator h = absurd (cc)
other_separator false true h = absurd (cc)
other_separator false false h = refl

module _ (rule : Rule) (low : HasNoLowByte rule) (byte : ℕ) (is : byte < 43) where
  pub low_digit : is_digit rule byte ≡ false
  low_digit = other_digit (is_digit rule byte) (is_separator rule.separator byte) (low byte is)

  pub low_separator : is_separator rule.separator byte ≡ false
  low_separator =
      other_separator (is_digit rule byte) (is_separator rule.separator byte) (low byte is)

pub reads_to : (rule : Rule) (text : List ℕ) (begin count value next most : ℕ) → rule.radix ≡ 10
    → HasNoLowByte rule → IsWritten text begin count value → 0 < count
    → next_after LINES text (begin + count) ≡ Ok next → value ≤ most
    → integer_at rule text begin most ≡ Ok (value, begin + count)
reads_to rule text begin count value next most ten low written some after fits =
    let byte = get_or text (begin + count) 0 in
    let is = low_after text (begin + count) next after in
    let line = ends_line text (begin + count) next after in
    let within : begin + count < length text =
    omega (arith, line.within, onward LINES text (begin + count)) in
    number_is_plain rule text begin ten count value written within
    (low_digit rule low byte is) (low_separator rule low byte is) some most fits

-- ---- the words of the options

word_low : (b : Bool) → HasNoLowByte (rule_of (cond b PYTHON_LITERAL STANDARD) Integer)
word_low true = python_has_none Integer
word_low false = standard_has_none Integer

word_ten : (b : Bool) → (rule_of (cond b PYTHON_LITERAL STANDARD) Integer).radix ≡ 10
word_ten true = refl
word_ten false = refl

-- ---- the line that begins at a position

-- no byte of a number is before the line
abbrev pub Begins : Options → List ℕ → ℕ → Type 0
Begins options text start =
    class (rule_of (word_of options) Integer) (byte_before text start) ≡ Other

module _ (options : Options) (text : List ℕ) (none : options.column ≡ None)
    (kind : options.kind ≡ Integers) where
  abbrev word : ℕ
  word = word_of options

  abbrev rule : Rule
  rule = rule_of word Integer

  abbrev low : HasNoLowByte rule
  low = word_low options.underscores

  module _ (start : ℕ) (line : Line) (within : start ≤ length text)
      (fresh : Begins options text start) (is : IsLineAt text start line) where
    abbrev place : ℕ
    place = past_blanks LINES text start

    reads : number_at (2 ^ 63) (2 ^ 63 - 1) rule text place ≡ Ok (line.value, line.end)
    reads = is.number rule (word_ten options.underscores) low

    ends : (place < line.end) × (line.end ≤ length text)
    ends =
        ends_after rule low text place line.value line.end reads
        (blanks_within LINES text start within)

    feed : EndsLine text line.end line.next (past_blanks LINES text line.end)
    feed = ends_line text line.end line.next is.next

    pub later : start < line.next
    later =
        omega (arith, ends.0, onward LINES text start, onward LINES text line.end, feed.next_is)

    pub fresh_next : Begins options text line.next
    fresh_next =
        let byte : byte_before text line.next ≡ Some 10 =
        rw (feed.next_is, add-one) (grind (arith, gets, feed.within, feed.mark)) in
        rw byte (low 10 (omega arith))

    rest : drop (line.next - start) (drop start text) ≡ drop line.next text
    rest =
        drop-drop (line.next - start) start text
        ∙ ap (λ n. drop n text) (omega (arith, later))

    begins : BeginsWith word Integers (drop start text) line.value (drop line.next text)
    begins =
        let p = past_blanks LINES (drop start text) 0 in
        let from : place ≡ start + p =
        ap (past_blanks LINES text) (omega arith) ∙ moved_blanks text start 0 in
        let moved = moved_number rule text start within fresh (2 ^ 63) (2 ^ 63 - 1) p in
        let here = of_later start (number_at (2 ^ 63) (2 ^ 63 - 1) rule (drop start text) p)
        line.value line.end (sym moved ∙ rw from at reads) in
        let e : start + (line.end - start) ≡ line.end =
        omega (arith, ends.0, onward LINES text start) in
        let follows = moved_after text start (line.end - start) line.next (rw (← e) at is.next) in
        subst (BeginsWith word Integers (drop start text) line.value) rest
        (begins_integer word (drop start text) p line.value (line.end - start)
        (line.next - start) low refl here (omega (arith, ends.0, from))
        (omega (arith, ends.1, length-drop start text)) follows)

    pub line_first : FirstIs options (drop start text) line.value (drop line.next text)
    line_first =
        line_is options word (drop start text) (drop line.next text) line.value none refl
        (rw kind begins)

    pub shorter : length (drop line.next text) < length (drop start text)
    shorter = omega (arith, length-drop start text, length-drop line.next text, later, is.within)

    pub suffix : EndsWith (drop start text) (drop line.next text)
    suffix =
        subst (EndsWith (drop start text)) rest
        (ends_with_drop (drop start text) (line.next - start))
