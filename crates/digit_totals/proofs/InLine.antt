-- A number that stands in the first line of a text, with blanks before it and after it.
use Rattle.std.proofs.Common.{◌≡◌, ◌≢◌, ℕ, zero, suc, ◌+◌, ◌-◌, ◌^◌, ◌<◌, ◌≤◌, Bool, true, false, List, [], ◌∷◌, ◌++◌, All, length, take, drop, get_or, refl, sym, ◌∙◌, arith, Some, None, Ok, slice_get, take_while, get_or-take, subst, ◌/◌, ◌%◌, inl, inr}
use Rattle.std.specs.Prelude.{Option}
use Rattle.std.proofs.Math.Nat.{div-eq_of_lt, one-le-pow, pow-le-pow_right}
use Rattle.std.proofs.Math.Seq.{split_at}
use Rattle.std.proofs.lemmas.Bool.{cases_lt}
use Rattle.std.proofs.lemmas.Bool.Decides.{nat_tests}
use Rattle.std.proofs.lemmas.List.{length-take-le, length-drop, get_or-drop}
use Rattle.std.proofs.lemmas.List.Elements.{All-from_get_or}
use Rattle.std.proofs.lemmas.List.Sums.{take_while-cons}
use Rattle.lexical_format.specs.Word.{bit}
use Rattle.lexical_digits.specs.ByteSet.{accepts}
use Rattle.lexical_digits.specs.declared.ops.ByteSet.{ByteSet}
use Rattle.lexical_digits.specs.Cursor.{holds_of}
use Rattle.lexical_digits.specs.Laws.Terms.{gets, slice_get_past}
use Rattle.digit_values.specs.declared.bytes.TheConstants.{BLANKS}
use Rattle.digit_literals.specs.declared.list.Gap.{Gap}
use Rattle.digit_literals.specs.declared.list.TheConstants.{LINES}
use Rattle.digit_values.specs.Bytes.{past_bytes}
use Rattle.digit_literals.specs.Lists.{is_blank, has_blank, has_separator, past_blanks, next_after}
use Rattle.digit_literals.proofs.Lists.{no_blank, separator_is_no_blank}
use Rattle.digit_values.proofs.Passing.{none_passed, one_passed}
use Rattle.digit_totals.specs.Field.{is_quoted}
use Rattle.digit_totals.specs.Lines.{IsFirstLine}
use Rattle.digit_totals.proofs.FirstLine.{first_joined}

-- ---- bytes

no_bit : (n byte : ℕ) → n < 2 ^ byte → bit n byte ≡ false
no_bit n byte l = rw (div-eq_of_lt l) refl

pub no_high_blank : (byte : ℕ) → 43 ≤ byte → accepts BLANKS byte ≡ false
no_high_blank byte l =
    let large : 2 ^ 43 ≤ 2 ^ byte = pow-le-pow_right {n = 2} (omega arith) l in
    let some : 0 < 2 ^ (byte - 128) = one-le-pow (byte - 128) 2 (omega arith) in
    grind (
      arith,
      nat_tests,
      no_bit BLANKS.low byte (omega (arith, large)),
      no_bit BLANKS.high (byte - 128) some,
    )

-- what is passed in a line is a blank, and no line feed
pub blank_is : (byte : ℕ) → is_blank LINES byte ≡ true → accepts BLANKS byte ≡ true
blank_is byte h = grind (arith, nat_tests, h)

pub blank_other : (byte : ℕ) → is_blank LINES byte ≡ true → byte ≢ 10
blank_other byte h e =
    let there : is_blank LINES 10 ≡ true = subst (λ b. is_blank LINES b ≡ true) e h in
    absurd (cc)

-- ten bits of which none is set
ten_clear : (k : ℕ) → k < 10 → 1024 / 2 ^ k % 2 ≡ 0
ten_clear zero l = refl
ten_clear (suc zero) l = refl
ten_clear (suc (suc zero)) l = refl
ten_clear (suc (suc (suc zero))) l = refl
ten_clear (suc (suc (suc (suc zero)))) l = refl
ten_clear (suc (suc (suc (suc (suc zero))))) l = refl
ten_clear (suc (suc (suc (suc (suc (suc zero)))))) l = refl
ten_clear (suc (suc (suc (suc (suc (suc (suc zero))))))) l = refl
ten_clear (suc (suc (suc (suc (suc (suc (suc (suc zero)))))))) l = refl
ten_clear (suc (suc (suc (suc (suc (suc (suc (suc (suc zero))))))))) l = refl
ten_clear (suc (suc (suc (suc (suc (suc (suc (suc (suc (suc k)))))))))) l =
    absurd (omega (arith, l))

-- only a line feed separates
pub feed_is : (byte : ℕ) → accepts LINES.separators byte ≡ true → byte ≡ 10
feed_is byte h = elim (cases_lt byte 10) [
  | inl l ↦
      let off : bit LINES.separators.low byte ≡ false = rw (ten_clear byte l) refl in
      absurd (grind (arith, nat_tests, h, off, l))
  | inr l ↦ elim (cases_lt 10 byte) [
    | inl m ↦
        let large : 2 ^ 11 ≤ 2 ^ byte = pow-le-pow_right {n = 2} (omega arith) m in
        let some : 0 < 2 ^ (byte - 128) = one-le-pow (byte - 128) 2 (omega arith) in
        absurd (grind (
          arith,
          nat_tests,
          h,
          no_bit LINES.separators.low byte (omega (arith, large)),
          no_bit LINES.separators.high (byte - 128) some,
        ))
    | inr m ↦ omega (arith, l, m)
  ]
]

-- ---- how many bytes pass

pub passes_to : (p : ℕ → Bool) (xs : List ℕ) (n : ℕ) → n ≤ length xs
    → ((i : ℕ) → i < n → p (get_or xs i 0) ≡ true) → holds_of p (slice_get xs n) ≡ false
    → length (take_while p xs) ≡ n
passes_to p [] n l h e = omega (arith, l)
passes_to p (x ∷ xs) zero l h e = grind (arith, e, take_while-cons p x xs)
passes_to p (x ∷ xs) (suc n) l h e =
    let here : p x ≡ true = h 0 (omega arith) in
    let rest = passes_to p xs n (omega (arith, l)) (λ i m. h (suc i) (omega (arith, m))) e in
    grind (arith, here, rest, take_while-cons p x xs)

first_passes : (p : ℕ → Bool) (x : ℕ) (xs : List ℕ) (b : Bool) → p x ≡ b
    → 0 < length (take_while p (x ∷ xs)) → p x ≡ true
first_passes p x xs true e l = e
first_passes p x xs false e l = absurd (grind (arith, l, e, take_while-cons p x xs))

others_pass : (p : ℕ → Bool) (x : ℕ) (xs : List ℕ) (i : ℕ) (b : Bool) → p x ≡ b
    → suc i < length (take_while p (x ∷ xs)) → i < length (take_while p xs)
others_pass p x xs i true e l = grind (arith, l, e, take_while-cons p x xs)
others_pass p x xs i false e l = absurd (grind (arith, l, e, take_while-cons p x xs))

pub passed : (p : ℕ → Bool) (xs : List ℕ) (i : ℕ) → i < length (take_while p xs)
    → p (get_or xs i 0) ≡ true
passed p [] i l = absurd (omega (arith, l))
passed p (x ∷ xs) zero l = first_passes p x xs (p x) refl l
passed p (x ∷ xs) (suc i) l = passed p xs i (others_pass p x xs i (p x) refl l)

few_more : (p : ℕ → Bool) (x : ℕ) (xs : List ℕ) (b : Bool) → p x ≡ b
    → length (take_while p xs) ≤ length xs
    → length (take_while p (x ∷ xs)) ≤ length (x ∷ xs)
few_more p x xs true e few = grind (arith, e, few, take_while-cons p x xs)
few_more p x xs false e few = grind (arith, e, take_while-cons p x xs)

few_passed : (p : ℕ → Bool) (xs : List ℕ) → length (take_while p xs) ≤ length xs
few_passed p [] = omega arith
few_passed p (x ∷ xs) = few_more p x xs (p x) refl (few_passed p xs)

module _ (gap : Gap) (text : List ℕ) (at : ℕ) where
  pub onward : at ≤ past_blanks gap text at
  unfolding past_blanks
  onward = omega arith

  pub blanks_within : at ≤ length text → past_blanks gap text at ≤ length text
  unfolding past_blanks
  blanks_within l =
      omega (arith, few_passed (is_blank gap) (drop at text), length-drop at text, l)

  pub blanks_passed : (q : ℕ) → at ≤ q → q < past_blanks gap text at
      → is_blank gap (get_or text q 0) ≡ true
  unfolding past_blanks
  blanks_passed q l m =
      let there : at + (q - at) ≡ q = omega (arith, l) in
      let inside : q - at < length (take_while (is_blank gap) (drop at text)) =
      omega (arith, l, m) in
      rw (get_or-drop at text (q - at) 0, there) at
      (passed (is_blank gap) (drop at text) (q - at) inside)

-- a byte that is passed
pub byte_passed : (set : ByteSet) (text : List ℕ) (at : ℕ) → at < past_bytes text at set
    → accepts set (get_or text at 0) ≡ true
unfolding past_bytes
byte_passed set text at l =
    let none : at + 0 ≡ at = omega arith in
    rw (get_or-drop at text 0 0, none) at
    (passed (accepts set) (drop at text) 0 (omega (arith, l)))

-- ---- the line

-- From `place` to `end` is a number without a low byte; before it and after it are blanks, up to
-- the line feed at `feed`.
pub record StandsInLine (text : List ℕ) (place end feed : ℕ) : Type 0 where
  pub some : place < end
  pub order : end ≤ feed
  pub within : feed < length text
  pub mark : get_or text feed 0 ≡ 10
  pub before : (q : ℕ) → q < place → is_blank LINES (get_or text q 0) ≡ true
  pub high : (q : ℕ) → place ≤ q → q < end → 43 ≤ get_or text q 0
  pub after : (q : ℕ) → end ≤ q → q < feed → is_blank LINES (get_or text q 0) ≡ true

module _ (text : List ℕ) (place end feed : ℕ) (s : StandsInLine text place end feed) where
  abbrev pub line : List ℕ
  line = take feed text

  pub long : length line ≡ feed
  long = length-take-le feed text (omega (arith, s.within))

  here : (q : ℕ) → q < feed → get_or line q 0 ≡ get_or text q 0
  here q l = get_or-take feed text q 0 l

  pub blanks_before : past_bytes line 0 BLANKS ≡ place
  unfolding past_bytes
  blanks_before =
      let first : slice_get line place ≡ Some (get_or text place 0) =
      grind (arith, gets, long, s.some, s.order, here place (omega (arith, s.some, s.order))) in
      let stops : holds_of (accepts BLANKS) (slice_get line place) ≡ false =
      rw first (no_high_blank (get_or text place 0) (s.high place (omega arith) s.some)) in
      let count : length (take_while (accepts BLANKS) (drop 0 line)) ≡ place =
      passes_to (accepts BLANKS) line place (omega (arith, long, s.some, s.order))
      (λ i l. rw (here i (omega (arith, l, s.some, s.order)))
      (blank_is (get_or text i 0) (s.before i l))) stops in
      omega (arith, count)

  pub blanks_after : past_bytes line end BLANKS ≡ feed
  unfolding past_bytes
  blanks_after =
      let rest : length (drop end line) ≡ feed - end = omega (arith, length-drop end line, long) in
      let stops : holds_of (accepts BLANKS) (slice_get (drop end line) (feed - end)) ≡ false =
      rw (slice_get_past (drop end line) (feed - end) (omega (arith, rest))) refl in
      let count : length (take_while (accepts BLANKS) (drop end line)) ≡ feed - end =
      passes_to (accepts BLANKS) (drop end line) (feed - end) (omega (arith, rest))
      (λ i l. rw (get_or-drop end line i 0, here (end + i) (omega (arith, l)))
      (blank_is (get_or text (end + i) 0) (s.after (end + i) (omega arith) (omega (arith, l)))))
      stops in
      omega (arith, count, s.order)

  other : (q : ℕ) → q < feed → get_or text q 0 ≢ 10
  other q l e =
      grind (
        arith,
        nat_tests,
        e,
        s.high q,
        blank_other (get_or text q 0),
        s.before q,
        s.after q,
      )

  pub no_feed : All (λ byte. byte ≢ 10) line
  no_feed = All-from_get_or (λ byte. byte ≢ 10) line 0 (λ i inside e.
      let below : i < feed = omega (arith, inside, long) in
      other i below (sym (here i below) ∙ e))

  pub first_line : IsFirstLine text line (drop (feed + 1) text)
  first_line =
      let next : suc feed ≡ feed + 1 = omega arith in
      let split : text ≡ line ++ 10 ∷ drop (feed + 1) text =
      rw (s.mark, next) at (split_at text feed 0 s.within) in
      first_joined text line (drop (feed + 1) text) split no_feed

-- where the line of a number ends: at the line feed after its blanks
pub record EndsLine (text : List ℕ) (end next feed : ℕ) : Type 0 where
  pub feed_is : feed ≡ past_blanks LINES text end
  pub next_is : next ≡ feed + 1
  pub within : feed < length text
  pub mark : get_or text feed 0 ≡ 10

pub ends_line : (text : List ℕ) (end next : ℕ) → next_after LINES text end ≡ Ok next
    → EndsLine text end next (past_blanks LINES text end)
ends_line text end next e =
    let feed = past_blanks LINES text end in
    by_byte (slice_get text feed) refl
  where
    by_byte : (byte : Option ℕ) → slice_get text (past_blanks LINES text end) ≡ byte
        → EndsLine text end next (past_blanks LINES text end)
    by_byte None is = absurd (grind (arith, nat_tests, e, is))
    by_byte (Some byte) is =
        let separates : accepts LINES.separators byte ≡ true = grind (arith, nat_tests, e, is) in
        record {
          feed_is = refl;
          next_is = grind (arith, nat_tests, e, is, separates);
          within = grind (arith, gets, is);
          mark = grind (arith, gets, is, feed_is byte separates);
        }

-- a number with blanks around it, by its reader's words
pub stands : (text : List ℕ) (end next : ℕ) → past_blanks LINES text 0 < end
    → ((q : ℕ) → past_blanks LINES text 0 ≤ q → q < end → 43 ≤ get_or text q 0)
    → next_after LINES text end ≡ Ok next
    → StandsInLine text (past_blanks LINES text 0) end (past_blanks LINES text end)
stands text end next some high e =
    let ends = ends_line text end next e in
    record {
      some = some;
      order = onward LINES text end;
      within = ends.within;
      mark = ends.mark;
      before = λ q l. blanks_passed LINES text 0 q (omega arith) l;
      high = high;
      after = λ q l m. blanks_passed LINES text end q l m;
    }

-- ---- the usual line, which begins with no blank, and whose number the line feed follows

small_blanks : (byte : ℕ) → 33 ≤ byte → accepts BLANKS byte ≡ false
small_blanks byte l =
    let large : 2 ^ 33 ≤ 2 ^ byte = pow-le-pow_right {n = 2} (omega arith) l in
    let some : 0 < 2 ^ (byte - 128) = one-le-pow (byte - 128) 2 (omega arith) in
    grind (
      arith,
      nat_tests,
      no_bit BLANKS.low byte (omega (arith, large)),
      no_bit BLANKS.high (byte - 128) some,
    )

-- no quote begins a field whose first byte is after it
pub no_quote : (field : List ℕ) → 0 < length field → 34 < get_or field 0 0
    → is_quoted field ≡ false
unfolding past_bytes
no_quote field some l =
    let is : slice_get field 0 ≡ Some (get_or field 0 0) = grind (arith, gets, some) in
    let none : accepts BLANKS (get_or field 0 0) ≡ false =
    small_blanks (get_or field 0 0) (omega (arith, l)) in
    let count = none_passed (accepts BLANKS) field 0 (rw is none) in
    let at : past_bytes field 0 BLANKS ≡ 0 = omega (arith, count) in
    rw (at, is) (grind (arith, nat_tests, l))

-- no digit is a blank
pub no_digit_blank : (byte : ℕ) → 48 ≤ byte → byte < 58 → is_blank LINES byte ≡ false
no_digit_blank byte low high = grind (arith, nat_tests, small_blanks byte (omega (arith, low)))

pub begins_plain : (text : List ℕ) (at : ℕ) → at < length text → 32 < get_or text at 0
    → past_blanks LINES text at ≡ at
begins_plain text at some l =
    let is : slice_get text at ≡ Some (get_or text at 0) = grind (arith, gets, some) in
    let none : accepts BLANKS (get_or text at 0) ≡ false =
    small_blanks (get_or text at 0) (omega (arith, l)) in
    no_blank LINES text at (grind (arith, nat_tests, is, none))

one_blank : (text : List ℕ) (at : ℕ) → has_blank LINES text at ≡ true
    → has_blank LINES text (at + 1) ≡ false → past_blanks LINES text at ≡ at + 1
unfolding past_blanks
one_blank text at here next =
    omega (
      arith,
      one_passed (is_blank LINES) text at here,
      none_passed (is_blank LINES) text (at + 1) next,
    )

-- after one blank
pub begins_later : (text : List ℕ) (at : ℕ) → at + 1 < length text → get_or text at 0 ≡ 32
    → 32 < get_or text (at + 1) 0 → past_blanks LINES text at ≡ at + 1
begins_later text at some blank l =
    let is : slice_get text at ≡ Some 32 = grind (arith, gets, some, blank) in
    let next : slice_get text (at + 1) ≡ Some (get_or text (at + 1) 0) =
    grind (arith, gets, some) in
    let none : accepts BLANKS (get_or text (at + 1) 0) ≡ false =
    small_blanks (get_or text (at + 1) 0) (omega (arith, l)) in
    one_blank text at (rw is refl) (grind (arith, nat_tests, next, none))

pub feeds_plain : (text : List ℕ) (end : ℕ) → end < length text → get_or text end 0 ≡ 10
    → next_after LINES text end ≡ Ok (end + 1)
feeds_plain text end within mark =
    let byte : slice_get text end ≡ Some 10 = grind (arith, gets, within, mark) in
    let here : has_separator LINES text end ≡ true = grind (arith, nat_tests, byte) in
    let same = separator_is_no_blank LINES text end here in
    rw same (grind (arith, nat_tests, here))

-- after a carriage return
pub feeds_later : (text : List ℕ) (end : ℕ) → end + 1 < length text → get_or text end 0 ≡ 13
    → get_or text (end + 1) 0 ≡ 10 → next_after LINES text end ≡ Ok (end + 2)
feeds_later text end within back mark =
    let byte : slice_get text end ≡ Some 13 = grind (arith, gets, within, back) in
    let next : slice_get text (end + 1) ≡ Some 10 = grind (arith, gets, within, mark) in
    let same = one_blank text end (rw byte refl) (rw next refl) in
    let last : end + 2 ≡ end + 1 + 1 = omega arith in
    rw (same, last, next) refl

pub ruleset begins = (begins_plain, begins_later, blanks_within, onward)

pub ruleset feeds = (feeds_plain, feeds_later)
