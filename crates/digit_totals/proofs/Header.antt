-- The first line of an input, which is passed, and the faults of the lines after it.
use Rattle.std.proofs.Common.{◌≡◌, ◌≢◌, ℕ, suc, ◌+◌, ◌-◌, ◌<◌, ◌≤◌, ◌==◌, Bool, true, false, cond, List, [], ◌∷◌, ◌++◌, All, length, length-take, take, drop, Some, None, Ok, Err, Result, refl, sym, ◌∙◌, ap, arith, append_assoc, append-nil, slice_range, subst}
use Rattle.std.specs.Prelude.{Option, ⊤, ◌^◌, nat_lt, IfErr}
use Rattle.std.specs.Io.KnownBytes.{Consumes}
use Rattle.std.specs.List.{onto_first, position}
use Rattle.std.proofs.lemmas.Bool.Decides.{nat_tests}
use Rattle.std.proofs.lemmas.List.{drop-take}
use Rattle.std.proofs.lemmas.List.Elements.{All-head, All-tail}
use Rattle.digit_totals.specs.declared.fault.Fault.{Fault}
use Rattle.digit_totals.specs.declared.fault.Fault.TheVariants.{Line, Read, Write, Memory}
use Rattle.digit_totals.specs.declared.fault.LineFault.{LineFault}
use Rattle.digit_totals.specs.declared.fault.LineFault.TheVariants.{Number, Sum, LongLine}
use Rattle.digit_totals.specs.declared.fault.NumberError.{NumberError}
use Rattle.digit_totals.specs.Lines.{lines_of, after_line}
use Rattle.digit_totals.specs.Meaning.{IsLater}
use Rattle.digit_totals.specs.Outcome.{MayBeLater, PassesLine, Sums, SumsLines, of_lines, sum_later, with_front}
use Rattle.digit_totals.specs.Report.{Adding, with_value, with_line, with_lines, continue, input_report, report_of, report_later, later, line_of, EndsIn, MayEndIn}
use Rattle.digit_totals.proofs.FirstMark.{position_splits, position_none, position_within}

-- ---- what is after the first line

after_joined : (front rest : List ℕ) → All (λ byte. byte ≢ 10) front
    → after_line (front ++ 10 ∷ rest) ≡ rest
after_joined [] rest h = refl
after_joined (byte ∷ front) rest h =
    let other = All-head (λ byte. byte ≢ 10) byte front h in
    let e = after_joined front rest (All-tail (λ byte. byte ≢ 10) byte front h) in
    grind (arith, nat_tests)

after_passed : (front rest : List ℕ) → All (λ byte. byte ≢ 10) front
    → after_line (front ++ rest) ≡ after_line rest
after_passed [] rest h = refl
after_passed (byte ∷ front) rest h =
    let other = All-head (λ byte. byte ≢ 10) byte front h in
    let e = after_passed front rest (All-tail (λ byte. byte ≢ 10) byte front h) in
    grind (arith, nat_tests)

-- what was read has no line feed
abbrev pub SameAfter : (old new : Option (List ℕ)) → Type 0
SameAfter None new = ⊤
SameAfter (Some text) None = ⊥
SameAfter (Some text) (Some rest) = after_line text ≡ after_line rest

pub same_after : (x y z : Option (List ℕ)) (bytes : List ℕ) → SameAfter x y → Consumes y z bytes
    → position (λ byte. byte == 10) bytes ≡ None → SameAfter x z
same_after None y z bytes p q none = tt
same_after (Some text) None z bytes p q none = absurd p
same_after (Some text) (Some rest) None bytes p q none = absurd q
same_after (Some text) (Some rest) (Some left) bytes p q none =
    p ∙ ap after_line q ∙ after_passed bytes left (position_none 10 bytes none)

pub passed_line : (x y z : Option (List ℕ)) (buffer new : List ℕ) (count end : ℕ)
    → SameAfter x y → Consumes y z (take count buffer)
    → position (λ byte. byte == 10) (take count buffer) ≡ Some end
    → take (count - (end + 1)) new ≡ slice_range buffer (end + 1) count
    → PassesLine x z (take (count - (end + 1)) new)
passed_line None y z buffer new count end p q found kept = tt
passed_line (Some text) None z buffer new count end p q found kept = absurd p
passed_line (Some text) (Some rest) None buffer new count end p q found kept = absurd q
passed_line (Some text) (Some rest) (Some left) buffer new count end p q found kept =
    let piece = take count buffer in
    let parts = position_splits 10 piece end found in
    let some : end < length piece = position_within 10 piece end found in
    let inside : end < count = omega (arith, some, length-take count buffer) in
    let span : end + 1 + (count - (end + 1)) ≡ count = omega (arith, inside) in
    let after : drop (end + 1) piece ≡ take (count - (end + 1)) new =
    ap (λ n. drop (end + 1) (take n buffer)) (sym span)
    ∙ drop-take (end + 1) (count - (end + 1)) buffer ∙ sym kept in
    p ∙ ap after_line
    (q ∙ ap (λ xs. xs ++ left) parts.whole
    ∙ append_assoc (take end piece) (10 ∷ drop (end + 1) piece) left)
    ∙ after_joined (take end piece) (drop (end + 1) piece ++ left) parts.before
    ∙ ap (λ xs. xs ++ left) after

-- ---- which line a fault may name

lines_length : (text : List ℕ) → length (lines_of text) ≤ length text
lines_length [] = omega arith
lines_length (byte ∷ bytes) = by_lines (byte == 10) (lines_of bytes) (lines_length bytes)
  where
    onto : (lines : List (List ℕ)) → length lines ≤ length bytes
        → length (onto_first byte lines) ≤ suc (length bytes)
    onto [] short = omega arith
    onto (line ∷ lines) short = omega (arith, short)

    by_lines : (b : Bool) (lines : List (List ℕ)) → length lines ≤ length bytes
        → length (cond b ([] ∷ lines) (onto_first byte lines)) ≤ suc (length bytes)
    by_lines true lines short = omega (arith, short)
    by_lines false lines short = onto lines short

module _ {T V : Type 0} (a : Adding T V)
    (counts : (t : T) (value : V) → a.count_of (a.plus t value) ≡ a.count_of t + 1) where
  -- of so many lines each has added a number, or one of them has a fault
  abbrev Within : T → ℕ → Result T LineFault → Type 0
  Within t n (Ok u) = a.count_of u ≤ a.count_of t + n
  Within t n (Err fault) = line_of fault ≤ a.count_of t + n

  cond_within : (t : T) (n : ℕ) (b : Bool) (x y : Result T LineFault) → Within t n x
      → Within t n y → Within t n (cond b x y)
  cond_within t n true x y p q = p
  cond_within t n false x y p q = q

  value_within : (t : T) (value : Result V NumberError) → Within t 1 (with_value a t value)
  value_within t (Ok value) =
      cond_within t 1 (a.fits t value) (Ok (a.plus t value)) (Err (Sum (a.count_of t + 1)))
      (omega (arith, counts t value)) (omega arith)
  value_within t (Err error) = omega arith

  line_within : (t : T) (line : List ℕ) → Within t 1 (with_line a t line)
  line_within t line =
      cond_within t 1 (nat_lt 65535 (length line)) (Err (LongLine (a.count_of t + 1)))
      (with_value a t (a.value_of line)) (omega arith) (value_within t (a.value_of line))

  wider : (t u : T) (n : ℕ) (report : Result T LineFault) → a.count_of u ≤ a.count_of t + 1
      → Within u n report → Within t (suc n) report
  wider t u n (Ok v) one p = omega (arith, one, p)
  wider t u n (Err fault) one p = omega (arith, one, p)

  continue_within : (t : T) (n : ℕ) (rest : T → Result T LineFault) (report : Result T LineFault)
      → Within t 1 report → ((u : T) → Within u n (rest u))
      → Within t (suc n) (continue a rest report)
  continue_within t n rest (Ok u) p q = wider t u n (rest u) p (q u)
  continue_within t n rest (Err fault) p q = omega (arith, p)

  pub lines_within : (t : T) (lines : List (List ℕ))
      → Within t (length lines) (with_lines a t lines)
  lines_within t [] = omega arith
  lines_within t (line ∷ lines) =
      continue_within t (length lines) (λ u. with_lines a u lines) (with_line a t line)
      (line_within t line) (λ u. lines_within u lines)

  pub text_within : (t : T) (text : List ℕ) (fault : LineFault)
      → with_lines a t (lines_of text) ≡ Err fault → line_of fault ≤ a.count_of t + length text
  text_within t text fault e =
      let some : line_of fault ≤ a.count_of t + length (lines_of text) =
      subst (Within t (length (lines_of text))) e (lines_within t (lines_of text)) in
      omega (arith, some, lines_length text)

  pub ends_within : (t : T) (text : List ℕ) (fault : LineFault) → EndsIn a t text fault
      → line_of fault ≤ a.count_of t + length text
  ends_within t text fault ends =
      text_within t text fault
      (ap (λ xs. with_lines a t (lines_of xs)) (sym (append-nil text)) ∙ ends [])

  pub sums_within : (t : T) (text : List ℕ) (report : Result T LineFault)
      → report ≡ with_lines a t (lines_of text) → a.count_of t + length text ≤ 2 ^ 127
      → IfErr (of_lines report) MayBeLater
  sums_within t text (Ok u) is room = tt
  sums_within t text (Err fault) is room =
      omega (arith, text_within t text fault (sym is), room)

-- ---- sums

module _ {T V : Type 0} (a : Adding T V) where
  may_later : (fault : LineFault) → MayEndIn a fault → MayEndIn a (later fault)
  may_later (Number n error) p = tt
  may_later (Sum n) p = p
  may_later (LongLine n) p = tt

  report_after : (text bytes rest : List ℕ) (report : Result T LineFault) → a.header ≡ true
      → after_line text ≡ bytes ++ rest → report_of a (bytes ++ rest) ≡ report
      → input_report a text ≡ report_later report
  report_after text bytes rest report header passed is =
      rw header (ap report_later (ap (report_of a) passed ∙ is))

  pub sums_after : (x y : Option (List ℕ)) (bytes : List ℕ) (result : Result T Fault)
      → a.header ≡ true → PassesLine x y bytes → SumsLines a (with_front bytes y) result
      → Sums a x (sum_later result)
  sums_after None None bytes (Ok t) header passed is = tt
  sums_after None (Some rest) bytes (Ok t) header passed is = tt
  sums_after (Some text) None bytes (Ok t) header passed is = absurd passed
  sums_after (Some text) (Some rest) bytes (Ok t) header passed is =
      report_after text bytes rest (Ok t) header passed is
  sums_after None None bytes (Err (Line fault)) header passed is = (may_later fault is.0, tt)
  sums_after None (Some rest) bytes (Err (Line fault)) header passed is =
      (may_later fault is.0, tt)
  sums_after (Some text) None bytes (Err (Line fault)) header passed is = absurd passed
  sums_after (Some text) (Some rest) bytes (Err (Line fault)) header passed is =
      (may_later fault is.0, report_after text bytes rest (Err fault) header passed is.1)
  sums_after x y bytes (Err (Read kind)) header passed is = is
  sums_after x y bytes (Err (Write kind)) header passed is = absurd is
  sums_after x y bytes (Err Memory) header passed is = absurd is

  report_header : (text : List ℕ) → a.header ≡ true
      → input_report a text ≡ report_later (report_of a (after_line text))
  report_header text header = rw header refl

  later_ok : (report : Result T LineFault) (t : T) → report_later report ≡ Ok t → report ≡ Ok t
  later_ok (Ok u) t e = e
  later_ok (Err fault) t e = absurd (grind (arith, e))

  later_err : (report : Result T LineFault) (fault : LineFault) → report_later report ≡ Err fault
      → IsLater fault report
  later_err (Ok u) fault e = absurd (grind (arith, e))
  later_err (Err one) fault e = (one, grind (arith, e), refl)

  pub totals_after : (text : List ℕ) (t : T) → a.header ≡ true → input_report a text ≡ Ok t
      → report_of a (after_line text) ≡ Ok t
  totals_after text t header e =
      later_ok (report_of a (after_line text)) t (sym (report_header text header) ∙ e)

  pub fault_after : (text : List ℕ) (fault : LineFault) → a.header ≡ true
      → input_report a text ≡ Err fault → IsLater fault (report_of a (after_line text))
  fault_after text fault header e =
      later_err (report_of a (after_line text)) fault (sym (report_header text header) ∙ e)
