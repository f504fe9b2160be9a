-- A column that is a number.
use Rattle.std.proofs.Common.{◌≡◌, ℕ, ℤ, ◌+◌, ◌-◌, ◌^◌, ◌<◌, ◌≤◌, Bool, true, false, cond, List, length, take, drop, get_or, slice_range, refl, sym, ◌∙◌, ap, arith, Some, Ok, inl, inr, get_or-take}
use Rattle.std.specs.Prelude.{◌==◌}
use Rattle.std.specs.List.{position}
use Rattle.std.proofs.lemmas.Bool.{cases_lt}
use Rattle.std.proofs.lemmas.List.{length-take-le, take-take, drop-take}
use Rattle.lexical_digits.specs.declared.skip.rule.Rule.{Rule}
use Rattle.digit_words.specs.Eight.{IsWritten}
use Rattle.digit_words.proofs.WordOfDigits.{same_written}
use Rattle.digit_values.specs.declared.bytes.TheConstants.{BLANKS}
use Rattle.digit_values.specs.Bytes.{past_bytes}
use Rattle.digit_integers.specs.Integers.{integer_at}
use Rattle.digit_integers.proofs.Whole.{whole_is, number_is_plain}
use Rattle.digit_totals.specs.declared.options.Column.{Column}
use Rattle.digit_totals.specs.declared.options.Kind.{Kind}
use Rattle.digit_totals.specs.declared.options.Options.{Options}
use Rattle.digit_totals.specs.Field.{span_in}
use Rattle.digit_totals.specs.Quick.{HasNoLowByte, FirstIs}
use Rattle.digit_totals.specs.Value.{word_of, number_in}
use Rattle.digit_totals.proofs.FirstLine.{first_is}
use Rattle.digit_totals.proofs.FirstMark.{position_within}
use Rattle.digit_totals.proofs.InLine.{byte_passed}
use Rattle.digit_totals.proofs.LinesByEnds.{blank_low, low_digit, low_separator}

pub most_above : (negative : Bool) → 2 ^ 63 ≤ cond negative (2 ^ 127) (2 ^ 127 - 1)
most_above true = omega arith
most_above false = omega arith

-- digits at the front of a text
front_written : (text : List ℕ) (at n count value : ℕ) → IsWritten text at n value
    → at + n ≤ count → count ≤ length text → IsWritten (take count text) at n value
front_written text at n count value all l within =
    let long = length-take-le count text within in
    let here : (i : ℕ) → i < n → get_or (take count text) (at + i) 0 ≡ get_or text (at + i) 0 =
    λ i m. get_or-take count text (at + i) 0 (omega (arith, l, m)) in
    record {
      within = omega (arith, l, long);
      digits = λ i m. rw (here i m) (all.digits i m);
      is = all.is ∙ same_written _ _ n (λ i m. ap (λ byte. byte - 48) (sym (here i m)));
    }

-- digits, and then blanks up to the end
pub reads_field : (rule : Rule) (text : List ℕ) (begin n value most : ℕ) → rule.radix ≡ 10
    → HasNoLowByte rule → IsWritten text begin n value → 0 < n → value ≤ most
    → past_bytes text (begin + n) BLANKS ≡ length text
    → integer_at rule text begin most ≡ Ok (value, begin + n)
reads_field rule text begin n value most ten low written some fits blanks =
    elim (cases_lt (begin + n) (length text)) [
      | inl l ↦
          let byte = get_or text (begin + n) 0 in
          let is : byte < 43 =
          blank_low byte (byte_passed BLANKS text (begin + n) (omega (arith, l, blanks))) in
          number_is_plain rule text begin ten n value written l
          (low_digit rule low byte is) (low_separator rule low byte is) some most fits
      | inr l ↦
          let end : begin + n ≡ length text = omega (arith, l, written.within) in
          rw end (whole_is rule text begin ten n value written end some most fits)
    ]

pub reads_front : (rule : Rule) (text : List ℕ) (begin n count value most : ℕ) → rule.radix ≡ 10
    → HasNoLowByte rule → IsWritten text begin n value → 0 < n → begin + n ≤ count
    → count ≤ length text → value ≤ most
    → past_bytes (take count text) (begin + n) BLANKS ≡ count
    → integer_at rule (take count text) begin most ≡ Ok (value, begin + n)
reads_front rule text begin n count value most ten low written some l within fits blanks =
    reads_field rule (take count text) begin n value most ten low
    (front_written text begin n count value written l within) some fits
    (blanks ∙ sym (length-take-le count text within))

-- a part of a line, by the text
pub part_of : (text : List ℕ) (feed start end : ℕ) → start ≤ end → end ≤ feed
    → slice_range (take feed text) start end ≡ take (end - start) (drop start text)
part_of text feed start end order within =
    let split : start + (feed - start) ≡ feed = omega (arith, order, within) in
    ap (take (end - start)) (ap (λ n. drop start (take n text)) (sym split)
    ∙ drop-take start (feed - start) text)
    ∙ take-take (end - start) (feed - start) (drop start text) (omega (arith, within))

pub column_first : (options : Options) (word : ℕ) (column : Column) (kind : Kind) (text : List ℕ)
    → (feed start end : ℕ) (value : ℤ) → options.column ≡ Some column → word_of options ≡ word
    → options.kind ≡ kind → position (λ byte. byte == 10) text ≡ Some feed
    → Ok (start, end) ≡ span_in (Some column) (take feed text) → start ≤ end
    → end ≤ length (take feed text)
    → number_in word (take (end - start) (drop start text)) kind ≡ Ok value
    → FirstIs options text value (drop (feed + 1) text)
column_first options word column kind text feed start end value column_is same kind_is found span
    order within is =
    let inside = position_within 10 text feed found in
    let long = length-take-le feed text (omega (arith, inside)) in (
      take feed text,
      rw (
        column_is,
        ← span,
        same,
        kind_is,
        part_of text feed start end order (omega (arith, within, long)),
        is,
      ) refl,
      first_is text feed found,
      omega (arith, long, inside),
    )
