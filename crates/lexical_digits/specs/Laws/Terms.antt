-- The words of specs/, and the facts of std, that the lemmas of this crate are about. A file of
-- lemmas imports them from here, so a word that moves changes one line.
pub use Rattle.std.specs.List.{last_or, FoldsTo, range_with_len, list_any}
pub use Rattle.std.specs.Fn.{Called, iterate}
pub use Rattle.std.specs.Option.{option_map_or}
pub use Rattle.std.proofs.lemmas.Bool.{cases_lt, cases_Bool, not-false, and_parts, false≢true}
pub use Rattle.std.proofs.lemmas.Bool.{le-leb, not-true, or_parts, and_left, and_right, or_from}
pub use Rattle.std.proofs.lemmas.Bool.{not_from_true, lt-ltb, not_from_false}
pub use Rattle.std.proofs.lemmas.Bool.Decides.{nat_tests}
pub use Rattle.std.proofs.lemmas.List.{drop_more, drop_all, get_or_past, take_more, reverse-append}
pub use Rattle.std.proofs.lemmas.List.Sums.{fold-append, take_while-cons, length-filter}
pub use Rattle.std.proofs.lemmas.List.Sums.{sum_by-cons, sum_by-drop_more}
pub use Rattle.std.proofs.lemmas.Option.{slice_get-get_or, slice_get_past, gets, slice_get_within}
pub use Rattle.std.proofs.lemmas.Option.{slice_get_cases}
pub use Rattle.std.proofs.lemmas.Int.{ints}
pub use Rattle.lexical_format.specs.Word.{separator, bit, mantissa_radix, exponent_radix}
pub use Rattle.lexical_format.specs.Word.{is_supported}
unfoldable pub use Rattle.lexical_format.specs.Digits.{digit_value}
pub use Rattle.lexical_format.specs.Digits.{is_digit_of_radix}
pub use Rattle.lexical_digits.specs.declared.skip.rule.Rule.{Rule}
pub use Rattle.lexical_digits.specs.declared.skip.component.Component.{Component}
pub use Rattle.lexical_digits.specs.declared.skip.component.Component.TheVariants.{Special}
pub use Rattle.lexical_digits.specs.declared.skip.component.Component.TheVariants.{Exponent}
pub use Rattle.lexical_digits.specs.declared.skip.component.Component.TheVariants.{Fraction}
pub use Rattle.lexical_digits.specs.declared.skip.component.Component.TheVariants.{Integer}
unfoldable pub use Rattle.lexical_digits.specs.Separators.{past_zeros, is_digit, is_kept}
unfoldable pub use Rattle.lexical_digits.specs.Separators.{kept_positions, is_separator, drain}
unfoldable pub use Rattle.lexical_digits.specs.Separators.{place, neighbour, holds_separator}
unfoldable pub use Rattle.lexical_digits.specs.Separators.{is_dropped, digits_seen, zeros}
pub use Rattle.lexical_digits.specs.Separators.{has_flags, class, right_side, GrantsAll}
pub use Rattle.lexical_digits.specs.Separators.{IsSupported, is_separator_class, GrantsNone}
pub use Rattle.lexical_digits.specs.Separators.{GrantsAtLeast, left_side, roles, grants, Role}
pub use Rattle.lexical_digits.specs.State.{State, IsState, with_cursor, rule, own, one_more}
pub use Rattle.lexical_digits.specs.State.{saturating, radix_of, rule_of, with_own, counts}
pub use Rattle.lexical_digits.specs.State.{is_special, count_after, is_contiguous, has_no_separator}
pub use Rattle.lexical_digits.specs.State.{current_count, with_no_counts}
unfoldable pub use Rattle.lexical_digits.specs.CallTable.{place_of, taken, after_drain, view}
unfoldable pub use Rattle.lexical_digits.specs.CallTable.{after_view}
pub use Rattle.lexical_digits.specs.CallTable.{drain_of, byte_at_place, settled, past_place}
pub use Rattle.lexical_digits.specs.CallTable.{counted, counted_by, zeros_of, past_zeros_of}
pub use Rattle.lexical_digits.specs.CallTable.{ChangesOwn, run_of, On, Op, Peek, Next}
pub use Rattle.lexical_digits.specs.CallTable.{IncrementCount, TryRead, SkipZeros, Takes, own_after}
pub use Rattle.lexical_digits.specs.CallTable.{Part, OnBytes, TakeN, row_of}
unfoldable pub use Rattle.lexical_digits.specs.Cursor.{after_zeros, items, after_items, walk}
pub use Rattle.lexical_digits.specs.Cursor.{holds_of, DigitLaws, at_zero, past_zero, IterLaws}
pub use Rattle.lexical_digits.specs.Cursor.{bytes_left}
unfoldable pub use Rattle.lexical_digits.specs.Stop.{stop, leading_digits, leading, after_leading}
pub use Rattle.lexical_digits.specs.Stop.{stop_of, leading_digits_of, past_digits_of, IsNthDigit}
pub use Rattle.lexical_digits.specs.Texts.{IsInternalAlone, IsInternalInRuns, is_digit_or_between}
pub use Rattle.lexical_digits.specs.Texts.{is_digit_or_separator, IsFirstFault, holds_digit}
pub use Rattle.lexical_digits.specs.Texts.{digit_before, AllDigitsOrSeparators, AllDigitsOrBetween}
pub use Rattle.lexical_digits.specs.Texts.{IsFromDigitToDigit, IsFirstFaultFrom, leads_to_digit}
pub use Rattle.lexical_digits.specs.Texts.{is_digit_or_in_run}
pub use Rattle.lexical_digits.specs.Looks.{Held, PeeksOf, NextsOf, SettlesOf, LooksHere, slice_before, Costs, Finds}
pub use Rattle.lexical_digits.specs.Looks.{IsRun, IsRunOrNone, IsSpan, LooksBetween, Remembers}
pub use Rattle.lexical_digits.specs.Looks.{NoLooks, far, has_scanned, needs_run, one_if, owed}
pub use Rattle.lexical_digits.specs.Looks.{owed_by, run_holds, run_length, scans}
pub use Rattle.lexical_digits.specs.Iterators.{Nexts, items_in, after_items_in, zeros_in}
pub use Rattle.lexical_digits.specs.Iterators.{after_zeros_in}
pub use Rattle.lexical_digits.specs.Fields.Bytes.{FollowsDigit, IsInnerAt, IsInnerDigit, IsReading}
pub use Rattle.lexical_digits.specs.Fields.Bytes.{has_no_flags, held_of}
unfoldable pub use Rattle.lexical_digits.specs.Looks.{separator_at}
pub use Rattle.lexical_digits.specs.Fields.Shortcuts.{AreShortcuts, IsInner, is_direct}
pub use Rattle.lexical_digits.specs.Fields.Shortcuts.{is_direct_by}
unfoldable pub use Rattle.lexical_digits.specs.Fields.Tally.{exponent_of, fraction_of, integer_of}
unfoldable pub use Rattle.lexical_digits.specs.Fields.Tally.{looks_of}
pub use Rattle.lexical_digits.specs.Fields.Tally.{Leaves, count_of, passed_by, state_of}
pub use Rattle.lexical_digits.specs.declared.skip.bytes.Bytes.TheInside.{Inside}
pub use Rattle.lexical_digits.specs.declared.skip.rule.Shortcuts.{Shortcuts}
pub use Rattle.lexical_digits.specs.declared.skip.bytes.tally.Tally.{Tally}
