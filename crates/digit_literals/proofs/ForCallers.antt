-- The lemmas for callers of the crates below, to be named in an attribute.
pub use Rattle.digit_values.proofs.ForCallers.{stop_from, stop_within, stop_past_digit, stops}
pub use Rattle.digit_values.proofs.ForCallers.{first_of_rest, all_is, rests, value_is, all_digits}
pub use Rattle.digit_values.proofs.ForCallers.{value_of_both, value_of_pieces, value_next}
pub use Rattle.digit_values.proofs.ForCallers.{value_more, same_more, count_goes_on}
pub use Rattle.digit_values.proofs.ForCallers.{value_goes_on, pieces_go_on, passed_goes_on}
pub use Rattle.digit_values.proofs.ForCallers.{stop_goes_on, goes_on, none_dropped, first_digits}
pub use Rattle.digit_values.proofs.ForCallers.{first_of_others, first_no_more, dropped}
pub use Rattle.digit_integers.proofs.ForCallers.{few_digits_fit}
