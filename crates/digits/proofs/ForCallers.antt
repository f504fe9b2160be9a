-- The lemmas for callers, to be named in an attribute.
pub use Rattle.digit_values.proofs.ForCallers.{stops, rests, all_is, value_is}
pub use Rattle.digit_integers.proofs.ForCallers.{few_digits_fit}
pub use Rattle.digit_values.proofs.ForCallers.{value_of_both, value_of_pieces, value_more, same_more}
pub use Rattle.digit_values.proofs.ForCallers.{dropped, first_digits, first_of_others}
pub use Rattle.digit_literals.proofs.Lists.{goes_on as list_goes_on}
pub use Rattle.digit_streams.proofs.Folds.{enclosed_known, folds_known, makes_fold}
pub use Rattle.digit_streams.proofs.Given.{none_left, some_left}
