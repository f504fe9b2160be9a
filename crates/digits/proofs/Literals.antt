-- What a proof unfolds to compute that a constant word is supported. An attribute at the head of a
-- crate names it for all of its functions.
unfoldable pub use Rattle.lexical_format.proofs.OnLiterals.{lexical_on_literals}
