-- The laws of the kinds of numbers, and their lemmas: here, since a law of an `impl` can cite only
-- specs/.
pub mod NoBytes
pub mod Following
pub mod Ends
pub mod OfKinds
pub mod FormEnds
pub mod OfForm
pub mod OfBoth
pub mod OfEnclosed
pub mod OfPrices
pub mod OfLanguage
