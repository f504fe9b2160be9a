use Rattle.std.proofs.Common.{refl, sym, subst}
use lib.Dec.{T}
use lib.Ieee.{binary64}
use lib.Ieee.Bits.{of_bits-to_bits}
use Rattle.float_writers.proofs.Fields.{number}
use Rattle.float_writers.specs.Parts.{IsParts, IsAboveZero}
use Rattle.float_writers.proofs.parts.F64WrittenFloat.parts.Goals as goal

pub float_to_bits-self : goal.float_to_bits-self
float_to_bits-self c = number c.args.self c.requires

pub returns : goal.returns
returns c =
    let back = of_bits-to_bits binary64 c.args.self (subst T (sym c.well_formed.0.1) tt) in
    subst (λ x. IsParts binary64 x c.parts_of.result) back
    (c.parts_of.ensures binary64 refl refl (subst (λ x. IsAboveZero x) (sym back) c.requires))
