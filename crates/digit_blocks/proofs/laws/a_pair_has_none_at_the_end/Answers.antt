use Rattle.std.proofs.Common.{refl}
use Rattle.digit_pieces.specs.declared.kinds.both.BothError.TheVariants.{First}
use Rattle.digit_blocks.proofs.laws.a_pair_has_none_at_the_end.Goals as goal

pub returns : goal.returns
returns g c = let (error, is, there) = c.requires in (First error, rw is refl, there)
