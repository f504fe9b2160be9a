use Rattle.std.proofs.Common.{◌≡◌, pos, ◌-ℤ◌, ◌∙◌}
use mir.Syntax.{w32}
use mir.Val.{of_z, to_z}
use lib.Dec.{lt→ltb}
use Rattle.std.proofs.Math.Facts.{sfits_lit}
use Rattle.std.proofs.lemmas.Int.{to_z-of_z}
use Rattle.float_writers.proofs.Strip.{units_at, places_at, range_at}
use Rattle.float_writers.proofs.decimal.decimal_of.Goals as goal

-- the power as it is kept
kept : (c : goal.After-signed_power-power)
    → to_z w32 (of_z w32 c.signed_power-power.result) ≡ pos c.args.up -ℤ pos 324
kept c =
    to_z-of_z w32 c.signed_power-power.result
    (sfits_lit (lt→ltb _ _ c.signed_power-power.type_inv))
    ∙ c.signed_power-power.ensures

pub returns-clause-units : goal.returns-clause-units
returns-clause-units c = units_at c.args.digits c.args.up _ (kept c)

pub returns-clause-places : goal.returns-clause-places
returns-clause-places c = places_at c.args.up _ (kept c)

pub returns-clause-least : goal.returns-clause-least
returns-clause-least c = (range_at c.args.up _ (kept c) c.requires).0

pub returns-clause-most : goal.returns-clause-most
returns-clause-most c = (range_at c.args.up _ (kept c) c.requires).1
