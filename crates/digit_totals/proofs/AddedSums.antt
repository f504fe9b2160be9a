-- Lines that are added to the sums of those before them.
use Rattle.std.proofs.Common.{◌≡◌, ℕ, ℤ, ◌<◌, ◌≤◌, ◌+ℤ◌, true, List, length, FitsSigned, refl, ap, ◌∙◌, arith, subst}
use mir.Syntax.{w64}
use Rattle.digit_totals.specs.declared.options.Options.{Options}
use Rattle.digit_totals.specs.declared.totals.Sums.{Sums}
use Rattle.digit_totals.specs.declared.totals.Totals.{Totals}
use Rattle.digit_totals.specs.Lines.{EndsWith}
use Rattle.digit_totals.specs.Quick.{FirstIs}
use Rattle.digit_totals.specs.Report.{with_value, Leaves}
use Rattle.digit_totals.specs.Sums.{IsFar, IsNear, no_sums, with_one, joined}
use Rattle.digit_totals.specs.Totals.{adding, plus, has_128_bits}
use Rattle.digit_totals.proofs.Adding.{leaves_more, one_leaves}
use Rattle.digit_totals.proofs.SumsOf.{one_joined, sum_fits}

-- a line is added, if the sum fits
first_leaves : (options : Options) (t : Totals) (text rest : List ℕ) (value : ℤ)
    → FirstIs options text value rest → length text ≤ 65536
    → has_128_bits (t.sum +ℤ value) ≡ true → length rest < length text → EndsWith text rest
    → Leaves (adding options) t text (plus t value) rest
first_leaves options t text rest value first short fits shorter suffix =
    one_leaves (adding options) t text first.0 rest first.2 (omega (arith, short, first.3))
    (plus t value)
    (ap (with_value (adding options) t) first.1 ∙ rw fits refl) refl shorter suffix

-- after those of some sums
pub sums_leave : (options : Options) (t : Totals) (s : Sums) (text middle rest : List ℕ)
    (value : ℤ) → FitsSigned w64 value → IsFar t → IsNear s.count s.sum → s.count ≤ 65536
    → (s.count ≡ 0 → s ≡ no_sums) → length text ≤ 65536
    → Leaves (adding options) t text (joined t s) middle → FirstIs options middle value rest
    → length rest < length middle → EndsWith middle rest
    → Leaves (adding options) t text (joined t (with_one s value)) rest
sums_leave options t s text middle rest value fits far near few empty short so_far first shorter
    suffix =
    let one = first_leaves options (joined t s) middle rest value first
    (omega (arith, short, so_far.shorter)) (sum_fits t s value fits empty far near few) shorter
    suffix in
    subst (λ u. Leaves (adding options) t text u rest) (one_joined t s value fits empty)
    (leaves_more (adding options) t (joined t s) (plus (joined t s) value) text middle rest so_far
    one)
