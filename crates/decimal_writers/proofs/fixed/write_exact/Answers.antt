use Rattle.std.proofs.Common.{◌≡◌, ◌+◌, ◌-◌, ◌*◌, ◌/◌, ◌^◌, ◌++◌, ℕ, List, take, sym, subst, ap, ◌∙◌, arith}
use Rattle.std.specs.Fmt.{sign_text}
use Rattle.decimal_writers.specs.Big.{value_of}
use Rattle.decimal_writers.specs.Room.{Writes}
use Rattle.decimal_writers.specs.Text.{with_point}
use Rattle.decimal_writers.proofs.Placed.{zeros_are, fixed_is, fixed_more, fixed_fewer, least_some}
use Rattle.decimal_writers.proofs.fixed.write_exact.Goals as goal

pub exact_digits-exact-requires-clause-zeros : goal.exact_digits-exact-requires-clause-zeros
exact_digits-exact-requires-clause-zeros c = λ k. zeros_are 800 k

pub returns-then-exact-wanted : goal.returns-then-exact-wanted
returns-then-exact-wanted c =
    let b = c.binary_of-binary in
    let e = c.exact_digits-exact in
    let w = c.write_places in
    let value = value_of (take e.result.len e.new.digits) in
    let sum : e.result.places + (c.args.places - e.result.places) ≡ c.args.places =
    omega (arith, c.if-exact-wanted.true) in
    let text =
    fixed_is (b.result.significand * 2 ^ b.result.shift) value e.result.places c.args.places
    (2 ^ 1074) e.ensures.value least_some c.args.x b.result.negative b.ensures.value
    ∙ ap (λ (x : ℕ). sign_text b.result.negative ++ with_point c.args.places x)
    (fixed_more value e.result.places c.args.places c.if-exact-wanted.true)
    ∙ ap (λ (x : ℕ). sign_text b.result.negative ++ with_point x
    (value / 10 ^ 0 * 10 ^ (c.args.places - e.result.places))) (sym sum) in
    subst (λ (ds : List ℕ). Writes ds c.args.out.now w.new.out w.result) (sym text) w.ensures

pub returns : goal.returns
returns c =
    let b = c.binary_of-binary in
    let e = c.exact_digits-exact in
    let r = c.round_off-len in
    let w = c.write_places-2 in
    let value = value_of (take e.result.len e.new.digits) in
    let dropped = e.result.places - c.args.places in
    let rounded = value_of (take r.result r.new.digits) / 10 ^ dropped in
    let sum : c.args.places + 0 ≡ c.args.places = omega arith in
    let one : rounded * 10 ^ 0 ≡ rounded = omega arith in
    let text =
    fixed_is (b.result.significand * 2 ^ b.result.shift) value e.result.places c.args.places
    (2 ^ 1074) e.ensures.value least_some c.args.x b.result.negative b.ensures.value
    ∙ ap (λ (x : ℕ). sign_text b.result.negative ++ with_point c.args.places x)
    (fixed_fewer value e.result.places c.args.places (omega (arith, c.if-exact-wanted.false))
    ∙ sym r.ensures.value ∙ sym one)
    ∙ ap (λ (x : ℕ). sign_text b.result.negative ++ with_point x (rounded * 10 ^ 0)) (sym sum) in
    subst (λ (ds : List ℕ). Writes ds c.args.out.now w.new.out w.result) (sym text) w.ensures
