use Rattle.std.proofs.Common.{◌≡◌, ◌<◌, ◌≤◌, ◌+◌, ◌*◌, ◌^◌, ℕ, arith, length, take, get_or, ap, take_all, refl, ◌∙◌, pow-add, lt-ltb}
use Rattle.std.specs.Prelude.{nat_lt}
use Rattle.std.specs.Char.{digit_value}
use Rattle.std.proofs.Math.Nat.{mul-le-mul}
use Rattle.std.proofs.Math.Pow.{pow_mono}
use Rattle.std.proofs.lemmas.Bool.Decides.{nat_tests}
use Rattle.std.proofs.lemmas.Int.Digits.{digits_value_more}
use Rattle.std.proofs.lemmas.List.Folds.{list_all_more}
use Rattle.digit_requests.proofs.line.read_number.Goals as goal

-- at most two digits so far
times_fits : (value radix i : ℕ) → value < 2 ^ (4 * i) → i ≤ 2 → radix ≤ 16
    → value * radix ≤ 4080
times_fits value radix i small few k =
    let p : 4 * i ≤ 8 = omega arith in
    let q : 2 ^ (4 * i) ≤ 2 ^ 8 = pow_mono p in
    mul-le-mul {n₁ = value} {m₁ = radix} {n₂ = 255} {m₂ = 16} (omega arith) k

-- one more digit
shifted : (value radix digit i : ℕ) → value < 2 ^ (4 * i) → radix ≤ 16 → digit < radix
    → value * radix + digit < 2 ^ (4 * (i + 1))
shifted value radix digit i h k d =
    let p : (value + 1) * radix ≤ 2 ^ (4 * i) * 16 =
    mul-le-mul {n₁ = value + 1} {m₁ = radix} {m₂ = 16} (omega arith) k in
    let e : 4 * (i + 1) ≡ 4 * i + 4 = omega arith in
    rw (e, pow-add 2 (4 * i) 4) (omega arith)

pub overflow_mul-value : goal.overflow_mul-value
overflow_mul-value c = omega (
  arith,
  times_fits _ _ _ c.loop-byte.invariant.small (omega arith) c.requires.to_sixteen,
)

pub overflow_add-value : goal.overflow_add-value
overflow_add-value c = omega (
  arith,
  c.in_ok-value.ensures.value,
  times_fits _ _ _ c.loop-byte.invariant.small (omega arith) c.requires.to_sixteen,
)

pub loop-byte-preserved : goal.loop-byte-preserved
loop-byte-preserved c =
    let i = c.loop-byte.byte-index in
    let s = c.args.field.now in
    let digit : c.in_ok-value.field-0 ≡ digit_value (get_or s i 0) =
    c.in_ok-value.ensures.value.1 ∙ ap digit_value c.from.ensures in
    let below : c.in_ok-value.field-0 < c.args.radix = omega (arith, c.in_ok-value.ensures.value) in
    let l : i < length s = omega arith in
    record {
      digits = rw (
        list_all_more (λ byte. nat_lt (digit_value byte) c.args.radix) s i 0 l,
        c.loop-byte.invariant.digits,
        ← digit,
      ) (lt-ltb _ _ below);
      value = rw (digits_value_more c.args.radix s i l, ← digit, ← c.loop-byte.invariant.value)
          refl;
      small = shifted _ _ _ _ c.loop-byte.invariant.small c.requires.to_sixteen below;
    }

pub returns : goal.returns
returns c =
    let whole : take c.loop-byte.byte-index c.args.field.now ≡ c.args.field.now =
    take_all _ _ (omega arith) in
    let digits = rw whole at c.loop-byte.invariant.digits in
    let value = rw whole at c.loop-byte.invariant.value in
    grind (arith, nat_tests, c.ok.ensures.value, c.try_from.ensures)
