use Rattle.std.proofs.Common.{◌≡◌, ℕ, zero, suc, ◌+◌, ◌-◌, ◌*◌, ◌/◌, ◌%◌, ◌^◌, ◌<◌, ◌≤◌, ◌⊎◌, inl, inr, sym, ap, ◌∙◌, arith, mul-le-mul_right}
use native.Mathlib.Nat.{div-add-mod', mul-mod_left}
use Rattle.std.proofs.lemmas.Nat.{mod-mul-add}
use lib.Pow.{pow-add, pow_mono}
use lib.Ieee.{low}
use Rattle.digit_floats.specs.Near.{power_scale}
use Rattle.digit_floats.proofs.Product.{top_bit, kept_from, kept_above, kept_to, rounds_up}
use Rattle.digit_floats.proofs.near.nearest_units.Goals.{then-more-gt0+else-room-more+else-rest-eq0, else-more-gt0+else-is_at_edge, else-rest-eq0-via-then-rest-eq0+then-halves-eq1+else-product-eq0, else-rest-eq0-via-then-rest-eq0+else-halves-eq1, else-rest-eq0-via-else-rest-eq0}
use Rattle.digit_floats.proofs.near.nearest_units.Goals as goal

pub halves_of-halves-requires-clause-high : goal.halves_of-halves-requires-clause-high
halves_of-halves-requires-clause-high c =
    top_bit _ _ c.normalized-shifted.ensures.top.0 c.row.ensures.top

once : (more z : ℕ) → more ≤ 1 → z ≤ 63 → more * 2 ^ z ≤ 2 ^ 63
once more z few short =
    let a : 2 ^ z ≤ 2 ^ 63 = pow_mono {j = 63} short in
    let b : more * 2 ^ z ≤ 1 * 2 ^ z = mul-le-mul_right (2 ^ z) few in
    omega (arith, a, b)

none : (more z : ℕ) → more ≡ 0 → more * 2 ^ z ≡ 0
none more z e = ap (λ x. x * 2 ^ z) e ∙ grind arith

pub overflow_add-more : goal.overflow_add-more
overflow_add-more c =
    record { fits = omega (arith, once _ _ c.requires.more c.normalized-shifted.ensures.top.1) }

-- no multiple of m, nor the number below one
module _ (h m : ℕ) (zeros : 0 < h % m) (ones : h % m + 1 < m) where
  multiple : (k : ℕ) → h ≡ k * m → h % m ≡ 0
  multiple k e = ap (λ n. n % m) e ∙ mul-mod_left k m

  below : (k : ℕ) → h + 1 ≡ k * m → h % m + 1 ≡ 0
  below k e =
      let split : h / m * m + (h % m + 1) ≡ h + 1 =
      omega (arith, div-add-mod' h m) in
      sym (mod-mul-add (h / m) m (h % m + 1) ones) ∙ ap (λ n. n % m) (split ∙ e)
      ∙ mul-mod_left k m

  inside : (v g rest room : ℕ) → h ≡ v * (m * g) + rest → rest + room ≡ m * g
      → (0 < rest) × (2 ≤ room)
  inside v g zero room parts unit =
      absurd (omega (arith, zeros, multiple (v * g) (grind (arith, parts))))
  inside v g (suc r) zero parts unit =
      absurd (omega (arith, zeros, multiple (v * g + g) (grind (arith, parts, unit))))
  inside v g (suc r) (suc zero) parts unit =
      absurd (omega (arith, below (v * g + g) (grind (arith, parts, unit))))
  inside v g (suc r) (suc (suc s)) parts unit = (omega arith, omega arith)

scale_few : (q : ℕ) → q < 651 → power_scale q ≤ 2200
scale_few q h = omega arith

pub returns-clause-is : goal.returns-clause-is
returns-clause-is c f P L num den D b =
    let m = c.args.digits in
    let more = c.args.more in
    let q = c.args.power in
    let n = c.normalized-shifted in
    let z = n.result.1 in
    let t = c.row.result in
    let h = c.halves_of-halves in
    let v = h.result.0 in
    let p = c.args.precision in
    let d : ℕ = 62 - p + h.result.3 in
    let above : ℕ = c.scale.result + c.args.least + 126 + h.result.3 in
    let below : ℕ = 1200 + p + z in
    let e : ℕ = (above + (2 ^ 64 - below)) % 2 ^ 64 in
    let product : n.result.0 * t ≡ m * 2 ^ z * t = ap (λ x. x * t) n.ensures.shifted in
    let parts : m * 2 ^ z * t / 2 ^ 64 ≡ v * 2 ^ d + h.result.1 =
    ap (λ x. x / 2 ^ 64) (sym product) ∙ h.ensures.parts in
    let fits : m * 2 ^ z < 2 ^ 64 = omega (arith, n.type_inv, n.ensures.shifted) in
    let high : ℕ = n.result.0 * t / 2 ^ 64 in
    let unit : ℕ = 2 ^ (62 - p) in
    let edge : 0 < high % unit → high % unit + 1 < unit → (0 < h.result.1) × (2 ≤ h.result.2) =
    λ zeros ones. inside high unit zeros ones v (2 ^ h.result.3) _ _
    (h.ensures.parts ∙ ap (λ u. v * u + h.result.1) (pow-add 2 (62 - p) h.result.3))
    (h.ensures.room ∙ pow-add 2 (62 - p) h.result.3) in
    let wide : 2 + more * 2 ^ z ≤ h.result.2 =
    elim c.if-more-gt0.branch [
      | then-more-gt0+else-room-more+else-rest-eq0 w ↦
          omega (arith, w.if-room-more.false, once more z c.requires.more n.ensures.top.1)
      | else-more-gt0+else-is_at_edge w ↦ omega (
        arith,
        none more z (omega (arith, w.if-more-gt0.false)),
        (edge (w.is_at_edge.ensures.zeros w.if-is_at_edge.false)
            (w.is_at_edge.ensures.ones w.if-is_at_edge.false)).1,
      )
    ] in
    let places : 64 + d + power_scale q + low f ≡ e + z + 1200 =
    omega (
      arith,
      c.scale.ensures,
      scale_few q c.requires.power,
      n.ensures.top.1,
      c.requires.precision,
      c.requires.least,
      h.ensures.top,
      c.if-scale-least.false,
      L,
    ) in
    let odd : v % 2 ≡ 1 → (0 < h.result.1) ⊎ (0 < m * 2 ^ z * t % 2 ^ 64) =
    λ o. elim c.if-more-gt0.branch [
      | then-more-gt0+else-room-more+else-rest-eq0 w ↦ elim w.else-rest-eq0.branch [
        | else-rest-eq0-via-then-rest-eq0+then-halves-eq1+else-product-eq0 w' ↦ inr
            (omega (arith, w'.if-product-eq0.false, product))
        | else-rest-eq0-via-then-rest-eq0+else-halves-eq1 w' ↦ absurd
            (omega (arith, w'.if-halves-eq1.false, o))
        | else-rest-eq0-via-else-rest-eq0 w' ↦ inl (omega (arith, w'.if-rest-eq0.false))
      ]
      | else-more-gt0+else-is_at_edge w ↦ inl
          (edge (w.is_at_edge.ensures.zeros w.if-is_at_edge.false)
          (w.is_at_edge.ensures.ones w.if-is_at_edge.false)).0
    ] in
    rounds_up f num den m more q t z (64 + d) e v D c.requires.digits c.row.ensures b places
    (kept_from m more z t d v _ _ parts h.ensures.room)
    (kept_to m more z t d v _ _ parts h.ensures.room fits c.row.ensures.fits wide)
    (λ o. kept_above m more z t d v _ _ parts h.ensures.room (odd o))
    (rw P h.ensures.many) (rw P h.ensures.few)
