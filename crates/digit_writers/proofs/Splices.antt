-- What is written into a list, one part after another.
use Rattle.std.proofs.Common.{◌≡◌, ℕ, ◌+◌, ◌<◌, ◌≤◌, List, [], ◌∷◌, ◌++◌, length, take, drop, set, suc, sym, ap, ◌∙◌, arith, append_assoc, length-append}
use Rattle.std.specs.List.{splice}
use Rattle.std.proofs.lemmas.List.{take-take, take-append-drop, take_at, drop_at, length-take-le, length-drop, drop-drop, set_split, take-append-le}

module _ (out xs : List ℕ) (at mid : ℕ) (first : mid ≡ at + length xs) (within : mid ≤ length out)
  where
    front : length (take at out) ≡ at
    front = length-take-le at out (omega arith)

    same : splice out at mid xs ≡ (take at out ++ xs) ++ drop mid out
    same = sym (append_assoc (take at out) xs (drop mid out))

    seam : length (take at out ++ xs) ≡ mid
    seam = omega (arith, length-append (take at out) xs, front)

    pub take_spliced : take mid (splice out at mid xs) ≡ take at out ++ xs
    take_spliced = ap (take mid) same ∙ take_at (take at out ++ xs) (drop mid out) mid seam

    pub drop_spliced : (more : ℕ) → drop (mid + more) (splice out at mid xs) ≡ drop (mid + more) out
    drop_spliced more =
        sym (drop-drop more mid (splice out at mid xs))
        ∙ ap (drop more) (ap (drop mid) same ∙ drop_at (take at out ++ xs) (drop mid out) mid seam)
        ∙ drop-drop more mid out

    pub length_spliced : length (splice out at mid xs) ≡ length out
    length_spliced =
        let joined = length-append (take at out ++ xs) (drop mid out) in
        omega (arith, ap length same, joined, seam, length-drop mid out)

-- two parts after each other
pub both : (out xs ys : List ℕ) (at mid end : ℕ) → mid ≡ at + length xs → end ≡ mid + length ys
    → end ≤ length out → splice (splice out at mid xs) mid end ys ≡ splice out at end (xs ++ ys)
both out xs ys at mid end first second within =
    let inside : mid ≤ length out = omega arith in
    rw (
      second,
      take_spliced out xs at mid first inside,
      drop_spliced out xs at mid first inside
          (length ys),
    )
    (append_assoc (take at out) xs (ys ++ drop (mid + length ys) out)
    ∙ ap (λ (t : List ℕ). take at out ++ t)
    (sym (append_assoc xs ys (drop (mid + length ys) out))))

-- one byte
pub one_spliced : (out : List ℕ) (at byte : ℕ) → at < length out
    → set out at byte ≡ splice out at (at + 1) (byte ∷ [])
one_spliced out at byte l =
    set_split out at byte l
    ∙ ap (λ (next : ℕ). take at out ++ (byte ∷ drop next out)) {x = suc at} (omega arith)

-- a part before another one
pub before_it : (out xs ys : List ℕ) (at mid end : ℕ) → mid ≡ at + length xs
    → end ≡ mid + length ys → end ≤ length out
    → splice (splice out mid end ys) at mid xs ≡ splice out at end (xs ++ ys)
before_it out xs ys at mid end first second within =
    let inside : at ≤ mid = omega arith in
    let front : length (take mid out) ≡ mid = length-take-le mid out (omega arith) in
    let old : List ℕ = splice out mid end ys in
    let begins : take at old ≡ take at out =
    take-append-le at (take mid out) (ys ++ drop end out) (omega (arith, front, inside))
    ∙ take-take at mid out inside in
    let ends : drop mid old ≡ ys ++ drop end out =
    drop_at (take mid out) (ys ++ drop end out) mid front in
    (λ i. begins i ++ (xs ++ ends i))
    ∙ ap (λ (t : List ℕ). take at out ++ t) (sym (append_assoc xs ys (drop end out)))

-- nothing
pub none_spliced : (out : List ℕ) (at : ℕ) → splice out at at [] ≡ out
none_spliced out at = take-append-drop at out
