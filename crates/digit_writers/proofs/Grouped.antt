-- Digits in groups.
use Rattle.std.proofs.Common.{◌≡◌, ℕ, zero, suc, ◌+◌, ◌-◌, ◌*◌, ◌/◌, ◌%◌, ◌<◌, ◌≤◌, List, [], ◌∷◌, ◌++◌, length, refl, sym, ap, ◌∙◌, arith, length-append}
use Rattle.std.proofs.Math.Nat.{div-eq_of_lt}
use Rattle.std.proofs.lemmas.Bool.Decides.{nat_tests}
use Rattle.std.proofs.lemmas.Nat.{div-add-mod', div-mul-add, mod_below, mod-mul-add}
use Rattle.digit_writers.specs.Layouts.{grouped, before, gaps}

module _ (separator : ℕ) where
  abbrev pub group : ℕ → List ℕ → List ℕ
  group every ds = grouped separator every ds

  pub group_none : (every : ℕ) → group every [] ≡ []
  unfolding grouped
  group_none every = refl

  pub group_more : (every d : ℕ) (ds : List ℕ)
      → group every (d ∷ ds) ≡ d ∷ (before separator every (length ds) ++ group every ds)
  unfolding grouped
  group_more every d ds = refl

  none_before : (every count : ℕ) → (0 < every → 0 < count → count % every ≡ 0 → ⊥)
      → before separator every count ≡ []
  none_before every count none = grind (arith, nat_tests, none)

  pub some_before : (every count : ℕ) → 0 < every → 0 < count → count % every ≡ 0
      → before separator every count ≡ separator ∷ []
  some_before every count positive some whole = grind (arith, nat_tests)

  -- without groups the digits are left as they are
  pub group_zero : (ds : List ℕ) → group 0 ds ≡ ds
  group_zero [] = group_none 0
  group_zero (d ∷ ds) =
      let none : before separator 0 (length ds) ≡ [] =
      none_before 0 (length ds) (λ p _ _. absurd (omega arith)) in
      group_more 0 d ds ∙ ap (λ (b : List ℕ). d ∷ (b ++ group 0 ds)) none
      ∙ ap (λ (t : List ℕ). d ∷ t) (group_zero ds)

  -- one group before whole ones
  pub group_front : (every : ℕ) (xs ys : List ℕ) → 0 < length xs → length xs ≤ every
      → length ys % every ≡ 0
      → group every (xs ++ ys) ≡ xs ++ (before separator every (length ys) ++ group every ys)
  group_front every [] ys some few whole = absurd (omega arith)
  group_front every (x ∷ []) ys some few whole = group_more every x ys
  group_front every (x ∷ y ∷ xs) ys some few whole =
      let rest : List ℕ = (y ∷ xs) ++ ys in
      let long : length rest ≡ length (y ∷ xs) + length ys = length-append (y ∷ xs) ys in
      let n : ℕ = length (y ∷ xs) in
      let none : before separator every (length rest) ≡ [] =
      none_before every (length rest)
      (λ p some is. absurd
      (not_whole n (length ys) every (omega arith) (omega arith) whole
      (ap (λ (k : ℕ). k % every) (sym long) ∙ is))) in
      group_more every x rest
      ∙ ap (λ (b : List ℕ). x ∷ (b ++ group every rest)) none
      ∙ ap (λ (t : List ℕ). x ∷ t) (group_front every (y ∷ xs) ys (omega arith) (omega arith) whole)
    where
      not_whole : (n k every : ℕ) → 0 < n → n < every → k % every ≡ 0 → (n + k) % every ≡ 0 → ⊥
      not_whole n k every some less whole is =
          let q = k / every in
          let parts : q * every + k % every ≡ k = div-add-mod' k every in
          let sum : n + k ≡ q * every + n = omega (arith, parts, whole) in
          let rest : (n + k) % every ≡ n = ap (λ (x : ℕ). x % every) sum
          ∙ mod-mul-add q every n less in
          omega (arith, rest, is, some)

  -- how many bytes they are
  pub length_group : (every : ℕ) (ds : List ℕ)
      → length (group every ds) ≡ length ds + gaps every (length ds)
  length_group zero ds = omega (arith, ap length (group_zero ds))
  length_group (suc e) [] =
      let none : gaps (suc e) 0 ≡ 0 = div-eq_of_lt (omega arith) in
      omega (arith, ap length (group_none (suc e)), none)
  length_group (suc e) (d ∷ []) =
      let none : gaps (suc e) 1 ≡ 0 = div-eq_of_lt (omega arith) in
      let none2 : before separator (suc e) 0 ≡ [] =
      none_before (suc e) 0 (λ p some _. absurd (omega arith)) in
      omega (
        arith,
        ap length
            (group_more (suc e) d [] ∙ ap (λ (b : List ℕ). d ∷ (b ++ group (suc e) [])) none2
            ∙ ap (λ (t : List ℕ). d ∷ t) (group_none (suc e))),
        none,
      )
  length_group (suc e) (d ∷ x ∷ ds) =
      let m : ℕ = length (x ∷ ds) in
      let more = length_group (suc e) (x ∷ ds) in
      let joined = length-append (before separator (suc e) m) (group (suc e) (x ∷ ds)) in
      let whole = ap length (group_more (suc e) d (x ∷ ds)) in
      let gap = one_gap (suc e) m (omega arith) (omega arith) in
      let back : suc m - 1 ≡ m = omega arith in
      let quotient : (suc m - 1) / suc e ≡ m / suc e = ap (λ (x : ℕ). x / suc e) back in
      omega (arith, more, joined, whole, gap, quotient)
    where
      by_rest : (every m q r : ℕ) → 0 < every → 0 < m → q * every + r ≡ m → r < every
          → m % every ≡ r
          → m / every ≡ q → m / every ≡ length (before separator every m) + (m - 1) / every
      by_rest every m zero zero E M parts less rest quotient = absurd (omega arith)
      by_rest every m (suc p) zero E M parts less rest quotient =
          let pred : m - 1 ≡ p * every + (every - 1) = omega (arith, parts) in
          let d : (m - 1) / every ≡ p = ap (λ (x : ℕ). x / every) pred
          ∙ div-mul-add p every (every - 1) (omega arith) in
          omega (arith, d, quotient, ap length (some_before every m E M rest))
      by_rest every m q (suc r) E M parts less rest quotient =
          let pred : m - 1 ≡ q * every + r = omega (arith, parts) in
          let d : (m - 1) / every ≡ q = ap (λ (x : ℕ). x / every) pred
          ∙ div-mul-add q every r (omega arith) in
          omega (
            arith,
            d,
            quotient,
            ap length
                (none_before every m (λ p some is. absurd (omega (arith, is, rest)))),
          )

      one_gap : (every m : ℕ) → 0 < every → 0 < m
          → m / every ≡ length (before separator every m) + (m - 1) / every
      one_gap every m E M =
          by_rest every m (m / every) (m % every) E M (div-add-mod' m every) (mod_below m every E)
          refl refl
