-- A text that is cut at positions where blocks may begin.
use Rattle.std.proofs.Common.{◌≡◌, ℕ, suc, ◌+◌, ◌-◌, ◌<◌, ◌≤◌, true, List, [], ◌∷◌, ◌++◌, All, length, take, drop, refl, sym, ◌∙◌, ap, arith, inl, inr, append_assoc, length-drop}
use Rattle.std.specs.Prelude.{slice_get}
use Rattle.std.specs.List.{concat}
use Rattle.std.proofs.lemmas.List.{drop-drop, length-take-le, take-append-drop}
use Rattle.std.proofs.lemmas.List.Elements.{All-cons, All-nil}
use Rattle.digit_literals.specs.declared.list.Gap.{Gap}
use Rattle.digit_pieces.proofs.Blanks.{get_front, get_rest}
use Rattle.digit_blocks.specs.Blocks.{EndsApart, IsStart, AreStarts, blocks_at, last_start, may_end}

module _ (gap : Gap) (text : List ℕ) where
  -- a byte at the front
  get_taken : (n i : ℕ) (xs : List ℕ) → n ≤ length xs → i < n
      → slice_get (take n xs) i ≡ slice_get xs i
  get_taken n i xs low l =
      let m : length (take n xs) ≡ n = length-take-le n xs low in
      sym (get_front (take n xs) (drop n xs) i (omega (arith, m, l)))
      ∙ ap (λ ys. slice_get ys i) (take-append-drop n xs)

  -- the block up to a start
  block_ends : (from to : ℕ) → from ≤ to → to ≤ length text → IsStart gap text to
      → EndsApart gap (take (to - from) (drop from text))
  block_ends from to order low (inl none) at is = absurd (omega (
    arith,
    none,
    is,
    length-take-le (to - from) (drop from text) (omega (arith, length-drop from text)),
  ))
  block_ends from to order low (inr apart) at is =
      let n : ℕ = to - from in
      let fits : n ≤ length (drop from text) = omega (arith, length-drop from text) in
      let m : length (take n (drop from text)) ≡ n = length-take-le n (drop from text) fits in
      let e : to ≡ suc (from + at) = omega (arith, m, is, order) in
      let there : may_end gap text (from + at) ≡ true = rw e at apart in
      rw (get_taken n at (drop from text) fits (omega (arith, m, is)), get_rest text from at) there

  pub blocks_end : (from : ℕ) (cuts : List ℕ) → AreStarts gap text from cuts
      → All (EndsApart gap) (blocks_at text from cuts)
  unfolding blocks_at
  blocks_end from [] are = All-nil (EndsApart gap)
  blocks_end from (to ∷ more) (order, low, start, others) =
      All-cons (EndsApart gap) (take (to - from) (drop from text)) (blocks_at text to more)
      (block_ends from to order low start) (blocks_end to more others)

  pub blocks_are : (from : ℕ) (cuts : List ℕ) → AreStarts gap text from cuts
      → concat (blocks_at text from cuts) ++ drop (last_start from cuts) text ≡ drop from text
  unfolding blocks_at last_start
  blocks_are from [] are = refl
  blocks_are from (to ∷ more) (order, low, start, others) =
      let n : ℕ = to - from in
      let rest : drop n (drop from text) ≡ drop to text =
      drop-drop n from text ∙ ap (λ k. drop k text) (omega (arith, order)) in
      append_assoc (take n (drop from text)) (concat (blocks_at text to more))
      (drop (last_start to more) text)
      ∙ ap (λ ys. take n (drop from text) ++ ys) (blocks_are to more others ∙ sym rest)
      ∙ take-append-drop n (drop from text)
