-- The first of a byte, where sixteen bytes are compared at once.
use Rattle.std.proofs.Common.{◌≡◌, ℕ, ◌+◌, ◌%◌, ◌^◌, ◌≤◌, ◌==◌, Bool, not, cond, eqb, List, map, take, drop, length, replicate, w8, sym, ap, ◌∙◌, arith}
use Rattle.std.specs.Prelude.{◌++◌}
use Rattle.std.specs.List.{position_or_len}
use Rattle.std.proofs.lemmas.Bool.Decides.{nat_tests}
use Rattle.std.proofs.lemmas.List.{take-append-drop, drop-drop}
use Rattle.std.proofs.lemmas.List.Folds.{prefix_len-append}
use Rattle.std.proofs.lemmas.List.Sums.{prefix_len-le-length}
use Rattle.std.proofs.lemmas.Simd.{bitmask_splat, first_set_mask_l, length-chunk}
use lib.Lanes.{zip2, mask_l, top}
use lib.Count.{count_trailing_zeros}

-- the bits of a comparison say which byte is the first
module _ (mark : ℕ) (lanes : List ℕ) (long : length lanes ≡ 16) where
  abbrev marks : ℕ
  marks =
      mask_l (map (top 7) (zip2 (λ a b. cond (eqb a b) 255 0) lanes (replicate 16 mark))) % 2 ^ 64

  abbrev is : ℕ → Bool
  is byte = eqb byte mark

  marks_are : marks ≡ mask_l (map is lanes)
  marks_are = bitmask_splat w8 eqb lanes 16 mark long (omega arith)

  first : cond (eqb marks 0) 16 (count_trailing_zeros 64 marks) ≡ position_or_len is lanes
  first = rw marks_are (first_set_mask_l is lanes 16 long (omega arith))

  pub none_is : marks ≡ 0 → 16 ≡ position_or_len is lanes
  none_is e = grind (arith, nat_tests, first)

  pub first_is : (marks ≡ 0 → ⊥) → count_trailing_zeros 64 marks ≡ position_or_len is lanes
  first_is e = grind (arith, nat_tests, first)

-- the first of a byte is looked for from a position on, sixteen bytes at a time
module _ (mark : ℕ) (bytes : List ℕ) (at : ℕ) (room : at + 16 ≤ length bytes) where
  abbrev is_mark : ℕ → Bool
  is_mark byte = byte == mark

  abbrev before : ℕ
  before = position_or_len is_mark (take 16 (drop at bytes))

  parts : drop at bytes ≡ take 16 (drop at bytes) ++ drop (at + 16) bytes
  parts = sym (take-append-drop 16 (drop at bytes))
      ∙ ap (λ l. take 16 (drop at bytes) ++ l) (drop-drop 16 at bytes)

  pub step : position_or_len is_mark (drop at bytes)
      ≡ cond (eqb before 16) (16 + position_or_len is_mark (drop (at + 16) bytes)) before
  step =
      let rest = position_or_len is_mark (drop (at + 16) bytes) in
      ap (position_or_len is_mark) parts
      ∙ prefix_len-append (λ byte. not (is_mark byte)) (take 16 (drop at bytes))
      (drop (at + 16) bytes)
      ∙ ap (λ n. cond (eqb before n) (n + rest) before) (length-chunk at 16 bytes room)

  few : before ≤ 16
  few =
      let most = prefix_len-le-length (λ byte. not (is_mark byte)) (take 16 (drop at bytes)) in
      omega (arith, most, length-chunk at 16 bytes room)

  pub onward : (from : ℕ)
      → position_or_len is_mark bytes ≡ at + position_or_len is_mark (drop at bytes)
      → from ≡ before → 16 ≤ from
      → position_or_len is_mark bytes ≡ at + 16 + position_or_len is_mark (drop (at + 16) bytes)
  onward from so is none =
      let all : before ≡ 16 = omega (arith, is, none, few) in
      let rest = position_or_len is_mark (drop (at + 16) bytes) in
      let here = step ∙ ap (λ n. cond (eqb n 16) (16 + rest) n) all in
      omega (arith, so, here)

pub ruleset steps = (step, nat_tests, prefix_len-le-length)
