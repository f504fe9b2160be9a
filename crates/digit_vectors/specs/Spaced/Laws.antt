-- What a `Spaced` proves to the traits.
use Rattle.std.proofs.Common.{◌≡◌, ℕ, ◌<◌, ◌≤◌, false, List, length, drop, refl, sym, ap, ◌∙◌, arith, length-drop, ◌⊎◌, inl, inr}
use Rattle.std.proofs.lemmas.Bool.{cases_lt}
use Rattle.std.proofs.lemmas.List.{drop-drop}
use Rattle.std.proofs.lemmas.List.Sums.{prefix_len-le-length, prefix_len_stops, prefix_len-drop_no, prefix_len-drop_all}
use Rattle.std.specs.List.{prefix_len}
use Rattle.std.specs.Prelude.{pos, ◌≤ℤ◌, ◌+ℤ◌}
use Rattle.std.proofs.lemmas.Int.{ints}
use Rattle.lexical_digits.specs.Cursor.{IterLaws, DigitLaws}
use Rattle.digit_vectors.specs.Spaced.{Meaning, IsWithin, is_space, is_digit, rest, spaces, place, moved, settled, counted, taken, taken_from}

-- the place is at most the length
place_within : (m : Meaning) → IsWithin m → place m ≤ length m.buffer
place_within m v =
    omega (arith, prefix_len-le-length is_space (rest m), length-drop m.cursor m.buffer)

-- after the spaces that come first, no space comes first
no_more : (xs : List ℕ) → prefix_len is_space (drop (prefix_len is_space xs) xs) ≡ 0
no_more xs = here (cases_lt n (length xs))
  where
    n : ℕ
    n = prefix_len is_space xs

    here : (n < length xs) ⊎ (length xs ≤ n) → prefix_len is_space (drop n xs) ≡ 0
    here (inl l) = prefix_len-drop_no is_space xs n 0 l (prefix_len_stops is_space xs 0 l)
    here (inr l) = prefix_len-drop_all is_space xs n l

-- so from the place on, the place is the same
place_again : (m : Meaning) → place (settled m) ≡ place m
place_again m =
    let there : drop (spaces m) (rest m) ≡ rest (settled m) =
    drop-drop (spaces m) m.cursor m.buffer in
    let none : spaces (settled m) ≡ 0 =
    ap (prefix_len is_space) (sym there) ∙ no_more (rest m) in
    omega (arith, none)

pub iter_laws :
    IterLaws IsWithin (λ m. m.buffer) (λ m. m.cursor) (λ _. false) (λ _ b. is_space b) moved
iter_laws = record {
  within = λ m v. v;
  moved_valid = λ m i v h. h;
  moved_cursor = λ m i v h. refl;
  moved_buffer = λ m i v h. refl;
  moved_contiguous = λ m i v h. refl;
  moved_separates = λ m i b v h l. refl;
}

pub digit_laws :
    DigitLaws IsWithin (λ m. m.buffer) (λ m. m.cursor) (λ m. m.count) (λ _. false)
    (λ _ b. is_space b) moved place (λ _ b. is_digit b) settled counted taken
digit_laws = record {
  place_from = λ m v. omega arith;
  place_to = place_within;
  settled_valid = place_within;
  settled_cursor = λ m v. refl;
  settled_place = λ m v. place_again m;
  settled_count = λ m v. refl;
  settled_twice = λ m v. ap (moved m) (place_again m);
  settled_taken = λ m v. ap (taken_from m) (place_again m);
  counted_valid = λ m v. v;
  counted_cursor = λ m v. refl;
  taken_valid = λ m v. omega arith;
  taken_cursor = λ m v l. omega arith;
  taken_end = λ m v e. omega arith;
  settled_buffer = λ m v. refl;
  settled_contiguous = λ m v. refl;
  settled_separates = λ m b v l. refl;
  settled_digit = λ m b v l. refl;
  counted_buffer = λ m v. refl;
  counted_contiguous = λ m v. refl;
  counted_separates = λ m b v l. refl;
  counted_digit = λ m b v l. refl;
  taken_buffer = λ m v. refl;
  taken_contiguous = λ m v. refl;
  taken_separates = λ m b v l. refl;
  taken_digit = λ m b v l. refl;
  moved_digit = λ m i b v h l. refl;
}

-- a `Spaced` counts no looks
pub owes_nothing : pos 0 ≤ℤ (pos 0 +ℤ pos 4)
owes_nothing = omega (arith, ints)
