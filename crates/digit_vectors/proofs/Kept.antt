-- What a `Spaced` gives: the bytes from its cursor on that are no spaces.
use Rattle.std.proofs.Common.{◌≡◌, ℕ, suc, ◌+◌, ◌<◌, Bool, true, false, not, List, [], ◌∷◌, length, drop, get_or, refl, ap, ◌∙◌, arith, length-drop}
use Rattle.std.proofs.lemmas.List.{drop-drop, drop_more, drop_all, get_or-drop}
use Rattle.std.proofs.lemmas.List.Sums.{prefix_len_stops}
use Rattle.std.specs.Prelude.{slice_index}
use Rattle.std.specs.List.{filter, prefix_len}
use Rattle.lexical_digits.proofs.Calls.Implementing.{items_are}
use Rattle.digit_vectors.specs.Spaced.{Meaning, IsWithin, is_space, rest, spaces, place, taken, kept, items_of}
use Rattle.digit_vectors.specs.Spaced.Laws.{digit_laws}

abbrev no_space : ℕ → Bool
no_space b = not (is_space b)

-- the spaces that come first are none of what is kept
skipped : (xs : List ℕ) → filter no_space xs ≡ filter no_space (drop (prefix_len is_space xs) xs)
skipped [] = refl
skipped (x ∷ xs) = by (is_space x) refl (skipped xs)
  where
    all : List ℕ
    all = x ∷ xs

    by : (b : Bool) → is_space x ≡ b →
        filter no_space xs ≡ filter no_space (drop (prefix_len is_space xs) xs) →
        filter no_space all ≡ filter no_space (drop (prefix_len is_space all) all)
    by true e more =
        let one : 1 + prefix_len is_space xs ≡ suc (prefix_len is_space xs) = omega arith in
        rw (e, one) more
    by false e more = rw e (rw e refl)

kept_from_place : (m : Meaning) → kept m ≡ filter no_space (drop (place m) m.buffer)
kept_from_place m =
    skipped (rest m) ∙ ap (filter no_space) (drop-drop (spaces m) m.cursor m.buffer)

-- the byte at the place is no space
none_there : (m : Meaning) → place m < length m.buffer →
    is_space (get_or m.buffer (place m) 0) ≡ false
none_there m l =
    let within : spaces m < length (rest m) = omega (arith, length-drop m.cursor m.buffer) in
    rw (get_or-drop m.cursor m.buffer (spaces m) 0) at
    (prefix_len_stops is_space (rest m) 0 within)

at_end : (m : Meaning) → IsWithin m → place m ≡ length m.buffer → kept m ≡ []
at_end m v e =
    kept_from_place m
    ∙ ap (filter no_space) (drop_all (place m) m.buffer (omega (arith, e)))

at_byte : (m : Meaning) → IsWithin m → place m < length m.buffer →
    kept m ≡ slice_index m.buffer (place m) ∷ kept (taken m)
at_byte m v l =
    let byte : ℕ = get_or m.buffer (place m) 0 in
    let on : place m + 1 ≡ (taken m).cursor = omega arith in
    kept_from_place m
    ∙ ap (filter no_space) (drop_more m.buffer (place m) 0 l)
    ∙ rw (none_there m l) (ap (λ i. byte ∷ filter no_space (drop i m.buffer)) on)

pub items_are_kept : (m : Meaning) → IsWithin m → items_of m ≡ kept m
items_are_kept = items_are digit_laws kept at_end at_byte
