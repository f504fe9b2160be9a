-- Arguments that are read one by one.
use Rattle.std.proofs.Common.{◌≡◌, ℕ, zero, suc, ◌+◌, ◌<◌, List, [], ◌∷◌, map, length, drop, get_or, Ok, Err, refl, arith, Bor}
use Rattle.digit_totals.specs.declared.arguments.Settings.{Settings}
use Rattle.digit_totals.specs.declared.arguments.UsageError.{UsageError}
use Rattle.digit_totals.specs.Arguments.{with_word, read_from}

drop_words : (words : List (Bor (List ℕ))) (i : ℕ) (d : Bor (List ℕ)) → i < length words
    → drop i (map (λ word. word.now) words)
    ≡ (get_or words i d).now ∷ drop (i + 1) (map (λ word. word.now) words)
drop_words [] i d l = absurd (omega arith)
drop_words (word ∷ words) zero d l = refl
drop_words (word ∷ words) (suc i) d l =
    let next : suc i + 1 ≡ suc (i + 1) = omega arith in
    rw next (drop_words words i d (omega arith))

module _ (words : List (Bor (List ℕ))) (i : ℕ) (d : Bor (List ℕ)) (l : i < length words)
    (s : Settings) where
  pub next_word : (t : Settings) → Ok t ≡ with_word s (i + 1) (get_or words i d).now
      → read_from s i (drop i (map (λ word. word.now) words))
      ≡ read_from t (i + 1) (drop (i + 1) (map (λ word. word.now) words))
  next_word t e = rw (drop_words words i d l, ← e) refl

  pub bad_word : (error : UsageError) → Err error ≡ with_word s (i + 1) (get_or words i d).now
      → read_from s i (drop i (map (λ word. word.now) words)) ≡ Err error
  bad_word error e = rw (drop_words words i d l, ← e) refl
