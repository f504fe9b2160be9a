-- Where a word's two radixes are equal, it may as well have one: the calls answer the same.
use Rattle.std.proofs.Common.{◌≡◌, ℕ, ◌+◌, ◌/◌, ◌%◌, ◌^◌, ◌<◌, List, [], ◌∷◌, refl, sym, ap, ◌∙◌, arith}
use Rattle.std.proofs.Math.Pow.{mod-mod-pow}
use Rattle.std.proofs.Math.Nat.{mod-lt}
use Rattle.std.proofs.lemmas.Nat.{mod-pow-add, shr_high, pow_pos}
use Rattle.lexical_digits.specs.Laws.Terms.{separator, mantissa_radix, exponent_radix, is_supported, Rule, Component, Integer, Fraction, Exponent, Special, State, rule_of, with_own, Part, OnBytes, On, Op, row_of, view, after_view, taken, place_of, run_of}
use Rattle.lexical_digits.specs.MantissaRadix.{mantissa_rule_of, mantissa_is_supported, with_one_radix, with_word, ran_with}
use Rattle.lexical_digits.specs.Laws.Table.{with_own_word, taken_word}

-- ---- the word with one radix

-- c bits from f on, below the bits that are cut off
low_bits : (w f c d : ℕ) → w % 2 ^ (d + c + f) / 2 ^ f % 2 ^ c ≡ w / 2 ^ f % 2 ^ c
low_bits w f c d =
    let rest : w % 2 ^ f < 2 ^ f = mod-lt w (pow_pos f) in
    rw (mod-pow-add w (d + c) f, shr_high (w / 2 ^ f % 2 ^ (d + c)) f (w % 2 ^ f) rest)
    (mod-mod-pow (w / 2 ^ f) d c)

pub rule_with_one : (word : ℕ) (k : Component)
    → rule_of (with_one_radix word) k ≡ mantissa_rule_of word k
unfolding with_one_radix
rule_with_one word Integer =
    let low = low_bits word in
    grind (arith, low 64 8 48, low 104 8 8, low 32 1 87, low 35 1 84, low 38 1 81, low 41 1 78)
rule_with_one word Fraction =
    let low = low_bits word in
    grind (arith, low 64 8 48, low 104 8 8, low 33 1 86, low 36 1 83, low 39 1 80, low 42 1 77)
rule_with_one word Exponent =
    let low = low_bits word in
    grind (arith, low 64 8 48, low 104 8 8, low 34 1 85, low 37 1 82, low 40 1 79, low 43 1 76)
rule_with_one word Special =
    let low = low_bits word in grind (arith, low 64 8 48, low 104 8 8, low 44 1 75)

pub rule_same : (word : ℕ) → exponent_radix word ≡ mantissa_radix word → (k : Component)
    → rule_of word k ≡ mantissa_rule_of word k
rule_same word e k = grind arith

pub supported_same : (word : ℕ) → exponent_radix word ≡ mantissa_radix word
    → is_supported word ≡ mantissa_is_supported word
supported_same word e = grind arith

-- ---- two words with the same rules

module _ (word : ℕ) (s : State) (rules : (k : Component) → rule_of word k ≡ rule_of s.word k) where
  separators : separator word ≡ separator s.word
  separators = ap (λ (r : Rule). r.separator) (rules Integer)

  place_with : (k : Component) → place_of k (with_word s word) ≡ place_of k s
  unfolding place_of
  place_with k = grind (arith, rules k)

  with_own_with : (k : Component) (n : ℕ)
      → with_own k (with_word s word) n ≡ with_word (with_own k s n) word
  with_own_with k n = grind arith

  taken_with : (k : Component) → taken k (with_word s word) ≡ with_word (taken k s) word
  unfolding taken
  taken_with k = grind (arith, place_with k, with_own_with k, rules k)

  row_with : (part : Part) (call : Op) → row_of part call (with_word s word)
      ≡ record (row_of part call s) { state = with_word (row_of part call s).state word }
  unfolding view after_view
  row_with OnBytes call = grind (arith, separators)
  row_with (On k) call =
      let taken_same = taken_with k in
      let counted = with_own_with k in
      grind (arith, place_with k, rules k, separators)

-- no row changes the word
row_word : (part : Part) (call : Op) (s : State) → (row_of part call s).state.word ≡ s.word
unfolding after_view
row_word part call s = grind (arith, with_own_word, taken_word)

run_with : (word : ℕ) (s : State) → ((k : Component) → rule_of word k ≡ rule_of s.word k)
    → (calls : List (Part × Op))
    → run_of (with_word s word) calls ≡ ran_with (run_of s calls) word
run_with word s rules [] = refl
run_with word s rules (call ∷ calls) =
    let row = row_of call.0 call.1 s in
    let same = λ (k : Component). ap (λ (w : ℕ). rule_of w k) (sym (row_word call.0 call.1 s)) in
    let rest = run_with word row.state (λ k. rules k ∙ same k) calls in
    rw (row_with word s rules call.0 call.1, rest) refl

pub run_same : (word : ℕ) → exponent_radix word ≡ mantissa_radix word → (s : State) → s.word ≡ word
    → (calls : List (Part × Op)) → run_of (with_word s (with_one_radix word)) calls
    ≡ ran_with (run_of s calls) (with_one_radix word)
run_same word e s is = run_with (with_one_radix word) s
    (λ k. rule_with_one word k ∙ sym (rule_same word e k) ∙ ap (λ (w : ℕ). rule_of w k) (sym is))

-- what `equal_radixes` promises
pub ruleset equal = (rule_with_one, supported_same, rule_same, run_same)
