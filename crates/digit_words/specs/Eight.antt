-- Of functions that no caller sees: eight decimal digits that are read as one word, whose lowest
-- byte is the first of them. No public clause uses these words.
use Rattle.std.specs.Prelude.{◌≡◌, ℕ, zero, suc, ◌+◌, ◌-◌, ◌*◌, ◌/◌, ◌%◌, ◌<◌, ◌≤◌, List, length, slice_index}

-- a byte of a word, from the lowest on
abbrev pub byte_of : ℕ → ℕ → ℕ
byte_of word zero = word % 256
byte_of word (suc i) = byte_of (word / 256) i

-- so many bytes of a word are below a bound, and the word has no more
abbrev pub AreBelow : ℕ → ℕ → ℕ → Type 0
AreBelow bound zero word = word ≡ 0
AreBelow bound (suc n) word = (word % 256 < bound) × AreBelow bound n (word / 256)

-- so many bytes as a word
abbrev pub spelt : ℕ → (ℕ → ℕ) → ℕ
spelt zero b = 0
spelt (suc n) b = b 0 + 256 * spelt n (λ i. b (suc i))

-- so many `0`, and then these bytes
abbrev pub padded : ℕ → (ℕ → ℕ) → ℕ → ℕ
padded zero b i = b i
padded (suc m) b zero = 48
padded (suc m) b (suc i) = padded m b i

-- the number that eight digits write
abbrev pub number_of : (ℕ → ℕ) → ℕ
number_of d =
    ((((((d 0 * 10 + d 1) * 10 + d 2) * 10 + d 3) * 10 + d 4) * 10 + d 5) * 10 + d 6) * 10 + d 7

-- the number that so many digits write
abbrev pub written : (ℕ → ℕ) → ℕ → ℕ
written d zero = 0
written d (suc n) = written d n * 10 + d n

module _ (text : List ℕ) (at : ℕ) where
  -- the eight bytes from a position on are these digits
  pub record AreDigits (digits : ℕ) : Type 0 where
    pub below : AreBelow 10 8 digits
    pub is : (i : ℕ) → i < 8
        → (slice_index text (at + i) ≡ byte_of digits i + 48) × (byte_of digits i < 10)

  -- so many bytes from a position on are decimal digits
  abbrev pub AreDecimal : ℕ → Type 0
  AreDecimal count = (i : ℕ) → i < count
      → (48 ≤ slice_index text (at + i)) × (slice_index text (at + i) < 58)

  -- so many bytes from a position on are digits, and write a number
  pub record IsWritten (count value : ℕ) : Type 0 where
    pub within : at + count ≤ length text
    pub digits : (i : ℕ) → i < count
        → (48 ≤ slice_index text (at + i)) × (slice_index text (at + i) < 58)
    pub is : value ≡ written (λ i. slice_index text (at + i) - 48) count
