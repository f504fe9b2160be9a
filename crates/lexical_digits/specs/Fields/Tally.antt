-- What a `Tally` stands for: the state that its cursor carries, and the looks.
use Rattle.std.specs.Prelude.{◌≡◌, ⊤, ℕ, ◌-◌, ◌*◌, ◌^◌, Bool, true, false, ◌&&◌, if◌then◌else◌, List}
use Rattle.lexical_digits.specs.declared.skip.component.Component.{Component}
use Rattle.lexical_digits.specs.declared.skip.component.Component.TheVariants.{Integer, Fraction, Exponent, Special}
use Rattle.lexical_digits.specs.declared.skip.bytes.tally.Tally.{Tally}
use Rattle.lexical_digits.specs.State.{State, saturating}
use Rattle.lexical_digits.specs.CallTable.{counted}

abbrev pub is_integer : Component → Bool
is_integer Integer = true
is_integer _ = false

abbrev pub is_fraction : Component → Bool
is_fraction Fraction = true
is_fraction _ = false

abbrev pub is_exponent : Component → Bool
is_exponent Exponent = true
is_exponent _ = false

-- a stored count, with the bytes since if they are counted for it
abbrev pub count_since : Bool → ℕ → ℕ → ℕ
count_since is_counting stored since = if is_counting then saturating stored since else stored

unfoldable pub integer_of : Tally → ℕ
integer_of t =
    count_since (t.is_counting && is_integer t.reader) t.integer (t.index - t.counted_from)

unfoldable pub fraction_of : Tally → ℕ
fraction_of t =
    count_since (t.is_counting && is_fraction t.reader) t.fraction (t.index - t.counted_from)

unfoldable pub exponent_of : Tally → ℕ
exponent_of t =
    count_since (t.is_counting && is_exponent t.reader) t.exponent (t.index - t.counted_from)

-- the count of a component: special has the integer's
abbrev pub count_of : Component → Tally → ℕ
count_of Integer t = integer_of t
count_of Fraction t = fraction_of t
count_of Exponent t = exponent_of t
count_of Special t = integer_of t

-- the looks of which `looks_left` are left, and two for each byte from `looked_from` on
unfoldable pub looks_of : Tally → ℕ
looks_of t = saturating (2 ^ 64 - 1 - t.looks_left) (2 * (t.index - t.looked_from))

-- the four, to be named in an attribute
unfoldable pub all_of : ⊤
unfolding integer_of fraction_of exponent_of looks_of
all_of = tt

abbrev pub state_of : List ℕ → ℕ → Tally → State
state_of buffer word t = record {
  buffer = buffer;
  word = word;
  cursor = t.index;
  integer = integer_of t;
  fraction = fraction_of t;
  exponent = exponent_of t;
}

-- What a call of a tally leaves: the state for every buffer and word, the cursor, and the looks so
-- far. The reader stays.
pub record Leaves (old new : Tally) (step : State → State) (cursor count : ℕ) : Type 0 where
  pub state : (buffer : List ℕ) → (word : ℕ)
      → state_of buffer word new ≡ step (state_of buffer word old)
  pub index : new.index ≡ cursor
  pub looks : looks_of new ≡ count
  pub reader : new.reader ≡ old.reader
  pub is_counting : new.is_counting ≡ old.is_counting

-- a state where the reader counted one byte more, if it counts
abbrev pub passed_by : Tally → State → State
passed_by t s = if t.is_counting then counted t.reader s else s
