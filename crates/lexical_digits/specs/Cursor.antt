-- The traits in the logic: what a call on any implementer does, and the laws. M is the type of
-- meanings, and the functions over it are the traits' ghost members.
use Rattle.std.specs.Prelude.{◌≡◌, ℕ, zero, suc, ◌+◌, ◌<◌, ◌≤◌, ◌==◌, ◌&&◌, ◌||◌, not, Bool, false, if◌then◌else◌, nat_lt, nat_le, List, [], ◌∷◌, length, drop, slice_get, slice_index, Option, Some, None}
use Rattle.std.specs.Char.{eq_ignore_ascii_case}
use Rattle.std.specs.Int.{Width, byte_len, from_le_bytes}

-- ---- a byte and a test of it

-- whether there is a byte, and it passes the test
abbrev pub holds_of : (ℕ → Bool) → Option ℕ → Bool
holds_of p None = false
holds_of p (Some b) = p b

-- the byte, if there is one and it passes the test
abbrev pub byte_if : (ℕ → Bool) → Option ℕ → Option ℕ
byte_if p None = None
byte_if p (Some b) = if p b then Some b else None

-- whether a byte is the value; by `eq_ignore_ascii_case` if case does not count
abbrev pub is_value : ℕ → Bool → ℕ → Bool
is_value value is_cased b = if is_cased then b == value else eq_ignore_ascii_case b value

-- the next bytes as a number, the first byte lowest; None if fewer are left or separators may be
-- dropped
abbrev pub next_number : Width → Bool → List ℕ → Option ℕ
next_number w contiguous left =
    if contiguous && nat_le (byte_len w) (length left)
    then Some (from_le_bytes w left)
    else None

-- ---- conditions and outcomes of calls

-- a step by `count` stays in the buffer; if separators may be dropped, it is at most one byte long,
-- and not over a separator
pub record CanStep (buffer : List ℕ) (cursor : ℕ) (contiguous : Bool) (separates : ℕ → Bool)
    (count : ℕ) : Type 0 where
  pub fits : cursor + count ≤ length buffer
  pub at_most_one : contiguous ≡ false → count ≤ 1
  pub no_separator : contiguous ≡ false → count ≡ 1 → separates (slice_index buffer cursor) ≡ false

-- the test of that condition
abbrev pub can_step : List ℕ → ℕ → Bool → (ℕ → Bool) → ℕ → Bool
can_step buffer cursor contiguous separates count =
    nat_le (cursor + count) (length buffer)
    && (contiguous || (count == 0)
    || ((count == 1) && not (holds_of separates (slice_get buffer cursor))))

-- what `read_if` answers and leaves: at the end None and `settled`; otherwise the closure answers
-- once, for the byte, and the byte is read exactly if it answers true
abbrev pub ReadsIf : {M : Type 0} → (ℕ → Bool → Type 0) → Option ℕ → M → M → Option ℕ → M → Type 0
ReadsIf test None settled past result left = (result ≡ None) × (left ≡ settled)
ReadsIf test (Some b) settled past result left = (yes : Bool) × test b yes
    × (result ≡ if yes then Some b else None) × (left ≡ if yes then past else settled)

-- ---- recursions over a meaning

-- a fold over the steps that are made while `goes` holds, at most so many
module _ {M R : Type 0} (goes : M → Bool) (next : M → M) (at_end : M → R)
    (at_step : M → R → R) where
  unfoldable pub walk : ℕ → M → R
  walk zero m = at_end m
  walk (suc n) m = if goes m then at_step m (walk n (next m)) else at_end m

-- how many bytes are left from the cursor on; no implementer makes more steps
abbrev pub bytes_left : {M : Type 0} → (M → List ℕ) → (M → ℕ) → M → ℕ
bytes_left buffer cursor m = length (drop (cursor m) (buffer m))

module _ {M : Type 0} (buffer : M → List ℕ) (cursor place : M → ℕ) (taken : M → M) where
  -- the items, the bytes that `next` answers before None: none at the end, otherwise the byte at
  -- the place and then the items of `taken`
  unfoldable pub items : M → List ℕ
  items m = walk (λ n. nat_lt (place n) (length (buffer n))) taken (λ _. [])
      (λ n more. slice_index (buffer n) (place n) ∷ more) (bytes_left buffer cursor m) m

  -- what they leave: what the `next` leaves that answers None
  unfoldable pub after_items : M → M
  after_items m = walk (λ n. nat_lt (place n) (length (buffer n))) taken taken (λ _ after. after)
      (bytes_left buffer cursor m) m

module _ {M : Type 0} (buffer : M → List ℕ) (cursor place : M → ℕ) (moved : M → ℕ → M)
    (settled counted : M → M) where
  -- whether the byte at the place is `0`
  abbrev pub at_zero : M → Bool
  at_zero m = holds_of (λ b. b == 48) (slice_get (buffer m) (place m))

  -- what is left after one zero is read and counted
  abbrev pub past_zero : M → M
  past_zero m = counted (moved (settled m) (place m + 1))

  -- the zeros: one more than the zeros past it if the byte at the place is `0`, otherwise 0
  unfoldable pub zeros : M → ℕ
  zeros m = walk at_zero past_zero (λ _. 0) (λ _ more. more + 1) (bytes_left buffer cursor m) m

  -- what they leave: `settled` after the last one
  unfoldable pub after_zeros : M → M
  after_zeros m = walk at_zero past_zero settled (λ _ after. after) (bytes_left buffer cursor m) m

-- ---- laws
module _ {M : Type 0} (valid : M → Type 0) (buffer : M → List ℕ) (cursor : M → ℕ) where
  -- the cursor is at most the length; `moved` has the cursor that was set, and the same buffer,
  -- contiguity and separators
  pub record IterLaws (contiguous : M → Bool) (separates : M → ℕ → Bool)
      (moved : M → ℕ → M) : Type 0 where
    pub within : (m : M) → valid m → cursor m ≤ length (buffer m)
    pub moved_valid : (m : M) (i : ℕ) → valid m → i ≤ length (buffer m) → valid (moved m i)
    pub moved_cursor : (m : M) (i : ℕ) → valid m → i ≤ length (buffer m) → cursor (moved m i) ≡ i
    pub moved_buffer : (m : M) (i : ℕ) → valid m → i ≤ length (buffer m)
        → buffer (moved m i) ≡ buffer m
    pub moved_contiguous : (m : M) (i : ℕ) → valid m → i ≤ length (buffer m)
        → contiguous (moved m i) ≡ contiguous m
    pub moved_separates : (m : M) (i b : ℕ) → valid m → i ≤ length (buffer m) → b < 256
        → separates (moved m i) b ≡ separates m b

  -- The place is between the cursor and the length. `settled` has its cursor there, and the same
  -- place and count; settling twice is settling once, and `taken` after it is `taken`. `counted`
  -- has the same cursor. `taken` has its cursor one past the place, or at the end. None of the four
  -- changes the buffer, contiguity, the separators or which bytes are digits.
  pub record DigitLaws (current_count : M → ℕ) (contiguous : M → Bool) (separates : M → ℕ → Bool)
      (moved : M → ℕ → M) (place : M → ℕ) (digit : M → ℕ → Bool)
      (settled counted taken : M → M) : Type 0 where
    pub place_from : (m : M) → valid m → cursor m ≤ place m
    pub place_to : (m : M) → valid m → place m ≤ length (buffer m)
    pub settled_valid : (m : M) → valid m → valid (settled m)
    pub settled_cursor : (m : M) → valid m → cursor (settled m) ≡ place m
    pub settled_place : (m : M) → valid m → place (settled m) ≡ place m
    pub settled_count : (m : M) → valid m → current_count (settled m) ≡ current_count m
    pub settled_twice : (m : M) → valid m → settled (settled m) ≡ settled m
    pub settled_taken : (m : M) → valid m → taken (settled m) ≡ taken m
    pub counted_valid : (m : M) → valid m → valid (counted m)
    pub counted_cursor : (m : M) → valid m → cursor (counted m) ≡ cursor m
    pub taken_valid : (m : M) → valid m → valid (taken m)
    pub taken_cursor : (m : M) → valid m → place m < length (buffer m)
        → cursor (taken m) ≡ place m + 1
    pub taken_end : (m : M) → valid m → place m ≡ length (buffer m) → cursor (taken m) ≡ place m
    pub settled_buffer : (m : M) → valid m → buffer (settled m) ≡ buffer m
    pub settled_contiguous : (m : M) → valid m → contiguous (settled m) ≡ contiguous m
    pub settled_separates : (m : M) (b : ℕ) → valid m → b < 256
        → separates (settled m) b ≡ separates m b
    pub settled_digit : (m : M) (b : ℕ) → valid m → b < 256 → digit (settled m) b ≡ digit m b
    pub counted_buffer : (m : M) → valid m → buffer (counted m) ≡ buffer m
    pub counted_contiguous : (m : M) → valid m → contiguous (counted m) ≡ contiguous m
    pub counted_separates : (m : M) (b : ℕ) → valid m → b < 256
        → separates (counted m) b ≡ separates m b
    pub counted_digit : (m : M) (b : ℕ) → valid m → b < 256 → digit (counted m) b ≡ digit m b
    pub taken_buffer : (m : M) → valid m → buffer (taken m) ≡ buffer m
    pub taken_contiguous : (m : M) → valid m → contiguous (taken m) ≡ contiguous m
    pub taken_separates : (m : M) (b : ℕ) → valid m → b < 256
        → separates (taken m) b ≡ separates m b
    pub taken_digit : (m : M) (b : ℕ) → valid m → b < 256 → digit (taken m) b ≡ digit m b
    pub moved_digit : (m : M) (i b : ℕ) → valid m → i ≤ length (buffer m) → b < 256
        → digit (moved m i) b ≡ digit m b
