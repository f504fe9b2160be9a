-- The laws of the traits, proved for the plain cursor. (A law of an `impl` can cite only specs/, so
-- these lemmas are here and not in proofs/.)
use Rattle.std.proofs.Common.{◌≡◌, ℕ, ◌+◌, ◌<◌, ◌≤◌, true, false, length, arith}
use Rattle.std.proofs.lemmas.Bool.{lt-ltb, le-ltb}
use Rattle.lexical_digits.specs.Cursor.{IterLaws, DigitLaws}
use Rattle.lexical_plain.specs.Plain.{Plain, IsPlain, with_cursor, is_digit, taken}

cursor_is : (s : Plain) → IsPlain s → s.cursor ≤ length s.buffer
cursor_is s v = v.within

moved_is : (s : Plain) (i : ℕ) → IsPlain s → i ≤ length s.buffer → IsPlain (with_cursor s i)
moved_is s i v h = search (v, h)

-- ---- `next`

pub taken_some : (s : Plain) → s.cursor < length s.buffer → taken s ≡ with_cursor s (s.cursor + 1)
unfolding taken
taken_some s l = rw (lt-ltb s.cursor (length s.buffer) l)

pub taken_none : (s : Plain) → length s.buffer ≤ s.cursor → taken s ≡ s
unfolding taken
taken_none s l = rw (le-ltb s.cursor (length s.buffer) l)

taken_is : (s : Plain) → IsPlain s → IsPlain (taken s)
unfolding taken
taken_is s v = grind (arith, moved_is)

taken_buffer : (s : Plain) → (taken s).buffer ≡ s.buffer
unfolding taken
taken_buffer s = grind arith

taken_word : (s : Plain) → (taken s).word ≡ s.word
unfolding taken
taken_word s = grind arith

-- ---- all laws

ruleset steps = (taken_is, taken_some, taken_none, taken_buffer, taken_word)

pub iter_laws : IterLaws IsPlain (λ m. m.buffer) (λ m. m.cursor)
    (λ _. true) (λ _ _. false) with_cursor
iter_laws = search (moved_is, cursor_is)

pub digit_laws : DigitLaws IsPlain (λ m. m.buffer) (λ m. m.cursor) (λ m. m.cursor)
    (λ _. true) (λ _ _. false) with_cursor
    (λ m. m.cursor) is_digit (λ m. m) (λ m. m) taken
digit_laws = search (arith, cursor_is, steps)
