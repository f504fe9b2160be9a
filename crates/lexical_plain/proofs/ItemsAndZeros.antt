-- The items and the zeros of the plain cursor are the bytes from the cursor on and the zeros there.
use Rattle.std.proofs.Common.{◌≡◌, ℕ, ◌+◌, ◌<◌, Bool, true, false, ◌∷◌, length, get_or, sym, ap, ◌∙◌, arith}
use Rattle.std.proofs.lemmas.List.{drop_more, drop_all}
use Rattle.std.proofs.lemmas.Option.{gets}
use Rattle.lexical_digits.specs.Cursor.{at_zero, items}
use Rattle.lexical_digits.specs.Cursor as cursor
use Rattle.lexical_digits.proofs.Calls.Implementing.{items_are}
use Rattle.lexical_digits.proofs.Calls.Items.{zeros_fall, zeros_by, after_zeros_by}
use Rattle.lexical_digits.proofs.Calls.Walk.{by_walk}
use Rattle.lexical_plain.specs.Plain.{Plain, IsPlain, with_cursor, rest, zeros, taken}
use Rattle.lexical_plain.specs.Laws.{iter_laws, digit_laws, taken_some}

rest_more : (p : Plain) → p.cursor < length p.buffer
    → rest p ≡ get_or p.buffer p.cursor 0 ∷ rest (with_cursor p (p.cursor + 1))
rest_more p l = drop_more p.buffer p.cursor 0 l

pub items_rest : (p : Plain) → IsPlain p
    → items (λ m. m.buffer) (λ m. m.cursor) (λ m. m.cursor) taken p ≡ rest p
items_rest = items_are digit_laws rest
    (λ p v e. drop_all p.cursor p.buffer (omega arith))
    (λ p v l. rest_more p l
    ∙ ap (λ (q : Plain). get_or p.buffer p.cursor 0 ∷ rest q) (sym (taken_some p l)))

-- ---- the zeros

abbrev starts : Plain → Bool
starts = at_zero (λ m. m.buffer) (λ m. m.cursor) (λ m. m.cursor) with_cursor (λ m. m) (λ m. m)

zeros_more : (p : Plain) → starts p ≡ true → zeros p ≡ zeros (with_cursor p (p.cursor + 1)) + 1
zeros_more p e = grind (arith, gets, rest_more)

zeros_none : (p : Plain) → starts p ≡ false → zeros p ≡ 0
zeros_none p e = grind (arith, gets, rest_more, drop_all)

pub zeros_first : (p : Plain) → IsPlain p
    → cursor.zeros (λ m. m.buffer) (λ m. m.cursor) (λ m. m.cursor) with_cursor (λ m. m) (λ m. m) p
    ≡ zeros p
zeros_first = by_walk (zeros_fall digit_laws iter_laws) _
    (λ p v e. zeros_by digit_laws iter_laws false p e v ∙ sym (zeros_none p e))
    (λ p v e more. omega (arith, zeros_by digit_laws iter_laws true p e v, more, zeros_more p e))

pub after_first : (p : Plain) → IsPlain p
    → cursor.after_zeros (λ m. m.buffer) (λ m. m.cursor) (λ m. m.cursor) with_cursor (λ m. m)
    (λ m. m) p ≡ with_cursor p (p.cursor + zeros p)
after_first = by_walk (zeros_fall digit_laws iter_laws) _
    (λ p v e. after_zeros_by digit_laws iter_laws false p e v
    ∙ ap (λ (i : ℕ). with_cursor p i) (omega (arith, zeros_none p e)))
    (λ p v e more. after_zeros_by digit_laws iter_laws true p e v ∙ more
    ∙ ap (λ (i : ℕ). with_cursor p i) (omega (arith, zeros_more p e)))

-- what `zeros_come_first` states
pub ruleset first = (zeros_first, after_first)
