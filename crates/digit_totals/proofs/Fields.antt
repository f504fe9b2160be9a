-- The fields of a line, found one by one.
use Rattle.std.proofs.Common.{◌≡◌, ◌≢◌, ℕ, zero, suc, true, false, Ok, Err, Result, slice_range, ◌+◌, ◌-◌, ◌<◌, ◌≤◌, ◌==◌, List, [], ◌∷◌, ◌++◌, All, length, take, drop, refl, ◌∙◌, ap, arith, Some, None, length-take, length-drop}
use Rattle.std.proofs.lemmas.List.{drop-drop, take_rest}
use Rattle.std.proofs.lemmas.List.Sums.{sum_by-cons}
use Rattle.std.specs.List.{position}
use Rattle.std.proofs.lemmas.Bool.Decides.{nat_tests}
use Rattle.std.proofs.lemmas.List.Elements.{All-head, All-tail}
use Rattle.digit_totals.specs.declared.fault.NumberError.{NumberError}
use Rattle.digit_totals.specs.declared.fault.NumberError.TheVariants.{Missing, Quoted}
use Rattle.digit_totals.specs.Field.{fields_of, length_of, nth_span, is_quoted, first_quoted, unless_quoted}
use Rattle.digit_totals.proofs.FirstMark.{position_splits, position_none, position_within}

module _ (separator : ℕ) where
  fields_joined : (front rest : List ℕ) → All (λ byte. byte ≢ separator) front
      → fields_of separator (front ++ separator ∷ rest) ≡ front ∷ fields_of separator rest
  fields_joined [] rest h = grind (arith, nat_tests)
  fields_joined (byte ∷ front) rest h =
      let other = All-head (λ byte. byte ≢ separator) byte front h in
      let e = fields_joined front rest (All-tail (λ byte. byte ≢ separator) byte front h) in
      grind (arith, nat_tests)

  one_field : (line : List ℕ) → All (λ byte. byte ≢ separator) line
      → fields_of separator line ≡ line ∷ []
  one_field [] h = refl
  one_field (byte ∷ line) h =
      let other = All-head (λ byte. byte ≢ separator) byte line h in
      let e = one_field line (All-tail (λ byte. byte ≢ separator) byte line h) in
      grind (arith, nat_tests)

  pub fields_at : (line : List ℕ) (i : ℕ)
      → position (λ byte. byte == separator) line ≡ Some i
      → fields_of separator line ≡ take i line ∷ fields_of separator (drop (i + 1) line)
  fields_at line i h =
      let parts = position_splits separator line i h in
      ap (fields_of separator) parts.whole ∙ fields_joined _ _ parts.before

  pub fields_none : (line : List ℕ) → position (λ byte. byte == separator) line ≡ None
      → fields_of separator line ≡ line ∷ []
  fields_none line h = one_field line (position_none separator line h)

pub span_cons : (start m count : ℕ) (field : List ℕ) (fields : List (List ℕ))
    → length field ≡ count
    → nth_span start (suc m) (field ∷ fields) ≡ nth_span (start + (count + 1)) m fields
span_cons start m count field fields e =
    let more = sum_by-cons (λ f. length f + 1) field (take m fields) in
    let same : start + length_of (field ∷ take m fields)
    ≡ start + (count + 1) + length_of (take m fields) = omega (arith, more, e) in
    rw same refl

module _ (separator : ℕ) (line : List ℕ) (start : ℕ) (within : start ≤ length line) where
  abbrev rest : List ℕ
  rest = drop start line

  -- one field is passed
  pub next_span : (n i count : ℕ) → i < n → position (λ byte. byte == separator) rest ≡ Some count
      → nth_span start (n - i) (fields_of separator rest)
      ≡ nth_span (start + (count + 1)) (n - (i + 1))
      (fields_of separator (drop (start + (count + 1)) line))
  next_span n i count l h =
      let more : n - i ≡ suc (n - (i + 1)) = omega (arith, l) in
      let inside = position_within separator rest count h in
      rw (more, fields_at separator rest count h)
      (span_cons start (n - (i + 1)) count (take count rest) _
      (grind (arith, length-take {A = ℕ}, inside))
      ∙ ap (λ bytes. nth_span (start + (count + 1)) (n - (i + 1)) (fields_of separator bytes))
      (drop-drop (count + 1) start line))

  -- there is no other
  pub no_span : (n i : ℕ) → i < n → position (λ byte. byte == separator) rest ≡ None
      → nth_span start (n - i) (fields_of separator rest) ≡ None
  no_span n i l h =
      let more : n - i ≡ suc (n - (i + 1)) = omega (arith, l) in
      rw (more, fields_none separator rest h) refl

  pub first_span : (count : ℕ) → position (λ byte. byte == separator) rest ≡ Some count
      → nth_span start 0 (fields_of separator rest) ≡ Some (start, start + count)
  first_span count h =
      let inside = position_within separator rest count h in
      rw (fields_at separator rest count h) (grind (arith, length-take {A = ℕ}, inside))

  pub last_span : position (λ byte. byte == separator) rest ≡ None
      → nth_span start 0 (fields_of separator rest) ≡ Some (start, length line)
  last_span h =
      rw (fields_none separator rest h) (grind (arith, within, length-drop {A = ℕ}))

-- ---- quotes

-- a field that begins with no quote is passed
quoted_later : (k m : ℕ) (field : List ℕ) (fields : List (List ℕ)) → is_quoted field ≡ false
    → first_quoted k (suc m) (field ∷ fields) ≡ first_quoted (k + 1) m fields
quoted_later k m field fields none =
    let next : suc m + 1 ≡ suc (m + 1) = omega arith in rw (next, none) refl

pub quoted_here : (k n : ℕ) (field : List ℕ) (fields : List (List ℕ)) → is_quoted field ≡ true
    → first_quoted k n (field ∷ fields) ≡ Some k
quoted_here k n field fields is =
    let next : n + 1 ≡ suc n = omega arith in rw (next, is) refl

quoted_last : (k n : ℕ) (field : List ℕ) → is_quoted field ≡ false
    → first_quoted k n (field ∷ []) ≡ None
quoted_last k zero field none = rw none refl
quoted_last k (suc n) field none =
    let next : suc n + 1 ≡ suc (suc n) = omega arith in rw (next, none) refl

module _ (separator : ℕ) (line : List ℕ) (start : ℕ) (within : start ≤ length line) where
  abbrev left : List ℕ
  left = drop start line

  abbrev read_at : ℕ → ℕ → ℕ → List (List ℕ) → Result (ℕ × ℕ) NumberError
  read_at at k n fields = unless_quoted (first_quoted k n fields) (nth_span at n fields)

  pub next_read : (n i count : ℕ) → i < n → position (λ byte. byte == separator) left ≡ Some count
      → is_quoted (take count left) ≡ false
      → read_at start (i + 1) (n - i) (fields_of separator left)
      ≡ read_at (start + (count + 1)) (i + 1 + 1) (n - (i + 1))
      (fields_of separator (drop (start + (count + 1)) line))
  next_read n i count l h none =
      let span = next_span separator line start within n i count l h in
      let more : n - i ≡ suc (n - (i + 1)) = omega (arith, l) in
      let quoted : first_quoted (i + 1) (n - i) (fields_of separator left)
      ≡ first_quoted (i + 1 + 1) (n - (i + 1))
      (fields_of separator (drop (start + (count + 1)) line)) =
      ap (first_quoted (i + 1) (n - i)) (fields_at separator left count h)
      ∙ ap (λ m. first_quoted (i + 1) m
      (take count left ∷ fields_of separator (drop (count + 1) left))) more
      ∙ quoted_later (i + 1) (n - (i + 1)) (take count left)
      (fields_of separator (drop (count + 1) left)) none
      ∙ ap (λ bytes. first_quoted (i + 1 + 1) (n - (i + 1)) (fields_of separator bytes))
      (drop-drop (count + 1) start line) in
      ap (λ q. unless_quoted q (nth_span start (n - i) (fields_of separator left))) quoted
      ∙ ap (unless_quoted (first_quoted (i + 1 + 1) (n - (i + 1))
      (fields_of separator (drop (start + (count + 1)) line)))) span

  pub quoted_read : (n i count : ℕ) → position (λ byte. byte == separator) left ≡ Some count
      → is_quoted (take count left) ≡ true
      → read_at start (i + 1) (n - i) (fields_of separator left) ≡ Err (Quoted (i + 1))
  quoted_read n i count h is =
      ap (λ q. unless_quoted q (nth_span start (n - i) (fields_of separator left)))
      (ap (first_quoted (i + 1) (n - i)) (fields_at separator left count h)
      ∙ quoted_here (i + 1) (n - i) (take count left) _ is)

  pub quoted_rest : (n i : ℕ) → position (λ byte. byte == separator) left ≡ None
      → is_quoted left ≡ true
      → read_at start (i + 1) (n - i) (fields_of separator left) ≡ Err (Quoted (i + 1))
  quoted_rest n i h is =
      ap (λ q. unless_quoted q (nth_span start (n - i) (fields_of separator left)))
      (ap (first_quoted (i + 1) (n - i)) (fields_none separator left h)
      ∙ quoted_here (i + 1) (n - i) left [] is)

  pub missing_read : (n i : ℕ) → i < n → position (λ byte. byte == separator) left ≡ None
      → is_quoted left ≡ false
      → read_at start (i + 1) (n - i) (fields_of separator left) ≡ Err Missing
  missing_read n i l h none =
      ap (λ q. unless_quoted q (nth_span start (n - i) (fields_of separator left)))
      (ap (first_quoted (i + 1) (n - i)) (fields_none separator left h)
      ∙ quoted_last (i + 1) (n - i) left none)
      ∙ ap (unless_quoted None) (no_span separator line start within n i l h)

  -- the field at the start
  pub front_field : (count : ℕ) → position (λ byte. byte == separator) left ≡ Some count
      → fields_of separator left
      ≡ slice_range line start (start + count) ∷ fields_of separator (drop (count + 1) left)
  front_field count h =
      let same : start + count - start ≡ count = omega arith in
      rw same (fields_at separator left count h)

  pub only_field : position (λ byte. byte == separator) left ≡ None
      → fields_of separator left ≡ slice_range line start (length line) ∷ []
  only_field h = rw (take_rest line start) (fields_none separator left h)

  -- it is read unless a quote begins it
  pub front_read : (k end : ℕ) (others : List (List ℕ)) → start ≤ end → end ≤ length line
      → fields_of separator left ≡ slice_range line start end ∷ others
      → is_quoted (slice_range line start end) ≡ false
      → read_at start k 0 (fields_of separator left) ≡ Ok (start, end)
  front_read k end others order inside is none =
      let long : length (slice_range line start end) ≡ end - start =
      grind (arith, length-take {A = ℕ}, length-drop {A = ℕ}, order, inside) in
      let there : start + (end - start) ≡ end = omega (arith, order) in
      rw (is, none) (grind (arith, long, there))

  pub front_quoted : (k end : ℕ) (others : List (List ℕ))
      → fields_of separator left ≡ slice_range line start end ∷ others
      → is_quoted (slice_range line start end) ≡ true
      → read_at start k 0 (fields_of separator left) ≡ Err (Quoted k)
  front_quoted k end others is quoted = rw (is, quoted) refl

pub ruleset spans = (next_span, no_span, first_span, last_span, position_within, take_rest)
