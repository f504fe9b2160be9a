-- A column that is looked for in a line of CSV, and the fields of the line.
use Rattle.std.proofs.Common.{◌≡◌, ℕ, zero, suc, ◌+◌, ◌-◌, ◌<◌, ◌==◌, false, List, [], ◌∷◌, length, drop, get_or, Some, None, refl, sym, ◌∙◌, ap, arith, subst}
use Rattle.std.specs.Prelude.{Option, fold}
use Rattle.std.specs.List.{onto_first}
use Rattle.std.proofs.lemmas.Bool.Decides.{nat_tests}
use Rattle.digit_totals.specs.declared.csv.Place.{Place}
use Rattle.digit_totals.specs.declared.csv.Place.TheVariants.{Start, Plain, Quoted, Closed, Wrong}
use Rattle.digit_totals.specs.declared.csv.Sought.{Sought}
use Rattle.digit_totals.specs.CsvSearch.{ended, at_place, moved, with_byte}
use Rattle.digit_totals.specs.Field.{after, parted, csv_fields, nth_span}
use Rattle.digit_totals.proofs.Fields.{span_cons}

-- Where the column is that is looked for, if from a position on there are these fields: the first
-- is the rest of the field that has begun.
abbrev pub span_by : Option (ℕ × ℕ) → ℕ → ℕ → ℕ → List (List ℕ) → Option (ℕ × ℕ)
span_by (Some span) left start at fields = Some span
span_by None left start at [] = None
span_by None zero start at (field ∷ fields) = Some (start, at + length field)
span_by None (suc left) start at (field ∷ fields) = nth_span (at + length field + 1) left fields

abbrev pub span_from : Sought → ℕ → List (List ℕ) → Option (ℕ × ℕ)
span_from s at fields = span_by s.found s.left s.start at fields

-- ---- there is a field

record SomeFields (fields : List (List ℕ)) : Type 0 where
  first : List ℕ
  others : List (List ℕ)
  are : fields ≡ first ∷ others

onto : (byte : ℕ) (fields : List (List ℕ)) → SomeFields (onto_first byte fields)
onto byte [] = record { first = byte ∷ []; others = []; are = refl }
onto byte (field ∷ fields) = record { first = byte ∷ field; others = fields; are = refl }

parted_some : (place : Place) (byte : ℕ) (fields : List (List ℕ))
    → SomeFields (parted place byte fields)
parted_some Start byte fields = record { first = []; others = fields; are = refl }
parted_some Plain byte fields = onto byte fields
parted_some Quoted byte fields = onto byte fields
parted_some Closed byte fields = onto byte fields
parted_some Wrong byte fields = onto byte fields

some_fields : (separator : ℕ) (place : Place) (bytes : List ℕ)
    → SomeFields (csv_fields separator place bytes)
some_fields separator place [] = record { first = []; others = []; are = refl }
some_fields separator place (byte ∷ bytes) =
    parted_some (after separator place byte) byte
    (csv_fields separator (after separator place byte) bytes)

-- ---- one byte more

-- a field begins
begin : (left at : ℕ) (first : List ℕ) (others : List (List ℕ))
    → nth_span at left (first ∷ others) ≡ span_by None left at at (first ∷ others)
begin zero at first others = grind arith
begin (suc left) at first others =
    let e : at + (length first + 1) ≡ at + length first + 1 = omega arith in
    span_cons at left (length first) first others refl ∙ ap (λ n. nth_span n left others) e

-- a field goes on
goes_on : (found : Option (ℕ × ℕ)) (left start at byte : ℕ) (first : List ℕ)
    (others : List (List ℕ))
    → span_by found left start at ((byte ∷ first) ∷ others)
    ≡ span_by found left start (at + 1) (first ∷ others)
goes_on (Some span) left start at byte first others = refl
goes_on None zero start at byte first others =
    let e : at + length (byte ∷ first) ≡ at + 1 + length first = omega arith in
    ap (λ n. Some (start, n)) e
goes_on None (suc left) start at byte first others =
    let e : at + length (byte ∷ first) + 1 ≡ at + 1 + length first + 1 = omega arith in
    ap (λ n. nth_span n left others) e

abbrev sought : Place → ℕ → ℕ → Option (ℕ × ℕ) → Sought
sought place left start found =
    record { place = place; left = left; start = start; found = found }

not_zero : (n : ℕ) → (suc n == 0) ≡ false
not_zero n = grind (arith, nat_tests)

-- a field ends
ends : (place : Place) (found : Option (ℕ × ℕ)) (left start at : ℕ) (first : List ℕ)
    (others : List (List ℕ))
    → span_by found left start at ([] ∷ first ∷ others)
    ≡ span_from (ended (sought place left start found) at) (at + 1) (first ∷ others)
ends place (Some span) left start at first others = refl
ends place None zero start at first others =
    let e : at + 0 ≡ at = omega arith in ap (λ n. Some (start, n)) e
ends place None (suc left) start at first others =
    let e : at + 0 + 1 ≡ at + 1 = omega arith in
    let one : left ≡ suc left - 1 = omega arith in
    rw (not_zero left)
    (ap (λ n. nth_span n left (first ∷ others)) e ∙ begin left (at + 1) first others
    ∙ ap (λ m. span_by None m (at + 1) (at + 1) (first ∷ others)) one)

moves : (place : Place) (s : Sought) (at byte : ℕ) (fields : List (List ℕ)) → SomeFields fields
    → span_from s at (parted place byte fields) ≡ span_from (moved place s at) (at + 1) fields
moves Start s at byte fields some =
    subst (λ xs. span_from s at ([] ∷ xs) ≡ span_from (ended (at_place Start s) at) (at + 1) xs)
    (sym some.are) (ends Start s.found s.left s.start at some.first some.others)
moves Plain s at byte fields some =
    subst (λ xs. span_from s at (onto_first byte xs) ≡ span_from (at_place Plain s) (at + 1) xs)
    (sym some.are) (goes_on s.found s.left s.start at byte some.first some.others)
moves Quoted s at byte fields some =
    subst (λ xs. span_from s at (onto_first byte xs) ≡ span_from (at_place Quoted s) (at + 1) xs)
    (sym some.are) (goes_on s.found s.left s.start at byte some.first some.others)
moves Closed s at byte fields some =
    subst (λ xs. span_from s at (onto_first byte xs) ≡ span_from (at_place Closed s) (at + 1) xs)
    (sym some.are) (goes_on s.found s.left s.start at byte some.first some.others)
moves Wrong s at byte fields some =
    subst (λ xs. span_from s at (onto_first byte xs) ≡ span_from (at_place Wrong s) (at + 1) xs)
    (sym some.are) (goes_on s.found s.left s.start at byte some.first some.others)

ended_place : (place : Place) (left start : ℕ) (found : Option (ℕ × ℕ)) (at : ℕ)
    → (ended (sought place left start found) at).place ≡ place
ended_place place left start (Some span) at = refl
ended_place place zero start None at = refl
ended_place place (suc left) start None at = rw (not_zero left) refl

moved_place : (place : Place) (s : Sought) (at : ℕ) → (moved place s at).place ≡ place
moved_place Start s at = ended_place Start s.left s.start s.found at
moved_place Plain s at = refl
moved_place Quoted s at = refl
moved_place Closed s at = refl
moved_place Wrong s at = refl

-- the bytes from a position on
byte_at : (line : List ℕ) (at d : ℕ) → at < length line
    → drop at line ≡ get_or line at d ∷ drop (at + 1) line
byte_at [] at d inside = absurd (omega arith)
byte_at (byte ∷ line) zero d inside = refl
byte_at (byte ∷ line) (suc at) d inside =
    let next : suc at + 1 ≡ suc (at + 1) = omega arith in
    rw next (byte_at line at d (omega arith))

module _ (separator : ℕ) (s : Sought) (line : List ℕ) (at d : ℕ) (inside : at < length line) where
  abbrev byte : ℕ
  byte = get_or line at d

  abbrev next : Place
  next = after separator s.place byte

  abbrev rest : List ℕ
  rest = drop (at + 1) line

  pub step_place : fold (after separator) s.place (drop at line)
      ≡ fold (after separator) (with_byte separator s byte at).place rest
  step_place =
      ap (fold (after separator) s.place) (byte_at line at d inside)
      ∙ ap (λ p. fold (after separator) p rest) (sym (moved_place next s at))

  pub step_span : span_from s at (csv_fields separator s.place (drop at line))
      ≡ span_from (with_byte separator s byte at) (at + 1)
      (csv_fields separator (with_byte separator s byte at).place rest)
  step_span =
      ap (λ bytes. span_from s at (csv_fields separator s.place bytes))
      (byte_at line at d inside)
      ∙ moves next s at byte (csv_fields separator next rest) (some_fields separator next rest)
      ∙ ap (λ p. span_from (with_byte separator s byte at) (at + 1) (csv_fields separator p rest))
      (sym (moved_place next s at))
