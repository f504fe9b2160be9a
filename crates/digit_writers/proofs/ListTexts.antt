-- One turn of a loop over the numbers of a list.
use Rattle.std.proofs.Common.{◌≡◌, ℕ, ℤ, zero, suc, ◌+◌, ◌-◌, ◌^◌, ◌<◌, ◌≤◌, Bool, true, false, List, [], ◌∷◌, ◌++◌, length, map, take, drop, get_or, min, refl, sym, ap, subst, ◌∙◌, arith, append_assoc, append-nil, length-append, All}
use Rattle.std.specs.Prelude.{if◌then◌else◌, decimal}
use Rattle.std.specs.Fmt.{sign_text, signed_decimal}
use Rattle.std.specs.List.{splice}
use Rattle.std.proofs.lemmas.List.{drop_more, drop-drop, drop_all, length-take-le}
use Rattle.std.proofs.lemmas.List.Elements.{All-nil}
use Rattle.digit_integers.specs.Numbers.{signed}
use Rattle.digit_writers.specs.Layouts.{digit_count, sign_of}
use Rattle.digit_writers.specs.Lists.{list_text, others_text, IsListSoFar}
use Rattle.digit_writers.specs.Written.{IsOfType}
use Rattle.digit_writers.proofs.LastDigits.{length_last}
use Rattle.digit_writers.proofs.Plainly.{decimal_is}
use Rattle.digit_writers.proofs.Splices.{take_spliced, drop_spliced, length_spliced}

-- the text of a number by its parts
pub signed_is : (negative : Bool) (n : ℕ) (z : ℤ) → signed negative n ≡ z
    → (negative ≡ true → 0 < n) → signed_decimal z ≡ sign_text negative ++ decimal n
signed_is false n z is some = ap signed_decimal (sym is)
signed_is true zero z is some = absurd (omega (arith, some refl))
signed_is true (suc n) z is some = ap signed_decimal (sym is)

-- it is one of its type
pub of_type : (negative : Bool) (n least most : ℕ) (z : ℤ) → signed negative n ≡ z
    → (negative ≡ true → 0 < n) → n ≤ (if negative then least else most) → n < 2 ^ 128
    → IsOfType least most z
of_type false n least most z is some fits few = subst (IsOfType least most) is (fits, few)
of_type true zero least most z is some fits few = absurd (omega (arith, some refl))
of_type true (suc n) least most z is some fits few =
    subst (IsOfType least most) is (omega (arith, fits), omega (arith, few))

-- how long it is
pub length_is : (negative : Bool) (n signs count : ℕ) (z : ℤ) → signed negative n ≡ z
    → (negative ≡ true → 0 < n) → n < 10 ^ 64 → signs ≡ length (sign_of false negative)
    → count ≡ digit_count 10 n → signs + count ≡ length (signed_decimal z)
length_is negative n signs count z is some few signed_by counts =
    let digits : count ≡ length (decimal n) =
    counts ∙ sym (length_last 10 false (digit_count 10 n) n) ∙ ap length (decimal_is false n few) in
    omega (
      arith,
      digits,
      signed_by,
      minus negative,
      length-append (sign_text negative) (decimal n),
      ap length (signed_is negative n z is some),
    )
  where
    minus : (negative : Bool) → length (sign_of false negative) ≡ length (sign_text negative)
    minus true = refl
    minus false = refl

-- to be named in an attribute
pub ruleset parts = (signed_is, of_type)

-- what is left at an element
pub left_at : {V : Type 0} (value : V → ℤ) (xs : List V) (i : ℕ) (x : V) → i < length xs
    → x ≡ get_or xs i x → map value (drop i xs) ≡ value x ∷ map value (drop (i + 1) xs)
left_at value xs i x l is =
    ap (map value) (drop_more xs i x l)
    ∙ ap (λ y. value y ∷ map value (drop (i + 1) xs)) (sym is)

-- and at the end
pub left_end : {V : Type 0} (value : V → ℤ) (xs : List V) (i : ℕ) → length xs ≤ i
    → map value (drop i xs) ≡ []
left_end value xs i l = ap (map value) (drop_all i xs l)

-- of no values
pub none_text : {V : Type 0} (value : V → ℤ) (separator : ℕ) (xs : List V) → length xs ≡ 0
    → list_text separator (map value xs) ≡ []
none_text value separator [] none = refl
none_text value separator (x ∷ xs) none = absurd (omega (arith, none))

pub none_all : {V : Type 0} (value : V → ℤ) (P : ℤ → Type 0) (xs : List V) → length xs ≡ 0
    → All P (map value xs)
none_all value P [] none = All-nil P
none_all value P (x ∷ xs) none = absurd (omega (arith, none))

module _ (separator : ℕ) where
  pub none_left : others_text separator [] ≡ []
  unfolding others_text
  none_left = refl

  pub one_left : (z : ℤ) (zs : List ℤ) → others_text separator (z ∷ zs)
      ≡ (separator ∷ signed_decimal z) ++ others_text separator zs
  unfolding others_text
  one_left z zs = refl

  -- how long one more is
  length_left : (z : ℤ) (zs : List ℤ) → length (others_text separator (z ∷ zs))
      ≡ 1 + length (signed_decimal z) + length (others_text separator zs)
  length_left z zs =
      let both = length-append (separator ∷ signed_decimal z) (others_text separator zs) in
      omega (arith, ap length (one_left z zs), both)

  -- ---- counting

  pub counted_more : (count more most total next : ℕ) (z : ℤ) (zs : List ℤ)
      → min (count + length (others_text separator (z ∷ zs))) most ≡ total
      → more ≡ 1 + length (signed_decimal z) → next ≡ min (count + more) most
      → min (next + length (others_text separator zs)) most ≡ total
  counted_more count more most total next z zs so is counts =
      omega (arith, so, is, counts, length_left z zs)

  pub counted_all : (count most total : ℕ)
      → min (count + length (others_text separator [])) most ≡ total → count ≤ most → count ≡ total
  counted_all count most total so few =
      omega (arith, so, few, ap length none_left)

  -- ---- writing

  -- the first number
  module _ (z : ℤ) (zs : List ℤ) (old : List ℕ) where
    first_fits : length (list_text separator (z ∷ zs)) ≤ length old
        → length (signed_decimal z) ≤ length old
    first_fits room =
        omega (arith, room, length-append (signed_decimal z) (others_text separator zs))

    pub turns_begin : (end : ℕ) (new : List ℕ) → end ≡ 0 + length (signed_decimal z)
        → new ≡ splice old 0 end (signed_decimal z)
        → length (list_text separator (z ∷ zs)) ≤ length old
        → IsListSoFar separator (list_text separator (z ∷ zs)) zs end old new
    turns_begin end new is written room =
        let inside : end ≤ length old = omega (arith, is, first_fits room) in
        let none : end + 0 ≡ end = omega arith in
        record {
          written = ap (λ (t : List ℕ). t ++ others_text separator zs)
              (ap (take end) written ∙ take_spliced old (signed_decimal z) 0 end is inside);
          rest = ap (drop end) written
              ∙ rw none at (drop_spliced old (signed_decimal z) 0 end is inside 0);
          within = omega (
            arith,
            ap length written,
            length_spliced old (signed_decimal z) 0 end is inside,
            inside,
          );
          same_length = ap length written
              ∙ length_spliced old (signed_decimal z) 0 end is inside;
        }

  module _ (text : List ℕ) (z : ℤ) (zs : List ℤ) (at : ℕ) (old mid : List ℕ)
      (so : IsListSoFar separator text (z ∷ zs) at old mid) where
    abbrev next : ℕ
    next = at + 1 + length (signed_decimal z)

    abbrev one : List ℕ
    one = separator ∷ signed_decimal z

    pub has_room : length text ≤ length old → next ≤ length mid
    has_room room =
        let front = length-append (take at mid) (others_text separator (z ∷ zs)) in
        let before = length-take-le at mid so.within in
        omega (arith, room, so.same_length, front, before, ap length so.written, length_left z zs)

    pub turn : (end : ℕ) (new : List ℕ) → end ≡ next → next ≤ length mid
        → new ≡ splice mid at end one → IsListSoFar separator text zs end old new
    turn end new is within written =
        let first : end ≡ at + length one = omega (arith, is) in
        let inside : end ≤ length mid = omega (arith, is, within) in
        let none : end + 0 ≡ end = omega arith in
        let onward : at + (end - at) ≡ end = omega (arith, is) in
        let rest : drop end mid ≡ drop end old =
        subst (λ (k : ℕ). drop k mid ≡ drop k old) onward
        (sym (drop-drop (end - at) at mid) ∙ ap (drop (end - at)) so.rest
        ∙ drop-drop (end - at) at old) in
        record {
          written = ap (λ (t : List ℕ). t ++ others_text separator zs)
              (ap (take end) written ∙ take_spliced mid one at end first inside)
              ∙ append_assoc (take at mid) one (others_text separator zs)
              ∙ ap (λ (t : List ℕ). take at mid ++ t) (sym (one_left z zs))
              ∙ so.written;
          rest = ap (drop end) written
              ∙ rw none at (drop_spliced mid one at end first inside 0) ∙ rest;
          within = omega (
            arith,
            ap length written,
            length_spliced mid one at end first inside,
            inside,
          );
          same_length = ap length written ∙ length_spliced mid one at end first inside
              ∙ so.same_length;
        }

  pub turns_end : (text : List ℕ) (at : ℕ) (old new : List ℕ)
      → IsListSoFar separator text [] at old new → take at new ≡ text
  turns_end text at old new so =
      sym (append-nil (take at new)) ∙ ap (λ (t : List ℕ). take at new ++ t) (sym none_left)
      ∙ so.written
