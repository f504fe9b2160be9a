-- The digits of a fraction, one after the other, until the number is too large or too fine.
use Rattle.std.proofs.Common.{◌≡◌, ℕ, suc, ◌+◌, ◌-◌, ◌*◌, ◌^◌, ◌<◌, ◌≤◌, Bool, true, false, List, [], ◌∷◌, ◌++◌, length, take, drop, get_or, refl, sym, ◌∙◌, arith, length-append}
use Rattle.std.specs.Prelude.{◌/◌, ◌==◌, nat_le}
use Rattle.std.specs.Char.{is_ascii_digit, digit_value}
use Rattle.std.specs.List.{filter, prefix_len, range_with_len}
use Rattle.std.specs.Str.Parse.{digits_value_after}
use Rattle.std.proofs.Math.Nat.{le-div_iff_mul-le}
use Rattle.std.proofs.Math.Seq.{take-nil, drop-nil}
use Rattle.std.proofs.lemmas.Bool.Decides.{nat_tests}
use Rattle.std.proofs.lemmas.List.{append-nil, take_all, drop_all, take-append-le, drop-append-le}
use Rattle.std.proofs.lemmas.List.Elements.{filter_more}
use Rattle.std.proofs.lemmas.List.Folds.{list_all-append}
use Rattle.digit_amounts.specs.Scaled.{first_value, scaled_value, is_exact, fits, fitting}

value_push : (n : ℕ) (ds : List ℕ) (c : ℕ)
    → digits_value_after 10 n (ds ++ c ∷ []) ≡ digits_value_after 10 n ds * 10 + digit_value c
value_push n [] c = refl
value_push n (d ∷ ds) c = value_push (n * 10 + digit_value d) ds c

-- ---- one digit more

module _ (whole places : ℕ) (ds : List ℕ) (d : ℕ) where
  abbrev more : List ℕ
  more = ds ++ d ∷ []

  one_more : length more ≡ length ds + 1
  one_more = length-append {A = ℕ} ds (d ∷ [])

  -- a place is left for it
  place_value : length ds < places
      → first_value whole places more ≡ first_value whole places ds * 10 + digit_value d
  unfolding first_value
  place_value l =
      rw (
        take_all {A = ℕ} places more (omega (arith, l, one_more)),
        take_all {A = ℕ} places ds (omega (arith, l)),
      )
      (value_push whole ds d)

  place_exact : length ds < places → is_exact more places ≡ true
  place_exact l = rw (drop_all {X = ℕ} places more (omega (arith, l, one_more))) refl

  -- none is left
  last_value : places ≤ length ds → first_value whole places more ≡ first_value whole places ds
  unfolding first_value
  last_value l = rw (take-append-le places ds (d ∷ []) l) refl

  last_exact : places ≤ length ds → is_exact ds places ≡ true → is_exact more places ≡ (d == 48)
  last_exact l exact =
      let all = list_all-append (λ e. e == 48) (drop places ds) (d ∷ []) in
      rw (drop-append-le places ds (d ∷ []) l, all, exact) (grind arith)

-- ---- numbers of which a test holds

prefix_one : (p : ℕ → Bool) (n a : ℕ) → p a ≡ true
    → prefix_len p (range_with_len a (suc n)) ≡ 1 + prefix_len p (range_with_len (a + 1) n)
prefix_one p n a is = rw is refl

prefix_none : (p : ℕ → Bool) (n a : ℕ) → p a ≡ false
    → prefix_len p (range_with_len a (suc n)) ≡ 0
prefix_none p n a is = rw is refl

-- ---- a loop over the bytes

module _ (whole places most : ℕ) (bytes : List ℕ) where
  abbrev read : ℕ → List ℕ
  read at = filter is_ascii_digit (take at bytes)

  abbrev fits_at : ℕ → Bool
  fits_at n = fits whole places most (read (n + 1))

  -- what it knows at a position
  pub record IsFitting (value left at : ℕ) : Type 0 where
    pub is : value ≡ first_value whole places (read at)
    pub still : left ≡ places - length (read at)
    pub exact : is_exact (read at) places ≡ true
    pub low : value * 10 ^ left ≤ most
    pub rest : at + prefix_len fits_at (range_with_len at (length bytes - at))
        ≡ fitting whole places most bytes

  pub none_read : whole * 10 ^ places ≤ most → IsFitting whole places 0
  unfolding first_value
  none_read l = record {
    is = rw (take-nil {A = ℕ} places) refl;
    still = omega arith;
    exact = rw (drop-nil {A = ℕ} places) refl;
    low = l;
    rest = let all : length bytes - 0 ≡ length bytes = omega arith in rw all (omega arith);
  }

  module _ (value left at : ℕ) (h : IsFitting value left at) (l : at < length bytes) where
    abbrev b : ℕ
    b = get_or bytes at 0

    one_left : length bytes - at ≡ suc (length bytes - (at + 1))
    one_left = omega (arith, l)

    -- a value and the places left with one byte more, where all digits fit
    next : (v n : ℕ) → v ≡ first_value whole places (read (at + 1))
        → n ≡ places - length (read (at + 1)) → is_exact (read (at + 1)) places ≡ true
        → v * 10 ^ n ≤ most → IsFitting v n (at + 1)
    next v n is still exact low =
        let scaled : scaled_value whole places (read (at + 1)) ≤ most =
        rw (← is, ← still) low in
        let small : nat_le (scaled_value whole places (read (at + 1))) most ≡ true =
        grind (arith, nat_tests, scaled) in
        let yes : fits_at at ≡ true = rw (small, exact) refl in
        record {
          is = is;
          still = still;
          exact = exact;
          low = low;
          rest = let some = prefix_one fits_at (length bytes - (at + 1)) at yes in
              omega (arith, rw one_left at h.rest, some);
        }

    -- where one doesn't, this is the first
    stops : fits_at at ≡ false → at ≡ fitting whole places most bytes
    stops miss =
        let none = prefix_none fits_at (length bytes - (at + 1)) at miss in
        omega (arith, rw one_left at h.rest, none)

    all_but : read (at + 1) ≡ read at ++ filter is_ascii_digit (b ∷ [])
    all_but = grind (arith, filter_more is_ascii_digit bytes at 0 l)

    pub passes_other : is_ascii_digit b ≡ false → IsFitting value left (at + 1)
    passes_other other =
        let same : read (at + 1) ≡ read at = grind (arith, all_but, other, append-nil {A = ℕ}) in
        next value left (rw same h.is) (rw same h.still) (rw same h.exact) h.low

    module _ (digit : is_ascii_digit b ≡ true) where
      with_digit : read (at + 1) ≡ read at ++ b ∷ []
      with_digit = grind (arith, all_but, digit)

      still_more : length (read (at + 1)) ≡ length (read at) + 1
      still_more = rw with_digit (one_more whole places (read at) b)

      -- a place is left
      module _ (some : 0 < left) where
        room : length (read at) < places
        room = omega (arith, some, h.still)

        value_there : first_value whole places (read (at + 1)) ≡ value * 10 + digit_value b
        value_there = rw (with_digit, h.is) (place_value whole places (read at) b room)

        exact_there : is_exact (read (at + 1)) places ≡ true
        exact_there = rw with_digit (place_exact whole places (read at) b room)

        pub passes_place : (v : ℕ) → v ≡ value * 10 + digit_value b → v * 10 ^ (left - 1) ≤ most
            → IsFitting v (left - 1) (at + 1)
        passes_place v is low =
            next v (left - 1) (is ∙ sym value_there) (omega (arith, h.still, still_more))
            exact_there low

        pub stops_place : most < (value * 10 + digit_value b) * 10 ^ (left - 1)
            → at ≡ fitting whole places most bytes
        stops_place high =
            let less : places - length (read (at + 1)) ≡ left - 1 =
            omega (arith, h.still, still_more) in
            let scaled : most < scaled_value whole places (read (at + 1)) =
            rw (value_there, less) high in
            let large : nat_le (scaled_value whole places (read (at + 1))) most ≡ false =
            grind (arith, nat_tests, scaled) in
            stops (rw large refl)

      -- none is left
      module _ (none : left ≡ 0) where
        full : places ≤ length (read at)
        full = omega (arith, none, h.still)

        exact_last : is_exact (read (at + 1)) places ≡ (b == 48)
        exact_last = rw with_digit (last_exact whole places (read at) b full h.exact)

        pub passes_zero : (b == 48) ≡ true → IsFitting value (left - 1) (at + 1)
        passes_zero is_zero =
            let same = last_value whole places (read at) b full in
            let low : value * 10 ^ (left - 1) ≤ most =
            let e : left - 1 ≡ left = omega (arith, none) in rw e h.low in
            next value (left - 1) (h.is ∙ sym (rw with_digit same))
            (omega (arith, none, h.still, still_more)) (exact_last ∙ is_zero) low

        pub stops_last : (b == 48) ≡ false → at ≡ fitting whole places most bytes
        stops_last other = stops (grind (arith, nat_tests, exact_last, other))

-- ---- an integer that is small enough

pub tens_fit : (whole most tens : ℕ) → 0 < tens → whole ≤ most / tens → whole * tens ≤ most
tens_fit whole most tens some small = (le-div_iff_mul-le some).0 small
