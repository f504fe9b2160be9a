-- With room enough, how much there is makes no difference.
use Rattle.std.proofs.Common.{◌≡◌, ℕ, zero, suc, ◌<◌, Bool, true, false, List, [], length, refl, sym, ap, arith}
use Rattle.std.specs.Prelude.{Result, Ok, Err, nat_lt, if◌then◌else◌}
use Rattle.digit_literals.specs.declared.list.Gap.{Gap}
use Rattle.digit_literals.specs.declared.list.ListEnd.TheVariants as lists
use Rattle.digit_literals.specs.Lists.{Numbers, past_blanks}
use Rattle.digit_pieces.specs.declared.piece.PieceEnd.TheVariants.{More}
use Rattle.digit_pieces.specs.Pieces.{PieceNumbers, full_past, is_parted, next_start, after_number, from_number, piece_at, after_of_whole, from_of_whole, whole_at}
use Rattle.digit_blocks.specs.Blocks.{HasRoom, HasRoomForAll}

module _ {A E : Type 0} (one : ℕ → Result (A × ℕ) E) (none_at : ℕ → E → Bool) (gap : Gap)
    (text : List ℕ) (sure : ℕ) where
  abbrev of : ℕ → ℕ → PieceNumbers A E
  of room at = piece_at one none_at gap text sure false room at

  pub piece_room : (room other at : ℕ) → HasRoom (of room at).1
      → length (of room at).0 < other → of other at ≡ of room at
  unfolding piece_at
  piece_room zero other at done few = absurd done
  piece_room (suc room) zero at done few = absurd (omega arith)
  piece_room (suc room) (suc other) at done few =
      by_sure (λ next. piece_room room other next) (nat_lt place sure) done few
    where
      place : ℕ
      place = past_blanks gap text at

      after : ((next : ℕ) → HasRoom (of room next).1 → length (of room next).0 < other
          → of other next ≡ of room next) → (x : A) (next : Result ℕ ℕ)
          → HasRoom (after_number one none_at gap text sure false (of room) x next).1
          → length (after_number one none_at gap text sure false (of room) x next).0 < suc other
          → after_number one none_at gap text sure false (of other) x next
          ≡ after_number one none_at gap text sure false (of room) x next
      after same x (Ok next) done few = rw (same next done (omega (arith, few))) refl
      after same x (Err over) done few = refl

      by_parted : ((next : ℕ) → HasRoom (of room next).1 → length (of room next).0 < other
          → of other next ≡ of room next) → (x : A) (end : ℕ) (parted : Bool)
          → HasRoom (if parted then after_number one none_at gap text sure false (of room) x
          (next_start gap text end) else ([], More place)).1
          → length (if parted then after_number one none_at gap text sure false (of room) x
          (next_start gap text end) else ([], More place)).0 < suc other
          → (if parted then after_number one none_at gap text sure false (of other) x
          (next_start gap text end) else ([], More place))
          ≡ (if parted then after_number one none_at gap text sure false (of room) x
          (next_start gap text end) else ([], More place))
      by_parted same x end true done few = after same x (next_start gap text end) done few
      by_parted same x end false done few = refl

      by_read : ((next : ℕ) → HasRoom (of room next).1 → length (of room next).0 < other
          → of other next ≡ of room next) → (read : Result (A × ℕ) E)
          → HasRoom (from_number one none_at gap text sure false (of room) place read).1
          → length (from_number one none_at gap text sure false (of room) place read).0 < suc other
          → from_number one none_at gap text sure false (of other) place read
          ≡ from_number one none_at gap text sure false (of room) place read
      by_read same (Ok (x, end)) done few =
          by_parted same x end (is_parted gap text false end) done few
      by_read same (Err error) done few = refl

      by_sure : ((next : ℕ) → HasRoom (of room next).1 → length (of room next).0 < other
          → of other next ≡ of room next) → (is_sure : Bool)
          → HasRoom (if is_sure then from_number one none_at gap text sure false (of room) place
          (one place) else ([], More place)).1
          → length (if is_sure then from_number one none_at gap text sure false (of room) place
          (one place) else ([], More place)).0 < suc other
          → (if is_sure then from_number one none_at gap text sure false (of other) place
          (one place) else ([], More place))
          ≡ (if is_sure then from_number one none_at gap text sure false (of room) place
          (one place) else ([], More place))
      by_sure same true done few = by_read same (one place) done few
      by_sure same false done few = refl

module _ {A E : Type 0} (one : ℕ → Result (A × ℕ) E) (none_at : ℕ → E → Bool) (gap : Gap)
    (text : List ℕ) where
  abbrev all_of : ℕ → ℕ → Numbers A E
  all_of room at = whole_at one none_at gap text room at

  pub whole_room : (room other at : ℕ) → HasRoomForAll (all_of room at).1
      → length (all_of room at).0 < other → all_of other at ≡ all_of room at
  unfolding whole_at
  whole_room zero other at done few = absurd done
  whole_room (suc room) zero at done few = absurd (omega arith)
  whole_room (suc room) (suc other) at done few =
      by_read (λ next. whole_room room other next) (one place) done few
    where
      place : ℕ
      place = past_blanks gap text at

      after : ((next : ℕ) → HasRoomForAll (all_of room next).1 → length (all_of room next).0 < other
          → all_of other next ≡ all_of room next) → (x : A) (next : Result ℕ ℕ)
          → HasRoomForAll (after_of_whole one none_at gap text (all_of room) x next).1
          → length (after_of_whole one none_at gap text (all_of room) x next).0 < suc other
          → after_of_whole one none_at gap text (all_of other) x next
          ≡ after_of_whole one none_at gap text (all_of room) x next
      after same x (Ok next) done few = rw (same next done (omega (arith, few))) refl
      after same x (Err over) done few = refl

      by_read : ((next : ℕ) → HasRoomForAll (all_of room next).1
          → length (all_of room next).0 < other → all_of other next ≡ all_of room next)
          → (read : Result (A × ℕ) E)
          → HasRoomForAll (from_of_whole one none_at gap text (all_of room) place read).1
          → length (from_of_whole one none_at gap text (all_of room) place read).0 < suc other
          → from_of_whole one none_at gap text (all_of other) place read
          ≡ from_of_whole one none_at gap text (all_of room) place read
      by_read same (Ok (x, end)) done few = after same x (next_start gap text end) done few
      by_read same (Err error) done few = refl

  -- where the room was enough, blanks before `Full` make no difference
  pub same_unless_full : (read list : Numbers A E) → HasRoomForAll read.1
      → full_past gap text read ≡ full_past gap text list → list ≡ read
  same_unless_full (xs, lists.Full at) list done is = absurd done
  same_unless_full (xs, lists.Over at) (ys, lists.Full n) done is =
      let e : lists.Over at ≡ lists.Full (past_blanks gap text n) =
      ap (λ (read : Numbers A E). read.1) is in absurd (cc)
  same_unless_full (xs, lists.Over at) (ys, lists.Over n) done is = sym is
  same_unless_full (xs, lists.Over at) (ys, lists.Fault error) done is = sym is
  same_unless_full (xs, lists.Fault error) (ys, lists.Full n) done is =
      let e : lists.Fault error ≡ lists.Full (past_blanks gap text n) =
      ap (λ (read : Numbers A E). read.1) is in absurd (cc)
  same_unless_full (xs, lists.Fault error) (ys, lists.Over n) done is = sym is
  same_unless_full (xs, lists.Fault error) (ys, lists.Fault other) done is = sym is
