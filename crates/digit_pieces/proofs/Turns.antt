-- One turn of a loop that reads a piece into a slice.
pub use Rattle.digit_pieces.specs.Pieces.{SoFar}
use Rattle.std.proofs.Common.{◌≡◌, ℕ, suc, ◌+◌, ◌-◌, ◌<◌, ◌≤◌, List, [], ◌∷◌, ◌++◌, map, length, take, drop, refl, sym, ◌∙◌, arith}
use Rattle.std.specs.Prelude.{Bool, true, false, Result, Ok, Err, set}
use Rattle.std.proofs.lemmas.List.{take_more_set, drop-set-lt, drop-drop, length-set, map-append, append_assoc, length-map, length-take-le, append-nil}
use Rattle.digit_literals.specs.declared.list.Gap.{Gap}
use Rattle.digit_literals.specs.Lists.{past_blanks, no_number}
use Rattle.digit_pieces.specs.declared.piece.PieceEnd.{PieceEnd}
use Rattle.digit_pieces.specs.declared.piece.PieceEnd.TheVariants.{More, Full, Over}
use Rattle.digit_pieces.specs.Pieces.{PieceNumbers, of_list, is_sure, is_parted, next_start, piece_at, FillsPiece}

module _ {V A E : Type 0} (value : V → A) (one : ℕ → Result (A × ℕ) E) (none_at : ℕ → E → Bool)
    (gap : Gap) (text : List ℕ) (sure : ℕ) (is_last : Bool) where
  abbrev of : ℕ → ℕ → PieceNumbers A E
  of room at = piece_at one none_at gap text sure is_last room at

  abbrev surely : ℕ → Bool
  surely at = is_sure is_last sure at

  abbrev parted : ℕ → Bool
  parted end = is_parted gap text is_last end

  -- why the list ends at an error
  abbrev none_end : ℕ → E → PieceEnd E
  none_end place error = of_list (no_number gap place (none_at place error) error)

  -- ---- one step of the definition

  full_is : (at : ℕ) → of 0 at ≡ ([], Full at)
  unfolding piece_at
  full_is at = refl

  asks_is : (room at : ℕ) → surely (past_blanks gap text at) ≡ false
      → of (suc room) at ≡ ([], More (past_blanks gap text at))
  unfolding piece_at
  asks_is room at is = rw is refl

  none_is : (room at : ℕ) (error : E) → surely (past_blanks gap text at) ≡ true
      → one (past_blanks gap text at) ≡ Err error → of (suc room) at
      ≡ ([], none_end (past_blanks gap text at) error)
  unfolding piece_at
  none_is room at error here is = rw (here, is) refl

  touches_is : (room at end : ℕ) (x : A) → surely (past_blanks gap text at) ≡ true
      → one (past_blanks gap text at) ≡ Ok (x, end) → parted end ≡ false
      → of (suc room) at ≡ ([], More (past_blanks gap text at))
  unfolding piece_at
  touches_is room at end x here is touches = rw (here, is, touches) refl

  next_is : (room at end next : ℕ) (x : A) → surely (past_blanks gap text at) ≡ true
      → one (past_blanks gap text at) ≡ Ok (x, end) → parted end ≡ true
      → next_start gap text end ≡ Ok next
      → of (suc room) at ≡ (x ∷ (of room next).0, (of room next).1)
  unfolding piece_at
  next_is room at end next x here is apart more = rw (here, is, apart, more) refl

  over_is : (room at end over : ℕ) (x : A) → surely (past_blanks gap text at) ≡ true
      → one (past_blanks gap text at) ≡ Ok (x, end) → parted end ≡ true
      → next_start gap text end ≡ Err over → of (suc room) at ≡ (x ∷ [], Over over)
  unfolding piece_at
  over_is room at end over x here is apart more = rw (here, is, apart, more) refl

  -- ---- a loop

  abbrev So : ℕ → ℕ → ℕ → List V → List V → Type 0
  So = SoFar value one none_at gap text sure is_last

  pub turns_begin : (start : ℕ) (old : List V) → So start 0 start old old
  turns_begin start old = let none : length old - 0 ≡ length old = omega arith in record {
    numbers = rw none refl;
    end = rw none refl;
    rest = refl;
    same_length = refl;
  }

  -- so many numbers, and no more
  finish : (start k : ℕ) (end : PieceEnd E) (old new : List V) → k ≤ length old
      → map value (take k new) ≡ (of (length old) start).0 → end ≡ (of (length old) start).1
      → drop k new ≡ drop k old → length new ≡ length old
      → FillsPiece value (of (length old) start) (record { count = k; end = end }) old new
  finish start k end old new room numbers ended rest same =
      let fits : k ≤ length new = omega (arith, room, same) in
      record {
        numbers = numbers;
        count = sym (rw (← numbers, length-map (take k new) value) (length-take-le k new fits));
        end = ended;
        rest = rest;
        same_length = same;
      }

  module _ (start i at : ℕ) (old new : List V) (so : So start i at old new) where
    -- the slice is full
    pub turns_full : i ≡ length old
        → FillsPiece value (of (length old) start) (record { count = i; end = Full at }) old new
    turns_full full =
        let none : length old - i ≡ 0 = omega (arith, full) in
        finish start i (Full at) old new (omega (arith, full))
        (sym (append-nil (map value (take i new))) ∙ rw (none, full_is at) at so.numbers)
        (rw (none, full_is at) at so.end) so.rest so.same_length

    module _ (room : i < length old) where
      left : length old - i ≡ suc (length old - (i + 1))
      left = omega (arith, room)

      within : i < length new
      within = omega (arith, room, so.same_length)

      -- no number more
      no_more : (end : PieceEnd E) → of (suc (length old - (i + 1))) at ≡ ([], end)
          → FillsPiece value (of (length old) start) (record { count = i; end = end }) old new
      no_more end is =
          finish start i end old new (omega (arith, room))
          (sym (append-nil (map value (take i new))) ∙ rw (left, is) at so.numbers)
          (rw (left, is) at so.end) so.rest so.same_length

      pub turns_ask : surely (past_blanks gap text at) ≡ false → FillsPiece value
          (of (length old) start)
          (record { count = i; end = More (past_blanks gap text at) }) old new
      turns_ask is = no_more (More (past_blanks gap text at)) (asks_is (length old - (i + 1)) at is)

      pub turns_none : (error : E) → surely (past_blanks gap text at) ≡ true
          → one (past_blanks gap text at) ≡ Err error
          → FillsPiece value (of (length old) start) (record {
            count = i;
            end = none_end (past_blanks gap text at) error;
          }) old new
      turns_none error here is =
          no_more (none_end (past_blanks gap text at) error)
          (none_is (length old - (i + 1)) at error here is)

      pub turns_touch : (end : ℕ) (x : A) → surely (past_blanks gap text at) ≡ true
          → one (past_blanks gap text at) ≡ Ok (x, end) → parted end ≡ false → FillsPiece value
          (of (length old) start)
          (record { count = i; end = More (past_blanks gap text at) }) old new
      turns_touch end x here is touches =
          no_more (More (past_blanks gap text at))
          (touches_is (length old - (i + 1)) at end x here is touches)

      module _ (x : V) where
        pushed : map value (take (i + 1) (set new i x)) ≡ map value (take i new) ++ value x ∷ []
        pushed = rw (take_more_set new i x within, map-append value (take i new) (x ∷ [])) refl

        -- the numbers so far and others
        pushed_on : (others : List A) → map value (take (i + 1) (set new i x)) ++ others
            ≡ map value (take i new) ++ value x ∷ others
        pushed_on others =
            rw (pushed, append_assoc (map value (take i new)) (value x ∷ []) others) refl

        rest_after : drop (i + 1) (set new i x) ≡ drop (i + 1) old
        rest_after = drop-set-lt (i + 1) new i x (omega arith)
            ∙ sym (drop-drop 1 i new) ∙ rw so.rest (drop-drop 1 i old)

        same_after : length (set new i x) ≡ length old
        same_after = length-set new i x ∙ so.same_length

        -- a number, and a separator after it
        pub turns_next : (end next : ℕ) → surely (past_blanks gap text at) ≡ true
            → one (past_blanks gap text at) ≡ Ok (value x, end) → parted end ≡ true
            → next_start gap text end ≡ Ok next → So start (i + 1) next old (set new i x)
        turns_next end next here is apart more =
            let room' : ℕ = length old - (i + 1) in
            record {
              numbers = pushed_on (of room' next).0
                  ∙ rw (left, next_is room' at end next (value x) here is apart more)
                  at so.numbers;
              end = rw (left, next_is room' at end next (value x) here is apart more) at so.end;
              rest = rest_after;
              same_length = same_after;
            }

        -- a number, and no separator after it
        pub turns_over : (end over : ℕ) → surely (past_blanks gap text at) ≡ true
            → one (past_blanks gap text at) ≡ Ok (value x, end) → parted end ≡ true
            → next_start gap text end ≡ Err over → FillsPiece value (of (length old) start)
            (record { count = i + 1; end = Over over }) old (set new i x)
        turns_over end over here is apart more =
            let room' : ℕ = length old - (i + 1) in
            finish start (i + 1) (Over over) old (set new i x) (omega (arith, room))
            (pushed ∙ rw (left, over_is room' at end over (value x) here is apart more)
            at so.numbers)
            (rw (left, over_is room' at end over (value x) here is apart more) at so.end) rest_after
            same_after

-- to be named in an attribute
pub ruleset turns =
    (turns_begin, turns_full, turns_ask, turns_none, turns_touch, turns_next, turns_over)
