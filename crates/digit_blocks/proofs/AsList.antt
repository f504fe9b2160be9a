-- A block that may end where it ends is read as a list: where that is over at its end, the piece
-- asks for more.
use Rattle.std.proofs.Common.{◌≡◌, ℕ, zero, suc, ◌<◌, ◌≤◌, Bool, true, false, List, [], length, refl, ap, ◌∙◌, arith}
use Rattle.std.specs.Prelude.{Result, Ok, Err, IfOk, ◌&&◌, nat_lt, if◌then◌else◌}
use Rattle.std.proofs.lemmas.Bool.Decides.{nat_tests}
use Rattle.digit_literals.specs.declared.list.Gap.{Gap}
use Rattle.digit_literals.specs.declared.list.ListEnd.{ListEnd}
use Rattle.digit_literals.specs.declared.list.ListEnd.TheVariants as lists
use Rattle.digit_literals.specs.Lists.{Numbers, past_blanks, before}
use Rattle.digit_pieces.specs.Cuts.{sure_end}
use Rattle.digit_pieces.specs.Pieces.{PieceNumbers, of_list, and_others, is_parted, next_start, after_number, from_number, piece_at, after_of_whole, from_of_whole, whole_at}
use Rattle.digit_pieces.specs.declared.piece.PieceEnd.TheVariants.{More, Full, Over, Fault}
use Rattle.digit_pieces.specs.Texts.{IsApart}
use Rattle.digit_pieces.proofs.Blanks.{blanks_within}
use Rattle.digit_pieces.proofs.SureEnds.{sure_within}
use Rattle.digit_pieces.proofs.Moved.{start_within}
use Rattle.digit_pieces.proofs.Theorem.{AreNumbers}
use Rattle.digit_blocks.specs.Blocks.{EndsApart, HasNoneAtEnd, as_list}
use Rattle.digit_blocks.proofs.Alone.{parted, sure_all}

module _ {A E : Type 0} where
  -- with a number more
  others_as : (x : A) (read : PieceNumbers A E)
      → as_list (and_others x read) ≡ before x (as_list read)
  others_as x (numbers, More at) = refl
  others_as x (numbers, Full at) = refl
  others_as x (numbers, Over at) = refl
  others_as x (numbers, Fault error) = refl

  none_as : (place : ℕ) (error : E) (is_over : Bool)
      → (let none : ListEnd E = if is_over then lists.Over place else lists.Fault error in
      let xs : List A = [] in as_list (xs, of_list none) ≡ (xs, none))
  none_as place error true = refl
  none_as place error false = refl

module _ {A E : Type 0} (one : List ℕ → ℕ → Result (A × ℕ) E) (none_at : ℕ → E → Bool)
    (later : ℕ → E → E) (has : ℕ → Bool) (gap : Gap)
    (are : AreNumbers one none_at later has) (apart : IsApart has gap)
    (trails : gap.may_trail ≡ true) (block : List ℕ) (ends : EndsApart gap block)
    (none : HasNoneAtEnd one none_at block) where
  abbrev of_piece : ℕ → ℕ → PieceNumbers A E
  of_piece room at = piece_at (one block) none_at gap block (sure_end has block) false room at

  abbrev of_whole : ℕ → ℕ → Numbers A E
  of_whole room at = whole_at (one block) none_at gap block room at

  -- where the block ends
  at_end : (place : ℕ) (others : ℕ → Numbers A E) → place ≡ length block
      → (let xs : List A = [] in (xs, lists.Over place))
      ≡ from_of_whole (one block) none_at gap block others place (one block place)
  at_end place others e =
      let (error, is, there) = none in
      rw (e, is, trails, there) refl

  pub block_as : (room at : ℕ) → at ≤ length block
      → as_list (of_piece room at) ≡ of_whole room at
  unfolding piece_at whole_at
  block_as zero at low = refl
  block_as (suc room) at low =
      by_sure (λ next. block_as room next) (nat_lt place (sure_end has block)) refl
    where
      place : ℕ
      place = past_blanks gap block at

      here : place ≤ length block
      here = blanks_within gap block at low

      after : ((next : ℕ) → next ≤ length block
          → as_list (of_piece room next) ≡ of_whole room next)
          → (x : A) (next : Result ℕ ℕ) → IfOk next (λ n. n ≤ length block)
          → as_list (after_number (one block) none_at gap block (sure_end has block) false
          (of_piece room) x next)
          ≡ after_of_whole (one block) none_at gap block (of_whole room) x next
      after same x (Ok next) is = others_as x (of_piece room next) ∙ ap (before x) (same next is)
      after same x (Err over) is = refl

      by_parted : ((next : ℕ) → next ≤ length block
          → as_list (of_piece room next) ≡ of_whole room next)
          → (x : A) (end : ℕ) (is_apart : Bool) → place < length block
          → one block place ≡ Ok (x, end)
          → is_parted gap block false end ≡ is_apart
          → as_list (if is_apart then after_number (one block) none_at gap block
          (sure_end has block) false (of_piece room) x (next_start gap block end)
          else ([], More place))
          ≡ after_of_whole (one block) none_at gap block (of_whole room) x
          (next_start gap block end)
      by_parted same x end true l is part =
          let ended = are.ends block place end x here is in
          after same x (next_start gap block end) (start_within gap block end ended)
      by_parted same x end false l is part =
          let always = parted one none_at later has gap are apart block ends place end x l is in
          absurd (cc)

      by_read : ((next : ℕ) → next ≤ length block
          → as_list (of_piece room next) ≡ of_whole room next)
          → (read : Result (A × ℕ) E) → place < length block → one block place ≡ read
          → as_list (from_number (one block) none_at gap block (sure_end has block) false
          (of_piece room) place read)
          ≡ from_of_whole (one block) none_at gap block (of_whole room) place read
      by_read same (Ok (x, end)) l is =
          by_parted same x end (is_parted gap block false end) l is refl
      by_read same (Err error) l is =
          none_as place error (gap.may_trail && none_at place error)

      by_sure : ((next : ℕ) → next ≤ length block
          → as_list (of_piece room next) ≡ of_whole room next)
          → (is_sure : Bool) → nat_lt place (sure_end has block) ≡ is_sure
          → as_list (if is_sure then from_number (one block) none_at gap block
          (sure_end has block) false (of_piece room) place (one block place)
          else ([], More place))
          ≡ from_of_whole (one block) none_at gap block (of_whole room) place (one block place)
      by_sure same true is =
          let l : place < sure_end has block = grind (arith, nat_tests, is) in
          by_read same (one block place) (omega (arith, l, sure_within has block)) refl
      by_sure same false is =
          let l : sure_end has block ≤ place = grind (arith, nat_tests, is) in
          let all = sure_all one none_at later has gap are apart block ends in
          at_end place (of_whole room) (omega (arith, l, all, here))
