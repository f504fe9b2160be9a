-- What the kind of a language's literals promises.
use Rattle.std.proofs.Common.{◌≡◌, ℕ, ◌+◌, ◌≤◌, List, length, drop, refl, sym, ap, ◌∙◌, add_assoc, arith}
use Rattle.std.specs.Prelude.{ℤ, Result, Ok, Err}
use Rattle.digit_languages.specs.declared.language.Language.{Language}
use Rattle.digit_languages.specs.declared.literal.Literal.{Literal}
use Rattle.digit_languages.specs.declared.literal.LanguageError.{LanguageError}
use Rattle.digit_languages.specs.declared.literal.LanguageError.TheVariants.{Empty, Overflow, Zero}
use Rattle.digit_languages.specs.Follows.{AreSameBefore, is_literal_byte}
use Rattle.digit_languages.specs.Literals.{literal_at, none_at, position, typed}
use Rattle.digit_languages.proofs.BothSides.{moved_literal}
use Rattle.digit_languages.proofs.WhatFollows.{same_literal}
use Rattle.digit_pieces.specs.Languages.{language_later, read_later}
use Rattle.digit_pieces.specs.Moves.{IsFresh, outcome_later}
use Rattle.digit_pieces.specs.Laws.FormEnds.{EndsLow, literal_low}
use Rattle.digit_pieces.specs.Laws.NoBytes.{same_place}

pub literal_follows : (l : Language) (most : ℕ) (one other : List ℕ) (at start : ℕ)
    → AreSameBefore (is_literal_byte l) one other at → start ≤ at
    → typed (literal_at l one start most) ≡ typed (literal_at l other start most)
literal_follows l most one other at start upto from =
    ap typed (same_literal l one other at upto start from most)

typed_later : (by : ℕ) (read : Result Literal LanguageError)
    → typed (read_later by read) ≡ outcome_later language_later by (typed read)
typed_later by (Ok read) = refl
typed_later by (Err error) = refl

pub literal_precedes : (l : Language) (most : ℕ) (text : List ℕ) (from at : ℕ)
    → from + at ≤ length text → IsFresh (is_literal_byte l) text from
    → typed (literal_at l text (from + at) most)
    ≡ outcome_later language_later from (typed (literal_at l (drop from text) at most))
literal_precedes l most text from at within fresh =
    ap typed (moved_literal l text from (omega arith) fresh at most)
    ∙ typed_later from (literal_at l (drop from text) at most)

ends_by : (text : List ℕ) (x : ℤ) (end : ℕ) (read : Result Literal LanguageError)
    → EndsLow text read → typed read ≡ Ok (x, end) → end ≤ length text
ends_by text x end (Ok read) low is =
    let same : read.end ≡ end = ap end_of is in rw same at low
  where
    end_of : Result (ℤ × ℕ) LanguageError → ℕ
    end_of (Ok both) = both.1
    end_of (Err error) = 0
ends_by text x end (Err error) low is = cc

pub literal_ends : (l : Language) (most : ℕ) (text : List ℕ) (start end : ℕ) (x : ℤ)
    → typed (literal_at l text start most) ≡ Ok (x, end) → end ≤ length text
literal_ends l most text start end x is =
    ends_by text x end (literal_at l text start most) (literal_low text l start most) is

pub language_later_at : (by : ℕ) (e : LanguageError)
    → position (language_later by e) ≡ by + position e
language_later_at by (Empty at) = refl
language_later_at by (Overflow at) = refl
language_later_at by (Zero at) = refl

pub language_none_later : (by place : ℕ) (e : LanguageError)
    → none_at (by + place) (language_later by e) ≡ none_at place e
language_none_later by place (Empty at) = same_place by at place
language_none_later by place (Overflow at) = refl
language_none_later by place (Zero at) = refl

pub language_later_more : (by more : ℕ) (e : LanguageError)
    → language_later by (language_later more e) ≡ language_later (by + more) e
language_later_more by more (Empty at) = ap Empty (sym (add_assoc by more at))
language_later_more by more (Overflow at) = ap Overflow (sym (add_assoc by more at))
language_later_more by more (Zero at) = ap Zero (sym (add_assoc by more at))
