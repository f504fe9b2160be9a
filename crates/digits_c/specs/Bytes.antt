-- Blanks, and bytes around a list, as C has them.
use Rattle.std.specs.Prelude.{ℕ, ◌+◌, nat_lt, if◌then◌else◌, List, length}
use Rattle.digits.specs.Bytes.{BLANKS}
use Rattle.digits.specs.Words.{has_byte, past_bytes}
use Rattle.digits_c.specs.declared.outcome.Outcome.{Outcome}
use Rattle.digits_c.specs.declared.outcome.TheConstants.{BAD_START, CLOSED, OTHER_BYTE}
use Rattle.digits_c.specs.Outcomes.{done, fault}

module _ (text : List ℕ) where
  -- the first position from here on without a blank, or the end; a later one stays
  abbrev pub past_blanks : ℕ → ℕ
  past_blanks start = if nat_lt (length text) start then start else past_bytes text start BLANKS

  -- what a byte is, past any blanks: the one that is wanted, or another
  abbrev pub byte_from : ℕ → ℕ → Outcome
  byte_from start byte =
      if nat_lt (length text) start then fault BAD_START start
      else if has_byte text (past_blanks start) byte then done (past_blanks start + 1)
      else fault OTHER_BYTE (past_blanks start)

  -- what follows the byte that opens a list: past any blanks the one that closes it, or a number
  abbrev pub inside : ℕ → ℕ → Outcome
  inside at closing =
      if has_byte text (past_blanks at) closing then fault CLOSED (past_blanks at + 1)
      else done (past_blanks at)

  -- a list that begins here, past any blanks
  abbrev pub list_from : ℕ → ℕ → ℕ → Outcome
  list_from start opening closing =
      if nat_lt (length text) start then fault BAD_START start
      else if has_byte text (past_blanks start) opening
      then inside (past_blanks start + 1) closing
      else fault OTHER_BYTE (past_blanks start)
