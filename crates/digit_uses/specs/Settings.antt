-- A register and its value, as `0x1f = -1.5e3`.
use Rattle.std.specs.Prelude.{◌≡◌, ℕ, ◌+◌, ◌-◌, ◌^◌, List, pos, Ok, true}
use Rattle.std.specs.Float.Ieee.{Float}
use Rattle.digits.specs.Constants.{BLANKS}
use Rattle.digits.specs.Forms.{JSON}
use Rattle.digits.specs.Languages.{RUST}
use Rattle.digits.specs.Words.{Number, binary64, float_in, has_byte, literal_at, number_of_at, past_bytes, typed}

-- the text begins with a register and a value, and the value ends here
pub record IsSetting (text : List ℕ) (register : ℕ) (value : Float) (end : ℕ) : Type 0 where
  pub at : ℕ
  pub start : ℕ
  pub number : Number Float
  pub literal : typed (literal_at RUST text 0 (2 ^ 16 - 1)) ≡ Ok (pos register, at)
  pub mark : has_byte text (past_bytes text at BLANKS) 61 ≡ true
  pub begins : start ≡ past_bytes text (past_bytes text at BLANKS + 1) BLANKS
  pub json : number_of_at JSON text start binary64 ≡ Ok (number, end)
  pub is : value ≡ float_in binary64 (λ x. x) number
