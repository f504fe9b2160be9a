-- Rust's integer literals with the name of a type.
use Rattle.std.specs.Prelude.{◌≡◌, ℕ, ◌-◌, ◌^◌, ◌<◌, ◌≤◌, if◌then◌else◌, List, drop, codes, bytes_eq, Option, Some, None, Ok, Err}
use Rattle.digits.specs.Languages.{RUST}
use Rattle.digits.specs.Words.{Literal, literal_at}
use Rattle.digit_uses.specs.declared.literal.Suffix.{Suffix}
use Rattle.digit_uses.specs.declared.literal.Suffix.TheVariants.{Absent, U8, U16, U32, U64, U128}
use Rattle.digit_uses.specs.declared.literal.LiteralFault.{LiteralFault}
use Rattle.digit_uses.specs.declared.literal.LiteralFault.TheVariants.{Number, Name, Range}

-- the type that a name says
abbrev pub suffix_of : List ℕ → Option Suffix
suffix_of name =
    if bytes_eq name (codes "") then Some Absent
    else if bytes_eq name (codes "u8") then Some U8
    else if bytes_eq name (codes "u16") then Some U16
    else if bytes_eq name (codes "u32") then Some U32
    else if bytes_eq name (codes "u64") then Some U64
    else if bytes_eq name (codes "u128") then Some U128
    else None

-- its greatest value
abbrev pub most_of : Suffix → ℕ
most_of Absent = 2 ^ 128 - 1
most_of U8 = 2 ^ 8 - 1
most_of U16 = 2 ^ 16 - 1
most_of U32 = 2 ^ 32 - 1
most_of U64 = 2 ^ 64 - 1
most_of U128 = 2 ^ 128 - 1

module _ (text : List ℕ) where
  -- the text begins with this literal
  abbrev pub Begins : Literal → Type 0
  Begins read = literal_at RUST text 0 (2 ^ 128 - 1) ≡ Ok read

  -- the text is this literal and the name of its type
  pub record IsTyped (read : Literal) (suffix : Suffix) : Type 0 where
    pub literal : Begins read
    pub named : suffix_of (drop read.end text) ≡ Some suffix
    pub fits : read.value ≤ most_of suffix

  -- what follows the literal names no type
  pub record IsUnnamed (read : Literal) : Type 0 where
    pub literal : Begins read
    pub unnamed : suffix_of (drop read.end text) ≡ None

  -- the type hasn't the literal's value
  pub record IsOutOfRange (read : Literal) (suffix : Suffix) : Type 0 where
    pub literal : Begins read
    pub named : suffix_of (drop read.end text) ≡ Some suffix
    pub exceeds : most_of suffix < read.value

  -- why the text isn't one
  abbrev pub IsTypedFault : LiteralFault → Type 0
  IsTypedFault (Number error) = literal_at RUST text 0 (2 ^ 128 - 1) ≡ Err error
  IsTypedFault (Name read) = IsUnnamed read
  IsTypedFault (Range read suffix) = IsOutOfRange read suffix
