-- Two tests that agree on each byte.
use Rattle.std.proofs.Common.{◌≡◌, ℕ, ◌<◌, Bool, false, List, map, sym, ◌∙◌, ap, arith}
use Rattle.std.specs.Prelude.{get_or}
use Rattle.std.specs.List.{range_with_len}
use Rattle.std.proofs.lemmas.List.FromFn.{get_or-map-range_with_len}
use Rattle.lexical_digits.specs.ByteSet.{accepts}
use Rattle.lexical_digits.specs.declared.ops.ByteSet.{ByteSet}
use Rattle.digit_values.specs.Bytes.{HasBytes}

pub all_bytes : (one other : ℕ → Bool)
    → map one (range_with_len 0 256) ≡ map other (range_with_len 0 256)
    → (byte : ℕ) → byte < 256 → one byte ≡ other byte
all_bytes one other same byte l =
    sym (get_or-map-range_with_len one 0 256 byte byte false l (omega arith))
    ∙ ap (λ (answers : List Bool). get_or answers byte false) same
    ∙ get_or-map-range_with_len other 0 256 byte byte false l (omega arith)

pub has_bytes : (set : ByteSet) (test : ℕ → Bool)
    → map (accepts set) (range_with_len 0 256) ≡ map test (range_with_len 0 256)
    → HasBytes set test
has_bytes set test same = record { has = all_bytes (accepts set) test same }
