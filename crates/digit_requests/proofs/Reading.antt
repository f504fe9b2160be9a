-- What was read, at the end and past the limit.
use Rattle.std.proofs.Common.{◌≡◌, ℕ, ◌+◌, ◌≤◌, List, ◌++◌, length, take, [], Option, IfSome, append-nil, arith, length-append, length-take}
use Rattle.std.specs.Io.KnownBytes.{Consumes, IsAtEnd}
use Rattle.std.proofs.KnownBytes.{Consumes-trans}
use Rattle.digit_requests.specs.Outcome.{ReadsPast, most_bytes}

pub read_all : (a b c : Option (List ℕ)) (xs : List ℕ) →
    Consumes a b xs → Consumes b c [] → IsAtEnd c → IfSome a (λ bytes. xs ≡ bytes)
read_all a b c xs p q e = grind (arith, append-nil)

pub reads_past : (a b c : Option (List ℕ)) (xs buf : List ℕ) (n : ℕ) →
    Consumes a b xs → Consumes b c (take n buf) → n ≤ length buf →
    length xs + n ≡ most_bytes + 1 → ReadsPast a c
reads_past a b c xs buf n p q inside past = record {
  read = xs ++ take n buf;
  long = simp (length-append, length-take) (omega arith);
  consumed = Consumes-trans a b c xs (take n buf) p q;
}
