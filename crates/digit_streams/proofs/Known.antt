-- What a buffer holds, and then what a reader has left, when it is read.
use Rattle.std.proofs.Common.{◌≡◌, ℕ, ◌+◌, List, ◌++◌, take, drop, sym, ap, ◌∙◌, append_assoc}
use Rattle.std.specs.Prelude.{Option, Some, None}
use Rattle.std.proofs.Math.Seq.{take-add}
use Rattle.std.specs.Io.KnownBytes.{Consumes, Keeps, prepend_known}

-- the bytes that come are after those that are there
more_kept : (a b : Option (List ℕ)) (front more : List ℕ) → Consumes a b more
    → Keeps (prepend_known front a) (prepend_known (front ++ more) b)
more_kept None b front more h = tt
more_kept (Some x) None front more h = absurd h
more_kept (Some x) (Some y) front more h =
    append_assoc front more y ∙ ap (λ l. front ++ l) (sym h)

-- where the front of a buffer has what is unread, it has that and the bytes that come
pub filled : (a b : Option (List ℕ)) (unread buffer : List ℕ) (to count : ℕ)
    → take to buffer ≡ unread → Consumes a b (take count (drop to buffer))
    → Keeps (prepend_known unread a) (prepend_known (take (to + count) buffer) b)
filled a b unread buffer to count same h =
    rw (take-add to count buffer, same) (more_kept a b unread (take count (drop to buffer)) h)
