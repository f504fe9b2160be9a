-- What holds of each number that may be read holds of each number of a list.
use Rattle.std.proofs.Common.{◌≡◌, ℕ, zero, suc, List, [], ◌∷◌, length, map, take, refl}
use Rattle.std.specs.Prelude.{Bool, Result, Ok, Err}
use Rattle.std.specs.List.{All}
use Rattle.std.proofs.lemmas.List.Elements.{All-nil, All-cons, All-head, All-tail}
use Rattle.digit_literals.specs.declared.list.Gap.{Gap}
use Rattle.digit_literals.specs.declared.list.ListRead.{ListRead}
use Rattle.digit_literals.specs.Lists.{Numbers, after_number, from_number, list_at, next_after, past_blanks, Fills}

unmapped : {V A : Type 0} (P : A → Type 0) (value : V → A) (xs : List V) → All P (map value xs)
    → All (λ x. P (value x)) xs
unmapped P value [] all = All-nil (λ x. P (value x))
unmapped P value (x ∷ xs) all =
    All-cons (λ x. P (value x)) x xs (All-head P (value x) (map value xs) all)
    (unmapped P value xs (All-tail P (value x) (map value xs) all))

module _ {A E : Type 0} (P : A → Type 0) (one : ℕ → Result (A × ℕ) E) (none_at : ℕ → E → Bool)
    (gap : Gap) (text : List ℕ) (each : (at end : ℕ) (x : A) → one at ≡ Ok (x, end) → P x) where
  abbrev of : ℕ → ℕ → Numbers A E
  of room at = list_at one none_at gap text room at

  listed : (room start : ℕ) → All P (of room start).0
  unfolding list_at
  listed zero start = All-nil P
  listed (suc room) start = from_each (listed room) (one place) refl
    where
      place : ℕ
      place = past_blanks gap text start

      after : ((next : ℕ) → All P (of room next).0) → (x : A) → P x → (next : Result ℕ ℕ)
          → All P (after_number one none_at gap text (of room) x next).0
      after more x is (Ok next) = All-cons P x (of room next).0 is (more next)
      after more x is (Err over) = All-cons P x [] is (All-nil P)

      from_each : ((next : ℕ) → All P (of room next).0) → (read : Result (A × ℕ) E)
          → one place ≡ read → All P (from_number one none_at gap text (of room) place read).0
      from_each more (Ok (x, end)) is = after more x (each place end x is) (next_after gap text end)
      from_each more (Err error) is = All-nil P

  pub each_read : {V : Type 0} (value : V → A) (start : ℕ) (read : ListRead E) (old new : List V)
      → Fills value (of (length old) start) read old new
      → All (λ x. P (value x)) (take read.count new)
  each_read value start read old new fills =
      unmapped P value (take read.count new) (rw fills.numbers (listed (length old) start))
