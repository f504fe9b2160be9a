-- Why a stream goes on after its numbers: the reason of what a buffer holds is that of all bytes.
use Rattle.std.proofs.Common.{◌≡◌, ◌≢◌, ℕ, ◌<◌, Bool, true, false, List, ◌++◌, length, refl, sym, ap, ◌∙◌, arith, append-nil}
use Rattle.std.specs.Prelude.{Option, None, Some, IfSome, Result, nat_lt}
use Rattle.std.specs.Io.KnownBytes.{IsAtEnd, prepend_known}
use Rattle.std.proofs.lemmas.Bool.Decides.{nat_tests}
use Rattle.digit_literals.specs.declared.list.Gap.{Gap}
use Rattle.digit_literals.specs.Lists.{past_blanks}
use Rattle.digit_pieces.specs.Cuts.{sure_end}
use Rattle.digit_pieces.proofs.Blanks.{blanks_same}
use Rattle.digit_pieces.proofs.SureEnds.{sure_within}
use Rattle.digit_pieces.proofs.Theorem.{AreNumbers, stays}
use Rattle.digit_streams.specs.Streams.{reason_held, reason_of}

-- a fact that holds if there is a reason
some_if : {E P : Type 0} (why : Option E) → (why ≢ None → P) → IfSome why (λ told. P)
some_if None fact = tt
some_if (Some told) fact = fact (λ none. cc)

module _ {A E : Type 0} (one : List ℕ → ℕ → Result (A × ℕ) E) (none_at : ℕ → E → Bool)
    (error_at : E → ℕ) (later : ℕ → E → E) (has : ℕ → Bool) (gap : Gap)
    (are : AreNumbers one none_at later has) (position : ℕ) (held : List ℕ) where
  abbrev reason : List ℕ → Option E
  reason text = reason_of one error_at later gap position text

  -- what follows makes no difference
  front_stays : (more : List ℕ) → nat_lt (past_blanks gap held 0) (sure_end has held) ≡ true
      → reason (held ++ more) ≡ reason held
  front_stays more sure =
      let place : ℕ = past_blanks gap held 0 in
      let before : place < sure_end has held = grind (arith, nat_tests, sure) in
      let within : place < length held = omega (arith, sure_within has held) in
      rw (
        blanks_same gap held more 0 within,
        stays one none_at later has gap are held more place
            before,
      ) refl

  -- the reason of what is held, at the end of the stream too
  pub reason_stays : (is_last : Bool) (rest : Option (List ℕ)) (why : Option E)
      → why ≡ reason_held one error_at later has gap position held is_last
      → (is_last ≡ true → IsAtEnd rest)
      → IfSome why (λ told. IfSome (prepend_known held rest) (λ bytes. why ≡ reason bytes))
  reason_stays is_last None why is ends = some_if why (λ some. tt)
  reason_stays true (Some more) why is ends =
      let whole : held ++ more ≡ held =
      ap (λ bytes. held ++ bytes) (ends refl) ∙ append-nil held in
      some_if why (λ some. rw whole is)
  reason_stays false (Some more) why is ends =
      by (nat_lt (past_blanks gap held 0) (sure_end has held)) refl
    where
      by : (sure : Bool) → nat_lt (past_blanks gap held 0) (sure_end has held) ≡ sure
          → IfSome why (λ told. why ≡ reason (held ++ more))
      by true sure =
          let told : why ≡ reason held = rw sure at is in
          some_if why (λ some. told ∙ sym (front_stays more sure))
      by false sure = let none : why ≡ None = rw sure at is in rw none tt
