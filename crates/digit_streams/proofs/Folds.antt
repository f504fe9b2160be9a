-- What the callers of a fold know.
use Rattle.std.proofs.Common.{◌≡◌, ℕ, List, [], ◌∷◌, map, sym, ap, ◌∙◌}
use Rattle.std.specs.Prelude.{Option, None, Some, Result, Ok, Err, IfSome}
use Rattle.std.specs.List.{fold}
use Rattle.digit_streams.specs.declared.enclosed.EnclosedFoldError.{EnclosedFoldError}
use Rattle.digit_streams.specs.declared.enclosed.EnclosedFoldError.TheVariants.{NoOpening, NoClosing, Fold}
use Rattle.digit_streams.specs.declared.fold.FoldError.{FoldError}
use Rattle.digit_streams.specs.declared.fold.FoldError.TheVariants as folds
use Rattle.digit_streams.specs.Enclosed.{Brackets, FoldsEnclosed, ReadsEnclosed, never_stopped}
use Rattle.digit_streams.specs.Streams.{StreamNumbers}
use Rattle.digit_streams.specs.Folds.{FoldsText, Makes, ReadsText, in_stream}
use Rattle.digit_streams.proofs.Folding.{begins}

-- steps that answer what a function does
module _ {A V M : Type 0} (gives : A → V → Option A → Type 0) (meaning : V → M)
    (next : A → M → A)
    (is : (value : A) (number : V) (after : A) → gives value number (Some after)
    → after ≡ next value (meaning number)) where
  -- what they make is the fold by that function
  pub makes_fold : (numbers : List V) (init last : A) → Makes gives init numbers last
      → last ≡ fold next init (map meaning numbers)
  makes_fold [] init last made = sym made
  makes_fold (x ∷ numbers) init last (value, step, made) =
      makes_fold numbers value last made
      ∙ ap (λ v. fold next v (map meaning numbers)) (is init x value step)

  module _ {E : Type 0} (init : A) (list : List ℕ → ℕ → StreamNumbers M E) where
    reads_text : (text : List ℕ) (result : Result A (FoldError E))
        → FoldsText gives meaning init list text result
        → ReadsText list (fold next init) text (in_stream result)
    reads_text text (Ok value) folds = record {
      numbers = map meaning folds.numbers;
      room = folds.room;
      all = folds.all;
      is = makes_fold folds.numbers init value folds.steps;
    }
    reads_text text (Err (folds.Stopped at)) folds = record {
      numbers = map meaning folds.numbers;
      room = folds.room;
      all = (begins (list text folds.room) _ folds.all.0 folds.all.1, tt);
      is = tt;
    }
    reads_text text (Err (folds.Stream error)) folds = record {
      numbers = map meaning folds.numbers;
      room = folds.room;
      all = folds.all;
      is = tt;
    }

    -- so a whole text comes to that fold of its numbers
    pub folds_known : (known : Option (List ℕ)) (Apart : Type 0) (result : Result A (FoldError E))
        → Apart → IfSome known (λ text. Apart → FoldsText gives meaning init list text result)
        → IfSome known (λ text. ReadsText list (fold next init) text (in_stream result))
    folds_known None Apart result apart h = tt
    folds_known (Some text) Apart result apart h = reads_text text result (h apart)

  module _ {E : Type 0} (init : A) (b : Brackets M E) (from end : ℕ) where
    reads_enclosed : (text : List ℕ) (result : Result A (EnclosedFoldError E))
        → FoldsEnclosed gives meaning init b text from end result
        → ReadsEnclosed b text (fold next init) from end (never_stopped result)
    reads_enclosed text (Ok value) folds = record {
      numbers = map meaning folds.numbers;
      all = folds.all;
      is = makes_fold folds.numbers init value folds.steps;
    }
    reads_enclosed text (Err (NoOpening at)) folds =
        record { numbers = map meaning folds.numbers; all = folds.all; is = tt }
    reads_enclosed text (Err (NoClosing at)) folds =
        record { numbers = map meaning folds.numbers; all = folds.all; is = tt }
    reads_enclosed text (Err (Fold (folds.Stopped at))) folds =
        record { numbers = map meaning folds.numbers; all = tt; is = tt }
    reads_enclosed text (Err (Fold (folds.Stream error))) folds =
        record { numbers = map meaning folds.numbers; all = folds.all; is = tt }

    -- so a list between two bytes comes to that fold of its numbers
    pub enclosed_known : (known : Option (List ℕ)) (result : Result A (EnclosedFoldError E))
        → IfSome known (λ text. FoldsEnclosed gives meaning init b text from end result)
        → IfSome known (λ text. (end : ℕ)
        × ReadsEnclosed b text (fold next init) from end (never_stopped result))
    enclosed_known None result h = tt
    enclosed_known (Some text) result h = (end, reads_enclosed text result h)
