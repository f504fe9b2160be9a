-- What is printed of an error that has another.
use Rattle.std.proofs.Common.{◌≡◌, ℕ, List, ◌++◌, refl, ap, ◌∙◌, append_assoc}
use Rattle.std.specs.Prelude.{Option, None, Some}
use Rattle.std.specs.Fmt.{◌++?◌}

-- three texts that are known, and another after them
pub three_before : (a b c : List ℕ) (o : Option (List ℕ))
    → Some (a ++ b ++ c) ++? o ≡ Some a ++? Some b ++? Some c ++? o
three_before a b c None = refl
three_before a b c (Some d) =
    ap Some (append_assoc (a ++ b) c d ∙ append_assoc a b (c ++ d))
