-- Two ops are equal only if they are the same. The derived `==` compares what two values of one
-- variant hold, so it is equality if each variant's comparison is.
use Rattle.std.proofs.Common.{◌≡◌, Bool, true, false, ◌&&◌, ◌==◌, ℕ, List, [], ◌∷◌, refl, ap}
use Rattle.std.proofs.Math.Bool.{beq}
use Rattle.std.proofs.lemmas.Bool.Decides.{Decides-eqb}
use Rattle.std.specs.Cmp.{booleans_Decides, first_so, second_so}
use mathlib.Core.Logic.{inl, inr}
use denote.Struct.Field.{Field}
use denote.Struct.Values.{Values}
use denote.Enum.Declared.{Choice, values_one}
use denote.Enum.Compared.{Each, by}
use Rattle.lexical_digits.specs.declared.ops.Op.{Op}
use Rattle.lexical_digits.specs.declared.ops.ByteSet.{ByteSet}
use Rattle.lexical_digits.specs.contracts.ops.Op.{enum}
use Rattle.lexical_digits.specs.contracts.ops.OpPartialEq.TheImpl as derived
use Rattle.lexical_digits.specs.contracts.ops.ByteSetPartialEq.TheImpl as sets

-- ---- of any enum

-- each variant's comparison is equality
abbrev AreEqualities : (Fss : List (List Field)) → Each Bool Fss → Type 0
AreEqualities [] es = Unit {0}
AreEqualities (Fs ∷ Fss) es = ((x y : Values Fs) → es.0 x y ≡ true → x ≡ y) × AreEqualities Fss es.1

same_choice : (Fss : List (List Field)) (es : Each Bool Fss) → AreEqualities Fss es
    → (c d : Choice Fss) → by false false Fss es c d ≡ true → c ≡ d
same_choice [] es all c d e = absurd c
same_choice (Fs ∷ Fss) es all (inl x) (inl y) e = ap inl (all.0 x y e)
same_choice (Fs ∷ Fss) es all (inl x) (inr d) e = absurd cc
same_choice (Fs ∷ Fss) es all (inr c) (inl y) e = absurd cc
same_choice (Fs ∷ Fss) es all (inr c) (inr d) e = ap inr (same_choice Fss es.1 all.1 c d e)

-- ---- what a variant holds is nothing, a number, a number and a flag, or a set of bytes

nothing : (x y : Unit {0}) → true ≡ true → x ≡ y
nothing x y e = refl

number : (x y : ℕ × Unit {0}) → (x.0 == y.0) ≡ true → x ≡ y
number x y e = ap (λ n. (n, tt)) ((Decides-eqb x.0 y.0).0 e)

number_and_flag : (x y : ℕ × (Bool × Unit {0})) → ((x.0 == y.0) && beq x.1.0 y.1.0) ≡ true
    → x ≡ y
number_and_flag x y e =
    let n = (Decides-eqb x.0 y.0).0 (first_so (x.0 == y.0) (beq x.1.0 y.1.0) e) in
    let f = (booleans_Decides x.1.0 y.1.0).0 (second_so (x.0 == y.0) (beq x.1.0 y.1.0) e) in
    λ i. (n i, (f i, tt))

same_bits : (l h m n : ℕ) → l ≡ m → h ≡ n
    → ◌≡◌ {A = ByteSet} (record { low = l; high = h }) (record { low = m; high = n })
same_bits l h m n e f = cc

equal_sets : (a b : ByteSet) → sets.ghosts.eq a b ≡ true → a ≡ b
equal_sets a b e =
    let l = (Decides-eqb a.low b.low).0 (first_so _ (a.high == b.high) e) in
    let h = (Decides-eqb a.high b.high).0 (second_so (a.low == b.low) _ e) in
    same_bits _ _ _ _ l h

set : (x y : ByteSet × Unit {0}) → sets.ghosts.eq x.0 y.0 ≡ true → x ≡ y
set x y e = ap (λ s. (s, tt)) (equal_sets x.0 y.0 e)

pub equal_is_same : (a b : Op) → derived.ghosts.eq a b ≡ true → a ≡ b
equal_is_same a b e =
    values_one enum a b (same_choice enum.parts _ (search (nothing, number, number_and_flag, set))
    (enum.as_values a) (enum.as_values b) e)
