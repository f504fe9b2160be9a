-- The groups of digits between separators, one turn of a loop over their bytes.
use Rattle.std.proofs.Common.{◌≡◌, ℕ, suc, ◌+◌, ◌-◌, ◌<◌, ◌≤◌, Bool, true, false, List, [], ◌∷◌, ◌++◌, length, take, drop, get_or, slice_range, refl, ◌∙◌, ap, arith, cond}
use Rattle.std.specs.Prelude.{Option, Some, None}
use Rattle.std.specs.List.{All, slice_split}
use Rattle.std.proofs.Math.Seq.{take-add, drop-cons}
use Rattle.std.proofs.lemmas.List.{drop-drop, length-drop, length-take-le, get_or-drop}
use Rattle.std.proofs.lemmas.List.Elements.{All-more, All-nil, All-cons}
use Rattle.std.proofs.lemmas.Bool.Decides.{nat_tests}
use Rattle.std.proofs.lemmas.List.Splits.{slice_split_at, slice_split_none}
use Rattle.digit_amounts.specs.Groups.{is_group, wrong_of, AreGroups}

module _ (p : ℕ → Bool) (text : List ℕ) where
  -- no byte passes between two positions
  abbrev pub NonePasses : ℕ → ℕ → Type 0
  NonePasses from to = All (λ byte. p byte ≡ false) (slice_range text from to)

  pub none_yet : (from : ℕ) → NonePasses from from
  none_yet from =
      let none : from - from ≡ 0 = omega arith in
      rw none (All-nil (λ (byte : ℕ). p byte ≡ false))

  pub none_more : (from to : ℕ) → from ≤ to → to < length text → NonePasses from to
      → p (get_or text to 0) ≡ false → NonePasses from (to + 1)
  none_more from to onward within before here =
      let more : (to + 1) - from ≡ (to - from) + 1 = omega (arith, onward) in
      let there : from + (to - from) ≡ to = omega (arith, onward) in
      let inside : to - from < length (drop from text) =
      omega (arith, length-drop from text, onward, within) in
      let same : p (get_or (drop from text) (to - from) 0) ≡ false =
      rw (get_or-drop from text (to - from) 0, there) here in
      rw more
      (All-more (λ (byte : ℕ). p byte ≡ false) (drop from text) (to - from) 0 inside before same)

  -- the bytes between two positions, and one of them
  parted : (from at to : ℕ) → from ≤ at → at < to → to ≤ length text
      → slice_range text from to
      ≡ slice_range text from at ++ get_or text at 0 ∷ slice_range text (at + 1) to
  parted from at to onward inside within =
      let sum : to - from ≡ (at - from) + (to - at) = omega (arith, onward, inside) in
      let there : from + (at - from) ≡ at = omega (arith, onward) in
      let one : to - at ≡ suc (to - (at + 1)) = omega (arith, inside) in
      let next : suc at ≡ at + 1 = omega arith in
      let here : drop at text ≡ get_or text at 0 ∷ drop (at + 1) text =
      rw next at (drop-cons text at 0 (omega (arith, inside, within))) in
      let dropped : drop (at - from) (drop from text) ≡ drop at text =
      drop-drop (at - from) from text ∙ ap (λ n. drop n text) there in
      let rest : take (to - at) (drop (at - from) (drop from text))
      ≡ get_or text at 0 ∷ slice_range text (at + 1) to =
      rw (dropped, one, here) refl in
      rw (sum, take-add (at - from) (to - at) (drop from text), rest) refl

  -- ---- the parts

  -- the parts of the bytes between two positions
  abbrev pub parts : ℕ → ℕ → List (List ℕ)
  parts from to = slice_split p (slice_range text from to)

  one_part : (from at to : ℕ) → from ≤ at → at < to → to ≤ length text → NonePasses from at
      → p (get_or text at 0) ≡ true
      → parts from to ≡ slice_range text from at ∷ parts (at + 1) to
  one_part from at to onward inside within none passes =
      rw (parted from at to onward inside within)
      (slice_split_at p (slice_range text from at) (get_or text at 0)
      (slice_range text (at + 1) to) none passes)

  long : (from to : ℕ) → from ≤ to → to ≤ length text
      → length (slice_range text from to) ≡ to - from
  long from to onward within =
      length-take-le (to - from) (drop from text)
      (omega (arith, length-drop from text, onward, within))

  module _ (is_first : Bool) (from : ℕ) where
    -- a group, and those after it
    pub group_next : (at to : ℕ) → from ≤ at → at < to → to ≤ length text → NonePasses from at
        → p (get_or text at 0) ≡ true → is_group is_first (at - from) ≡ true
        → wrong_of is_first from (parts from to) ≡ wrong_of false (at + 1) (parts (at + 1) to)
    group_next at to onward inside within none passes is =
        let next : from + (at - from) + 1 ≡ at + 1 = omega (arith, onward) in
        rw (
          one_part from at to onward inside within none passes,
          long from at onward (omega (arith, inside, within)),
          is,
          next,
        ) refl

    -- no group
    pub group_wrong : (at to : ℕ) → from ≤ at → at < to → to ≤ length text → NonePasses from at
        → p (get_or text at 0) ≡ true → is_group is_first (at - from) ≡ false
        → wrong_of is_first from (parts from to) ≡ Some from
    group_wrong at to onward inside within none passes is =
        rw (
          one_part from at to onward inside within none passes,
          long from at onward (omega (arith, inside, within)),
          is,
        ) refl

    -- the last one
    pub group_last : (to : ℕ) → from ≤ to → to ≤ length text → NonePasses from to
        → wrong_of is_first from (parts from to)
        ≡ cond (is_group is_first (to - from)) None (Some from)
    group_last to onward within none =
        rw (slice_split_none p (slice_range text from to) none, long from to onward within) refl

-- ---- groups of three

-- a choice that is none
none_of : (b : Bool) (x : Option ℕ) (at : ℕ) → cond b x (Some at) ≡ None
    → (b ≡ true) × (x ≡ None)
none_of true x at e = (refl, e)
none_of false x at e = cc

first_is : (n : ℕ) → is_group true n ≡ true → (1 ≤ n) × (n ≤ 3)
first_is n is = grind (arith, nat_tests)

first_fits : (n : ℕ) → 1 ≤ n → n ≤ 3 → is_group true n ≡ true
first_fits n some few = grind (arith, nat_tests)

three_is : (n : ℕ) → is_group false n ≡ true → n ≡ 3
three_is n is = grind (arith, nat_tests)

others_are : (at : ℕ) (groups : List (List ℕ)) → wrong_of false at groups ≡ None
    → All (λ group. length group ≡ 3) groups
others_are at [] none = All-nil (λ (group : List ℕ). length group ≡ 3)
others_are at (group ∷ others) none =
    let next : ℕ = at + length group + 1 in
    let both : (is_group false (length group) ≡ true) × (wrong_of false next others ≡ None) =
    none_of (is_group false (length group)) (wrong_of false next others) at none in
    All-cons (λ (g : List ℕ). length g ≡ 3) group others (three_is (length group) both.0)
    (others_are next others both.1)

others_none : (at : ℕ) (groups : List (List ℕ)) → All (λ group. length group ≡ 3) groups
    → wrong_of false at groups ≡ None
others_none at [] all = refl
others_none at (group ∷ others) all =
    let three : length group ≡ 3 = all 0 group (omega arith) in
    rw three (others_none (at + 3 + 1) others (λ k d below. all (suc k) d (omega (arith, below))))

-- none is wrong only of groups of three
pub none_wrong : (at : ℕ) (groups : List (List ℕ)) → wrong_of true at groups ≡ None
    → AreGroups groups
none_wrong at [] none = tt
none_wrong at (group ∷ others) none =
    let next : ℕ = at + length group + 1 in
    let both : (is_group true (length group) ≡ true) × (wrong_of false next others ≡ None) =
    none_of (is_group true (length group)) (wrong_of false next others) at none in
    let first : (1 ≤ length group) × (length group ≤ 3) = first_is (length group) both.0 in
    (first.0, first.1, others_are next others both.1)

are_none : (at : ℕ) (groups : List (List ℕ)) → AreGroups groups
    → wrong_of true at groups ≡ None
are_none at [] are = refl
are_none at (group ∷ others) are =
    rw (first_fits (length group) are.0 are.1) (others_none (at + length group + 1) others are.2)

-- and one is wrong only of others
pub some_wrong : (at wrong : ℕ) (groups : List (List ℕ)) → wrong_of true at groups ≡ Some wrong
    → AreGroups groups → ⊥
some_wrong at wrong groups some are =
    let none : wrong_of true at groups ≡ None = are_none at groups are in cc

-- to be named in an attribute
pub ruleset groups = (none_wrong, some_wrong)
