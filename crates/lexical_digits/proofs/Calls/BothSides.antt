-- A number from a position on, in a text and in one that begins there: what is before the position,
-- and what follows a byte that ends the number, make no difference.
use Rattle.std.proofs.Common.{◌≡◌, ℕ, zero, suc, ◌+◌, ◌-◌, ◌<◌, ◌≤◌, Bool, true, false, cond, not, ◌&&◌, Option, Some, None, List, [], ◌∷◌, ◌++◌, length, get_or, take, drop, reverse, refl, sym, ap, ◌∙◌, arith, inl, inr, ◌⊎◌, slice_get, slice_range, find, length-drop, get_or-drop}
use Rattle.std.proofs.Math.Seq.{take-suc, take-add}
use Rattle.std.proofs.lemmas.List.{length-take-le, take-take, take-append-drop, take_all, drop-take, drop-drop, get_or-take}
use Rattle.lexical_digits.specs.Laws.Terms.{cases_lt, cases_Bool, drop_more, drop_all, gets, reverse-append, slice_get_past, Rule, is_digit, is_separator, class, neighbour, right_side, left_side, holds_separator, is_dropped, is_kept, digits_seen, kept_positions, stop}
use Rattle.lexical_digits.specs.declared.skip.rule.Class.TheVariants.{Other}
use Rattle.lexical_digits.specs.Cursor.{holds_of}
use Rattle.lexical_digits.specs.Follows.{Ends}
use Rattle.lexical_digits.specs.Moves.{byte_before}
use Rattle.lexical_digits.specs.Laws.Kept.{dropped_holds_separator}
use Rattle.lexical_digits.proofs.Rule.Runs.{neighbour_many, neighbour_single}
use Rattle.lexical_digits.proofs.Calls.FirstOther.{IsFirst, stop_is_first}

-- ---- a text without its first bytes

module _ (text : List ℕ) (from : ℕ) where
  pub moved_drop : (n : ℕ) → drop (from + n) text ≡ drop n (drop from text)
  moved_drop n = sym (drop-drop n from text)

  pub moved_byte : (at d : ℕ) → get_or text (from + at) d ≡ get_or (drop from text) at d
  moved_byte at d = sym (get_or-drop from text at d)

  pub moved_get : (at : ℕ) → slice_get text (from + at) ≡ slice_get (drop from text) at
  moved_get at = grind (arith, gets, length-drop from text, moved_byte at)

  pub moved_range : (a b : ℕ)
      → slice_range text (from + a) (from + b) ≡ slice_range (drop from text) a b
  moved_range a b =
      let same : from + b - (from + a) ≡ b - a = omega arith in rw (same, moved_drop a) refl

  pub moved_length : from ≤ length text → from + length (drop from text) ≡ length text
  moved_length within = omega (arith, length-drop from text)

-- ---- texts that are the same up to a position

module _ (one other : List ℕ) (at : ℕ) (same : take at one ≡ take at other) where
  pub same_take : (n : ℕ) → n ≤ at → take n one ≡ take n other
  same_take n l = sym (take-take n at one l) ∙ ap (take n) same ∙ take-take n at other l

  pub same_byte : (q : ℕ) → q < at → get_or one q 0 ≡ get_or other q 0
  same_byte q l =
      sym (get_or-take at one q 0 l) ∙ ap (λ bs. get_or bs q 0) same ∙ get_or-take at other q 0 l

  pub same_range : (s e : ℕ) → e ≤ at → slice_range one s e ≡ slice_range other s e
  same_range s e l = elim (cases_lt s e) [
    | inl m ↦
        let sum : s + (e - s) ≡ e = omega arith in
        let upto : take (s + (e - s)) one ≡ take (s + (e - s)) other = rw sum (same_take e l) in
        sym (drop-take s (e - s) one) ∙ ap (drop s) upto ∙ drop-take s (e - s) other
    | inr m ↦ let none : e - s ≡ zero = omega arith in rw none refl
  ]

-- ---- where a number ends

module _ (rule : Rule) (text : List ℕ) (at : ℕ) (ends : Ends rule text at) where
  no_separator_there : holds_separator rule text at ≡ false
  unfolding holds_separator
  no_separator_there = rw ends refl

  no_digit_there : at < length text → is_digit rule (get_or text at 0) ≡ false
  no_digit_there l = grind (arith, gets)

  pub kept_there : (s c : ℕ) → is_kept rule text s c at ≡ true
  unfolding is_kept
  kept_there s c = grind (arith, no_separator_there, dropped_holds_separator)

-- ---- the side of a separator

module _ (rule : Rule) where
  -- beyond a byte that is neither a digit nor the separator is nothing of a side
  nearest_other : (b : ℕ) (bytes : List ℕ) → class rule (Some b) ≡ Other
      → class rule (neighbour rule (b ∷ bytes)) ≡ Other
  nearest_other b bytes other = elim (cases_Bool rule.consecutive) [
    | inl many ↦
        rw (neighbour_many rule [] many (b ∷ bytes)) (grind arith)
    | inr single ↦ rw (neighbour_single rule [] single (b ∷ bytes)) other
  ]

  found_more : (p : ℕ → Bool) (xs ys : List ℕ) → class rule (find p ys) ≡ Other
      → class rule (find p (xs ++ ys)) ≡ class rule (find p xs)
  found_more p [] ys none = none
  found_more p (x ∷ xs) ys none = grind (arith, found_more p xs ys none)

  first_more : (xs ys : List ℕ) → class rule (slice_get ys 0) ≡ Other
      → class rule (slice_get (xs ++ ys) 0) ≡ class rule (slice_get xs 0)
  first_more [] ys none = none
  first_more (x ∷ xs) ys none = refl

  nearest_more : (xs ys : List ℕ) → class rule (neighbour rule ys) ≡ Other
      → class rule (neighbour rule (xs ++ ys)) ≡ class rule (neighbour rule xs)
  nearest_more xs ys none = elim (cases_Bool rule.consecutive) [
    | inl many ↦
        let each = neighbour_many rule [] many in
        let other : class rule (find (λ byte. not (is_separator rule.separator byte)) ys) ≡ Other =
        rw (← each ys) none in
        rw (each (xs ++ ys), each xs) (found_more _ xs ys other)
    | inr single ↦
        let each = neighbour_single rule [] single in
        let other : class rule (slice_get ys 0) ≡ Other = rw (← each ys) none in
        rw (each (xs ++ ys), each xs) (first_more xs ys other)
  ]

  nearest_none : class rule (neighbour rule []) ≡ Other
  nearest_none = elim (cases_Bool rule.consecutive) [
    | inl many ↦ rw (neighbour_many rule [] many []) refl
    | inr single ↦ rw (neighbour_single rule [] single []) refl
  ]

  -- before a position whose byte before is neither, and after one that holds neither
  none_before : (text : List ℕ) (from : ℕ) → from ≤ length text
      → class rule (byte_before text from) ≡ Other
      → class rule (neighbour rule (reverse (take from text))) ≡ Other
  none_before text zero within fresh = nearest_none
  none_before text (suc n) within fresh =
      let other : class rule (Some (get_or text n 0)) ≡ Other = grind (arith, gets) in
      rw (take-suc text n 0 (omega arith), reverse-append) (nearest_other (get_or text n 0) _ other)

  none_after : (text : List ℕ) (at : ℕ) → Ends rule text at
      → class rule (neighbour rule (drop at text)) ≡ Other
  none_after text at ends = elim (cases_lt at (length text)) [
    | inl l ↦
        let other : class rule (Some (get_or text at 0)) ≡ Other = grind (arith, gets) in
        rw (drop_more text at 0 l) (nearest_other (get_or text at 0) _ other)
    | inr l ↦ rw (drop_all at text l) nearest_none
  ]

  right_upto : (text : List ℕ) (at q : ℕ) → Ends rule text at → q < at
      → right_side rule text q ≡ class rule (neighbour rule (slice_range text (q + 1) at))
  right_upto text at q ends l =
      let after = drop (q + 1) text in
      let n = at - (q + 1) in
      let sum : q + 1 + n ≡ at = omega (arith, l) in
      let rest : drop n after ≡ drop at text =
      drop-drop n (q + 1) text ∙ ap (λ k. drop k text) sum in
      let none : class rule (neighbour rule (drop n after)) ≡ Other =
      rw rest (none_after text at ends) in
      ap (λ bytes. class rule (neighbour rule bytes)) (sym (take-append-drop n after))
      ∙ nearest_more (take n after) (drop n after) none

-- ---- the law

-- The bytes of one text from a position on are those of another, up to a position there. What is
-- before them, and what follows in both, has a property, as that no number has it.
pub record AreSameFrom (P : Option ℕ → Type 0) (one : List ℕ) (from : ℕ) (other : List ℕ)
    (at : ℕ) : Type 0 where
  pub within : from ≤ length one
  pub fresh : P (byte_before one from)
  pub same : take at (drop from one) ≡ take at other
  pub one_ends : P (slice_get one (from + at))
  pub other_ends : P (slice_get other at)

-- neither a digit nor the separator, or no byte
abbrev pub IsOther : Rule → Option ℕ → Type 0
IsOther rule o = class rule o ≡ Other

pub weaker : (P Q : Option ℕ → Type 0) → ((o : Option ℕ) → P o → Q o) → (one : List ℕ)
    → (from : ℕ) (other : List ℕ) (at : ℕ) → AreSameFrom P one from other at
    → AreSameFrom Q one from other at
weaker P Q so one from other at both = record {
  within = both.within;
  fresh = so _ both.fresh;
  same = both.same;
  one_ends = so _ both.one_ends;
  other_ends = so _ both.other_ends;
}

pub zero_later : (n : ℕ) → n ≡ 0 + n
zero_later n = omega arith

-- two texts from their start on
pub from_start : (P : Option ℕ → Type 0) → P None → (one other : List ℕ) (at : ℕ)
    → take at one ≡ take at other → P (slice_get one at) → P (slice_get other at)
    → AreSameFrom P one 0 other at
from_start P none one other at same one_ends other_ends = record {
  within = omega arith;
  fresh = none;
  same = same;
  one_ends = rw (← zero_later at) one_ends;
  other_ends = other_ends;
}

-- the rest of a text, up to its end or a position after it
pub from_rest : (P : Option ℕ → Type 0) → P None → (text : List ℕ) (from at : ℕ)
    → from ≤ length text → length text ≤ from + at → P (byte_before text from)
    → AreSameFrom P text from (drop from text) at
from_rest P none text from at within past fresh = record {
  within = within;
  fresh = fresh;
  same = refl;
  one_ends = rw (slice_get_past text (from + at) past) none;
  other_ends =
      rw (slice_get_past (drop from text) at (omega (arith, past, length-drop from text))) none;
}

same_or_more : (at : ℕ) (xs ys : List ℕ) → take at xs ≡ take at ys
    → (xs ≡ ys) ⊎ ((at ≤ length xs) × (at ≤ length ys))
same_or_more at xs ys same = elim (cases_lt (length xs) at) [
  | inl m ↦
      let left = take_all at xs (omega arith) in
      elim (cases_lt (length ys) at) [
        | inl k ↦ inl (sym left ∙ same ∙ take_all at ys (omega arith))
        | inr k ↦ absurd (omega (arith, length-take-le at ys k, ap length (sym left ∙ same)))
      ]
  | inr m ↦
      elim (cases_lt (length ys) at) [
        | inl k ↦
            let right = take_all at ys (omega arith) in
            absurd (omega (arith, length-take-le at xs m, ap length (same ∙ right)))
        | inr k ↦ inr (m, k)
      ]
]

pub cut_get : (one : List ℕ) (from : ℕ) (other : List ℕ) (at : ℕ)
    → take at (drop from one) ≡ take at other → (q : ℕ) → q < at
    → slice_get one (from + q) ≡ slice_get other q
cut_get one from other at same q l =
    moved_get one from q ∙ elim (same_or_more at (drop from one) other same) [
      | inl e ↦ rw e refl
      | inr more ↦ grind (arith, gets, same_byte (drop from one) other at same q l, more.0, more.1)
    ]

-- of two values that are those of others by a function, the one that a test says
pub cut_if : {A B : Type 0} (g : A → B) (b c : Bool) (x z : B) (y v : A) → b ≡ c
    → (c ≡ true → x ≡ g y) → z ≡ g v → cond b x z ≡ g (cond c y v)
cut_if g b true x z y v e h k = rw e (h refl)
cut_if g b false x z y v e h k = rw e k

pub cut_and : (b c x y : Bool) → b ≡ c → (c ≡ true → x ≡ y) → b && x ≡ c && y
cut_and b true x y e h = rw e (h refl)
cut_and b false x y e h = rw e refl

-- whether a byte passes that no number goes on with
module _ (P : Option ℕ → Type 0) (one : List ℕ) (from : ℕ) (other : List ℕ) (at : ℕ)
    (both : AreSameFrom P one from other at) (p : ℕ → Bool)
    (none : (o : Option ℕ) → P o → holds_of p o ≡ false) where
  pub cut_test : (x i : ℕ) → x ≡ from + i → i ≤ at
      → holds_of p (slice_get one x) ≡ holds_of p (slice_get other i)
  cut_test x i e l = elim (cases_lt i at) [
    | inl m ↦ rw (e, cut_get one from other at both.same i m) refl
    | inr m ↦
        let here : i ≡ at = omega arith in
        rw (e, here, none _ both.one_ends, none _ both.other_ends) refl
  ]

  -- one that passes is before the end
  pub cut_before : (i : ℕ) → i ≤ at → holds_of p (slice_get other i) ≡ true → i + 1 ≤ at
  cut_before i l is = elim (cases_lt i at) [
    | inl m ↦ omega arith
    | inr m ↦
        let here : i ≡ at = omega arith in
        let h : holds_of p (slice_get other at) ≡ true = rw (← here) is in
        let n = none _ both.other_ends in cc
  ]

-- the stop is at the length where there is no byte
stop_past : (rule : Rule) (text : List ℕ) (s c : ℕ) → length text ≤ s
    → stop rule text s c ≡ length text
unfolding stop kept_positions
stop_past rule text s c l = let none : length text - s ≡ zero = omega arith in rw none refl

-- it is within the text
pub stop_in : (rule : Rule) (text : List ℕ) (s c : ℕ) → stop rule text s c ≤ length text
stop_in rule text s c = elim (cases_lt (length text) s) [
  | inl m ↦ rw (stop_past rule text s c (omega arith)) (omega arith)
  | inr m ↦ (stop_is_first rule text s c m).within
]

pub stop_upto_end : (rule : Rule) (text : List ℕ) (at s c : ℕ) → Ends rule text at → s ≤ at
    → stop rule text s c ≤ at
stop_upto_end rule text at s c ends from = elim (cases_lt (length text) s) [
  | inl m ↦ rw (stop_past rule text s c (omega arith)) (omega arith)
  | inr m ↦
      grind (
        arith,
        stop_is_first rule text s c m,
        kept_there rule text at ends s c,
        no_digit_there rule text at ends,
      )
]

-- the first of some positions, by tests that agree so much later
first_later : (K O P Q : ℕ → Bool) (from at s n r m x : ℕ) → IsFirst K O (from + s) n r
    → IsFirst P Q s m x → x ≤ at → r ≤ from + at
    → ((q : ℕ) → q < at → K (from + q) ≡ P q) → ((q : ℕ) → q < at → O (from + q) ≡ Q q)
    → (n ≡ from + m) ⊎ ((from + at ≤ n) × (at ≤ m)) → r ≡ from + x
first_later K O P Q from at s n r m x one other low high kept test lengths =
    by (r - from) (omega (arith, one.onward))
  where
    by : (d : ℕ) → r ≡ from + d → r ≡ from + x
    by d e = grind (arith, one, other, kept d, test d, kept x, test x, e, low, high, lengths)

module _ (rule : Rule) (one : List ℕ) (from : ℕ) (other : List ℕ) (at : ℕ)
    (both : AreSameFrom (IsOther rule) one from other at) where
  abbrev rest : List ℕ
  rest = drop from one

  lengths : (length one ≡ from + length other) ⊎ ((from + at ≤ length one) × (at ≤ length other))
  lengths = elim (same_or_more at rest other both.same) [
    | inl e ↦ inl (omega (arith, ap length e, moved_length one from both.within))
    | inr more ↦ inr (omega (arith, more.0, length-drop from one), more.1)
  ]

  pub cut_byte : (q : ℕ) → q < at → get_or one (from + q) 0 ≡ get_or other q 0
  cut_byte q l = moved_byte one from q 0 ∙ same_byte rest other at both.same q l

  pub cut_range : (s e : ℕ) → e ≤ at
      → slice_range one (from + s) (from + e) ≡ slice_range other s e
  cut_range s e l = moved_range one from s e ∙ same_range rest other at both.same s e l

  -- ---- what is kept

  cut_seen : (s c q : ℕ) → q < at
      → digits_seen rule one (from + s) c (from + q) ≡ digits_seen rule other s c q
  unfolding digits_seen
  cut_seen s c q l = rw (cut_range s q (omega arith)) refl

  cut_left : (t : Bool) (q : ℕ) → q < at
      → left_side rule one t (from + q) ≡ left_side rule other t q
  cut_left true q l = refl
  cut_left false q l =
      rw (take-add from q one, reverse-append, same_take rest other at both.same q (omega arith))
      (nearest_more rule (reverse (take q other)) (reverse (take from one))
      (none_before rule one from both.within both.fresh))

  cut_right : (q : ℕ) → q < at → right_side rule one (from + q) ≡ right_side rule other q
  cut_right q l =
      let next : from + q + 1 ≡ from + (q + 1) = omega arith in
      right_upto rule one (from + at) (from + q) both.one_ends (omega arith)
      ∙ rw (next, cut_range (q + 1) at (omega arith)) refl
      ∙ sym (right_upto rule other at q both.other_ends l)

  pub cut_kept : (s c q : ℕ) → q < at
      → is_kept rule one (from + s) c (from + q) ≡ is_kept rule other s c q
  unfolding is_kept is_dropped holds_separator
  cut_kept s c q l =
      rw (
        cut_seen s c q l,
        cut_get one from other at both.same q l,
        cut_left _ q l,
        cut_right q l,
      ) refl

  -- ---- the stop

  module _ (s c : ℕ) (low : s ≤ at) where
    pub cut_upto : stop rule other s c ≤ at
    cut_upto = stop_upto_end rule other at s c both.other_ends low

    abbrev is_later : Type 0
    is_later = stop rule one (from + s) c ≡ from + stop rule other s c

    later_within : from + s ≤ length one → s ≤ length other → is_later
    later_within one_within other_within =
        first_later _ _ _ _ from at s _ _ _ _
        (stop_is_first rule one (from + s) c one_within) (stop_is_first rule other s c other_within)
        cut_upto (stop_upto_end rule one (from + at) (from + s) c both.one_ends (omega arith))
        (cut_kept s c) (λ q l. ap (λ b. not (is_digit rule b)) (cut_byte q l)) lengths

    pub cut_stop : stop rule one (from + s) c ≡ from + stop rule other s c
    cut_stop = elim lengths [
      | inl e ↦ elim (cases_lt (length other) s) [
        | inl m ↦
            stop_past rule one (from + s) c (omega arith) ∙ e
            ∙ ap (λ n. from + n) (sym (stop_past rule other s c (omega arith)))
        | inr m ↦ later_within (omega arith) m
      ]
      | inr u ↦ later_within (omega (arith, u.0)) (omega (arith, u.1))
    ]

-- what is before a text makes no difference
pub moved_stop : (rule : Rule) (text : List ℕ) (from : ℕ) → from ≤ length text
    → class rule (byte_before text from) ≡ Other → (s c : ℕ)
    → stop rule text (from + s) c ≡ from + stop rule (drop from text) s c
moved_stop rule text from within fresh s c =
    cut_stop rule text from (drop from text) (length text + s)
    (from_rest (IsOther rule) refl text from (length text + s) within (omega arith) fresh) s c
    (omega arith)
