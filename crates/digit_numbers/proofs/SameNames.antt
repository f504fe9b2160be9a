-- Which name is at a position, in a text and in one that begins there, doesn't depend on what is
-- before it, nor on what follows a byte that no name has.
use Rattle.std.proofs.Common.{◌≡◌, ℕ, zero, suc, ◌+◌, ◌-◌, ◌<◌, ◌≤◌, Bool, true, false, cond, List, [], ◌∷◌, length, Option, Some, None, refl, sym, ap, ◌∙◌, arith, inl, inr, ◌⊎◌, get_or, slice_get}
use Rattle.std.specs.Prelude.{◌&&◌, nat_lt, map, filter, if◌then◌else◌, IfSome, ⊤}
use Rattle.std.specs.List.{range_with_len, starts_with, list_any}
use Rattle.std.proofs.lemmas.Bool.{cases_lt, cases_Bool, or_parts, and_parts, both_ways}
use Rattle.std.proofs.lemmas.Bool.Decides.{nat_tests}
use Rattle.std.proofs.lemmas.Option.{gets}
use Rattle.lexical_digits.specs.declared.skip.rule.Rule.{Rule}
use Rattle.lexical_digits.specs.Cursor.{holds_of}
use Rattle.lexical_digits.specs.Separators.{is_kept}
use Rattle.lexical_digits.specs.Follows.{Ends}
use Rattle.lexical_digits.proofs.Calls.BothSides.{AreSameFrom, IsOther, kept_there, cut_kept, cut_byte}
use Rattle.digit_numbers.specs.declared.form.Special as form
use Rattle.digit_numbers.specs.Specials.{later, last_of}

-- ---- the bytes that a rule keeps from a position on

module _ (rule : Rule) (text : List ℕ) (start : ℕ) where
  abbrev kept : ℕ → Bool
  kept q = is_kept rule text start 0 q

  -- the kept positions from one on
  abbrev rest : ℕ → List ℕ
  rest q = filter kept (range_with_len q (length text - q))

  rest_more : (q : ℕ) → q < length text
      → rest q ≡ cond (kept q) (q ∷ rest (q + 1)) (rest (q + 1))
  rest_more q l =
      let more : length text - q ≡ suc (length text - (q + 1)) = omega arith in rw more refl

  rest_none : (q : ℕ) → length text ≤ q → rest q ≡ []
  rest_none q l = let none : length text - q ≡ zero = omega arith in rw none refl

  module _ (eq : ℕ → ℕ → Bool) where
    abbrev pub begins : ℕ → List ℕ → Bool
    begins q name = starts_with eq (map (λ i. get_or text i 0) (rest q)) name

    abbrev pub ends : ℕ → List ℕ → ℕ
    ends q name = get_or (rest q) (length name) (length text)

    -- ---- where the text ends, or has a byte that no name has

    module _ (at : ℕ) (stops : Ends rule text at) where
      ends_there : at ≤ length text → ends at [] ≡ at
      ends_there within = elim (cases_lt at (length text)) [
        | inl l ↦ rw (rest_more at l, kept_there rule text at stops start 0) refl
        | inr l ↦ rw (rest_none at l) (omega arith)
      ]

      none_there : (b : ℕ) (name : List ℕ)
          → holds_of (λ byte. list_any (λ c. eq c byte) (b ∷ name)) (slice_get text at) ≡ false
          → begins at (b ∷ name) ≡ false
      none_there b name none = elim (cases_lt at (length text)) [
        | inl l ↦
            let byte : list_any (λ c. eq c (get_or text at 0)) (b ∷ name) ≡ false =
            grind (arith, gets) in
            let no : eq b (get_or text at 0) ≡ false = (or_parts (eq b (get_or text at 0))
            (list_any (λ c. eq c (get_or text at 0)) name) byte).0 in
            rw (rest_more at l, kept_there rule text at stops start 0, no) refl
        | inr l ↦ rw (rest_none at l) refl
      ]

    -- ---- from one position to the next

    module _ (q : ℕ) (within : q < length text) where
      begins_more : kept q ≡ true → (b : ℕ) (name : List ℕ) → begins q (b ∷ name)
          ≡ eq b (get_or text q 0) && begins (q + 1) name
      begins_more k b name = rw (rest_more q within, k) refl

      ends_more : kept q ≡ true → (b : ℕ) (name : List ℕ) → ends q (b ∷ name) ≡ ends (q + 1) name
      ends_more k b name = rw (rest_more q within, k) refl

      ends_here : kept q ≡ true → ends q [] ≡ q
      ends_here k = rw (rest_more q within, k) refl

      begins_past : kept q ≡ false → (name : List ℕ) → begins q name ≡ begins (q + 1) name
      begins_past k name = rw (rest_more q within, k) refl

      ends_past : kept q ≡ false → (name : List ℕ) → ends q name ≡ ends (q + 1) name
      ends_past k name = rw (rest_more q within, k) refl

-- ---- in both texts

module _ (rule : Rule) (one : List ℕ) (from : ℕ) (other : List ℕ) (at : ℕ)
    (both : AreSameFrom (IsOther rule) one from other at) (in_one : from + at ≤ length one)
    (in_other : at ≤ length other) (begin start : ℕ) (started : begin ≡ from + start)
    (eq : ℕ → ℕ → Bool) where
  -- no byte of a name is what follows
  abbrev HasNone : Option ℕ → List ℕ → Type 0
  HasNone o name = holds_of (λ byte. list_any (λ b. eq b byte) name) o ≡ false

  abbrev HaveNone : List ℕ → Type 0
  HaveNone name = HasNone (slice_get one (from + at)) name × HasNone (slice_get other at) name

  pub record Same (x q : ℕ) (name : List ℕ) : Type 0 where
    pub begins_so : begins rule one begin eq x name ≡ begins rule other start eq q name
    pub ends_so : begins rule other start eq q name ≡ true
        → ends rule one begin eq x name ≡ from + ends rule other start eq q name

  same_at_end : (name : List ℕ) → HaveNone name → Same (from + at) at name
  same_at_end [] none = record {
    begins_so = refl;
    ends_so = λ is.
        ends_there rule one begin eq (from + at) both.one_ends in_one
        ∙ ap (λ n. from + n) (sym (ends_there rule other start eq at both.other_ends in_other));
  }
  same_at_end (b ∷ name) none =
      let no = none_there rule other start eq at both.other_ends b name none.1 in
      record {
        begins_so = none_there rule one begin eq (from + at) both.one_ends b name none.0 ∙ sym no;
        ends_so = λ is. absurd (both_ways _ no is);
      }

  module _ (x q : ℕ) (e : x ≡ from + q) (low : q < at) where
    in_one_here : x < length one
    in_one_here = omega (arith, e, low, in_one)

    in_other_here : q < length other
    in_other_here = omega (arith, low, in_other)

    kept_same : kept rule one begin x ≡ kept rule other start q
    kept_same = rw (e, started) (cut_kept rule one from other at both start 0 q low)

    byte_same : get_or one x 0 ≡ get_or other q 0
    byte_same = rw e (cut_byte rule one from other at both q low)

    same_if_kept : kept rule other start q ≡ true → (b : ℕ) (name : List ℕ)
        → Same (x + 1) (q + 1) name → Same x q (b ∷ name)
    same_if_kept k b name next =
        let l = kept_same ∙ k in
        let left = begins_more rule one begin eq x in_one_here l b name in
        let right = begins_more rule other start eq q in_other_here k b name in
        record {
          begins_so = left ∙ rw (byte_same, next.begins_so) (sym right);
          ends_so = λ is.
              ends_more rule one begin eq x in_one_here l b name
              ∙ next.ends_so (and_parts _ _ (sym right ∙ is)).1
              ∙ ap (λ n. from + n)
              (sym (ends_more rule other start eq q in_other_here k b name));
        }

    same_if_done : kept rule other start q ≡ true → Same x q []
    same_if_done k =
        let l = kept_same ∙ k in
        record {
          begins_so = refl;
          ends_so = λ is.
              ends_here rule one begin eq x in_one_here l ∙ e
              ∙ ap (λ n. from + n) (sym (ends_here rule other start eq q in_other_here k));
        }

    same_if_dropped : kept rule other start q ≡ false → (name : List ℕ)
        → Same (x + 1) (q + 1) name → Same x q name
    same_if_dropped k name next =
        let l = kept_same ∙ k in
        let right = begins_past rule other start eq q in_other_here k name in
        record {
          begins_so =
              begins_past rule one begin eq x in_one_here l name ∙ next.begins_so ∙ sym right;
          ends_so = λ is.
              ends_past rule one begin eq x in_one_here l name ∙ next.ends_so (sym right ∙ is)
              ∙ ap (λ n. from + n) (sym (ends_past rule other start eq q in_other_here k name));
        }

  none_of_rest : (o : Option ℕ) (b : ℕ) (name : List ℕ) → HasNone o (b ∷ name) → HasNone o name
  none_of_rest None b name h = refl
  none_of_rest (Some byte) b name h =
      (or_parts (eq b byte) (list_any (λ c. eq c byte) name) h).1

  same_before : (x q : ℕ) → x ≡ from + q → q < at
      → ((name : List ℕ) → HaveNone name → Same (x + 1) (q + 1) name)
      → (name : List ℕ) → HaveNone name
      → (kept rule other start q ≡ true) ⊎ (kept rule other start q ≡ false) → Same x q name
  same_before x q e low next [] none (inl is) = same_if_done x q e low is
  same_before x q e low next (b ∷ name) none (inl is) =
      same_if_kept x q e low is b name
      (next name (none_of_rest _ b name none.0, none_of_rest _ b name none.1))
  same_before x q e low next name none (inr is) =
      same_if_dropped x q e low is name (next name none)

  pub same_from : (d x q : ℕ) → x ≡ from + q → q + d ≡ at → (name : List ℕ) → HaveNone name
      → Same x q name
  same_from zero x q e more name none =
      let here : q ≡ at = omega arith in rw (e, here) (same_at_end name none)
  same_from (suc d) x q e more name none =
      same_before x q e (omega (arith, more))
      (same_from d (x + 1) (q + 1) (omega (arith, e)) (omega (arith, more))) name none
      (cases_Bool (kept rule other start q))

-- ---- the name that ends last

-- it holds of each name
abbrev pub Each : (form.Special → Type 0) → List form.Special → Type 0
Each P [] = ⊤
Each P (s ∷ names) = P s × Each P names

pub record AreSame (from : ℕ) (e d : form.Special → ℕ) (a b : Option form.Special) : Type 0 where
  pub same : a ≡ b
  pub ends_so : IfSome b (λ s. e s ≡ from + d s)

module _ (from : ℕ) (e d : form.Special → ℕ) where
  less_later : (a b x y : ℕ) → a ≡ from + x → b ≡ from + y → nat_lt a b ≡ nat_lt x y
  less_later a b x y h k = grind (arith, nat_tests)

  later_same : (s : form.Special) (a b : Option form.Special) → e s ≡ from + d s
      → AreSame from e d a b → AreSame from e d (Some (later e s a)) (Some (later d s b))
  later_same s a None h both = rw both.same (record { same = refl; ends_so = h })
  later_same s a (Some o) h both =
      let less = less_later (e s) (e o) (d s) (d o) h both.ends_so in
      rw (both.same, less) (record { same = refl; ends_so = by (nat_lt (d s) (d o)) })
    where
      by : (t : Bool) → e (if t then o else s) ≡ from + d (if t then o else s)
      by true = both.ends_so
      by false = h

  module _ (p q : form.Special → Bool) (P : form.Special → Type 0)
      (same : (s : form.Special) → P s → p s ≡ q s)
      (end : (s : form.Special) → P s → q s ≡ true → e s ≡ from + d s) where
    with_next : (s : form.Special) (t u : Bool) (xs ys : List form.Special) → t ≡ u
        → (u ≡ true → e s ≡ from + d s) → AreSame from e d (last_of e xs) (last_of d ys)
        → AreSame from e d (last_of e (cond t (s ∷ xs) xs)) (last_of d (cond u (s ∷ ys) ys))
    with_next s t true xs ys h k both = rw h (later_same s _ _ (k refl) both)
    with_next s t false xs ys h k both = rw h both

    pub last_same : (names : List form.Special) → Each P names
        → AreSame from e d (last_of e (filter p names)) (last_of d (filter q names))
    last_same [] all = record { same = refl; ends_so = tt }
    last_same (s ∷ names) all =
        with_next s _ _ _ _ (same s all.0) (end s all.0) (last_same names all.1)
