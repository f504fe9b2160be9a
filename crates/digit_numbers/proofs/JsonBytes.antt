-- A number of RFC 8259 and the digits of a text: how far one can reach.
use Rattle.std.proofs.Common.{◌≡◌, ℕ, ◌+◌, ◌<◌, ◌≤◌, Bool, true, false, Option, Some, None, List}
use Rattle.std.proofs.Common.{refl, sym, subst, ◌∙◌, ◌⊎◌, inl, inr, arith, slice_get}
use Rattle.std.specs.Char.{is_ascii_digit}
use Rattle.std.proofs.lemmas.Bool.{cases_lt}
use Rattle.std.proofs.lemmas.Bool.Decides.{nat_tests}
use Rattle.lexical_digits.specs.Cursor.{holds_of}
use Rattle.digit_floats.specs.Bytes.{stands, is_point, is_minus, is_sign}
use Rattle.digit_numbers.specs.Json.{is_digit1_9, is_e, is_zero, IsOptional, IsDigits, IsInt}
use Rattle.digit_numbers.specs.Json.{IsFrac, IsExp, IsJsonNumber, IsLongest}

-- ---- what a byte isn't, if it is something else

module _ (p q : ℕ → Bool) (text : List ℕ) (at : ℕ) where
  pub apart : ((b : ℕ) → p b ≡ true → q b ≡ false) → stands p text at ≡ true
      → stands q text at ≡ false
  apart h = by (slice_get text at)
    where
      by : (o : Option ℕ) → holds_of p o ≡ true → holds_of q o ≡ false
      by None e = refl
      by (Some b) e = h b e

  into : ((b : ℕ) → p b ≡ true → q b ≡ true) → stands p text at ≡ true → stands q text at ≡ true
  into h = by (slice_get text at)
    where
      by : (o : Option ℕ) → holds_of p o ≡ true → holds_of q o ≡ true
      by None e = e
      by (Some b) e = h b e

digit_of_zero : (b : ℕ) → is_zero b ≡ true → is_ascii_digit b ≡ true
digit_of_zero b h = grind (arith, nat_tests)

digit_of_nine : (b : ℕ) → is_digit1_9 b ≡ true → is_ascii_digit b ≡ true
digit_of_nine b h = grind (arith, nat_tests)

no_zero : (b : ℕ) → is_digit1_9 b ≡ true → is_zero b ≡ false
no_zero b h = grind (arith, nat_tests)

no_minus : (b : ℕ) → is_ascii_digit b ≡ true → is_minus b ≡ false
no_minus b h = grind (arith, nat_tests)

pub no_sign : (b : ℕ) → is_ascii_digit b ≡ true → is_sign b ≡ false
no_sign b h = grind (arith, nat_tests)

no_point : (b : ℕ) → is_ascii_digit b ≡ true → is_point 46 b ≡ false
no_point b h = grind (arith, nat_tests)

no_e : (b : ℕ) → is_ascii_digit b ≡ true → is_e b ≡ false
no_e b h = grind (arith, nat_tests)

point_no_e : (b : ℕ) → is_point 46 b ≡ true → is_e b ≡ false
point_no_e b h = grind (arith, nat_tests)

nine : (text : List ℕ) (at : ℕ) → stands is_zero text at ≡ false
    → stands is_ascii_digit text at ≡ true → stands is_digit1_9 text at ≡ true
nine text at = by (slice_get text at)
  where
    byte : (b : ℕ) → is_zero b ≡ false → is_ascii_digit b ≡ true → is_digit1_9 b ≡ true
    byte b z d = grind (arith, nat_tests)

    by : (o : Option ℕ) → holds_of is_zero o ≡ false → holds_of is_ascii_digit o ≡ true
        → holds_of is_digit1_9 o ≡ true
    by None z d = d
    by (Some b) z d = byte b z d

module _ (text : List ℕ) where
  -- ---- digits

  -- all digits from a position on
  pub record IsRun (from to : ℕ) : Type 0 where
    pub digits : IsDigits text from to
    pub stops : stands is_ascii_digit text to ≡ false

  run_within : (from r to : ℕ) → IsRun from r → IsDigits text from to → to ≤ r
  run_within from r to run ds = by (cases_lt r to)
    where
      by : (r < to) ⊎ (to ≤ r) → to ≤ r
      by (inl l) =
          let d = ds.all r run.digits.onward l in
          let s = run.stops in
          cc
      by (inr l) = l

  int_first : (from to : ℕ) → IsInt text from to → stands is_ascii_digit text from ≡ true
  int_first from to (inl h) = into is_zero is_ascii_digit text from digit_of_zero h.0
  int_first from to (inr h) = into is_digit1_9 is_ascii_digit text from digit_of_nine h.0

  pub int_some : (from to : ℕ) → IsInt text from to → from < to
  int_some from to (inl h) = omega (arith, h.1)
  int_some from to (inr h) = omega (arith, h.1.onward)

  int_all : (from to at : ℕ) → IsInt text from to → from ≤ at → at < to
      → stands is_ascii_digit text at ≡ true
  int_all from to at h l m = by (cases_lt from at) h
    where
      by : (from < at) ⊎ (at ≤ from) → IsInt text from to → stands is_ascii_digit text at ≡ true
      by (inr e) h =
          let same : at ≡ from = omega (arith, e, l) in
          rw same (int_first from to h)
      by (inl e) (inl h) = let f : ⊥ = omega (arith, e, m, h.1) in absurd f
      by (inl e) (inr h) = h.1.all at (omega (arith, e)) m

  pub int_digits : (from to : ℕ) → IsInt text from to → IsDigits text from to
  int_digits from to h = record {
    onward = omega (arith, int_some from to h);
    all = λ at l m. int_all from to at h l m;
  }

  int_of : (at w : ℕ) → IsRun at w → at < w → (stands is_zero text at ≡ true → w ≡ at + 1)
      → IsInt text at w
  int_of at w run some zero = by (stands is_zero text at) refl
    where
      by : (b : Bool) → stands is_zero text at ≡ b → IsInt text at w
      by true h = inl (h, zero h)
      by false h = inr (
        nine text at h (run.digits.all at (omega arith) some),
        record {
          onward = omega (arith, some);
          all = λ q l m. run.digits.all q (omega (arith, l)) m;
        },
      )

  -- ---- where a digit follows, the number ends

  no_frac_at : (q exp : ℕ) → stands is_ascii_digit text q ≡ true → (exp ≡ q) ⊎ IsFrac text q exp
      → exp ≡ q
  no_frac_at q exp d (inl h) = h
  no_frac_at q exp d (inr h) =
      let n = apart is_ascii_digit (is_point 46) text q no_point d in
      let p = h.point in
      cc

  no_exp_at : (q end : ℕ) → stands is_e text q ≡ false → (end ≡ q) ⊎ IsExp text q end → end ≡ q
  no_exp_at q end n (inl h) = h
  no_exp_at q end n (inr h) = let p = h.mark in cc

  no_tail_at : (q exp end : ℕ) → stands is_ascii_digit text q ≡ true
      → (exp ≡ q) ⊎ IsFrac text q exp → (end ≡ exp) ⊎ IsExp text exp end → end ≡ q
  no_tail_at q exp end d f x =
      no_exp_at q end (apart is_ascii_digit is_e text q no_e d)
      (subst (λ (z : ℕ). (end ≡ z) ⊎ IsExp text z end) (no_frac_at q exp d f) x)

  -- ---- what is found of a number: its sign and its digits; then a fraction or none, and an
  -- exponent or none

  pub record IsScan (start at w : ℕ) : Type 0 where
    pub minus : stands is_minus text start ≡ true → at ≡ start + 1
    pub plain : stands is_minus text start ≡ false → at ≡ start
    pub whole : IsRun at w

  pub record IsPart (first to : ℕ) (begins : ℕ → Bool) (from : ℕ) : Type 0 where
    pub mark : stands begins text from ≡ true
    pub run : IsRun first to
    pub some : first < to

  pub record IsNoPart (first to : ℕ) (begins : ℕ → Bool) (from : ℕ) : Type 0 where
    pub ends : to ≡ from
    pub none : stands begins text from ≡ true → stands is_ascii_digit text first ≡ false

  abbrev pub IsPartOrNone : ℕ → ℕ → (ℕ → Bool) → ℕ → Type 0
  IsPartOrNone first to begins from = IsPart first to begins from ⊎ IsNoPart first to begins from

  module _ (start at w : ℕ) (s : IsScan start at w) where
    pub minus_is : IsOptional text is_minus start at
    minus_is = by (stands is_minus text start) refl
      where
        by : (b : Bool) → stands is_minus text start ≡ b → IsOptional text is_minus start at
        by true h = inr (h, s.minus h)
        by false h = inl (s.plain h)

    same_int : (int : ℕ) → IsOptional text is_minus start int
        → stands is_ascii_digit text int ≡ true → int ≡ at
    same_int int (inl h) d =
        let there = subst (λ (z : ℕ). stands is_ascii_digit text z ≡ true) h d in
        h ∙ sym (s.plain (apart is_ascii_digit is_minus text start no_minus there))
    same_int int (inr h) d = h.1 ∙ sym (s.minus h.0)

    module _ (other : ℕ) (n : IsJsonNumber text start other) where
      int_is : n.int ≡ at
      int_is = same_int n.int n.minus (int_first n.int n.frac n.integer)

      int_at : IsInt text at n.frac
      int_at = subst (λ (z : ℕ). IsInt text z n.frac) int_is n.integer

      frac_within : n.frac ≤ w
      frac_within = run_within at w n.frac s.whole (int_digits at n.frac int_at)

      frac_onward : at < n.frac
      frac_onward = int_some at n.frac int_at

      before_w : n.frac < w → other ≡ n.frac
      before_w l =
          no_tail_at n.frac n.exp other
          (s.whole.digits.all n.frac (omega (arith, frac_onward)) l) n.fraction n.exponent

    -- ---- none

    pub none : at ≡ w → (end : ℕ) → IsJsonNumber text start end → ⊥
    none h end n = omega (arith, h, frac_within end n, frac_onward end n)

    -- ---- a `0` that is followed by digits

    pub zero_alone : stands is_zero text at ≡ true → at + 1 < w → IsLongest text start (at + 1)
    zero_alone z l = record {
      is = record {
        int = at;
        frac = at + 1;
        exp = at + 1;
        minus = minus_is;
        integer = inl (z, refl);
        fraction = inl refl;
        exponent = inl refl;
      };
      longest = λ other n. by other n (int_at other n);
    }
      where
        by : (other : ℕ) (n : IsJsonNumber text start other) → IsInt text at n.frac
            → other ≤ at + 1
        by other n (inl h) =
            let end = before_w other n (omega (arith, l, h.1)) in
            omega (arith, end, h.1)
        by other n (inr h) =
            let no = apart is_digit1_9 is_zero text at no_zero h.0 in
            cc

    -- ---- digits, and what follows them

    module _ (some : at < w) (zero : stands is_zero text at ≡ true → w ≡ at + 1) where
      pub integer_is : IsInt text at w
      integer_is = int_of at w s.whole some zero

      module _ (q x end : ℕ) (sign : IsOptional text is_sign (q + 1) x)
          (same_first : (first : ℕ) → IsOptional text is_sign (q + 1) first
          → stands is_ascii_digit text first ≡ true → first ≡ x)
          (fraction : IsPartOrNone (w + 1) q (is_point 46) w)
          (exponent : IsPartOrNone x end is_e q) where
        frac_is : (q ≡ w) ⊎ IsFrac text w q
        frac_is = by fraction
          where
            by : IsPartOrNone (w + 1) q (is_point 46) w → (q ≡ w) ⊎ IsFrac text w q
            by (inl h) = inr (record { point = h.mark; digits = h.run.digits; some = h.some })
            by (inr h) = inl h.ends

        exp_is : (end ≡ q) ⊎ IsExp text q end
        exp_is = by exponent
          where
            by : IsPartOrNone x end is_e q → (end ≡ q) ⊎ IsExp text q end
            by (inl h) = inr (record {
              first = x;
              mark = h.mark;
              sign = sign;
              digits = h.run.digits;
              some = h.some;
            })
            by (inr h) = inl h.ends

        onward : (w ≤ q) × (q ≤ end)
        onward = (by_frac frac_is, by_exp sign exp_is)
          where
            by_frac : (q ≡ w) ⊎ IsFrac text w q → w ≤ q
            by_frac (inl h) = omega (arith, h)
            by_frac (inr h) = omega (arith, h.some)

            by_exp : IsOptional text is_sign (q + 1) x → (end ≡ q) ⊎ IsExp text q end → q ≤ end
            by_exp o (inl h) = omega (arith, h)
            by_exp o (inr h) = sign_first h.sign
              where
                sign_first : IsOptional text is_sign (q + 1) h.first → q ≤ end
                sign_first (inl f) = omega (arith, f, h.some)
                sign_first (inr f) = omega (arith, f.1, h.some)

        tail : (other : ℕ) → (other ≡ q) ⊎ IsExp text q other → other ≤ end
        tail other (inl h) = omega (arith, h, onward.1)
        tail other (inr h) = by exponent
          where
            digit : stands is_ascii_digit text h.first ≡ true
            digit = h.digits.all h.first (omega arith) h.some

            same : h.first ≡ x
            same = same_first h.first h.sign digit

            by : IsPartOrNone x end is_e q → other ≤ end
            by (inl k) =
                run_within x end other k.run
                (subst (λ (z : ℕ). IsDigits text z other) same h.digits)
            by (inr k) =
                let here = subst (λ (z : ℕ). stands is_ascii_digit text z ≡ true) same digit in
                let no = k.none h.mark in
                cc

        at_w : (exp other : ℕ) → (exp ≡ w) ⊎ IsFrac text w exp
            → (other ≡ exp) ⊎ IsExp text exp other → other ≤ end
        at_w exp other f k = by fraction f
          where
            at_this : (z : ℕ) → exp ≡ z → (other ≡ z) ⊎ IsExp text z other
            at_this z e = subst (λ (z : ℕ). (other ≡ z) ⊎ IsExp text z other) e k

            within : (exp < q) ⊎ (q ≤ exp) → IsFrac text w exp → IsRun (w + 1) q → other ≤ end
            within (inl l) g run =
                let d = run.digits.all exp g.digits.onward l in
                let same = no_exp_at exp other (apart is_ascii_digit is_e text exp no_e d) k in
                omega (arith, same, l, onward.1)
            within (inr l) g run =
                let r = run_within (w + 1) q exp run g.digits in
                tail other (at_this q (omega (arith, r, l)))

            by : IsPartOrNone (w + 1) q (is_point 46) w → (exp ≡ w) ⊎ IsFrac text w exp
                → other ≤ end
            by (inl h) (inl e) =
                let same =
                no_exp_at w other (apart (is_point 46) is_e text w point_no_e h.mark)
                (at_this w e) in
                omega (arith, same, onward)
            by (inl h) (inr g) = within (cases_lt exp q) g h.run
            by (inr h) (inl e) = tail other (at_this q (e ∙ sym h.ends))
            by (inr h) (inr g) =
                let d = g.digits.all (w + 1) (omega arith) g.some in
                let no = h.none g.point in
                cc

        pub longest : IsLongest text start end
        longest = record {
          is = record {
            int = at;
            frac = w;
            exp = q;
            minus = minus_is;
            integer = integer_is;
            fraction = frac_is;
            exponent = exp_is;
          };
          longest = λ other n. by other n (cases_lt n.frac w);
        }
          where
            by : (other : ℕ) (n : IsJsonNumber text start other)
                → (n.frac < w) ⊎ (w ≤ n.frac) → other ≤ end
            by other n (inl l) = let same = before_w other n l in omega (arith, same, l, onward)
            by other n (inr l) =
                let same : n.frac ≡ w = omega (arith, l, frac_within other n) in
                at_w n.exp other
                (subst (λ (z : ℕ). (n.exp ≡ z) ⊎ IsFrac text z n.exp) same n.fraction) n.exponent
