-- A list that was written is read back.
use Rattle.std.proofs.Common.{◌≡◌, ℕ, ℤ, zero, suc, ◌+◌, ◌-◌, ◌<◌, ◌≤◌, Bool, true, false, not, List, [], ◌∷◌, ◌++◌, length, take, drop, take_while, refl, sym, ap, subst, ◌∙◌, inl, inr, arith, length-append, map, All}
use Rattle.std.specs.Prelude.{pos, negsuc, ◌||◌, ◌&&◌, nat_lt, nat_eq, if◌then◌else◌, Some, None, slice_get, Result, Ok, Err, decimal}
use Rattle.std.specs.Char.{digit_value}
use Rattle.std.specs.Fmt.{signed_decimal}
use Rattle.std.specs.Str.Parse.{IsNumeral}
use Rattle.std.proofs.lemmas.Bool.{or_parts, and_parts, eq-eqb}
use Rattle.std.proofs.lemmas.Bool.Decides.{nat_tests}
use Rattle.std.proofs.lemmas.Fmt.{decimal_is_IsNumeral_wide}
use Rattle.std.proofs.lemmas.List.{drop-drop, drop_at, take_at, length-drop, length-map}
use Rattle.std.proofs.lemmas.List.Sums.{take_while-cons}
use Rattle.lexical_digits.specs.ByteSet.{accepts}
use Rattle.lexical_digits.specs.Cursor.{holds_of}
use Rattle.lexical_digits.specs.declared.skip.component.Component.TheVariants.{Integer}
use Rattle.lexical_digits.specs.declared.skip.rule.Rule.{Rule}
use Rattle.lexical_digits.specs.declared.skip.rule.Class.TheVariants.{Other}
use Rattle.lexical_digits.specs.Separators.{class, is_digit, is_separator}
use Rattle.lexical_digits.specs.State.{rule_of}
use Rattle.lexical_digits.specs.Stop.{stop}
use Rattle.lexical_digits.proofs.Calls.FirstOther.{stop_is_first}
use Rattle.digit_values.specs.declared.LiteralError.{LiteralError}
use Rattle.digit_values.specs.declared.LiteralError.TheVariants.{Empty}
use Rattle.digit_literals.specs.declared.list.Gap.{Gap}
use Rattle.digit_literals.specs.declared.list.ListEnd.TheVariants.{Over}
use Rattle.digit_values.specs.Errors.{literal_none_at}
use Rattle.digit_literals.specs.Lists.{Numbers, is_blank, has_separator, past_blanks, next_after, list_at}
use Rattle.digit_integers.specs.Integers.{integer_at}
use Rattle.digit_integers.specs.Numbers.{number_at}
use Rattle.digit_integers.specs.Written.{IsWrittenAt}
use Rattle.digit_literals.proofs.Lists.{no_blank, separator_is_no_blank}
use Rattle.digit_integers.proofs.Written.{number_read}
use Rattle.digit_lists.specs.Lists.{full_list, parsed}
use Rattle.digit_pieces.specs.Cuts.{is_integer_byte}
use Rattle.digit_writers.specs.Lists.{others_text, list_text, IsListReadBy}
use Rattle.digit_writers.specs.Written.{IsOfType}
use Rattle.digit_writers.proofs.LaidReading.{digit_is}
use Rattle.digit_writers.proofs.ListTexts.{none_left, one_left}

-- the byte at a position is the first one of what follows
first_of : (xs : List ℕ) (i : ℕ) → slice_get xs i ≡ slice_get (drop i xs) 0
first_of [] zero = refl
first_of [] (suc i) = refl
first_of (x ∷ xs) zero = refl
first_of (x ∷ xs) (suc i) = first_of xs i

-- a choice of a class
other : (rule : Rule) (byte : ℕ) → is_digit rule byte ≡ false
    → is_separator rule.separator byte ≡ false → class rule (Some byte) ≡ Other
other rule byte digit separates = rw (digit, separates) refl

-- tests of numbers
before : (m n : ℕ) → m < n → nat_lt m n ≡ true
before m n l = grind (arith, nat_tests)

before_next : (n : ℕ) → nat_lt n (n + 1) ≡ true
before_next n = before n (n + 1) (omega arith)

not_before : (n : ℕ) → nat_lt n n ≡ false
not_before n = grind (arith, nat_tests)

-- choices
or_true : (b : Bool) → (b || true) ≡ true
or_true true = refl
or_true false = refl

and_none : (b : Bool) → (b && false) ≡ false
and_none true = refl
and_none false = refl

and_false : (b : Bool) (at : ℕ) → (if b && false then Ok at else Err at) ≡ Err at
and_false true at = refl
and_false false at = refl

never_both : (one other : Bool) → (one ≡ true → other ≡ false) → other ≡ true → one ≡ false
never_both false other apart is = refl
never_both true other apart is = let never = sym (apart refl) ∙ is in absurd (cc)

-- bytes that pass
one_passed : (p : ℕ → Bool) (x : ℕ) (xs : List ℕ) → p x ≡ true
    → length (take_while p (x ∷ xs)) ≡ suc (length (take_while p xs))
one_passed p x xs passes = grind (arith, passes, take_while-cons p x xs)

none_passed : (p : ℕ → Bool) (x : ℕ) (xs : List ℕ) → p x ≡ false
    → length (take_while p (x ∷ xs)) ≡ 0
none_passed p x xs passes = grind (arith, passes, take_while-cons p x xs)

-- no number is in an empty text
module _ (rule : Rule) where
  no_integer : (most : ℕ) → integer_at rule [] 0 most ≡ Err (Empty 0)
  unfolding integer_at
  no_integer most =
      let first = stop_is_first rule [] 0 0 (omega arith) in
      let none : stop rule [] 0 0 ≡ 0 = omega (arith, first.within) in
      rw none refl

  no_number : (least most : ℕ) → number_at least most rule [] 0 ≡ Err (Empty 0)
  no_number least most = rw (and_none (nat_lt 0 least), no_integer most) refl

-- a byte that may be in an integer
record Begins (word least : ℕ) (text : List ℕ) : Type 0 where
  byte : ℕ
  bytes : List ℕ
  is : text ≡ byte ∷ bytes
  may : is_integer_byte least word byte ≡ true

module _ (word least most separator : ℕ) (gap : Gap) (by : IsListReadBy word least separator gap)
  where
    abbrev rule : Rule
    rule = rule_of word Integer

    -- ---- what a number begins with

    digit_may : (byte : ℕ) → digit_value byte < 10 → is_integer_byte least word byte ≡ true
    digit_may byte below =
        let digit : is_digit rule byte ≡ true =
        digit_is rule byte (omega (arith, by.radix.1)) (omega (arith, by.radix.1, below)) in
        rw digit refl

    digits_begin : (ds : List ℕ) → IsNumeral 10 ds → Begins word least ds
    digits_begin [] numeral = absurd (omega (arith, numeral.0))
    digits_begin (d ∷ ds) numeral =
        record { byte = d; bytes = ds; is = refl; may = digit_may d numeral.1.0 }

    minus_may : 0 < least → is_integer_byte least word 45 ≡ true
    minus_may some =
        rw (before 0 least some) (or_true (is_digit rule 45 || is_separator rule.separator 45))

    begins : (z : ℤ) → IsOfType least most z → Begins word least (signed_decimal z)
    begins (pos n) is =
        digits_begin (decimal n) (decimal_is_IsNumeral_wide n (omega (arith, is.1))).0
    begins (negsuc n) is = record {
      byte = 45;
      bytes = decimal (suc n);
      is = refl;
      may = minus_may (omega (arith, is.0));
    }

    -- a byte that may be in a number is not between two
    is_apart : (byte : ℕ) → is_integer_byte least word byte ≡ true
        → (accepts gap.separators byte ≡ false) × (accepts gap.blanks byte ≡ false)
    is_apart byte may =
        or_parts (accepts gap.separators byte) (accepts gap.blanks byte) (by.apart byte may)

    no_blank_is : (byte : ℕ) → is_integer_byte least word byte ≡ true → is_blank gap byte ≡ false
    no_blank_is byte may =
        ap (λ (b : Bool). b && not (accepts gap.separators byte)) (is_apart byte may).1

    -- ---- the separator

    between : accepts gap.separators separator || accepts gap.blanks separator ≡ true
    between = elim by.separates [
      | inl separates ↦ ap (λ (b : Bool). b || accepts gap.blanks separator) separates
      | inr blank ↦
          let both =
          and_parts (accepts gap.blanks separator) (not (accepts gap.separators separator))
          blank.1 in
          ap (λ (b : Bool). accepts gap.separators separator || b) both.0
          ∙ or_true (accepts gap.separators separator)
    ]

    -- so it is in no number
    in_none : is_integer_byte least word separator ≡ false
    in_none =
        never_both (is_integer_byte least word separator)
        (accepts gap.separators separator || accepts gap.blanks separator) (by.apart separator)
        between

    ends_there : class rule (Some separator) ≡ Other
    ends_there =
        let two = or_parts _ _ (or_parts _ _ in_none).0 in other rule separator two.0 two.1

    -- ---- in a text

    module _ (text : List ℕ) where
      abbrev one : ℕ → Result (ℤ × ℕ) LiteralError
      one = number_at least most rule text

      abbrev list : ℕ → ℕ → Numbers ℤ LiteralError
      list room start = list_at one literal_none_at gap text room start

      -- what is at a position where a number begins
      module _ (start : ℕ) (z : ℤ) (rest : List ℕ) (is : IsOfType least most z)
          (here : drop start text ≡ signed_decimal z ++ rest) where
        first : Begins word least (signed_decimal z)
        first = begins z is

        byte_is : slice_get text start ≡ Some first.byte
        byte_is =
            first_of text start ∙ ap (λ (bs : List ℕ). slice_get bs 0) here
            ∙ ap (λ (bs : List ℕ). slice_get (bs ++ rest) 0) first.is

        pub no_blanks : past_blanks gap text start ≡ start
        no_blanks =
            no_blank gap text start
            (ap (holds_of (is_blank gap)) byte_is ∙ no_blank_is first.byte first.may)

        pub separates_none : has_separator gap text start ≡ false
        separates_none =
            ap (holds_of (accepts gap.separators)) byte_is
            ∙ (is_apart first.byte first.may).0

        no_blanks_first : length (take_while (is_blank gap) (drop start text)) ≡ 0
        no_blanks_first =
            ap (λ (bs : List ℕ). length (take_while (is_blank gap) bs))
            (here ∙ ap (λ (bs : List ℕ). bs ++ rest) first.is)
            ∙ none_passed (is_blank gap) first.byte (first.bytes ++ rest)
            (no_blank_is first.byte first.may)

        abbrev end : ℕ
        end = start + length (signed_decimal z)

        pub after : drop end text ≡ rest
        after =
            sym (drop-drop (length (signed_decimal z)) start text)
            ∙ ap (drop (length (signed_decimal z))) here
            ∙ drop_at (signed_decimal z) rest (length (signed_decimal z)) refl

        -- where the text ends there, or goes on with the separator
        written : class rule (slice_get rest 0) ≡ Other
            → IsWrittenAt rule text start (signed_decimal z)
        written ends =
            let span : end - start ≡ length (signed_decimal z) = omega arith in
            record {
              same = rw span (ap (take (length (signed_decimal z))) here
                  ∙ take_at (signed_decimal z) rest (length (signed_decimal z)) refl);
              ends = ap (class rule) (first_of text end
                  ∙ ap (λ (bs : List ℕ). slice_get bs 0) after) ∙ ends;
            }

        pub number : class rule (slice_get rest 0) ≡ Other → one start ≡ Ok (z, end)
        number ends = of z is (written ends)
          where
            of : (z : ℤ) → IsOfType least most z → IsWrittenAt rule text start (signed_decimal z)
                → one start ≡ Ok (z, start + length (signed_decimal z))
            of (pos n) is at =
                number_read rule text start least most n by.radix.1 (omega (arith, is.1)) false is.0
                (λ e. absurd (cc)) at
            of (negsuc n) is at =
                number_read rule text start least most (suc n) by.radix.1 (omega (arith, is.1)) true
                (omega (arith, is.0)) (λ _. omega (arith, is.0)) at

      -- ---- after a number

      -- nothing
      over_at : (at : ℕ) → drop at text ≡ [] → at ≤ length text
          → (next_after gap text at ≡ Err at) × (at ≡ length text)
      over_at at none within =
          let long : at ≡ length text =
          omega (arith, ap length none, length-drop at text, within) in
          let nothing : slice_get text at ≡ None =
          first_of text at ∙ ap (λ (bs : List ℕ). slice_get bs 0) none in
          let past : past_blanks gap text at ≡ at =
          no_blank gap text at (ap (holds_of (is_blank gap)) nothing) in
          let separates : has_separator gap text at ≡ false =
          ap (holds_of (accepts gap.separators)) nothing in
          (rw (past, separates, not_before at) (and_false gap.blanks_separate at), long)

      -- the separator, and a number after it
      next_at : (at : ℕ) (y : ℤ) (rest : List ℕ) → IsOfType least most y
          → drop at text ≡ separator ∷ (signed_decimal y ++ rest)
          → drop (at + 1) text ≡ signed_decimal y ++ rest → next_after gap text at ≡ Ok (at + 1)
      unfolding past_blanks
      next_at at y rest is here later =
          let byte : slice_get text at ≡ Some separator =
          first_of text at ∙ ap (λ (bs : List ℕ). slice_get bs 0) here in
          elim by.separates [
            | inl separates ↦
                let there : has_separator gap text at ≡ true =
                ap (holds_of (accepts gap.separators)) byte ∙ separates in
                rw (separator_is_no_blank gap text at there, there) refl
            | inr blank ↦
                let none : length (take_while (is_blank gap) (signed_decimal y ++ rest)) ≡ 0 =
                ap (λ (bs : List ℕ). length (take_while (is_blank gap) bs)) (sym later)
                ∙ no_blanks_first (at + 1) y rest is later in
                let one : length (take_while (is_blank gap) (drop at text)) ≡ 1 =
                ap (λ (bs : List ℕ). length (take_while (is_blank gap) bs)) here
                ∙ one_passed (is_blank gap) separator (signed_decimal y ++ rest) blank.1
                ∙ ap suc none in
                let passed : past_blanks gap text at ≡ at + 1 = ap (λ (k : ℕ). at + k) one in
                let separates : has_separator gap text (at + 1) ≡ false =
                separates_none (at + 1) y rest is later in
                rw (passed, separates, blank.0, before_next at) refl
          ]

      -- ---- the list

      over_is : (room at end over : ℕ) (x : ℤ) → past_blanks gap text at ≡ at
          → one at ≡ Ok (x, end) → next_after gap text end ≡ Err over
          → list (suc room) at ≡ (x ∷ [], Over over)
      unfolding list_at
      over_is room at end over x past is more = rw (past, is, more) refl

      next_is : (room at end next : ℕ) (x : ℤ) → past_blanks gap text at ≡ at
          → one at ≡ Ok (x, end) → next_after gap text end ≡ Ok next
          → list (suc room) at ≡ (x ∷ (list room next).0, (list room next).1)
      unfolding list_at
      next_is room at end next x past is more = rw (past, is, more) refl

      listed : (zs : List ℤ) (z : ℤ) (start room : ℕ) → start ≤ length text
          → drop start text ≡ signed_decimal z ++ others_text separator zs
          → All (IsOfType least most) (z ∷ zs) → length zs < room
          → list room start ≡ (z ∷ zs, Over (length text))
      listed zs z start zero within here all l = absurd (omega (arith, l))
      listed [] z start (suc room) within here all l =
          let is : IsOfType least most z = all 0 z (omega arith) in
          let rest : List ℕ = others_text separator [] in
          let end : ℕ = start + length (signed_decimal z) in
          let none : drop end text ≡ [] = after start z rest is here ∙ none_left separator in
          let inside : end ≤ length text =
          omega (
            arith,
            within,
            ap length here,
            length-drop start text,
            length-append (signed_decimal z) rest,
          ) in
          let over = over_at end none inside in
          let ends : class rule (slice_get rest 0) ≡ Other =
          ap (λ (bs : List ℕ). class rule (slice_get bs 0)) (none_left separator) in
          over_is room start end end z (no_blanks start z rest is here)
          (number start z rest is here ends) over.0
          ∙ ap (λ (at : ℕ). (z ∷ [], Over at)) over.1
      listed (y ∷ ys) z start (suc room) within here all l =
          let is : IsOfType least most z = all 0 z (omega arith) in
          let next : IsOfType least most y = all 1 y (omega arith) in
          let rest : List ℕ = others_text separator (y ∷ ys) in
          let more : List ℕ = others_text separator ys in
          let end : ℕ = start + length (signed_decimal z) in
          let goes_on : drop end text ≡ separator ∷ (signed_decimal y ++ more) =
          after start z rest is here ∙ one_left separator y ys in
          let later : drop (end + 1) text ≡ signed_decimal y ++ more =
          sym (drop-drop 1 end text) ∙ ap (drop 1) goes_on in
          let ends : class rule (slice_get rest 0) ≡ Other =
          ap (λ (bs : List ℕ). class rule (slice_get bs 0)) (one_left separator y ys)
          ∙ ends_there in
          let inside : end + 1 ≤ length text =
          omega (arith, ap length goes_on, length-drop end text) in
          let others = listed ys y (end + 1) room inside later
          (λ k d below. all (suc k) d (omega (arith, below))) (omega (arith, l)) in
          next_is room start end (end + 1) z (no_blanks start z rest is here)
          (number start z rest is here ends) (next_at end y more next goes_on later)
          ∙ ap (λ (numbers : Numbers ℤ LiteralError). (z ∷ numbers.0, numbers.1)) others

    -- ---- what was written

    pub list_back : (z : ℤ) (zs : List ℤ) (room : ℕ) → All (IsOfType least most) (z ∷ zs)
        → length zs < room → list (list_text separator (z ∷ zs)) room 0
        ≡ (z ∷ zs, Over (length (list_text separator (z ∷ zs))))
    list_back z zs room all l =
        listed (list_text separator (z ∷ zs)) zs z 0 room (omega arith) refl all l

    none_there : one [] 0 ≡ Err (Empty 0)
    none_there = no_number rule least most

    no_list : (room : ℕ) → gap.may_trail ≡ true
        → full_list (one []) literal_none_at gap [] room 0 ≡ ([], Over 0)
    unfolding list_at past_blanks
    no_list zero trails = rw (none_there, trails) refl
    no_list (suc room) trails = rw (none_there, trails) refl

    pub full_back : (numbers : List ℤ) (room : ℕ) → All (IsOfType least most) numbers
        → length numbers ≤ room → (length numbers ≡ 0 → gap.may_trail ≡ true)
        → full_list (one (list_text separator numbers)) literal_none_at gap
        (list_text separator numbers) room 0
        ≡ (numbers, Over (length (list_text separator numbers)))
    full_back [] room all l trails = no_list room (trails refl)
    full_back (z ∷ zs) room all l trails = rw (list_back z zs room all (omega (arith, l))) refl

    pub parsed_back : (numbers : List ℤ) (room : ℕ) → All (IsOfType least most) numbers
        → length numbers ≤ room → (length numbers ≡ 0 → gap.may_trail ≡ true)
        → parsed (list_text separator numbers)
        (full_list (one (list_text separator numbers)) literal_none_at gap
        (list_text separator numbers) room 0)
        ≡ Ok (length numbers)
    parsed_back numbers room all l trails =
        let text : List ℕ = list_text separator numbers in
        let same : nat_eq (length text) (length text) ≡ true =
        eq-eqb (length text) (length text) refl in
        ap (parsed text) (full_back numbers room all l trails) ∙ rw same refl

    -- the text of the values of a slice
    module _ {V : Type 0} (value : V → ℤ) (xs : List V) (text : List ℕ) (room : ℕ)
        (is : text ≡ list_text separator (map value xs))
        (all : All (IsOfType least most) (map value xs)) (l : length xs ≤ room)
        (trails : length xs ≡ 0 → gap.may_trail ≡ true) where
      same : length (map value xs) ≡ length xs
      same = length-map xs value

      fits : length (map value xs) ≤ room
      fits = omega (arith, l, same)

      may : length (map value xs) ≡ 0 → gap.may_trail ≡ true
      may none = trails (omega (arith, none, same))

      pub written_back : full_list (one text) literal_none_at gap text room 0
          ≡ (map value xs, Over (length text))
      written_back =
          subst (λ (t : List ℕ). full_list (one t) literal_none_at gap t room 0
          ≡ (map value xs, Over (length t))) (sym is) (full_back (map value xs) room all fits may)

      pub written_parsed : parsed text (full_list (one text) literal_none_at gap text room 0)
          ≡ Ok (length xs)
      written_parsed =
          subst (λ (t : List ℕ). parsed t (full_list (one t) literal_none_at gap t room 0)
          ≡ Ok (length xs)) (sym is)
          (parsed_back (map value xs) room all fits may ∙ ap Ok same)
