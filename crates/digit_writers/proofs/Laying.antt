-- One turn of the loops that write digits from the last one back.
use Rattle.std.proofs.Common.{◌≡◌, ℕ, zero, suc, ◌+◌, ◌-◌, ◌*◌, ◌/◌, ◌%◌, ◌^◌, ◌<◌, ◌≤◌, Bool, List, [], ◌∷◌, ◌++◌, length, set, refl, sym, ap, subst, ◌∙◌, inl, inr, arith, length-append}
use Rattle.std.specs.List.{splice}
use Rattle.std.specs.Fmt.{digit_glyph}
use Rattle.std.proofs.Math.Nat.{pow-zero, div-one, div-eq_of_lt, zero-mod, add-mul-mod_self_left}
use Rattle.std.proofs.lemmas.Nat.{div-add-mod', div-mul-add, mod_below}
use Rattle.std.proofs.lemmas.Bool.{cases_lt}
use Rattle.digit_writers.specs.Digits.{last_digits}
use Rattle.digit_writers.specs.Layouts.{grouped, before, gaps}
use Rattle.digit_writers.proofs.LastDigits.{last_split, length_last, no_digits, last_front, quotient_more, quotient_both}
use Rattle.digit_writers.proofs.Splices.{before_it, one_spliced, none_spliced, length_spliced}
use Rattle.digit_writers.proofs.Grouped.{group_none, group_zero, group_front, some_before}

-- ---- how many separators there are

gaps_of : (e k : ℕ) → 0 < e → gaps e k ≡ (k - 1) / e
gaps_of zero k positive = absurd (omega arith)
gaps_of (suc e) k positive = refl

-- with one group more, and with one group alone
gaps_more : (e k : ℕ) → 0 < e → e < k → gaps e k ≡ gaps e (k - e) + 1
gaps_more e k positive l =
    let j : ℕ = k - e - 1 in
    let q = j / e in
    let parts : q * e + j % e ≡ j = div-add-mod' j e in
    let sum : k - 1 ≡ (q + 1) * e + j % e = grind (arith, parts, l) in
    let one : (k - 1) / e ≡ q + 1 =
    ap (λ (x : ℕ). x / e) sum ∙ div-mul-add (q + 1) e (j % e) (mod_below j e positive) in
    omega (arith, gaps_of e k positive, gaps_of e (k - e) positive, one)

gaps_none : (e k : ℕ) → (0 < e → k ≤ e) → gaps e k ≡ 0
gaps_none zero k few = refl
gaps_none (suc e) k few = div-eq_of_lt (omega (arith, few (omega arith)))

whole_more : (k size e : ℕ) → size ≡ e → k % e ≡ 0 → (k + size) % e ≡ 0
whole_more k size e same whole =
    let one : k + e * 1 ≡ k + size = omega (arith, same) in
    sym (ap (λ (x : ℕ). x % e) one) ∙ add-mul-mod_self_left k e 1 ∙ whole

module _ (radix : ℕ) (upper : Bool) (n : ℕ) where
  abbrev last : ℕ → List ℕ
  last k = last_digits radix upper k n

  -- ---- so many digits, one after another

  -- those that were written stand at the end
  pub record IsPut (count at done left : ℕ) (old out : List ℕ) : Type 0 where
    pub written : out ≡ splice old (at + (count - done)) (at + count) (last done)
    pub quotient : left ≡ n / radix ^ done

  pub put_none : (count at : ℕ) (old : List ℕ) → IsPut count at 0 n old old
  put_none count at old =
      let all : at + (count - 0) ≡ at + count = omega arith in
      record {
        written =
            sym (ap (λ (from : ℕ). splice old from (at + count) (last 0)) all
            ∙ ap (splice old (at + count) (at + count)) (no_digits radix upper n)
            ∙ none_spliced old (at + count));
        quotient = sym (ap (λ (x : ℕ). n / x) (pow-zero radix) ∙ div-one n);
      }

  pub put_more : (count at done left byte more : ℕ) (old out new : List ℕ) → done < count
      → at + count ≤ length old → IsPut count at done left old out
      → byte ≡ digit_glyph upper (left % radix) → new ≡ set out (at + (count - 1 - done)) byte
      → more ≡ left / radix → IsPut count at (done + 1) more old new
  put_more count at done left byte more old out new l room is digit write rest =
      let p : ℕ = at + (count - 1 - done) in
      let next : p + 1 ≡ at + (count - done) = omega (arith, l) in
      let here : p ≡ at + (count - (done + 1)) = omega (arith, l) in
      let glyph : byte ≡ digit_glyph upper (n / radix ^ done % radix) =
      digit ∙ ap (λ (q : ℕ). digit_glyph upper (q % radix)) is.quotient in
      let long : length out ≡ length old =
      ap length is.written ∙ length_spliced old (last done) (at + (count - done)) (at + count)
      (omega (arith, l, length_last radix upper done n)) (omega (arith, room)) in
      let one : set out p byte ≡ splice out p (at + (count - done)) (byte ∷ []) =
      one_spliced out p byte (omega (arith, long, room, l))
      ∙ ap (λ (end : ℕ). splice out p end (byte ∷ [])) next in
      record {
        written =
            write ∙ one
            ∙ ap (λ (xs : List ℕ). splice xs p (at + (count - done)) (byte ∷ [])) is.written
            ∙ before_it old (byte ∷ []) (last done) p (at + (count - done)) (at + count)
            (omega (arith, next)) (omega (arith, l, length_last radix upper done n)) room
            ∙ ap (splice old p (at + count))
            (ap (λ (d : ℕ). d ∷ last done) glyph ∙ sym (last_front radix upper done n))
            ∙ ap (λ (from : ℕ). splice old from (at + count) (last (done + 1))) here;
        quotient = rest ∙ ap (λ (q : ℕ). q / radix) is.quotient ∙ quotient_more n radix done;
      }

  pub put_all : (count at done left : ℕ) (old out : List ℕ) → done ≡ count
      → IsPut count at done left old out
      → (out ≡ splice old at (at + count) (last count)) × (left ≡ n / radix ^ count)
  put_all count at done left old out all is =
      let none : at + (count - count) ≡ at = omega arith in
      let same : IsPut count at count left old out =
      subst (λ (d : ℕ). IsPut count at d left old out) all is in (
        same.written ∙ ap (λ (from : ℕ). splice old from (at + count) (last count)) none,
        same.quotient,
      )

  -- ---- groups, one after another

  module _ (separator every : ℕ) where
    abbrev group : List ℕ → List ℕ
    group ds = grouped separator every ds

    -- the last so many digits in whole groups, and the separator before them
    abbrev tail : ℕ → List ℕ
    tail done = before separator every done ++ group (last done)

    -- those that were written stand at the end
    pub record IsLaid (count start end done more at left : ℕ) (old out : List ℕ) : Type 0 where
      pub sum : done + more ≡ count
      pub some : 0 < more
      pub whole : done % every ≡ 0
      pub whole_zero : every ≡ 0 → done ≡ 0
      pub place : at ≡ start + more + gaps every more
      pub fits : at + length (tail done) ≡ end
      pub quotient : left ≡ n / radix ^ done
      pub written : out ≡ splice old at end (tail done)

    tail_zero : tail 0 ≡ []
    tail_zero = ap group (no_digits radix upper n) ∙ group_none separator every

    pub laid_none : (count start end : ℕ) (old : List ℕ) → 0 < count
        → start + count + gaps every count ≡ end → IsLaid count start end 0 count end n old old
    laid_none count start end old some room = record {
      sum = omega arith;
      some = some;
      whole = zero-mod every;
      whole_zero = λ _. refl;
      place = sym room;
      fits = omega (arith, ap length tail_zero);
      quotient = sym (ap (λ (x : ℕ). n / x) (pow-zero radix) ∙ div-one n);
      written = sym (ap (splice old end end) tail_zero ∙ none_spliced old end);
    }

    -- so many digits before whole groups are all of them
    front : (done more left : ℕ) → 0 < more → more ≤ every → done % every ≡ 0
        → left ≡ n / radix ^ done
        → last_digits radix upper more left ++ tail done ≡ group (last (more + done))
    front done more left some few whole quotient =
        let high : List ℕ = last_digits radix upper more left in
        let long : length (last done) ≡ done = length_last radix upper done n in
        let wide : length high ≡ more = length_last radix upper more left in
        let split : last (more + done) ≡ high ++ last done =
        last_split radix upper done more n
        ∙ ap (λ (q : ℕ). last_digits radix upper more q ++ last done) (sym quotient) in
        sym (ap group split
        ∙ group_front separator every high (last done) (omega (arith, wide, some))
        (omega (arith, wide, few))
        (ap (λ (k : ℕ). k % every) long ∙ whole)
        ∙ ap (λ (k : ℕ). high ++ (before separator every k ++ group (last done))) long)

    -- one group more, and the separator before it
    pub laid_more : (count start end done more at left size : ℕ) (old out new newer : List ℕ)
        (rest : ℕ) → IsLaid count start end done more at left old out → end ≤ length old
        → 0 < every → size ≡ every → size < more
        → new ≡ splice out (at - size) (at - size + size) (last_digits radix upper size left)
        → rest ≡ left / radix ^ size → newer ≡ set new (at - size - 1) separator
        → IsLaid count start end (done + size) (more - size) (at - size - 1) rest old newer
    laid_more count start end done more at left size old out new newer rest is within positive same
        l first quotient second =
        let gap = gaps_more every more positive (omega (arith, same, l)) in
        let fewer : gaps every (more - size) ≡ gaps every (more - every) =
        ap (λ (x : ℕ). gaps every (more - x)) same in
        let high : List ℕ = last_digits radix upper size left in
        let wide : length high ≡ size = length_last radix upper size left in
        let p : ℕ = at - size - 1 in
        let room : size + 1 ≤ at = omega (arith, is.place, gap, l) in
        let next : p + 1 ≡ at - size = omega (arith, room) in
        let back : at - size + size ≡ at = omega (arith, room) in
        let whole : (done + size) % every ≡ 0 = whole_more done size every same is.whole in
        let group_first : high ++ tail done ≡ group (last (size + done)) =
        front done size left (omega (arith, positive, same)) (omega (arith, same)) is.whole
        is.quotient in
        let turned : size + done ≡ done + size = omega arith in
        let tail_more : separator ∷ (high ++ tail done) ≡ tail (done + size) =
        ap (λ (t : List ℕ). separator ∷ t) (group_first ∙ ap (λ (k : ℕ). group (last k)) turned)
        ∙ ap (λ (b : List ℕ). b ++ group (last (done + size)))
        (sym (some_before separator every (done + size) positive
        (omega (arith, positive, same)) whole)) in
        let begun : new ≡ splice old (at - size) end (high ++ tail done) =
        first ∙ ap (λ (e : ℕ). splice out (at - size) e high) back
        ∙ ap (λ (xs : List ℕ). splice xs (at - size) at high) is.written
        ∙ before_it old high (tail done) (at - size) at end (omega (arith, wide, room))
        (sym is.fits) within in
        let joined = length-append high (tail done) in
        let long : length new ≡ length old =
        ap length begun ∙ length_spliced old (high ++ tail done) (at - size) end
        (omega (arith, joined, wide, is.fits, room)) within in
        let ended : at - size + length (high ++ tail done) ≡ end =
        omega (arith, joined, wide, is.fits, room) in
        record {
          sum = omega (arith, is.sum, l);
          some = omega (arith, l);
          whole = whole;
          whole_zero = λ z. absurd (omega (arith, positive, z));
          place = omega (arith, is.place, gap, fewer, same, l);
          fits = omega (arith, ap length tail_more, ended, next);
          quotient =
              quotient ∙ ap (λ (q : ℕ). q / radix ^ size) is.quotient
              ∙ quotient_both n radix done size;
          written =
              second
              ∙ one_spliced new p separator (omega (arith, long, next, within, ended))
              ∙ ap (λ (e : ℕ). splice new p e (separator ∷ [])) next
              ∙ ap (λ (xs : List ℕ). splice xs p (at - size) (separator ∷ [])) begun
              ∙ before_it old (separator ∷ []) (high ++ tail done) p (at - size) end
              (omega (arith, next)) (sym ended) within
              ∙ ap (splice old p end) tail_more;
        }

    -- the first group
    pub laid_all : (count start end done more at left size : ℕ) (old out new : List ℕ)
        → IsLaid count start end done more at left old out → end ≤ length old
        → (0 < every → size ≡ every) → more ≤ size
        → new ≡ splice out start (start + more) (last_digits radix upper more left)
        → new ≡ splice old start end (group (last count))
    laid_all count start end done more at left size old out new is within grouped_size few first =
        let high : List ℕ = last_digits radix upper more left in
        let wide : length high ≡ more = length_last radix upper more left in
        let alone : gaps every more ≡ 0 =
        gaps_none every more (λ p. omega (arith, few, grouped_size p)) in
        let here : start + more ≡ at = omega (arith, is.place, alone) in
        let turned : more + done ≡ count = omega (arith, is.sum) in
        let text : high ++ tail done ≡ group (last (more + done)) =
        elim (cases_lt 0 every) [
          | inl p ↦ front done more left is.some (omega (arith, few, grouped_size p)) is.whole
              is.quotient
          | inr none ↦ ungrouped done more left (omega (arith, none))
              (is.whole_zero (omega (arith, none))) is.quotient
        ] in
        first ∙ ap (λ (e : ℕ). splice out start e high) here
        ∙ ap (λ (xs : List ℕ). splice xs start at high) is.written
        ∙ before_it old high (tail done) start at end (omega (arith, wide, here)) (sym is.fits)
        within
        ∙ ap (splice old start end) (text ∙ ap (λ (k : ℕ). group (last k)) turned)
      where
        ungrouped : (done more left : ℕ) → every ≡ 0 → done ≡ 0 → left ≡ n / radix ^ done
            → last_digits radix upper more left ++ tail done ≡ group (last (more + done))
        ungrouped done more left none zeros quotient =
            let high : List ℕ = last_digits radix upper more left in
            let split : last (more + done) ≡ high ++ last done =
            last_split radix upper done more n
            ∙ ap (λ (q : ℕ). last_digits radix upper more q ++ last done) (sym quotient) in
            let empty : last done ≡ [] = ap last zeros ∙ no_digits radix upper n in
            let nothing : tail done ≡ [] = ap tail zeros ∙ tail_zero in
            ap (λ (t : List ℕ). high ++ t) (nothing ∙ sym empty) ∙ sym split
            ∙ sym (as_is (last (more + done)) none)
          where
            as_is : (ds : List ℕ) → every ≡ 0 → group ds ≡ ds
            as_is ds none =
                subst (λ (e : ℕ). grouped separator e ds ≡ ds) (sym none) (group_zero separator ds)
