-- A line is read as a request exactly if it is spelled as one.
use Rattle.std.proofs.Common.{◌≡◌, ℕ, List, refl, subst, Some, None, Option}
use Rattle.std.proofs.lemmas.Option.{same_Some}
use Rattle.digit_requests.specs.Line.{◌>>=◌, cut, component_of, radixes_of, hexadecimal_of, flags_of, Asked, Spells, request_of}
use Rattle.digit_requests.proofs.FirstMark.{cut_splits, cut_joined}
use Rattle.digit_requests.proofs.Flags.{component_from, component_to, flags_from, flags_to}
use Rattle.digit_requests.proofs.Numbers.{radixes_from, radixes_to, hexadecimal_from, hexadecimal_to}

-- what a step that gave something came from
bind_then : {A B P : Type 0} (o : Option A) (f : A → Option B) (y : B) →
    (o >>= f) ≡ Some y → ((x : A) → o ≡ Some x → f x ≡ Some y → P) → P
bind_then None f y e go = absurd cc
bind_then (Some x) f y e go = go x refl e

pub read_spells : (line : List ℕ) (asked : Asked) → request_of line ≡ Some asked → Spells line asked
unfolding request_of
read_spells line asked e =
    bind_then (cut 32 line) _ asked e (λ c ec e1.
    bind_then (cut 32 c.1) _ asked e1 (λ r er e2.
    bind_then (cut 32 r.1) _ asked e2 (λ s es e3.
    bind_then (cut 32 s.1) _ asked e3 (λ f ef e4.
    bind_then (component_of c.0) _ asked e4 (λ k ek e5.
    bind_then (radixes_of r.0) _ asked e5 (λ m em e6.
    bind_then (hexadecimal_of s.0) _ asked e6 (λ b eb e7.
    bind_then (flags_of k f.0) _ asked e7 (λ l el e8.
    let pc = cut_splits 32 line c.0 c.1 ec in
    let pr = cut_splits 32 c.1 r.0 r.1 er in
    let ps = cut_splits 32 r.1 s.0 s.1 es in
    let pf = cut_splits 32 s.1 f.0 f.1 ef in
    subst (Spells line) (same_Some _ asked e8) (record {
      component = c.0;
      radixes = r.0;
      separator = s.0;
      flags = f.0;
      line_is = rw (pc.whole, pr.whole, ps.whole, pf.whole) refl;
      no_spaces = (pc.before, pr.before, ps.before, pf.before);
      component_is = component_from c.0 k ek;
      radixes_are = radixes_from r.0 m em;
      separator_is = hexadecimal_from s.0 b eb;
      flags_are = flags_from k f.0 l m b el;
    })))))))))

pub spells_read : (line : List ℕ) (asked : Asked) → Spells line asked → request_of line ≡ Some asked
unfolding request_of
spells_read line asked s =
    rw (
      s.line_is,
      cut_joined 32 s.component _ s.no_spaces.0,
      cut_joined 32 s.radixes _ s.no_spaces.1,
      cut_joined 32 s.separator _ s.no_spaces.2,
      cut_joined 32 s.flags asked.text s.no_spaces.3,
      component_to s.component asked.component s.component_is,
      radixes_to s.radixes asked.format.mantissa_radix asked.format.exponent_radix s.radixes_are,
      hexadecimal_to s.separator asked.format.digit_separator s.separator_is,
      flags_to asked.component s.flags asked.format s.flags_are,
    ) refl
