use Rattle.std.proofs.Common.{refl, sym, arith}
use Rattle.lexical_digits.proofs.Fields.CarriedByCursor.{carried}
use Rattle.lexical_digits.proofs.skip.bytes.Bytes.look.Goals as goal

pub invariant_of-self-inside : goal.invariant_of-self-inside
invariant_of-self-inside c = carried c.self.inside c.look.ensures c.self.inside.holds

pub returns : goal.returns
returns c = rw (sym c.self.view_is) (record {
  byte = c.in_ok-byte.ensures;
  state = c.look.ensures.state c.self.inside.slc.now c.self.inside.format;
  run = refl;
  looks = record {
    at_least = omega (arith, c.look.ensures.looks);
    at_most = omega (arith, c.look.ensures.looks);
  };
})
