-- Two calls are equal only if they are the same.
use Rattle.std.proofs.Common.{◌≡◌, true, arith}
use Rattle.std.specs.Cmp.{first_so, second_so}
use Rattle.digit_script.specs.declared.Part.{Part}
use Rattle.lexical_digits.specs.declared.ops.Op.{Op}
use Rattle.digit_script.specs.declared.Call.{Call}
use Rattle.digit_script.specs.contracts.PartPartialEq.TheImpl as part
use Rattle.lexical_digits.specs.contracts.ops.OpPartialEq.TheImpl as op
use Rattle.digit_script.specs.contracts.CallPartialEq.TheImpl as call
use Rattle.digit_script.proofs.Equality.{equal_is_same}

equal_parts : (a b : Part) → part.ghosts.eq a b ≡ true → a ≡ b
equal_parts a b e = grind arith

same_fields : (p q : Part) (o r : Op) → p ≡ q → o ≡ r
    → ◌≡◌ {A = Call} (record { part = p; op = o }) (record { part = q; op = r })
same_fields p q o r e f = cc

pub equal_calls : (a b : Call) → call.ghosts.eq a b ≡ true → a ≡ b
equal_calls a b e =
    let p = equal_parts a.part b.part (first_so _ (op.ghosts.eq a.op b.op) e) in
    let o = equal_is_same a.op b.op (second_so (part.ghosts.eq a.part b.part) _ e) in
    same_fields _ _ _ _ p o
