use Rattle.std.proofs.Common.{◌≡◌, ◌*◌, ◌^◌, ◌≤◌, ◌∙◌, arith}
use Rattle.std.proofs.Math.Nat.{mod-eq_of_lt, pow-le-pow_right}
use Rattle.digit_words.proofs.HexadecimalWord.{sixteen_power}
use Rattle.digit_words.proofs.hexadecimal.sixteen_to.Goals as goal

pub returns : goal.returns
returns c =
    let power = sixteen_power c.args.count c.requires in
    let few : 16 ^ c.args.count ≤ 16 ^ 8 = pow-le-pow_right {n = 16} (omega arith) c.requires in
    let one : 1 * 2 ^ (4 * c.args.count) ≡ 16 ^ c.args.count = omega (arith, power) in
    mod-eq_of_lt (omega (arith, one, few)) ∙ one
