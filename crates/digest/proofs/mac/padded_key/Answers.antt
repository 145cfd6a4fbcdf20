use Rattle.std.proofs.Common.{◌≤◌, length, ap, ◌∙◌, arith, rules}
use lib.Bits.{bit_xor}
use Rattle.digest.proofs.Arrays.{made_by_map}
use Rattle.digest.proofs.Filling.{length-filled, key_padded}
use Rattle.digest.proofs.mac.padded_key.Goals as goal

pub returns : goal.returns
returns c =
    let key = c.args.key.now in
    let short : length key ≤ 64 = omega arith in
    made_by_map _ (λ b. bit_xor b c.args.pad) _ (λ x y q k. search rules) c.zero_filled.result c.map.result 64 0 (ap length c.zero_filled.ensures ∙ length-filled key short) c.map.ensures.items
    ∙ rw c.zero_filled.ensures (key_padded c.args.pad key short)
