use Rattle.std.proofs.Common.{◌≡◌, ℕ, ◌/◌, List, rules, length, get_or, map, [], w32, ap, ◌∙◌, lit≤}
use Rattle.std.specs.List.{range_with_len}
use Rattle.std.specs.Simd.{first_chunks}
use Rattle.std.specs.Int.{from_be_bytes}
use Rattle.digest.proofs.Arrays.{made_from_fn}
use Rattle.digest.proofs.Schedule.{words_read}
use Rattle.digest.proofs.compression.load.Goals as goal

pub returns : goal.returns
returns c =
    let words = c.as_chunks.result.0.now in
    let many : length c.args.block.now / 4 ≡ 16 = ap (λ (n : ℕ). n / 4) c.told-block in
    let cut : words ≡ first_chunks 4 16 c.args.block.now = c.as_chunks.ensures.front ∙ ap (λ (n : ℕ). first_chunks 4 n c.args.block.now) many in
    made_from_fn _ (λ i. from_be_bytes w32 (get_or words i [])) _ (λ i y q k. search rules) c.from_fn.result 16 0 c.from_fn.ensures.items
    ∙ ap (λ (ws : List (List ℕ)). map (λ i. from_be_bytes w32 (get_or ws i [])) (range_with_len 0 16)) cut
    ∙ words_read c.args.block.now 16 (lit≤ tt)
