use Rattle.std.proofs.Common.{List, ℕ, ap, ◌∙◌, flat_map, rules}
use Rattle.std.proofs.lemmas.List.Folds.{flat_map-map}
use Rattle.digest.specs.Sha256.{be32, bytes_of}
use Rattle.digest.proofs.Arrays.{made_by_map}
use Rattle.digest.proofs.hash.to_bytes.Goals as goal

pub returns : goal.returns
unfolding bytes_of
returns c =
    let s = c.args.s in
    c.copy_from_slice.ensures.after ∙ c.as_flattened.ensures.value
    ∙ ap (λ (words : List (List ℕ)). flat_map (λ x. x) words) (made_by_map _ be32 _ (λ x y q k. search rules) s c.map-words.result 8 0 (search rules) c.map-words.ensures.items)
    ∙ flat_map-map (λ x. x) be32 s
