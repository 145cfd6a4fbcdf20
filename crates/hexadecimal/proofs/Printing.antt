-- Text that is printed piece by piece.
use Rattle.std.proofs.Common.{◌≡◌, ℕ, ◌+◌, ◌<◌, List, [], ◌++◌, length, get_or, take, sym, ap, ◌∙◌}
use Rattle.std.proofs.lemmas.List.{flat_map_more, take_more}
use Rattle.std.specs.List.{flat_map}

-- what is printed of one more of the items
pub pieces_more : {A : Type 0} (piece : A → List ℕ) (items : List A) (i : ℕ) (d : A) → i < length items
    → flat_map piece (take i items) ++ piece (get_or items i d) ≡ flat_map piece (take (i + 1) items)
pieces_more piece items i d h = flat_map_more piece [] (take i items) (get_or items i d) ∙ sym (ap (flat_map piece) (take_more items i d h))
