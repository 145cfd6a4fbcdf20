-- What the parts of a text hold, without the borrowing.
use Rattle.std.specs.Prelude.{ℕ, List, Option}
use Rattle.std.specs.Borrow.{Bor}
use Rattle.std.specs.Option.{option_map}
use Rattle.update.specs.declared.parts.Address.{Address}
use Rattle.update.specs.declared.parts.Parts.{Parts}

pub record Contents : Type 0 where
  pub author : ℕ
  pub address : Option Address
  pub predecessors : Option (List ℕ)
  pub value : Option (List ℕ)
  pub seal : Option (List ℕ)

abbrev pub borrowed : Option (Bor (List ℕ)) → Option (List ℕ)
borrowed = option_map (λ bytes. bytes.now)

abbrev pub contents : Parts → Contents
contents p = record {
  author = p.author;
  address = p.address;
  predecessors = borrowed p.predecessors;
  value = borrowed p.value;
  seal = borrowed p.seal;
}
