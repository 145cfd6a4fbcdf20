-- What is shown of the parts of a text: a line for each field that is there.
use Rattle.std.specs.Prelude.{ℕ, Bool, true, false, cond, ◌&&◌, List, [], ◌++◌, is_some, Some, None, codes, decimal, Option, nat_le}
use Rattle.std.specs.List.{flat_map, list_all}
use Rattle.hexadecimal.specs.Showing.{shown_bytes}
use Rattle.update.specs.declared.parts.Address.{Address}
use Rattle.update.specs.Contents.{Contents}
use Rattle.update.specs.Order.{digests_in}

-- a printable character of ASCII
abbrev pub printable : ℕ → Bool
printable b = nat_le 32 b && nat_le b 126

abbrev pub text_in : List ℕ → Option (List ℕ)
text_in v = cond (list_all printable v) (Some v) None

-- nothing where there is nothing
abbrev pub if_there : {A : Type 0} → (A → Option (List ℕ)) → Option A → Option (List ℕ)
if_there output None = Some []
if_there output (Some x) = output x

abbrev pub address_shown : Option Address → List ℕ
address_shown None = []
address_shown (Some a) = codes "\n  table " ++ decimal a.table ++ codes ", row " ++ decimal a.row ++ codes ", column " ++ decimal a.column

abbrev pub quoted : Option (List ℕ) → List ℕ
quoted None = []
quoted (Some text) = codes " \"" ++ text ++ codes "\""

abbrev pub value_shown : Bool → Option (List ℕ) → List ℕ
value_shown true None = codes "\n  no value: the entry is emptied"
value_shown false None = []
value_shown addressed (Some v) = codes "\n  value " ++ shown_bytes v ++ quoted (text_in v)

abbrev pub predecessor_line : List ℕ → List ℕ
predecessor_line digest = codes "\n  predecessor " ++ shown_bytes digest

abbrev pub predecessors_shown : Option (List ℕ) → List ℕ
predecessors_shown None = []
predecessors_shown (Some l) = flat_map predecessor_line (digests_in l)

abbrev pub seal_shown : Option (List ℕ) → List ℕ
seal_shown None = []
seal_shown (Some l) = codes "\n  seal " ++ shown_bytes l

abbrev pub parts_shown : Contents → List ℕ
parts_shown p =
    codes "\n  author " ++ decimal p.author ++ address_shown p.address
    ++ value_shown (is_some p.address) p.value ++ predecessors_shown p.predecessors ++ seal_shown p.seal
