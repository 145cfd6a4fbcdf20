-- Worked examples.
use Rattle.std.specs.Prelude.{◌≡◌, ℕ, List, [], ◌∷◌, ◌++◌, length, Some, None, Ok, Err}
use Rattle.update.specs.declared.refusal.Refusal.{Refusal}
use Rattle.update.specs.Contents.{Contents}
use Rattle.update.specs.Reading.{reads}
use Rattle.update.specs.Refusals.{number_of, place_of}

-- the reader refuses the text with that number at that place
abbrev pub Refuses : List ℕ → ℕ → ℕ → Type 0
Refuses t number place = (e : Refusal) × (reads t ≡ Err e) × (number_of e ≡ number) × (place_of e ≡ place)

-- the reader answers these parts
abbrev pub ReadsAs : List ℕ → Contents → Type 0
ReadsAs t p = reads t ≡ Ok p

-- t is the text of a value at an address, and these texts are read or refused so
pub record Examples (t : List ℕ) : Type 0 where
  pub author_alone : ReadsAs (0x01 ∷ 0x00 ∷ 0x07 ∷ []) (record { author = 7; address = None; predecessors = None; value = None; seal = None })
  pub empty : Refuses [] 1 0
  pub left_over : Refuses (0x01 ∷ 0x00 ∷ 0x07 ∷ 0x00 ∷ []) 1 3
  pub unused_bit : Refuses (0x21 ∷ 0x00 ∷ 0x07 ∷ []) 2 0
  pub no_author : Refuses (0x00 ∷ []) 2 0
  pub value_alone : Refuses (0x09 ∷ 0x00 ∷ 0x07 ∷ 0x01 ∷ 0x41 ∷ []) 2 0
  pub this_text : t ≡ 0x0b ∷ 0x00 ∷ 0x07 ∷ 0x02 ∷ 0x00 ∷ 0x00 ∷ 0x00 ∷ 0x05 ∷ 0x01 ∷ 0x02 ∷ 0x32 ∷ 0x37 ∷ []
  pub value_at_address : ReadsAs t
      (record { author = 7; address = Some (record { table = 2; row = 5; column = 1 }); predecessors = None; value = Some (0x32 ∷ 0x37 ∷ []); seal = None })
  pub empty_value : Refuses (0x0b ∷ 0x00 ∷ 0x07 ∷ 0x02 ∷ 0x00 ∷ 0x00 ∷ 0x00 ∷ 0x05 ∷ 0x01 ∷ 0x00 ∷ []) 4 9
  pub no_predecessors : Refuses (0x05 ∷ 0x00 ∷ 0x07 ∷ 0x00 ∷ []) 3 3
  pub nine_predecessors : Refuses (0x05 ∷ 0x00 ∷ 0x07 ∷ 0x09 ∷ []) 3 3
  pub one_digest_twice : (d : List ℕ) → length d ≡ 32 → Refuses (0x05 ∷ 0x00 ∷ 0x07 ∷ 0x02 ∷ d ++ d) 3 36
