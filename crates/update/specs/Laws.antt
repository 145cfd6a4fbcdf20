-- What the reader and the writer promise, above their definitions.
use Rattle.std.specs.Prelude.{◌≡◌, ℕ, ◌<◌, ◌≤◌, List, length, take, drop, Ok, Err, Result, slice_index}
use Rattle.update.specs.declared.parts.Parts.{Parts}
use Rattle.update.specs.declared.refusal.Refusal.{Refusal}
use Rattle.update.specs.Contents.{Contents, contents}
use Rattle.update.specs.Layout.{Formed, Fitting, TextOf}
use Rattle.update.specs.Reading.{reads}
use Rattle.update.specs.Refusals.{number_of, place_of}
use Rattle.update.specs.Writing.{writes}

abbrev pub Bytes : List ℕ → Type 0
Bytes l = (i : ℕ) → slice_index l i < 256

-- t is the text of p and of no other parts, and the writer makes it of them
pub record OnlyTextOf (p : Contents) (t : List ℕ) : Type 0 where
  pub text_of : TextOf p t
  pub written : writes p ≡ Ok t
  pub only : (q : Contents) → Fitting q → TextOf q t → q ≡ p
  pub at_least : 3 ≤ length t
  pub at_most : length t ≤ 363

-- t is the text of no parts, and is refused for its length, map, predecessors or value, at a place in it or at its end
pub record NoText (t : List ℕ) (e : Refusal) : Type 0 where
  pub of_none : (q : Contents) → Fitting q → TextOf q t → ⊥
  pub number : number_of e ≤ 4
  pub place : place_of e ≤ length t

-- the reader accepts the texts of some parts, and answers these; it refuses what is the text of none
abbrev pub AcceptsTexts : List ℕ → Result Parts Refusal → Type 0
AcceptsTexts t (Ok p) = OnlyTextOf (contents p) t
AcceptsTexts t (Err e) = NoText t e

-- the first n bytes of the buffer are the text of p, which is read as p; the others are as they were
pub record Written (p : Contents) (out : List ℕ) (n : ℕ) (out' : List ℕ) : Type 0 where
  pub text_of : TextOf p (take n out')
  pub read_back : reads (take n out') ≡ Ok p
  pub later : drop n out' ≡ drop n out

-- the buffer was too small, or the parts are not formed, and it is as it was
pub record Unwritten (p : Contents) (out : List ℕ) (e : Refusal) (out' : List ℕ) : Type 0 where
  pub not_formed : 363 ≤ length out → Formed p → ⊥
  pub place : place_of e ≡ 0
  pub unaltered : out' ≡ out

-- the writer writes what is formed into a buffer with room, and refuses all else
abbrev pub WritesTexts : Contents → List ℕ → Result ℕ Refusal → List ℕ → Type 0
WritesTexts p out (Ok n) out' = Written p out n out'
WritesTexts p out (Err e) out' = Unwritten p out e out'
