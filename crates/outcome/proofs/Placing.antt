-- Parts written one behind the other.
use Rattle.std.proofs.Common.{◌≡◌, ℕ, ◌+◌, ◌≤◌, List, [], ◌++◌, length, drop, sym, refl, ◌∙◌, subst, zero-add, length-append}
use lib.Seq.{paste}
use Rattle.std.proofs.lemmas.List.Edits.{paste_none, paste-paste, paste_all}
use Rattle.outcome.specs.Buffers.{placed}

pub placed_none : (part : List ℕ) (at : ℕ) (out : List ℕ) → part ≡ [] → out ≡ placed at part out
unfolding placed
placed_none part at out e = subst (λ (p : List ℕ). out ≡ paste out at p (length p)) (sym e) (paste_none out at [])

-- a part behind a part
pub placed_more : (at next : ℕ) (s t out : List ℕ) → next ≡ at + length s → at ≤ length out → placed next t (placed at s out) ≡ placed at (s ++ t) out
unfolding placed
placed_more at next s t out e h = rw (e, length-append s t) (paste-paste out at s t (length s) (length t) refl refl h)

pub placed_front : (s out : List ℕ) → placed 0 s out ≡ s ++ drop (length s) out
unfolding placed
placed_front s out = paste_all out 0 s (length s) refl ∙ rw (zero-add (length s))
