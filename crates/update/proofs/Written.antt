-- Parts that a writer puts one behind the other.
use Rattle.std.proofs.Common.{◌≡◌, ℕ, ◌≤◌, List, [], ◌∷◌, ◌++◌, length, refl, ap, ◌∙◌, subst, append_assoc, arith, Some, None, Option, Bor, length-append}
use Rattle.update.specs.declared.writer.Writer.{Writer}
use Rattle.std.specs.Option.{unwrap_or}
use Rattle.update.specs.Contents.{Contents, borrowed}
use Rattle.update.specs.Layout.{map_of, author_bytes, address_bytes, counted_bytes, plain_bytes, layout}
use Rattle.update.specs.Writer.{Wrote}
use Rattle.outcome.specs.Buffers.{placed}
use Rattle.outcome.proofs.Placing.{placed_none, placed_more}

pub wrote_none : (w : Writer) (part : List ℕ) → part ≡ [] → Wrote w part w
wrote_none w part e = record { same = refl; bytes = placed_none part w.end w.out.now e; size = refl; end = omega (arith, ap length e) }

-- a part behind a part
pub wrote_more : {w w' w'' : Writer} {s t : List ℕ} → w.end ≤ length w.out.now → Wrote w s w' → Wrote w' t w'' → Wrote w (s ++ t) w''
wrote_more {w} {w'} {w''} {s} {t} room a b = record {
  same = b.same ∙ a.same;
  bytes = b.bytes ∙ ap (placed w'.end t) a.bytes ∙ placed_more w.end w'.end s t w.out.now a.end room;
  size = b.size ∙ a.size;
  end = omega (arith, a.end, b.end, length-append s t);
}

-- the parts of a text, put one by one
pub wrote_layout : (w w' : Writer) (p : Contents) (m : ℕ) (a s : List ℕ) → m ≡ map_of p → a ≡ author_bytes p.author → s ≡ plain_bytes p.seal
    → Wrote w (m ∷ ((((a ++ address_bytes p.address) ++ counted_bytes 32 p.predecessors) ++ counted_bytes 1 p.value) ++ s)) w' → Wrote w (layout p) w'
wrote_layout w w' p m a s e f g h = subst (λ l. Wrote w l w') (simp (e, f, g, append_assoc)) h

pub or_empty : (field : Option (Bor (List ℕ))) (none : Bor (List ℕ)) → none.now ≡ [] → (unwrap_or field none).now ≡ plain_bytes (borrowed field)
or_empty None none e = e
or_empty (Some bytes) none e = refl
