-- Fields that a reader takes one behind the other.
use Rattle.std.proofs.Common.{◌≡◌, ℕ, Bool, true, false, List, Some, Ok, Err, Option, Result, sym, refl, MutBor}
use Rattle.std.proofs.lemmas.Iterator.Adapters.{option_map_id}
use Rattle.std.specs.Fn.{Once}
use Rattle.std.specs.Option.{option_map}
use Rattle.std.specs.Result.{result_map_both}
use Rattle.update.specs.declared.parts.Address.{Address}
use Rattle.update.specs.declared.reader.Reader.{Reader}
use Rattle.update.specs.declared.refusal.Refusal.{Refusal}
use Rattle.update.specs.Reader.{Reads, ReadsIf}
use Rattle.update.specs.Reading.{Read, author_at, address_at, predecessors_at, value_at, seal_at, optional, stands, end_at, fields_at}
use Rattle.outcome.specs.Outcomes.{bind}
use Rattle.outcome.proofs.Steps.{no_ok, ok_same}

module _ {A B : Type 0} (see : A → B) (field : ℕ → List ℕ → Read B) where
  -- a field that is there is read as it says
  read_if_there : (r r' : Reader) (y : Result A Refusal) (x : Option A) → Ok x ≡ result_map_both Some (λ e. e) y → Reads see field r y r'
      → (optional true (field r.total r.rest.now) r.rest.now ≡ Ok (option_map see x, r'.rest.now)) × (r'.total ≡ r.total)
  read_if_there r r' (Ok v) x e h = rw (ok_same _ _ e, h.0) (refl, h.1)
  read_if_there r r' (Err f) x e h = absurd (no_ok f x (sym e))

  -- a field that may be absent, in a text of that length
  pub optional_read : {F : Type 0} (call : Once F (MutBor Reader × Unit {0}) (Result A Refusal × (MutBor Reader × Unit {0}))) (f : F)
      → ((s l : MutBor Reader) (x : Result A Refusal) → call.post f (s, tt) (x, (l, tt)) → Reads see field s.now x l.now)
      → (present : Bool) (r r' : Reader) (x : Option A) (total : ℕ) → ReadsIf call f present r (Ok x) r' → r.total ≡ total
      → (optional present (field total r.rest.now) r.rest.now ≡ Ok (option_map see x, r'.rest.now)) × (r'.total ≡ total)
  optional_read call f means false r r' x total h same = rw (h.1, ok_same _ _ h.0) (refl, same)
  optional_read call f means true r r' x total h same =
      let y = h.1 in
      let m = means y.shown y.left h.0 y.met in
      rw (← same, ← y.shows, ← y.leaves) (read_if_there y.shown.now y.left.now h.0 x h.2 m)

-- all fields but the end
pub fields_then_end : (total map end : ℕ) (l : List ℕ) (x y z w : Bool) (a : ℕ × List ℕ) (d : Option Address) (m : List ℕ) (p v s : Option (List ℕ) × List ℕ)
    → x ≡ stands map 2 → y ≡ stands map 4 → z ≡ stands map 8 → w ≡ stands map 16 → end ≡ total
    → author_at total l ≡ Ok a → optional x (address_at total a.1) a.1 ≡ Ok (option_map (λ q. q) d, m)
    → optional y (predecessors_at total m) m ≡ Ok p → optional z (value_at total p.1) p.1 ≡ Ok v → optional w (seal_at total v.1) v.1 ≡ Ok s
    → fields_at total map l ≡ bind (end_at end s.1) (λ _. Ok (record { author = a.0; address = d; predecessors = p.0; value = v.0; seal = s.0 }))
fields_then_end total map end l x y z w a d m p v s ex ey ez ew e ha hd hp hv hs =
    let i = option_map_id d in
    rw (e) (simp (ha, ← ex, ← ey, ← ez, ← ew, hd, i, hp, hv, hs))
