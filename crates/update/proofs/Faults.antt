-- The numbers and places of refusals: the reader's have a place in the text or at its end, the writer's place 0.
use Rattle.std.proofs.Common.{◌≡◌, ℕ, zero, suc, ◌-◌, ◌*◌, ◌≤◌, Bool, true, false, cond, not, ◌&&◌, ◌||◌, eqb, ltb, leb, List, [], length, get_or, drop, is_some, Ok, Err, Result, subst, arith}
use Rattle.update.specs.declared.refusal.Refusal.{Refusal}
use Rattle.update.specs.declared.refusal.Refusal.TheVariants.{BadPredecessors, BadValueLength}
use Rattle.update.specs.Contents.{Contents}
use Rattle.outcome.specs.Order.{below}
use Rattle.update.specs.Reading.{Read, cut_at, count_at, author_at, address_at, ascending_at, predecessors_at, value_at, seal_at, optional, stands, map_allowed, end_at, fields_at, reads}
use Rattle.update.specs.Refusals.{number_of, place_of}
use Rattle.outcome.specs.Outcomes.{bind}
use Rattle.update.specs.Writing.{every, good_predecessors, good_value, good_seal, faults}

abbrev pub Fault : ℕ → Refusal → Type 0
Fault total e = (number_of e ≤ 4) × (place_of e ≤ total)

-- an answer, if refused, is refused so
abbrev pub Faults : {A : Type 0} → ℕ → Result A Refusal → Type 0
Faults total (Ok x) = Unit {0}
Faults total (Err e) = Fault total e

pub fault_of : {A : Type 0} {total : ℕ} {r : Result A Refusal} (e : Refusal) → r ≡ Err e → Faults total r → Fault total e
fault_of {A} {total} e h f = subst (λ (x : Result A Refusal). Faults total x) h f

module _ {A : Type 0} (total : ℕ) where
  either : (b : Bool) (r s : Result A Refusal) → Faults total r → Faults total s → Faults total (cond b r s)
  either true r s f g = f
  either false r s f g = g

  next : {B : Type 0} (r : Result B Refusal) (f : B → Result A Refusal) → Faults total r → ((x : B) → Faults total (f x)) → Faults total (bind r f)
  next (Ok x) f h k = k x
  next (Err e) f h k = h

cut_fault : (total n : ℕ) (l : List ℕ) → Faults total (cut_at total n l)
cut_fault total n l = either total (ltb (length l) n) _ _ (omega arith, omega arith) tt

count_fault : (total most : ℕ) (e : Refusal) (l : List ℕ) → Fault total e → Faults total (count_at total most e l)
count_fault total most e l h =
    either total (ltb (length l) 1) _ _ (omega arith, omega arith)
    (either total (leb 1 (get_or l 0 0) && leb (get_or l 0 0) most) _ (Err e) tt h)

ascending_fault : (total n : ℕ) (before l : List ℕ) → Faults total (ascending_at total before n l)
ascending_fault total zero before l = tt
ascending_fault total (suc n) before l =
    next total (cut_at total 32 l) _ (cut_fault total 32 l) λ d.
    either total (below before d.0) _ _ (ascending_fault total n d.0 d.1) (omega arith, omega arith)

predecessors_fault : (total : ℕ) (l : List ℕ) → Faults total (predecessors_at total l)
predecessors_fault total l =
    next total (count_at total 8 (BadPredecessors (total - length l)) l) _ (count_fault total 8 _ l (omega arith, omega arith)) λ n.
    next total (ascending_at total [] n.0 n.1) _ (ascending_fault total n.0 [] n.1) λ _.
    cut_fault total (32 * n.0) n.1

value_fault : (total : ℕ) (l : List ℕ) → Faults total (value_at total l)
value_fault total l =
    next total (count_at total 64 (BadValueLength (total - length l)) l) _ (count_fault total 64 _ l (omega arith, omega arith)) λ n.
    cut_fault total n.0 n.1

optional_fault : {A : Type 0} (total : ℕ) (b : Bool) (r : Read A) (l : List ℕ) → Faults total r → Faults total (optional b r l)
optional_fault total true r l h = next total r _ h λ _. tt
optional_fault total false r l h = tt

fields_fault : (total map : ℕ) (l : List ℕ) → Faults total (fields_at total map l)
fields_fault total map l =
    next total (author_at total l) _ (either total (ltb (length l) 2) _ _ (omega arith, omega arith) tt) λ a.
    next total (optional (stands map 2) (address_at total a.1) a.1) _ (optional_fault total _ _ _ (either total (ltb (length a.1) 6) _ _ (omega arith, omega arith) tt)) λ d.
    next total (optional (stands map 4) (predecessors_at total d.1) d.1) _ (optional_fault total _ _ _ (predecessors_fault total d.1)) λ p.
    next total (optional (stands map 8) (value_at total p.1) p.1) _ (optional_fault total _ _ _ (value_fault total p.1)) λ v.
    next total (optional (stands map 16) (seal_at total v.1) v.1) _ (optional_fault total _ _ _ (cut_fault total 32 v.1)) λ s.
    next total (end_at total s.1) _ (either total (eqb (length s.1) 0) _ _ tt (omega arith, omega arith)) λ _.
    tt

pub reads_faults : (t : List ℕ) → Faults (length t) (reads t)
reads_faults t =
    either (length t) (eqb (length t) 0) _ _ (omega arith, omega arith)
    (either (length t) (map_allowed (get_or t 0 0)) _ _ (fields_fault (length t) (get_or t 0 0) (drop 1 t)) (omega arith, omega arith))

-- the writer's are at place 0
pub parts_faults : (p : Contents) → Faults 0 (faults p)
parts_faults p =
    either 0 (is_some p.address || not (is_some p.value)) _ _
    (either 0 (every p.predecessors good_predecessors) _ _
    (either 0 (every p.value good_value) _ _
    (either 0 (every p.seal good_seal) _ _ tt (omega arith, omega arith))
    (omega arith, omega arith))
    (omega arith, omega arith))
    (omega arith, omega arith)
