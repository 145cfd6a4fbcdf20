-- Arrays that the calls of a closure made, where the calls alter nothing that it captures.
use Rattle.std.proofs.Common.{◌≡◌, ℕ, zero, suc, ◌+◌, ◌<◌, List, length, get_or, map, sym, refl, ◌∙◌, subst, add-zero, zero-add, arith}
use Rattle.std.proofs.lemmas.List.{same_lists, get_or-map}
use Rattle.std.proofs.lemmas.List.FromFn.{fill_by_all}
use Rattle.std.proofs.Math.ListN.{length-map}
use Rattle.std.specs.Array.{IsFromFnResultFrom, IsFromFnResult, MapsFrom, IsMapOf}
use Rattle.std.specs.Fn.{Called, Mut}
use Rattle.std.specs.List.{range_with_len}

module _ {F B : Type 0} (g : Mut F (ℕ × Unit {0}) B) (h : ℕ → B) (f : F) (step : (x : ℕ) (y : B) (q : F) → Called g f (x, tt) y q → (y ≡ h x) × (q ≡ f)) where
  each_made : (ys : List B) (d : B) (n i : ℕ) (p : F) → p ≡ f → IsFromFnResultFrom g p ys i n → (k : ℕ) → k < n → get_or ys (i + k) d ≡ h (i + k)
  each_made ys d zero i p e m k lt = absurd (omega arith)
  each_made ys d (suc n) i p e m zero lt =
      let call : Called g f (i, tt) m.1 m.0 = subst (λ (r : F). Called g r (i, tt) m.1 m.0) e m.3 in
      rw (add-zero i) (m.2.1 d ∙ (step i m.1 m.0 call).0)
  each_made ys d (suc n) i p e m (suc k) lt =
      let call : Called g f (i, tt) m.1 m.0 = subst (λ (r : F). Called g r (i, tt) m.1 m.0) e m.3 in
      let place : i + 1 + k ≡ i + suc k = omega arith in
      rw (← place) (each_made ys d n (i + 1) m.0 (step i m.1 m.0 call).1 m.4 k (omega arith))

  -- after `array::from_fn`
  pub made_from_fn : (ys : List B) (n : ℕ) (d : B) → IsFromFnResult g f ys n → ys ≡ map h (range_with_len 0 n)
  made_from_fn ys n d m = fill_by_all h ys n d m.long (λ k lt. rw (zero-add k) at (each_made ys d n 0 f refl m.each k lt))

module _ {F A B : Type 0} (g : Mut F (A × Unit {0}) B) (h : A → B) (f : F) (step : (x : A) (y : B) (q : F) → Called g f (x, tt) y q → (y ≡ h x) × (q ≡ f)) where
  each_mapped : (xs : List A) (ys : List B) (c : A) (d : B) (n i : ℕ) (p : F) → p ≡ f → MapsFrom g p xs ys i n → (k : ℕ) → k < n → get_or ys (i + k) d ≡ h (get_or xs (i + k) c)
  each_mapped xs ys c d zero i p e m k lt = absurd (omega arith)
  each_mapped xs ys c d (suc n) i p e m zero lt =
      let call : Called g f (m.1, tt) m.2 m.0 = subst (λ (r : F). Called g r (m.1, tt) m.2 m.0) e m.5 in
      rw (add-zero i, m.3.1 c) (m.4.1 d ∙ (step m.1 m.2 m.0 call).0)
  each_mapped xs ys c d (suc n) i p e m (suc k) lt =
      let call : Called g f (m.1, tt) m.2 m.0 = subst (λ (r : F). Called g r (m.1, tt) m.2 m.0) e m.5 in
      let place : i + 1 + k ≡ i + suc k = omega arith in
      rw (← place) (each_mapped xs ys c d n (i + 1) m.0 (step m.1 m.2 m.0 call).1 m.6 k (omega arith))

  -- after `map` of an array
  pub made_by_map : (xs : List A) (ys : List B) (n : ℕ) (c : A) → length xs ≡ n → IsMapOf g f xs ys n → ys ≡ map h xs
  made_by_map xs ys n c l m =
      let long : length ys ≡ length (map h xs) = m.long ∙ sym (length-map xs h ∙ l) in
      same_lists ys (map h xs) long
      (λ k d lt. let at : k < length xs = omega (arith, m.long) in
      rw (get_or-map h xs k c d at) (rw (zero-add k) at (each_mapped xs ys c d n 0 f refl m.each k (omega arith))))
