-- One step of an answer that may be a refusal.
use Rattle.std.proofs.Common.{◌≡◌, ℕ, Bool, true, false, cond, is_ok, Ok, Err, Result, refl, subst, arith}
use Rattle.outcome.specs.Outcomes.{bind, Answers}

module _ {E : Type 0} where
  pub no_ok : {A : Type 0} (e : E) (x : A) → ◌≡◌ {A = Result A E} (Err e) (Ok x) → ⊥
  no_ok e x h = let z : ◌≡◌ {A = ℕ} 0 1 = cc in omega arith

  pub ok_same : {A : Type 0} (x y : A) → ◌≡◌ {A = Result A E} (Ok x) (Ok y) → x ≡ y
  ok_same x y h = cc

  -- a step that did not refuse, with what it answered as a variable
  pub bind_then : {A B G : Type 0} (r : Result A E) (f : A → Result B E) (x : B) → bind r f ≡ Ok x → ((y : A) → r ≡ Ok y → f y ≡ Ok x → G) → G
  bind_then (Ok y) f x h k = k y refl h
  bind_then (Err e) f x h k = absurd (no_ok e x h)

  -- a test that lets pass
  pub pass : {A : Type 0} (b : Bool) (r : Result A E) (e : E) (x : A) → cond b r (Err e) ≡ Ok x → (b ≡ true) × (r ≡ Ok x)
  pass true r e x h = (refl, h)
  pass false r e x h = absurd (no_ok e x h)

  -- a test that refuses
  pub stay : {A : Type 0} (b : Bool) (r : Result A E) (e : E) (x : A) → cond b (Err e) r ≡ Ok x → (b ≡ false) × (r ≡ Ok x)
  stay false r e x h = (refl, h)
  stay true r e x h = absurd (no_ok e x h)

  -- the same answer, to an equal definition
  pub answers_as : {A B : Type 0} (see : A → B) (r : Result A E) {m n : Result B E} → m ≡ n → Answers see r m → Answers see r n
  answers_as see r e h = subst (Answers see r) e h

  pub answers_ok : {A B : Type 0} (see : A → B) (r : Result A E) (m : Result B E) → Answers see r m → is_ok r ≡ is_ok m
  answers_ok see (Ok x) m h = rw h refl
  answers_ok see (Err e) m h = rw h refl
