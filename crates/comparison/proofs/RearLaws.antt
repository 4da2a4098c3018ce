-- What `==` says of a list's rear and that of a list of one number: each element from the place on is that number.
use Rattle.std.specs.Prelude.{◌≡◌, ℕ, ◌+◌, ◌-◌, ◌<◌, List, length, drop, take, min, replicate, get_or, eqb, ltb}
use Rattle.std.proofs.Common.{sym, ap, ◌∙◌, arith, lt-ltb, le-ltb, eq-eqb, eqb-true, ext_get_or}
use Rattle.std.proofs.Math.Logic.{by_cases}
use Rattle.std.proofs.Math.Decide.{dec_lt}
use Rattle.std.proofs.lemmas.List.{get_or-drop, get_or-replicate, length-drop, length-replicate, take_all}
use lib.Pointwise.{pointwise, bytes_decides}
use Rattle.mask.specs.Bounded.{every}
use Rattle.mask.specs.BoundedLaws.{every_at, every_of}
use Rattle.mask.specs.Logic.{or}
use Rattle.mask.specs.LogicLaws.{both, or_false_l, or_l, or_r}

module _ (from a n m : ℕ) (xs full : List ℕ) (ea : a ≡ min from n) (el : length xs ≡ n) (ef : full ≡ replicate n m) where
  full_at : (i : ℕ) → a + i < n → get_or (drop a full) i 0 ≡ m
  full_at i h = get_or-drop a full i 0 ∙ ap (λ (ys : List ℕ). get_or ys (a + i) 0) ef ∙ get_or-replicate n (a + i) m 0 h

  xs_long : length (drop a xs) ≡ n - a
  xs_long = length-drop a xs ∙ ap (λ (k : ℕ). k - a) el

  full_long : length (drop a full) ≡ n - a
  full_long = length-drop a full ∙ ap (λ (k : ℕ). k - a) (ap length ef ∙ length-replicate n m)

  told : pointwise eqb (drop a xs) (drop a full) ≡ every n (λ e. or (ltb e from) (eqb (get_or xs e 0) m))
  told = both _ _
      (λ t.
      let q : drop a xs ≡ drop a full = (bytes_decides (drop a xs) (drop a full)).0 t in
      every_of n _ (λ e l. by_cases (dec_lt e from) (λ h. or_l _ (lt-ltb e from h))
      (λ h.
      let s : a + (e - a) ≡ e = omega arith in
      let k : a + (e - a) < n = omega arith in
      or_r _ (eq-eqb (get_or xs e 0) m (ap (λ (z : ℕ). get_or xs z 0) (sym s) ∙ sym (get_or-drop a xs (e - a) 0) ∙ ap (λ (ys : List ℕ). get_or ys (e - a) 0) q ∙ full_at (e - a) k)))))
      (λ t.
      (bytes_decides (drop a xs) (drop a full)).1 (ext_get_or 0 (drop a xs) (drop a full) (xs_long ∙ sym full_long) (λ i l.
      let h : a + i < n = omega (arith, xs_long) in
      get_or-drop a xs i 0 ∙ eqb-true (get_or xs (a + i) 0) m (sym (or_false_l _ (le-ltb (a + i) from (omega arith))) ∙ every_at n _ t (a + i) h) ∙ sym (full_at i h))))

  pub rear_told : pointwise eqb (take (n - a) (drop a xs)) (take (n - a) (drop a full)) ≡ every n (λ e. or (ltb e from) (eqb (get_or xs e 0) m))
  rear_told =
      let u : take (n - a) (drop a xs) ≡ drop a xs = take_all (n - a) (drop a xs) (omega (arith, xs_long)) in
      let v : take (n - a) (drop a full) ≡ drop a full = take_all (n - a) (drop a full) (omega (arith, full_long)) in
      rw (u, v) told
