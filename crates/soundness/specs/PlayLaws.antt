-- Laws of lassos and endless plays, of any length.
use Rattle.std.specs.Prelude.{true, ◌≡◌, ℕ, zero, suc, ◌+◌, ◌-◌, ◌*◌, ◌/◌, ◌%◌, ◌≤◌, ◌<◌, get_or, take, drop}
use Rattle.std.proofs.Math.Path.{sym, ap}
use Rattle.std.proofs.Common.{subst, ◌∙◌, mod-lt, div-add-mod', mul-pos, arith, length-take, length-drop, ext_get_or, get_or-take, get_or-drop, eqb-true}
use Rattle.std.proofs.Math.Nat.{add-mod_right}
use Rattle.std.proofs.Math.Decide.{dec_lt}
use Rattle.std.proofs.Math.ListN.{length}
use Rattle.mask.specs.LogicLaws.{and_l, and_r, and_i}
use Rattle.mask.specs.BoundedLaws.{every_at, every_of, some_at, some_of}
use Rattle.mask.specs.Tables.{table}
use Rattle.mask.specs.TablesLaws.{table_length, table_at}
use Rattle.machine.specs.declared.Machine.{Machine}
use Rattle.machine.specs.Machines.{observation, moves, starts, in_fair_set}
use Rattle.machine.specs.Lassos.{Lasso, moment, is_lasso, is_fair, from_start, is_play, SameObservations}
use Rattle.machine.specs.LassosLaws.{moment_stem, moment_round, moment_loop, Goes, lasso_loop, lasso_goes, lasso_of_lem}
use Rattle.machine.specs.HiddenLaws.{HidesMore, same_zero, same_refl, same_sym, same_trans, same_more}
use Rattle.soundness.specs.Plays.{Again, lasso_of, unrolled, SamePlay, FairLoop, Play}

-- ---- sequences that come again
-- a whole number of times
pub again_times : {A : Type 0} (p q : ℕ) (f : ℕ → A) → Again p q f → (n : ℕ) → Again p (n * q) f
again_times p q f h zero t l = ap f (omega arith)
again_times p q f h (suc n) t l = ap f (omega arith) ∙ h (t + n * q) (omega arith) ∙ again_times p q f h n t l

-- what holds up to the end of the first round, and passes on from a round to the next, holds at every moment
pub each_round : (P : ℕ → Type 0) (p q : ℕ) → 0 < q → ((t : ℕ) → t < p + q → P t) → ((t : ℕ) → p ≤ t → P t → P (t + q)) → (t : ℕ) → P t
each_round P p q h base more t = go (dec_lt t p)
  where
    rounds : (x i : ℕ) → i < q → P (p + i + x * q)
    rounds zero i l = subst P (omega arith) (base (p + i) (omega arith))
    rounds (suc x) i l = subst P (omega arith) (more (p + i + x * q) (omega arith) (rounds x i l))

    go : Dec (t < p) → P t
    go (yes l) = base t (omega arith)
    go (no l) = subst P (omega (arith, div-add-mod' (t - p) q)) (rounds ((t - p) / q) ((t - p) % q) (mod-lt (t - p) h))

-- ---- moments
-- "Endless play is the stem, then the loop again and again."
pub moment_again : (l : Lasso) → Again (length l.stem) (length l.loop) (moment l)
moment_again l t h =
    let p = length l.stem in
    let q = length l.loop in
    let e : t + q - p ≡ t - p + q = omega arith in
    moment_round l (t + q) (omega arith) ∙ ap (λ (x : ℕ). get_or l.loop x 0) (ap (λ (x : ℕ). x % q) e ∙ add-mod_right (t - p) q) ∙ sym (moment_round l t h)

-- ---- the lasso of a sequence
pub lasso_of_stem : (p q : ℕ) (f : ℕ → ℕ) → length (lasso_of p q f).stem ≡ p
unfolding lasso_of
lasso_of_stem p q f = table_length p f

pub lasso_of_loop : (p q : ℕ) (f : ℕ → ℕ) → length (lasso_of p q f).loop ≡ q
unfolding lasso_of
lasso_of_loop p q f = table_length q (λ i. f (p + i))

lasso_of_stem_at : (p q : ℕ) (f : ℕ → ℕ) (t : ℕ) → t < p → moment (lasso_of p q f) t ≡ f t
unfolding lasso_of
lasso_of_stem_at p q f t h = moment_stem (lasso_of p q f) t (rw (table_length p f) h) ∙ table_at p f t 0 h

lasso_of_loop_at : (p q : ℕ) (f : ℕ → ℕ) (i : ℕ) → i < q → moment (lasso_of p q f) (p + i) ≡ f (p + i)
unfolding lasso_of
lasso_of_loop_at p q f i h =
    ap (λ (x : ℕ). moment (lasso_of p q f) (x + i)) (sym (table_length p f)) ∙ moment_loop (lasso_of p q f) i (rw (table_length q (λ i. f (p + i))) h)
    ∙ table_at q (λ i. f (p + i)) i 0 h

lasso_of_again : (p q : ℕ) (f : ℕ → ℕ) → Again p q (moment (lasso_of p q f))
lasso_of_again p q f t h =
    let k = lasso_of p q f in
    ap (λ (x : ℕ). moment k (t + x)) (sym (lasso_of_loop p q f)) ∙ moment_again k t (rw (lasso_of_stem p q f) h)

-- its endless play is the sequence
pub lasso_of_moment : (p q : ℕ) (f : ℕ → ℕ) → 0 < q → Again p q f → (t : ℕ) → moment (lasso_of p q f) t ≡ f t
lasso_of_moment p q f h again = each_round (λ t. moment (lasso_of p q f) t ≡ f t) p q h base
    (λ t l e. lasso_of_again p q f t l ∙ e ∙ sym (again t l))
  where
    base : (t : ℕ) → t < p + q → moment (lasso_of p q f) t ≡ f t
    base t l = go (dec_lt t p)
      where
        go : Dec (t < p) → moment (lasso_of p q f) t ≡ f t
        go (yes b) = lasso_of_stem_at p q f t b
        go (no b) =
            let e : p + (t - p) ≡ t = omega arith in
            subst (λ (x : ℕ). moment (lasso_of p q f) x ≡ f x) e (lasso_of_loop_at p q f (t - p) (omega arith))

-- a list of the values of f, cut after the first p, is that lasso
pub table_cut : (p q : ℕ) (f : ℕ → ℕ) → record { stem = take p (table (p + q) f); loop = drop p (table (p + q) f) } ≡ lasso_of p q f
unfolding lasso_of
table_cut p q f = λ i. record { stem = front i; loop = back i }
  where
    whole : length (table (p + q) f) ≡ p + q
    whole = table_length (p + q) f

    long : length (take p (table (p + q) f)) ≡ p
    long = length-take p (table (p + q) f) ∙ omega (arith, whole)

    rest : length (drop p (table (p + q) f)) ≡ q
    rest = length-drop p (table (p + q) f) ∙ omega (arith, whole)

    front : take p (table (p + q) f) ≡ table p f
    front = ext_get_or 0 (take p (table (p + q) f)) (table p f) (long ∙ sym (table_length p f))
        (λ i h. let b : i < p = omega (arith, long) in
        get_or-take p (table (p + q) f) i 0 b ∙ table_at (p + q) f i 0 (omega arith) ∙ sym (table_at p f i 0 b))

    back : drop p (table (p + q) f) ≡ table q (λ i. f (p + i))
    back = ext_get_or 0 (drop p (table (p + q) f)) (table q (λ i. f (p + i))) (rest ∙ sym (table_length q (λ i. f (p + i))))
        (λ i h. let b : i < q = omega (arith, rest) in
        get_or-drop p (table (p + q) f) i 0 ∙ table_at (p + q) f (p + i) 0 (omega arith) ∙ sym (table_at q (λ i. f (p + i)) i 0 b))

-- ---- what the tests of a lasso say of its endless play
module _ (m : Machine) (l : Lasso) where
  -- each state is one of the machine's, and moves to the next, at every moment
  pub lasso_at : is_lasso m l ≡ true → (t : ℕ) → Goes m l t
  lasso_at h = each_round (Goes m l) (length l.stem) (length l.loop) (lasso_loop m l h) (lasso_goes m l h) more
    where
      more : (t : ℕ) → length l.stem ≤ t → Goes m l t → Goes m l (t + length l.loop)
      more t b x =
          let e : moment l (suc (t + length l.loop)) ≡ moment l (suc t) = ap (moment l) (omega arith) ∙ moment_again l (suc t) (omega arith) in
          rw (moment_again l t b, e) x

  pub fair_at : is_fair m l ≡ true → FairLoop m l
  unfolding is_fair
  fair_at h k b =
      let x = some_at _ _ (every_at _ _ h k b) in
      (x.0, x.1, ap (in_fair_set m k) (moment_loop l x.0 x.1) ∙ x.2)

  pub fair_of : FairLoop m l → is_fair m l ≡ true
  unfolding is_fair
  fair_of h = every_of _ _ (λ k b. let x = h k b in some_of _ _ x.0 x.1 (ap (in_fair_set m k) (sym (moment_loop l x.0 x.1)) ∙ x.2))

  -- fair as a fact about the endless play: each set is met again after any moment
  pub fair_often : is_fair m l ≡ true → (k : ℕ) → k < m.sets → (from : ℕ) → (t : ℕ) × (from ≤ t) × (in_fair_set m k (moment l t) ≡ true)
  fair_often h k b from =
      let p = length l.stem in
      let q = length l.loop in
      let x = fair_at h k b in
      let far : from ≤ from * q = go from q (omega (arith, x.1)) in
      (p + x.0 + from * q, omega arith, ap (in_fair_set m k) (again_times p q (moment l) (moment_again l) from (p + x.0) (omega arith)) ∙ x.2)
    where
      go : (x y : ℕ) → 0 < y → x ≤ x * y
      go zero y h = omega arith
      go (suc x) y h = omega (arith, go x y h)

  -- for a test it is enough to meet each set after the stem
  pub fair_once : 0 < length l.loop → ((k : ℕ) → k < m.sets → (t : ℕ) × (length l.stem ≤ t) × (in_fair_set m k (moment l t) ≡ true)) → is_fair m l ≡ true
  fair_once pos h = fair_of (λ k b.
      let p = length l.stem in
      let q = length l.loop in
      let x = h k b in
      let i = x.0 - p in
      let e : p + i % q + i / q * q ≡ x.0 = omega (arith, div-add-mod' i q, x.1) in
      (i % q, mod-lt i pos, ap (in_fair_set m k) (sym (again_times p q (moment l) (moment_again l) (i / q) (p + i % q) (omega arith)) ∙ ap (moment l) e) ∙ x.2))

  pub start_at : from_start m l ≡ true → starts m (moment l 0) ≡ true
  unfolding from_start
  start_at h = h

  pub start_of : starts m (moment l 0) ≡ true → from_start m l ≡ true
  unfolding from_start
  start_of h = h

  pub play_at : is_play m l ≡ true → Play m l
  unfolding is_play
  play_at h = record {
    some_loop = lasso_loop m l (and_l _ _ h);
    bound = λ t. (lasso_at (and_l _ _ h) t).0;
    step = λ t. (lasso_at (and_l _ _ h) t).1;
    fair = fair_at (and_l _ _ (and_r _ _ h));
    start = start_at (and_r _ _ (and_r _ _ h));
  }

  pub play_parts : is_lasso m l ≡ true → is_fair m l ≡ true → from_start m l ≡ true → is_play m l ≡ true
  unfolding is_play
  play_parts h f s = and_i h (and_i f s)

  pub play_of : Play m l → is_play m l ≡ true
  play_of y = play_parts (lasso_of_lem m l y.some_loop (λ t b. (y.bound t, y.step t))) (fair_of y.fair) (start_of y.start)

  -- each set is met in each round
  pub fair_round : FairLoop m l → (x k : ℕ) → k < m.sets
      → (i : ℕ) × (i < length l.loop) × (in_fair_set m k (moment l (length l.stem + x * length l.loop + i)) ≡ true)
  fair_round fair x k h =
      let p = length l.stem in
      let q = length l.loop in
      let f = fair k h in
      let e : p + x * q + f.0 ≡ p + f.0 + x * q = omega arith in
      (f.0, f.1, ap (in_fair_set m k) (ap (moment l) e ∙ again_times p q (moment l) (moment_again l) x (p + f.0) (omega arith)) ∙ f.2)

-- the lasso of a sequence that comes again, from facts about the sequence
module _ (m : Machine) (p q : ℕ) (f : ℕ → ℕ) (pos : 0 < q) (again : Again p q f) where
  lasso_of_some : 0 < length (lasso_of p q f).loop
  lasso_of_some = rw (lasso_of_loop p q f) pos

  pub lasso_of_lasso : ((t : ℕ) → f t < m.states) → ((t : ℕ) → moves m (f t) (f (suc t)) ≡ true) → is_lasso m (lasso_of p q f) ≡ true
  lasso_of_lasso b s = lasso_of_lem m (lasso_of p q f) lasso_of_some (λ t h. rw (at t, at (suc t)) (b t, s t))
    where
      at : (t : ℕ) → moment (lasso_of p q f) t ≡ f t
      at = lasso_of_moment p q f pos again

  pub lasso_of_fair : ((k : ℕ) → k < m.sets → (t : ℕ) × (p ≤ t) × (in_fair_set m k (f t) ≡ true)) → is_fair m (lasso_of p q f) ≡ true
  lasso_of_fair h = fair_once m (lasso_of p q f) lasso_of_some (λ k b.
      let x = h k b in
      (x.0, rw (lasso_of_stem p q f) x.1, ap (in_fair_set m k) (lasso_of_moment p q f pos again x.0) ∙ x.2))

  pub lasso_of_start : starts m (f 0) ≡ true → from_start m (lasso_of p q f) ≡ true
  lasso_of_start h = start_of m (lasso_of p q f) (ap (starts m) (lasso_of_moment p q f pos again 0) ∙ h)

  pub lasso_of_play : ((t : ℕ) → f t < m.states) → ((t : ℕ) → moves m (f t) (f (suc t)) ≡ true)
      → ((k : ℕ) → k < m.sets → (t : ℕ) × (p ≤ t) × (in_fair_set m k (f t) ≡ true)) → starts m (f 0) ≡ true → is_play m (lasso_of p q f) ≡ true
  lasso_of_play b s h e = play_parts m (lasso_of p q f) (lasso_of_lasso b s) (lasso_of_fair h) (lasso_of_start e)

-- ---- what is true of a lasso is true of each lasso with the same endless play
module _ (m : Machine) (l k : Lasso) (pos : 0 < length k.loop) (same : SamePlay l k) where
  pub same_lasso : is_lasso m l ≡ true → is_lasso m k ≡ true
  same_lasso h = lasso_of_lem m k pos (λ t b. rw (same t, same (suc t)) at (lasso_at m l h t))

  pub same_fair : is_fair m l ≡ true → is_fair m k ≡ true
  same_fair h = fair_once m k pos (λ s b.
      let x = fair_often m l h s b (length k.stem) in
      (x.0, x.1, ap (in_fair_set m s) (sym (same x.0)) ∙ x.2))

  pub same_start : from_start m l ≡ true → from_start m k ≡ true
  same_start h = start_of m k (ap (starts m) (sym (same 0)) ∙ start_at m l h)

  pub same_play : is_play m l ≡ true → is_play m k ≡ true
  unfolding is_play
  same_play h = play_parts m k (same_lasso (and_l _ _ h)) (same_fair (and_l _ _ (and_r _ _ h))) (same_start (and_r _ _ (and_r _ _ h)))

-- ---- a lasso written out further
module _ (l : Lasso) (d n : ℕ) (some_loop : 0 < length l.loop) (some_turn : 0 < n) where
  pub unrolled_same : SamePlay l (unrolled l d n)
  unfolding unrolled
  unrolled_same t = sym (lasso_of_moment (length l.stem + d) (n * length l.loop) (moment l) (mul-pos some_turn some_loop)
      (λ t h. again_times (length l.stem) (length l.loop) (moment l) (moment_again l) n t (omega arith)) t)

  pub unrolled_play : (m : Machine) → is_play m l ≡ true → is_play m (unrolled l d n) ≡ true
  unfolding unrolled
  unrolled_play m = same_play m l (unrolled l d n)
      (rw (lasso_of_loop (length l.stem + d) (n * length l.loop) (moment l)) (mul-pos some_turn some_loop)) unrolled_same

pub unrolled_stem : (l : Lasso) (d n : ℕ) → length (unrolled l d n).stem ≡ length l.stem + d
unfolding unrolled
unrolled_stem l d n = lasso_of_stem (length l.stem + d) (n * length l.loop) (moment l)

pub unrolled_loop : (l : Lasso) (d n : ℕ) → length (unrolled l d n).loop ≡ n * length l.loop
unfolding unrolled
unrolled_loop l d n = lasso_of_loop (length l.stem + d) (n * length l.loop) (moment l)

-- ---- the same observation at every moment, under one hidden mask
module _ (hidden : ℕ) where
  pub observations_refl : (m : Machine) (l : Lasso) → SameObservations hidden m l m l
  unfolding SameObservations
  observations_refl m l t = same_refl hidden _

  pub observations_sym : (m : Machine) (l : Lasso) (m' : Machine) (k : Lasso) → SameObservations hidden m l m' k → SameObservations hidden m' k m l
  unfolding SameObservations
  observations_sym m l m' k h t = same_sym hidden _ _ (h t)

  pub observations_trans : (m : Machine) (l : Lasso) (m' : Machine) (k : Lasso) (m'' : Machine) (i : Lasso) → SameObservations hidden m l m' k
      → SameObservations hidden m' k m'' i → SameObservations hidden m l m'' i
  unfolding SameObservations
  observations_trans m l m' k m'' i g h t = same_trans hidden _ _ _ (g t) (h t)

  -- hiding more bits keeps it
  pub observations_more : (more : ℕ) → HidesMore more hidden → (m : Machine) (l : Lasso) (m' : Machine) (k : Lasso) → SameObservations hidden m l m' k
      → SameObservations more m l m' k
  unfolding SameObservations
  observations_more more g m l m' k h t = same_more hidden more _ _ g (h t)

  -- lassos with the same endless play, in one machine
  pub observations_play : (m : Machine) (l k : Lasso) → SamePlay l k → SameObservations hidden m l m k
  unfolding SameObservations
  observations_play m l k h t = rw (h t) (same_refl hidden _)

-- with mask 0 the bytes are equal at every moment
pub observations_zero : (m : Machine) (l : Lasso) (m' : Machine) (k : Lasso) → SameObservations 0 m l m' k
    → (t : ℕ) → observation m (moment l t) ≡ observation m' (moment k t)
unfolding SameObservations
observations_zero m l m' k h t =
    let x = observation m (moment l t) in
    let y = observation m' (moment k t) in
    eqb-true x y (sym (same_zero x y) ∙ h t)
