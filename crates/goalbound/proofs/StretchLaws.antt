-- Stretches: what one is, as a sentence; that each has a move; what falls over each of them; and those of a fair lasso, whose rounds of the loop meet each
-- set.
use Rattle.std.specs.Prelude.{true, List, ◌≡◌, refl, ℕ, zero, suc, ◌+◌, ◌-◌, ◌*◌, ◌≤◌, ◌<◌, length}
use Rattle.std.proofs.Common.{mul-le-mul_right, arith}
use Rattle.mask.specs.BoundedLaws.{every_at, every_of, some_at, some_of}
use Rattle.mask.specs.Tables.{table}
use Rattle.mask.specs.TablesLaws.{table_length, table_at}
use Rattle.machine.specs.declared.Machine.{Machine}
use Rattle.machine.specs.Machines.{in_fair_set}
use Rattle.machine.specs.Lassos.{Lasso, moment, is_lasso, is_fair}
use Rattle.soundness.specs.Cycle.{chain}
use Rattle.soundness.specs.PlayLaws.{lasso_at, fair_at, fair_round}
use Rattle.goalbound.specs.Following.{state_at, IsMoves, is_stretch, IsCut}
use Rattle.goalbound.specs.Statements.{Along, Stretched}

module _ (m : Machine) (states : List ℕ) where
  in_set_at : (k : ℕ) {t s : ℕ} → in_fair_set m k (state_at states t) ≡ true → t ≡ s → in_fair_set m k (state_at states s) ≡ true
  in_set_at k h e = rw e at h

  -- what a stretch is, as a sentence: for each set a moment within it at which a state of the set is left
  pub stretch_at : (u v : ℕ) → is_stretch m states u v ≡ true → (k : ℕ) → k < m.sets
      → (i : ℕ) × (i < v - u) × (in_fair_set m k (state_at states (u + i)) ≡ true)
  unfolding is_stretch
  stretch_at u v t k h = let x = some_at _ _ (every_at _ _ t k (omega (arith, h))) in (x.0, x.1, in_set_at k x.2 (omega arith))

  pub stretch_of : (u v : ℕ) → ((k : ℕ) → k < m.sets → (i : ℕ) × (i < v - u) × (in_fair_set m k (state_at states (u + i)) ≡ true))
      → is_stretch m states u v ≡ true
  unfolding is_stretch
  stretch_of u v h = every_of _ _ (λ k b. let x = h k b in some_of _ _ x.0 x.1 x.2)

  module _ (n : ℕ) (cut : ℕ → ℕ) (h : IsCut m states n cut) (some_set : 0 < m.sets) where
    -- a stretch has a move
    cut_up : (i : ℕ) → i < n → cut i < cut (suc i)
    cut_up i l = omega (arith, (stretch_at (cut i) (cut (suc i)) (h.stretch i l) 0 some_set).1)

    pub cut_last : (i : ℕ) → i ≤ n → cut i ≤ cut n
    cut_last i l = chain (λ x y. cut x ≤ cut y) (λ x. omega arith) (λ x y z p q. omega arith) n (λ i l. omega (arith, cut_up i l)) i n l (omega arith)

-- what falls over each of n stretches falls by at least n
pub lower_by : (e cut : ℕ → ℕ) → cut 0 ≡ 0 → (n : ℕ) → ((i : ℕ) → i < n → e (cut (suc i)) < e (cut i)) → e (cut n) + n ≤ e 0
lower_by e cut z zero h = rw z (omega arith)
lower_by e cut z (suc n) h = omega (arith, h n (omega arith), lower_by e cut z n (λ i l. h i (omega arith)))

-- ---- along a lasso: stretch 1 is the stem with one round of the loop, and each further one a round
module _ (l : Lasso) where
  abbrev stem : ℕ
  stem = length l.stem

  abbrev loop : ℕ
  loop = length l.loop

  pub round_cut : ℕ → ℕ
  round_cut zero = 0
  round_cut (suc i) = stem + suc i * loop

  cut_first : round_cut 0 ≡ 0
  unfolding round_cut
  cut_first = refl

  cut_next : (i : ℕ) → round_cut (suc i) ≡ stem + suc i * loop
  unfolding round_cut
  cut_next i = refl

  -- round i lies within stretch i + 1
  pub cut_low : (i : ℕ) → round_cut i ≤ stem + i * loop
  unfolding round_cut
  cut_low zero = omega arith
  cut_low (suc i) = omega arith

  module _ (m : Machine) (h : is_lasso m l ≡ true) (fair : is_fair m l ≡ true) (n : ℕ) (states : List ℕ) (along : Along l states)
      (long : stem + n * loop < length states) where
    along_moves : IsMoves m states
    along_moves = record {
      some_state = omega (arith, long);
      bound = λ t b. rw (along t b) (lasso_at m l h t).0;
      step = λ t b. rw (along t (omega arith), along (suc t) b) (lasso_at m l h t).1;
    }

    along_stretch : (i : ℕ) → i < n → is_stretch m states (round_cut i) (round_cut (suc i)) ≡ true
    along_stretch i b = stretch_of m states (round_cut i) (round_cut (suc i)) (λ k hk.
        let x = fair_round m l (fair_at m l fair) i k hk in
        let t : ℕ = stem + i * loop + x.0 in
        let d : ℕ = t - round_cut i in
        let rounds : suc i * loop ≤ n * loop = mul-le-mul_right loop b in
        let within : t < round_cut (suc i) = omega (arith, cut_next i, x.1) in
        let place : round_cut i + d ≡ t = omega (arith, cut_low i) in
        let listed : t < length states = omega (arith, cut_next i, rounds, long) in
        (d, omega (arith, cut_low i), rw (place, along t listed) x.2))

    pub along_cut : IsCut m states n round_cut
    along_cut = record { begins = cut_first; ends = omega (arith, long, cut_low n); stretch = along_stretch }

-- the beginning of its endless play
module _ (m : Machine) (l : Lasso) (h : is_lasso m l ≡ true) (fair : is_fair m l ≡ true) (n : ℕ) where
  abbrev moments : ℕ
  moments = suc (length l.stem + n * length l.loop)

  abbrev row : List ℕ
  row = table moments (moment l)

  row_length : length row ≡ moments
  row_length = table_length moments (moment l)

  row_at : Along l row
  row_at t b = table_at moments (moment l) t 0 (omega (arith, row_length))

  pub lasso_stretches : Stretched m l n
  lasso_stretches = record {
    states = row;
    cut = round_cut l;
    along = row_at;
    reaches = omega (arith, row_length);
    is_moves = along_moves l m h fair n row row_at (omega (arith, row_length));
    stretches = along_cut l m h fair n row row_at (omega (arith, row_length));
  }
