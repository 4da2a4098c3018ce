-- Laws of observations under a hidden mask, and of matched pairs: what is compared, bit by bit; that with mask 0 it is document 01's equality;
-- that for one mask it is an equivalence; and that hiding more bits keeps what is matched.
use Rattle.std.specs.Prelude.{true, false, ◌≡◌, ℕ, eqb}
use Rattle.std.proofs.Math.Logic.{⊎_elim}
use Rattle.std.proofs.Math.Path.{refl, sym}
use Rattle.std.proofs.Common.{◌∙◌}
use Rattle.std.specs.Int.Bits.{bit_or}
use borrow.Author.Tests.{eqb-true, eq-eqb}
use Rattle.mask.specs.Logic.{or}
use Rattle.mask.specs.LogicLaws.{dec, clash, refute, or_l, or_false_l}
use Rattle.mask.specs.Bits.{has_bit}
use Rattle.mask.specs.BitsLaws.{has_or, bits_ext}
use Rattle.machine.specs.declared.Machine.{Machine}
use Rattle.machine.specs.declared.Pair.{Pair}
use Rattle.machine.specs.Machines.{observation, same_observation, pair_under, matched}

-- ---- observations
-- with nothing hidden they are the same exactly if the bytes are equal
pub same_zero : (x y : ℕ) → same_observation 0 x y ≡ eqb x y
unfolding same_observation
same_zero x y = refl

module _ (hidden : ℕ) where
  pub same_refl : (x : ℕ) → same_observation hidden x x ≡ true
  unfolding same_observation
  same_refl x = eq-eqb (bit_or hidden x) (bit_or hidden x) refl

  pub same_sym : (x y : ℕ) → same_observation hidden x y ≡ true → same_observation hidden y x ≡ true
  unfolding same_observation
  same_sym x y t = eq-eqb (bit_or hidden y) (bit_or hidden x) (sym (eqb-true (bit_or hidden x) (bit_or hidden y) t))

  pub same_trans : (x y z : ℕ) → same_observation hidden x y ≡ true → same_observation hidden y z ≡ true → same_observation hidden x z ≡ true
  unfolding same_observation
  same_trans x y z t u = eq-eqb (bit_or hidden x) (bit_or hidden z) (eqb-true (bit_or hidden x) (bit_or hidden y) t ∙ eqb-true (bit_or hidden y) (bit_or hidden z) u)

  -- they are the same exactly if they are equal in each bit that is not hidden
  pub same_bit : (x y : ℕ) → same_observation hidden x y ≡ true → (b : ℕ) → has_bit hidden b ≡ false → has_bit x b ≡ has_bit y b
  unfolding same_observation
  same_bit x y t b h =
      sym (has_or b hidden x ∙ or_false_l _ h) ∙ rw (eqb-true (bit_or hidden x) (bit_or hidden y) t) (has_or b hidden y ∙ or_false_l _ h)

  pub same_of_bits : (x y : ℕ) → ((b : ℕ) → has_bit hidden b ≡ false → has_bit x b ≡ has_bit y b) → same_observation hidden x y ≡ true
  unfolding same_observation
  same_of_bits x y h = eq-eqb (bit_or hidden x) (bit_or hidden y) (bits_ext (bit_or hidden x) (bit_or hidden y) (λ b. has_or b hidden x ∙ bit b ∙ sym (has_or b hidden y)))
    where
      bit : (b : ℕ) → or (has_bit hidden b) (has_bit x b) ≡ or (has_bit hidden b) (has_bit y b)
      bit b = ⊎_elim (λ t. or_l _ t ∙ sym (or_l _ t)) (λ f. rw (h b f)) (dec (has_bit hidden b))

-- hiding more bits keeps them the same
abbrev pub HidesMore : ℕ → ℕ → Type 0
HidesMore more hidden = (b : ℕ) → has_bit hidden b ≡ true → has_bit more b ≡ true

pub same_more : (hidden more x y : ℕ) → HidesMore more hidden → same_observation hidden x y ≡ true → same_observation more x y ≡ true
same_more hidden more x y h t = same_of_bits more x y (λ b f. same_bit hidden x y t b (refute _ (λ u. clash f (h b u))))

-- ---- matched pairs
-- with mask 0 it is document 01's: "A pair (c, a) is matched if the observations of c and a are equal"
pub matched_zero : (p : Pair) → p.hidden ≡ 0 → (c a : ℕ) → matched p c a ≡ eqb (observation p.concrete c) (observation p.abstraction a)
unfolding matched
matched_zero p e c a = rw e (same_zero (observation p.concrete c) (observation p.abstraction a))

-- for one mask it is reflexive, symmetric and transitive, whichever the machines
module _ (hidden : ℕ) where
  pub matched_refl : (m : Machine) (s : ℕ) → matched (pair_under hidden m m) s s ≡ true
  unfolding matched
  matched_refl m s = same_refl hidden _

  pub matched_sym : (m k : Machine) (s t : ℕ) → matched (pair_under hidden m k) s t ≡ true → matched (pair_under hidden k m) t s ≡ true
  unfolding matched
  matched_sym m k s t h = same_sym hidden _ _ h

  pub matched_trans : (m k i : Machine) (s t u : ℕ) → matched (pair_under hidden m k) s t ≡ true → matched (pair_under hidden k i) t u ≡ true
      → matched (pair_under hidden m i) s u ≡ true
  unfolding matched
  matched_trans m k i s t u g h = same_trans hidden _ _ _ g h

-- hiding more bits keeps matched pairs matched
pub matched_more : (hidden more : ℕ) → HidesMore more hidden → (m k : Machine) (s t : ℕ)
    → matched (pair_under hidden m k) s t ≡ true → matched (pair_under more m k) s t ≡ true
unfolding matched
matched_more hidden more h m k s t g = same_more hidden more _ _ h g
