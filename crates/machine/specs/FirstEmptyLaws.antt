-- Laws of the search for a mask without a state: what it finds, and as a loop goes.
use Rattle.std.specs.Prelude.{Bool, false, List, ◌≡◌, ℕ, ◌<◌, eqb, ltb, get_or}
use Rattle.std.proofs.Math.Logic.{by_cases}
use Rattle.std.proofs.Math.Decide.{dec_lt}
use Rattle.std.proofs.Common.{arith}
use borrow.Author.Tests.{eqb-true, eq-eqb, ltb-true, lt-ltb}
use Rattle.mask.specs.Logic.{and}
use Rattle.mask.specs.LogicLaws.{clash, refute, and_l, and_r, and_i}
use Rattle.mask.specs.Bounded.{first}
use Rattle.mask.specs.BoundedLaws.{first_is, first_none, first_has, first_before}
use Rattle.machine.specs.WellFormed.{first_empty}

module _ (room count : ℕ) (l : List ℕ) where
  -- mask i is one of the first `count`, and has no state
  abbrev empty : ℕ → Bool
  empty i = and (ltb i count) (eqb (get_or l i 0) 0)

  -- what is found has no state, and each mask before it has one
  pub record FoundEmpty (i : ℕ) : Type 0 where
    pub within : i < count
    pub zero : get_or l i 0 ≡ 0
    pub lower : (k : ℕ) → k < i → get_or l k 0 ≡ 0 → ⊥

  pub found_empty : first_empty room count l < room → FoundEmpty (first_empty room count l)
  unfolding first_empty
  found_empty h =
      let has = first_has room empty h in
      let within : first room empty < count = ltb-true (first room empty) count (and_l _ _ has) in
      record {
        within = within;
        zero = eqb-true _ 0 (and_r _ _ has);
        lower = λ k q e. clash (first_before room empty k q) (and_i (lt-ltb k count (omega (arith, within))) (eq-eqb _ 0 e));
      }

  -- where nothing is found, each of the first `count` masks has a state
  pub none_is_empty : (first_empty room count l < room → ⊥) → (i : ℕ) → i < room → i < count → get_or l i 0 ≡ 0 → ⊥
  unfolding first_empty
  none_is_empty h i q k e =
      clash (first_before room empty i (by_cases (dec_lt (first room empty) room) (λ t. absurd (h t)) (λ t. omega arith))) (and_i (lt-ltb i count k) (eq-eqb _ 0 e))

  empty_not : (i : ℕ) → (i < count → get_or l i 0 ≡ 0 → ⊥) → empty i ≡ false
  empty_not i f = refute _ (λ t. f (ltb-true i count (and_l _ _ t)) (eqb-true (get_or l i 0) 0 (and_r _ _ t)))

  pub empty_at : (i : ℕ) → i < room → i < count → get_or l i 0 ≡ 0 → ((k : ℕ) → k < i → k < count → get_or l k 0 ≡ 0 → ⊥) → first_empty room count l ≡ i
  unfolding first_empty
  empty_at i h k e b = first_is room empty i h (and_i (lt-ltb i count k) (eq-eqb (get_or l i 0) 0 e)) (λ j q. empty_not j (b j q))

  pub empty_none : ((k : ℕ) → k < room → k < count → get_or l k 0 ≡ 0 → ⊥) → first_empty room count l ≡ room
  unfolding first_empty
  empty_none b = first_none room empty (λ i q. empty_not i (b i q))
