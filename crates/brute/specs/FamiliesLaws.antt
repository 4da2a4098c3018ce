-- Laws of families as the plain reading has them: entry by entry, bit by bit, and of the table that is made.
use Rattle.std.specs.Prelude.{Bool, true, List, ◌++◌, ◌≡◌, ◌<◌, ◌≤◌, ℕ, length, Err}
use Rattle.std.proofs.Math.Bool.{false}
use Rattle.std.proofs.Common.{◌∙◌}
use Rattle.std.proofs.Math.Path.{ap, sym}
use Rattle.std.proofs.Math.ListN.{drop}
use Rattle.mask.specs.Bits.{has_bit}
use Rattle.mask.specs.Logic.{not, or}
use Rattle.mask.specs.LogicLaws.{not_i, or_l}
use Rattle.mask.specs.Tables.{front, table}
use Rattle.mask.specs.TablesLaws.{table_length}
use Rattle.machine.specs.Refusals.{valid}
use Rattle.machine.specs.RefusalsLaws.{buffer_kept, buffer_made, buffer_short, buffer_valid, then_of, then_refused}
use Rattle.machine.specs.Table.{entries, table_room}
use Rattle.machine.specs.WellFormed.{pair_validity}
use Rattle.machine.specs.declared.Pair.{Pair}
use Rattle.machine.specs.declared.Refusal.{Refusal}
use Rattle.brute.specs.Families.{family_entry, family_table, is_pair}

-- ---- the table, case by case
module _ (p : Pair) (F T : List ℕ) where
  pub family_short : length T < table_room → T ≡ family_table p F T
  unfolding family_table
  family_short h = sym (buffer_kept _ _ T (then_refused _ _ _ (buffer_short table_room (length T) h)))

  module _ (h : table_room ≤ length T) where
    pub family_ill : (r : Refusal) → pair_validity p ≡ Err r → T ≡ family_table p F T
    unfolding family_table
    family_ill r e = sym (buffer_kept _ _ T (then_of _ _ (buffer_valid table_room (length T) h) ∙ e))

    pub family_well : {S : List ℕ} → pair_validity p ≡ valid → S ≡ front (entries p) (family_entry p F) T → S ≡ family_table p F T
    unfolding family_table
    family_well v s =
        s ∙ ap (λ (k : ℕ). table (entries p) (family_entry p F) ++ drop k T) (sym (table_length (entries p) (family_entry p F)))
        ∙ sym (buffer_made _ (table (entries p) (family_entry p F)) T (then_of _ _ (buffer_valid table_room (length T) h) ∙ v))

-- ---- stray bits
-- bit a of a row stands for a pair
abbrev pub bit_holds : Pair → ℕ → ℕ → ℕ → ℕ → Bool
bit_holds p j c a row = or (not (has_bit row a)) (is_pair p j c a)

pub bit_none : (p : Pair) (j c a row : ℕ) → has_bit row a ≡ false → bit_holds p j c a row ≡ true
bit_none p j c a row t = or_l _ (not_i t)
