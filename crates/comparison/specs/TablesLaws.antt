-- Laws of one table's counts, and of tables laid over the front of a buffer.
use Rattle.std.specs.Prelude.{◌≡◌, ℕ, Bool, true, false, cond, List, length, ◌==◌, ◌≢◌, nat_lt, slice_index, refl, Ok, Err}
use Rattle.std.proofs.Common.{sym, ◌∙◌, ap, eq-eqb, ne_eqb}
use Rattle.mask.specs.Logic.{and, or, not}
use Rattle.mask.specs.LogicLaws.{and_true_r}
use Rattle.mask.specs.Tables.{table}
use Rattle.mask.specs.TablesLaws.{table_at, table_cong, table_length}
use Rattle.machine.specs.declared.Pair.{Pair}
use Rattle.machine.specs.declared.Refusal.{Refusal}
use Rattle.machine.specs.declared.Checked.{Checked}
use Rattle.machine.specs.Refusals.{Answer}
use Rattle.machine.specs.Verdict.{empty_set_of}
use Rattle.brute.specs.Numbers.{numbered_table}
use Rattle.comparison.specs.Answers.{same_answer, same_checked, check_answer}
use Rattle.comparison.specs.Tables.{altered, is_carried, says_carried, table_agrees, tried_table, table_tally, within}
use Rattle.comparison.specs.Tallies.{of_table}
use Rattle.comparison.specs.declared.tables.Tables.{Tables}
use Rattle.comparison.specs.declared.tables.Tables.TheVariants.{Every, Altered}
use Rattle.comparison.specs.declared.tally.Tally.{Tally}

-- ---- one table's counts, from two answers x and y about it
module _ (p : Pair) (n : ℕ) (S T : List ℕ) {x y : Answer Checked} {same : Bool} (ex : x ≡ check_answer p T) (ey : y ≡ check_answer p T)
    (es : same ≡ same_answer same_checked x y) where
  same_is : same ≡ same_answer same_checked (check_answer p T) (check_answer p T)
  same_is = es ∙ rw (ex, ey)

  pub passing_tally : {c : Checked} {agrees : Bool} {r : Tally} → x ≡ Ok c → agrees ≡ and same (within n T S)
      → r ≡ of_table true (is_carried c.verdict) c.empty_set agrees → r ≡ table_tally p n S T
  unfolding table_tally table_agrees says_carried empty_set_of or not
  passing_tally e ea er = let t = sym ex ∙ e in rw (er, ea, same_is, t)

  pub refused_tally : {s : Refusal} {r : Tally} → x ≡ Err s → r ≡ of_table false false false same → r ≡ table_tally p n S T
  unfolding table_tally table_agrees says_carried empty_set_of or not
  refused_tally e er = let t = sym ex ∙ e in rw (er, same_is, t, and_true_r)

-- ---- the first n elements of T exchanged for those of f
abbrev overlaid : ℕ → (ℕ → ℕ) → List ℕ → List ℕ
overlaid n f T = table (length T) (λ e. cond (nat_lt e n) (f e) (slice_index T e))

-- what was exchanged before is of no account
overlaid_twice : (n : ℕ) (f g : ℕ → ℕ) (T : List ℕ) → overlaid n f (overlaid n g T) ≡ overlaid n f T
overlaid_twice n f g T =
    rw (table_length (length T)) (table_cong (length T) _ _ (λ e h. ap (cond (nat_lt e n) (f e)) (table_at {A = ℕ} (length T) _ e 0 h) ∙ twice (nat_lt e n) (f e) (g e) (slice_index T e)))
  where
    twice : (b : Bool) (x y z : ℕ) → cond b x (cond b y z) ≡ cond b x z
    twice true x y z = refl
    twice false x y z = refl

-- entry e of a table with entry q changed to w, where s stood
module _ (e q w s v : ℕ) where
  pub entry_changed : e ≡ q → v ≡ w → v ≡ cond (e == q) w s
  entry_changed h t = rw (eq-eqb e q h) t

  pub entry_kept : (e ≢ q) → v ≡ s → v ≡ cond (e == q) w s
  entry_kept h t = rw (ne_eqb e q h) t

-- ---- table number x
table_of_twice : (which : Tables) (top n : ℕ) (S : List ℕ) (x y : ℕ) (T : List ℕ)
    → tried_table which top n S x (tried_table which top n S y T) ≡ tried_table which top n S x T
unfolding tried_table numbered_table altered
table_of_twice Every top n S x y T = overlaid_twice n _ _ T
table_of_twice Altered top n S x y T = overlaid_twice n _ _ T

table_of_length : (which : Tables) (top n : ℕ) (S : List ℕ) (x : ℕ) (T : List ℕ) → length (tried_table which top n S x T) ≡ length T
unfolding tried_table numbered_table altered
table_of_length Every top n S x T = table_length _ _
table_of_length Altered top n S x T = table_length _ _

-- laid over B, each table is what it is laid over A
pub record Reused (which : Tables) (top n : ℕ) (S A B : List ℕ) : Type 0 where
  pub size : length B ≡ length A
  pub alike : (x : ℕ) → tried_table which top n S x B ≡ tried_table which top n S x A

pub reused_start : (which : Tables) (top n : ℕ) (S A : List ℕ) → Reused which top n S A A
reused_start which top n S A = record { size = refl; alike = λ x. refl }

pub reused_turn : {which : Tables} {top n : ℕ} {S A B : List ℕ} (y : ℕ) (C : List ℕ) → Reused which top n S A B → C ≡ tried_table which top n S y B
    → Reused which top n S A C
reused_turn {which} {top} {n} {S} {A} {B} y C b e = record {
  size = ap length e ∙ table_of_length which top n S y B ∙ b.size;
  alike = λ x. ap (tried_table which top n S x) e ∙ table_of_twice which top n S x y B ∙ b.alike x;
}

-- one table's counts, from a buffer that was used before
pub reused_tally : {which : Tables} {top n : ℕ} {S A B : List ℕ} (p : Pair) (x : ℕ) (C : List ℕ) (r : Tally) → Reused which top n S A B
    → C ≡ tried_table which top n S x B → r ≡ table_tally p n S C → r ≡ table_tally p n S (tried_table which top n S x A)
reused_tally {n} {S} p x C r b e t = t ∙ ap (table_tally p n S) (e ∙ b.alike x)
