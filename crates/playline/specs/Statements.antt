-- What is shown of a lasso's text. The statement is a type; Theorems.antt gives its proof.
use Rattle.std.specs.Prelude.{true, List, ◌≡◌, ℕ, ◌≤◌, length}
use Rattle.codec.specs.Statements.{AreBytes}
use Rattle.machine.specs.Lassos.{given}
use Rattle.playline.specs.Lasso.{readable, lasso_in, lasso_text}

-- what is written as a lasso reads back
abbrev pub LassoReadsBack : Type 0
LassoReadsBack = (stem loop : List ℕ) → AreBytes stem → AreBytes loop → length stem ≤ 64 → length loop ≤ 64
    → (readable (lasso_text stem loop) ≡ true) × (lasso_in (lasso_text stem loop) ≡ given stem loop)
