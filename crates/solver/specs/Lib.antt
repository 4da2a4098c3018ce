-- definitions
pub mod Families
pub mod Solver
pub mod Ranking
pub mod Sweeps
-- laws
pub mod XLaws
pub mod RankRowsLaws
pub mod LevelLaws
pub mod SweepLaws
pub mod FamilyRowsLaws
pub mod SolverLaws
pub mod SolvedLaws
