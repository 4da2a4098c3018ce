pub mod Figure2Laws
pub mod FixpointTheorems
pub mod RankTheorems
