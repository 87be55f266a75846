-- in reading order
pub mod Covered  -- the code's calls are the steps of a run
pub mod Reached  -- every state that a run reaches is finite
pub mod Symmetry  -- demand 3: the estimator commutes with turning
