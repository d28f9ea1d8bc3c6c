-- The laws of weights. The theorems to look for: Weights.weighed_runs, Sums.weighed_one, Wide.weighed-widen, Needed.needed_sum, needed-walk and
-- node-positions.
pub mod Weights
pub mod Sums
pub mod Wide
pub mod Needed
pub mod Agree
pub mod Cases
