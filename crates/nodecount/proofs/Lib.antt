-- The laws of the node count. The theorems to look for: NodeCount.nodes_pass, nodes-most and nodes_met, NodeRuns.nodes_runs and nodes_prefixes,
-- NodeRecords.records-few, NodesWide.nodes-widen.
pub mod NodeCount
pub mod NodePass
pub mod NodeRuns
pub mod NodeRecords
pub mod NodesWide
