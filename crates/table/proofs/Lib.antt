-- The laws of a table's check, in the order to read them, over the size of a record. The theorems to look for: SizedAccepted.in_accepted_exactly and
-- in_refused_exactly, SizedTables.in_accepted_table, in_table_accepted and in_bytes_routes, SizedMasking.in_strict_waived and in_masked_rules, those of
-- SizedAlone, of any call that judges a table and nothing else, and of SizedChecking, of the check. AtEight has those that are cited at 8 bytes.
pub mod Clear
pub mod SizedJudging
pub mod SizedTested
pub mod SizedAccepted
pub mod SizedTables
pub mod SizedMasking
pub mod Caused
pub mod SizedAlone
pub mod SizedChecking
pub mod AtEight
