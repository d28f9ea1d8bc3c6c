-- The definitions of a table's check, in the order to read them: the rules as tests and what they mean, over the size of a record; both at 8 bytes and by
-- a form; what the check answers.
pub mod SizedRules
pub mod SizedConditions
pub mod TableRules
pub mod Conditions
pub mod Checking
