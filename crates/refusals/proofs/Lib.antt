-- The laws of refusing. The theorems to look for: Judged.gives-exactly and refuses-exactly; Ranked.ranked_append and singles, which show the order of
-- a call's rules, and ahead_in_order; Answered.unique, given_exactly and refused_exactly, which every call's statement has; Waived.waived_judge, by which
-- what is not refused by a number is answered as if the number were not given at all.
pub mod Shown
pub mod Judged
pub mod Replies
pub mod Ranked
pub mod Caused
pub mod Answered
pub mod Waived
pub mod Examples
