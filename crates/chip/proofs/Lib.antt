-- The laws of the chip loader, in the order to read them. The theorems to look for: Calls.load_settled, load_refused, load_given, load_first_match,
-- load_back and load_only; Slots.load_once, load_holds, load_falls and load_unused; Looked.load_as_lookup; Masking.load_carried; Examples.
pub mod FirstMatch
pub mod Placing
pub mod Arranged
pub mod Images
pub mod Replies
pub mod Calls
pub mod Slots
pub mod Looked
pub mod Masking
pub mod Examples
