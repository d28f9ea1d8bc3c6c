-- What the program replay keeps for a case with a call that stays at 32 bits.
pub mod SpecialKept
pub mod ChipKept
pub mod LiveKept
pub mod PlanKept
