-- Laws of what replay keeps for the chip loader.
pub mod ChipLaws
