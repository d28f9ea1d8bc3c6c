-- Records that are laid, and texts whose lines stand in another order.
pub mod AnyOrder
