-- The laws of count's definitions.
pub mod Rulings
pub mod Sets
pub mod Tallied
pub mod Vacant
pub mod Checks
pub mod Due
pub mod Numbered
pub mod Releases
pub mod SameCounting
