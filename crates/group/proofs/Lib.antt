-- The laws of group's definitions.
pub mod Holding
pub mod Texts
pub mod Promises
pub mod Rooms
pub mod Reported
pub mod SamePlace
pub mod Confined
pub mod Damage
pub mod DamageInstance
pub mod StruckS
pub mod Growth
pub mod GrownS
pub mod Due
pub mod Numbered
pub mod Alike
pub mod Ends
pub mod TwiceEnds
