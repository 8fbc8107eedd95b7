pub mod Adds
pub mod Apart
pub mod Cuts
pub mod Guests
pub mod Own
pub mod Serves
pub mod TurnsSo
