-- What is proved of the definitions in specs/. Nothing here has to be believed.
pub mod Moves
pub mod Order
pub mod Seats
pub mod Sits
