-- What is proved of the definitions in specs/. Nothing here has to be believed.
pub mod Aged
pub mod Closes
pub mod Closing
pub mod Due
pub mod Guarded
pub mod Laid
pub mod Ordered
pub mod Read
pub mod Rowed
pub mod Settled
pub mod Written
