-- What is proved of the definitions in specs/. Nothing here has to be believed.
pub mod OneOutcome
