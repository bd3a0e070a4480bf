-- Between values.
pub mod BetweenValues
pub mod RefusedBetweenValues
pub mod BegunBetweenValues
