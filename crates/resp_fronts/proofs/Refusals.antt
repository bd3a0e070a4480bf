-- What refuses a byte.
pub mod RefusedFronts
pub mod IntegerRange
pub mod BigNumberLength
pub mod RefusedBytes
pub mod ContentLength
pub mod FirstRuleBroken
pub mod BrokenLines
pub mod BrokenHeads
pub mod FirstByteCauses
pub mod BrokenChunks
