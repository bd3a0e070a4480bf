-- The tokens: what has come of a value, and what may follow it.
pub mod CountedContent
pub mod StreamedStrings
pub mod BegunFronts
pub mod LineTokens
pub mod DoubleTokens
pub mod NumberTokens
pub mod HeadTokens
pub mod StreamedHeads
pub mod ContentTokens
pub mod BegunTypeBytes
pub mod StringTokens
pub mod PayloadTokens
pub mod ChunkTokens
