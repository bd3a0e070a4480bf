-- What the machine keeps of its numbers, and how its methods stand to it.
pub mod Runs
pub mod Starts
pub mod SoundMoves
pub mod SoundFrames
pub mod SoundStarts
pub mod SoundHeads
pub mod Sound
pub mod Kept
pub mod Places
pub mod Pieces
pub mod Counted
pub mod ShortHeads
pub mod ShortTexts
pub mod ShortInts
