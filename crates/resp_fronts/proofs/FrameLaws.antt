-- Open frames: what has come and what may follow.
pub mod OpenFrames
pub mod Composition
pub mod LeastAround
pub mod KeptNodes
pub mod FrontLaws
pub mod Levels
pub mod LevelsAlone
pub mod MoreFrontLaws
pub mod WholeValues
