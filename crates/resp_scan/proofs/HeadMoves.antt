-- What one byte makes of each head.
pub mod OpensLead
pub mod CountsLead
pub mod HeadsLead
pub mod HeadDigits
pub mod StringHeads
pub mod StringHeadsLead
pub mod BulkHeadLeads
pub mod ChunkHeadsLead
