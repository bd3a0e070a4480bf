pub mod FrameLemmas
pub mod HeaderLemmas
pub mod HistoryLemmas
pub mod Lists
pub mod ReadingLemmas
pub mod RecordLemmas
pub mod StreamLemmas
