pub mod RangeLemmas
pub mod CountLemmas
pub mod HistogramLemmas
pub mod NameLemmas
pub mod RowLemmas
