mod RangeLemmas
pub mod ReadLemmas
mod ShortestLemmas
mod SpelledLemmas
