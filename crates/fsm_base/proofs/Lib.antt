pub mod AlphabetLemmas
pub mod CutLemmas
pub mod LoneLemmas
pub mod NormalLemmas
pub mod OrderLemmas
pub mod SortedLemmas
pub mod TableLemmas
pub mod TextLemmas
