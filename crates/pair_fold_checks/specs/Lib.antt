pub mod PairFold
