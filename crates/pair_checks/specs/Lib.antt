pub mod PairValues
