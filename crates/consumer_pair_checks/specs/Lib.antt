pub mod PairTaken
