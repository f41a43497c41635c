pub mod ChainLaws
pub mod FollowLaws
pub mod LinkLaws
pub mod LiveLaws
pub mod PairLaws
pub mod SafeLaws
pub mod WholeLaws
