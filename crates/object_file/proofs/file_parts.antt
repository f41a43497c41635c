pub mod Laws
pub mod PartLaws
pub mod ValueLaws
pub mod LoopLaws
