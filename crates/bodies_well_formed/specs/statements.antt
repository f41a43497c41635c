pub mod Trees
pub mod Within
pub mod Laws
