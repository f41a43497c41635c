pub mod Trees
pub mod Drafts
pub mod Headings
pub mod Methods
pub mod Insides
pub mod Blocks
pub mod Laws
