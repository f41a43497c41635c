pub mod Behind
pub mod Bracketed
pub mod Going
pub mod Listing
pub mod Loop
pub mod Results
pub mod Shapes
pub mod Sound
