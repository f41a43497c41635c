pub mod Merging
pub mod Renumbering
pub mod Fitting
pub mod Using
pub mod Beginning
pub mod Showing
