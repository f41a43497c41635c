pub mod Unplaced
pub mod Marks
pub mod Marked
