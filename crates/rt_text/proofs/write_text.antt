pub mod Padded
pub mod StringWriting
pub mod MadeText
pub mod MadeWriting
pub mod LineWriting
