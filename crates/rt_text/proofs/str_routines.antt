pub mod Widths
pub mod Texts
pub mod WideDigits
pub mod MakingDigits
pub mod RoomTaking
pub mod Filling
pub mod Standing
pub mod TextMaking
