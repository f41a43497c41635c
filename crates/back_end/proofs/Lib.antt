pub mod LinkedUnits
pub mod OverlayNames
pub mod Told
