mod Brought
mod Items
mod Methods
mod Scopes
mod Shown
mod Units
mod Used
mod Whole
pub mod Below
