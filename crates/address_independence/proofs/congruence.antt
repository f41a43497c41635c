pub mod Units
pub mod Activations
pub mod Forms
pub mod Runs
