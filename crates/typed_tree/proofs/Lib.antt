pub mod Views
pub mod StatementViews
pub mod NeedSteps
pub mod FrameParts
pub mod Fitting
