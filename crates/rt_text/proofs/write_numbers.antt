pub mod Digits
pub mod DigitLoop
pub mod IntegerWriting
