pub mod OfOperators
