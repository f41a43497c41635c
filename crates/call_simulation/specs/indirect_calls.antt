pub mod FarCallable
