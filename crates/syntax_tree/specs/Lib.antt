pub mod Expressions
pub mod Statements
pub mod expression_tree
pub mod source_tree
pub mod statement_tree
pub mod type_tree
