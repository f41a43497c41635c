pub use Rattle.ll1_grammar.specs as ll1_grammar
pub mod Parts
pub mod Asked
pub mod Operators
pub mod Lexemes
pub mod Productions
pub mod Rules
pub mod DeclarationChoices
pub mod StatementChoices
pub mod Choices
pub mod DeclarationStarts
pub mod StatementStarts
pub mod Starts
pub mod Follows
pub mod Omissions
pub mod Laws
pub mod lexeme_list
