pub use Rattle.tp_parser.proofs.expression_parser_proofs as expression_parser_proofs
pub use Rattle.ll1_grammar.proofs as ll1_grammar_proofs
pub use Rattle.tp_lexer.proofs as tp_lexer_proofs
pub mod AmongLaws
pub mod AnswerLaws
pub mod FolderLaws
pub mod LackLaws
pub mod LexLaws
pub mod NameLaws
pub mod SourceLaws
pub mod TextLaws
pub mod Told
pub mod UsedLaws
pub mod WalkLaws
pub mod WholeLaws
