pub use Rattle.ll1_grammar.specs as ll1_grammar
pub use Rattle.pascal_grammar.specs as pascal_grammar
pub use Rattle.syntax_tree.specs as syntax_tree
pub use Rattle.tp_lexer.specs as tp_lexer
pub use Rattle.tp_outside.specs as tp_outside
pub use Rattle.tp_parser.specs as tp_parser
pub use Rattle.type_layout.specs as type_layout
pub mod Files
pub mod Sources
pub mod Texts
pub mod Walk
pub mod Whole
pub mod determinism
pub mod source_order
