-- The productions that stand for what is left out.
use Rattle.tp_lexer.specs.declared.token.Feature.{Feature}
use Rattle.tp_lexer.specs.declared.token.Feature.TheVariants as f
use Rattle.pascal_grammar.specs.declared.omission.Omission.{Omission}
use Rattle.pascal_grammar.specs.declared.omission.Omission.TheVariants as o
use Rattle.pascal_grammar.specs.Productions.{Production}
use Rattle.pascal_grammar.specs.Productions as p

abbrev pub omitted : Omission → Production
omitted o.Labels = p.labels
omitted o.InterfaceExternal = p.interface_external
omitted o.InterfaceInterrupt = p.interface_interrupt
omitted o.InterfaceInline = p.interface_inline
omitted o.Absolute = p.absolute
omitted o.FileType = p.file_type
omitted o.DividedRange = p.divided_range
omitted o.DividedControl = p.divided_control
omitted o.PackedFile = p.packed_file
omitted o.Variants = p.variants
omitted o.UntypedBeforeGroup = p.untyped_before_group
omitted o.UntypedLast = p.untyped_last
omitted o.ParameterFile = p.parameter_file
omitted o.External = p.external
omitted o.Interrupt = p.interrupt
omitted o.InlineBody = p.inline_body
omitted o.GotoStatement = p.goto_statement
omitted o.InlineStatement = p.inline_statement
omitted o.AssignedCast = p.assigned_cast
omitted o.DereferencedCast = p.dereferenced_cast
omitted o.SelectedCast = p.selected_cast
omitted o.IndexedCast = p.indexed_cast
omitted o.WithCast = p.with_cast
omitted o.Divided = p.divided
omitted o.Real = p.real
omitted o.Address = p.address
omitted o.CaretCast = p.caret_cast
omitted o.DotCast = p.dot_cast
omitted o.BracketCast = p.bracket_cast

abbrev pub feature : Omission → Feature
feature o.Labels = f.Gotos
feature o.InterfaceExternal = f.Externals
feature o.InterfaceInterrupt = f.Interrupts
feature o.InterfaceInline = f.Inline
feature o.Absolute = f.Absolute
feature o.FileType = f.Files
feature o.DividedRange = f.Reals
feature o.DividedControl = f.Reals
feature o.PackedFile = f.Files
feature o.Variants = f.Variants
feature o.UntypedBeforeGroup = f.UntypedParameters
feature o.UntypedLast = f.UntypedParameters
feature o.ParameterFile = f.Files
feature o.External = f.Externals
feature o.Interrupt = f.Interrupts
feature o.InlineBody = f.Inline
feature o.GotoStatement = f.Gotos
feature o.InlineStatement = f.Inline
feature o.AssignedCast = f.Casts
feature o.DereferencedCast = f.Casts
feature o.SelectedCast = f.Casts
feature o.IndexedCast = f.Casts
feature o.WithCast = f.Casts
feature o.Divided = f.Reals
feature o.Real = f.Reals
feature o.Address = f.Addresses
feature o.CaretCast = f.Casts
feature o.DotCast = f.Casts
feature o.BracketCast = f.Casts
