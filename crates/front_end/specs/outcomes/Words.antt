-- Words for kinds, causes and features: the names of their variants.
use Rattle.std.specs.Prelude.{ℕ, List, codes}
use Rattle.tp_lexer.specs.declared.token.Feature.{Feature}
use Rattle.tp_lexer.specs.declared.token.Feature.TheVariants as feature
use Rattle.source_graph.specs.declared.error.LexCause.{LexCause}
use Rattle.source_graph.specs.declared.error.LexCause.TheVariants as lex
use Rattle.front_end.specs.declared.outcomes.refusal.What.{What}
use Rattle.front_end.specs.declared.outcomes.refusal.What.TheVariants as what
use Rattle.front_end.specs.declared.outcomes.refusal.CheckKind.{CheckKind}
use Rattle.front_end.specs.declared.outcomes.refusal.CheckKind.TheVariants as check
use Rattle.front_end.specs.declared.outcomes.refusal.ClassKind.{ClassKind}
use Rattle.front_end.specs.declared.outcomes.refusal.ClassKind.TheVariants as class

abbrev pub feature_text : Feature → List ℕ
feature_text feature.Reals = codes "Reals"
feature_text feature.Files = codes "Files"
feature_text feature.Gotos = codes "Gotos"
feature_text feature.Inline = codes "Inline"
feature_text feature.Variants = codes "Variants"
feature_text feature.Addresses = codes "Addresses"
feature_text feature.UntypedParameters = codes "UntypedParameters"
feature_text feature.Absolute = codes "Absolute"
feature_text feature.Externals = codes "Externals"
feature_text feature.Interrupts = codes "Interrupts"
feature_text feature.Casts = codes "Casts"
feature_text feature.HeapCalls = codes "HeapCalls"
feature_text feature.Blocks = codes "Blocks"
feature_text feature.Randoms = codes "Randoms"
feature_text feature.Ends = codes "Ends"
feature_text feature.Params = codes "Params"
feature_text feature.Seeks = codes "Seeks"
feature_text feature.Objects = codes "Objects"
feature_text feature.Overlays = codes "Overlays"
feature_text feature.Units = codes "Units"
feature_text feature.Directives = codes "Directives"
feature_text feature.TypedConstants = codes "TypedConstants"
feature_text feature.NotYet = codes "NotYet"

abbrev pub lex_cause_text : LexCause → List ℕ
lex_cause_text lex.BadCharacter = codes "BadCharacter"
lex_cause_text lex.OpenComment = codes "OpenComment"
lex_cause_text lex.OpenString = codes "OpenString"
lex_cause_text lex.BadNumber = codes "BadNumber"
lex_cause_text lex.BadDirective = codes "BadDirective"
lex_cause_text lex.OpenCondition = codes "OpenCondition"

abbrev pub what_text : What → List ℕ
what_text what.Source = codes "Source"
what_text what.Declaration = codes "Declaration"
what_text what.Code = codes "Code"
what_text what.Data = codes "Data"
what_text what.Image = codes "Image"
what_text what.Relocations = codes "Relocations"
what_text what.Units = codes "Units"
what_text what.Input = codes "Input"

abbrev pub check_kind_text : CheckKind → List ℕ
check_kind_text check.UnknownName = codes "UnknownName"
check_kind_text check.DuplicateName = codes "DuplicateName"
check_kind_text check.TypeMismatch = codes "TypeMismatch"
check_kind_text check.NotAVariable = codes "NotAVariable"
check_kind_text check.BadConstant = codes "BadConstant"
check_kind_text check.MissingBody = codes "MissingBody"
check_kind_text check.BadCall = codes "BadCall"

abbrev pub class_kind_text : ClassKind → List ℕ
class_kind_text class.BadOverride = codes "BadOverride"
class_kind_text class.MissingVirtual = codes "MissingVirtual"
class_kind_text class.DuplicateField = codes "DuplicateField"
