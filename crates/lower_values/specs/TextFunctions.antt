-- Standard functions of strings, behind their arguments.
use Rattle.std.specs.Prelude.{ℕ, ◌+◌, List, [], ◌∷◌}
use Rattle.type_layout.specs.declared.definitions.Host.TheVariants as host
use Rattle.type_layout.specs.declared.definitions.TypeDef.{TypeDef}
use Rattle.typed_tree.specs.Slots.{slot_of}
use Rattle.typed_tree.specs.Expressions.{Expression, Arguments, NoArguments, ByValue, ByPlace}
use Rattle.flat_code.specs.declared.tree.Address.{Address}
use Rattle.flat_code.specs.declared.tree.Address.TheVariants.{Through}
use Rattle.flat_code.specs.Tree.{Expr, Number, AddressOf, SegmentOf, StoreByte, Code, End, ◌then◌}
use Rattle.runtime_units.specs.declared.numbers.numbers.RuntimeRoutine.TheVariants as routine
use Rattle.lower_places.specs.declared.reach.Reach.{Reach}
use Rattle.lower_places.specs.declared.reach.Reach.TheVariants.{At}
use Rattle.lower_values.specs.declared.forms.Form.{Form}
use Rattle.lower_values.specs.declared.forms.Form.TheVariants as form
use Rattle.lower_values.specs.Nodes.{single, pair, runtime, with_result}
use Rattle.lower_values.specs.Forms.{form_bytes, form_of, slot_at, slot_place, long_words, text_words}
use Rattle.lower_values.specs.Access.{load_word}
use Rattle.lower_values.specs.Texts.{joined}

abbrev pub length_at : ℕ → Reach → ℕ → Code
length_at locals from slot = load_word locals from host.Byte slot

-- where a string in a slot lies
abbrev pub text_place : ℕ → Form → ℕ → Address
text_place locals form.Text slot = slot_place locals slot 256
text_place locals _ slot = Through (slot_at locals slot 4) 0

abbrev pub length_of : ℕ → Form → ℕ → Code
length_of locals form slot = length_at locals (At (text_place locals form slot)) slot

-- the segment and the offset of what lies at a place
abbrev pub place_pair : Address → Expr × Expr
place_pair at = (SegmentOf at, AddressOf at)

abbrev pub copied_by : ℕ → Form → Form → Form → ℕ → Code
copied_by locals text place count slot =
    let second = slot + form_bytes text in
    let third = second + form_bytes place in
    single (runtime routine.Copy (SegmentOf (slot_place locals slot 256) ∷ AddressOf (slot_place locals slot 256)
    ∷ (text_words locals text slot).0 ∷ (text_words locals text slot).1
    ∷ (long_words locals place second).0 ∷ (long_words locals place second).1
    ∷ (long_words locals count third).0 ∷ (long_words locals count third).1 ∷ []))

abbrev pub copied : ℕ → List TypeDef → Expression → Expression → Expression → ℕ → Code
copied locals types text place count slot = copied_by locals (form_of types text) (form_of types place) (form_of types count) slot

abbrev pub found_by : ℕ → Form → Form → ℕ → Code
found_by locals part text slot =
    single (with_result routine.Pos ((text_words locals part slot).0 ∷ (text_words locals part slot).1
    ∷ (text_words locals text (slot + form_bytes part)).0 ∷ (text_words locals text (slot + form_bytes part)).1 ∷ []) (slot_at locals slot 2) 2)

abbrev pub found : ℕ → List TypeDef → Expression → Expression → ℕ → Code
found locals types part text slot = found_by locals (form_of types part) (form_of types text) slot

-- the slot behind all arguments
abbrev pub behind_all : List TypeDef → Arguments → ℕ → ℕ
behind_all types NoArguments slot = slot
behind_all types (ByValue value rest) slot = behind_all types rest (slot + slot_of types value)
behind_all types (ByPlace place rest) slot = behind_all types rest (slot + 4)

-- a string in a slot is joined to what stands at a place
abbrev pub added : ℕ → List TypeDef → Expression → ℕ → Address → Code
added locals types text slot to = joined to (place_pair to) (text_words locals (form_of types text) slot)

abbrev pub chained : ℕ → List TypeDef → Arguments → ℕ → Address → Code
chained locals types NoArguments slot to = End
chained locals types (ByValue text rest) slot to = added locals types text slot to then chained locals types rest (slot + form_bytes (form_of types text)) to
chained locals types (ByPlace place rest) slot to = End

-- all strings are joined behind them, and go from there to the first slot, upward
abbrev pub concatenated : ℕ → List TypeDef → Arguments → ℕ → Address → Code
concatenated locals types args slot scratch =
    let behind = slot_place locals (behind_all types args slot) 256 in
    (pair (StoreByte behind (Number 0)) (StoreByte scratch (Number 0)) then chained locals types args slot behind)
    then joined (slot_place locals slot 256) (place_pair scratch) (place_pair behind)
