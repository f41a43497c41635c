-- What is taken as a slot of a row asks is as trees have it.
use Rattle.std.proofs.Common.{◌≡◌, ℕ, Bool, true, false, List, [], ◌∷◌, map, Option, Some, None, refl, sym, subst}
use Rattle.well_formed.specs.type_layout.declared.definitions.TypeId.{TypeId}
use Rattle.well_formed.specs.type_layout.declared.definitions.TypeDef.{TypeDef}
use Rattle.well_formed.specs.type_layout.declared.texts.Place.{Place}
use Rattle.well_formed.specs.typed_tree.Expressions as tree
use Rattle.well_formed.specs.typed_tree.Expressions.{Expression, Arguments, Load}
use Rattle.well_formed.specs.typed_tree.type_fits.Fits.{definition, IsString, IsPointer}
use Rattle.well_formed.specs.Scopes.{Scope}
use Rattle.well_formed.specs.Typed.{IsTyped, HasPlace, FillEach}
use Rattle.well_formed.specs.typed_tree.type_fits.Standard as trees
use Rattle.well_formed.specs.typed_tree.type_fits.Standard.{sort_of, FitsValue, FitsVariable}
use Rattle.call_rules.specs.typing_rules.declared.sorts.Sort.{Sort}
use Rattle.call_rules.specs.typing_rules.declared.sorts.Sort.TheVariants as sort
use Rattle.call_rules.specs.typing_rules.Sorts as sorts
use Rattle.call_rules.specs.typing_rules.Sorts.{sort_of_type}
use Rattle.call_rules.specs.typing_rules.Assignments as assignments
use Rattle.call_rules.specs.Given.{Handed, value, place_of, onto, arguments_of}
use Rattle.call_rules.specs.declared.standard_rules.signatures.Want.{Want}
use Rattle.call_rules.specs.declared.standard_rules.signatures.Want.TheVariants as want
use Rattle.call_rules.specs.standard_rules.Standard as standard
use Rattle.call_rules.specs.standard_rules.Standard.{Fits, is_for_text}
use Rattle.call_rules.specs.declared.procedure_rules.rows.Slot.{Slot}
use Rattle.call_rules.specs.declared.procedure_rules.rows.Slot.TheVariants as slot
use Rattle.call_rules.specs.procedure_rules.Procedures as rules
use Rattle.call_rules.specs.procedure_rules.Procedures.{variable, taken, by_slots}
use Rattle.rules_well_formed.specs.nodes.Tables.{IsSound}
use Rattle.rules_well_formed.specs.nodes.Laws.{IsOperand}
use Rattle.rules_well_formed.proofs.nodes.Sorted.{Shows, shows, shows_type}
use Rattle.rules_well_formed.proofs.nodes.Combined.{IsNone, not_nil}
use Rattle.rules_well_formed.proofs.nodes.Indexed.{loaded_from, integer_shown}
use Rattle.rules_well_formed.specs.calls.Laws.{AreOperands}
use Rattle.rules_well_formed.proofs.calls.Casts.{ordinal_stored}
use Rattle.rules_well_formed.proofs.standard.Arguments.{integer_given, short_given, ordinal_given, char_given, text_taken}

-- the slot of trees
abbrev pub wanted_slot : Want → trees.Slot
wanted_slot want.Integer = trees.Integer
wanted_slot want.Short = trees.Integer
wanted_slot want.Ordinal = trees.Ordinal
wanted_slot want.Char = trees.Char
wanted_slot want.Text = trees.Text

abbrev pub slot_of : Slot → trees.Slot
slot_of (slot.Value one) = wanted_slot one
slot_of slot.Pointer = trees.Pointer
slot_of slot.Ordinal = trees.OrdinalVariable
slot_of slot.Whole = trees.IntegerVariable
slot_of slot.Line = trees.TextVariable
slot_of slot.Link = trees.PointerVariable

-- an argument as a slot of trees takes it
abbrev pub IsFilled : Scope → trees.Slot → Handed → Type 0
IsFilled s one (value v) = IsTyped s v × FitsValue one (sort_of s.types v)
IsFilled s one (place_of at) = (ty : TypeId) × HasPlace s at ty × FitsVariable one (definition s.types ty)

pub fill_onto : (s : Scope) (one : trees.Slot) (slots : List trees.Slot) (handed : Handed) (rest : Arguments) → IsFilled s one handed → FillEach s slots rest → FillEach s (one ∷ slots) (onto handed rest)
fill_onto s one slots (value v) rest h k = (h.0, h.1, k)
fill_onto s one slots (place_of at) rest h k = (h, k)

-- ---- one argument

string_shown : (types : List TypeDef) (x : Sort) (one : Option TypeDef) → assignments.IsString x → Shows types x one → IsString one
string_shown types sort.Text one k h = h
string_shown types x one k h = absurd k

pointer_shown : (types : List TypeDef) (x : Sort) (one : Option TypeDef) → rules.IsPointer x → Shows types x one → IsPointer one
pointer_shown types sort.Pointer one k h = h
pointer_shown types x one k h = absurd k

pointer_some : (x : Sort) → rules.IsPointer x → IsNone x
pointer_some sort.Pointer h = tt
pointer_some x h = absurd h

module _ (s : Scope) (sound : IsSound s.types) (place : Place) where
  variable_at : (one : Slot) (ty : TypeId) (at : tree.Place) → IsOperand s (Load ty at) → rules.Holds one (sort_of_type s.types ty) → IsFilled s (slot_of one) (place_of at)
  variable_at slot.Ordinal ty at oe k = (ty, (loaded_from s ty at oe).1, ordinal_stored s.types (sort_of_type s.types ty) (definition s.types ty) k (shows_type s.types ty))
  variable_at slot.Whole ty at oe k = (ty, (loaded_from s ty at oe).1, integer_shown s.types (sort_of_type s.types ty) (definition s.types ty) k (shows_type s.types ty))
  variable_at slot.Line ty at oe k = (ty, (loaded_from s ty at oe).1, string_shown s.types (sort_of_type s.types ty) (definition s.types ty) k (shows_type s.types ty))
  variable_at slot.Link ty at oe k = (ty, (loaded_from s ty at oe).1, pointer_shown s.types (sort_of_type s.types ty) (definition s.types ty) k (shows_type s.types ty))
  variable_at slot.Pointer ty at oe k = absurd k
  variable_at (slot.Value one) ty at oe k = absurd k

  pub variable_filled : (one : Slot) (e : Expression) (handed : Handed) → IsOperand s e → (variable s.types place one e).holds handed → IsFilled s (slot_of one) handed
  variable_filled one (Load ty at) handed oe h = subst (λ (x : Handed). IsFilled s (slot_of one) x) (sym h.made) (variable_at one ty at oe h.asked)
  variable_filled one e handed oe h = absurd h

  value_filled : (one : Want) (e : Expression) → IsOperand s e → Fits one (sorts.sort_of s.types e)
      → IsFilled s (wanted_slot one) (standard.handed s.types (is_for_text one) e)
  value_filled want.Integer e oe k = integer_given s e oe k
  value_filled want.Short e oe k = short_given s e oe k
  value_filled want.Ordinal e oe k = ordinal_given s e oe k
  value_filled want.Char e oe k = char_given s e oe k
  value_filled want.Text e oe k = text_taken s sound e oe k

  pointer_filled : (e : Expression) → IsOperand s e → rules.IsPointer (sorts.sort_of s.types e) → IsFilled s trees.Pointer (value e)
  pointer_filled e oe k =
      let typed = not_nil s e (pointer_some (sorts.sort_of s.types e) k) oe in
      (typed, pointer_shown s.types (sorts.sort_of s.types e) (sort_of s.types e) k (shows s e typed))

  pub taken_filled : (one : Slot) (e : Expression) (handed : Handed) → IsOperand s e → (taken s.types place one e).holds handed → IsFilled s (slot_of one) handed
  unfolding taken
  taken_filled (slot.Value one) e handed oe h = subst (λ (x : Handed). IsFilled s (wanted_slot one) x) (sym h.made) (value_filled one e oe h.asked)
  taken_filled slot.Pointer e handed oe h = subst (λ (x : Handed). IsFilled s trees.Pointer x) (sym h.made) (pointer_filled e oe h.asked)
  taken_filled slot.Ordinal e handed oe h = variable_filled slot.Ordinal e handed oe h
  taken_filled slot.Whole e handed oe h = variable_filled slot.Whole e handed oe h
  taken_filled slot.Line e handed oe h = variable_filled slot.Line e handed oe h
  taken_filled slot.Link e handed oe h = variable_filled slot.Link e handed oe h

  pub slots_filled : (slots : List Slot) (es : List Expression) (all : List Handed) → AreOperands s es → (by_slots s.types place slots es).holds all
      → FillEach s (map (λ (one : Slot). slot_of one) slots) (arguments_of all)
  slots_filled [] [] all oes h = subst (λ (x : List Handed). FillEach s [] (arguments_of x)) (sym h) tt
  slots_filled [] (e ∷ es) all oes h = absurd h
  slots_filled (one ∷ slots) [] all oes h = absurd h
  slots_filled (one ∷ slots) (e ∷ es) all oes h =
      let first = taken_filled one e h.left oes.0 h.left_holds in
      let rest = slots_filled slots es h.right oes.1 h.right_holds in
      subst (λ (x : List Handed). FillEach s (map (λ (o : Slot). slot_of o) (one ∷ slots)) (arguments_of x)) (sym h.made)
      (fill_onto s (slot_of one) (map (λ (o : Slot). slot_of o) slots) h.left (arguments_of h.right) first rest)
