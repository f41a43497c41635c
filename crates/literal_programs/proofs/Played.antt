-- What the statements of a program of literals do to the state of a run.
use Rattle.std.proofs.Common.{◌≡◌, ℕ, Bool, true, false, List, [], ◌∷◌, ◌++◌, length, Some, None, refl, sym, ap, ◌∙◌, arith}
use Rattle.std.specs.Prelude.{◌-◌, nat_lt, pos, negsuc, if◌then◌else◌, slice_get, Option, Ok}
use Rattle.common_values.specs.behaviour.Seen.{Ended}
use Rattle.common_values.specs.integers.Words.{w8, word_of}
use Rattle.type_layout.specs.declared.definitions.Host.TheVariants as host
use Rattle.type_layout.specs.declared.definitions.TypeId.{TypeId}
use Rattle.type_layout.specs.declared.definitions.TypeDef.{TypeDef}
use Rattle.type_layout.specs.declared.definitions.TypeDef.TheVariants as type
use Rattle.typed_tree.specs.declared.expressions.Value.{Value as Constant}
use Rattle.typed_tree.specs.declared.expressions.Value.TheVariants as value
use Rattle.typed_tree.specs.declared.units.Program.{Program}
use Rattle.typed_tree.specs.Expressions.{Expression, Const, RoutineValue, Load, Unary, Binary, Convert, Range, SetOf, Call, CallVirtual, CallThrough, Std, Make}
use Rattle.typed_tree.specs.Statements as typed
use Rattle.typed_tree.specs.Statements.{Written, Assign, CopyAll, Run, If, While, Repeat, Block, Case, For, With, WriteItems, ReadItems, Halt, Exit, Unmake, Statements, NoStatements, Then}
use Rattle.literal_programs.specs.literal_code.Statement.{Statement, write, halt}
use Rattle.tp_meaning.specs.Outcomes.{State, Outcome, Done, Over, Does, and_then}
use Rattle.tp_meaning.specs.Standard.{text_of, field_text}
use Rattle.tp_meaning.specs.Activations.{Activation}
use Rattle.tp_meaning.specs.Calls.{Flow, Next, Left, Runs}
use Rattle.tp_meaning.specs.Expressions.{constant_value}
use Rattle.tp_meaning.specs.Statements.{then_next, written, line_written, statement, statements}
use Rattle.literal_programs.specs.Literals.{text_in, item_text, joined, text_said, items_said, line_said, end_code, halt_said, said, all_said}

-- the state behind these bytes
abbrev pub behind : List ℕ → State → State
behind bytes s = record s { out = s.out ++ bytes }

-- what the statements do, up to the first halt
abbrev pub played : List Statement → Does Flow
played [] s = Done Next s
played (write bytes ∷ rest) s = played rest (behind bytes s)
played (halt code ∷ rest) s = Over (Ended code) s

-- one list, and then another
played_both : (first others : List Statement) (s : State) → played (first ++ others) s ≡ and_then (played first s) (λ flow. then_next flow (played others))
played_both [] others s = refl
played_both (write bytes ∷ first) others s = played_both first others (behind bytes s)
played_both (halt code ∷ first) others s = refl

-- ---- lists that are joined

pub record AreJoined (a b : Option (List Statement)) (both : List Statement) : Type 0 where
  pub first : List Statement
  pub others : List Statement
  pub front : a ≡ Some first
  pub rest : b ≡ Some others
  pub is : both ≡ first ++ others

pub none_some : {A P : Type 0} {x : A} → None ≡ Some x → P
none_some e = cc

pub parts_of : (a b : Option (List Statement)) (both : List Statement) → joined a b ≡ Some both → AreJoined a b both
parts_of (Some first) (Some others) both e = record { first = first; others = others; front = refl; rest = refl; is = cc }
parts_of (Some first) None both e = none_some e
parts_of None b both e = none_some e

-- ---- items

no_field : (text : List ℕ) → field_text (pos 0) text ≡ text
no_field text = let none : 0 - length text ≡ 0 = omega arith in rw none refl

string_known : (ty : Option TypeDef) (bytes text : List ℕ) → text_in ty (value.Chars text) ≡ Some bytes → text_of ty (constant_value (value.Chars text)) ≡ Ok bytes
string_known (Some (type.Str max)) bytes text is = cc
string_known (Some (type.Ordinal h low high)) bytes text is = none_some is
string_known (Some (type.SetOf base)) bytes text is = none_some is
string_known (Some (type.ArrayOf index element)) bytes text is = none_some is
string_known (Some (type.RecordOf fields)) bytes text is = none_some is
string_known (Some (type.PointerTo target)) bytes text is = none_some is
string_known (Some (type.ObjectOf parent dynamic fields methods)) bytes text is = none_some is
string_known (Some (type.Procedural header)) bytes text is = none_some is
string_known None bytes text is = none_some is

small_only : (small : Bool) (byte : ℕ) (bytes : List ℕ) → (if small then Some (byte ∷ []) else None) ≡ Some bytes → byte ∷ [] ≡ bytes
small_only true byte bytes is = cc
small_only false byte bytes is = none_some is

char_known : (ty : Option TypeDef) (bytes : List ℕ) (byte : ℕ) → text_in ty (value.Number (pos byte)) ≡ Some bytes → text_of ty (constant_value (value.Number (pos byte))) ≡ Ok bytes
char_known (Some (type.Ordinal host.Char low high)) bytes byte is = ap Ok (small_only (nat_lt byte 256) byte bytes is)
char_known (Some (type.Ordinal host.ShortInt low high)) bytes byte is = none_some is
char_known (Some (type.Ordinal host.Byte low high)) bytes byte is = none_some is
char_known (Some (type.Ordinal host.Integer low high)) bytes byte is = none_some is
char_known (Some (type.Ordinal host.Word low high)) bytes byte is = none_some is
char_known (Some (type.Ordinal host.LongInt low high)) bytes byte is = none_some is
char_known (Some (type.Ordinal host.Boolean low high)) bytes byte is = none_some is
char_known (Some (type.Ordinal host.Enumeration low high)) bytes byte is = none_some is
char_known (Some (type.Str max)) bytes byte is = none_some is
char_known (Some (type.SetOf base)) bytes byte is = none_some is
char_known (Some (type.ArrayOf index element)) bytes byte is = none_some is
char_known (Some (type.RecordOf fields)) bytes byte is = none_some is
char_known (Some (type.PointerTo target)) bytes byte is = none_some is
char_known (Some (type.ObjectOf parent dynamic fields methods)) bytes byte is = none_some is
char_known (Some (type.Procedural header)) bytes byte is = none_some is
char_known None bytes byte is = none_some is

text_known : (ty : Option TypeDef) (v : Constant) (bytes : List ℕ) → text_in ty v ≡ Some bytes → text_of ty (constant_value v) ≡ Ok bytes
text_known ty (value.Chars text) bytes is = string_known ty bytes text is
text_known ty (value.Number (pos byte)) bytes is = char_known ty bytes byte is
text_known ty (value.Number (negsuc n)) bytes is = none_some is
text_known ty value.Nil bytes is = none_some is
text_known ty (value.Elements elements) bytes is = none_some is

-- an item is written
constant_written : (program : Program) (again : Runs) (f : Activation) (ty : TypeId) (v : Constant) (rest : List Written) (bytes : List ℕ) (s : State)
    → text_in (slice_get f.unit.types.types ty.0) v ≡ Some bytes → written program again f (record { value = Const ty v; width = None } ∷ rest) s ≡ written program again f rest (behind bytes s)
constant_written program again f ty v rest bytes s is =
    let known : text_of (slice_get f.unit.types.types ty.0) (constant_value v) ≡ Ok bytes = text_known (slice_get f.unit.types.types ty.0) v bytes is in
    rw (known, no_field bytes) refl

item_by : (program : Program) (again : Runs) (f : Activation) (e : Expression) (w : Option Expression) (rest : List Written) (bytes : List ℕ) (s : State)
    → item_text f.unit.types.types e w ≡ Some bytes → written program again f (record { value = e; width = w } ∷ rest) s ≡ written program again f rest (behind bytes s)
item_by program again f (Const ty v) None rest bytes s is = constant_written program again f ty v rest bytes s is
item_by program again f (RoutineValue ty routine) None rest bytes s is = none_some is
item_by program again f (Load ty from) None rest bytes s is = none_some is
item_by program again f (Unary ty op operand) None rest bytes s is = none_some is
item_by program again f (Binary ty op left right early) None rest bytes s is = none_some is
item_by program again f (Convert ty operand) None rest bytes s is = none_some is
item_by program again f (Range ty operand low high) None rest bytes s is = none_some is
item_by program again f (SetOf ty listed) None rest bytes s is = none_some is
item_by program again f (Call ty routine own args) None rest bytes s is = none_some is
item_by program again f (CallVirtual ty own slot checked args) None rest bytes s is = none_some is
item_by program again f (CallThrough ty through args) None rest bytes s is = none_some is
item_by program again f (Std ty number args) None rest bytes s is = none_some is
item_by program again f (Make ty routine args) None rest bytes s is = none_some is
item_by program again f e (Some width) rest bytes s is = none_some is

abbrev IsText : Option (List ℕ) → List Statement → Type 0
IsText text first = (bytes : List ℕ) × (text ≡ Some bytes) × (first ≡ write bytes ∷ [])

text_only : (text : Option (List ℕ)) (first : List Statement) → text_said text ≡ Some first → IsText text first
text_only (Some bytes) first is = (bytes, refl, cc)
text_only None first is = none_some is

-- items are written, and then perhaps the end of the line
items_played : (program : Program) (again : Runs) (f : Activation) (line : Bool) (items : List Written) (xs : List Statement) (s : State)
    → items_said f.unit.types.types items ≡ Some xs → and_then (written program again f items s) (λ _. line_written line) ≡ played (xs ++ line_said line) s
items_played program again f true [] xs s is = let e : xs ≡ [] = cc in rw e refl
items_played program again f false [] xs s is = let e : xs ≡ [] = cc in rw e refl
items_played program again f line (item ∷ items) xs s is =
    let types = f.unit.types.types in
    let parts = parts_of (text_said (item_text types item.value item.width)) (items_said types items) xs is in
    let text = text_only (item_text types item.value item.width) parts.first parts.front in
    let all : xs ≡ write text.0 ∷ parts.others = cc (parts.is, text.2) in
    let rest = items_played program again f line items parts.others (behind text.0 s) parts.rest in
    let one : written program again f (item ∷ items) s ≡ written program again f items (behind text.0 s) = item_by program again f item.value item.width items text.0 s text.1 in
    ap (λ (o : Outcome (Unit {0})). and_then o (λ _. line_written line)) one ∙ rest ∙ sym (ap (λ ys. played (ys ++ line_said line) s) all)

-- ---- statements

-- the same statements behind the same
alike_behind : (o : Outcome Flow) (go other : Does Flow) → ((s : State) → go s ≡ other s) → and_then o (λ flow. then_next flow go) ≡ and_then o (λ flow. then_next flow other)
alike_behind (Done Next s) go other same = same s
alike_behind (Done Left s) go other same = refl
alike_behind (Over standing s) go other same = refl

halted : (program : Program) (again : Runs) (f : Activation) (e : Expression) (xs : List Statement) (s : State)
    → halt_said (end_code e) ≡ Some xs → statement program again f (Halt e) s ≡ played xs s
halted program again f (Const ty (value.Number z)) xs s is = let e : xs ≡ halt (word_of w8 z) ∷ [] = cc in rw e refl
halted program again f (Const ty (value.Chars bytes)) xs s is = none_some is
halted program again f (Const ty value.Nil) xs s is = none_some is
halted program again f (Const ty (value.Elements elements)) xs s is = none_some is
halted program again f (RoutineValue ty routine) xs s is = none_some is
halted program again f (Load ty from) xs s is = none_some is
halted program again f (Unary ty op operand) xs s is = none_some is
halted program again f (Binary ty op left right early) xs s is = none_some is
halted program again f (Convert ty operand) xs s is = none_some is
halted program again f (Range ty operand low high) xs s is = none_some is
halted program again f (SetOf ty listed) xs s is = none_some is
halted program again f (Call ty routine own args) xs s is = none_some is
halted program again f (CallVirtual ty own slot checked args) xs s is = none_some is
halted program again f (CallThrough ty through args) xs s is = none_some is
halted program again f (Std ty number args) xs s is = none_some is
halted program again f (Make ty routine args) xs s is = none_some is

line_played : (program : Program) (again : Runs) (f : Activation) (items : List Written) (line : Bool) (xs : List Statement) (s : State)
    → joined (items_said f.unit.types.types items) (Some (line_said line)) ≡ Some xs → statement program again f (WriteItems items line) s ≡ played xs s
line_played program again f items line xs s is =
    let parts = parts_of (items_said f.unit.types.types items) (Some (line_said line)) xs is in
    let all : xs ≡ parts.first ++ line_said line = cc (parts.is, parts.rest) in
    items_played program again f line items parts.first s parts.front ∙ sym (ap (λ ys. played ys s) all)

mutual
  -- a statement does what it says
  pub statement_played : (program : Program) (again : Runs) (f : Activation) (one : typed.Statement) (xs : List Statement) (s : State)
      → said f.unit.types.types one ≡ Some xs → statement program again f one s ≡ played xs s
  statement_played program again f (Block parts) xs s is = statements_played program again f parts xs s is
  statement_played program again f (WriteItems items line) xs s is = line_played program again f items line xs s is
  statement_played program again f (Halt code) xs s is = halted program again f code xs s is
  statement_played program again f (Assign to from) xs s is = none_some is
  statement_played program again f (CopyAll to from) xs s is = none_some is
  statement_played program again f (Run call) xs s is = none_some is
  statement_played program again f (If test taken other) xs s is = none_some is
  statement_played program again f (While test body) xs s is = none_some is
  statement_played program again f (Repeat body test) xs s is = none_some is
  statement_played program again f (Case selector arms other) xs s is = none_some is
  statement_played program again f (For variable ty from to down checked body) xs s is = none_some is
  statement_played program again f (With of body) xs s is = none_some is
  statement_played program again f (ReadItems items line) xs s is = none_some is
  statement_played program again f Exit xs s is = none_some is
  statement_played program again f (Unmake pointer with args) xs s is = none_some is

  pub statements_played : (program : Program) (again : Runs) (f : Activation) (parts : Statements) (xs : List Statement) (s : State)
      → all_said f.unit.types.types parts ≡ Some xs → statements program again f parts s ≡ played xs s
  statements_played program again f NoStatements xs s is = let e : xs ≡ [] = cc in rw e refl
  statements_played program again f (Then one rest) xs s is =
      let types = f.unit.types.types in
      let parts = parts_of (said types one) (all_said types rest) xs is in
      let first = statement_played program again f one parts.first s parts.front in
      let others : (t : State) → statements program again f rest t ≡ played parts.others t = λ t. statements_played program again f rest parts.others t parts.rest in
      ap (λ (o : Outcome Flow). and_then o (λ flow. then_next flow (statements program again f rest))) first
      ∙ alike_behind (played parts.first s) (statements program again f rest) (played parts.others) others
      ∙ sym (played_both parts.first parts.others s) ∙ sym (ap (λ ys. played ys s) parts.is)
