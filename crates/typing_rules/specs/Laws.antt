-- What a judgement promises: what it answers is the one thing that holds, and then nothing fails; or a fault that is there, and
-- then nothing holds.
use Rattle.std.specs.Prelude.{◌≡◌, ℕ, Bool, Result, Ok, Err, List}
use Rattle.type_layout.specs.declared.texts.Place.{Place}
use Rattle.type_layout.specs.declared.definitions.TypeId.{TypeId}
use Rattle.type_layout.specs.declared.definitions.TypeDef.{TypeDef}
use Rattle.typed_tree.specs.declared.expressions.UnaryOp.{UnaryOp}
use Rattle.typed_tree.specs.declared.expressions.BinaryOp.{BinaryOp}
use Rattle.typed_tree.specs.Expressions.{Expression}
use Rattle.typing_rules.specs.declared.faults.Fault.{Fault}
use Rattle.typing_rules.specs.Judgements.{Judgement}
use Rattle.typing_rules.specs.Operators.{combined, signed, negated}
use Rattle.typing_rules.specs.Assignments.{assigned}
use Rattle.typing_rules.specs.Selectors.{selected, indexed, followed}

pub record Found {C : Type 0} (P : C → Type 0) (F : Fault → Type 0) (c : C) : Type 0 where
  pub holds : P c
  pub only : (o : C) → P o → o ≡ c
  pub fine : (f : Fault) → F f → ⊥

pub record Refused {C : Type 0} (P : C → Type 0) (F : Fault → Type 0) (f : Fault) : Type 0 where
  pub fails : F f
  pub none : (o : C) → P o → ⊥

abbrev pub Agrees : {C : Type 0} → Result C Fault → (C → Type 0) → (Fault → Type 0) → Type 0
Agrees (Ok c) P F = Found P F c
Agrees (Err f) P F = Refused P F f

abbrev pub Lawful : {C : Type 0} → Judgement C → Type 0
Lawful j = Agrees j.run j.holds j.fails

-- Of every tree at most one thing holds; where one holds nothing fails; and where nothing fails, one holds.
pub record IsExact {T C : Type 0} (j : T → Judgement C) : Type 0 where
  pub one : (t : T) (c d : C) → (j t).holds c → (j t).holds d → c ≡ d
  pub excludes : (t : T) (c : C) (f : Fault) → (j t).holds c → (j t).fails f → ⊥
  pub suffices : (t : T) → ((f : Fault) → (j t).fails f → ⊥) → (c : C) × (j t).holds c

-- the judgements of operators, selectors and assigned values are lawful
pub record AreLawful : Type 0 where
  pub combined : (types : List TypeDef) (place : Place) (op : BinaryOp) (early : Bool) (a b : Expression) → Lawful (combined types place op early a b)
  pub signed : (types : List TypeDef) (place : Place) (op : UnaryOp) (a : Expression) → Lawful (signed types place op a)
  pub negated : (types : List TypeDef) (place : Place) (a : Expression) → Lawful (negated types place a)
  pub selected : (types : List TypeDef) (place : Place) (e : Expression) (name : List ℕ) → Lawful (selected types place e name)
  pub indexed : (types : List TypeDef) (place : Place) (checked : Bool) (e i : Expression) → Lawful (indexed types place checked e i)
  pub followed : (types : List TypeDef) (place : Place) (e : Expression) → Lawful (followed types place e)
  pub assigned : (types : List TypeDef) (place : Place) (ty : TypeId) (checked : Bool) (e : Expression) → Lawful (assigned types place ty checked e)
