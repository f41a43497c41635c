-- The tests of the rules on operators tell what the rules ask.
use Rattle.std.proofs.Common.{true, false, Option, Some, Decides, refl}
use Rattle.std.proofs.lemmas.Bool.Decides.{Decides-and, Decides-or, Decides-eqb}
use Rattle.typing_rules.specs.declared.sorts.SetBase.{SetBase}
use Rattle.typing_rules.specs.declared.sorts.SetBase.TheVariants as over
use Rattle.typing_rules.specs.declared.sorts.Sort.{Sort}
use Rattle.typing_rules.specs.declared.sorts.Sort.TheVariants as sort
use Rattle.typing_rules.specs.declared.plans.Operation.{Operation}
use Rattle.typing_rules.specs.declared.plans.Operation.TheVariants.{Sum, Product, Quotient, Shift, Logic, Equality, Inclusion, Order, Membership}
use Rattle.typing_rules.specs.Plans.{IsInteger, IsBoolean, IsText, AreOfOneHost, AreIntegers, AreBooleans, AreTexts, AreOfOneBase, AreSets, base_holding, IsHeldBy, IsMember, Asks, AsksNot, is_integer, is_boolean, is_text, are_of_one_host, are_integers, are_booleans, are_texts, are_of_one_base, are_sets, is_held_by, is_member, allows, allows_not}

pub yes : Decides true (Unit {0})
yes = (λ e. tt, λ h. refl)

pub no : Decides false ⊥
no = (λ e. cc, λ h. absurd h)

-- ---- what one operand is

pub tells_integer : (s : Sort) → Decides (is_integer s) (IsInteger s)
tells_integer (sort.Integer r) = yes
tells_integer sort.Boolean = no
tells_integer sort.Char = no
tells_integer (sort.Enumeration ty) = no
tells_integer sort.Text = no
tells_integer (sort.Set base) = no
tells_integer sort.Pointer = no
tells_integer sort.Nil = no
tells_integer sort.Other = no

tells_boolean : (s : Sort) → Decides (is_boolean s) (IsBoolean s)
tells_boolean (sort.Integer r) = no
tells_boolean sort.Boolean = yes
tells_boolean sort.Char = no
tells_boolean (sort.Enumeration ty) = no
tells_boolean sort.Text = no
tells_boolean (sort.Set base) = no
tells_boolean sort.Pointer = no
tells_boolean sort.Nil = no
tells_boolean sort.Other = no

pub tells_text : (s : Sort) → Decides (is_text s) (IsText s)
tells_text (sort.Integer r) = no
tells_text sort.Boolean = no
tells_text sort.Char = yes
tells_text (sort.Enumeration ty) = no
tells_text sort.Text = yes
tells_text (sort.Set base) = no
tells_text sort.Pointer = no
tells_text sort.Nil = no
tells_text sort.Other = no

-- ---- what two operands are

-- a catch-all stands for each sort that the clauses above it leave
pub tells_one_host : (s t : Sort) → Decides (are_of_one_host s t) (AreOfOneHost s t)
tells_one_host (sort.Integer r) (sort.Integer q) = yes
tells_one_host sort.Boolean sort.Boolean = yes
tells_one_host sort.Char sort.Char = yes
tells_one_host (sort.Enumeration a) (sort.Enumeration b) = Decides-eqb a.0 b.0
tells_one_host _ _ = no

pub tells_one_base : (a b : SetBase) → Decides (are_of_one_base a b) (AreOfOneBase a b)
tells_one_base over.Any b = yes
tells_one_base over.Integers over.Any = yes
tells_one_base over.Booleans over.Any = yes
tells_one_base over.Chars over.Any = yes
tells_one_base (over.Enumeration a) over.Any = yes
tells_one_base over.Integers over.Integers = yes
tells_one_base over.Booleans over.Booleans = yes
tells_one_base over.Chars over.Chars = yes
tells_one_base (over.Enumeration a) (over.Enumeration b) = Decides-eqb a.0 b.0
tells_one_base _ _ = no

pub tells_sets : (s t : Sort) → Decides (are_sets s t) (AreSets s t)
tells_sets (sort.Set a) (sort.Set b) = tells_one_base a b
tells_sets _ _ = no

tells_held : (a : Option SetBase) (t : Sort) → Decides (is_held_by a t) (IsHeldBy a t)
tells_held (Some a) (sort.Set b) = tells_one_base a b
tells_held _ _ = no

pub tells_member : (s t : Sort) → Decides (is_member s t) (IsMember s t)
tells_member s t = tells_held (base_holding s) t

module _ (s t : Sort) where
  tells_integers : Decides (are_integers s t) (AreIntegers s t)
  tells_integers = Decides-and _ _ (tells_integer s) (tells_integer t)

  tells_booleans : Decides (are_booleans s t) (AreBooleans s t)
  tells_booleans = Decides-and _ _ (tells_boolean s) (tells_boolean t)

  tells_texts : Decides (are_texts s t) (AreTexts s t)
  tells_texts = Decides-and _ _ (tells_text s) (tells_text t)

-- ---- the rules

pub tells_allowed : (operation : Operation) (s t : Sort) → Decides (allows operation s t) (Asks operation s t)
tells_allowed Sum s t = Decides-or _ _ (tells_integers s t) (Decides-or _ _ (tells_texts s t) (tells_sets s t))
tells_allowed Product s t = Decides-or _ _ (tells_integers s t) (tells_sets s t)
tells_allowed Quotient s t = tells_integers s t
tells_allowed Shift s t = tells_integers s t
tells_allowed Logic s t = Decides-or _ _ (tells_integers s t) (tells_booleans s t)
tells_allowed Equality s t = Decides-or _ _ (tells_one_host s t) (Decides-or _ _ (tells_texts s t) (tells_sets s t))
tells_allowed Inclusion s t = Decides-or _ _ (tells_one_host s t) (Decides-or _ _ (tells_texts s t) (tells_sets s t))
tells_allowed Order s t = Decides-or _ _ (tells_one_host s t) (tells_texts s t)
tells_allowed Membership s t = tells_member s t

pub tells_not : (s : Sort) → Decides (allows_not s) (AsksNot s)
tells_not s = Decides-or _ _ (tells_integer s) (tells_boolean s)
