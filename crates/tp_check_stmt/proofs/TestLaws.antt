-- What the rules of statements ask of sorts, types and labels is told right.
use Rattle.std.proofs.Common.{◌≡◌, ◌⊎◌, ℤ, ◌<ℤ◌, ◌≤ℤ◌, int_lt, int_le, ◌==◌, ◌||◌, true, false, All, List, Option, Some, Decides, refl, arith}
use Rattle.std.specs.List.{list_all}
use Rattle.std.proofs.lemmas.Int.{ints}
use Rattle.std.proofs.lemmas.Bool.Decides.{Decides-and, Decides-or, Decides-eqb, Decides-by_and}
use Rattle.type_layout.specs.declared.definitions.TypeDef.{TypeDef}
use Rattle.type_layout.specs.declared.definitions.TypeDef.TheVariants as type
use Rattle.typed_tree.specs.declared.expressions.Variable.{Variable}
use Rattle.typed_tree.specs.declared.statements.LabelRange.{LabelRange}
use Rattle.typing_rules.specs.declared.sorts.Sort.{Sort}
use Rattle.typing_rules.specs.declared.sorts.Sort.TheVariants as sort
use Rattle.typing_rules.specs.Plans.{IsBoolean, is_boolean}
use Rattle.typing_rules.proofs.PlanLaws.{yes, no}
use Rattle.tp_check_stmt.specs.Asked.{IsWritable, is_writable, IsReadable, is_readable}
use Rattle.tp_check_stmt.specs.Labels.{AreApart, are_apart, IsNew, is_new}
use Rattle.tp_check_stmt.specs.Loops.{IsNear, is_near, HasOrder, has_order}
use Rattle.tp_check_stmt.specs.Typed.{HasMembers, has_members}

-- a catch-all stands for each that the clauses above it leave
pub tells_boolean : (s : Sort) → Decides (is_boolean s) (IsBoolean s)
tells_boolean sort.Boolean = yes
tells_boolean _ = no

pub tells_writable : (s : Sort) → Decides (is_writable s) (IsWritable s)
tells_writable (sort.Integer r) = yes
tells_writable sort.Boolean = yes
tells_writable sort.Char = yes
tells_writable sort.Text = yes
tells_writable _ = no

pub tells_readable : (s : Sort) → Decides (is_readable s) (IsReadable s)
tells_readable (sort.Integer r) = yes
tells_readable sort.Char = yes
tells_readable sort.Text = yes
tells_readable _ = no

pub tells_order : (one : Option TypeDef) → Decides (has_order one) (HasOrder one)
tells_order (Some (type.Ordinal host low high)) = yes
tells_order _ = no

pub tells_members : (one : Option TypeDef) → Decides (has_members one) (HasMembers one)
tells_members (Some (type.RecordOf fields)) = yes
tells_members (Some (type.ObjectOf parent dynamic fields methods)) = yes
tells_members _ = no

tells_less : (m n : ℤ) → Decides (int_lt m n) (m <ℤ n)
tells_less m n = (λ e. grind (arith, ints), λ h. grind (arith, ints))

pub tells_rising : (m n : ℤ) → Decides (int_le m n) (m ≤ℤ n)
tells_rising m n = (λ e. grind (arith, ints), λ h. grind (arith, ints))

tells_apart : (a b : LabelRange) → Decides (are_apart a b) (AreApart a b)
tells_apart a b = Decides-or _ _ (tells_less a.high b.low) (tells_less b.high a.low)

pub tells_new : (seen : List LabelRange) (one : LabelRange) → Decides (is_new seen one) (IsNew seen one)
tells_new seen one = Decides-by_and (are_apart one) (AreApart one) (list_all (are_apart one)) (tells_apart one) refl (λ x xs. refl) seen

pub tells_near : (one : Variable) → Decides (is_near one) (IsNear one)
tells_near one = Decides-or _ _ (Decides-eqb one.level 1) (Decides-and _ _ (Decides-eqb one.level 0) (Decides-eqb one.unit 0))
