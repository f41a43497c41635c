-- What is left of a scope where types are read.
use Rattle.std.proofs.Common.{◌≡◌, ◌∙◌, ℕ, ◌+◌, ◌-◌, ◌^◌, ◌<◌, ◌≤◌, false, List, [], ◌∷◌, length, Some, refl, sym, subst, arith, length-append}
use Rattle.std.specs.Prelude.{min}
use Rattle.tp_check_decl.specs.type_layout.declared.definitions.TypeDef.{TypeDef}
use Rattle.tp_check_decl.specs.type_layout.declared.texts.Place.{Place}
use Rattle.tp_check_decl.specs.type_layout.Layouts.{size_over}
use Rattle.tp_check_decl.specs.type_layout.Table.{IsAddable, IsDefinedOver}
use Rattle.tp_check_decl.specs.type_layout.Words.{same_bytes}
use Rattle.tp_check_decl.specs.scopes.declared.entries.Entry.{Entry}
use Rattle.tp_check_decl.specs.scopes.Predeclared.{type_id}
use Rattle.tp_check_decl.specs.scopes.Environment.{Environment, find, has_innermost, with_name}
use Rattle.tp_check_decl.specs.typing_rules.declared.faults.Rule.{Rule}
use Rattle.tp_check_decl.specs.declaration_checker.type_denoters.Additions.{Denoted, denoted, count_of, with_type_of, added, entered}
use Rattle.tables_closed.specs.constants.Bounds.{AreBelow, in_entry, IsBoundOf}
use Rattle.tables_closed.specs.constants.Ordered.{IsOrdered}
use Rattle.tables_closed.proofs.constants.Ordering.{ordered_with}
use Rattle.tables_closed.proofs.types.Means.{Follows, follows_same, follows_then, follows_types, follows_name, IsApart}
use Rattle.tables_closed.proofs.types.Own.{own_entry, still_own, same_count}
use Rattle.tables_closed.proofs.types.Entering.{IsAsked, types_below, bound_with_name}

-- So many types are added, by which the table stays ordered; no name means a type that meant none, what the innermost block has it keeps, no
-- block is opened or closed; and a bound stays one that is no less than the table, where what is asked of it holds.
pub record Reads (asked : ℕ → Type 0) (g h : Environment) (count : ℕ) : Type 0 where
  pub long : length h.types.types ≡ length g.types.types + count
  pub ordered : IsOrdered g.types → IsOrdered h.types
  pub follows : (name : List ℕ) → Follows (find h name) (find g name)
  pub keeps : (name : List ℕ) (one : Entry) → own_entry g name ≡ Some one → own_entry h name ≡ Some one
  pub blocks : length h.blocks ≡ length g.blocks
  pub bound : (n : ℕ) → IsBoundOf n g → length h.types.types ≤ n → asked n → IsBoundOf n h

-- and the type has an id below each such bound
pub record Types (asked : ℕ → Type 0) (g : Environment) (made : Denoted) (count : ℕ) : Type 0 where
  pub reads : Reads asked g made.scope count
  pub ty : (n : ℕ) → IsBoundOf n g → length made.scope.types.types ≤ n → asked n → made.ty.0 < n

-- ---- one after the other

pub read_same : (asked : ℕ → Type 0) (g h : Environment) → h ≡ g → Reads asked g h 0
read_same asked g h e =
    let P : Environment → Type 0 = λ x. Reads asked g x 0 in
    subst P (sym e) (record { long = omega arith; ordered = λ o. o; follows = λ name. follows_same (find g name); keeps = λ name one f. f; blocks = refl; bound = λ n b l a. b })

pub read_at : (asked : ℕ → Type 0) (g h k : Environment) (count : ℕ) → k ≡ h → Reads asked g h count → Reads asked g k count
read_at asked g h k count e r = let P : Environment → Type 0 = λ x. Reads asked g x count in subst P (sym e) r

pub typed_at : (asked : ℕ → Type 0) (g : Environment) (one made : Denoted) (count : ℕ) → made ≡ one → Types asked g one count → Types asked g made count
typed_at asked g one made count e r = let P : Denoted → Type 0 = λ x. Types asked g x count in subst P (sym e) r

pub typed_as : (asked : ℕ → Type 0) (g : Environment) (made : Denoted) (m n : ℕ) → m ≡ n → Types asked g made m → Types asked g made n
typed_as asked g made m n e r = subst (λ (x : ℕ). Types asked g made x) e r

pub typed_for : (first both : ℕ → Type 0) (g : Environment) (made : Denoted) (count : ℕ) → Types first g made count
    → ((b : ℕ) → IsBoundOf b g → length made.scope.types.types ≤ b → both b → first b) → Types both g made count
typed_for first both g made count one p = record {
  reads = record { long = one.reads.long; ordered = one.reads.ordered; follows = one.reads.follows; keeps = one.reads.keeps; blocks = one.reads.blocks; bound = λ b s l a. one.reads.bound b s l (p b s l a) };
  ty = λ b s l a. one.ty b s l (p b s l a);
}

module _ (first second both : ℕ → Type 0) (g h : Environment) (m n : ℕ) (one : Reads first g h m) where
  pub read_then : (k : Environment) → Reads second h k n → ((b : ℕ) → IsBoundOf b g → length k.types.types ≤ b → both b → first b)
      → ((b : ℕ) → IsBoundOf b g → IsBoundOf b h → length k.types.types ≤ b → both b → second b) → Reads both g k (m + n)
  read_then k two p q =
      let e = one.long in
      let f = two.long in
      record {
        long = omega arith;
        ordered = λ o. two.ordered (one.ordered o);
        follows = λ name. follows_then (find k name) (find h name) (find g name) (two.follows name) (one.follows name);
        keeps = λ name entry e. two.keeps name entry (one.keeps name entry e);
        blocks = two.blocks ∙ one.blocks;
        bound = λ b s l a.
            let middle = one.bound b s (omega arith) (p b s l a) in
            two.bound b middle l (q b s middle l a);
      }

  pub type_then : (made : Denoted) → Types second h made n → ((b : ℕ) → IsBoundOf b g → length made.scope.types.types ≤ b → both b → first b)
      → ((b : ℕ) → IsBoundOf b g → IsBoundOf b h → length made.scope.types.types ≤ b → both b → second b) → Types both g made (m + n)
  type_then made two p q =
      let f = two.reads.long in
      record {
        reads = read_then made.scope two.reads p q;
        ty = λ b s l a.
            let middle = one.bound b s (omega arith) (p b s l a) in
            two.ty b middle l (q b s middle l a);
      }

-- ---- types

-- a type that was added
pub record IsAdded (unit : List ℕ) (g : Environment) (one : TypeDef) (made : Denoted) : Type 0 where
  pub is : made ≡ denoted (type_id (length g.types.types)) (with_type_of unit g one)
  pub addable : IsAddable g.types unit one
  pub small : size_over g.types.types one ≤ 65520

least_small : (m : ℕ) → min m (2 ^ 64 - 1) ≤ 65520 → m ≤ 65520
least_small m h = omega arith

pub is_added : (unit : List ℕ) (g : Environment) (place : Place) (asked : Rule) (one : TypeDef) (made : Denoted) → (added unit g place asked one).holds made → IsAdded unit g one made
unfolding added
is_added unit g place asked one made h = record { is = h.made.made; addable = h.holds.asked; small = least_small (size_over g.types.types one) h.made.asked }

module _ (unit : List ℕ) (g : Environment) (one : TypeDef) where
  longer : length (with_type_of unit g one).types.types ≡ length g.types.types + 1
  longer = omega (arith, length-append g.types.types (one ∷ []))

  bound_with_type : (n : ℕ) → IsBoundOf n g → length (with_type_of unit g one).types.types ≤ n → IsDefinedOver g.types.types one → IsAsked n (length g.types.types) one
      → IsBoundOf n (with_type_of unit g one)
  bound_with_type n h table d asked = record {
    table = table;
    system = h.system;
    types = types_below n g.types.types one h.table h.types d asked;
    predeclared = h.predeclared;
    used = h.used;
    blocks = h.blocks;
  }

  reads_type : IsAddable g.types unit one → size_over g.types.types one ≤ 65520 → Types (λ n. IsAsked n (length g.types.types) one) g (denoted (type_id (length g.types.types)) (with_type_of unit g one)) 1
  reads_type a small = record {
    reads = record {
      long = longer;
      ordered = λ o. ordered_with g.types unit (count_of g.types unit) one o a.defined small;
      follows = λ name. follows_types g (with_type_of unit g one) (one ∷ []) name refl refl refl refl refl;
      keeps = λ name entry e. e;
      blocks = refl;
      bound = λ n h table asked. bound_with_type n h table a.defined asked;
    };
    ty = λ n h table asked. (let l = longer in omega arith);
  }

pub adds_type : (unit : List ℕ) (g : Environment) (place : Place) (asked : Rule) (one : TypeDef) (made : Denoted) → (added unit g place asked one).holds made
    → Types (λ n. IsAsked n (length g.types.types) one) g made 1
adds_type unit g place asked one made h =
    let a = is_added unit g place asked one made h in
    typed_at (λ n. IsAsked n (length g.types.types) one) g (denoted (type_id (length g.types.types)) (with_type_of unit g one)) made 1 a.is (reads_type unit g one a.addable a.small)

-- ---- names

pub record IsEntered (g : Environment) (name : List ℕ) (one : Entry) (h : Environment) : Type 0 where
  pub is : h ≡ with_name g name one
  pub new : has_innermost g name ≡ false

pub is_entered : (g : Environment) (place : Place) (name : List ℕ) (one : Entry) (h : Environment) → (entered g place name one).holds h → IsEntered g name one h
unfolding entered
is_entered g place name one h e = record { is = e.made; new = e.asked }

pub enters : (g : Environment) (place : Place) (name : List ℕ) (one : Entry) (h : Environment) → (entered g place name one).holds h
    → ((wanted : List ℕ) → IsApart one (same_bytes wanted name)) → Reads (λ n. AreBelow n (in_entry one)) g h 0
enters g place name one h e apart =
    let is = is_entered g place name one h e in
    read_at (λ n. AreBelow n (in_entry one)) g (with_name g name one) h 0 is.is (record {
      long = omega arith;
      ordered = λ o. o;
      follows = λ wanted. follows_name g name wanted one (apart wanted);
      keeps = λ wanted found f. still_own g name one wanted found f;
      blocks = same_count g.blocks name one;
      bound = λ n b table asked. bound_with_name n g name one b asked;
    })
