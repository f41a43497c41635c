-- One block more: what is found, where variables lie, and which blocks there are.
use Rattle.std.proofs.Common.{◌≡◌, ℕ, zero, suc, ◌+◌, ◌-◌, ◌<◌, ◌≤◌, ◌==◌, Bool, true, false, ◌&&◌, ◌||◌, cond, List, [], ◌∷◌, ◌++◌, length, Option, Some, None, refl, sym, subst, ap, ◌∙◌, arith, length-append}
use Rattle.std.specs.Prelude.{slice_get, option_map, nat_lt, take}
use Rattle.std.specs.List.{list_any}
use Rattle.std.proofs.lemmas.List.Sums.{sum_by_push}
use Rattle.std.proofs.lemmas.Option.{slice_get_past}
use Rattle.tp_check_stmt.specs.type_layout.declared.definitions.TypeId.{TypeId}
use Rattle.tp_check_stmt.specs.type_layout.declared.definitions.RoutineId.{RoutineId}
use Rattle.tp_check_stmt.specs.type_layout.declared.definitions.TypeDef.{TypeDef}
use Rattle.tp_check_stmt.proofs.type_layout_proofs.Local.{slice_get-append}
use Rattle.tp_check_stmt.specs.typed_tree.declared.expressions.Variable.{Variable}
use Rattle.tp_check_stmt.specs.scopes.declared.entries.Entry.{Entry}
use Rattle.tp_check_stmt.specs.scopes.declared.entries.BlockKind.{BlockKind}
use Rattle.tp_check_stmt.specs.scopes.declared.entries.BlockKind.TheVariants as block
use Rattle.tp_check_stmt.specs.scopes.declared.searches.OpenBlock.{OpenBlock}
use Rattle.tp_check_stmt.specs.scopes.declared.members.Member.{Member}
use Rattle.tp_check_stmt.specs.scopes.Members.{first_of, member_of}
use Rattle.tp_check_stmt.specs.scopes.Environment.{Environment, Meaning, named, member, in_symbols, in_block, in_blocks, in_units, line_of, find, with_block, kind_in, kind_of, entry_in, found_in, first_open, block_count}
use Rattle.tp_check_stmt.specs.tp_check_expr.Names.{is_routine, routine_depth, level_from, variable}
use Rattle.tp_check_stmt.specs.tp_check_expr.Owners.{deeper_with, with_depth}
use Rattle.tp_check_stmt.specs.Assignments.{is_open_body, is_inside}
use Rattle.tp_check_stmt.specs.Typed.{within}

-- a block as it is opened
abbrev pub block_of : BlockKind → OpenBlock
block_of kind = record { kind = kind; symbols = [] }

-- ---- what is found

first_none : {A : Type 0} → (a : Option A) → first_of a None ≡ a
first_none None = refl
first_none (Some x) = refl

first_first : {A : Type 0} → (a b c : Option A) → first_of (first_of a b) c ≡ first_of a (first_of b c)
first_first None b c = refl
first_first (Some x) b c = refl

-- the innermost block first
blocks_end : (types : List TypeDef) (k : ℕ) (blocks : List OpenBlock) (b : OpenBlock) (name : List ℕ)
    → in_blocks types k (blocks ++ b ∷ []) name ≡ first_of (in_block types (k + length blocks) b name) (in_blocks types k blocks name)
blocks_end types k [] b name =
    let n : k + 0 ≡ k = omega arith in
    subst (λ (m : ℕ). in_block types k b name ≡ first_of (in_block types m b name) None) (sym n) (sym (first_none (in_block types k b name)))
blocks_end types k (one ∷ blocks) b name =
    let n : (k + 1) + length blocks ≡ k + length (one ∷ blocks) = omega arith in
    ap (λ (o : Option Meaning). first_of o (in_block types k one name)) (blocks_end types (k + 1) blocks b name)
    ∙ first_first (in_block types ((k + 1) + length blocks) b name) (in_blocks types (k + 1) blocks name) (in_block types k one name)
    ∙ ap (λ (m : ℕ). first_of (in_block types m b name) (in_blocks types k (one ∷ blocks) name)) n

-- a block without names shows members alone
no_name : (number n : ℕ) (one : Entry) (o : Option Member) (rest : Option Meaning) → first_of (option_map (member number) o) rest ≡ Some (named n one) → rest ≡ Some (named n one)
no_name number n one None rest e = e
no_name number n one (Some m) rest e = let bad : ⊥ = cc in absurd bad

module _ (g : Environment) (kind : BlockKind) where
  -- what is known outside all blocks
  abbrev outside : List ℕ → Option Meaning
  outside name = first_of (in_units 1 (take g.seen g.used) name) (in_symbols 0 g.predeclared name)

  -- what a name means in a new block, if it is no member, it means outside
  pub found_outside : (name : List ℕ) (n : ℕ) (one : Entry) → find (with_block g kind) name ≡ Some (named n one) → find g name ≡ Some (named n one)
  found_outside name n one e =
      let k : ℕ = length g.used + 1 in
      let inner : Option Meaning = in_block g.types.types (k + length g.blocks) (block_of kind) name in
      let around : Option Meaning = in_blocks g.types.types k g.blocks name in
      let first : first_of (first_of inner around) (outside name) ≡ Some (named n one) =
      subst (λ (o : Option Meaning). first_of o (outside name) ≡ Some (named n one)) (blocks_end g.types.types k g.blocks (block_of kind) name) e in
      let apart : first_of inner (first_of around (outside name)) ≡ Some (named n one) = sym (first_first inner around (outside name)) ∙ first in
      no_name (k + length g.blocks) n one (member_of g.types.types (line_of kind) name) (first_of around (outside name)) apart

-- ---- what blocks declare themselves

-- a block as it is opened declares nothing
entry_new : (blocks : List OpenBlock) (kind : BlockKind) (k : ℕ) (name : List ℕ) (one : Entry) → entry_in (slice_get (blocks ++ block_of kind ∷ []) k) name ≡ Some one → entry_in (slice_get blocks k) name ≡ Some one
entry_new [] kind zero name one e = let bad : ⊥ = cc in absurd bad
entry_new [] kind (suc k) name one e = let bad : ⊥ = cc in absurd bad
entry_new (b ∷ blocks) kind zero name one e = e
entry_new (b ∷ blocks) kind (suc k) name one e = entry_new blocks kind k name one e

pub entry_kept : (g : Environment) (kind : BlockKind) (number : ℕ) (name : List ℕ) (one : Entry) → found_in (with_block g kind) number name ≡ Some one → found_in g number name ≡ Some one
entry_kept g kind number name one e = by (nat_lt number (first_open g)) e
  where
    by : (low : Bool) → cond low None (entry_in (slice_get (g.blocks ++ block_of kind ∷ []) (number - first_open g)) name) ≡ Some one
        → cond low None (entry_in (slice_get g.blocks (number - first_open g)) name) ≡ Some one
    by true k = k
    by false k = entry_new g.blocks kind (number - first_open g) name one k

-- ---- a `with` opens no routine

abbrev pub with_of : TypeId → OpenBlock
with_of ty = block_of (block.With ty)

add_none : (n : ℕ) → n + 0 ≡ n
add_none n = omega arith

depth_same : (blocks : List OpenBlock) (ty : TypeId) → routine_depth (blocks ++ with_of ty ∷ []) ≡ routine_depth blocks
depth_same blocks ty = sum_by_push (λ (one : OpenBlock). cond (is_routine one) 1 0) blocks (with_of ty) ∙ add_none (routine_depth blocks)

abbrev at_depth : ℕ → ℕ → ℕ → ℕ → Variable
at_depth depth unit level number = record { unit = unit; level = level_from depth level; number = number }

-- so variables lie where they lay
pub variable_same : (g : Environment) (ty : TypeId) (unit level number : ℕ) → variable (within g ty) unit level number ≡ variable g unit level number
variable_same g ty unit level number = ap (λ (depth : ℕ). at_depth depth unit level number) (depth_same g.blocks ty)

none_inside : (number : ℕ) (blocks : List OpenBlock) (ty : TypeId) → list_any (is_open_body number) (blocks ++ with_of ty ∷ []) ≡ list_any (is_open_body number) blocks
none_inside number [] ty = refl
none_inside number (one ∷ blocks) ty = ap (λ (b : Bool). is_open_body number one || b) (none_inside number blocks ty)

-- and the same routines are open
pub inside_same : (g : Environment) (ty : TypeId) (routine : RoutineId) → is_inside (within g ty) routine ≡ is_inside g routine
inside_same g ty routine = ap (λ (b : Bool). (routine.unit == 0) && b) (none_inside routine.number g.blocks ty)

-- ---- which blocks there are

abbrev kind_at : Option OpenBlock → Option BlockKind
kind_at o = option_map (λ (one : OpenBlock). one.kind) o

get_end : {A : Type 0} → (xs : List A) (x : A) → slice_get (xs ++ x ∷ []) (length xs) ≡ Some x
get_end [] x = refl
get_end (y ∷ ys) x = get_end ys x

kind_last : (first : ℕ) (blocks : List OpenBlock) (b : OpenBlock)
    → cond (nat_lt (first + length blocks) first) None (kind_in (blocks ++ b ∷ []) ((first + length blocks) - first)) ≡ Some b.kind
kind_last first blocks b =
    let low : nat_lt (first + length blocks) first ≡ false = grind arith in
    let at : (first + length blocks) - first ≡ length blocks = omega arith in
    ap (λ (x : Bool). cond x None (kind_in (blocks ++ b ∷ []) ((first + length blocks) - first))) low
    ∙ ap (λ (k : ℕ). kind_in (blocks ++ b ∷ []) k) at
    ∙ ap (λ (o : Option OpenBlock). kind_at o) (get_end blocks b)

kind_before : (blocks : List OpenBlock) (b : OpenBlock) (k : ℕ) → k < length blocks → kind_in (blocks ++ b ∷ []) k ≡ kind_in blocks k
kind_before blocks b k h = ap (λ (o : Option OpenBlock). kind_at o) (slice_get-append blocks (b ∷ []) k h)

kind_by : (first number : ℕ) (blocks : List OpenBlock) (b : OpenBlock) (low : Bool) → nat_lt number first ≡ low → number < first + length blocks
    → cond low None (kind_in (blocks ++ b ∷ []) (number - first)) ≡ cond low None (kind_in blocks (number - first))
kind_by first number blocks b true e h = refl
kind_by first number blocks b false e h =
    let above : first ≤ number = grind arith in
    let short : number - first < length blocks = omega (arith, above, h) in
    kind_before blocks b (number - first) short

-- behind the last one there is none
kind_past : (first number : ℕ) (blocks : List OpenBlock) (kind : BlockKind) (low : Bool) → first + length blocks ≤ number → cond low None (kind_in blocks (number - first)) ≡ Some kind → ⊥
kind_past first number blocks kind true h e = let bad : ⊥ = cc in bad
kind_past first number blocks kind false h e =
    let far : length blocks ≤ number - first = omega (arith, h) in
    let none : kind_in blocks (number - first) ≡ None = ap (λ (o : Option OpenBlock). kind_at o) (slice_get_past blocks (number - first) far) in
    let bad : ⊥ = cc in
    bad

module _ (g : Environment) (new : BlockKind) where
  -- a block that was there
  pub kind_kept : (number : ℕ) → number < block_count g → kind_of (with_block g new) number ≡ kind_of g number
  kind_kept number h = kind_by (first_open g) number g.blocks (block_of new) (nat_lt number (first_open g)) refl h

  -- the new one
  pub kind_new : kind_of (with_block g new) (block_count g) ≡ Some new
  kind_new = kind_last (first_open g) g.blocks (block_of new)

  count_new : first_open g + length (g.blocks ++ block_of new ∷ []) ≡ suc (block_count g)
  count_new =
      let l : length (g.blocks ++ block_of new ∷ []) ≡ length g.blocks + 1 = length-append g.blocks (block_of new ∷ []) in
      omega (arith, l)

  -- a block that is there was there, or is the new one
  pub kind_cases : (P : ℕ → Type 0) (number : ℕ) (kind : BlockKind) → kind_of (with_block g new) number ≡ Some kind → (number < block_count g → P number) → P (block_count g) → P number
  kind_cases P number kind e before last = by (nat_lt number (block_count g)) refl (nat_lt (block_count g) number) refl
    where
      by : (low : Bool) → nat_lt number (block_count g) ≡ low → (high : Bool) → nat_lt (block_count g) number ≡ high → P number
      by true l high h = let below : number < block_count g = grind arith in before below
      by false l false h =
          let same : block_count g ≡ number = grind arith in
          subst P same last
      by false l true h =
          let above : block_count g < number = grind arith in
          let past : first_open g + length (g.blocks ++ block_of new ∷ []) ≤ number = (let c = count_new in omega (arith, c, above)) in
          absurd (kind_past (first_open g) number (g.blocks ++ block_of new ∷ []) kind (nat_lt number (first_open g)) past e)

  -- as many `with`s are open round a block as were
  pub depth_kept : (number : ℕ) → number ≤ block_count g → with_depth (with_block g new) number ≡ with_depth g number
  depth_kept zero h = refl
  depth_kept (suc n) h =
      let below : n < block_count g = omega (arith, h) in
      let at : n ≤ block_count g = omega (arith, h) in
      ap (λ (o : Option BlockKind). deeper_with o (with_depth (with_block g new) n)) (kind_kept n below)
      ∙ ap (λ (d : ℕ). deeper_with (kind_of g n) d) (depth_kept n at)

  pub count_next : block_count (with_block g new) ≡ suc (block_count g)
  count_next = count_new

-- and one more inside a `with`
pub depth_new : (g : Environment) (ty : TypeId) → with_depth (within g ty) (block_count (within g ty)) ≡ with_depth g (block_count g) + 1
depth_new g ty =
    let here : block_count g ≤ block_count g = omega arith in
    ap (λ (n : ℕ). with_depth (within g ty) n) (count_next g (block.With ty))
    ∙ ap (λ (o : Option BlockKind). deeper_with o (with_depth (within g ty) (block_count g))) (kind_new g (block.With ty))
    ∙ ap (λ (d : ℕ). d + 1) (depth_kept g (block.With ty) (block_count g) here)
