-- What is found under a name is known.
use Rattle.std.proofs.Common.{◌≡◌, ◌⊎◌, inl, inr, ℕ, zero, suc, ◌+◌, ◌-◌, ◌<◌, ◌≤◌, ◌==◌, Bool, true, false, cond, All, List, [], ◌∷◌, length, take, Option, Some, None, refl, sym, subst, ap, arith, length-take}
use Rattle.std.specs.Prelude.{option_map, slice_get, nat_lt}
use Rattle.std.specs.Map.{lookup}
use Rattle.std.proofs.Math.Nat.{min-le_right}
use Rattle.std.proofs.lemmas.Bool.Decides.{Decides-eqb}
use Rattle.std.proofs.lemmas.List.Elements.{All-head, All-tail, All-take}
use Rattle.tp_check_stmt.specs.type_layout.declared.definitions.TypeId.{TypeId}
use Rattle.tp_check_stmt.specs.type_layout.declared.definitions.Header.{Header}
use Rattle.tp_check_stmt.specs.type_layout.declared.definitions.TypeDef.{TypeDef}
use Rattle.tp_check_stmt.specs.type_layout.Words.{same_bytes}
use Rattle.tp_check_stmt.specs.typed_tree.type_fits.Fits.{definition, IsValue}
use Rattle.rules_well_formed.specs.well_formed.Scopes.{IsOneOf, Prototype, prototype, Scope, HasType, IsRoutineAt, HasRoutine, IsWithin}
use Rattle.tp_check_stmt.specs.scopes.declared.entries.Entry.{Entry}
use Rattle.tp_check_stmt.specs.scopes.declared.entries.Entry.TheVariants as entry
use Rattle.tp_check_stmt.specs.scopes.declared.searches.OpenBlock.{OpenBlock}
use Rattle.tp_check_stmt.specs.scopes.declared.members.Member.{Member}
use Rattle.tp_check_stmt.specs.scopes.Symbols.{SymbolList, entry_of}
use Rattle.tp_check_stmt.specs.scopes.Members.{first_of, member_of}
use Rattle.tp_check_stmt.specs.scopes.Environment.{Environment, named, member, line_of, in_symbols, in_block, in_blocks, in_units, entry_in, find, found_in, first_open, block_count}
use Rattle.rules_well_formed.specs.nodes.Tables.{IsInTable, IsHeaderIn}
use Rattle.rules_well_formed.specs.calls.Laws.{IsFree}
use Rattle.rules_well_formed.specs.allocations.Laws.{MayBeValue}
use Rattle.bodies_well_formed.specs.other_units.Known.{opening, open_from, open_in, at_level, first_in, IsVariableIn, IsAtDepth, IsDeclaredIn, IsEntry, EachOf, EachIn, AreKnown}
use Rattle.bodies_well_formed.proofs.other_units.Frames.{Keeps, keeps_from}

-- ---- what may be told of what is found

-- What an entry means is there, where the blocks of these routines are open: a routine is declared in none, or in one of these.
abbrev pub IsReached : Scope → List ℕ → Entry → Type 0
IsReached s around (entry.Const ty v) = IsValue s.types v (definition s.types ty)
IsReached s around (entry.Ty ty) = IsInTable s.types ty
IsReached s around (entry.Var unit level number ty) = HasType s ty × IsVariableIn s around level unit number ty
IsReached s around (entry.Code routine level header far) =
    HasRoutine (λ one. IsFree header one × IsWithin around one.outer) s routine × IsHeaderIn s.types header × MayBeValue s routine level header far
    × IsAtDepth s routine.unit routine.number level
IsReached s around (entry.Std number) = Unit {0}

-- ---- more open routines

-- a routine of a level is one of those that are open
level_within : (around : List ℕ) (level number : ℕ) → at_level around level ≡ Some number → IsOneOf number around
level_within [] level number e = let bad : ⊥ = cc in absurd bad
level_within (one ∷ around) level number e = by (λ k. level_within around level number k) (level == length around + 1) e
  where
    by : (at_level around level ≡ Some number → IsOneOf number around) → (b : Bool) → cond b (Some one) (at_level around level) ≡ Some number → IsOneOf number (one ∷ around)
    by rec true k = (0, k)
    by rec false k =
        let further = rec k in
        (suc further.0, further.1)

-- the innermost of those that were open is one of those that are
first_within : (around more : List ℕ) → Keeps around more → IsWithin more (first_in around)
first_within [] more keeps = tt
first_within (number ∷ around) more keeps =
    let yes : (length around + 1 == length around + 1) ≡ true = (Decides-eqb (length around + 1) (length around + 1)).1 refl in
    let at : at_level (number ∷ around) (length around + 1) ≡ Some number =
    ap (λ (b : Bool). cond b (Some number) (at_level around (length around + 1))) yes in
    level_within more (length around + 1) number (keeps (length around + 1) number at)

declared_within : (around more : List ℕ) (header : Header) (one : Prototype) → Keeps around more → IsDeclaredIn around header one → IsFree header one × IsWithin more one.outer
declared_within around more header one keeps h = (h.free, subst (λ (o : Option ℕ). IsWithin more o) (sym h.outer) (first_within around more keeps))

-- what is asked of a routine, less strictly
routine_weaker : (Asked Wanted : Prototype → Type 0) → ((one : Prototype) → Asked one → Wanted one) → (s : Scope) (unit number : ℕ) → IsRoutineAt Asked s unit number → IsRoutineAt Wanted s unit number
routine_weaker Asked Wanted weaker s zero number h = (h.0, h.1, weaker (prototype h.0) h.2)
routine_weaker Asked Wanted weaker s (suc unit) number h = (h.0, h.1, weaker h.0 h.2)

variable_lifted : (s : Scope) (around more : List ℕ) (level unit number : ℕ) (ty : TypeId) → Keeps around more → IsVariableIn s around level unit number ty → IsVariableIn s more level unit number ty
variable_lifted s around more zero unit number ty keeps h = h
variable_lifted s around more (suc level) unit number ty keeps h =
    record { routine = h.routine; opened = keeps (suc level) h.routine h.opened; one = h.one; is = h.is; variable = h.variable }

entry_reached : (s : Scope) (around more : List ℕ) (one : Entry) → Keeps around more → IsEntry s around one → IsReached s more one
entry_reached s around more (entry.Const ty v) keeps h = h
entry_reached s around more (entry.Ty ty) keeps h = h
entry_reached s around more (entry.Var unit level number ty) keeps h = (h.0, variable_lifted s around more level unit number ty keeps h.1)
entry_reached s around more (entry.Code routine level header far) keeps h =
    let Wanted : Prototype → Type 0 = λ one. IsFree header one × IsWithin more one.outer in
    (routine_weaker (IsDeclaredIn around header) Wanted (λ one k. declared_within around more header one keeps k) s routine.unit routine.number h.0, h.1, h.2, h.3)
entry_reached s around more (entry.Std number) keeps h = h

none_open : (more : List ℕ) → Keeps [] more
none_open more level number e = let bad : ⊥ = cc in absurd bad

-- ---- lists of names

first_cases : {A : Type 0} → (a b : Option A) (x : A) → first_of a b ≡ Some x → (a ≡ Some x) ⊎ (b ≡ Some x)
first_cases None b x e = inr e
first_cases (Some y) b x e = inl e

module _ (P : Entry → Type 0) (name : List ℕ) (one : Entry) where
  looked_up : (symbols : SymbolList) → EachOf P symbols → lookup (same_bytes name) symbols ≡ Some one → P one
  looked_up [] h e = let bad : ⊥ = cc in absurd bad
  looked_up (first ∷ rest) h e = by (λ k. looked_up rest h.1 k) (same_bytes name first.0) e
    where
      by : (lookup (same_bytes name) rest ≡ Some one → P one) → (b : Bool) → cond b (Some first.1) (lookup (same_bytes name) rest) ≡ Some one → P one
      by rec true k =
          let same : first.1 ≡ one = cc in
          subst P same h.0
      by rec false k = rec k

named_one : (k n : ℕ) (o : Option Entry) (one : Entry) → option_map (named k) o ≡ Some (named n one) → (o ≡ Some one) × (k ≡ n)
named_one k n None one e = let bad : ⊥ = cc in absurd bad
named_one k n (Some x) one e =
    let same : x ≡ one = cc in
    (ap (λ (y : Entry). Some y) same, cc)

symbols_known : (P : Entry → Type 0) (k n : ℕ) (symbols : SymbolList) (name : List ℕ) (one : Entry) → EachOf P symbols → in_symbols k symbols name ≡ Some (named n one) → P one × (k ≡ n)
symbols_known P k n symbols name one h e =
    let both = named_one k n (entry_of symbols name) one e in
    (looked_up P name one symbols h both.0, both.1)

no_member : (k n : ℕ) (o : Option Member) (one : Entry) → option_map (member k) o ≡ Some (named n one) → ⊥
no_member k n None one e = let bad : ⊥ = cc in bad
no_member k n (Some m) one e = let bad : ⊥ = cc in bad

block_known : (P : Entry → Type 0) (types : List TypeDef) (k n : ℕ) (b : OpenBlock) (name : List ℕ) (one : Entry) → EachOf P b.symbols → in_block types k b name ≡ Some (named n one) → P one × (k ≡ n)
block_known P types k n b name one h e = by (first_cases (in_symbols k b.symbols name) (option_map (member k) (member_of types (line_of b.kind) name)) (named n one) e)
  where
    by : (in_symbols k b.symbols name ≡ Some (named n one)) ⊎ (option_map (member k) (member_of types (line_of b.kind) name) ≡ Some (named n one)) → P one × (k ≡ n)
    by (inl f) = symbols_known P k n b.symbols name one h f
    by (inr f) = absurd (no_member k n (member_of types (line_of b.kind) name) one f)

module _ (P Q : List ℕ → Entry → Type 0) (types : List TypeDef) (n : ℕ) (name : List ℕ) (one : Entry) where
  -- an entry of a block, as it is told where blocks inside it are open
  blocks_known : (lift : (around more : List ℕ) → Keeps around more → P around one → Q more one) (around : List ℕ) (k : ℕ) (blocks : List OpenBlock) → EachIn P around blocks
      → in_blocks types k blocks name ≡ Some (named n one) → Q (open_from around blocks) one
  blocks_known lift around k [] h e = let bad : ⊥ = cc in absurd bad
  blocks_known lift around k (b ∷ blocks) h e =
      by (λ f. blocks_known lift (opening b.kind around) (k + 1) blocks h.1 f) (first_cases (in_blocks types (k + 1) blocks name) (in_block types k b name) (named n one) e)
    where
      by : (in_blocks types (k + 1) blocks name ≡ Some (named n one) → Q (open_from (opening b.kind around) blocks) one)
          → (in_blocks types (k + 1) blocks name ≡ Some (named n one)) ⊎ (in_block types k b name ≡ Some (named n one)) → Q (open_from (opening b.kind around) blocks) one
      by rec (inl f) = rec f
      by rec (inr f) = lift (opening b.kind around) (open_from (opening b.kind around) blocks) (keeps_from blocks (opening b.kind around)) (block_known (P (opening b.kind around)) types k n b name one h.0 f).0

module _ (P : List ℕ → Entry → Type 0) (types : List TypeDef) (n : ℕ) (name : List ℕ) (one : Entry) where
  -- an entry of the innermost block
  inner_known : (around : List ℕ) (k : ℕ) (blocks : List OpenBlock) → EachIn P around blocks → n + 1 ≡ k + length blocks
      → in_blocks types k blocks name ≡ Some (named n one) → P (open_from around blocks) one
  inner_known around k [] h at e = let bad : ⊥ = cc in absurd bad
  inner_known around k (b ∷ blocks) h at e =
      let next : n + 1 ≡ (k + 1) + length blocks = omega (arith, at) in
      by (λ f. inner_known (opening b.kind around) (k + 1) blocks h.1 next f) (first_cases (in_blocks types (k + 1) blocks name) (in_block types k b name) (named n one) e)
    where
      last : (rest : List OpenBlock) → k ≡ n → n + 1 ≡ k + length (b ∷ rest) → P (opening b.kind around) one → P (open_from (opening b.kind around) rest) one
      last [] same at p = p
      last (c ∷ rest) same at p = absurd (omega (arith, same, at))

      by : (in_blocks types (k + 1) blocks name ≡ Some (named n one) → P (open_from (opening b.kind around) blocks) one)
          → (in_blocks types (k + 1) blocks name ≡ Some (named n one)) ⊎ (in_block types k b name ≡ Some (named n one)) → P (open_from (opening b.kind around) blocks) one
      by rec (inl f) = rec f
      by rec (inr f) =
          let here = block_known (P (opening b.kind around)) types k n b name one h.0 f in
          last blocks here.1 at here.0

units_known : (P : Entry → Type 0) (k n : ℕ) (units : List SymbolList) (name : List ℕ) (one : Entry) → All (EachOf P) units → in_units k units name ≡ Some (named n one) → P one
units_known P k n [] name one h e = let bad : ⊥ = cc in absurd bad
units_known P k n (unit ∷ units) name one h e =
    by (λ f. units_known P (k + 1) n units name one (All-tail (EachOf P) unit units h) f) (first_cases (in_units (k + 1) units name) (in_symbols k unit name) (named n one) e)
  where
    by : (in_units (k + 1) units name ≡ Some (named n one) → P one) → (in_units (k + 1) units name ≡ Some (named n one)) ⊎ (in_symbols k unit name ≡ Some (named n one)) → P one
    by rec (inl f) = rec f
    by rec (inr f) = (symbols_known P k n unit name one (All-head (EachOf P) unit units h) f).0

pub found_known : (g : Environment) (s : Scope) (name : List ℕ) (n : ℕ) (one : Entry) → AreKnown g s → find g name ≡ Some (named n one) → IsReached s (open_in g) one
found_known g s name n one h e =
    by (first_cases (in_blocks g.types.types (length g.used + 1) g.blocks name) (first_of (in_units 1 (take g.seen g.used) name) (in_symbols 0 g.predeclared name)) (named n one) e)
  where
    outside : (in_units 1 (take g.seen g.used) name ≡ Some (named n one)) ⊎ (in_symbols 0 g.predeclared name ≡ Some (named n one)) → IsEntry s [] one
    outside (inl f) = units_known (IsEntry s []) 1 n (take g.seen g.used) name one (All-take (EachOf (IsEntry s [])) g.seen g.used h.used) f
    outside (inr f) = (symbols_known (IsEntry s []) 0 n g.predeclared name one h.predeclared f).0

    by : (in_blocks g.types.types (length g.used + 1) g.blocks name ≡ Some (named n one)) ⊎ (first_of (in_units 1 (take g.seen g.used) name) (in_symbols 0 g.predeclared name) ≡ Some (named n one))
        → IsReached s (open_in g) one
    by (inl f) = blocks_known (IsEntry s) (IsReached s) g.types.types n name one (λ around more keeps k. entry_reached s around more one keeps k) [] (length g.used + 1) g.blocks h.blocks f
    by (inr f) =
        entry_reached s [] (open_in g) one (none_open (open_in g)) (outside (first_cases (in_units 1 (take g.seen g.used) name) (in_symbols 0 g.predeclared name) (named n one) f))

-- ---- names of one block

module _ (P Q : List ℕ → Entry → Type 0) (name : List ℕ) (one : Entry) where
  -- an entry of a block itself, as it is told where blocks inside it are open
  entry_known : (lift : (around more : List ℕ) → Keeps around more → P around one → Q more one) (around : List ℕ) (k : ℕ) (blocks : List OpenBlock) → EachIn P around blocks
      → entry_in (slice_get blocks k) name ≡ Some one → Q (open_from around blocks) one
  entry_known lift around zero [] h e = let bad : ⊥ = cc in absurd bad
  entry_known lift around (suc k) [] h e = let bad : ⊥ = cc in absurd bad
  entry_known lift around zero (b ∷ blocks) h e =
      lift (opening b.kind around) (open_from (opening b.kind around) blocks) (keeps_from blocks (opening b.kind around)) (looked_up (P (opening b.kind around)) name one b.symbols h.0 e)
  entry_known lift around (suc k) (b ∷ blocks) h e = entry_known lift (opening b.kind around) k blocks h.1 e

pub inside_known : (g : Environment) (s : Scope) (number : ℕ) (name : List ℕ) (one : Entry) → AreKnown g s → found_in g number name ≡ Some one → IsReached s (open_in g) one
inside_known g s number name one h e = by (nat_lt number (first_open g)) e
  where
    by : (low : Bool) → cond low None (entry_in (slice_get g.blocks (number - first_open g)) name) ≡ Some one → IsReached s (open_in g) one
    by true k = let bad : ⊥ = cc in absurd bad
    by false k = entry_known (IsEntry s) (IsReached s) name one (λ around more keeps f. entry_reached s around more one keeps f) [] (number - first_open g) g.blocks h.blocks k

-- ---- names of the innermost block

-- outside the blocks there are only the blocks of used units and that of predeclared names
units_low : (k n : ℕ) (units : List SymbolList) (name : List ℕ) (one : Entry) → in_units k units name ≡ Some (named n one) → n < k + length units
units_low k n [] name one e = let bad : ⊥ = cc in absurd bad
units_low k n (unit ∷ units) name one e =
    by (λ f. units_low (k + 1) n units name one f) (first_cases (in_units (k + 1) units name) (in_symbols k unit name) (named n one) e)
  where
    by : (in_units (k + 1) units name ≡ Some (named n one) → n < (k + 1) + length units) → (in_units (k + 1) units name ≡ Some (named n one)) ⊎ (in_symbols k unit name ≡ Some (named n one)) → n < k + length (unit ∷ units)
    by rec (inl f) = let low = rec f in omega (arith, low)
    by rec (inr f) =
        let same = (named_one k n (entry_of unit name) one f).1 in
        omega (arith, same)

take_short : (n : ℕ) (units : List SymbolList) → length (take n units) ≤ length units
take_short n units = subst (λ (m : ℕ). m ≤ length units) (sym (length-take n units)) (min-le_right n (length units))

-- what is found in the innermost block stands in it
pub found_inner : (g : Environment) (P : List ℕ → Entry → Type 0) (name : List ℕ) (n : ℕ) (one : Entry) → EachIn P [] g.blocks → 0 < length g.blocks → n + 1 ≡ block_count g
    → find g name ≡ Some (named n one) → P (open_in g) one
found_inner g P name n one h some at e =
    by (first_cases (in_blocks g.types.types (length g.used + 1) g.blocks name) (first_of (in_units 1 (take g.seen g.used) name) (in_symbols 0 g.predeclared name)) (named n one) e)
  where
    outside : (in_units 1 (take g.seen g.used) name ≡ Some (named n one)) ⊎ (in_symbols 0 g.predeclared name ≡ Some (named n one)) → ⊥
    outside (inl f) =
        let low = units_low 1 n (take g.seen g.used) name one f in
        let few = take_short g.seen g.used in
        omega (arith, low, few, at, some)
    outside (inr f) =
        let same = (named_one 0 n (entry_of g.predeclared name) one f).1 in
        omega (arith, same, at, some)

    by : (in_blocks g.types.types (length g.used + 1) g.blocks name ≡ Some (named n one)) ⊎ (first_of (in_units 1 (take g.seen g.used) name) (in_symbols 0 g.predeclared name) ≡ Some (named n one))
        → P (open_in g) one
    by (inl f) = inner_known P g.types.types n name one [] (length g.used + 1) g.blocks h at f
    by (inr f) = absurd (outside (first_cases (in_units 1 (take g.seen g.used) name) (in_symbols 0 g.predeclared name) (named n one) f))
