-- What names mean as types, where types are added and names are entered.
use Rattle.std.proofs.Common.{◌≡◌, ℕ, zero, suc, ◌+◌, ◌-◌, ◌≤◌, Bool, true, false, cond, List, [], ◌∷◌, ◌++◌, length, take, Option, Some, None, option_map, refl, ap, subst, arith, length-append}
use Rattle.std.specs.Prelude.{slice_get, position}
use Rattle.tp_check_decl.specs.type_layout.declared.definitions.TypeId.{TypeId}
use Rattle.tp_check_decl.specs.type_layout.declared.definitions.Field.{Field}
use Rattle.tp_check_decl.specs.type_layout.declared.definitions.TypeDef.{TypeDef}
use Rattle.tp_check_decl.specs.type_layout.declared.definitions.TypeDef.TheVariants.{RecordOf, ObjectOf}
use Rattle.tp_check_decl.specs.type_layout.Words.{same_bytes}
use Rattle.tp_check_decl.specs.scopes.declared.entries.Entry.{Entry}
use Rattle.tp_check_decl.specs.scopes.declared.searches.OpenBlock.{OpenBlock}
use Rattle.tp_check_decl.specs.scopes.declared.members.Member.{Member}
use Rattle.tp_check_decl.specs.scopes.Symbols.{SymbolList, entry_of}
use Rattle.tp_check_decl.specs.scopes.Members.{first_of, parent_of, field_of, method_of, own_member, fields_within, member_within, member_of}
use Rattle.tp_check_decl.specs.scopes.Environment.{Environment, Meaning, named, member, line_of, in_symbols, in_block, in_blocks, in_units, find, outer, innermost, with_own, with_name}
use Rattle.tables_closed.specs.types.Promises.{MeansType}

-- What a search finds, and what it found before: the same type, where it finds a type, and nothing where it finds nothing.
pub record Follows (now before : Option Meaning) : Type 0 where
  pub means : (ty : TypeId) → MeansType now ty → MeansType before ty
  pub none : now ≡ None → before ≡ None

pub follows_same : (one : Option Meaning) → Follows one one
follows_same one = record { means = λ ty h. h; none = λ e. e }

pub follows_then : (three two one : Option Meaning) → Follows three two → Follows two one → Follows three one
follows_then three two one h k = record { means = λ ty m. k.means ty (h.means ty m); none = λ e. k.none (h.none e) }

pub follows_first : (a b x y : Option Meaning) → Follows a b → Follows x y → Follows (first_of a x) (first_of b y)
follows_first None None x y h k = k
follows_first None (Some m) x y h k = absurd (let e : (Some m) ≡ None = h.none refl in cc)
follows_first (Some l) None x y h k = record { means = λ ty m. absurd (h.means ty m); none = λ e. absurd (let f : Some l ≡ None = e in cc) }
follows_first (Some l) (Some m) x y h k = h

-- ---- types that are added

found_left : {X : Type 0} (xs ys : List X) (n : ℕ) (x : X) → slice_get xs n ≡ Some x → slice_get (xs ++ ys) n ≡ Some x
found_left [] ys zero x e = cc
found_left [] ys (suc n) x e = cc
found_left (y ∷ xs) ys zero x e = e
found_left (y ∷ xs) ys (suc n) x e = found_left xs ys n x e

no_place : {X : Type 0} (f g : ℕ → X) (o : Option ℕ) → option_map f o ≡ None → option_map g o ≡ None
no_place f g None e = refl
no_place f g (Some n) e = cc

no_first : {X : Type 0} (a b x y : Option X) → (a ≡ None → x ≡ None) → (b ≡ None → y ≡ None) → first_of a b ≡ None → first_of x y ≡ None
no_first None b x y h k e = rw (h refl) (k e)
no_first (Some one) b x y h k e = cc

-- how many fields come before makes no member
no_own : (one : TypeDef) (ty : TypeId) (name : List ℕ) (m n : ℕ) → own_member m ty (Some one) name ≡ None → own_member n ty (Some one) name ≡ None
no_own (RecordOf fields) ty name m n e = e
no_own (ObjectOf parent dynamic fields methods) ty name m n e =
    no_first (field_of m ty fields name) (method_of ty methods name) (field_of n ty fields name) (method_of ty methods name)
    (λ f. no_place _ _ (position (λ (field : Field). same_bytes name field.name) fields) f) (λ f. f) e
no_own one ty name m n e = refl

no_line : (room : ℕ) (types : List TypeDef) (name : List ℕ) → member_within room types None name ≡ None
no_line zero types name = refl
no_line (suc room) types name = refl

module _ (types more : List TypeDef) (name : List ℕ) where
  -- a member that a longer table has not, this one has not either
  no_member : (room space : ℕ) (ty : Option TypeId) → room ≤ space → member_within space (types ++ more) ty name ≡ None → member_within room types ty name ≡ None
  no_member zero space ty h e = refl
  no_member (suc room) zero ty h e = absurd (omega arith)
  no_member (suc room) (suc space) None h e = refl
  no_member (suc room) (suc space) (Some ty) h e = by (slice_get types ty.0) refl (λ parent f. no_member room space parent (omega arith) f)
    where
      by : (one : Option TypeDef) → slice_get types ty.0 ≡ one
          → ((parent : Option TypeId) → member_within space (types ++ more) parent name ≡ None → member_within room types parent name ≡ None)
          → member_within (suc room) types (Some ty) name ≡ None
      by None at rest = rw at (no_line room types name)
      by (Some one) at rest =
          let same : slice_get (types ++ more) ty.0 ≡ Some one = found_left types more ty.0 one at in
          let held : first_of (own_member (fields_within space (types ++ more) (parent_of (Some one))) ty (Some one) name) (member_within space (types ++ more) (parent_of (Some one)) name) ≡ None =
          subst (λ (o : Option TypeDef). first_of (own_member (fields_within space (types ++ more) (parent_of o)) ty o name) (member_within space (types ++ more) (parent_of o) name) ≡ None) same e in
          rw at (no_first (own_member (fields_within space (types ++ more) (parent_of (Some one))) ty (Some one) name) (member_within space (types ++ more) (parent_of (Some one)) name)
          (own_member (fields_within room types (parent_of (Some one))) ty (Some one) name) (member_within room types (parent_of (Some one)) name)
          (λ f. no_own one ty name _ _ f) (λ f. rest (parent_of (Some one)) f) held)

  no_meaning : (number : ℕ) (now before : Option Member) → (now ≡ None → before ≡ None) → Follows (option_map (member number) now) (option_map (member number) before)
  no_meaning number None before h = record { means = λ ty m. absurd m; none = λ e. ap (option_map (member number)) (h refl) }
  no_meaning number (Some one) before h = record { means = λ ty m. absurd m; none = λ e. absurd (let f : Some (member number one) ≡ None = e in cc) }

  follows_members : (number : ℕ) (line : Option TypeId) → Follows (option_map (member number) (member_of (types ++ more) line name)) (option_map (member number) (member_of types line name))
  follows_members number line =
      no_meaning number (member_of (types ++ more) line name) (member_of types line name)
      (λ e. no_member (length types) (length (types ++ more)) line (omega (arith, length-append types more)) e)

  follows_blocks : (number : ℕ) (blocks : List OpenBlock) → Follows (in_blocks (types ++ more) number blocks name) (in_blocks types number blocks name)
  follows_blocks number [] = follows_same None
  follows_blocks number (block ∷ blocks) =
      follows_first (in_blocks (types ++ more) (number + 1) blocks name) (in_blocks types (number + 1) blocks name)
      (in_block (types ++ more) number block name) (in_block types number block name)
      (follows_blocks (number + 1) blocks)
      (follows_first (in_symbols number block.symbols name) (in_symbols number block.symbols name) (option_map (member number) (member_of (types ++ more) (line_of block.kind) name))
      (option_map (member number) (member_of types (line_of block.kind) name)) (follows_same (in_symbols number block.symbols name)) (follows_members number (line_of block.kind)))

-- a scope with further types, and all else as it was
pub follows_types : (g h : Environment) (more : List TypeDef) (name : List ℕ) → h.types.types ≡ g.types.types ++ more → h.blocks ≡ g.blocks → h.used ≡ g.used → h.seen ≡ g.seen
    → h.predeclared ≡ g.predeclared → Follows (find h name) (find g name)
follows_types g h more name has blocks used seen predeclared =
    let number = length g.used + 1 in
    let rest = first_of (in_units 1 (take g.seen g.used) name) (in_symbols 0 g.predeclared name) in
    rw (has, blocks, used, seen, predeclared)
    (follows_first (in_blocks (g.types.types ++ more) number g.blocks name) (in_blocks g.types.types number g.blocks name) rest rest
    (follows_blocks g.types.types more name number g.blocks) (follows_same rest))

-- ---- names that are entered

-- the blocks with a name in the innermost one, where there is one further out
pub pushed : (block other : OpenBlock) (blocks : List OpenBlock) (name : List ℕ) (one : Entry)
    → outer (block ∷ other ∷ blocks) ++ with_own (innermost (block ∷ other ∷ blocks)) name one ≡ block ∷ (outer (other ∷ blocks) ++ with_own (innermost (other ∷ blocks)) name one)
pushed block other blocks name one =
    let count : length (block ∷ other ∷ blocks) - 1 ≡ suc (length (other ∷ blocks) - 1) = omega arith in
    ap (λ (n : ℕ). take n (block ∷ other ∷ blocks) ++ with_own (innermost (other ∷ blocks)) name one) count

-- what a list with a further name at the end has
abbrev pub entry_by : Option Entry → Bool → Entry → Option Entry
entry_by (Some first) b one = Some first
entry_by None true one = Some one
entry_by None false one = None

pub entry_pushed : (symbols : SymbolList) (name wanted : List ℕ) (one : Entry) → entry_of (symbols ++ (name, one) ∷ []) wanted ≡ entry_by (entry_of symbols wanted) (same_bytes wanted name) one
entry_pushed [] name wanted one = by (same_bytes wanted name)
  where
    by : (b : Bool) → cond b (Some one) None ≡ entry_by None b one
    by true = refl
    by false = refl
entry_pushed (first ∷ symbols) name wanted one = by (same_bytes wanted first.0) (entry_pushed symbols name wanted one)
  where
    by : (b : Bool) → entry_of (symbols ++ (name, one) ∷ []) wanted ≡ entry_by (entry_of symbols wanted) (same_bytes wanted name) one
        → cond b (Some first.1) (entry_of (symbols ++ (name, one) ∷ []) wanted) ≡ entry_by (cond b (Some first.1) (entry_of symbols wanted)) (same_bytes wanted name) one
    by true rest = refl
    by false rest = rest

-- A name that is entered is no type, or is another one than what is looked for.
abbrev pub IsApart : Entry → Bool → Type 0
IsApart one true = (number : ℕ) (ty : TypeId) → MeansType (Some (named number one)) ty → ⊥
IsApart one false = Unit {0}

follows_entry : (number : ℕ) (found : Option Entry) (b : Bool) (one : Entry) → IsApart one b → Follows (option_map (named number) (entry_by found b one)) (option_map (named number) found)
follows_entry number (Some first) b one apart = follows_same (Some (named number first))
follows_entry number None true one apart = record { means = λ ty m. absurd (apart number ty m); none = λ e. refl }
follows_entry number None false one apart = follows_same None

module _ (types : List TypeDef) (name wanted : List ℕ) (one : Entry) (apart : IsApart one (same_bytes wanted name)) where
  follows_symbols : (number : ℕ) (symbols : SymbolList) → Follows (in_symbols number (symbols ++ (name, one) ∷ []) wanted) (in_symbols number symbols wanted)
  follows_symbols number symbols = rw (entry_pushed symbols name wanted one) (follows_entry number (entry_of symbols wanted) (same_bytes wanted name) one apart)

  follows_pushed : (number : ℕ) (blocks : List OpenBlock) → Follows (in_blocks types number (outer blocks ++ with_own (innermost blocks) name one) wanted) (in_blocks types number blocks wanted)
  follows_pushed number [] = follows_same None
  follows_pushed number (block ∷ []) =
      let members = option_map (member number) (member_of types (line_of block.kind) wanted) in
      follows_first None None (first_of (in_symbols number (block.symbols ++ (name, one) ∷ []) wanted) members) (first_of (in_symbols number block.symbols wanted) members)
      (follows_same None)
      (follows_first (in_symbols number (block.symbols ++ (name, one) ∷ []) wanted) (in_symbols number block.symbols wanted) members members (follows_symbols number block.symbols) (follows_same members))
  follows_pushed number (block ∷ other ∷ blocks) =
      let new = outer (other ∷ blocks) ++ with_own (innermost (other ∷ blocks)) name one in
      rw (pushed block other blocks name one)
      (follows_first (in_blocks types (number + 1) new wanted) (in_blocks types (number + 1) (other ∷ blocks) wanted) (in_block types number block wanted) (in_block types number block wanted)
      (follows_pushed (number + 1) (other ∷ blocks)) (follows_same (in_block types number block wanted)))

pub follows_name : (g : Environment) (name wanted : List ℕ) (one : Entry) → IsApart one (same_bytes wanted name) → Follows (find (with_name g name one) wanted) (find g wanted)
follows_name g name wanted one apart =
    let number = length g.used + 1 in
    let rest = first_of (in_units 1 (take g.seen g.used) wanted) (in_symbols 0 g.predeclared wanted) in
    follows_first (in_blocks g.types.types number (outer g.blocks ++ with_own (innermost g.blocks) name one) wanted) (in_blocks g.types.types number g.blocks wanted) rest rest
    (follows_pushed g.types.types name wanted one apart number g.blocks) (follows_same rest)
