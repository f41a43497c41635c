-- What names mean where some blocks are open.
use Rattle.std.specs.Prelude.{ℕ, ◌+◌, ◌-◌, ◌<◌, ◌^◌, Bool, false, cond, nat_lt, List, [], ◌∷◌, ◌++◌, Option, Some, None, length, take, option_map, slice_get}
use Rattle.std.specs.List.{last_or}
use Rattle.type_layout.specs.declared.definitions.TypeId.{TypeId}
use Rattle.type_layout.specs.declared.definitions.TypeDef.{TypeDef}
use Rattle.type_layout.specs.Table.{Table}
use Rattle.scopes.specs.declared.entries.Entry.{Entry}
use Rattle.scopes.specs.declared.entries.BlockKind.{BlockKind}
use Rattle.scopes.specs.declared.entries.BlockKind.TheVariants.{Part, Routine, With}
use Rattle.scopes.specs.declared.entries.Found.{Found}
use Rattle.scopes.specs.declared.entries.Found.TheVariants as found
use Rattle.scopes.specs.declared.searches.OpenBlock.{OpenBlock}
use Rattle.scopes.specs.declared.members.Member.{Member}
use Rattle.scopes.specs.Growth.{IsGrown}
use Rattle.scopes.specs.Symbols.{SymbolList, entry_of, has}
use Rattle.scopes.specs.Members.{first_of, member_of}

-- what a search finds: an entry, or a member of a record or object, and the block in which it was found
pub data Meaning : Type 0 where
  named : ℕ → Entry → Meaning
  member : ℕ → Member → Meaning

abbrev pub shown : Found → Meaning
shown (found.Named block entry) = named block entry.now
shown (found.Member block class number method) = member block (record { class = class; number = number; method = method })

-- the type whose members are known in a block: of a method its object, of a `with` what it is over
abbrev pub line_of : BlockKind → Option TypeId
line_of Part = None
line_of (Routine number owner) = owner
line_of (With ty) = Some ty

abbrev pub in_symbols : ℕ → SymbolList → List ℕ → Option Meaning
in_symbols number symbols name = option_map (named number) (entry_of symbols name)

-- one block: its names, and then the members that are known in it
abbrev pub in_block : List TypeDef → ℕ → OpenBlock → List ℕ → Option Meaning
in_block types number block name =
    first_of (in_symbols number block.symbols name) (option_map (member number) (member_of types (line_of block.kind) name))

-- blocks from the outermost, which are numbered from a number on: the innermost one that has the name
abbrev pub in_blocks : List TypeDef → ℕ → List OpenBlock → List ℕ → Option Meaning
in_blocks types number [] name = None
in_blocks types number (block ∷ blocks) name =
    first_of (in_blocks types (number + 1) blocks name) (in_block types number block name)

-- units in order of the clauses, which are numbered from a number on: the last one that has the name
abbrev pub in_units : ℕ → List SymbolList → List ℕ → Option Meaning
in_units number [] name = None
in_units number (unit ∷ units) name = first_of (in_units (number + 1) units name) (in_symbols number unit name)

-- The types, the names of units with the unit itself first, the predeclared names, the names of the used units in order
-- of the clauses, how many of these are seen, and the open blocks from the outermost.
pub record Environment : Type 0 where
  pub types : Table
  pub units : List (List ℕ)
  pub predeclared : SymbolList
  pub used : List SymbolList
  pub seen : ℕ
  pub blocks : List OpenBlock

-- The open blocks from the innermost, then the used units that are seen from the last, then the predeclared names.
abbrev pub find : Environment → List ℕ → Option Meaning
find environment name =
    first_of (in_blocks environment.types.types (length environment.used + 1) environment.blocks name)
    (first_of (in_units 1 (take environment.seen environment.used) name) (in_symbols 0 environment.predeclared name))

-- ---- how an environment changes

-- the open blocks but for the innermost
abbrev pub outer : List OpenBlock → List OpenBlock
outer blocks = take (length blocks - 1) blocks

abbrev pub innermost : List OpenBlock → Option OpenBlock
innermost blocks = last_or None blocks

-- the names of the innermost block, in order
abbrev pub own_symbols : Environment → Option SymbolList
own_symbols environment = option_map (λ block. block.symbols) (slice_get environment.blocks (length environment.blocks - 1))

abbrev pub has_own : Option OpenBlock → List ℕ → Bool
has_own None name = false
has_own (Some block) name = has block.symbols name

-- whether the innermost block has a name
abbrev pub has_innermost : Environment → List ℕ → Bool
has_innermost environment name = has_own (innermost environment.blocks) name

abbrev pub with_own : Option OpenBlock → List ℕ → Entry → List OpenBlock
with_own None name entry = []
with_own (Some block) name entry = (record { kind = block.kind; symbols = block.symbols ++ (name, entry) ∷ [] }) ∷ []

-- a name at the end of the innermost block
abbrev pub with_name : Environment → List ℕ → Entry → Environment
with_name environment name entry =
    record environment { blocks = outer environment.blocks ++ with_own (innermost environment.blocks) name entry }

-- a further used unit; all are seen then
abbrev pub with_used : Environment → SymbolList → Environment
with_used environment names = record environment { used = environment.used ++ names ∷ []; seen = length environment.used + 1 }

-- a further block, without names
abbrev pub with_block : Environment → BlockKind → Environment
with_block environment kind = record environment { blocks = environment.blocks ++ (record { kind = kind; symbols = [] }) ∷ [] }

abbrev pub without_block : Environment → Environment
without_block environment = record environment { blocks = outer environment.blocks }

-- the number of the outermost open block: the predeclared names and the used units come before it
abbrev pub first_open : Environment → ℕ
first_open environment = length environment.used + 1

abbrev pub block_count : Environment → ℕ
block_count environment = first_open environment + length environment.blocks

abbrev pub kind_in : List OpenBlock → ℕ → Option BlockKind
kind_in blocks place = option_map (λ block. block.kind) (slice_get blocks place)

-- the kind of a block that is open
abbrev pub kind_of : Environment → ℕ → Option BlockKind
kind_of environment block =
    cond (nat_lt block (first_open environment)) None (kind_in environment.blocks (block - first_open environment))

abbrev pub entry_in : Option OpenBlock → List ℕ → Option Entry
entry_in None name = None
entry_in (Some block) name = entry_of block.symbols name

-- what an open block itself declares under a name
abbrev pub found_in : Environment → ℕ → List ℕ → Option Entry
found_in environment block name =
    cond (nat_lt block (first_open environment)) None (entry_in (slice_get environment.blocks (block - first_open environment)) name)

-- what a scope keeps: its numbers of blocks and units have 32 bits, and its types were added one by one
pub record IsKept (environment : Environment) : Type 0 where
  pub few_blocks : block_count environment < 2 ^ 32
  pub few_units : length environment.units < 2 ^ 32
  pub grown : IsGrown environment.types
