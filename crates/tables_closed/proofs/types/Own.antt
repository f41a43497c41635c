-- What the innermost block has, where names are entered.
use Rattle.std.proofs.Common.{◌≡◌, ◌∙◌, ℕ, suc, ◌+◌, Bool, true, false, List, [], ◌∷◌, ◌++◌, length, take, Option, Some, None, is_some, option_map, refl, ap, subst, arith}
use Rattle.std.specs.List.{last_or}
use Rattle.tp_check_decl.specs.type_layout.declared.definitions.TypeDef.{TypeDef}
use Rattle.tp_check_decl.specs.type_layout.Words.{same_bytes}
use Rattle.tp_check_decl.specs.scopes.declared.entries.Entry.{Entry}
use Rattle.tp_check_decl.specs.scopes.declared.searches.OpenBlock.{OpenBlock}
use Rattle.tp_check_decl.specs.scopes.Symbols.{entry_of}
use Rattle.tp_check_decl.specs.scopes.Members.{first_of, member_of}
use Rattle.tp_check_decl.specs.scopes.Environment.{Environment, Meaning, named, member, line_of, in_symbols, in_block, in_blocks, in_units, find, outer, innermost, has_own, has_innermost, with_own, with_name}
use Rattle.tables_closed.proofs.types.Means.{pushed, entry_by, entry_pushed}

abbrev pub entry_in : Option OpenBlock → List ℕ → Option Entry
entry_in None name = None
entry_in (Some block) name = entry_of block.symbols name

-- what the innermost block says of a name
abbrev pub own_entry : Environment → List ℕ → Option Entry
own_entry g name = entry_in (innermost g.blocks) name

none_there : {A : Type 0} (o : Option A) → is_some o ≡ false → o ≡ None
none_there None e = refl
none_there (Some x) e = cc

-- no block more and none less
pub same_count : (blocks : List OpenBlock) (name : List ℕ) (one : Entry) → length (outer blocks ++ with_own (innermost blocks) name one) ≡ length blocks
same_count [] name one = refl
same_count (block ∷ []) name one = refl
same_count (block ∷ other ∷ blocks) name one = ap length (pushed block other blocks name one) ∙ ap suc (same_count (other ∷ blocks) name one)

module _ (name : List ℕ) (one : Entry) (wanted : List ℕ) where
  still_last : (o : Option OpenBlock) (blocks : List OpenBlock) (found : Entry) → entry_in (last_or None blocks) wanted ≡ Some found
      → entry_in (last_or o (outer blocks ++ with_own (innermost blocks) name one)) wanted ≡ Some found
  still_last o [] found e = cc
  still_last o (block ∷ []) found e = entry_pushed block.symbols name wanted one ∙ ap (λ (x : Option Entry). entry_by x (same_bytes wanted name) one) e
  still_last o (block ∷ other ∷ blocks) found e = rw (pushed block other blocks name one) (still_last (Some block) (other ∷ blocks) found e)

  new_last : (o : Option OpenBlock) (block : OpenBlock) (blocks : List OpenBlock) → has_own (last_or (Some block) blocks) wanted ≡ false → same_bytes wanted name ≡ true
      → entry_in (last_or o (outer (block ∷ blocks) ++ with_own (innermost (block ∷ blocks)) name one)) wanted ≡ Some one
  new_last o block [] none same =
      entry_pushed block.symbols name wanted one
      ∙ ap (λ (x : Option Entry). entry_by x (same_bytes wanted name) one) (none_there (entry_of block.symbols wanted) none)
      ∙ ap (λ (b : Bool). entry_by None b one) same
  new_last o block (other ∷ blocks) none same = rw (pushed block other blocks name one) (new_last (Some block) other blocks none same)

pub still_own : (g : Environment) (name : List ℕ) (one : Entry) (wanted : List ℕ) (found : Entry) → own_entry g wanted ≡ Some found → own_entry (with_name g name one) wanted ≡ Some found
still_own g name one wanted found e = still_last name one wanted None g.blocks found e

-- where there is a block, a name that it has not is what was entered under it
pub new_own : (g : Environment) (name : List ℕ) (one : Entry) (block : OpenBlock) (blocks : List OpenBlock) (wanted : List ℕ) → g.blocks ≡ block ∷ blocks → has_innermost g wanted ≡ false
    → same_bytes wanted name ≡ true → own_entry (with_name g name one) wanted ≡ Some one
new_own g name one block blocks wanted is none same =
    let here : has_own (innermost (block ∷ blocks)) wanted ≡ false = subst (λ (b : List OpenBlock). has_own (innermost b) wanted ≡ false) is none in
    rw is (new_last name one wanted None block blocks here same)

-- ---- a search finds it first

by_symbol : (number : ℕ) (o : Option Entry) (one : Entry) → o ≡ Some one → option_map (named number) o ≡ Some (named number one)
by_symbol number o one e = ap (option_map (named number)) e

found_in : (types : List TypeDef) (number : ℕ) (first : OpenBlock) (blocks : List OpenBlock) (name : List ℕ) (one : Entry) → entry_in (last_or (Some first) blocks) name ≡ Some one
    → in_blocks types number (first ∷ blocks) name ≡ Some (named (number + length blocks) one)
found_in types number first [] name one e =
    let members = option_map (member number) (member_of types (line_of first.kind) name) in
    ap (λ (o : Option Meaning). first_of o members) (by_symbol number (entry_of first.symbols name) one e)
    ∙ ap (λ (n : ℕ). Some (named n one)) (let same : number ≡ number + 0 = omega arith in same)
found_in types number first (block ∷ blocks) name one e =
    ap (λ (o : Option Meaning). first_of o (in_block types number first name)) (found_in types (number + 1) block blocks name one e)
    ∙ ap (λ (n : ℕ). Some (named n one)) (let same : number + 1 + length blocks ≡ number + length (block ∷ blocks) = omega arith in same)

-- the innermost of the open blocks has this number
abbrev pub own_number : Environment → ℕ
own_number g = length g.used + length g.blocks

pub finds_own : (g : Environment) (name : List ℕ) (one : Entry) → own_entry g name ≡ Some one → find g name ≡ Some (named (own_number g) one)
finds_own g name one e = by g.blocks refl
  where
    by : (blocks : List OpenBlock) → g.blocks ≡ blocks → find g name ≡ Some (named (own_number g) one)
    by [] is =
        let none : entry_in (innermost (let none : List OpenBlock = [] in none)) name ≡ Some one = subst (λ (b : List OpenBlock). entry_in (innermost b) name ≡ Some one) is e in
        absurd (let f : None ≡ Some one = none in cc)
    by (block ∷ blocks) is =
        let here : entry_in (innermost (block ∷ blocks)) name ≡ Some one = subst (λ (b : List OpenBlock). entry_in (innermost b) name ≡ Some one) is e in
        let rest = first_of (in_units 1 (take g.seen g.used) name) (in_symbols 0 g.predeclared name) in
        rw is (ap (λ (o : Option Meaning). first_of o rest) (found_in g.types.types (length g.used + 1) block blocks name one here)
        ∙ ap (λ (n : ℕ). Some (named n one)) (let same : length g.used + 1 + length blocks ≡ length g.used + length (block ∷ blocks) = omega arith in same))
