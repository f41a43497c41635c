-- What is known with one name or one block more, and with one block less.
use Rattle.std.proofs.Common.{◌≡◌, ◌⊎◌, inl, inr, ℕ, ◌+◌, ◌-◌, ◌<◌, List, [], ◌∷◌, ◌++◌, length, take, Option, Some, None, refl, sym, subst, ap, ◌∙◌, arith, length-append}
use Rattle.std.specs.Prelude.{◌^◌, slice_get}
use Rattle.std.specs.List.{last_or}
use Rattle.tp_check_stmt.specs.type_layout.declared.definitions.TypeId.{TypeId}
use Rattle.tp_check_stmt.specs.typed_tree.declared.units.Routine.{Routine}
use Rattle.rules_well_formed.specs.well_formed.Scopes.{Scope}
use Rattle.tp_check_stmt.specs.scopes.declared.entries.Entry.{Entry}
use Rattle.tp_check_stmt.specs.scopes.declared.entries.BlockKind.{BlockKind}
use Rattle.tp_check_stmt.specs.scopes.declared.entries.BlockKind.TheVariants as block
use Rattle.tp_check_stmt.specs.scopes.declared.searches.OpenBlock.{OpenBlock}
use Rattle.tp_check_stmt.specs.scopes.Symbols.{SymbolList}
use Rattle.tp_check_stmt.specs.scopes.Environment.{Environment, outer, innermost, with_own, with_name, with_block, without_block}
use Rattle.bodies_well_formed.specs.other_units.Known.{opening, open_from, open_in, first_in, AreNested, IsEntry, EachOf, EachIn, IsLasting, AreLasting, AreKnown}
use Rattle.bodies_well_formed.proofs.other_units.Frames.{open_end}

-- ---- lists from their ends

pub record Ends (blocks : List OpenBlock) : Type 0 where
  pub rest : List OpenBlock
  pub last : OpenBlock
  pub is : blocks ≡ rest ++ last ∷ []

pub ends : (blocks : List OpenBlock) → (blocks ≡ []) ⊎ Ends blocks
ends [] = inl refl
ends (one ∷ blocks) = by (ends blocks)
  where
    by : (blocks ≡ []) ⊎ Ends blocks → (one ∷ blocks ≡ []) ⊎ Ends (one ∷ blocks)
    by (inl none) = inr (record { rest = []; last = one; is = ap (λ (b : List OpenBlock). one ∷ b) none })
    by (inr e) = inr (record { rest = one ∷ e.rest; last = e.last; is = ap (λ (b : List OpenBlock). one ∷ b) e.is })

front : (rest : List OpenBlock) (last : OpenBlock) → take (length rest) (rest ++ last ∷ []) ≡ rest
front [] last = refl
front (one ∷ rest) last = ap (λ (b : List OpenBlock). one ∷ b) (front rest last)

last_pushed : (o : Option OpenBlock) (rest : List OpenBlock) (last : OpenBlock) → last_or o (rest ++ last ∷ []) ≡ Some last
last_pushed o [] last = refl
last_pushed o (one ∷ rest) last = last_pushed (Some one) rest last

inner_end : (rest : List OpenBlock) (last : OpenBlock) → innermost (rest ++ last ∷ []) ≡ Some last
inner_end rest last = last_pushed None rest last

pub outer_end : (rest : List OpenBlock) (last : OpenBlock) → outer (rest ++ last ∷ []) ≡ rest
outer_end rest last =
    let l : length (rest ++ last ∷ []) ≡ length rest + 1 = length-append rest (last ∷ []) in
    let count : length (rest ++ last ∷ []) - 1 ≡ length rest = omega (arith, l) in
    ap (λ (n : ℕ). take n (rest ++ last ∷ [])) count ∙ front rest last

-- ---- blocks from their ends

module _ (P : List ℕ → Entry → Type 0) where
  entries_end : (around : List ℕ) (symbols : SymbolList) (name : List ℕ) (one : Entry) → EachOf (P around) symbols → P around one → EachOf (P around) (symbols ++ (name, one) ∷ [])
  entries_end around [] name one h k = (k, tt)
  entries_end around (first ∷ symbols) name one h k = (h.0, entries_end around symbols name one h.1 k)

  pub blocks_join : (around : List ℕ) (rest : List OpenBlock) (last : OpenBlock) → EachIn P around rest → EachOf (P (opening last.kind (open_from around rest))) last.symbols
      → EachIn P around (rest ++ last ∷ [])
  blocks_join around [] last h e = (e, tt)
  blocks_join around (first ∷ rest) last h e = (h.0, blocks_join (opening first.kind around) rest last h.1 e)

  blocks_rest : (around : List ℕ) (rest : List OpenBlock) (last : OpenBlock) → EachIn P around (rest ++ last ∷ []) → EachIn P around rest
  blocks_rest around [] last h = tt
  blocks_rest around (first ∷ rest) last h = (h.0, blocks_rest (opening first.kind around) rest last h.1)

  blocks_last : (around : List ℕ) (rest : List OpenBlock) (last : OpenBlock) → EachIn P around (rest ++ last ∷ []) → EachOf (P (opening last.kind (open_from around rest))) last.symbols
  blocks_last around [] last h = h.0
  blocks_last around (first ∷ rest) last h = blocks_last (opening first.kind around) rest last h.1

lasting_join : (rest : List OpenBlock) (last : OpenBlock) → AreLasting rest → IsLasting last.kind → AreLasting (rest ++ last ∷ [])
lasting_join [] last h l = (l, tt)
lasting_join (first ∷ rest) last h l = (h.0, lasting_join rest last h.1 l)

lasting_rest : (rest : List OpenBlock) (last : OpenBlock) → AreLasting (rest ++ last ∷ []) → AreLasting rest
lasting_rest [] last h = tt
lasting_rest (first ∷ rest) last h = (h.0, lasting_rest rest last h.1)

lasting_last : (rest : List OpenBlock) (last : OpenBlock) → AreLasting (rest ++ last ∷ []) → IsLasting last.kind
lasting_last [] last h = h.0
lasting_last (first ∷ rest) last h = lasting_last rest last h.1

abbrev with_blocks : Environment → List OpenBlock → Environment
with_blocks g blocks = record g { blocks = blocks }

-- the same with other blocks
changed : (g : Environment) (s : Scope) (blocks : List OpenBlock) → AreKnown g s → AreNested s.routines (open_from [] blocks) → length (open_from [] blocks) < 2 ^ 31 → AreLasting blocks → EachIn (IsEntry s) [] blocks
    → AreKnown (with_blocks g blocks) s
changed g s blocks h nested few lasting known = record {
  has = record { types = h.has.types; units = h.has.units; methods = h.has.methods };
  sound = h.sound;
  nested = nested;
  few = few;
  placed = h.placed;
  predeclared = h.predeclared;
  used = h.used;
  lasting = lasting;
  blocks = known;
}

-- ---- one name more

pub named_open : (g : Environment) (name : List ℕ) (one : Entry) → open_in (with_name g name one) ≡ open_in g
named_open g name one = by (ends g.blocks)
  where
    by : (g.blocks ≡ []) ⊎ Ends g.blocks → open_in (with_name g name one) ≡ open_in g
    by (inl none) = ap (λ (b : List OpenBlock). open_from [] (outer b ++ with_own (innermost b) name one)) none ∙ sym (ap (λ (b : List OpenBlock). open_from [] b) none)
    by (inr e) =
        let new : OpenBlock = record { kind = e.last.kind; symbols = e.last.symbols ++ (name, one) ∷ [] } in
        ap (λ (b : List OpenBlock). open_from [] (outer b ++ with_own (innermost b) name one)) e.is
        ∙ ap (λ (o : Option OpenBlock). open_from [] (outer (e.rest ++ e.last ∷ []) ++ with_own o name one)) (inner_end e.rest e.last)
        ∙ ap (λ (b : List OpenBlock). open_from [] (b ++ new ∷ [])) (outer_end e.rest e.last)
        ∙ open_end e.rest new []
        ∙ sym (ap (λ (b : List OpenBlock). open_from [] b) e.is ∙ open_end e.rest e.last [])

-- what the blocks have
abbrev pub these : List OpenBlock → List ℕ → Entry → List OpenBlock
these blocks name one = outer blocks ++ with_own (innermost blocks) name one

module _ (g : Environment) (name : List ℕ) (one : Entry) where
  -- the last block has the name
  pub record_end : (rest : List OpenBlock) (last : OpenBlock) → these (rest ++ last ∷ []) name one ≡ rest ++ (let new : OpenBlock = record { kind = last.kind; symbols = last.symbols ++ (name, one) ∷ [] } in new) ∷ []
  record_end rest last =
      ap (λ (o : Option OpenBlock). outer (rest ++ last ∷ []) ++ with_own o name one) (inner_end rest last)
      ∙ ap (λ (b : List OpenBlock). b ++ (let new : OpenBlock = record { kind = last.kind; symbols = last.symbols ++ (name, one) ∷ [] } in new) ∷ []) (outer_end rest last)

  pub named_each : (P : List ℕ → Entry → Type 0) → EachIn P [] g.blocks → P (open_in g) one → EachIn P [] (these g.blocks name one)
  named_each P h k = by (ends g.blocks)
    where
      by : (g.blocks ≡ []) ⊎ Ends g.blocks → EachIn P [] (these g.blocks name one)
      by (inl none) = subst (λ (b : List OpenBlock). EachIn P [] (these b name one)) (sym none) tt
      by (inr e) =
          let new : OpenBlock = record { kind = e.last.kind; symbols = e.last.symbols ++ (name, one) ∷ [] } in
          let whole : EachIn P [] (e.rest ++ e.last ∷ []) = subst (λ (b : List OpenBlock). EachIn P [] b) e.is h in
          let here : P (opening e.last.kind (open_from [] e.rest)) one =
          subst (λ (o : List ℕ). P o one) (ap (λ (b : List OpenBlock). open_from [] b) e.is ∙ open_end e.rest e.last []) k in
          let entries = entries_end P (opening e.last.kind (open_from [] e.rest)) e.last.symbols name one (blocks_last P [] e.rest e.last whole) here in
          let joined : EachIn P [] (e.rest ++ new ∷ []) = blocks_join P [] e.rest new (blocks_rest P [] e.rest e.last whole) entries in
          subst (λ (b : List OpenBlock). EachIn P [] (these b name one)) (sym e.is) (subst (λ (b : List OpenBlock). EachIn P [] b) (sym (record_end e.rest e.last)) joined)

  named_lasting : AreLasting g.blocks → AreLasting (these g.blocks name one)
  named_lasting h = by (ends g.blocks)
    where
      by : (g.blocks ≡ []) ⊎ Ends g.blocks → AreLasting (these g.blocks name one)
      by (inl none) = subst (λ (b : List OpenBlock). AreLasting (these b name one)) (sym none) tt
      by (inr e) =
          let new : OpenBlock = record { kind = e.last.kind; symbols = e.last.symbols ++ (name, one) ∷ [] } in
          let whole : AreLasting (e.rest ++ e.last ∷ []) = subst (λ (b : List OpenBlock). AreLasting b) e.is h in
          let joined : AreLasting (e.rest ++ new ∷ []) = lasting_join e.rest new (lasting_rest e.rest e.last whole) (lasting_last e.rest e.last whole) in
          subst (λ (b : List OpenBlock). AreLasting (these b name one)) (sym e.is) (subst (λ (b : List OpenBlock). AreLasting b) (sym (record_end e.rest e.last)) joined)

pub named_known : (g : Environment) (s : Scope) (name : List ℕ) (one : Entry) → AreKnown g s → IsEntry s (open_in g) one → AreKnown (with_name g name one) s
named_known g s name one h k =
    let same : open_from [] (these g.blocks name one) ≡ open_in g = named_open g name one in
    changed g s (these g.blocks name one) h
    (subst (λ (o : List ℕ). AreNested s.routines o) (sym same) h.nested) (subst (λ (o : List ℕ). length o < 2 ^ 31) (sym same) h.few)
    (named_lasting g name one h.lasting) (named_each g name one (IsEntry s) h.blocks k)

-- ---- one block more

pub opened_known : (g : Environment) (s : Scope) (kind : BlockKind) → AreKnown g s → IsLasting kind → AreNested s.routines (opening kind (open_in g)) → length (opening kind (open_in g)) < 2 ^ 31
    → AreKnown (with_block g kind) s
opened_known g s kind h lasting nested few =
    let new : OpenBlock = record { kind = kind; symbols = [] } in
    let around : open_from [] (g.blocks ++ new ∷ []) ≡ opening kind (open_in g) = open_end g.blocks new [] in
    changed g s (g.blocks ++ new ∷ []) h (subst (λ (o : List ℕ). AreNested s.routines o) (sym around) nested) (subst (λ (o : List ℕ). length o < 2 ^ 31) (sym around) few)
    (lasting_join g.blocks new h.lasting lasting) (blocks_join (IsEntry s) [] g.blocks new h.blocks tt)

pub routine_known : (g : Environment) (s : Scope) (number : ℕ) (owner : Option TypeId) (one : Routine) → AreKnown g s → slice_get s.routines number ≡ Some one → one.outer ≡ first_in (open_in g)
    → length (open_in g) + 1 < 2 ^ 31 → AreKnown (with_block g (block.Routine number owner)) s
routine_known g s number owner one h is outer few =
    let count : length (number ∷ open_in g) ≡ length (open_in g) + 1 = omega arith in
    opened_known g s (block.Routine number owner) h tt ((one, is, outer), h.nested) (subst (λ (n : ℕ). n < 2 ^ 31) (sym count) few)

-- ---- one block less

nested_rest : (s : Scope) (kind : BlockKind) (around : List ℕ) → AreNested s.routines (opening kind around) → AreNested s.routines around
nested_rest s (block.Routine number owner) around h = h.1
nested_rest s block.Part around h = h
nested_rest s (block.With ty) around h = h

few_rest : (kind : BlockKind) (around : List ℕ) (most : ℕ) → length (opening kind around) < most → length around < most
few_rest (block.Routine number owner) around most h = omega (arith, h)
few_rest block.Part around most h = h
few_rest (block.With ty) around most h = h

pub closed_known : (g : Environment) (s : Scope) → AreKnown g s → AreKnown (without_block g) s
closed_known g s h = by (ends g.blocks)
  where
    by : (g.blocks ≡ []) ⊎ Ends g.blocks → AreKnown (without_block g) s
    by (inl none) =
        let same : outer g.blocks ≡ g.blocks = ap (λ (b : List OpenBlock). outer b) none ∙ sym none in
        changed g s (outer g.blocks) h (subst (λ (b : List OpenBlock). AreNested s.routines (open_from [] b)) (sym same) h.nested)
        (subst (λ (b : List OpenBlock). length (open_from [] b) < 2 ^ 31) (sym same) h.few) (subst (λ (b : List OpenBlock). AreLasting b) (sym same) h.lasting)
        (subst (λ (b : List OpenBlock). EachIn (IsEntry s) [] b) (sym same) h.blocks)
    by (inr e) =
        let same : outer g.blocks ≡ e.rest = ap (λ (b : List OpenBlock). outer b) e.is ∙ outer_end e.rest e.last in
        let around : open_in g ≡ opening e.last.kind (open_from [] e.rest) = ap (λ (b : List OpenBlock). open_from [] b) e.is ∙ open_end e.rest e.last [] in
        let nested = nested_rest s e.last.kind (open_from [] e.rest) (subst (λ (o : List ℕ). AreNested s.routines o) around h.nested) in
        let few = few_rest e.last.kind (open_from [] e.rest) (2 ^ 31) (subst (λ (o : List ℕ). length o < 2 ^ 31) around h.few) in
        let lasting = lasting_rest e.rest e.last (subst (λ (b : List OpenBlock). AreLasting b) e.is h.lasting) in
        let known = blocks_rest (IsEntry s) [] e.rest e.last (subst (λ (b : List OpenBlock). EachIn (IsEntry s) [] b) e.is h.blocks) in
        changed g s (outer g.blocks) h (subst (λ (b : List OpenBlock). AreNested s.routines (open_from [] b)) (sym same) nested)
        (subst (λ (b : List OpenBlock). length (open_from [] b) < 2 ^ 31) (sym same) few) (subst (λ (b : List OpenBlock). AreLasting b) (sym same) lasting)
        (subst (λ (b : List OpenBlock). EachIn (IsEntry s) [] b) (sym same) known)

-- what each entry of the blocks has that are left
pub closed_each : (g : Environment) (P : List ℕ → Entry → Type 0) → EachIn P [] g.blocks → EachIn P [] (outer g.blocks)
closed_each g P h = by (ends g.blocks)
  where
    by : (g.blocks ≡ []) ⊎ Ends g.blocks → EachIn P [] (outer g.blocks)
    by (inl none) = subst (λ (b : List OpenBlock). EachIn P [] (outer b)) (sym none) tt
    by (inr e) =
        let whole : EachIn P [] (e.rest ++ e.last ∷ []) = subst (λ (b : List OpenBlock). EachIn P [] b) e.is h in
        subst (λ (b : List OpenBlock). EachIn P [] (outer b)) (sym e.is) (subst (λ (b : List OpenBlock). EachIn P [] b) (sym (outer_end e.rest e.last)) (blocks_rest P [] e.rest e.last whole))
