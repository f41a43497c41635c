-- What is said of each entry of a scope.
use Rattle.std.proofs.Common.{◌≡◌, ◌⊎◌, inl, inr, ℕ, ◌+◌, ◌≤◌, Bool, true, false, cond, All, List, [], ◌∷◌, ◌++◌, length, take, Option, Some, None, sym, subst, ap, ◌∙◌, arith, append-nil, append_assoc}
use Rattle.std.specs.Prelude.{option_map}
use Rattle.std.specs.Map.{lookup}
use Rattle.std.proofs.lemmas.List.Elements.{All-nil, All-cons, All-head, All-tail, All-take}
use Rattle.bodies_well_formed.specs.type_layout.declared.definitions.TypeDef.{TypeDef}
use Rattle.bodies_well_formed.specs.type_layout.Words.{same_bytes}
use Rattle.bodies_well_formed.specs.scopes.declared.entries.Entry.{Entry}
use Rattle.bodies_well_formed.specs.scopes.declared.searches.OpenBlock.{OpenBlock}
use Rattle.bodies_well_formed.specs.scopes.declared.members.Member.{Member}
use Rattle.bodies_well_formed.specs.scopes.Symbols.{SymbolList, entry_of}
use Rattle.bodies_well_formed.specs.scopes.Members.{first_of, member_of}
use Rattle.bodies_well_formed.specs.scopes.Environment.{Environment, named, member, line_of, in_symbols, in_block, in_blocks, in_units, find, with_name}
use Rattle.bodies_well_formed.specs.other_units.Known.{opening, EachOf, EachIn}
use Rattle.bodies_well_formed.proofs.other_units.Entering.{Ends, ends, these, record_end}
use Rattle.declarations_well_formed.specs.names.Declaring.{with_names}

-- whatever is open round it
abbrev pub Anywhere : (Entry → Type 0) → List ℕ → Entry → Type 0
Anywhere P = λ around one. P one

-- ---- what follows for each

module _ (P Q : Entry → Type 0) (follows : (one : Entry) → P one → Q one) where
  pub each_for : (names : SymbolList) → EachOf P names → EachOf Q names
  each_for [] h = tt
  each_for (one ∷ rest) h = (follows one.1 h.0, each_for rest h.1)

  pub all_for : (units : List SymbolList) → All (EachOf P) units → All (EachOf Q) units
  all_for [] h = All-nil (EachOf Q)
  all_for (unit ∷ rest) h = All-cons (EachOf Q) unit rest (each_for unit (All-head (EachOf P) unit rest h)) (all_for rest (All-tail (EachOf P) unit rest h))

  pub in_for : (around : List ℕ) (blocks : List OpenBlock) → EachIn (Anywhere P) around blocks → EachIn (Anywhere Q) around blocks
  in_for around [] h = tt
  in_for around (one ∷ blocks) h = (each_for one.symbols h.0, in_for (opening one.kind around) blocks h.1)

-- ---- names in the innermost block

module _ (P : Entry → Type 0) where
  each_back : (front back : SymbolList) → EachOf P (front ++ back) → EachOf P back
  each_back [] back h = h
  each_back (one ∷ front) back h = each_back front back h.1

  last_each : (around : List ℕ) (rest : List OpenBlock) (last : OpenBlock) → EachIn (Anywhere P) around (rest ++ last ∷ []) → EachOf P last.symbols
  last_each around [] last h = h.0
  last_each around (first ∷ rest) last h = last_each (opening first.kind around) rest last h.1

-- a block with further names
abbrev longer : OpenBlock → SymbolList → OpenBlock
longer last names = record { kind = last.kind; symbols = last.symbols ++ names }

names_last : (names : SymbolList) (g : Environment) (rest : List OpenBlock) (last : OpenBlock) → g.blocks ≡ rest ++ last ∷ [] → (with_names g names).blocks ≡ rest ++ longer last names ∷ []
names_last [] g rest last is = is ∙ ap (λ (s : SymbolList). rest ++ (let new : OpenBlock = record { kind = last.kind; symbols = s } in new) ∷ []) (sym (append-nil last.symbols))
names_last (one ∷ names) g rest last is =
    let next : these g.blocks one.0 one.1 ≡ rest ++ longer last (one ∷ []) ∷ [] = ap (λ (b : List OpenBlock). these b one.0 one.1) is ∙ record_end g one.0 one.1 rest last in
    names_last names (with_name g one.0 one.1) rest (longer last (one ∷ [])) next
    ∙ ap (λ (s : SymbolList). rest ++ (let new : OpenBlock = record { kind = last.kind; symbols = s } in new) ∷ []) (append_assoc last.symbols (one ∷ []) names)

-- what holds of each entry of the blocks holds of the names that were put there
pub new_each : (P : Entry → Type 0) (g : Environment) (names : SymbolList) → 1 ≤ length g.blocks → EachIn (Anywhere P) [] (with_names g names).blocks → EachOf P names
new_each P g names some h = by (ends g.blocks)
  where
    by : (g.blocks ≡ []) ⊎ Ends g.blocks → EachOf P names
    by (inl none) = let empty : length g.blocks ≡ 0 = ap (λ (b : List OpenBlock). length b) none in absurd (omega (arith, empty, some))
    by (inr e) =
        each_back P e.last.symbols names (last_each P [] e.rest (longer e.last names) (subst (λ (b : List OpenBlock). EachIn (Anywhere P) [] b) (names_last names g e.rest e.last e.is) h))

-- ---- what is found

first_cases : {A : Type 0} → (a b : Option A) (x : A) → first_of a b ≡ Some x → (a ≡ Some x) ⊎ (b ≡ Some x)
first_cases None b x e = inr e
first_cases (Some y) b x e = inl e

module _ (P : Entry → Type 0) (name : List ℕ) (n : ℕ) (one : Entry) where
  looked_up : (symbols : SymbolList) → EachOf P symbols → lookup (same_bytes name) symbols ≡ Some one → P one
  looked_up [] h e = let bad : ⊥ = cc in absurd bad
  looked_up (first ∷ rest) h e = by (λ k. looked_up rest h.1 k) (same_bytes name first.0) e
    where
      by : (lookup (same_bytes name) rest ≡ Some one → P one) → (b : Bool) → cond b (Some first.1) (lookup (same_bytes name) rest) ≡ Some one → P one
      by rec true k =
          let same : first.1 ≡ one = cc in
          subst P same h.0
      by rec false k = rec k

  symbols_have : (k : ℕ) (symbols : SymbolList) → EachOf P symbols → in_symbols k symbols name ≡ Some (named n one) → P one
  symbols_have k symbols h e = looked_up symbols h (by (entry_of symbols name) e)
    where
      by : (o : Option Entry) → option_map (named k) o ≡ Some (named n one) → o ≡ Some one
      by None f = let bad : ⊥ = cc in absurd bad
      by (Some x) f = cc

  no_member : (k : ℕ) (o : Option Member) → option_map (member k) o ≡ Some (named n one) → ⊥
  no_member k None e = let bad : ⊥ = cc in bad
  no_member k (Some m) e = let bad : ⊥ = cc in bad

  block_has : (types : List TypeDef) (k : ℕ) (b : OpenBlock) → EachOf P b.symbols → in_block types k b name ≡ Some (named n one) → P one
  block_has types k b h e = by (first_cases (in_symbols k b.symbols name) (option_map (member k) (member_of types (line_of b.kind) name)) (named n one) e)
    where
      by : (in_symbols k b.symbols name ≡ Some (named n one)) ⊎ (option_map (member k) (member_of types (line_of b.kind) name) ≡ Some (named n one)) → P one
      by (inl f) = symbols_have k b.symbols h f
      by (inr f) = absurd (no_member k (member_of types (line_of b.kind) name) f)

  blocks_have : (types : List TypeDef) (around : List ℕ) (k : ℕ) (blocks : List OpenBlock) → EachIn (Anywhere P) around blocks → in_blocks types k blocks name ≡ Some (named n one) → P one
  blocks_have types around k [] h e = let bad : ⊥ = cc in absurd bad
  blocks_have types around k (b ∷ blocks) h e =
      by (λ f. blocks_have types (opening b.kind around) (k + 1) blocks h.1 f) (first_cases (in_blocks types (k + 1) blocks name) (in_block types k b name) (named n one) e)
    where
      by : (in_blocks types (k + 1) blocks name ≡ Some (named n one) → P one) → (in_blocks types (k + 1) blocks name ≡ Some (named n one)) ⊎ (in_block types k b name ≡ Some (named n one)) → P one
      by rec (inl f) = rec f
      by rec (inr f) = block_has types k b h.0 f

  units_have : (k : ℕ) (units : List SymbolList) → All (EachOf P) units → in_units k units name ≡ Some (named n one) → P one
  units_have k [] h e = let bad : ⊥ = cc in absurd bad
  units_have k (unit ∷ units) h e =
      by (λ f. units_have (k + 1) units (All-tail (EachOf P) unit units h) f) (first_cases (in_units (k + 1) units name) (in_symbols k unit name) (named n one) e)
    where
      by : (in_units (k + 1) units name ≡ Some (named n one) → P one) → (in_units (k + 1) units name ≡ Some (named n one)) ⊎ (in_symbols k unit name ≡ Some (named n one)) → P one
      by rec (inl f) = rec f
      by rec (inr f) = symbols_have k unit (All-head (EachOf P) unit units h) f

  -- what a name means is an entry of the scope
  pub found_each : (g : Environment) → EachOf P g.predeclared → All (EachOf P) g.used → EachIn (Anywhere P) [] g.blocks → find g name ≡ Some (named n one) → P one
  found_each g predeclared used blocks e =
      by (first_cases (in_blocks g.types.types (length g.used + 1) g.blocks name) (first_of (in_units 1 (take g.seen g.used) name) (in_symbols 0 g.predeclared name)) (named n one) e)
    where
      outside : (in_units 1 (take g.seen g.used) name ≡ Some (named n one)) ⊎ (in_symbols 0 g.predeclared name ≡ Some (named n one)) → P one
      outside (inl f) = units_have 1 (take g.seen g.used) (All-take (EachOf P) g.seen g.used used) f
      outside (inr f) = symbols_have 0 g.predeclared predeclared f

      by : (in_blocks g.types.types (length g.used + 1) g.blocks name ≡ Some (named n one)) ⊎ (first_of (in_units 1 (take g.seen g.used) name) (in_symbols 0 g.predeclared name) ≡ Some (named n one)) → P one
      by (inl f) = blocks_have g.types.types [] (length g.used + 1) g.blocks blocks f
      by (inr f) = outside (first_cases (in_units 1 (take g.seen g.used) name) (in_symbols 0 g.predeclared name) (named n one) f)
