-- A block that is opened round the headers of methods, and closed.
use Rattle.std.proofs.Common.{◌≡◌, ◌-◌, ℕ, Bool, true, false, not, cond, List, [], ◌∷◌, ◌++◌, length, take, Option, Some, None, refl, arith, ap, ◌∙◌, length-append}
use Rattle.std.specs.List.{last_or}
use Rattle.std.proofs.lemmas.List.{take_at}
use Rattle.scopes.specs.declared.entries.Entry.{Entry}
use Rattle.scopes.specs.declared.entries.BlockKind.{BlockKind}
use Rattle.scopes.specs.declared.entries.BlockKind.TheVariants.{Part}
use Rattle.scopes.specs.declared.entries.Entry.TheVariants as entry
use Rattle.scopes.specs.declared.searches.OpenBlock.{OpenBlock}
use Rattle.scopes.specs.Predeclared.{type_id}
use Rattle.scopes.specs.Symbols.{SymbolList}
use Rattle.scopes.specs.Environment.{Environment, outer, innermost, has_own, has_innermost, with_own, with_name, with_block, without_block}
use Rattle.declaration_checker.specs.type_parts.Objects.{inside}

last-pushed : {A : Type 0} → (o : Option A) (xs : List A) (x : A) → last_or o (xs ++ x ∷ []) ≡ Some x
last-pushed o [] x = refl
last-pushed o (y ∷ ys) x = last-pushed (Some y) ys x

outer-pushed : (blocks : List OpenBlock) (block : OpenBlock) → outer (blocks ++ block ∷ []) ≡ blocks
outer-pushed blocks block =
    let count : length (blocks ++ block ∷ []) - 1 ≡ length blocks = omega (arith, length-append blocks (block ∷ [])) in
    ap (λ (n : ℕ). take n (blocks ++ block ∷ [])) count ∙ take_at blocks (block ∷ []) (length blocks) refl

abbrev block_of : BlockKind → SymbolList → OpenBlock
block_of kind symbols = record { kind = kind; symbols = symbols }

abbrev with_blocks : Environment → List OpenBlock → Environment
with_blocks g blocks = record g { blocks = blocks }

pub fresh : (g : Environment) (kind : BlockKind) (name : List ℕ) → has_innermost (with_block g kind) name ≡ false
fresh g kind name = ap (λ (o : Option OpenBlock). has_own o name) (last-pushed None g.blocks (block_of kind []))

named : (g : Environment) (kind : BlockKind) (name : List ℕ) (one : Entry)
    → with_name (with_block g kind) name one ≡ with_blocks g (g.blocks ++ block_of kind ((name, one) ∷ []) ∷ [])
named g kind name one =
    ap (λ (front : List OpenBlock). with_blocks g (front ++ with_own (innermost (g.blocks ++ block_of kind [] ∷ [])) name one)) (outer-pushed g.blocks (block_of kind []))
    ∙ ap (λ (o : Option OpenBlock). with_blocks g (g.blocks ++ with_own o name one)) (last-pushed None g.blocks (block_of kind []))

-- the scope is as it was
pub closed : (g : Environment) (name : List ℕ) → without_block (inside g name) ≡ g
closed g name =
    ap without_block (named g Part name (entry.Ty (type_id (length g.types.types))))
    ∙ ap (with_blocks g) (outer-pushed g.blocks (block_of Part ((name, entry.Ty (type_id (length g.types.types))) ∷ [])))

-- a block in which the object type has its name
pub entered_inside : (g opened new : Environment) (name : List ℕ) (count : ℕ) (is_new : Bool) → opened ≡ with_block g Part → count ≡ length g.types.types
    → is_new ≡ not (has_innermost opened name) → new ≡ cond is_new (with_name opened name (entry.Ty (type_id count))) opened → new ≡ inside g name
entered_inside g opened new name count is_new begun counted told made =
    let new_is : is_new ≡ true = told ∙ ap (λ (h : Environment). not (has_innermost h name)) begun ∙ ap not (fresh g Part name) in
    made
    ∙ ap (λ (b : Bool). cond b (with_name opened name (entry.Ty (type_id count))) opened) new_is
    ∙ ap (λ (h : Environment). with_name h name (entry.Ty (type_id count))) begun
    ∙ ap (λ (n : ℕ). with_name (with_block g Part) name (entry.Ty (type_id n))) counted
