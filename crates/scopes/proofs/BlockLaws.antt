-- Lists of blocks, from their ends.
use Rattle.std.proofs.Common.{◌≡◌, ℕ, zero, suc, ◌+◌, ◌-◌, Bool, true, false, cond, List, [], ◌∷◌, ◌++◌, length, take, Option, Some, None, refl, arith, sym, ap, ◌∙◌, add-one, length-append}
use Rattle.std.specs.Prelude.{slice_get}
use Rattle.std.specs.List.{last_or}
use Rattle.scopes.specs.declared.entries.Entry.{Entry}
use Rattle.scopes.specs.declared.searches.OpenBlock.{OpenBlock}
use Rattle.scopes.specs.Symbols.{SymbolList, has}
use Rattle.scopes.specs.Environment.{Environment, outer, innermost, has_own, has_innermost, with_own, with_name}

-- the first items and the next one
pub take-next : {A : Type 0} → (all : List A) (place : ℕ) (one : A) → slice_get all place ≡ Some one → take (place + 1) all ≡ take place all ++ one ∷ []
take-next {A} all place one at = rw add-one (by all place at)
  where
    by : (all : List A) (place : ℕ) → slice_get all place ≡ Some one → take (suc place) all ≡ take place all ++ one ∷ []
    by [] zero at = cc
    by [] (suc place) at = cc
    by (x ∷ xs) zero at =
        let same : x ≡ one = cc in
        rw same refl
    by (x ∷ xs) (suc place) at = ap (λ (rest : List A). x ∷ rest) (by xs place at)

-- the last item of a list at whose end one was put
last-pushed : {A : Type 0} → (o : Option A) (xs : List A) (x : A) → last_or o (xs ++ x ∷ []) ≡ Some x
last-pushed o [] x = refl
last-pushed o (y ∷ ys) x = last-pushed (Some y) ys x

pub innermost-of : (blocks rest : List OpenBlock) (block : OpenBlock) → blocks ≡ rest ++ block ∷ [] → innermost blocks ≡ Some block
innermost-of blocks rest block is = ap (last_or None) is ∙ last-pushed None rest block

pub has_innermost-of : (e : Environment) (rest : List OpenBlock) (block : OpenBlock) (name : List ℕ) → e.blocks ≡ rest ++ block ∷ []
    → has_innermost e name ≡ has block.symbols name
has_innermost-of e rest block name is = ap (λ (o : Option OpenBlock). has_own o name) (innermost-of e.blocks rest block is)

front : {A : Type 0} → (xs : List A) (x : A) → take (length xs) (xs ++ x ∷ []) ≡ xs
front [] x = refl
front {A} (y ∷ ys) x = ap (λ (rest : List A). y ∷ rest) (front ys x)

outer-of : (blocks rest : List OpenBlock) (block : OpenBlock) → blocks ≡ rest ++ block ∷ [] → rest ≡ outer blocks
outer-of blocks rest block is =
    let count : length (rest ++ block ∷ []) - 1 ≡ length rest = omega (arith, length-append rest (block ∷ [])) in
    sym (ap outer is ∙ ap (λ (n : ℕ). take n (rest ++ block ∷ [])) count ∙ front rest block)

-- the blocks after a name was put into the innermost one, or was not
pub entered-in : (e : Environment) (rest blocks : List OpenBlock) (block : OpenBlock) (symbols : SymbolList) (name : List ℕ) (entry : Entry) (is_new : Bool)
    → e.blocks ≡ rest ++ block ∷ [] → blocks ≡ rest ++ (record { kind = block.kind; symbols = symbols }) ∷ []
    → symbols ≡ cond is_new (block.symbols ++ (name, entry) ∷ []) block.symbols
    → (let new : Environment = record e { blocks = blocks } in new) ≡ cond is_new (with_name e name entry) e
entered-in e rest blocks block symbols name entry true is now entered =
    let last : with_own (innermost e.blocks) name entry ≡ (record { kind = block.kind; symbols = block.symbols ++ (name, entry) ∷ [] }) ∷ [] =
    ap (λ (o : Option OpenBlock). with_own o name entry) (innermost-of e.blocks rest block is) in
    let these : blocks ≡ outer e.blocks ++ with_own (innermost e.blocks) name entry = rw (now, entered, last, ← outer-of e.blocks rest block is) refl in
    ap (λ (b : List OpenBlock). (let new : Environment = record e { blocks = b } in new)) these
entered-in e rest blocks block symbols name entry false is now entered =
    let these : blocks ≡ e.blocks = rw (now, entered, is) refl in
    ap (λ (b : List OpenBlock). (let new : Environment = record e { blocks = b } in new)) these
