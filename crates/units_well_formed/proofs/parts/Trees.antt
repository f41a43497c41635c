-- The trees of a unit while it is read, with further types, variables and routines.
use Rattle.std.proofs.Common.{◌≡◌, ℕ, zero, suc, ◌+◌, ◌<◌, ◌≤◌, ◌==◌, Bool, true, cond, List, [], ◌∷◌, ◌++◌, length, map, Some, refl, sym, subst, ap, ◌∙◌, arith, length-append, append_assoc, append-nil}
use Rattle.std.specs.Prelude.{slice_get}
use Rattle.std.proofs.lemmas.List.{length-map}
use Rattle.std.proofs.lemmas.Option.{slice_get_within}
use Rattle.std.proofs.lemmas.Bool.Decides.{Decides-eqb}
use Rattle.declarations_well_formed.specs.type_layout.declared.definitions.TypeId.{TypeId}
use Rattle.declarations_well_formed.specs.type_layout.declared.definitions.Param.{Param}
use Rattle.declarations_well_formed.specs.type_layout.declared.definitions.TypeDef.{TypeDef}
use Rattle.declarations_well_formed.proofs.type_layout_proofs.Local.{slice_get-append}
use Rattle.declarations_well_formed.specs.typed_tree.declared.units.Global.{Global}
use Rattle.declarations_well_formed.specs.typed_tree.declared.units.Routine.{Routine}
use Rattle.declarations_well_formed.specs.typed_tree.type_fits.Routines.{listed, variables_of}
use Rattle.declarations_well_formed.specs.well_formed.Scopes.{Others, Scope}
use Rattle.declarations_well_formed.specs.well_formed.weakening.Weakening.{AreAmong}
use Rattle.declarations_well_formed.specs.tp_check_decl.routines.Drafts.{Numbered}
use Rattle.declarations_well_formed.proofs.rules_well_formed_proofs.nodes.Fields.{get-append}
use Rattle.declarations_well_formed.specs.bodies_well_formed.other_units.Known.{at_level}
use Rattle.declarations_well_formed.specs.bodies_well_formed.other_units.Growing.{Extends}
use Rattle.units_well_formed.specs.routines.Reading.{tree_of, Frame, with_locals, trees_of, variables_before}
use Rattle.units_well_formed.proofs.routines.Lists.{having, get_with, trees_length, AreBelow, trees_end, IsFirst, trees_at}
use Rattle.units_well_formed.proofs.routines.Steps.{further_itself, with_routines, extends_with, variables_end}
use Rattle.units_well_formed.proofs.parts.Methods.{some_at}

-- ---- lists

pub get_front : {A : Type 0} → (xs ys : List A) (k : ℕ) (x : A) → slice_get xs k ≡ Some x → slice_get (xs ++ ys) k ≡ Some x
get_front xs ys k x e = slice_get-append xs ys k (slice_get_within xs k x e) ∙ e

pub global_at : (all : List Global) (k : ℕ) (one : Global) → slice_get all k ≡ Some one → slice_get (map (λ (global : Global). global.ty) all) k ≡ Some one.ty
global_at [] zero one e = let bad : ⊥ = cc in absurd bad
global_at [] (suc k) one e = let bad : ⊥ = cc in absurd bad
global_at (first ∷ rest) zero one e =
    let same : first ≡ one = cc in
    ap (λ (x : Global). Some x.ty) same
global_at (first ∷ rest) (suc k) one e = global_at rest k one e

globals_front : (xs ys : List Global) (k : ℕ) (ty : TypeId) → slice_get (map (λ (global : Global). global.ty) xs) k ≡ Some ty → slice_get (map (λ (global : Global). global.ty) (xs ++ ys)) k ≡ Some ty
globals_front [] ys zero ty e = let bad : ⊥ = cc in absurd bad
globals_front [] ys (suc k) ty e = let bad : ⊥ = cc in absurd bad
globals_front (first ∷ xs) ys zero ty e = e
globals_front (first ∷ xs) ys (suc k) ty e = globals_front xs ys k ty e

-- ---- routines more

pub trees_more : (routines news : List Numbered) (frames : List Frame) → AreBelow (length routines) frames → trees_of (routines ++ news) frames ≡ trees_of routines frames ++ map tree_of news
trees_more routines [] frames h = ap (λ (rs : List Numbered). trees_of rs frames) (append-nil routines) ∙ sym (append-nil (trees_of routines frames))
trees_more routines (one ∷ news) frames h =
    let count : length (routines ++ one ∷ []) ≡ length routines + 1 = length-append routines (one ∷ []) in
    ap (λ (rs : List Numbered). trees_of rs frames) (sym (append_assoc routines (one ∷ []) news))
    ∙ trees_more (routines ++ one ∷ []) news frames (below_more frames (length routines) (length (routines ++ one ∷ [])) (omega (arith, count)) h)
    ∙ ap (λ (rs : List Routine). rs ++ map tree_of news) (trees_end routines frames one h)
    ∙ append_assoc (trees_of routines frames) (tree_of one ∷ []) (map tree_of news)
  where
    below_more : (these : List Frame) (n m : ℕ) → n ≤ m → AreBelow n these → AreBelow m these
    below_more [] n m l k = tt
    below_more (first ∷ rest) n m l k = ((let low = k.0 in omega (arith, low, l)), below_more rest n m l k.1)

-- each tree is that of a routine
pub trees_back : (routines : List Numbered) (frames : List Frame) (number : ℕ) (tree : Routine) → slice_get (trees_of routines frames) number ≡ Some tree
    → (one : Numbered) × (slice_get routines number ≡ Some one) × IsFirst one tree
trees_back routines frames number tree e =
    let low = slice_get_within (trees_of routines frames) number tree e in
    let count = trees_length routines frames in
    let one = some_at routines number (omega (arith, low, count)) in
    let it = trees_at routines frames number one.0 one.1 in
    let same : it.0 ≡ tree = (let f = it.1 in cc) in
    (one.0, one.1, subst (λ (r : Routine). IsFirst one.0 r) same it.2)

-- ---- variables more of the innermost block

with_twice : (routines : List Routine) (number : ℕ) (locals others : List TypeId) → with_locals number others (with_locals number locals routines) ≡ with_locals number others routines
with_twice [] number locals others = refl
with_twice (first ∷ rest) zero locals others = refl
with_twice (first ∷ rest) (suc number) locals others = ap (λ (these : List Routine). first ∷ these) (with_twice rest number locals others)

further_keeps : (locals back : List TypeId) (one : Routine) (place : ℕ) (ty : TypeId) → slice_get (variables_of (having locals one)) place ≡ Some ty → slice_get (variables_of (having (locals ++ back) one)) place ≡ Some ty
further_keeps locals back one place ty e =
    let bare : List TypeId = variables_of (having [] one) in
    let less : variables_of (having locals one) ≡ bare ++ locals = sym (variables_end one locals) in
    let more : variables_of (having (locals ++ back) one) ≡ (bare ++ locals) ++ back = sym (variables_end one (locals ++ back)) ∙ sym (append_assoc bare locals back) in
    ap (λ (types : List TypeId). slice_get types place) more
    ∙ get_front (bare ++ locals) back place ty (ap (λ (types : List TypeId). slice_get types place) (sym less) ∙ e)

pub extends_inner : (s : Scope) (number : ℕ) (locals back : List TypeId) (routines : List Routine) → s.routines ≡ with_locals number locals routines → number < length routines
    → Extends s (with_routines s (with_locals number (locals ++ back) routines))
extends_inner s number locals back routines is low =
    let one = some_at routines number low in
    let there : slice_get s.routines number ≡ Some (having locals one.0) = ap (λ (rs : List Routine). slice_get rs number) is ∙ get_with routines number locals one.0 one.1 in
    let it = extends_with s number (locals ++ back) (having locals one.0) there (λ place ty e. further_keeps locals back one.0 place ty e) in
    let same : with_locals number (locals ++ back) s.routines ≡ with_locals number (locals ++ back) routines =
    ap (λ (rs : List Routine). with_locals number (locals ++ back) rs) is ∙ with_twice routines number locals (locals ++ back) in
    subst (λ (rs : List Routine). Extends s (with_routines s rs)) same it

-- ---- all of it

pub extends_part : (s : Scope) (types back : List TypeDef) (others : Others) (xs ys : List Global) (routines : List Routine) → types ≡ s.types ++ back → AreAmong s.others others → s.globals ≡ map (λ (global : Global). global.ty) xs
    → Extends s (record s { types = types; others = others; globals = map (λ (global : Global). global.ty) (xs ++ ys); routines = s.routines ++ routines })
extends_part s types back others xs ys routines t o g = record {
  types = (back, t);
  others = o;
  globals = λ number ty e. globals_front xs ys number ty (subst (λ (l : List TypeId). slice_get l number ≡ Some ty) g e);
  routines = λ number one e. (one, get_front s.routines routines number one e, further_itself one);
}

-- ---- variables of the innermost block

-- the routine of the innermost block has its level
pub at_top : (number : ℕ) (around : List ℕ) → at_level (number ∷ around) (suc (length around)) ≡ Some number
at_top number around =
    let next : suc (length around) ≡ length around + 1 = omega arith in
    let yes : (suc (length around) == length around + 1) ≡ true = (Decides-eqb (suc (length around)) (length around + 1)).1 next in
    ap (λ (b : Bool). cond b (Some number) (at_level around (suc (length around)))) yes

-- what a block declares stands behind the variables before it
pub local_at : (one : Routine) (place : ℕ) (ty : TypeId) → slice_get one.locals place ≡ Some ty → slice_get (variables_of one) (variables_before one + place) ≡ Some ty
local_at one place ty e =
    let params : List TypeId = map (λ (param : Param). param.ty) one.header.params in
    let owner : List TypeId = listed one.owner in
    let result : List TypeId = listed one.header.result in
    let count = length-map one.header.params (λ (param : Param). param.ty) in
    let where_it : variables_before one + place ≡ length params + (length owner + (length result + place)) = omega (arith, count) in
    ap (λ (n : ℕ). slice_get (variables_of one) n) where_it
    ∙ get-append params (owner ++ (result ++ one.locals)) (length owner + (length result + place))
    ∙ get-append owner (result ++ one.locals) (length result + place)
    ∙ get-append result one.locals place
    ∙ e
