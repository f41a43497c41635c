-- How the scope of trees grows while routines are read.
use Rattle.std.proofs.Common.{◌≡◌, ◌⊎◌, inl, inr, ℕ, zero, suc, ◌+◌, ◌==◌, Bool, true, false, List, [], ◌∷◌, ◌++◌, length, map, Option, Some, refl, sym, subst, ap, ◌∙◌, arith, append-nil, append_assoc}
use Rattle.std.specs.Prelude.{slice_get}
use Rattle.std.proofs.lemmas.Option.{slice_get_within}
use Rattle.std.proofs.lemmas.Bool.Decides.{Decides-eqb}
use Rattle.declarations_well_formed.specs.type_layout.declared.definitions.TypeId.{TypeId}
use Rattle.declarations_well_formed.specs.type_layout.declared.definitions.Param.{Param}
use Rattle.declarations_well_formed.specs.type_layout.declared.definitions.TypeDef.{TypeDef}
use Rattle.declarations_well_formed.proofs.type_layout_proofs.Local.{slice_get-append}
use Rattle.declarations_well_formed.specs.typed_tree.declared.units.Routine.{Routine}
use Rattle.declarations_well_formed.specs.typed_tree.type_fits.Routines.{listed, variables_of}
use Rattle.declarations_well_formed.specs.well_formed.Scopes.{Others, Scope, HasType}
use Rattle.declarations_well_formed.specs.well_formed.weakening.Weakening.{AreAmong}
use Rattle.declarations_well_formed.specs.scopes.declared.entries.Entry.{Entry}
use Rattle.declarations_well_formed.specs.scopes.declared.searches.OpenBlock.{OpenBlock}
use Rattle.declarations_well_formed.specs.scopes.Symbols.{SymbolList}
use Rattle.declarations_well_formed.specs.bodies_well_formed.other_units.Known.{opening, first_in, AreNested, IsDeep, EachOf, EachIn}
use Rattle.declarations_well_formed.specs.bodies_well_formed.other_units.Growing.{IsFurther, Extends}
use Rattle.declarations_well_formed.proofs.bodies_well_formed_proofs.other_units.Frames.{level_below, nested_deep, IsOpen, stands, one_depth}
use Rattle.units_well_formed.specs.routines.Reading.{Frame, with_locals, numbers_of, AreThere}
use Rattle.units_well_formed.proofs.routines.Lists.{having, get_with, get_other, same_itself, IsNone, AreBelow}

-- ---- what is supposed of other units

pub among_itself : (others : Others) → AreAmong others others
among_itself others = record { units = λ unit h. h; globals = λ global h. h; routines = λ routine h. h }

pub among_on : (one two three : Others) → AreAmong one two → AreAmong two three → AreAmong one three
among_on one two three h k = record {
  units = λ unit e. k.units unit (h.units unit e);
  globals = λ global e. k.globals global (h.globals global e);
  routines = λ routine e. k.routines routine (h.routines routine e);
}

-- ---- growth

pub further_itself : (one : Routine) → IsFurther one one
further_itself one = record { same = same_itself one; variables = λ number ty e. e }

pub extends_itself : (s : Scope) → Extends s s
extends_itself s = record {
  types = ([], sym (append-nil s.types));
  others = among_itself s.others;
  globals = λ number ty e. e;
  routines = λ number one e. (one, e, further_itself one);
}

pub extends_on : (s t u : Scope) → Extends s t → Extends t u → Extends s u
extends_on s t u h k = record {
  types = (h.types.0 ++ k.types.0, k.types.1 ∙ ap (λ (types : List TypeDef). types ++ k.types.0) h.types.1 ∙ append_assoc s.types h.types.0 k.types.0);
  others = among_on s.others t.others u.others h.others k.others;
  globals = λ number ty e. k.globals number ty (h.globals number ty e);
  routines = λ number one e. (
      let first = h.routines number one e in
      let second = k.routines number first.0 first.1 in (
        second.0,
        second.1,
        record {
          same = record {
            header = first.2.same.header ∙ second.2.same.header;
            owner = first.2.same.owner ∙ second.2.same.owner;
            outer = first.2.same.outer ∙ second.2.same.outer;
            far = first.2.same.far ∙ second.2.same.far;
          };
          variables = λ place ty v. second.2.variables place ty (first.2.variables place ty v);
        },
      ));
}

abbrev pub with_routines : Scope → List Routine → Scope
with_routines s routines = record s { routines = routines }

-- one routine more
pub extends_end : (s : Scope) (one : Routine) → Extends s (with_routines s (s.routines ++ one ∷ []))
extends_end s one = record {
  types = ([], sym (append-nil s.types));
  others = among_itself s.others;
  globals = λ number ty e. e;
  routines = λ number other e. (other, slice_get-append s.routines (one ∷ []) number (slice_get_within s.routines number other e) ∙ e, further_itself other);
}

-- other variables of one routine
pub extends_with : (s : Scope) (number : ℕ) (locals : List TypeId) (one : Routine) → slice_get s.routines number ≡ Some one
    → ((place : ℕ) (ty : TypeId) → slice_get (variables_of one) place ≡ Some ty → slice_get (variables_of (having locals one)) place ≡ Some ty)
    → Extends s (with_routines s (with_locals number locals s.routines))
extends_with s number locals one is keeps = record {
  types = ([], sym (append-nil s.types));
  others = among_itself s.others;
  globals = λ n ty e. e;
  routines = λ n other e. by n other e (number == n) refl;
}
  where
    by : (n : ℕ) (other : Routine) → slice_get s.routines n ≡ Some other → (b : Bool) → (number == n) ≡ b
        → (next : Routine) × (slice_get (with_locals number locals s.routines) n ≡ Some next) × IsFurther other next
    by n other e true b =
        let same : number ≡ n = (Decides-eqb number n).0 b in
        let it : one ≡ other = (let f = subst (λ (m : ℕ). slice_get s.routines m ≡ Some one) same is in cc) in
        let there : slice_get (with_locals number locals s.routines) n ≡ Some (having locals one) =
        subst (λ (m : ℕ). slice_get (with_locals number locals s.routines) m ≡ Some (having locals one)) same (get_with s.routines number locals one is) in (
          having locals one,
          there,
          subst (λ (r : Routine). IsFurther r (having locals one)) it
              (record { same = record { header = refl; owner = refl; outer = refl; far = refl }; variables = keeps }),
        )
    by n other e false b =
        let apart : number ≡ n → ⊥ = λ same. (let yes : (number == n) ≡ true = (Decides-eqb number n).1 same in cc) in
        (other, get_other s.routines number n locals apart ∙ e, further_itself other)

pub variables_end : (one : Routine) (locals : List TypeId) → variables_of (having [] one) ++ locals ≡ variables_of (having locals one)
variables_end one locals =
    let params : List TypeId = map (λ (param : Param). param.ty) one.header.params in
    let own : List TypeId = listed one.owner in
    let result : List TypeId = listed one.header.result in
    append_assoc params (own ++ (result ++ [])) locals
    ∙ ap (λ (rest : List TypeId). params ++ rest) (append_assoc own (result ++ []) locals ∙ ap (λ (rest : List TypeId). own ++ rest) (append_assoc result [] locals))

-- what has no variables of its own keeps those that it has
pub bare_keeps : (locals : List TypeId) (one : Routine) → one.locals ≡ [] → (place : ℕ) (ty : TypeId) → slice_get (variables_of one) place ≡ Some ty → slice_get (variables_of (having locals one)) place ≡ Some ty
bare_keeps locals one none place ty e =
    let bare : variables_of (having [] one) ≡ variables_of one = ap (λ (own : List TypeId). variables_of (having own one)) (sym none) in
    let front : slice_get (variables_of (having [] one)) place ≡ Some ty = subst (λ (these : List TypeId). slice_get these place ≡ Some ty) (sym bare) e in
    let more : variables_of (having locals one) ≡ variables_of (having [] one) ++ locals = sym (variables_end one locals) in
    ap (λ (these : List TypeId). slice_get these place) more
    ∙ slice_get-append (variables_of (having [] one)) locals place (slice_get_within (variables_of (having [] one)) place ty front) ∙ front

-- ---- lists

pub snoc_at : {A : Type 0} → (xs : List A) (y : A) (n : ℕ) (z : A) → slice_get (xs ++ y ∷ []) n ≡ Some z → (slice_get xs n ≡ Some z) ⊎ ((n ≡ length xs) × (y ≡ z))
snoc_at [] y zero z e =
    let same : y ≡ z = cc in
    inr (refl, same)
snoc_at [] y (suc n) z e = let bad : ⊥ = cc in absurd bad
snoc_at (x ∷ xs) y zero z e = inl e
snoc_at (x ∷ xs) y (suc n) z e = by (snoc_at xs y n z e)
  where
    by : (slice_get xs n ≡ Some z) ⊎ ((n ≡ length xs) × (y ≡ z)) → (slice_get xs n ≡ Some z) ⊎ ((suc n ≡ suc (length xs)) × (y ≡ z))
    by (inl f) = inl f
    by (inr f) = inr (ap (λ (m : ℕ). suc m) f.0, f.1)

pub snoc_last : {A : Type 0} → (xs : List A) (y : A) → slice_get (xs ++ y ∷ []) (length xs) ≡ Some y
snoc_last [] y = refl
snoc_last (x ∷ xs) y = snoc_last xs y

-- what follows for each entry
module _ (P Q : List ℕ → Entry → Type 0) (weaker : (around : List ℕ) (one : Entry) → P around one → Q around one) where
  of_weaker : (around : List ℕ) (symbols : SymbolList) → EachOf (P around) symbols → EachOf (Q around) symbols
  of_weaker around [] h = tt
  of_weaker around (one ∷ rest) h = (weaker around one.1 h.0, of_weaker around rest h.1)

  pub each_weaker : (around : List ℕ) (blocks : List OpenBlock) → EachIn P around blocks → EachIn Q around blocks
  each_weaker around [] h = tt
  each_weaker around (one ∷ blocks) h = (of_weaker (opening one.kind around) one.symbols h.0, each_weaker (opening one.kind around) blocks h.1)

-- ---- frames

-- types that are there stay there
pub there_kept : (s t : Scope) (frames : List Frame) → ((ty : TypeId) → HasType s ty → HasType t ty) → AreThere s frames → AreThere t frames
there_kept s t [] kept h = tt
there_kept s t (one ∷ frames) kept h = (λ place ty e. kept ty (h.0 place ty e), there_kept s t frames kept h.1)

-- open routines are routines
pub nested_below : (routines : List Routine) (frames : List Frame) → AreNested routines (numbers_of frames) → AreBelow (length routines) frames
nested_below routines [] h = tt
nested_below routines (one ∷ frames) h = (slice_get_within routines one.number h.0.0 h.0.1, nested_below routines frames h.1)

open_none : (frames : List Frame) (number : ℕ) → (IsOpen (numbers_of frames) number → ⊥) → IsNone number frames
open_none [] number never = tt
open_none (one ∷ frames) number never = (λ same. never (inl same), open_none frames number (λ k. never (inr k)))

-- what is declared in the innermost block is none of the routines round it
pub not_open : (routines : List Routine) (frames : List Frame) (number : ℕ) (one : Routine) → AreNested routines (numbers_of frames) → slice_get routines number ≡ Some one → one.outer ≡ first_in (numbers_of frames)
    → IsNone number frames
not_open routines frames number one nested is outer = open_none frames number never
  where
    never : IsOpen (numbers_of frames) number → ⊥
    never k =
        let place = stands routines (numbers_of frames) number nested k in
        let same : place.one ≡ one = (let e = place.is in cc) in
        let deep : IsDeep routines (length (numbers_of frames)) place.one.outer =
        subst (λ (o : Option ℕ). IsDeep routines (length (numbers_of frames)) o) (sym (ap (λ (r : Routine). r.outer) same ∙ outer)) (nested_deep routines (numbers_of frames) nested) in
        let level : place.level ≡ length (numbers_of frames) = one_depth routines place.level (length (numbers_of frames)) place.one.outer place.deep deep in
        let below = level_below (numbers_of frames) (place.level + 1) number place.at in
        omega (arith, level, below)
