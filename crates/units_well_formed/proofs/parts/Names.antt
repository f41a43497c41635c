-- Names that a part puts into the innermost block.
use Rattle.std.proofs.Common.{◌≡◌, ℕ, List, [], ◌∷◌, refl, sym, subst, ◌∙◌}
use Rattle.declarations_well_formed.specs.well_formed.Scopes.{Scope}
use Rattle.declarations_well_formed.specs.scopes.declared.entries.Entry.{Entry}
use Rattle.declarations_well_formed.specs.scopes.Symbols.{SymbolList}
use Rattle.declarations_well_formed.specs.scopes.Environment.{Environment, with_name}
use Rattle.declarations_well_formed.specs.bodies_well_formed.other_units.Known.{open_in, IsEntry, EachOf, EachIn, AreKnown}
use Rattle.declarations_well_formed.proofs.bodies_well_formed_proofs.other_units.Entering.{named_known, named_open, named_each}
use Rattle.declarations_well_formed.specs.names.Declaring.{with_names}
use Rattle.units_well_formed.specs.routines.Reading.{IsBottom}
use Rattle.units_well_formed.proofs.routines.Bottoms.{named_bottom}

pub names_open : (g : Environment) (names : SymbolList) → open_in (with_names g names) ≡ open_in g
names_open g [] = refl
names_open g (one ∷ rest) = names_open (with_name g one.0 one.1) rest ∙ named_open g one.0 one.1

pub names_known : (g : Environment) (s : Scope) (names : SymbolList) → AreKnown g s → EachOf (IsEntry s (open_in g)) names → AreKnown (with_names g names) s
names_known g s [] h k = h
names_known g s (one ∷ rest) h k =
    names_known (with_name g one.0 one.1) s rest (named_known g s one.0 one.1 h k.0) (subst (λ (o : List ℕ). EachOf (IsEntry s o) rest) (sym (named_open g one.0 one.1)) k.1)

pub names_each : (P : List ℕ → Entry → Type 0) (g : Environment) (names : SymbolList) → EachIn P [] g.blocks → EachOf (P (open_in g)) names → EachIn P [] (with_names g names).blocks
names_each P g [] h k = h
names_each P g (one ∷ rest) h k =
    names_each P (with_name g one.0 one.1) rest (named_each g one.0 one.1 P h k.0) (subst (λ (o : List ℕ). EachOf (P o) rest) (sym (named_open g one.0 one.1)) k.1)

pub names_bottom : (g : Environment) (names : SymbolList) (count : ℕ) → IsBottom g.blocks count → IsBottom (with_names g names).blocks count
names_bottom g [] count h = h
names_bottom g (one ∷ rest) count h = names_bottom (with_name g one.0 one.1) rest count (named_bottom g one.0 one.1 count h)

-- what follows for each name
pub each_for : (P Q : Entry → Type 0) → ((one : Entry) → P one → Q one) → (names : SymbolList) → EachOf P names → EachOf Q names
each_for P Q follows [] h = tt
each_for P Q follows (one ∷ rest) h = (follows one.1 h.0, each_for P Q follows rest h.1)
