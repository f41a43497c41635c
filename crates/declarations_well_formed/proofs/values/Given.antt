-- What a part adds is there.
use Rattle.std.proofs.Common.{ℕ, ◌<◌, List, [], ◌∷◌, length, subst}
use Rattle.bodies_well_formed.specs.type_layout.declared.definitions.TypeId.{TypeId}
use Rattle.bodies_well_formed.specs.scopes.declared.entries.Entry.{Entry}
use Rattle.bodies_well_formed.specs.scopes.declared.entries.Entry.TheVariants as entry
use Rattle.bodies_well_formed.specs.scopes.declared.searches.OpenBlock.{OpenBlock}
use Rattle.bodies_well_formed.specs.scopes.Symbols.{SymbolList}
use Rattle.bodies_well_formed.specs.scopes.Environment.{Environment}
use Rattle.imported_types_agree.specs.declaration_checker.declared.declarations.homes.Home.{Home}
use Rattle.imported_types_agree.specs.declaration_checker.declarations.Progress.{Progress}
use Rattle.bodies_well_formed.specs.rules_well_formed.nodes.Tables.{IsInTable}
use Rattle.bodies_well_formed.proofs.rules_well_formed_proofs.nodes.Fields.{some_within}
use Rattle.imported_types_agree.specs.tables_closed.constants.Bounds.{AreBelow, in_entry, in_names, in_open}
use Rattle.imported_types_agree.proofs.tables_closed_proofs.constants.Below.{below_first, below_last}
use Rattle.imported_types_agree.specs.tables_closed.types.WellScoped.{StayWellScoped}
use Rattle.bodies_well_formed.specs.other_units.Known.{opening, EachOf, EachIn}
use Rattle.declarations_well_formed.specs.names.Declaring.{typing}
use Rattle.declarations_well_formed.specs.parts.Declaring.{IsDeclaredIn, AreDeclaredIn}
use Rattle.declarations_well_formed.proofs.parts.Parts.{part_adds}
use Rattle.declarations_well_formed.specs.values.Values.{IsConstantIn, IsGivenIn}
use Rattle.declarations_well_formed.specs.values.Laws.{ValueLaw}
use Rattle.declarations_well_formed.proofs.values.Each.{Anywhere, new_each}
use Rattle.declarations_well_formed.proofs.values.Ready.{IsReady, ready_sound}
use Rattle.declarations_well_formed.proofs.values.Steps.{part_ready}

module _ (n : ℕ) where
  abbrev IsBelow : Entry → Type 0
  IsBelow one = AreBelow n (in_entry one)

  pub below_names : (names : SymbolList) → AreBelow n (in_names names) → EachOf IsBelow names
  below_names [] h = tt
  below_names (one ∷ rest) h = (below_first n (in_entry one.1) (in_names rest) h, below_names rest (below_last n (in_entry one.1) (in_names rest) h))

  below_blocks : (around : List ℕ) (blocks : List OpenBlock) → AreBelow n (in_open blocks) → EachIn (Anywhere IsBelow) around blocks
  below_blocks around [] h = tt
  below_blocks around (one ∷ blocks) h =
      (below_names one.symbols (below_first n (in_names one.symbols) (in_open blocks) h), below_blocks (opening one.kind around) blocks (below_last n (in_names one.symbols) (in_open blocks) h))

module _ (where_at : Home) (q : Progress) where
  in_table : (ty : TypeId) → ty.0 < length q.scope.types.types → IsInTable q.scope.types.types ty
  in_table ty low = some_within q.scope.types.types ty.0 low

  given : (one : Entry) → IsDeclaredIn where_at q one → AreBelow (length q.scope.types.types) (in_entry one) → IsConstantIn q.scope.types.types one → IsGivenIn where_at q one
  given (entry.Ty ty) d low constant = in_table ty low.0
  given (entry.Const ty v) d low constant = constant
  given (entry.Var unit level number ty) d low constant = (in_table ty low.0, d.0, d.1)
  given one d low constant = absurd d

  all_given : (names : SymbolList) → AreDeclaredIn where_at q names → EachOf (IsBelow (length q.scope.types.types)) names → EachOf (IsConstantIn q.scope.types.types) names → EachOf (IsGivenIn where_at q) names
  all_given [] d low constants = tt
  all_given (one ∷ rest) d low constants = (given one.1 d.0 low.0 constants.0, all_given rest d.1 low.1 constants.1)

pub part_gives : StayWellScoped → ValueLaw
part_gives closing unit where_at next p q one k some begins closed values literals fit =
    let before : IsReady p.scope = record { begins = begins; closed = closed; values = values } in
    let ready = part_ready closing unit where_at next p q one k before literals fit in
    let adds = part_adds unit where_at next p q one k in
    let n = length q.scope.types.types in
    let below = below_blocks n [] q.scope.blocks ready.closed.blocks in
    let low = new_each (IsBelow n) (typing p.scope q.scope.types) adds.names some (subst (λ (g : Environment). EachIn (Anywhere (IsBelow n)) [] g.blocks) adds.whole below) in
    let constants = new_each (IsConstantIn q.scope.types.types) (typing p.scope q.scope.types) adds.names some
    (subst (λ (g : Environment). EachIn (Anywhere (IsConstantIn q.scope.types.types)) [] g.blocks) adds.whole ready.values.blocks) in
    record {
      names = adds.names;
      whole = adds.whole;
      types = adds.types;
      globals = adds.globals;
      locals = adds.locals;
      known = all_given where_at q adds.names adds.known low constants;
      sound = ready_sound q.scope ready fit;
      closed = ready.closed;
      values = ready.values;
    }
