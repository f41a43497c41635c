-- Names of constants mean values of their types, also with one name or block more, and with one block less.
use Rattle.std.proofs.Common.{ℕ, List, []}
use Rattle.declarations_well_formed.specs.scopes.declared.entries.Entry.{Entry}
use Rattle.declarations_well_formed.specs.scopes.declared.entries.BlockKind.{BlockKind}
use Rattle.declarations_well_formed.specs.scopes.declared.searches.OpenBlock.{OpenBlock}
use Rattle.declarations_well_formed.specs.scopes.Environment.{Environment, with_name, with_block, without_block}
use Rattle.declarations_well_formed.specs.values.Values.{IsConstantIn, HasValues}
use Rattle.declarations_well_formed.proofs.bodies_well_formed_proofs.other_units.Entering.{blocks_join, named_each, closed_each}

pub named_values : (g : Environment) (name : List ℕ) (one : Entry) → HasValues g → IsConstantIn g.types.types one → HasValues (with_name g name one)
named_values g name one h k = record {
  predeclared = h.predeclared;
  used = h.used;
  blocks = named_each g name one (λ (around : List ℕ) (x : Entry). IsConstantIn g.types.types x) h.blocks k;
}

pub opened_values : (g : Environment) (kind : BlockKind) → HasValues g → HasValues (with_block g kind)
opened_values g kind h =
    let new : OpenBlock = record { kind = kind; symbols = [] } in
    record {
      predeclared = h.predeclared;
      used = h.used;
      blocks = blocks_join (λ (around : List ℕ) (x : Entry). IsConstantIn g.types.types x) [] g.blocks new h.blocks tt;
    }

pub closed_values : (g : Environment) → HasValues g → HasValues (without_block g)
closed_values g h = record {
  predeclared = h.predeclared;
  used = h.used;
  blocks = closed_each g (λ (around : List ℕ) (x : Entry). IsConstantIn g.types.types x) h.blocks;
}
