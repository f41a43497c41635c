-- How many variables each block of a source declares.
use Rattle.std.specs.Prelude.{◌<◌, ◌^◌}
use Rattle.source_graph.specs.syntax_tree.declared.source_tree.source.Tree.{Tree}
use Rattle.source_graph.specs.syntax_tree.declared.source_tree.source.Tree.TheVariants as t
use Rattle.units_well_formed.specs.tp_check_decl.routines.Trees.{Work, Works, forward, plain, method, no_works, and_part, and_work, view_declarations}
use Rattle.units_well_formed.specs.units.Below.{variables_in}
use Rattle.units_well_formed.specs.units.Begun.{interface_variables}

abbrev mutual
  -- no more variables than are numbered in the block of the routine, nor in one inside it
  pub HasFewInside : Work → Type 0
  HasFewInside (forward one) = Unit {0}
  HasFewInside (plain one all body) = (variables_in all < 2 ^ 31) × EachHasFew all
  HasFewInside (method one owner all body) = (variables_in all < 2 ^ 31) × EachHasFew all

  -- the same of each routine of a block
  pub EachHasFew : Works → Type 0
  EachHasFew no_works = Unit {0}
  EachHasFew (and_part one rest) = EachHasFew rest
  EachHasFew (and_work one rest) = HasFewInside one × EachHasFew rest

-- a block, and each inside it
abbrev pub HasFew : Works → Type 0
HasFew all = (variables_in all < 2 ^ 31) × EachHasFew all

-- no block of a source declares more variables than are numbered, nor does its interface part
abbrev pub HasFewVariables : Tree → Type 0
HasFewVariables (t.Program heading uses all body) = HasFew (view_declarations all.items)
HasFewVariables (t.Unit here own uses outer interface all body) = (interface_variables interface.items < 2 ^ 31) × HasFew (view_declarations all.items)
