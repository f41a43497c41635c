-- What sources keep of statements: their literals, and how deep `with`s stand inside one another.
use Rattle.std.specs.Prelude.{ℕ, ◌+◌, max}
use Rattle.tp_check_stmt.specs.syntax_tree.statement_tree.Trees.{Task, Tasks, Branches, empty, assignment, run, compound, choice, selection, while_loop, repeat_loop, for_loop, opened, no_tasks, and_task, no_branches, and_branch}
use Rattle.bodies_well_formed.specs.expressions.Literals.{AreLiterals, AreInOperands}

-- each literal in the expressions is one; labels, which are constants, ask nothing
abbrev mutual
  pub HasLiterals : Task → Type 0
  HasLiterals empty = Unit {0}
  HasLiterals (assignment here to from) = AreLiterals to × AreLiterals from
  HasLiterals (run here callee given) = AreLiterals callee × AreInOperands given
  HasLiterals (compound all) = HaveLiterals all
  HasLiterals (choice here test then other) = AreLiterals test × HasLiterals then × HasLiterals other
  HasLiterals (selection here by branches other) = AreLiterals by × HaveInBranches branches × HaveLiterals other
  HasLiterals (while_loop here test body) = AreLiterals test × HasLiterals body
  HasLiterals (repeat_loop here all test) = HaveLiterals all × AreLiterals test
  HasLiterals (for_loop here at word first way last body) = AreLiterals first × AreLiterals last × HasLiterals body
  HasLiterals (opened here designator body) = AreLiterals designator × HasLiterals body

  pub HaveLiterals : Tasks → Type 0
  HaveLiterals no_tasks = Unit {0}
  HaveLiterals (and_task one rest) = HasLiterals one × HaveLiterals rest

  pub HaveInBranches : Branches → Type 0
  HaveInBranches no_branches = Unit {0}
  HaveInBranches (and_branch labels body rest) = HasLiterals body × HaveInBranches rest

-- how many `with`s stand inside one another at most
abbrev mutual
  pub depth_of : Task → ℕ
  depth_of empty = 0
  depth_of (assignment here to from) = 0
  depth_of (run here callee given) = 0
  depth_of (compound all) = depth_in all
  depth_of (choice here test then other) = max (depth_of then) (depth_of other)
  depth_of (selection here by branches other) = max (depth_among branches) (depth_in other)
  depth_of (while_loop here test body) = depth_of body
  depth_of (repeat_loop here all test) = depth_in all
  depth_of (for_loop here at word first way last body) = depth_of body
  depth_of (opened here designator body) = depth_of body + 1

  pub depth_in : Tasks → ℕ
  depth_in no_tasks = 0
  depth_in (and_task one rest) = max (depth_of one) (depth_in rest)

  pub depth_among : Branches → ℕ
  depth_among no_branches = 0
  depth_among (and_branch labels body rest) = max (depth_of body) (depth_among rest)
