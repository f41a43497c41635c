-- Literals as sources spell them.
use Rattle.std.specs.Prelude.{ℕ, ◌<◌, ◌≤◌, IsTrue, bit_xor, All, List, [], ◌∷◌, length}
use Rattle.tp_check_stmt.specs.type_layout.declared.definitions.Host.TheVariants as host
use Rattle.tp_check_stmt.specs.type_layout.Storage.{holds}
use Rattle.tp_check_stmt.specs.syntax_tree.expression_tree.Trees.{Tree, Listed, Elements, Operand, Operands, number, text, control, nil, set, call, signed, negated, combined, name, field, index, followed, single, span, no_elements, and_element, plain, wide, no_operands, and_operand}

-- at most 255 bytes
pub record IsText (bytes : List ℕ) : Type 0 where
  pub short : length bytes ≤ 255
  pub each : All (λ (byte : ℕ). byte < 256) bytes

-- the control character of a letter is a byte
abbrev pub IsLetter : List ℕ → Type 0
IsLetter (letter ∷ []) = bit_xor letter 64 < 256
IsLetter bytes = IsText bytes

abbrev mutual
  -- each number has 32 bits, and each text is one
  pub AreLiterals : Tree → Type 0
  AreLiterals (number place n) = IsTrue (holds host.LongInt n n)
  AreLiterals (text place bytes) = IsText bytes
  AreLiterals (control place letter) = IsLetter letter
  AreLiterals (nil place) = Unit {0}
  AreLiterals (set here listed) = AreInElements listed
  AreLiterals (call here callee given) = AreLiterals callee × AreInOperands given
  AreLiterals (signed mark a) = AreLiterals a
  AreLiterals (negated place a) = AreLiterals a
  AreLiterals (combined here op a b) = AreLiterals a × AreLiterals b
  AreLiterals (name here word) = Unit {0}
  AreLiterals (field here a word) = AreLiterals a
  AreLiterals (index here a i) = AreLiterals a × AreLiterals i
  AreLiterals (followed place a) = AreLiterals a

  pub AreInListed : Listed → Type 0
  AreInListed (single a) = AreLiterals a
  AreInListed (span a b) = AreLiterals a × AreLiterals b

  pub AreInElements : Elements → Type 0
  AreInElements no_elements = Unit {0}
  AreInElements (and_element one rest) = AreInListed one × AreInElements rest

  pub AreInOperand : Operand → Type 0
  AreInOperand (plain a) = AreLiterals a
  AreInOperand (wide a width) = AreLiterals a × AreLiterals width

  pub AreInOperands : Operands → Type 0
  AreInOperands no_operands = Unit {0}
  AreInOperands (and_operand one rest) = AreInOperand one × AreInOperands rest
