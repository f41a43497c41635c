-- What is found by the class of an instance, as flat code: a method, and the size. An instance's class field holds the offset of its virtual method table in the data segment, and one more; 0 names no class.
use Rattle.std.specs.Prelude.{pos, negsuc, Some, true}
use Rattle.flat_code.specs.declared.tree.Address.TheVariants.{Local, Through}
use Rattle.flat_code.specs.declared.tree.FlatOp.TheVariants as op
use Rattle.flat_code.specs.Tree.{Expr, Number, Word, Op, Error, Code, End, Do, If}
use Rattle.flat_code.specs.Program.{Routine}
use Rattle.runtime_proofs.specs.string_loops.Pieces.{word, set_word, raise}
use Rattle.rt_strings.specs.set_relations.Routines.{function_of}

-- ---- a method: the instance at 14 and 12, how far its class field lies in it at 10, how far the method's far pointer lies in the table at 8, and the data segment at 6; at -2 and -4 a pointer to that far pointer, and at -6 and -8 the method

abbrev pub class_of_method : Expr
class_of_method = Word (Through (pos 12) 0)

abbrev pub method_code : Code
method_code =
    raise (pos 12) (word (pos 10))
    (If class_of_method End (Do (Error 210) End)
    (set_word (negsuc 1) (word (pos 6))
    (set_word (negsuc 3) (Op op.Add (Op op.Sub class_of_method (Number 1)) (word (pos 8)))
    (set_word (negsuc 7) (Word (Through (negsuc 3) 0))
    (set_word (negsuc 5) (Word (Through (negsuc 3) 2))
    End)))))

abbrev pub method_routine : Routine
method_routine = record { far = true; arguments = 10; locals = 8; frame = 0; result = Some (record { at = Local (negsuc 7); bytes = 4 }); body = method_code }

-- ---- the size, the first word of a table: the instance at 12 and 10, how far its class field lies in it at 8, and the data segment at 6; at -2 and -4 a pointer to the table, and at -2 the size

abbrev pub class_size_code : Code
class_size_code =
    raise (pos 10) (word (pos 8))
    (set_word (negsuc 1) (word (pos 6))
    (set_word (negsuc 3) (Op op.Sub (Word (Through (pos 10) 0)) (Number 1))
    (set_word (negsuc 1) (Word (Through (negsuc 3) 0))
    End)))

abbrev pub class_size_routine : Routine
class_size_routine = function_of 8 4 class_size_code
