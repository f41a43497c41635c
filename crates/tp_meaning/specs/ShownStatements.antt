-- Examples of ordinals, operators and statements.
use Rattle.std.specs.Prelude.{◌≡◌, ℕ, true, false, ℤ, pos, negsuc, [], ◌∷◌, codes}
use Rattle.common_values.specs.behaviour.Seen.{Seen, Ended, Going, Undefined, Stopped}
use Rattle.typed_tree.specs.declared.expressions.Value.TheVariants as constant
use Rattle.typed_tree.specs.declared.expressions.UnaryOp.TheVariants as one
use Rattle.typed_tree.specs.declared.expressions.BinaryOp.TheVariants as two
use Rattle.typed_tree.specs.Expressions.{Const, Unary, Binary, Convert, Range}
use Rattle.typed_tree.specs.Statements.{Assign, While, Repeat, Case, For, Halt, Exit, NoArms, Branch}
use Rattle.tp_meaning.specs.Examples.{integer, boolean, id, shown, ends, error_line, variable, var, load, int, number, on, chars, write, block, truth_of}

-- i := -7; Write(i div 2, ' ', i mod 2); i := -32768; Write(' ', i div -1)
abbrev pub division : Seen
division = shown (integer ∷ []) (block (
    Assign (var 0) (number (negsuc 6))
    ∷ write (on two.Divide (int 0) (number (pos 2)) ∷ chars (codes " ") ∷ on two.Modulo (int 0) (number (pos 2)) ∷ [])
    ∷ Assign (var 0) (number (negsuc 32767))
    ∷ write (chars (codes " ") ∷ on two.Divide (int 0) (number (negsuc 0)) ∷ [])
    ∷ [])) [] 0

-- i := 32767; i := i + 1; Write(i)
abbrev pub wrapping : Seen
wrapping = shown (integer ∷ []) (block (
    Assign (var 0) (number (pos 32767))
    ∷ Assign (var 0) (on two.Add (int 0) (number (pos 1)))
    ∷ write (int 0 ∷ [])
    ∷ [])) [] 0

-- w := 65535; i := -1; Write(w = i), compared as LongInts
abbrev pub common : Seen
common = shown (id 4 ∷ integer ∷ []) (block (
    Assign (var 0) (Const (id 4) (constant.Number (pos 65535)))
    ∷ Assign (var 1) (number (negsuc 0))
    ∷ write (truth_of two.Equal (Convert (id 5) (load (id 4) 0)) (Convert (id 5) (int 1)) ∷ [])
    ∷ [])) [] 0

-- Write(1 shl 15, ' ', -1 shr 15, ' ', not 5, ' ', 12 xor 10)
abbrev pub bits : Seen
bits = shown [] (write (
    on two.ShiftLeft (number (pos 1)) (number (pos 15)) ∷ chars (codes " ")
    ∷ on two.ShiftRight (number (negsuc 0)) (number (pos 15)) ∷ chars (codes " ")
    ∷ Unary integer one.Not (number (pos 5)) ∷ chars (codes " ")
    ∷ on two.Xor (number (pos 12)) (number (pos 10)) ∷ [])) [] 0

-- i := 0; Write(1 div i)
abbrev pub by_zero : Seen
by_zero = shown (integer ∷ []) (block (Assign (var 0) (number (pos 0)) ∷ write (on two.Divide (number (pos 1)) (int 0) ∷ []) ∷ [])) [] 0

-- the left side decides, and the right one divides by 0; evaluated whole it is an error
abbrev pub early : Seen
early = shown [] (write (Binary boolean two.And (Const boolean (constant.Number (pos 0))) (truth_of two.Equal (on two.Divide (number (pos 1)) (number (pos 0))) (number (pos 1))) true ∷ [])) [] 0

abbrev pub late : Seen
late = shown [] (write (Binary boolean two.And (Const boolean (constant.Number (pos 0))) (truth_of two.Equal (on two.Divide (number (pos 1)) (number (pos 0))) (number (pos 1))) false ∷ [])) [] 0

-- a Boolean whose byte is 2 is true, and `and` makes it 1
abbrev pub byte_two : Seen
byte_two = shown [] (write (
    Convert boolean (number (pos 2))
    ∷ Convert integer (Convert boolean (number (pos 2)))
    ∷ Convert integer (Binary boolean two.And (Convert boolean (number (pos 2))) (Convert boolean (number (pos 2))) true) ∷ [])) [] 0

-- a value past its range
abbrev pub past_range : Seen
past_range = shown (integer ∷ []) (block (write (chars (codes "a") ∷ []) ∷ Assign (var 0) (Range integer (number (pos 6)) (pos 1) (pos 5)) ∷ [])) [] 0

-- Write('q'); Write(i), where i is unset
abbrev pub unset_read : Seen
unset_read = shown (integer ∷ []) (block (write (chars (codes "q") ∷ []) ∷ write (int 0 ∷ []) ∷ [])) [] 0

-- for i := 1 to 3 do Write(i)
abbrev pub counting : ℕ → Seen
counting turns = shown (integer ∷ []) (For (variable 0) integer (number (pos 1)) (number (pos 3)) false false (write (int 0 ∷ []))) [] turns

-- for i := 2 downto 1 do Write(i); Write(i)
abbrev pub after_loop : Seen
after_loop = shown (integer ∷ []) (block (For (variable 0) integer (number (pos 2)) (number (pos 1)) true false (write (int 0 ∷ [])) ∷ write (int 0 ∷ []) ∷ [])) [] 9

-- i := 7; for i := 2 to 1 do Write('x'); Write(i)
abbrev pub no_turn : Seen
no_turn = shown (integer ∷ []) (block (
    Assign (var 0) (number (pos 7))
    ∷ For (variable 0) integer (number (pos 2)) (number (pos 1)) false false (write (chars (codes "x") ∷ []))
    ∷ write (int 0 ∷ [])
    ∷ [])) [] 0

-- up to the greatest Integer, behind which the variable isn't stepped
abbrev pub to_the_end : Seen
to_the_end = shown (integer ∷ []) (For (variable 0) integer (number (pos 32766)) (number (pos 32767)) false false (write (int 0 ∷ []))) [] 9

-- for i := a to b do Write(i), where i is of 1..3 and range checks hold
abbrev pub counting_checked : ℤ → ℤ → Seen
counting_checked first last = shown (id 9 ∷ []) (For (variable 0) (id 9) (number first) (number last) false true (write (load (id 9) 0 ∷ []))) [] 9

-- i := 0; while i < 2 do i := i + 1; Write(i)
abbrev pub whiling : ℕ → Seen
whiling turns = shown (integer ∷ []) (block (
    Assign (var 0) (number (pos 0))
    ∷ While (truth_of two.Less (int 0) (number (pos 2))) (Assign (var 0) (on two.Add (int 0) (number (pos 1))))
    ∷ write (int 0 ∷ [])
    ∷ [])) [] turns

-- repeat Write('a') until true
abbrev pub repeating : ℕ → Seen
repeating turns = shown [] (Repeat (write (chars (codes "a") ∷ [])) (Const boolean (constant.Number (pos 1)))) [] turns

-- case 5 of 1, 3..4: Write('a'); 5..9: Write('b') else Write('c') end
abbrev pub branching : Seen
branching = shown [] (Case (number (pos 5))
    (Branch ((record { low = pos 1; high = pos 1 }) ∷ (record { low = pos 3; high = pos 4 }) ∷ []) (write (chars (codes "a") ∷ []))
    (Branch ((record { low = pos 5; high = pos 9 }) ∷ []) (write (chars (codes "b") ∷ [])) NoArms))
    (write (chars (codes "c") ∷ []))) [] 0

-- Write('x'); Halt(263); Write('y')
abbrev pub halting : Seen
halting = shown [] (block (write (chars (codes "x") ∷ []) ∷ Halt (number (pos 263)) ∷ write (chars (codes "y") ∷ []) ∷ [])) [] 0

-- Write('x'); Exit; Write('y')
abbrev pub exiting : Seen
exiting = shown [] (block (write (chars (codes "x") ∷ []) ∷ Exit ∷ write (chars (codes "y") ∷ []) ∷ [])) [] 0

-- a sum of a number and a text: no typed program asks for it
abbrev pub ill_typed : Seen
ill_typed = shown [] (write (on two.Add (number (pos 1)) (chars (codes "a")) ∷ [])) [] 0

pub record StatementExamples : Type 0 where
  pub division : division ≡ ends (Ended 0) (codes "-3 -1 -32768") []
  pub wrapping : wrapping ≡ ends (Ended 0) (codes "-32768") []
  pub common : common ≡ ends (Ended 0) (codes "FALSE") []
  pub bits : bits ≡ ends (Ended 0) (codes "-32768 1 -6 6") []
  pub by_zero : by_zero ≡ ends (Ended 200) [] (error_line (codes "200"))
  pub early : early ≡ ends (Ended 0) (codes "FALSE") []
  pub late : late ≡ ends (Ended 200) [] (error_line (codes "200"))
  pub byte_two : byte_two ≡ ends (Ended 0) (codes "TRUE21") []
  pub past_range : past_range ≡ ends (Ended 201) (codes "a") (error_line (codes "201"))
  pub unset_read : unset_read ≡ ends (Undefined 1) (codes "q") []
  pub counted : counting 3 ≡ ends (Ended 0) (codes "123") []
  pub counting : counting 2 ≡ ends Going (codes "12") []
  pub after_loop : after_loop ≡ ends (Undefined 1) (codes "21") []
  pub no_turn : no_turn ≡ ends (Ended 0) (codes "7") []
  pub counted_checked : counting_checked (pos 2) (pos 3) ≡ ends (Ended 0) (codes "23") []
  pub bound_outside : counting_checked (pos 2) (pos 4) ≡ ends (Ended 201) [] (error_line (codes "201"))
  pub bound_of_no_turn : counting_checked (pos 4) (pos 3) ≡ ends (Ended 0) [] []
  pub to_the_end : to_the_end ≡ ends (Ended 0) (codes "3276632767") []
  pub whiled : whiling 2 ≡ ends (Ended 0) (codes "2") []
  pub whiling : whiling 1 ≡ ends Going [] []
  pub repeated : repeating 1 ≡ ends (Ended 0) (codes "a") []
  pub repeating : repeating 0 ≡ ends Going [] []
  pub branching : branching ≡ ends (Ended 0) (codes "b") []
  pub halting : halting ≡ ends (Ended 7) (codes "x") []
  pub exiting : exiting ≡ ends (Ended 0) (codes "x") []
  pub ill_typed : ill_typed ≡ ends Stopped [] []
