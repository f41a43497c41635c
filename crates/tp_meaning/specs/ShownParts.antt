-- Examples of strings, sets, arrays, records, pointers, input and output.
use Rattle.std.specs.Prelude.{◌≡◌, ℕ, ◌++◌, Bool, true, false, ℤ, pos, List, [], ◌∷◌, codes}
use Rattle.common_values.specs.behaviour.Seen.{Seen, Ended, Undefined}
use Rattle.type_layout.specs.declared.definitions.TypeId.{TypeId}
use Rattle.typed_tree.specs.declared.expressions.Value.TheVariants as constant
use Rattle.typed_tree.specs.declared.expressions.BinaryOp.TheVariants as two
use Rattle.typed_tree.specs.Expressions.{Expression, Const, Load, Binary, SetOf, Index, FieldOf, Deref, NoElements, One, Span, NoArguments, ByValue, ByPlace, Var}
use Rattle.typed_tree.specs.Standard as routine
use Rattle.typed_tree.specs.Statements.{Taken, Statement, Assign, CopyAll, Run, With, WriteItems, ReadItems}
use Rattle.tp_meaning.specs.Examples.{integer, boolean, id, shown, ends, error_line, var, load, int, number, on, chars, item, wide, write, block, call, gives, truth_of}

-- ---- strings

-- t := 'abcd'; Write(t), where t is a string[3]
abbrev pub cutting : Seen
cutting = shown (id 6 ∷ []) (block (Assign (var 0) (chars (codes "abcd")) ∷ write (load (id 6) 0 ∷ []) ∷ [])) [] 0

-- t := 'abc'; t := 'x'; t[0] := #3; Write(t): what stands behind a text stays
abbrev pub behind : Seen
behind = shown (id 6 ∷ []) (block (
    Assign (var 0) (chars (codes "abc"))
    ∷ Assign (var 0) (chars (codes "x"))
    ∷ Assign (Index (var 0) (number (pos 0)) false) (Const (id 2) (constant.Number (pos 3)))
    ∷ write (load (id 6) 0 ∷ [])
    ∷ [])) [] 0

-- t[0] := #4; Write(t)
abbrev pub too_long : Seen
too_long = shown (id 6 ∷ []) (block (
    Assign (Index (var 0) (number (pos 0)) false) (Const (id 2) (constant.Number (pos 4)))
    ∷ write (load (id 6) 0 ∷ [])
    ∷ [])) [] 0

-- t[0] := n; Write(Length(t)), where no other byte of t is set
abbrev pub measuring : ℕ → Seen
measuring n = shown (id 6 ∷ []) (block (
    Assign (Index (var 0) (number (pos 0)) false) (Const (id 2) (constant.Number (pos n)))
    ∷ write (gives integer routine.length (ByValue (load (id 6) 0) NoArguments) ∷ [])
    ∷ [])) [] 0

-- Write(Length(t))
abbrev pub measuring_unset : Seen
measuring_unset = shown (id 6 ∷ []) (write (gives integer routine.length (ByValue (load (id 6) 0) NoArguments) ∷ [])) [] 0

abbrev pub join : Expression → Expression → Expression
join a b = Binary (id 3) two.Add a b false

-- Write('ab' < 'abc', 'b' + 'c' = 'bc')
abbrev pub comparing : Seen
comparing = shown [] (write (
    truth_of two.Less (chars (codes "ab")) (chars (codes "abc"))
    ∷ truth_of two.Equal (join (chars (codes "b")) (chars (codes "c"))) (chars (codes "bc")) ∷ [])) [] 0

-- s := 'abcd'; Delete(s, 2, 2); Insert('xy', s, 2); Write(s, ' ', Pos('yd', s), ' ', Copy(s, 2, 9), ' ', Length(s))
abbrev pub editing : Seen
editing = shown (id 3 ∷ []) (block (
    Assign (var 0) (chars (codes "abcd"))
    ∷ Run (call routine.delete (ByPlace (var 0) (ByValue (number (pos 2)) (ByValue (number (pos 2)) NoArguments))))
    ∷ Run (call routine.insert (ByValue (chars (codes "xy")) (ByPlace (var 0) (ByValue (number (pos 2)) NoArguments))))
    ∷ write (load (id 3) 0 ∷ chars (codes " ")
    ∷ gives integer routine.pos (ByValue (chars (codes "yd")) (ByValue (load (id 3) 0) NoArguments)) ∷ chars (codes " ")
    ∷ gives (id 3) routine.copy (ByValue (load (id 3) 0) (ByValue (number (pos 2)) (ByValue (number (pos 9)) NoArguments))) ∷ chars (codes " ")
    ∷ gives integer routine.length (ByValue (load (id 3) 0) NoArguments) ∷ [])
    ∷ [])) [] 0

-- Val('12x', i, c); Write(c, ' ', 'ab':4, '|', 'abc':2)
abbrev pub valuing : Seen
valuing = shown (integer ∷ integer ∷ []) (block (
    Run (call routine.val (ByValue (chars (codes "12x")) (ByPlace (var 0) (ByPlace (var 1) NoArguments))))
    ∷ WriteItems (item (int 1) ∷ item (chars (codes " ")) ∷ wide (chars (codes "ab")) (pos 4) ∷ item (chars (codes "|")) ∷ wide (chars (codes "abc")) (pos 2) ∷ []) true
    ∷ [])) [] 0

-- ---- sets

abbrev pub set : Expression
set = SetOf (id 8) (One (number (pos 9)) (Span (number (pos 3)) (number (pos 5)) (Span (number (pos 8)) (number (pos 7)) NoElements)))

abbrev pub holds : Expression → Expression
holds e = truth_of two.In e set

-- Write(4 in [9, 3..5, 8..7], 8 in .., 265 in ..)
abbrev pub members : Seen
members = shown [] (write (holds (number (pos 4)) ∷ holds (number (pos 8)) ∷ holds (number (pos 265)) ∷ [])) [] 0

-- [256]
abbrev pub no_element : Seen
no_element = shown (id 8 ∷ []) (Assign (var 0) (SetOf (id 8) (One (number (pos 256)) NoElements))) [] 0

-- Write(1 in [300..256]), and the same with [256..300]
abbrev pub span : ℤ → ℤ → Seen
span low high = shown [] (write (truth_of two.In (number (pos 1)) (SetOf (id 8) (Span (number low) (number high) NoElements)) ∷ [])) [] 0

-- ---- arrays and records

-- a[2] := 7; b := a; Write(b[2])
abbrev pub arrays : Seen
arrays = shown (id 10 ∷ id 10 ∷ []) (block (
    Assign (Index (var 0) (number (pos 2)) false) (number (pos 7))
    ∷ CopyAll (var 1) (var 0)
    ∷ write (Load integer (Index (var 1) (number (pos 2)) false) ∷ [])
    ∷ [])) [] 0

-- a[4] := 7
abbrev pub outside : Seen
outside = shown (id 10 ∷ []) (Assign (Index (var 0) (number (pos 4)) false) (number (pos 7))) [] 0

abbrev pub outside_checked : Seen
outside_checked = shown (id 10 ∷ []) (Assign (Index (var 0) (number (pos 4)) true) (number (pos 7))) [] 0

-- r.n := 5; with r do s := 'ab'; Write(r.s, r.n)
abbrev pub records : Seen
records = shown (id 12 ∷ []) (block (
    Assign (FieldOf (var 0) 0) (number (pos 5))
    ∷ With (var 0) (Assign (FieldOf (Var (record { unit = 0; level = 1; number = 2147483648 })) 1) (chars (codes "ab")))
    ∷ write (Load (id 6) (FieldOf (var 0) 1) ∷ Load integer (FieldOf (var 0) 0) ∷ [])
    ∷ [])) [] 0

-- ---- pointers

abbrev pub pointer : ℕ → Expression
pointer n = load (id 11) n

abbrev pub new : ℕ → Statement
new n = Run (call routine.new (ByPlace (var n) NoArguments))

abbrev pub dispose : ℕ → Statement
dispose n = Run (call routine.dispose (ByValue (pointer n) NoArguments))

-- New(p); p^ := 3; q := p; Write(q^, p = q)
abbrev pub pointing : Seen
pointing = shown (id 11 ∷ id 11 ∷ []) (block (
    new 0
    ∷ Assign (Deref (pointer 0)) (number (pos 3))
    ∷ Assign (var 1) (pointer 0)
    ∷ write (Load integer (Deref (pointer 1)) ∷ truth_of two.Equal (pointer 0) (pointer 1) ∷ [])
    ∷ [])) [] 0

-- of 24 bytes: three blocks, and then one too many
abbrev pub filling : Seen
filling = shown (id 11 ∷ []) (block (new 0 ∷ new 0 ∷ new 0 ∷ write (chars (codes "3") ∷ []) ∷ new 0 ∷ [])) [] 0

-- as often as they are disposed of, blocks are made again
abbrev pub reusing : Seen
reusing = shown (id 11 ∷ []) (block (new 0 ∷ new 0 ∷ new 0 ∷ dispose 0 ∷ new 0 ∷ dispose 0 ∷ new 0 ∷ write (chars (codes "r") ∷ []) ∷ [])) [] 0

abbrev pub nil : Statement
nil = Assign (var 0) (Const (id 11) constant.Nil)

abbrev pub disposing_nil : Seen
disposing_nil = shown (id 11 ∷ []) (block (nil ∷ dispose 0 ∷ [])) [] 0

abbrev pub following_nil : Seen
following_nil = shown (id 11 ∷ []) (block (nil ∷ Assign (Deref (pointer 0)) (number (pos 3)) ∷ [])) [] 0

-- New(p); q := p; Dispose(p), and then Write(q = nil) and Write(q = q)
abbrev pub disposed : Seen
disposed = shown (id 11 ∷ id 11 ∷ []) (block (
    new 0
    ∷ Assign (var 1) (pointer 0)
    ∷ dispose 0
    ∷ write (truth_of two.Equal (pointer 1) (Const (id 11) constant.Nil) ∷ [])
    ∷ write (truth_of two.Equal (pointer 1) (pointer 1) ∷ [])
    ∷ [])) [] 0

abbrev pub twice : Seen
twice = shown (id 11 ∷ []) (block (new 0 ∷ dispose 0 ∷ dispose 0 ∷ [])) [] 0

-- ---- input

abbrev pub taken : ℕ → TypeId → Taken
taken n ty = record { at = var n; ty = ty; checked = false }

-- Read(i); Write(i), where i is of 1..3
abbrev pub read_between : Bool → List ℕ → Seen
read_between checked input = shown (id 9 ∷ []) (block (
    ReadItems ((record { at = var 0; ty = id 9; checked = checked }) ∷ []) false
    ∷ write (load (id 9) 0 ∷ [])
    ∷ [])) input 0

-- Read(i, j); Write(i + j)
abbrev pub reading : List ℕ → Seen
reading input = shown (integer ∷ integer ∷ []) (block (
    ReadItems ((taken 0 integer) ∷ (taken 1 integer) ∷ []) false
    ∷ write (on two.Add (int 0) (int 1) ∷ [])
    ∷ [])) input 0

-- Write(Eof); Read(c); Write(Ord(c)); Read(i); Write(i)
abbrev pub at_eof : List ℕ → Seen
at_eof input = shown (id 2 ∷ integer ∷ []) (block (
    write (gives boolean routine.eof NoArguments ∷ [])
    ∷ ReadItems ((taken 0 (id 2)) ∷ []) false
    ∷ write (gives integer routine.ord (ByValue (load (id 2) 0) NoArguments) ∷ [])
    ∷ ReadItems ((taken 1 integer) ∷ []) false
    ∷ write (int 1 ∷ [])
    ∷ [])) input 0

-- ReadLn(t); Read(c); Write(t, c), where t is a string[3]
abbrev pub lines : List ℕ → Seen
lines input = shown (id 6 ∷ id 2 ∷ []) (block (
    ReadItems ((taken 0 (id 6)) ∷ []) true
    ∷ ReadItems ((taken 1 (id 2)) ∷ []) false
    ∷ write (load (id 6) 0 ∷ load (id 2) 1 ∷ [])
    ∷ [])) input 0

pub record PartExamples : Type 0 where
  pub cutting : cutting ≡ ends (Ended 0) (codes "abc") []
  pub behind : behind ≡ ends (Ended 0) (codes "xbc") []
  pub too_long : too_long ≡ ends (Undefined 3) [] []
  pub measured : measuring 3 ≡ ends (Ended 0) (codes "3") []
  pub measured_past : measuring 4 ≡ ends (Undefined 3) [] []
  pub measuring_unset : measuring_unset ≡ ends (Undefined 1) [] []
  pub comparing : comparing ≡ ends (Ended 0) (codes "TRUETRUE") []
  pub editing : editing ≡ ends (Ended 0) (codes "axyd 3 xyd 4") []
  pub valuing : valuing ≡ ends (Ended 0) (codes "3   ab|abc" ++ 13 ∷ 10 ∷ []) []
  pub members : members ≡ ends (Ended 0) (codes "TRUEFALSEFALSE") []
  pub empty_span : span (pos 300) (pos 256) ≡ ends (Ended 0) (codes "FALSE") []
  pub past_span : span (pos 256) (pos 300) ≡ ends (Undefined 3) [] []
  pub no_element : no_element ≡ ends (Undefined 3) [] []
  pub arrays : arrays ≡ ends (Ended 0) (codes "7") []
  pub outside : outside ≡ ends (Undefined 3) [] []
  pub checked : outside_checked ≡ ends (Ended 201) [] (error_line (codes "201"))
  pub records : records ≡ ends (Ended 0) (codes "ab5") []
  pub pointing : pointing ≡ ends (Ended 0) (codes "3TRUE") []
  pub filling : filling ≡ ends (Ended 203) (codes "3") (error_line (codes "203"))
  pub reusing : reusing ≡ ends (Ended 0) (codes "r") []
  pub disposing_nil : disposing_nil ≡ ends (Ended 204) [] (error_line (codes "204"))
  pub following_nil : following_nil ≡ ends (Undefined 2) [] []
  pub disposed : disposed ≡ ends (Undefined 2) (codes "FALSE") []
  pub twice : twice ≡ ends (Undefined 2) [] []
  pub no_numeral : reading (codes "12 x") ≡ ends (Ended 106) [] (error_line (codes "106"))
  pub reading : reading (codes " 12 -5") ≡ ends (Ended 0) (codes "7") []
  pub read_outside : read_between true (codes "4") ≡ ends (Ended 201) [] (error_line (codes "201"))
  pub read_unchecked : read_between false (codes "4") ≡ ends (Ended 0) (codes "4") []
  pub at_eof : at_eof (26 ∷ 65 ∷ []) ≡ ends (Ended 0) (codes "TRUE260") []
  pub lines : lines (codes "abcd" ++ 13 ∷ 10 ∷ codes "x") ≡ ends (Ended 0) (codes "abcx") []
