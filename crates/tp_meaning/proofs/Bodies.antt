-- Statements and whole runs with more turns.
use Rattle.std.proofs.Common.{◌≡◌, ℕ, zero, suc, ◌+◌, ◌-◌, ◌≤◌, Bool, true, false, List, [], ◌∷◌, Option, Some, None, refl, sym, ap, subst, arith}
use Rattle.std.specs.Prelude.{ℤ, pos, ◌+ℤ◌, map}
use Rattle.std.specs.List.{list_any}
use Rattle.std.specs.Ordering.{int_eq}
use Rattle.common_values.specs.behaviour.Seen.{Ended, Going, Undefined, Stopped, Seen, Begins, IsOver, IsRun}
use Rattle.type_layout.specs.declared.definitions.Host.{Host}
use Rattle.type_layout.specs.declared.definitions.Host.TheVariants as host
use Rattle.type_layout.specs.declared.definitions.TypeDef.{TypeDef}
use Rattle.type_layout.specs.declared.definitions.TypeDef.TheVariants as type
use Rattle.typed_tree.specs.declared.expressions.Variable.{Variable}
use Rattle.typed_tree.specs.declared.statements.Destructor.{Destructor}
use Rattle.typed_tree.specs.declared.statements.Destructor.TheVariants as destructor
use Rattle.typed_tree.specs.declared.units.Unit.{Unit as TypedUnit}
use Rattle.typed_tree.specs.declared.units.Program.{Program}
use Rattle.typed_tree.specs.Expressions.{Expression, Arguments}
use Rattle.typed_tree.specs.Statements.{Written, Taken, Statement, Assign, CopyAll, Run, If, While, Repeat, Block, Case, For, With, WriteItems, ReadItems, Halt, Exit, Unmake, Statements, NoStatements, Then, Arms, NoArms, Branch}
use Rattle.common_values.specs.Written.{line_end}
use Rattle.common_values.specs.Input.{char_read, string_read, number_read, after_line}
use Rattle.tp_meaning.specs.Trees.{Value, Ordinal, Text, Void, unset}
use Rattle.tp_meaning.specs.Store.{followed, number_of, replaced, disposed}
use Rattle.tp_meaning.specs.Programs.{definition, sort_in, routine_key}
use Rattle.tp_meaning.specs.Outcomes.{State, Outcome, Done, Over, Does}
use Rattle.tp_meaning.specs.Operators.{is_true}
use Rattle.tp_meaning.specs.Activations.{Reached, Activation, whole, variable_at, assigned, copied, number_in}
use Rattle.tp_meaning.specs.Calls.{Flow, Next, Left, Task, Do, Turns, Runs}
use Rattle.tp_meaning.specs.Standard.{Operand, handed, field_text, text_of, number_assigned, target, size_freed}
use Rattle.tp_meaning.specs.Statements.{then_next, chosen, number, condition, covers, tested, width_of, written, line_written, numeral_or_error, number_taken, char_taken, text_taken, ordinal_taken, taken_as, read, line_read, is_past, step, counted, turned, turn, unless_nil, destructor_of, freed, unmade_at, unmade, halted, with_held, statement, statements, branches, task}
use Rattle.tp_meaning.specs.Meaning.{run_by, run, start_state, start_activation, started, all_started, seen_so, seen_of, mean}
use Rattle.tp_meaning.proofs.Turns.{After, Falls, Grows, begins_itself, More, Like, like_weaker, like_bind, like_then, like_spending, like_give, like_stuck, like_raised, like_found, like_known, like_looked, like_changed, like_printed, like_taking}
use Rattle.tp_meaning.proofs.Parts.{Alike, like_entered, like_method_of, like_sort_of, like_value, like_place, like_operands}

-- ---- parts

like_then_next : {k m n : ℕ} {a b : Does Flow} (flow : Flow) → Like k m n a b → Like k m n (then_next flow a) (then_next flow b)
like_then_next Next p = p
like_then_next Left p = like_give Left

like_chosen : {k m n : ℕ} {a b c d : Does Flow} (test : Bool) → Like k m n a b → Like k m n c d → Like k m n (chosen test a c) (chosen test b d)
like_chosen true p q = p
like_chosen false p q = q

like_number : {k m n : ℕ} {A B : Runs} → Alike k m n A B → (program : Program) (f : Activation) (e : Expression) → Like k (suc m) (suc n) (number program A f e) (number program B f e)
like_number alike program f e = like_bind (like_value alike program f e) (λ v. like_found (number_of v))

like_condition : {k m n : ℕ} {A B : Runs} → Alike k m n A B → (program : Program) (f : Activation) (e : Expression) → Like k (suc m) (suc n) (condition program A f e) (condition program B f e)
like_condition alike program f e = like_bind (like_number alike program f e) (λ z. like_give (is_true z))

like_tested : {k m n : ℕ} (checked : Bool) (ty : Option TypeDef) (z : ℤ) → Like k m n (tested checked ty z) (tested checked ty z)
like_tested true ty z = like_found _
like_tested false ty z = like_give z

-- ---- Write and Read

like_width : {k m n : ℕ} {A B : Runs} → Alike k m n A B → (program : Program) (f : Activation) (width : Option Expression) → Like k (suc m) (suc n) (width_of program A f width) (width_of program B f width)
like_width alike program f None = like_give (pos 0)
like_width alike program f (Some width) = like_number alike program f width

like_written : {k m n : ℕ} {A B : Runs} → Alike k m n A B → (program : Program) (f : Activation) (items : List Written) → Like k (suc m) (suc n) (written program A f items) (written program B f items)
like_written alike program f [] = like_give tt
like_written alike program f (item ∷ items) =
    like_bind (like_sort_of f item.value) (λ sort.
    like_bind (like_value alike program f item.value) (λ v.
    like_bind (like_width alike program f item.width) (λ width.
    like_bind (like_found (text_of (definition sort) v)) (λ text.
    like_then (like_printed (field_text width text)) (like_written alike program f items)))))

like_line_written : {k m n : ℕ} (line : Bool) → Like k m n (line_written line) (line_written line)
like_line_written true = like_then (like_printed line_end) (like_give Next)
like_line_written false = like_give Next

like_numeral : {k m n : ℕ} (z : Option ℤ) → Like k m n (numeral_or_error z) (numeral_or_error z)
like_numeral None = like_raised 106
like_numeral (Some z) = like_give z

like_number_taken : {k m n : ℕ} (checked : Bool) (at : Reached) (ty : Option TypeDef) → Like k m n (number_taken checked at ty) (number_taken checked at ty)
like_number_taken checked at ty =
    like_bind (like_taking number_read) (λ numeral.
    like_bind (like_numeral numeral) (λ z.
    like_bind (like_tested checked ty z) (λ w. like_changed (number_assigned at w))))

like_char_taken : {k m n : ℕ} (at : Reached) → Like k m n (char_taken at) (char_taken at)
like_char_taken at = like_bind (like_taking char_read) (λ byte. like_changed (assigned at (Ordinal (pos byte))))

like_text_taken : {k m n : ℕ} (at : Reached) (size : ℕ) → Like k m n (text_taken at size) (text_taken at size)
like_text_taken at size = like_bind (like_taking (string_read size)) (λ text. like_changed (assigned at (Text text)))

like_ordinal_taken : {k m n : ℕ} (checked : Bool) (at : Reached) (h : Host) (ty : Option TypeDef) → Like k m n (ordinal_taken checked at h ty) (ordinal_taken checked at h ty)
like_ordinal_taken checked at host.ShortInt ty = like_number_taken checked at ty
like_ordinal_taken checked at host.Byte ty = like_number_taken checked at ty
like_ordinal_taken checked at host.Integer ty = like_number_taken checked at ty
like_ordinal_taken checked at host.Word ty = like_number_taken checked at ty
like_ordinal_taken checked at host.LongInt ty = like_number_taken checked at ty
like_ordinal_taken checked at host.Char ty = like_char_taken at
like_ordinal_taken checked at host.Boolean ty = like_stuck
like_ordinal_taken checked at host.Enumeration ty = like_stuck

like_taken_as : {k m n : ℕ} (checked : Bool) (at : Reached) (ty : Option TypeDef) → Like k m n (taken_as checked at ty) (taken_as checked at ty)
like_taken_as checked at (Some (type.Ordinal h low high)) = like_ordinal_taken checked at h (Some (type.Ordinal h low high))
like_taken_as checked at (Some (type.Str max)) = like_text_taken at max
like_taken_as checked at _ = like_stuck

like_read : {k m n : ℕ} {A B : Runs} → Alike k m n A B → (program : Program) (f : Activation) (items : List Taken) → Like k (suc m) (suc n) (read program A f items) (read program B f items)
like_read alike program f [] = like_give tt
like_read alike program f (item ∷ items) =
    like_bind (like_place alike program f item.at) (λ at.
    like_then (like_taken_as item.checked at (definition (sort_in f.unit item.ty))) (like_read alike program f items))

like_line_read : {k m n : ℕ} (line : Bool) → Like k m n (line_read line) (line_read line)
like_line_read true = like_taking (λ input. (Next, after_line input))
like_line_read false = like_give Next

-- ---- loops

like_counted : {k m n : ℕ} (program : Program) (f : Activation) (variable : Variable) → Like k m n (counted program f variable) (counted program f variable)
like_counted program f variable =
    like_bind (like_looked (variable_at program f variable)) (λ at.
    like_then (like_changed (λ store. replaced store at.spot unset)) (like_give Next))

like_turned : {k m n : ℕ} {A B : Runs} → Alike k m n A B → (program : Program) (f : Activation) (variable : Variable) (last : ℤ) (down : Bool) (body : Statement) → Like k m n (turned program A f variable last down body) (turned program B f variable last down body)
like_turned alike program f variable last down body =
    like_bind (like_looked (variable_at program f variable)) (λ at.
    like_bind (like_looked (number_in at)) (λ z.
    like_chosen (int_eq z last) (like_counted program f variable)
    (like_then (like_changed (number_assigned at (z +ℤ step down))) (alike (Turns variable last down body) f))))

like_turn : {k m n : ℕ} {A B : Runs} → Alike k m n A B → (program : Program) (f : Activation) (variable : Variable) (last : ℤ) (down : Bool) (body : Statement) {a b : Does Flow} → Like k (suc m) (suc n) a b → Like k (suc m) (suc n) (turn program A f variable last down body a) (turn program B f variable last down body b)
like_turn alike program f variable last down body p =
    like_spending (like_bind (like_weaker p) (λ flow. like_then_next flow (like_turned alike program f variable last down body)))

-- ---- Dispose with a destructor

like_destructor_of : {k m n : ℕ} (program : Program) (f : Activation) (at : Reached) (with : Destructor) → Like k m n (destructor_of program f at with) (destructor_of program f at with)
like_destructor_of program f at (destructor.Routine routine) = like_known (routine_key f.unit routine)
like_destructor_of program f at (destructor.Slot slot checked) = like_method_of program at slot checked

like_freed : {k m n : ℕ} {A B : Runs} → Alike k m n A B → (program : Program) (f : Activation) (with : Destructor) (args : List Operand) (serial : ℕ) (at : Reached) → Like k (suc m) (suc n) (freed program A f with args serial at) (freed program B f with args serial at)
like_freed alike program f with args serial at =
    like_then (like_spending (like_bind (like_destructor_of program f at with) (λ key. like_entered alike program f key (Some at.spot) None (map handed args)))) (
    like_bind (like_looked (size_freed program at)) (λ bytes.
    like_then (like_changed (λ store. disposed store serial bytes)) (like_give Next)))

like_unmade_at : {k m n : ℕ} {A B : Runs} → Alike k m n A B → (program : Program) (f : Activation) (pointer : Expression) (with : Destructor) (args : List Operand) (v : Value) → Like k (suc m) (suc n) (unmade_at program A f pointer with args v) (unmade_at program B f pointer with args v)
like_unmade_at alike program f pointer with args v =
    like_bind (like_looked (λ store. followed store v)) (λ serial.
    like_bind (like_sort_of f pointer) (λ sort.
    like_bind (like_found (target sort)) (λ to.
    like_freed alike program f with args serial (record { spot = whole serial; sort = to }))))

like_unmade : {k m n : ℕ} {A B : Runs} → Alike k m n A B → (program : Program) (f : Activation) (pointer : Expression) (with : Destructor) (args : Arguments) → Like k (suc m) (suc n) (unmade program A f pointer with args) (unmade program B f pointer with args)
like_unmade alike program f pointer with args =
    like_bind (like_value alike program f pointer) (λ v.
    like_then (like_found (unless_nil v)) (
    like_bind (like_operands alike program f args) (λ xs.
    like_unmade_at alike program f pointer with xs v)))

like_halted : {k m n : ℕ} (z : ℤ) → Like k m n (halted z) (halted z)
like_halted z = record { falls = λ s. omega arith; grows = λ s. (begins_itself s.out, begins_itself s.err); alike = λ s l l'. refl }

-- ---- the forms

mutual
  pub like_statement : {k m n : ℕ} {A B : Runs} → Alike k m n A B → (program : Program) (f : Activation) (one : Statement) → Like k (suc m) (suc n) (statement program A f one) (statement program B f one)
  like_statement alike program f (Assign to from) =
      like_bind (like_place alike program f to) (λ at.
      like_bind (like_value alike program f from) (λ v.
      like_then (like_changed (assigned at v)) (like_give Next)))
  like_statement alike program f (CopyAll to from) =
      like_bind (like_place alike program f to) (λ at.
      like_bind (like_place alike program f from) (λ of.
      like_then (like_changed (copied at of.spot)) (like_give Next)))
  like_statement alike program f (Run call) = like_then (like_value alike program f call) (like_give Next)
  like_statement alike program f (If test taken other) =
      like_bind (like_condition alike program f test) (λ b. like_chosen b (like_statement alike program f taken) (like_statement alike program f other))
  like_statement alike program f (While test body) =
      like_bind (like_condition alike program f test) (λ b.
      like_chosen b
      (like_spending (like_bind (like_weaker (like_statement alike program f body)) (λ flow. like_then_next flow (alike (Do (While test body)) f))))
      (like_give Next))
  like_statement alike program f (Repeat body test) =
      like_spending (like_bind (like_weaker (like_statement alike program f body)) (λ flow.
      like_then_next flow (like_bind (like_weaker (like_condition alike program f test)) (λ b. like_chosen b (like_give Next) (alike (Do (Repeat body test)) f)))))
  like_statement alike program f (Block parts) = like_statements alike program f parts
  like_statement alike program f (Case selector arms other) =
      like_bind (like_number alike program f selector) (λ z. like_branches alike program f arms z (like_statement alike program f other))
  like_statement alike program f (For variable ty from to down checked body) =
      like_bind (like_number alike program f from) (λ first.
      like_bind (like_number alike program f to) (λ last.
      like_chosen (is_past down first last) (like_give Next) (
      like_bind (like_tested checked (definition (sort_in f.unit ty)) first) (λ low.
      like_bind (like_tested checked (definition (sort_in f.unit ty)) last) (λ high.
      like_bind (like_looked (variable_at program f variable)) (λ at.
      like_then (like_changed (assigned at (Ordinal low)))
      (like_turn alike program f variable high down body (like_statement alike program f body))))))))
  like_statement alike program f (With of body) =
      like_bind (like_place alike program f of) (λ at. like_statement alike program (with_held f at) body)
  like_statement alike program f (WriteItems items line) = like_then (like_written alike program f items) (like_line_written line)
  like_statement alike program f (ReadItems items line) = like_then (like_read alike program f items) (like_line_read line)
  like_statement alike program f (Halt code) = like_bind (like_number alike program f code) like_halted
  like_statement alike program f Exit = like_give Left
  like_statement alike program f (Unmake pointer with args) = like_unmade alike program f pointer with args

  pub like_statements : {k m n : ℕ} {A B : Runs} → Alike k m n A B → (program : Program) (f : Activation) (parts : Statements) → Like k (suc m) (suc n) (statements program A f parts) (statements program B f parts)
  like_statements alike program f NoStatements = like_give Next
  like_statements alike program f (Then one rest) =
      like_bind (like_statement alike program f one) (λ flow. like_then_next flow (like_statements alike program f rest))

  pub like_branches : {k m n : ℕ} {A B : Runs} → Alike k m n A B → (program : Program) (f : Activation) (arms : Arms) (z : ℤ) {a b : Does Flow} → Like k (suc m) (suc n) a b → Like k (suc m) (suc n) (branches program A f arms z a) (branches program B f arms z b)
  like_branches alike program f NoArms z p = p
  like_branches alike program f (Branch labels body rest) z p =
      like_chosen (list_any (covers z) labels) (like_statement alike program f body) (like_branches alike program f rest z p)

pub like_task : {k m n : ℕ} {A B : Runs} → Alike k m n A B → (program : Program) (one : Task) (f : Activation) → Like k (suc m) (suc n) (task program A one f) (task program B one f)
like_task alike program (Do one) f = like_statement alike program f one
like_task alike program (Turns variable last down body) f = like_turn alike program f variable last down body (like_statement alike program f body)

-- ---- fuel

going_falls : (s : State) → Falls s s
going_falls s = omega arith

going_grows : (s : State) → Grows s s
going_grows s = (begins_itself s.out, begins_itself s.err)

like_none : (program : Program) (k n : ℕ) → Alike k 0 n (run_by program 0) (run_by program n)
like_none program k zero one f = record { falls = going_falls; grows = going_grows; alike = λ s l l'. absurd (omega (arith, l)) }
like_none program k (suc n) one f =
    record { falls = going_falls; grows = (like_task (like_none program k n) program one f).grows; alike = λ s l l'. absurd (omega (arith, l)) }

pub like_by : (program : Program) (k m n : ℕ) → Alike k m n (run_by program m) (run_by program n)
like_by program k zero n one f = like_none program k n one f
like_by program k (suc m) zero one f =
    record { falls = (like_task (like_by program k m 0) program one f).falls; grows = going_grows; alike = λ s l l'. absurd (omega (arith, l')) }
like_by program k (suc m) (suc n) one f = like_task (like_by program k m n) program one f

-- more turns
pub like_run : (program : Program) (k m n : ℕ) → Alike k m n (run program) (run program)
unfolding run
like_run program k m n one f = record {
  falls = λ s. (like_by program 0 (suc s.turns) (suc s.turns) one f).falls s;
  grows = λ s. (like_by program 0 (suc s.turns) (suc s.turns) one f).grows s;
  alike = λ s l l'. (like_by program k (suc s.turns) (suc (s.turns + k)) one f).alike s (omega arith) (omega arith);
}

-- ---- whole programs

like_started : {k m n : ℕ} {A B : Runs} → Alike k m n A B → (program : Program) (unit : TypedUnit) (initial : Option ℕ) → Like k m n (started program A unit initial) (started program B unit initial)
like_started alike program unit None = like_give Void
like_started alike program unit (Some number) = like_entered alike program (start_activation unit) (record { unit = unit.name; number = number }) None None []

like_all_started : {k m n : ℕ} {A B : Runs} → Alike k m n A B → (program : Program) (units : List TypedUnit) → Like k m n (all_started program A units) (all_started program B units)
like_all_started alike program [] = record { falls = λ s. omega arith; grows = λ s. (begins_itself s.out, begins_itself s.err); alike = λ s l l'. refl }
like_all_started alike program (unit ∷ units) = like_then (like_started alike program unit unit.initial) (like_all_started alike program units)

-- what one outcome shows that was given more turns than another
pub record SeenMore (x y : Seen) : Type 0 where
  pub over : IsOver x.end → y ≡ x
  pub out : Begins x.out y.out
  pub err : Begins x.err y.err

seen_itself : (x y : Outcome Value) → seen_of y ≡ seen_of x → SeenMore (seen_of x) (seen_of y)
seen_itself x y e = record {
  over = λ p. e;
  out = subst (λ (z : Seen). Begins (seen_of x).out z.out) (sym e) (begins_itself (seen_of x).out);
  err = subst (λ (z : Seen). Begins (seen_of x).err z.err) (sym e) (begins_itself (seen_of x).err);
}

seen_grown : (s : State) (y : Outcome Value) → After Grows s y → SeenMore (seen_so Going s) (seen_of y)
seen_grown s (Done v t) p = record { over = λ o. absurd o; out = p.0; err = p.1 }
seen_grown s (Over standing t) p = record { over = λ o. absurd o; out = p.0; err = p.1 }

seen_more : (k : ℕ) (x y : Outcome Value) → More k x y → SeenMore (seen_of x) (seen_of y)
seen_more k (Done v s) y p = seen_itself (Done v s) y (ap seen_of p)
seen_more k (Over (Ended code) s) y p = seen_itself (Over (Ended code) s) y (ap seen_of p)
seen_more k (Over Going s) y p = seen_grown s y p.1
seen_more k (Over (Undefined act) s) y p = seen_itself (Over (Undefined act) s) y (ap seen_of p)
seen_more k (Over Stopped s) y p = seen_itself (Over Stopped s) y (ap seen_of p)

mean_more : (program : Program) (input : List ℕ) (n k : ℕ) → SeenMore (mean program input n) (mean program input (n + k))
mean_more program input n k =
    seen_more k (all_started program (run program) program.units (start_state program input n)) (all_started program (run program) program.units (start_state program input (n + k)))
    ((like_all_started (like_run program k (suc n) (suc (n + k))) program program.units).alike (start_state program input n) (omega arith) (omega arith))

mean_seen : (program : Program) (input : List ℕ) (n m : ℕ) → n ≤ m → SeenMore (mean program input n) (mean program input m)
mean_seen program input n m p =
    let e : n + (m - n) ≡ m = omega arith in
    subst (λ b. SeenMore (mean program input n) (mean program input b)) e (mean_more program input n (m - n))

-- once over a run stays as it is, and what it wrote stays written
pub mean-IsRun : (program : Program) (input : List ℕ) → IsRun (mean program input)
mean-IsRun program input = record {
  over = λ n m p. (mean_seen program input n m p).over;
  out = λ n m p. (mean_seen program input n m p).out;
  err = λ n m p. (mean_seen program input n m p).err;
}
