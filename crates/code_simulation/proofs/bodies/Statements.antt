-- Each statement of a placed program's routine is followed by its code, if the bodies are with fewer turns.
use Rattle.std.proofs.Common.{◌≡◌, ℕ, zero, suc, ◌+◌, ◌*◌, ◌/◌, ◌%◌, ◌<◌, ◌≤◌, ◌⊎◌, Bool, true, List, [], ◌∷◌, ◌++◌, length, Option, Some, None, Ok, Err, inl, inr, arith, refl, sym, ap, subst, ◌∙◌, ⊎_elim, length-append, false}
use Rattle.std.specs.Prelude.{MatchOption, is_some, slice_get}
use Rattle.std.proofs.lemmas.Bool.{cases_lt}
use Rattle.x86_table.specs.declared.instr.Instr.{Instr}
use Rattle.x86_table.specs.declared.instr.Instr.TheVariants as instr
use Rattle.x86_table.specs.declared.line.Line.{Line}
use Rattle.flat_code.specs.declared.memory.Place.{Place}
use Rattle.flat_code.specs.declared.tree.Address.{Address}
use Rattle.flat_code.specs.declared.tree.FlatResult.{FlatResult}
use Rattle.flat_code.specs.Calls.{activation_bytes, link_bytes}
use Rattle.flat_code.specs.Legal.{Mention, ToRoutine, StepNames, RuntimeNames, FitsCall, FitsRuntime, StepFits, HasResultSize, exprs_depth, step_depth, RuntimeCalls}
use Rattle.flat_code.specs.Meaning.{key_of, routine_pointer}
use Rattle.flat_code.specs.Memory.{Found, ◌>>=◌}
use Rattle.flat_code.specs.Program.{Name, Key, Routine, UnitCode, named, runtime_key}
use Rattle.flat_code.specs.Tree.{Expr, Step, StoreByte, StoreWord, Copy, Leave, Call, CallThrough, Runtime, StoreRoutine, Return, Error}
use Rattle.flat_code.specs.Values.{if_placed}
use Rattle.cpu_8086.specs.Memory.{address, next_offset}
use Rattle.code_templates.specs.code_lines.Addresses.{Context}
use Rattle.code_templates.specs.code_lines.Expressions.{args_code}
use Rattle.code_templates.specs.code_lines.Lines.{Around, call_far, call_code, taken, runtime_code, step_lines}
use Rattle.code_templates.specs.code_lines.Operands.{loads, operand}
use Rattle.resident_machine.specs.machine_lines.Straight.{ones}
use Rattle.effect_simulation.specs.effects.Pointers.{IsFixed, pointer_offset, HoldsPointer}
use Rattle.effect_simulation.proofs.effects.Ends.{end_flows}
use Rattle.effect_simulation.proofs.effects.Reading.{read_flows}
use Rattle.effect_simulation.proofs.effects.Routines.{routine_flows}
use Rattle.effect_simulation.proofs.effects.Writes.{write_flows}
use Rattle.effect_simulation.proofs.copies.Copies.{copy_flows}
use Rattle.statement_simulation.specs.flow.Lists.{StepFlows}
use Rattle.statement_simulation.specs.flow.Outcomes.{EndsErrors}
use Rattle.statement_simulation.specs.flow.Sites.{World, Site, Live}
use Rattle.statement_simulation.proofs.flow.Lists.{length-ones}
use Rattle.statement_simulation.proofs.flow.Steps.{byte_flows, word_flows, leave_flows, return_flows, fail_flows}
use Rattle.call_simulation.specs.services.Services.{flag_code, HasService, HasClear}
use Rattle.call_simulation.proofs.services.Clearing.{clear_flows}
use Rattle.call_simulation.proofs.services.Setting.{flag_flows}
use Rattle.call_simulation.specs.steps.Callable.{Callable}
use Rattle.call_simulation.proofs.steps.Steps.{call_flows, runtime_flows}
use Rattle.call_simulation.specs.indirect_calls.FarCallable.{FarCallable}
use Rattle.call_simulation.proofs.indirect_calls.Through.{through_flows}
use Rattle.code_simulation.specs.bodies.Expressible.{IsFar, IsFarElsewhere, StepIsExpressible, IsNoThrough}
use Rattle.code_simulation.specs.bodies.Layouts.{Layout, IsConstant, StepPointer, IsPlaced, PlacedProgram}
use Rattle.code_simulation.specs.bodies.Bodies.{Suited, Bodies}
use Rattle.code_simulation.proofs.bodies.Frames.{target, also, chain, sized, ends_errors, ends_at, floor, HasRoomFor, room_for, has_stack}
use Rattle.code_simulation.proofs.bodies.Calls.{pointer_callable, far_callable, by_name}

-- ## What is named

abbrev key_in : Found Key → Key → Key
key_in (Ok key) other = key
key_in (Err trap) other = other

-- a name that is found
record Named (own : Name) (names : List Name) (unit : ℕ) (P : Name → Type 0) : Type 0 where
  name : Name
  found : named own names unit ≡ Some name
  holds : P name

named_there : (own : Name) (names : List Name) (unit : ℕ) (P : Name → Type 0) → MatchOption (named own names unit) ⊥ P → Named own names unit P
named_there own names unit P = by (named own names unit) refl
  where
    by : (o : Option Name) → named own names unit ≡ o → MatchOption o ⊥ P → Named own names unit P
    by None e h = absurd h
    by (Some name) e h = record { name = name; found = e; holds = h }

-- the same of what else holds of it
at_name : (own : Name) (names : List Name) (unit : ℕ) (name : Name) (Q : Name → Type 0) → named own names unit ≡ Some name → MatchOption (named own names unit) ⊥ Q → Q name
at_name own names unit name Q e h = subst (λ o. MatchOption o ⊥ Q) e h

-- a result that is wanted has the size of the routine's
wanted_sized : (wanted given : Option FlatResult) → HasResultSize given → MatchOption wanted (Unit {0}) (λ v. MatchOption given ⊥ (λ g. g.bytes ≡ v.bytes)) → HasResultSize wanted
wanted_sized None given size h = tt
wanted_sized (Some v) None size h = absurd h
wanted_sized (Some v) (Some g) size h = subst (λ n. (n ≡ 1) ⊎ ((n ≡ 2) ⊎ (n ≡ 4))) h size

four_bytes : (far : Bool) → 4 ≤ link_bytes far
four_bytes true = omega arith
four_bytes false = omega arith

-- the lines of a call hold those of its arguments and its result
call_size : (x : Context) (args : List Expr) (lines : List Line) (result : Option FlatResult) → length (args_code x args) + length lines + length (taken x result) ≡ length (ones (args_code x args) ++ (lines ++ ones (taken x result)))
call_size x args lines result =
    let a = length-ones (args_code x args) in
    let b = length-ones (taken x result) in
    let c = length-append (ones (args_code x args)) (lines ++ ones (taken x result)) in
    let d = length-append lines (ones (taken x result)) in
    omega arith

through_size : (x : Context) (args : List Expr) (before : List Instr) (i : Instr) (result : Option FlatResult) → length (args_code x args) + (length before + 1) + length (taken x result) ≡ length (ones (args_code x args) ++ ones (before ++ (i ∷ taken x result)))
through_size x args before i result =
    let a = length-ones (args_code x args) in
    let b = length-ones (before ++ (i ∷ taken x result)) in
    let c = length-append (ones (args_code x args)) (ones (before ++ (i ∷ taken x result))) in
    let d = length-append before (i ∷ taken x result) in
    omega arith

module _ (w : World) (R : Mention → Type 0) (x : Layout) (p : PlacedProgram w R x) (n : ℕ) (bodies : Bodies w R x (chain w R x p) n) (key : Key) (unit : UnitCode) (r : Routine) (has_unit : Some unit ≡ w.program.unit key.unit) (has_routine : Some r ≡ slice_get unit.routines key.number) (i : IsPlaced w R x key unit r) (live : Live) (g : Suited w x (chain w R x p) live key r) where
  abbrev site : Site
  site = x.site key

  abbrev Flow : ℕ → Step → Type 0
  Flow pointer step = StepFlows w site live (suc n) pointer step

  low : 128 ≤ live.frame.sp
  low = floor w R x p key unit r has_unit has_routine live g

  ends : EndsErrors w live site.context.addresses.error_routine
  ends = ends_at w R x p key unit r i live (ends_errors w R x p site live g.fits g.constants)

  own_is : live.frame.unit ≡ key.unit
  own_is = g.fits.suits.unit ∙ ap (λ (c : Context). c.own) i.context

  names_are : live.frame.names ≡ unit.names
  names_are = g.fits.suits.names ∙ ap (λ (c : Context). c.unit.names) i.context

  -- what the frame names is what the unit names
  frame_names : (place : ℕ) (name : Name) → named key.unit unit.names place ≡ Some name → named live.frame.unit live.frame.names place ≡ Some name
  frame_names place name e = ap (λ own. named own live.frame.names place) own_is ∙ ap (λ names. named key.unit names place) names_are ∙ e

  key_is : (place number : ℕ) (name : Name) → named key.unit unit.names place ≡ Some name → (other : Key) → key_of live.frame place number ≡ Ok other → other ≡ record { unit = name; number = number }
  key_is place number name e other h =
      let named_so = frame_names place name e in
      let found : key_of live.frame place number ≡ Ok (record { unit = name; number = number }) = ap (λ (o : Option Name). if_placed o >>= λ name. Ok (record { unit = name; number = number })) named_so in
      sym (ap (λ f. key_in f other) (sym found ∙ h))

  -- from a routine of the runtime only such ones are called, by shorter chains
  may_call : (other : Key) (called : Routine) → (r.frame ≡ 0 → (called.frame ≡ 0) × (activation_bytes r + chain w R x p other ≤ chain w R x p key)) → HasRoomFor w R x p live other called
  may_call other called h = room_for w R x p key r live g other called (⊎_elim (λ none. let zero_frame : r.frame ≡ 0 = omega (arith, none) in let z = h zero_frame in inr (zero_frame, z.0, z.1)) (λ one. inl (omega (arith, one))) (cases_lt r.frame 1))

  -- room for arguments that a routine takes
  args_room : (args depth : ℕ) (other : Key) (there : UnitCode) (called : Routine) → Some there ≡ w.program.unit other.unit → Some called ≡ slice_get there.routines other.number → HasRoomFor w R x p live other called → called.arguments ≡ 2 * args → depth ≤ 24 → 68 + 2 * (args + depth) ≤ live.frame.sp
  args_room args depth other there called h0 h1 may same few =
      let stack = has_stack w R x p live other there called h0 h1 may in
      let four = four_bytes called.far in
      let shallow = stack.shallow in
      ⊎_elim (λ none. let deep = stack.deep (omega (arith, none)) in omega (arith, deep, four, same, few)) (λ one. let tall = stack.tall (omega (arith, one)) in omega (arith, tall, shallow, same, few)) (cases_lt called.frame 1)

  paid_for : (args more result : ℕ) → args + more + result ≤ x.most → 8 + args + x.most + result ≤ w.rate
  paid_for args more result few = let paid = p.paid in omega (arith, few, paid)

  -- what a call hands over and wants fits the routine
  abbrev Handed : ℕ → Option FlatResult → Routine → Type 0
  Handed args result called = (called.arguments ≡ 2 * args) × MatchOption result (Unit {0}) (λ wanted. MatchOption called.result ⊥ (λ given. given.bytes ≡ wanted.bytes))

  -- ## Calls

  call_step : (pointer place number : ℕ) (args : List Expr) (result : Option FlatResult) → StepNames R key.unit unit.names (Call place number args result) → (loops : ℕ) → StepFits w.program key.unit unit.names loops (Call place number args result) → exprs_depth args ≤ 24 → StepIsExpressible w.program key.unit unit.names (Call place number args result) → (r.frame ≡ 0 → StepNames (λ mention. RuntimeCalls w.program (chain w R x p) (activation_bytes r) key mention) key.unit unit.names (Call place number args result)) → length (args_code site.context args) + length (call_code site.context place number) + length (taken site.context result) ≤ x.most → Flow pointer (Call place number args result)
  call_step pointer place number args result names loops fit few say run_time size =
      let one = named_there key.unit unit.names place (λ name. R (ToRoutine (record { unit = name; number = number }))) names.0 in
      let other : Key = record { unit = one.name; number = number } in
      let t = target w.program other (Handed (length args) result) (at_name key.unit unit.names place one.name (λ name. FitsCall w.program (record { unit = name; number = number }) (length args) result) one.found fit) in
      let may = may_call other t.routine (λ none. also w.program other (Handed (length args) result) (λ c. (c.frame ≡ 0) × (activation_bytes r + chain w R x p other ≤ chain w R x p key)) t
      (at_name key.unit unit.names place one.name (λ name. RuntimeCalls w.program (chain w R x p) (activation_bytes r) key (ToRoutine (record { unit = name; number = number }))) one.found (run_time none).0)) in
      call_flows w site live g.fits ends g.chained n x.most pointer place number args result say.0
      (wanted_sized result t.routine.result (sized w R x p other t.unit t.routine t.has_unit t.has_routine) t.holds.1)
      (args_room (length args) (exprs_depth args) other t.unit t.routine t.has_unit t.has_routine may t.holds.0 few)
      (paid_for (length (args_code site.context args)) (length (call_code site.context place number)) (length (taken site.context result)) size)
      (λ called e. subst (λ k. Callable w site live k (call_code site.context place number) n x.most) (sym (key_is place number one.name one.found called e))
      (by_name w R x p n bodies key unit r i live g other t.unit t.routine one.holds t.has_unit t.has_routine may has_unit place number one.name one.found refl
      (λ elsewhere. also w.program other (Handed (length args) result) (λ c. c.far ≡ true) t (far_elsewhere place one.name one.found elsewhere say.1))))
    where
      far_elsewhere : (place : ℕ) (name : Name) → named key.unit unit.names place ≡ Some name → 0 < place → IsFarElsewhere w.program key.unit unit.names place number → IsFar w.program (record { unit = name; number = number })
      far_elsewhere zero name e less h = absurd (omega (arith, less))
      far_elsewhere (suc k) name e less h = at_name key.unit unit.names (suc k) name (λ name. IsFar w.program (record { unit = name; number = number })) e h

  -- a routine of the runtime
  routine_step : (pointer number : ℕ) (args : List Expr) (result : Option FlatResult) → R (ToRoutine (runtime_key (5 + number))) → FitsCall w.program (runtime_key (5 + number)) (length args) result → exprs_depth args ≤ 24 → StepIsExpressible w.program key.unit unit.names (Runtime (suc (suc (suc (suc (suc number))))) args result) → (r.frame ≡ 0 → RuntimeCalls w.program (chain w R x p) (activation_bytes r) key (ToRoutine (runtime_key (5 + number)))) → length (args_code site.context args) + 1 + length (taken site.context result) ≤ x.most → Flow pointer (Runtime (suc (suc (suc (suc (suc number))))) args result)
  routine_step pointer number args result reached fit few say run_time size =
      let other : Key = runtime_key (5 + number) in
      let t = target w.program other (Handed (length args) result) fit in
      let may = may_call other t.routine (λ none. also w.program other (Handed (length args) result) (λ c. (c.frame ≡ 0) × (activation_bytes r + chain w R x p other ≤ chain w R x p key)) t (run_time none)) in
      let far = also w.program other (Handed (length args) result) (λ c. c.far ≡ true) t say.1 in
      let lines = ap (λ (c : Context). call_far (c.addresses.far other)) i.context in
      runtime_flows w site live g.fits ends g.chained n x.most pointer number args result say.0
      (wanted_sized result t.routine.result (sized w R x p other t.unit t.routine t.has_unit t.has_routine) t.holds.1)
      (args_room (length args) (exprs_depth args) other t.unit t.routine t.has_unit t.has_routine may t.holds.0 few)
      (paid_for (length (args_code site.context args)) 1 (length (taken site.context result)) size)
      (subst (λ ls. Callable w site live other ls n x.most) (sym lines) (far_callable w R x p n bodies key unit r i live g other t.unit t.routine reached t.has_unit t.has_routine may far))

  -- a call through a pointer, which no routine of the runtime has
  through_step : (pointer : ℕ) (at : Address) (args : List Expr) (result : Option FlatResult) → exprs_depth args ≤ 24 → StepIsExpressible w.program key.unit unit.names (CallThrough at args result) → (r.frame ≡ 0 → ⊥) → length (args_code site.context args) + (length (loads site.context at) + 1) + length (taken site.context result) ≤ x.most → Flow pointer (CallThrough at args result)
  through_step pointer at args result few say source size =
      let one : 0 < r.frame = ⊎_elim (λ none. absurd (source (omega (arith, none)))) (λ more. omega (arith, more)) (cases_lt r.frame 1) in
      let tall = g.tall one in
      let small = say.1 in
      let paid = p.paid in
      through_flows w site live g.fits ends g.chained n x.most pointer at args result say.0 say.2 (omega (arith, tall, small, few)) (omega (arith, paid, size))
      (λ place other e. callable one place other e)
    where
      Far : Key → Routine → Type 0
      Far other called = called.far ≡ true

      callable : 0 < r.frame → (place : Place) (other : Key) → w.choice.callee place ≡ Some other → FarCallable w site live other place n x.most
      callable one place other e =
          let far_is = (p.legal.callee other place).0 e in
          let h = p.legal.far_only other (ap is_some far_is) in
          let t = target w.program other (Far other) (subst (λ o. MatchOption o ⊥ (Far other)) (sym h.1) h.2) in
          subst (λ q. FarCallable w site live other q n x.most) (p.far other place far_is)
          (pointer_callable w R x p n bodies key unit r i live g other t.unit t.routine h.3 t.has_unit t.has_routine (room_for w R x p key r live g other t.routine (inl one)) t.holds)

  -- ## Acts

  act_step : (pointer number : ℕ) (args : List Expr) (result : Option FlatResult) → RuntimeNames R number → FitsRuntime w.program number (length args) result → exprs_depth args ≤ 24 → StepIsExpressible w.program key.unit unit.names (Runtime number args result) → (r.frame ≡ 0 → RuntimeNames (λ mention. RuntimeCalls w.program (chain w R x p) (activation_bytes r) key mention) number) → length (args_code site.context args) + length (runtime_code site.context number) + length (taken site.context result) ≤ x.most → Flow pointer (Runtime number args result)
  act_step pointer zero args result names fit few say run_time size =
      let l = low in
      let four = fit.0 in
      subst (λ z. Flow pointer (Runtime 0 args z)) (sym fit.1) (write_flows w site live g.fits (suc n) pointer ends args say.0 (omega (arith, l, four, few)))
  act_step pointer (suc zero) args result names fit few say run_time size =
      let l = low in
      let none = fit.0 in
      read_flows w site live g.fits (suc n) pointer ends args result say.0 (omega (arith, l, none, few))
  act_step pointer (suc (suc zero)) args result names fit few say run_time size =
      let l = low in
      let one = fit.0 in
      subst (λ z. Flow pointer (Runtime 2 args z)) (sym fit.1) (end_flows w site live g.fits (suc n) pointer ends args say.0 (omega (arith, l, one, few)))
  act_step pointer (suc (suc (suc zero))) [] result names fit few say run_time size =
      let l = low in
      let paid = p.paid in
      subst (λ z. Flow pointer (Runtime 3 [] z)) (sym fit.1)
      (clear_flows w site live g.fits g.chained (subst (λ (c : Context). HasClear w c.addresses.clear_routine) (sym i.context) p.clear) (omega (arith, l)) (omega (arith, paid)) (suc n) pointer)
  act_step pointer (suc (suc (suc zero))) (e ∷ es) result names fit few say run_time size = let none = fit.0 in absurd (omega (arith, none))
  act_step pointer (suc (suc (suc (suc zero)))) [] result names fit few say run_time size =
      let l = low in
      let paid = p.paid in
      subst (λ z. Flow pointer (Runtime 4 [] z)) (sym fit.1)
      (flag_flows w site live g.fits g.chained p.flag_offset p.flag (subst (λ (c : Context). HasService w c.addresses.flag_routine (flag_code p.flag_offset)) (sym i.context) p.set) (omega (arith, l)) (omega (arith, paid)) (suc n) pointer)
  act_step pointer (suc (suc (suc (suc zero)))) (e ∷ es) result names fit few say run_time size = let none = fit.0 in absurd (omega (arith, none))
  act_step pointer (suc (suc (suc (suc (suc number))))) args result names fit few say run_time size = routine_step pointer number args result names fit few say run_time size

  -- ## Stored routines

  constant_fixed : (offset v : ℕ) → IsConstant w x offset v → IsFixed live w.choice.data_segment offset v
  constant_fixed offset v c = record {
    small = c.small;
    low = g.constants (address w.choice.data_segment offset) (v % 256) c.low;
    high = g.constants (address w.choice.data_segment (next_offset offset)) (v / 256) c.high;
  }

  pointer_holds : (pointer place number : ℕ) (to : Address) → StepPointer w x site pointer (StoreRoutine to place number) → HoldsPointer w site live pointer place number
  pointer_holds pointer place number to h = record {
    offset = λ q e. constant_fixed (pointer_offset site pointer 0) q.offset (both q e).0;
    segment = λ q e. constant_fixed (pointer_offset site pointer 2) q.segment (both q e).1;
  }
    where
      place_in : Found Place → Place → Place
      place_in (Ok q) other = q
      place_in (Err trap) other = other

      Both : Place → Type 0
      Both q = IsConstant w x (pointer_offset site pointer 0) q.offset × IsConstant w x (pointer_offset site pointer 2) q.segment

      by_far : (name : Name) → named site.context.own site.context.unit.names place ≡ Some name → (q : Place) (o : Option Place) → w.choice.far (record { unit = name; number = number }) ≡ o → if_placed o ≡ Ok q → Both q
      by_far name e q None far z = absurd (cc)
      by_far name e q (Some q2) far z = subst Both (ap (λ f. place_in f q) z) (h name q2 e far)

      by_name_of : (q : Place) (o : Option Name) → named site.context.own site.context.unit.names place ≡ o → ((if_placed o >>= λ name. Ok (record { unit = name; number = number })) >>= λ k. if_placed (w.choice.far k)) ≡ Ok q → Both q
      by_name_of q None e z = absurd (cc)
      by_name_of q (Some name) e z = by_far name e q (w.choice.far (record { unit = name; number = number })) refl z

      both : (q : Place) → routine_pointer w.choice live.frame place number ≡ Ok q → Both q
      both q e = by_name_of q (named site.context.own site.context.unit.names place) refl (sym (ap (λ o. (if_placed o >>= λ name. Ok (record { unit = name; number = number })) >>= λ k. if_placed (w.choice.far k)) same) ∙ e)
        where
          same : named live.frame.unit live.frame.names place ≡ named site.context.own site.context.unit.names place
          same = ap (λ own. named own live.frame.names place) g.fits.suits.unit ∙ ap (λ names. named site.context.own names place) g.fits.suits.names

  -- ## All of them

  pub step_flows : (around : Around) (pointer : ℕ) (step : Step) → StepNames R key.unit unit.names step → (loops : ℕ) → StepFits w.program key.unit unit.names loops step → step_depth step ≤ 24 → StepIsExpressible w.program key.unit unit.names step → StepPointer w x site pointer step → (r.frame ≡ 0 → StepNames (λ mention. RuntimeCalls w.program (chain w R x p) (activation_bytes r) key mention) key.unit unit.names step) → (r.frame ≡ 0 → IsNoThrough step) → length (step_lines site.context around pointer step) ≤ x.most → Flow pointer step
  step_flows around pointer (StoreByte to value) names loops fit few say holds run_time direct size = let l = low in byte_flows w site live g.fits (suc n) pointer ends to value say (omega (arith, l, few))
  step_flows around pointer (StoreWord to value) names loops fit few say holds run_time direct size = let l = low in word_flows w site live g.fits (suc n) pointer ends to value say (omega (arith, l, few))
  step_flows around pointer (Copy to from bytes) names loops fit few say holds run_time direct size = let l = low in copy_flows w site live g.fits (suc n) pointer ends to from bytes say (omega (arith, l))
  step_flows around pointer (Leave count) names loops fit few say holds run_time direct size = leave_flows w site live g.fits (suc n) pointer count
  step_flows around pointer (Call place number args result) names loops fit few say holds run_time direct size =
      let whole = call_size site.context args (call_code site.context place number) result in
      call_step pointer place number args result names loops fit few say run_time (omega (arith, whole, size))
  step_flows around pointer (CallThrough at args result) names loops fit few say holds run_time direct size =
      let whole = through_size site.context args (loads site.context at) (instr.CallFarIndirect (operand site.context at 0)) result in
      through_step pointer at args result few say direct (omega (arith, whole, size))
  step_flows around pointer (Runtime number args result) names loops fit few say holds run_time direct size =
      let whole = call_size site.context args (runtime_code site.context number) result in
      act_step pointer number args result names.0 fit few say (λ none. (run_time none).0) (omega (arith, whole, size))
  step_flows around pointer (StoreRoutine to place number) names loops fit few say holds run_time direct size = let l = low in routine_flows w site live g.fits (suc n) pointer to place number (pointer_holds pointer place number to holds) (omega (arith, l))
  step_flows around pointer Return names loops fit few say holds run_time direct size = return_flows w site live g.fits (suc n) pointer
  step_flows around pointer (Error code) names loops fit few say holds run_time direct size = let l = low in fail_flows w site live g.fits (suc n) pointer code ends say (omega (arith, l))
