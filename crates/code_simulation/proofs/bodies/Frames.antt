-- Activations that calls begin: what holds of the caller's stack and constants holds of the callee's.
use Rattle.std.proofs.Common.{◌≡◌, ℕ, ◌+◌, ◌-◌, ◌*◌, ◌<◌, ◌≤◌, ◌⊎◌, Bool, true, false, List, [], ◌∷◌, Option, Some, None, inl, inr, arith, refl, sym, ap, subst, ◌∙◌, ⊎_elim}
use Rattle.std.specs.Prelude.{IsTrue, MatchOption, slice_get}
use Rattle.std.specs.Option.{option_and_then}
use Rattle.std.proofs.lemmas.Bool.{cases_lt}
use Rattle.flat_code.specs.Calls.{activation_bytes, link_bytes, stack_top}
use Rattle.flat_code.specs.Legal.{Mention, HasResultSize}
use Rattle.flat_code.specs.Program.{Key, Routine, UnitCode, FlatProgram, routine_of}
use Rattle.cpu_8086.specs.Memory.{address}
use Rattle.code_templates.specs.code_lines.Addresses.{Context}
use Rattle.effect_simulation.specs.errors.Routine.{AreFixed, error_bytes, HasErrorRoutine}
use Rattle.effect_simulation.proofs.errors.Whole.{ends}
use Rattle.statement_simulation.specs.expressions.Evaluates.{IsCode}
use Rattle.statement_simulation.specs.flow.Outcomes.{EndsErrors}
use Rattle.statement_simulation.specs.flow.Sites.{World, Site, Live, Fits}
use Rattle.call_simulation.specs.frames.Callee.{Back, saved_at, kept_bp, fixed_return, callee}
use Rattle.call_simulation.specs.frames.Chain.{IsChained}
use Rattle.call_simulation.proofs.frames.Entry.{four_links}
use Rattle.call_simulation.proofs.frames.Fixed.{with_fixed_other}
use Rattle.call_simulation.specs.steps.Made.{Made, HasStack}
use Rattle.code_simulation.specs.bodies.Layouts.{Layout, IsPlaced, constant_live, PlacedProgram}
use Rattle.code_simulation.specs.bodies.Bodies.{Suited}

-- ## Routines by their keys

pub routine_is : (program : FlatProgram) (key : Key) (unit : UnitCode) (r : Routine) → Some unit ≡ program.unit key.unit → Some r ≡ slice_get unit.routines key.number → routine_of program key ≡ Some r
routine_is program key unit r has_unit has_routine = ap (option_and_then (λ (u : UnitCode). slice_get u.routines key.number)) (sym has_unit) ∙ sym has_routine

-- the routine of a key, of which something holds
pub record Target (program : FlatProgram) (key : Key) (P : Routine → Type 0) : Type 0 where
  pub unit : UnitCode
  pub routine : Routine
  pub has_unit : Some unit ≡ program.unit key.unit
  pub has_routine : Some routine ≡ slice_get unit.routines key.number
  pub holds : P routine

pub target : (program : FlatProgram) (key : Key) (P : Routine → Type 0) → MatchOption (routine_of program key) ⊥ P → Target program key P
target program key P = by (program.unit key.unit) refl
  where
    by_routine : (unit : UnitCode) → Some unit ≡ program.unit key.unit → (o : Option Routine) → o ≡ slice_get unit.routines key.number → MatchOption o ⊥ P → Target program key P
    by_routine unit e None h holds = absurd holds
    by_routine unit e (Some r) h holds = record { unit = unit; routine = r; has_unit = e; has_routine = h; holds = holds }

    by : (o : Option UnitCode) → o ≡ program.unit key.unit → MatchOption (option_and_then (λ (u : UnitCode). slice_get u.routines key.number) o) ⊥ P → Target program key P
    by None e holds = absurd holds
    by (Some unit) e holds = by_routine unit e (slice_get unit.routines key.number) refl holds

-- and something else
pub also : (program : FlatProgram) (key : Key) (P Q : Routine → Type 0) (t : Target program key P) → MatchOption (routine_of program key) ⊥ Q → Q t.routine
also program key P Q t holds = subst (λ o. MatchOption o ⊥ Q) (routine_is program key t.unit t.routine t.has_unit t.has_routine) holds

module _ (w : World) (R : Mention → Type 0) (x : Layout) (p : PlacedProgram w R x) where
  abbrev pub chain : Key → ℕ
  chain = p.shallow.chain

  pub sized : (key : Key) (unit : UnitCode) (r : Routine) → Some unit ≡ w.program.unit key.unit → Some r ≡ slice_get unit.routines key.number → HasResultSize r.result
  sized key unit r has_unit has_routine = (p.well_formed.bodies key unit r (sym has_unit) (routine_is w.program key unit r has_unit has_routine)).3

  pub made_of : (key : Key) (unit : UnitCode) (r : Routine) → HasResultSize r.result → IsPlaced w R x key unit r → Made w (x.site key) key.unit unit r (x.pointer key)
  made_of key unit r size i = record {
    placed = i.placed;
    error = subst (λ (c : Context). IsCode w.machine c.addresses.error_routine) (sym i.context) p.error_code;
    stands = i.stands;
    sized = size;
    own = sym (ap (λ (c : Context). c.own) i.context);
    names = sym (ap (λ (c : Context). c.unit.names) i.context);
    far = ap (λ (c : Context). c.far) i.context;
    datum = λ k offset e. ap (λ (c : Context). c.addresses.datum k) i.context ∙ p.datum k offset e;
    vmt = λ k offset e. let v = p.vmt k offset e in (ap (λ (c : Context). c.addresses.vmt k) i.context ∙ v.0, v.1);
    data_segment = p.data_small;
    stack_segment = p.stack_small;
  }

  -- ## Errors

  fixed_as : (live : Live) (segment offset : ℕ) (bytes : List ℕ) → ((place byte : ℕ) → x.constants place ≡ Some byte → live.fixed place ≡ Some byte) → AreFixed (constant_live w x) segment offset bytes → AreFixed live segment offset bytes
  fixed_as live segment offset [] constants h = tt
  fixed_as live segment offset (b ∷ bs) constants h = (constants (address segment offset) b h.0, fixed_as live segment (offset + 1) bs constants h.1)

  has_error : (live : Live) → ((place byte : ℕ) → x.constants place ≡ Some byte → live.fixed place ≡ Some byte) → HasErrorRoutine w live x.addresses.error_routine
  has_error live constants =
      let e = p.error in
      record {
        code = e.code;
        at = e.at;
        labels = e.labels;
        placed = e.placed;
        begins = e.begins;
        text = e.text;
        stands = e.stands;
        inside = e.inside;
        bytes = fixed_as live w.choice.data_segment e.text error_bytes constants e.bytes;
        enough = e.enough;
      }

  pub ends_errors : (site : Site) (live : Live) → Fits w site live → ((place byte : ℕ) → x.constants place ≡ Some byte → live.fixed place ≡ Some byte) → EndsErrors w live x.addresses.error_routine
  ends_errors site live fits constants = ends w site live x.addresses.error_routine fits (has_error live constants)

  -- at a site of a routine
  pub ends_at : (key : Key) (unit : UnitCode) (r : Routine) → IsPlaced w R x key unit r → (live : Live) → EndsErrors w live x.addresses.error_routine → EndsErrors w live (x.site key).context.addresses.error_routine
  ends_at key unit r i live e = subst (λ (c : Context). EndsErrors w live c.addresses.error_routine) (sym i.context) e

  -- ## The stack

  -- a call that the stack has room for: of the sources, or of the runtime by a shorter chain
  abbrev pub MayCall : Key → Routine → Key → Routine → Type 0
  MayCall key r other called = (0 < r.frame) ⊎ ((r.frame ≡ 0) × (called.frame ≡ 0) × (activation_bytes r + chain other ≤ chain key))

  pub floor : (key : Key) (unit : UnitCode) (r : Routine) → Some unit ≡ w.program.unit key.unit → Some r ≡ slice_get unit.routines key.number → (live : Live) → Suited w x chain live key r → 128 ≤ live.frame.sp
  floor key unit r has_unit has_routine live g =
      ⊎_elim
      (λ none.
      let zero_frame : r.frame ≡ 0 = omega (arith, none) in
      let deep = g.deep zero_frame in
      let short = p.shallow.covers key r (routine_is w.program key unit r has_unit has_routine) zero_frame in
      omega (arith, deep, short))
      (λ one. let tall = g.tall (omega (arith, one)) in omega (arith, tall)) (cases_lt r.frame 1)

  -- what a routine of the runtime finds
  deep_for : (key : Key) (r : Routine) (other : Key) (called : Routine) (live : Live) → Suited w x chain live key r → MayCall key r other called → 128 + chain other ≤ live.frame.sp
  deep_for key r other called live g (inl one) = let tall = g.tall one in let most = p.shallow.short other in omega (arith, tall, most)
  deep_for key r other called live g (inr h) = let deep = g.deep h.0 in let less = h.2 in omega (arith, deep, less)

  tall_for : (key : Key) (r : Routine) (other : Key) (called : Routine) (live : Live) → Suited w x chain live key r → MayCall key r other called → 0 < called.frame → (512 ≤ live.frame.sp) × (live.frame.sp + live.frame.sum ≡ stack_top w.program)
  tall_for key r other called live g (inl one) some = (g.tall one, g.sum one)
  tall_for key r other called live g (inr h) some = let none = h.1 in absurd (omega (arith, none, some))

  counted : (key : Key) (r : Routine) → routine_of w.program key ≡ Some r → 0 < r.frame → r.frame ≡ activation_bytes r
  counted key r e one = ⊎_elim (λ h. h) (λ none. absurd (omega (arith, none, one))) (p.shallow.frames key r e)

  -- So much of the stack is left for a call.
  pub record HasRoomFor (live : Live) (other : Key) (called : Routine) : Type 0 where
    pub tall : 0 < called.frame → (512 ≤ live.frame.sp) × (live.frame.sp + live.frame.sum ≡ stack_top w.program)
    pub deep : 128 + chain other ≤ live.frame.sp

  pub room_for : (key : Key) (r : Routine) (live : Live) → Suited w x chain live key r → (other : Key) (called : Routine) → MayCall key r other called → HasRoomFor live other called
  room_for key r live g other called may = record { tall = tall_for key r other called live g may; deep = deep_for key r other called live g may }

  pub has_stack : (live : Live) (other : Key) (unit : UnitCode) (called : Routine) → Some unit ≡ w.program.unit other.unit → Some called ≡ slice_get unit.routines other.number → HasRoomFor live other called → HasStack w live.frame called
  has_stack live other unit called has_unit has_routine room =
      let e = routine_is w.program other unit called has_unit has_routine in
      record {
        shallow = p.shallow.arguments other called e;
        tall = λ one. (room.tall one).0;
        counted = λ one. counted other called e one;
        sum = λ one. (room.tall one).1;
        deep = λ none. let deep = room.deep in let short = p.shallow.covers other called e none in omega (arith, deep, short);
      }

  -- ## The activation of the callee

  callee_constants : (site : Site) (live : Live) → Fits w site live → ((place byte : ℕ) → x.constants place ≡ Some byte → live.fixed place ≡ Some byte) → (other : Key) (unit : UnitCode) (called : Routine) (back : Back) → activation_bytes called ≤ live.frame.sp → (place byte : ℕ) → x.constants place ≡ Some byte → (callee w other.unit unit called live back).fixed place ≡ Some byte
  callee_constants site live fits constants other unit called back room place byte e =
      let base = 16 * w.choice.stack_segment in
      let saved = saved_at called live.frame in
      let here = constants place byte e in
      let four = four_links called.far in
      with_fixed_other (fixed_return called.far live.fixed (base + saved + 2) back.offset) (base + saved) (kept_bp called.far live.frame.bp) place (λ z. outside here (omega (arith, z, room, four)) (omega (arith, z, room, four))) (λ z. outside here (omega (arith, z, room, four)) (omega (arith, z, room, four)))
      ∙ by called.far four here
    where
      outside : live.fixed place ≡ Some byte → 16 * w.choice.stack_segment ≤ place → place < 16 * w.choice.stack_segment + live.frame.sp → ⊥
      outside here low high = let z = fits.above place byte here low in omega (arith, z, high)

      by : (far : Bool) → 4 ≤ link_bytes called.far → live.fixed place ≡ Some byte → fixed_return far live.fixed (16 * w.choice.stack_segment + saved_at called live.frame + 2) back.offset place ≡ Some byte
      by true four here = here
      by false four here =
          with_fixed_other live.fixed (16 * w.choice.stack_segment + saved_at called live.frame + 2) back.offset place (λ z. outside here (omega (arith, z, room, four)) (omega (arith, z, room, four))) (λ z. outside here (omega (arith, z, room, four)) (omega (arith, z, room, four))) ∙ here

  pub suited_callee : (site : Site) (live : Live) → Fits w site live → ((place byte : ℕ) → x.constants place ≡ Some byte → live.fixed place ≡ Some byte) → (other : Key) (unit : UnitCode) (called : Routine) → Some unit ≡ w.program.unit other.unit → Some called ≡ slice_get unit.routines other.number → HasRoomFor live other called → (back : Back) → Fits w (x.site other) (callee w other.unit unit called live back) → (IsTrue w.framed → IsChained w (callee w other.unit unit called live back)) → activation_bytes called ≤ live.frame.sp → (0 < called.frame → 512 + activation_bytes called ≤ live.frame.sp) → Suited w x chain (callee w other.unit unit called live back) other called
  suited_callee site live fits_caller constants other unit called has_unit has_routine left back fits chained room tall = record {
    fits = fits;
    chained = chained;
    constants = callee_constants site live fits_caller constants other unit called back room;
    tall = λ one. let z = tall one in omega (arith, z);
    sum = λ one.
        let e = counted other called (routine_is w.program other unit called has_unit has_routine) one in
        let sum = (left.tall one).1 in
        omega (arith, e, sum, room);
    deep = λ none. let deep = left.deep in omega (arith, deep, room);
  }
