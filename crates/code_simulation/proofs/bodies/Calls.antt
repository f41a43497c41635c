-- Which routines the code of a placed program can call, if the bodies do what they mean with fewer turns.
use Rattle.std.proofs.Common.{◌≡◌, ℕ, zero, suc, ◌+◌, ◌<◌, ◌≤◌, true, List, [], Option, Some, None, arith, sym, ap, subst, ◌∙◌}
use Rattle.std.specs.Prelude.{IsTrue, slice_get}
use Rattle.flat_code.specs.Legal.{Mention, ToRoutine}
use Rattle.flat_code.specs.Program.{Name, Key, Routine, UnitCode, named}
use Rattle.code_templates.specs.code_lines.Addresses.{Context, name_or_own, key_in}
use Rattle.code_templates.specs.code_lines.Lines.{call_far, call_own, call_own_if, call_code}
use Rattle.statement_simulation.specs.expressions.Evaluates.{IsCode}
use Rattle.statement_simulation.specs.flow.Outcomes.{EndsErrors}
use Rattle.statement_simulation.specs.flow.Sites.{World, Site, Live, Fits}
use Rattle.call_simulation.specs.frames.Callee.{Back, callee}
use Rattle.call_simulation.specs.frames.Chain.{IsChained}
use Rattle.call_simulation.specs.steps.Callable.{Callable}
use Rattle.call_simulation.specs.steps.Made.{BodyFlows}
use Rattle.call_simulation.proofs.steps.Callables.{own_callable}
use Rattle.call_simulation.specs.indirect_calls.FarCallable.{FarCallable}
use Rattle.call_simulation.proofs.indirect_calls.FarCalls.{far_calls}
use Rattle.code_simulation.specs.bodies.Layouts.{Layout, IsPlaced, PlacedProgram}
use Rattle.code_simulation.specs.bodies.Bodies.{Suited, Bodies}
use Rattle.code_simulation.proofs.bodies.Frames.{chain, sized, made_of, ends_errors, ends_at, HasRoomFor, has_stack, suited_callee}

abbrev name_of : Option Name → Name
name_of None = []
name_of (Some name) = name

abbrev routines_of : Option UnitCode → List Routine
routines_of None = []
routines_of (Some unit) = unit.routines

module _ (w : World) (R : Mention → Type 0) (x : Layout) (p : PlacedProgram w R x) (n : ℕ) (bodies : Bodies w R x (chain w R x p) n) where
  -- ## By far pointers, from anywhere

  module _ (caller : Site) (live : Live) (fits : Fits w caller live) (constants : (place byte : ℕ) → x.constants place ≡ Some byte → live.fixed place ≡ Some byte) (chained : IsTrue w.framed → IsChained w live) (other : Key) (there : UnitCode) (called : Routine) (reached : R (ToRoutine other)) (has_unit : Some there ≡ w.program.unit other.unit) (has_routine : Some called ≡ slice_get there.routines other.number) (room : HasRoomFor w R x p live other called) where
    ends_here : EndsErrors w live x.addresses.error_routine
    ends_here = ends_errors w R x p caller live fits constants

    pub placed_there : IsPlaced w R x other there called
    placed_there = p.routine other there called reached has_unit has_routine

    pub body : (k : ℕ) → BodyFlows w (x.site other) other.unit there called (x.pointer other) live (record { segment = caller.segment; offset = caller.at k }) n
    body k fits_inner chained_inner enough tall =
        let back : Back = record { segment = caller.segment; offset = caller.at k } in
        bodies other there called reached has_unit has_routine (callee w other.unit there called live back) (suited_callee w R x p caller live fits constants other there called has_unit has_routine room back fits_inner chained_inner enough tall)

    pub by_pointer : called.far ≡ true → FarCallable w caller live other (x.addresses.far other) n x.most
    by_pointer far = record {
      site = x.site other;
      unit = there;
      routine = called;
      pointer = x.pointer other;
      has_unit = has_unit;
      has_routine = has_routine;
      made = made_of w R x p other there called (sized w R x p other there called has_unit has_routine) placed_there;
      ends = ends_at w R x p other there called placed_there live ends_here;
      far = far;
      even = placed_there.even;
      stack = has_stack w R x p live other there called has_unit has_routine room;
      enters = placed_there.enters far;
      overlaid = placed_there.home;
      named = subst (λ to. IsCode w.machine to) (sym p.refusal) p.error_code;
      refusals = subst (λ to. EndsErrors w live to) (sym p.refusal) ends_here;
      body = body;
      short = placed_there.short;
    }

    pub by_far_call : called.far ≡ true → Callable w caller live other (call_far (x.addresses.far other)) n x.most
    by_far_call far = far_calls w caller live fits other (x.addresses.far other) n x.most (by_pointer far) chained

  -- ## From a routine

  module _ (key : Key) (unit : UnitCode) (r : Routine) (i : IsPlaced w R x key unit r) (live : Live) (g : Suited w x (chain w R x p) live key r) (other : Key) (there : UnitCode) (called : Routine) (reached : R (ToRoutine other)) (has_unit : Some there ≡ w.program.unit other.unit) (has_routine : Some called ≡ slice_get there.routines other.number) (room : HasRoomFor w R x p live other called) where
    abbrev site : Site
    site = x.site key

    beside_it : IsPlaced w R x other there called
    beside_it = p.routine other there called reached has_unit has_routine

    pub pointer_callable : called.far ≡ true → FarCallable w site live other (x.addresses.far other) n x.most
    pointer_callable = by_pointer site live g.fits g.constants g.chained other there called reached has_unit has_routine room

    pub far_callable : called.far ≡ true → Callable w site live other (call_far (x.addresses.far other)) n x.most
    far_callable = by_far_call site live g.fits g.constants g.chained other there called reached has_unit has_routine room

    -- by the label of a routine of the same unit
    pub by_label : (number : ℕ) → other ≡ record { unit = key.unit; number = number } → Callable w site live other (call_own called.far number) n x.most
    by_label number same =
        let at_other = subst (λ (k : Key). R (ToRoutine k)) same reached in
        own_callable w site live g.fits other (x.site other) there called (x.pointer other) n x.most has_unit has_routine
        (made_of w R x p other there called (sized w R x p other there called has_unit has_routine) beside_it)
        (ends_at w R x p other there called beside_it live (ends_errors w R x p site live g.fits g.constants)) beside_it.even
        (has_stack w R x p live other there called has_unit has_routine room) beside_it.short
        (body site live g.fits g.constants g.chained other there called reached has_unit has_routine room) number
        (ap (λ (k : Key). (x.site k).segment) same ∙ i.beside number at_other)
        (i.leads number at_other ∙ ap (λ (k : Key). (x.site k).at 0) (sym same))
        (λ e. ap w.program.overlaid (g.fits.suits.unit ∙ ap (λ (c : Context). c.own) i.context ∙ sym (ap (λ (k : Key). k.unit) same)) ∙ e)

    -- by what a statement names
    pub by_name : Some unit ≡ w.program.unit key.unit → (place number : ℕ) (name : Name) → named key.unit unit.names place ≡ Some name → other ≡ record { unit = name; number = number } → (0 < place → called.far ≡ true) → Callable w site live other (call_code site.context place number) n x.most
    by_name has_own zero number name e same far =
        let own : key.unit ≡ name = ap name_of e in
        let here : other ≡ record { unit = key.unit; number = number } = same ∙ ap (λ z. record { unit = z; number = number }) (sym own) in
        let units : Some unit ≡ Some there = has_own ∙ ap w.program.unit (sym (ap (λ (k : Key). k.unit) here)) ∙ sym has_unit in
        let found : slice_get site.context.unit.routines number ≡ Some called =
        ap (λ (c : Context). slice_get c.unit.routines number) i.context ∙ ap (λ o. slice_get (routines_of o) number) units ∙ ap (λ (k : Key). slice_get there.routines k.number) (sym here) ∙ sym has_routine in
        subst (λ lines. Callable w site live other lines n x.most) (sym (ap (call_own_if site.context number) found)) (by_label number here)
    by_name has_own (suc k) number name e same far =
        let lines =
        ap (λ (c : Context). call_far (c.addresses.far (key_in c (suc k) number))) i.context
        ∙ ap (λ o. call_far (x.addresses.far (record { unit = name_or_own key.unit o; number = number }))) e
        ∙ ap (λ (z : Key). call_far (x.addresses.far z)) (sym same) in
        subst (λ lines. Callable w site live other lines n x.most) (sym lines) (far_callable (far (omega arith)))
