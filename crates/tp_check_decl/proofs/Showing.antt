-- What a source shows, by the unit of its interface part.
use Rattle.std.proofs.Common.{◌≡◌, Ok, Err, subst, sym}
use Rattle.typed_tree.specs.declared.units.Unit as typed
use Rattle.unit_interface.specs.declared.interfaces.Interface.{Interface}
use Rattle.unit_interface.specs.Exports.{IsInterfaceOf}
use Rattle.typing_rules.specs.declared.faults.Refusal.{Refusal}
use Rattle.typing_rules.specs.declared.faults.Refusal.TheVariants as refusal
use Rattle.typing_rules.specs.Faults.{error_for, IsAnswered}
use Rattle.typing_rules.specs.Judgements.{Judgement, FailsAs}
use Rattle.typing_rules.specs.Laws.{Lawful}
use Rattle.typing_rules.proofs.JudgementLaws.{typed_answer, complete_answer, is_fault, excluded}
use Rattle.tp_check_decl.specs.Units.{Whole, view_unit}
use Rattle.tp_check_decl.specs.Shown.{Shows}

-- an interface of a unit is one of its view, since it has the unit's name, types and items
pub shows_of : (unit : typed.Unit) (interface : Interface) → IsInterfaceOf unit interface → Shows (view_unit unit) interface
shows_of unit interface h = record { reached = h.reached; exactly = h.exactly; is = h.is }

of_shows : (unit : typed.Unit) (interface : Interface) → Shows (view_unit unit) interface → IsInterfaceOf unit interface
of_shows unit interface h = record { reached = h.reached; exactly = h.exactly; is = h.is }

module _ (j : Judgement Whole) (m : Lawful j) (unit : typed.Unit) (is : j.run ≡ Ok (view_unit unit)) where
  -- what was read is the outline
  pub is_outline : j.holds (view_unit unit)
  is_outline = typed_answer view_unit j m (Ok unit) is

  -- what the outline shows is an interface of the unit
  pub shown_by : (outline : Whole) (interface : Interface) → j.holds outline → Shows outline interface → IsInterfaceOf unit interface
  shown_by outline interface holds shows =
      let P : Whole → Type 0 = λ one. Shows one interface in
      of_shows unit interface (subst P (sym (complete_answer view_unit j m (Ok unit) is outline holds)) shows)

-- where an outline is refused, there is none, unless memory runs out
pub refused_complete : (j : Judgement Whole) → Lawful j → (refused : Refusal) → FailsAs refused j.run → (outline : Whole) → j.holds outline → (interface : Interface)
    → IsAnswered (λ (one : Interface). one) interface (Err (error_for refused))
refused_complete j m refusal.NoMemory fails outline holds interface = tt
refused_complete j m (refusal.Because fault) fails outline holds interface =
    absurd (excluded j.holds j.fails j.run m outline fault holds (is_fault view_unit j.holds j.fails j.run fault fails m))
