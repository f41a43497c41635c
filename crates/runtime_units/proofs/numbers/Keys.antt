-- Numbers and units of the runtime's routines.
use Rattle.std.specs.Prelude.{◌≡◌}
use Rattle.std.proofs.Common.{refl}
use Rattle.runtime_units.specs.numbers.Named.{IsInUnit, IsInOverlay}
use Rattle.runtime_units.specs.declared.numbers.numbers.RuntimeRoutine.{RuntimeRoutine}
use Rattle.runtime_units.specs.declared.numbers.numbers.RuntimeRoutine.TheVariants as routine
use Rattle.runtime_units.specs.declared.numbers.numbers.RuntimeGlobal.{RuntimeGlobal}
use Rattle.runtime_units.specs.declared.numbers.numbers.RuntimeGlobal.TheVariants as global

pub in_unit : (r : RuntimeRoutine) → IsInUnit r
in_unit routine.WriteString = refl
in_unit routine.WriteChar = refl
in_unit routine.WriteBoolean = refl
in_unit routine.WriteLine = refl
in_unit routine.Eof = refl
in_unit routine.Eoln = refl
in_unit routine.ReadChar = refl
in_unit routine.ReadLine = refl
in_unit routine.WriteInteger = refl
in_unit routine.ReadString = refl
in_unit routine.ValValue = refl
in_unit routine.ValPlace = refl
in_unit routine.ReadNumber = refl
in_unit routine.Str = refl
in_unit routine.Negation = refl
in_unit routine.Product = refl
in_unit routine.Less = refl
in_unit routine.Quotient = refl
in_unit routine.Remainder = refl
in_unit routine.Sum = refl
in_unit routine.Difference = refl
in_unit routine.Equal = refl
in_unit routine.LeftShift = refl
in_unit routine.RightShift = refl
in_unit routine.Range = refl
in_unit routine.Assign = refl
in_unit routine.Concat = refl
in_unit routine.Insert = refl
in_unit routine.Copy = refl
in_unit routine.Delete = refl
in_unit routine.UpCase = refl
in_unit routine.Compare = refl
in_unit routine.Pos = refl
in_unit routine.Union = refl
in_unit routine.SetDifference = refl
in_unit routine.Intersection = refl
in_unit routine.SameSet = refl
in_unit routine.Subset = refl
in_unit routine.Member = refl
in_unit routine.Include = refl
in_unit routine.LoadByte = refl
in_unit routine.LoadShort = refl
in_unit routine.LoadWord = refl
in_unit routine.Move = refl
in_unit routine.Between = refl
in_unit routine.Method = refl
in_unit routine.ClassSize = refl
in_unit routine.OvrInit = refl
in_unit routine.OvrSetBuf = refl
in_unit routine.OvrClearBuf = refl
in_unit routine.New = refl
in_unit routine.Dispose = refl
in_unit routine.Clear = refl

pub in_overlay : (g : RuntimeGlobal) → IsInOverlay g
in_overlay global.OvrResult = refl
in_overlay global.HeapSegment = refl
in_overlay global.HeapBytes = refl
in_overlay global.OvrName = refl
in_overlay global.Scratch = refl
