-- What can be reached as a program starts.
use Rattle.std.proofs.Common.{◌≡◌, ℕ, ◌+◌, ◌*◌, ◌<◌, List, [], ◌∷◌, length, Option, Some, None, sym, ◌∙◌, arith}
use Rattle.flat_code.specs.declared.memory.Cell.TheVariants.{Known, Outside}
use Rattle.flat_code.specs.Memory.{Cells, region, word_bytes}
use Rattle.flat_code.specs.Program.{Name, Datum, Vmt, UnitCode, FlatProgram, Choice, heap_segment_key, heap_bytes_key, ovr_name_key}
use Rattle.flat_code.specs.Meaning.{number_bytes, filled, laid_at, with_data, vmt_bytes, with_vmts, with_unit, with_units, start_cells}
use Rattle.flat_code.proofs.Shut.{region_in}
use Rattle.runtime_proofs.proofs.text_memory.Buffer.{laid-reached}

module _ (program : FlatProgram) (choice : Choice) (x : ℕ) where
  abbrev Reached : Cells → Type 0
  Reached m = m x ≡ Outside → ⊥

  laid-at-reached : (o : Option ℕ) (bytes : List ℕ) (m : Cells) → Reached m → Reached (laid_at choice o bytes m)
  laid-at-reached None bytes m h = h
  laid-at-reached (Some offset) bytes m h = laid-reached m (record { segment = choice.data_segment; offset = offset }) 0 bytes x h

  data-reached : (name : Name) (number : ℕ) (data_of : List Datum) (m : Cells) → Reached m → Reached (with_data choice name number data_of m)
  data-reached name number [] m h = h
  data-reached name number (d ∷ rest) m h =
      let o = choice.datum (record { unit = name; number = number }) in
      data-reached name (number + 1) rest (laid_at choice o (filled d.size d.first) m) (laid-at-reached o (filled d.size d.first) m h)

  vmts-reached : (name : Name) (names : List Name) (number : ℕ) (vmts : List Vmt) (m : Cells) → Reached m → Reached (with_vmts choice name names number vmts m)
  vmts-reached name names number [] m h = h
  vmts-reached name names number (vmt ∷ rest) m h =
      let o = choice.vmt (record { unit = name; number = number }) in
      vmts-reached name names (number + 1) rest (laid_at choice o (vmt_bytes choice name names vmt) m) (laid-at-reached o (vmt_bytes choice name names vmt) m h)

  unit-reached : (name : Name) (o : Option UnitCode) (m : Cells) → Reached m → Reached (with_unit choice name o m)
  unit-reached name None m h = h
  unit-reached name (Some u) m h = vmts-reached name u.names 0 u.vmts (with_data choice name 0 u.globals m) (data-reached name 0 u.globals m h)

  units-reached : (names : List Name) (m : Cells) → Reached m → Reached (with_units program choice names m)
  units-reached [] m h = h
  units-reached (name ∷ names) m h = units-reached names (with_unit choice name (program.unit name) m) (unit-reached name (program.unit name) m h)

  pub start-reached : Reached (region (λ x. Outside) choice.heap_segment 0 program.heap (Known 0)) → Reached (start_cells program choice)
  start-reached h =
      let m0 = with_units program choice program.order (region (λ x. Outside) choice.heap_segment 0 program.heap (Known 0)) in
      let m1 = laid_at choice (choice.datum heap_segment_key) (word_bytes choice.heap_segment) m0 in
      let m2 = laid_at choice (choice.datum heap_bytes_key) (number_bytes 4 program.heap) m1 in
      laid-at-reached (choice.datum ovr_name_key) (length program.ovr_name ∷ program.ovr_name) m2 (laid-at-reached (choice.datum heap_bytes_key) (number_bytes 4 program.heap) m1 (laid-at-reached (choice.datum heap_segment_key) (word_bytes choice.heap_segment) m0 (units-reached program.order (region (λ x. Outside) choice.heap_segment 0 program.heap (Known 0)) h)))

-- each byte of the heap
pub heap-reached : (program : FlatProgram) (choice : Choice) (k : ℕ) → k < program.heap → start_cells program choice (16 * choice.heap_segment + k) ≡ Outside → ⊥
heap-reached program choice k h =
    let x = 16 * choice.heap_segment + k in
    let known = region_in (λ x. Outside) choice.heap_segment 0 program.heap (Known 0) x (omega arith) (omega (arith, h)) in
    start-reached program choice x (λ out. let r = sym known ∙ out in absurd (cc))
