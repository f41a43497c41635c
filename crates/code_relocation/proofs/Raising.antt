-- Segments in the image that are filled in, and then made loaded ones.
use Rattle.std.proofs.Common.{◌≡◌, ℕ, zero, suc, ◌+◌, ◌≤◌, ◌⊎◌, ⊎_elim, inl, inr, List, [], ◌∷◌, ◌++◌, length, take, drop, refl, sym, ap, subst, ◌∙◌, arith, length-append}
use Rattle.std.specs.Prelude.{All}
use Rattle.std.proofs.lemmas.List.{length-take-le, length-drop}
use Rattle.std.proofs.lemmas.List.Elements.{All-head, All-tail, All-weaker}
use Rattle.object_file.specs.declared.object_unit.object.Ref.{Ref}
use Rattle.object_file.specs.declared.object_unit.object.RefKind.{RefKind}
use Rattle.object_file.specs.declared.object_unit.object.RefKind.TheVariants as kind
use Rattle.x86_table.specs.Spelling.{word_bytes}
use Rattle.flat_code.specs.declared.memory.Place.{Place}
use Rattle.flat_code.specs.Program.{Name, Key}
use Rattle.code_templates.specs.code_lines.Addresses.{Addresses}
use Rattle.codegen_8086.specs.object_code.Resolved.{far_words, word_in, filling, key_of, replaced, resolved, runtime_place}
use Rattle.mz_file.specs.Load.{with_loaded_segment}
use Rattle.code_relocation.specs.Raised.{loaded_place, loaded_addresses, width_of, segment_by, segment_places, AreApart, AreSeparate, with_loaded, RaisingLaw}
use Rattle.code_relocation.proofs.Bytes.{IsWordClear, loaded_clear, word_kept, segment_loaded, far_loaded}

-- ---- lengths

far_length : (p : Place) → length (far_words p) ≡ 4
unfolding word_bytes
far_length p = refl

word_length : (w : ℕ) → length (word_bytes w) ≡ 2
unfolding word_bytes
word_length w = refl

filling_length : (a : Addresses) (k : RefKind) (key : Key) (end there : ℕ) → length (filling a k key end there) ≡ width_of k
filling_length a kind.FarRoutine key end there = far_length (a.far key)
filling_length a kind.NearRoutine key end there = word_length _
filling_length a kind.DataOffset key end there = word_length _
filling_length a kind.DataSegment key end there = word_length _
filling_length a kind.Vmt key end there = word_length _
filling_length a kind.Runtime key end there = far_length (runtime_place a key.number)

least_width : (k : RefKind) → 2 ≤ width_of k
least_width kind.FarRoutine = omega arith
least_width kind.NearRoutine = omega arith
least_width kind.DataOffset = omega arith
least_width kind.DataSegment = omega arith
least_width kind.Vmt = omega arith
least_width kind.Runtime = omega arith

replaced_length : (bytes new : List ℕ) (offset : ℕ) → offset + length new ≤ length bytes → length (replaced offset new bytes) ≡ length bytes
replaced_length bytes new offset inside =
    let rest = drop (offset + length new) bytes in
    let whole = length-append (take offset bytes) (new ++ rest) in
    let behind = length-append new rest in
    let front = length-take-le offset bytes (omega (arith, inside)) in
    omega (arith, inside, whole, behind, front, length-drop (offset + length new) bytes)

-- ---- one reference

runtime_loaded : (a : Addresses) (number : ℕ) → runtime_place (loaded_addresses a) number ≡ loaded_place (runtime_place a number)
runtime_loaded a zero = refl
runtime_loaded a (suc zero) = refl
runtime_loaded a (suc (suc zero)) = refl
runtime_loaded a (suc (suc (suc zero))) = refl
runtime_loaded a (suc (suc (suc (suc zero)))) = refl
runtime_loaded a (suc (suc (suc (suc (suc number))))) = refl

one_loaded : (a : Addresses) (k : RefKind) (key : Key) (end there offset : ℕ) (bytes : List ℕ) → offset + width_of k ≤ length bytes
    → with_loaded (replaced offset (filling a k key end there) bytes) (segment_by k offset) ≡ replaced offset (filling (loaded_addresses a) k key end there) bytes
one_loaded a kind.FarRoutine key end there offset bytes inside = far_loaded bytes offset (a.far key).offset (a.far key).segment inside
one_loaded a kind.NearRoutine key end there offset bytes inside = refl
one_loaded a kind.DataOffset key end there offset bytes inside = refl
one_loaded a kind.DataSegment key end there offset bytes inside = segment_loaded bytes offset a.data_segment inside
one_loaded a kind.Vmt key end there offset bytes inside = refl
one_loaded a kind.Runtime key end there offset bytes inside =
    let place = runtime_place a key.number in
    far_loaded bytes offset place.offset place.segment inside ∙ ap (λ (q : Place). replaced offset (far_words q) bytes) (sym (runtime_loaded a key.number))

-- ---- the references behind

module _ (a : Addresses) (own : Name) (names : List Name) (p : ℕ) where
  -- the bytes in which a reference is filled
  abbrev filled : List ℕ → Ref → List ℕ
  filled bytes r = replaced r.offset (filling a r.kind (key_of own names r) (p + r.offset + 2) (word_in r.offset bytes)) bytes

  filled_length : (bytes : List ℕ) (r : Ref) → r.offset + width_of r.kind ≤ length bytes → length (filled bytes r) ≡ length bytes
  filled_length bytes r inside =
      let new = filling a r.kind (key_of own names r) (p + r.offset + 2) (word_in r.offset bytes) in
      replaced_length bytes new r.offset (omega (arith, inside, filling_length a r.kind (key_of own names r) (p + r.offset + 2) (word_in r.offset bytes)))

  sized : (n m : ℕ) (refs : List Ref) → n ≡ m → AreSeparate m refs → AreSeparate n refs
  sized n m refs e h = subst (λ (size : ℕ). AreSeparate size refs) (sym e) h

  -- one that leaves the word of a segment alone
  passes : (bytes : List ℕ) (r : Ref) (place : ℕ) → r.offset + width_of r.kind ≤ length bytes → IsWordClear r.offset (width_of r.kind) place
      → with_loaded_segment (filled bytes r) place ≡ filled (with_loaded_segment bytes place) r
  passes bytes r place inside clear =
      let key = key_of own names r in
      let end = p + r.offset + 2 in
      let there = word_in r.offset bytes in
      let new = filling a r.kind key end there in
      let size = filling_length a r.kind key end there in
      let small = least_width r.kind in
      let so : IsWordClear r.offset (length new) place = subst (λ (n : ℕ). IsWordClear r.offset n place) (sym size) clear in
      let word_clear : IsWordClear r.offset 2 place = ⊎_elim (λ h. inl h) (λ h. inr (omega (arith, h, small))) clear in
      loaded_clear bytes new r.offset place (omega (arith, inside, size)) so
      ∙ ap (λ (w : ℕ). replaced r.offset (filling a r.kind key end w) (with_loaded_segment bytes place)) (sym (word_kept bytes r.offset place word_clear))

  all_pass : (bytes : List ℕ) (refs : List Ref) (place : ℕ) → AreSeparate (length bytes) refs → All (λ r. IsWordClear r.offset (width_of r.kind) place) refs
      → with_loaded_segment (resolved a own names p bytes refs) place ≡ resolved a own names p (with_loaded_segment bytes place) refs
  all_pass bytes [] place apart clear = refl
  all_pass bytes (r ∷ refs) place apart clear =
      let C = λ (r : Ref). IsWordClear r.offset (width_of r.kind) place in
      all_pass (filled bytes r) refs place (sized (length (filled bytes r)) (length bytes) refs (filled_length bytes r apart.0) apart.2) (All-tail C r refs clear)
      ∙ ap (λ (zs : List ℕ). resolved a own names p zs refs) (passes bytes r place apart.0 (All-head C r refs clear))

  -- the references that are apart from one leave its segment alone
  all_clear : (one : Ref) (place : ℕ) → one.offset ≤ place → place + 2 ≤ one.offset + width_of one.kind → (refs : List Ref) → All (AreApart one) refs
      → All (λ r. IsWordClear r.offset (width_of r.kind) place) refs
  all_clear one place first last refs apart = All-weaker (AreApart one) (λ r. IsWordClear r.offset (width_of r.kind) place) (λ r h. ⊎_elim (λ q. inl (omega (arith, q, last))) (λ q. inr (omega (arith, q, first))) h) refs apart

  segment_passes : (bytes : List ℕ) (one : Ref) (k : RefKind) (refs : List Ref) → one.kind ≡ k → AreSeparate (length bytes) refs → All (AreApart one) refs
      → with_loaded (resolved a own names p bytes refs) (segment_by k one.offset) ≡ resolved a own names p (with_loaded bytes (segment_by k one.offset)) refs
  segment_passes bytes one kind.FarRoutine refs is separate apart =
      let width : width_of one.kind ≡ 4 = ap width_of is in
      all_pass bytes refs (one.offset + 2) separate (all_clear one (one.offset + 2) (omega arith) (omega (arith, width)) refs apart)
  segment_passes bytes one kind.NearRoutine refs is separate apart = refl
  segment_passes bytes one kind.DataOffset refs is separate apart = refl
  segment_passes bytes one kind.DataSegment refs is separate apart =
      let width : width_of one.kind ≡ 2 = ap width_of is in
      all_pass bytes refs one.offset separate (all_clear one one.offset (omega arith) (omega (arith, width)) refs apart)
  segment_passes bytes one kind.Vmt refs is separate apart = refl
  segment_passes bytes one kind.Runtime refs is separate apart =
      let width : width_of one.kind ≡ 4 = ap width_of is in
      all_pass bytes refs (one.offset + 2) separate (all_clear one (one.offset + 2) (omega arith) (omega (arith, width)) refs apart)

-- ---- all of them

with_loaded-append : (bytes xs ys : List ℕ) → with_loaded bytes (xs ++ ys) ≡ with_loaded (with_loaded bytes xs) ys
with_loaded-append bytes [] ys = refl
with_loaded-append bytes (x ∷ xs) ys = with_loaded-append (with_loaded_segment bytes x) xs ys

pub raised : RaisingLaw
raised a own names p bytes [] separate = refl
raised a own names p bytes (one ∷ refs) separate =
    let key = key_of own names one in
    let end = p + one.offset + 2 in
    let there = word_in one.offset bytes in
    let image = filled a own names p bytes one in
    let loaded = replaced one.offset (filling (loaded_addresses a) one.kind key end there) bytes in
    let here : length image ≡ length bytes = filled_length a own names p bytes one separate.0 in
    let there' : length loaded ≡ length bytes = filled_length (loaded_addresses a) own names p bytes one separate.0 in
    with_loaded-append (resolved a own names p image refs) (segment_by one.kind one.offset) (segment_places refs)
    ∙ ap (λ (zs : List ℕ). with_loaded zs (segment_places refs)) (segment_passes a own names p image one one.kind refs refl (sized a own names p (length image) (length bytes) refs here separate.2) separate.1)
    ∙ ap (λ (zs : List ℕ). with_loaded (resolved a own names p zs refs) (segment_places refs)) (one_loaded a one.kind key end there one.offset bytes separate.0)
    ∙ raised a own names p loaded refs (sized a own names p (length loaded) (length bytes) refs there' separate.2)
