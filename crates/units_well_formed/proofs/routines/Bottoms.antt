-- How many blocks are open.
use Rattle.std.proofs.Common.{◌≡◌, ◌⊎◌, inl, inr, ℕ, suc, ◌+◌, ◌≤◌, List, [], ◌∷◌, ◌++◌, length, refl, sym, subst, ap, ◌∙◌, arith, length-append}
use Rattle.declarations_well_formed.specs.scopes.declared.entries.Entry.{Entry}
use Rattle.declarations_well_formed.specs.scopes.declared.entries.BlockKind.{BlockKind}
use Rattle.declarations_well_formed.specs.scopes.declared.entries.BlockKind.TheVariants as block
use Rattle.declarations_well_formed.specs.scopes.declared.searches.OpenBlock.{OpenBlock}
use Rattle.declarations_well_formed.specs.scopes.Environment.{Environment, outer}
use Rattle.declarations_well_formed.specs.bodies_well_formed.other_units.Known.{opening, open_from}
use Rattle.declarations_well_formed.proofs.bodies_well_formed_proofs.other_units.Frames.{open_end}
use Rattle.declarations_well_formed.proofs.bodies_well_formed_proofs.other_units.Entering.{Ends, ends, these, record_end, outer_end}
use Rattle.units_well_formed.specs.routines.Reading.{IsBottom}

-- another last block of the same kind
bottom_end : (rest : List OpenBlock) (last new : OpenBlock) (count : ℕ) → new.kind ≡ last.kind → IsBottom (rest ++ last ∷ []) count → IsBottom (rest ++ new ∷ []) count
bottom_end [] last new count same h =
    let first : last ≡ h.first = (let e = h.is in cc) in
    let none : [] ≡ h.rest = (let e = h.is in cc) in
    record { first = new; rest = []; is = refl; part = same ∙ ap (λ (b : OpenBlock). b.kind) first ∙ h.part; several = ap (λ (b : List OpenBlock). length b) none ∙ h.several }
bottom_end (one ∷ rest) last new count same h =
    let first : one ≡ h.first = (let e = h.is in cc) in
    let others : rest ++ last ∷ [] ≡ h.rest = (let e = h.is in cc) in
    let count_is : length (rest ++ new ∷ []) ≡ length (rest ++ last ∷ []) = length-append rest (new ∷ []) ∙ sym (length-append rest (last ∷ [])) in
    record {
      first = one;
      rest = rest ++ new ∷ [];
      is = refl;
      part = ap (λ (b : OpenBlock). b.kind) first ∙ h.part;
      several = count_is ∙ ap (λ (b : List OpenBlock). length b) others ∙ h.several;
    }

pub some_bottom : (blocks : List OpenBlock) (count : ℕ) → IsBottom blocks count → blocks ≡ [] → ⊥
some_bottom blocks count h e =
    let k = h.is in
    let bad : ⊥ = cc in
    bad

pub named_bottom : (g : Environment) (name : List ℕ) (one : Entry) (count : ℕ) → IsBottom g.blocks count → IsBottom (these g.blocks name one) count
named_bottom g name one count h = by (ends g.blocks)
  where
    by : (g.blocks ≡ []) ⊎ Ends g.blocks → IsBottom (these g.blocks name one) count
    by (inl none) = absurd (some_bottom g.blocks count h none)
    by (inr e) =
        let new : OpenBlock = record { kind = e.last.kind; symbols = e.last.symbols ++ (name, one) ∷ [] } in
        let whole : IsBottom (e.rest ++ e.last ∷ []) count = subst (λ (b : List OpenBlock). IsBottom b count) e.is h in
        subst (λ (b : List OpenBlock). IsBottom (these b name one) count) (sym e.is)
        (subst (λ (b : List OpenBlock). IsBottom b count) (sym (record_end g name one e.rest e.last)) (bottom_end e.rest e.last new count refl whole))

-- one block more
pub more_bottom : (blocks : List OpenBlock) (new : OpenBlock) (count : ℕ) → IsBottom blocks count → IsBottom (blocks ++ new ∷ []) (suc count)
more_bottom blocks new count h =
    let n : length h.rest + 1 ≡ suc count = (let e = h.several in omega (arith, e)) in
    record {
      first = h.first;
      rest = h.rest ++ new ∷ [];
      is = ap (λ (b : List OpenBlock). b ++ new ∷ []) h.is;
      part = h.part;
      several = length-append h.rest (new ∷ []) ∙ n;
    }

-- and one less
less_end : (rest : List OpenBlock) (last : OpenBlock) (count : ℕ) → IsBottom (rest ++ last ∷ []) (suc count) → IsBottom rest count
less_end [] last count h =
    let none : [] ≡ h.rest = (let e = h.is in cc) in
    let n : 0 ≡ suc count = ap (λ (b : List OpenBlock). length b) none ∙ h.several in
    let bad : ⊥ = cc in
    absurd bad
less_end (one ∷ rest) last count h =
    let first : one ≡ h.first = (let e = h.is in cc) in
    let others : rest ++ last ∷ [] ≡ h.rest = (let e = h.is in cc) in
    let n : length (rest ++ last ∷ []) ≡ suc count = ap (λ (b : List OpenBlock). length b) others ∙ h.several in
    let l : length (rest ++ last ∷ []) ≡ length rest + 1 = length-append rest (last ∷ []) in
    record { first = one; rest = rest; is = refl; part = ap (λ (b : OpenBlock). b.kind) first ∙ h.part; several = omega (arith, n, l) }

pub closed_bottom : (blocks : List OpenBlock) (count : ℕ) → IsBottom blocks (suc count) → IsBottom (outer blocks) count
closed_bottom blocks count h = by (ends blocks)
  where
    by : (blocks ≡ []) ⊎ Ends blocks → IsBottom (outer blocks) count
    by (inl none) = absurd (some_bottom blocks (suc count) h none)
    by (inr e) =
        let whole : IsBottom (e.rest ++ e.last ∷ []) (suc count) = subst (λ (b : List OpenBlock). IsBottom b (suc count)) e.is h in
        subst (λ (b : List OpenBlock). IsBottom (outer b) count) (sym e.is) (subst (λ (b : List OpenBlock). IsBottom b count) (sym (outer_end e.rest e.last)) (less_end e.rest e.last count whole))

-- ---- as many routines are open as blocks are, but for the unit's own

kind_most : (kind : BlockKind) (around : List ℕ) → length (opening kind around) ≤ length around + 1
kind_most (block.Routine number owner) around = omega arith
kind_most block.Part around = omega arith
kind_most (block.With ty) around = omega arith

open_most : (blocks : List OpenBlock) (around : List ℕ) → length (open_from around blocks) ≤ length around + length blocks
open_most [] around = omega arith
open_most (one ∷ blocks) around =
    let first = kind_most one.kind around in
    let rest = open_most blocks (opening one.kind around) in
    add (length (opening one.kind around)) (length around) (length (open_from (opening one.kind around) blocks)) (length blocks) first rest
  where
    add : (m n o k : ℕ) → m ≤ n + 1 → o ≤ m + k → o ≤ n + suc k
    add m n o k h i = omega (arith, h, i)

bottom_most : (blocks : List OpenBlock) (count : ℕ) → IsBottom blocks count → length (open_from [] blocks) ≤ count
bottom_most blocks count h =
    let rest = open_most h.rest [] in
    let first : open_from [] blocks ≡ open_from [] h.rest = ap (λ (b : List OpenBlock). open_from [] b) h.is ∙ ap (λ (k : BlockKind). open_from (opening k []) h.rest) h.part in
    let l : length (open_from [] blocks) ≡ length (open_from [] h.rest) = ap (λ (ns : List ℕ). length ns) first in
    let n = h.several in
    omega (arith, rest, l, n)

-- so the innermost block is that of the innermost routine
kind_tail : (kind : BlockKind) (around numbers : List ℕ) (number : ℕ) → opening kind around ≡ number ∷ numbers → length around ≤ length numbers → around ≡ numbers
kind_tail (block.Routine own owner) around numbers number e few = (let same : around ≡ numbers = cc in same)
kind_tail block.Part around numbers number e few =
    let n : length around ≡ suc (length numbers) = ap (λ (ns : List ℕ). length ns) e in
    absurd (omega (arith, n, few))
kind_tail (block.With ty) around numbers number e few =
    let n : length around ≡ suc (length numbers) = ap (λ (ns : List ℕ). length ns) e in
    absurd (omega (arith, n, few))

pub closed_open : (blocks : List OpenBlock) (number : ℕ) (numbers : List ℕ) → IsBottom blocks (suc (length numbers)) → open_from [] blocks ≡ number ∷ numbers → open_from [] (outer blocks) ≡ numbers
closed_open blocks number numbers h o = by (ends blocks)
  where
    by : (blocks ≡ []) ⊎ Ends blocks → open_from [] (outer blocks) ≡ numbers
    by (inl none) = absurd (some_bottom blocks (suc (length numbers)) h none)
    by (inr e) =
        let whole : IsBottom (e.rest ++ e.last ∷ []) (suc (length numbers)) = subst (λ (b : List OpenBlock). IsBottom b (suc (length numbers))) e.is h in
        let few = bottom_most e.rest (length numbers) (less_end e.rest e.last (length numbers) whole) in
        let here : opening e.last.kind (open_from [] e.rest) ≡ number ∷ numbers = sym (open_end e.rest e.last []) ∙ sym (ap (λ (b : List OpenBlock). open_from [] b) e.is) ∙ o in
        ap (λ (b : List OpenBlock). open_from [] (outer b)) e.is ∙ ap (λ (b : List OpenBlock). open_from [] b) (outer_end e.rest e.last)
        ∙ kind_tail e.last.kind (open_from [] e.rest) numbers number here few
