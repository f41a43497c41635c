-- Places for the parts of the small program: the premises of its lowering can be met.
use Rattle.std.proofs.Common.{◌≡◌, ℕ, zero, suc, ◌<◌, ◌==◌, Bool, true, false, List, [], ◌∷◌, Option, Some, None, refl, sym, ap, ◌∙◌, subst, inl, inr, arith, codes}
use Rattle.std.specs.Prelude.{◌⊎◌, if◌then◌else◌, IsSome, slice_get}
use Rattle.std.specs.Option.{option_and_then}
use Rattle.std.specs.Cmp.Lexicographic.{same_text}
use Rattle.std.proofs.lemmas.Bool.Decides.{eqb_tells}
use Rattle.type_layout.specs.Words.{same_bytes}
use Rattle.flat_code.specs.declared.memory.Place.{Place}
use Rattle.flat_code.specs.Legal.{Mention, ToRoutine, ToDatum, ToVmt, CodeNames, ResultNames, Reaches, IsLegal, TakesData}
use Rattle.flat_code.specs.Tree.{Code, Error, End, Do, Loop}
use Rattle.flat_code.specs.Program.{Name, Key, Routine, Datum, Vmt, UnitCode, routine_of}
use Rattle.code_simulation.specs.bodies.Layouts.{IsIn}
use Rattle.compiler_correctness.specs.Slice.{flat_part, flat_unit, flat_units, flat_slice, part_key, part_place, far_by, callee_by, slice_choice, everything, SliceStands}

-- ---- the units

-- a unit of the slice: its routines name nothing, are far, and are one; it has no data
record IsPart (unit : UnitCode) : Type 0 where
  globals : unit.globals ≡ []
  vmts : unit.vmts ≡ []
  only : (number : ℕ) (r : Routine) → slice_get unit.routines number ≡ Some r
      → (number ≡ 0) × (r.far ≡ true) × ((own : Name) (names : List Name) → CodeNames (IsIn everything) own names r.body × ResultNames (IsIn everything) own names r.result)

none_is : {A : Type 0} (o : Option A) (x : A) → o ≡ None → o ≡ Some x → ⊥
none_is o x p q = cc

one_of : (r : Routine) (number : ℕ) (s : Routine) → slice_get (r ∷ []) number ≡ Some s → (number ≡ 0) × (r ≡ s)
one_of r zero s e = (refl, cc)
one_of r (suc n) s e = absurd (none_is (slice_get (r ∷ []) (suc n)) s refl e)

part_by : (a b : Bool) (unit : UnitCode) (first second : UnitCode) → IsPart first → IsPart second → (if a then Some first else (if b then Some second else None)) ≡ Some unit → IsPart unit
part_by true b unit first second p q e = let same : first ≡ unit = cc in subst IsPart same p
part_by false true unit first second p q e = let same : second ≡ unit = cc in subst IsPart same q
part_by false false unit first second p q e = absurd cc

part_is : (names : List Name) (body : Code) → ((own : Name) (names : List Name) → CodeNames (IsIn everything) own names body) → IsPart (flat_unit names body)
part_is names body none = record {
  globals = refl;
  vmts = refl;
  only = λ number r e.
      let o = one_of (flat_part body) number r e in
      let N : Routine → Type 0 = λ (r : Routine). (r.far ≡ true) × ((own : Name) (names : List Name) → CodeNames (IsIn everything) own names r.body × ResultNames (IsIn everything) own names r.result) in
      let so : N r = subst N o.1 (refl, λ own names. (none own names, tt)) in
      (o.0, so.0, so.1);
}

slice_part : (name : Name) (unit : UnitCode) → flat_units name ≡ Some unit → IsPart unit
slice_part name unit e =
    part_by (same_bytes name (codes "A")) (same_bytes name (codes "B")) unit (flat_unit (codes "A" ∷ []) End) (flat_unit (codes "B" ∷ codes "A" ∷ []) (Loop (Do (Error 200) End) End))
    (part_is (codes "A" ∷ []) End (λ own names. tt)) (part_is (codes "B" ∷ codes "A" ∷ []) (Loop (Do (Error 200) End) End) (λ own names. ((tt, tt), tt))) e

found_by : (o : Option UnitCode) (number : ℕ) (r : Routine) → option_and_then (λ (unit : UnitCode). slice_get unit.routines number) o ≡ Some r → (unit : UnitCode) × (o ≡ Some unit) × (slice_get unit.routines number ≡ Some r)
found_by None number r e = absurd cc
found_by (Some unit) number r e = (unit, refl, e)

-- ---- far pointers

far_some : (a b : Bool) (first second unit : UnitCode) → (if a then Some first else (if b then Some second else None)) ≡ Some unit → IsSome (far_by true a b)
far_some true b first second unit e = refl
far_some false true first second unit e = refl
far_some false false first second unit e = absurd cc

far_on : (first a b : Bool) → IsSome (far_by first a b) → (first ≡ true) × ((a ≡ true) ⊎ (b ≡ true))
far_on true true b s = (refl, inl refl)
far_on true false true s = (refl, inr refl)
far_on true false false s = absurd cc
far_on false a b s = absurd cc

far_at : (first a b : Bool) (p : Place) → far_by first a b ≡ Some p → (first ≡ true) × (((a ≡ true) × (part_place 1 ≡ p)) ⊎ ((b ≡ true) × (part_place 2 ≡ p)))
far_at true true b p e = (refl, inl (refl, cc))
far_at true false true p e = (refl, inr (refl, cc))
far_at true false false p e = absurd cc
far_at false a b p e = absurd cc

callee_at : (first a b : Bool) (key : Key) → callee_by first a b ≡ Some key → (first ≡ true) × (((a ≡ true) × (part_key (codes "A") ≡ key)) ⊎ ((b ≡ true) × (part_key (codes "B") ≡ key)))
callee_at true true b key e = (refl, inl (refl, cc))
callee_at true false true key e = (refl, inr (refl, cc))
callee_at true false false key e = absurd cc
callee_at false a b key e = absurd cc

number_from : (n m : ℕ) → (n == m) ≡ true → n ≡ m
number_from n m e = elim (eqb_tells n m) [
  | inl same ↦ same.1
  | inr other ↦ let bad : ⊥ = absurd_bools (sym e ∙ other.0) in absurd bad
]
  where
    absurd_bools : true ≡ false → ⊥
    absurd_bools e = cc

key_from : (key : Key) (name : Name) → (key.number == 0) ≡ true → same_bytes key.unit name ≡ true → part_key name ≡ key
key_from key name zero_is named =
    let unit : key.unit ≡ name = same_text key.unit name (sym named) in
    let number : key.number ≡ 0 = number_from key.number 0 zero_is in
    let same : record { unit = name; number = 0 } ≡ record { unit = key.unit; number = key.number } = cc in
    same

place_from : (p : Place) (segment : ℕ) → (p.offset == 0) ≡ true → (p.segment == segment) ≡ true → part_place segment ≡ p
place_from p segment zero_is there =
    let offset : p.offset ≡ 0 = number_from p.offset 0 zero_is in
    let same_segment : p.segment ≡ segment = number_from p.segment segment there in
    let same : record { segment = segment; offset = 0 } ≡ record { segment = p.segment; offset = p.offset } = cc in
    same

abbrev FarOnly : Bool → Key → Type 0
FarOnly overlaid key = (r : Routine) × (routine_of (flat_slice overlaid) key ≡ Some r) × (r.far ≡ true) × IsIn everything (ToRoutine key)

far_only : (overlaid : Bool) (key : Key) → IsSome (slice_choice.far key) → FarOnly overlaid key
far_only overlaid key s =
    let on = far_on (key.number == 0) (same_bytes key.unit (codes "A")) (same_bytes key.unit (codes "B")) s in
    elim on.1 [
      | inl a ↦ subst (FarOnly overlaid) (key_from key (codes "A") on.0 a) (flat_part End, refl, refl, refl)
      | inr b ↦ subst (FarOnly overlaid) (key_from key (codes "B") on.0 b) (flat_part (Loop (Do (Error 200) End) End), refl, refl, refl)
    ]

far_there : (overlaid : Bool) (key : Key) (r : Routine) → routine_of (flat_slice overlaid) key ≡ Some r → IsSome (slice_choice.far key)
far_there overlaid key r e =
    let found = found_by (flat_units key.unit) key.number r e in
    let first : key.number ≡ 0 = ((slice_part key.unit found.0 found.1).only key.number r found.2).0 in
    let some = far_some (same_bytes key.unit (codes "A")) (same_bytes key.unit (codes "B")) (flat_unit (codes "A" ∷ []) End) (flat_unit (codes "B" ∷ codes "A" ∷ []) (Loop (Do (Error 200) End) End)) found.0 found.1 in
    subst (λ (n : ℕ). IsSome (far_by (n == 0) (same_bytes key.unit (codes "A")) (same_bytes key.unit (codes "B")))) (sym first) some

called : (key : Key) (p : Place) → slice_choice.callee p ≡ Some key → slice_choice.far key ≡ Some p
called key p e =
    let Q : Key → Place → Type 0 = λ (k : Key) (q : Place). slice_choice.far k ≡ Some q in
    let at = callee_at (p.offset == 0) (p.segment == 1) (p.segment == 2) key e in
    elim at.1 [
      | inl a ↦ subst (λ (k : Key). Q k p) a.1 (subst (λ (q : Place). Q (part_key (codes "A")) q) (place_from p 1 at.0 a.0) refl)
      | inr b ↦ subst (λ (k : Key). Q k p) b.1 (subst (λ (q : Place). Q (part_key (codes "B")) q) (place_from p 2 at.0 b.0) refl)
    ]

calls : (key : Key) (p : Place) → slice_choice.far key ≡ Some p → slice_choice.callee p ≡ Some key
calls key p e =
    let Q : Key → Place → Type 0 = λ (k : Key) (q : Place). slice_choice.callee q ≡ Some k in
    let at = far_at (key.number == 0) (same_bytes key.unit (codes "A")) (same_bytes key.unit (codes "B")) p e in
    elim at.1 [
      | inl a ↦ subst (λ (q : Place). Q key q) a.1 (subst (λ (k : Key). Q k (part_place 1)) (key_from key (codes "A") at.0 a.0) refl)
      | inr b ↦ subst (λ (q : Place). Q key q) b.1 (subst (λ (k : Key). Q k (part_place 2)) (key_from key (codes "B") at.0 b.0) refl)
    ]

far_words : (key : Key) (p : Place) → slice_choice.far key ≡ Some p → (p.segment < 65536) × (p.offset < 65536)
far_words key p e =
    let W : Place → Type 0 = λ (q : Place). (q.segment < 65536) × (q.offset < 65536) in
    elim (far_at (key.number == 0) (same_bytes key.unit (codes "A")) (same_bytes key.unit (codes "B")) p e).1 [
      | inl a ↦ subst W a.1 (omega arith, omega arith)
      | inr b ↦ subst W b.1 (omega arith, omega arith)
    ]

-- ---- data

no_data : (overlaid : Bool) (mention : Mention) (offset size : ℕ) → TakesData (flat_slice overlaid) slice_choice mention offset size → ⊥
no_data overlaid (ToRoutine key) offset size x = x
no_data overlaid (ToDatum key) offset size (unit, datum, is, got, place, bytes) =
    none_is (slice_get unit.globals key.number) datum (ap (λ (globals : List Datum). slice_get globals key.number) (slice_part key.unit unit is).globals) got
no_data overlaid (ToVmt key) offset size (unit, vmt, is, got, place, bytes) =
    none_is (slice_get unit.vmts key.number) vmt (ap (λ (vmts : List Vmt). slice_get vmts key.number) (slice_part key.unit unit is).vmts) got

-- ---- all of it

slice_reaches : (overlaid : Bool) → Reaches (flat_slice overlaid) (IsIn everything)
slice_reaches overlaid = record {
  initials = λ name unit number listed is initial. refl;
  bodies = λ key unit r there is e.
      let found = found_by (flat_units key.unit) key.number r e in
      ((slice_part key.unit found.0 found.1).only key.number r found.2).2 key.unit unit.names;
  methods = λ key unit vmt there is e.
      absurd (none_is (slice_get unit.vmts key.number) vmt (ap (λ (vmts : List Vmt). slice_get vmts key.number) (slice_part key.unit unit is).vmts) e);
}

slice_legal : (overlaid : Bool) → IsLegal (flat_slice overlaid) slice_choice (IsIn everything)
slice_legal overlaid = record {
  datum = λ key. (λ s. refl, λ r. refl);
  vmt = λ key. (λ s. refl, λ r. refl);
  far = λ key r e far there. far_there overlaid key r e;
  far_only = far_only overlaid;
  callee = λ key p. (called key p, calls key p);
  words = far_words;
  data_bytes = 0;
  inside = λ mention offset size x. absurd (no_data overlaid mention offset size x);
  apart = λ first second a m b n other x y. absurd (no_data overlaid first a m x);
  data_small = omega arith;
  heap_first = omega arith;
  data_stack = inl (omega arith);
  data_heap = inl (omega arith);
  stack_heap = inl (omega arith);
  data_end = omega arith;
  stack_fits = record { small = omega arith; inside = omega arith };
  heap_end = omega arith;
}

pub slice_stands : SliceStands
slice_stands overlaid = record {
  reaches = slice_reaches overlaid;
  runtime = record {
    item = refl;
    ahead = refl;
    overlay = record { result = refl; name = refl };
    heap = record { segment = refl; bytes = refl; state = refl };
    scratch = refl;
  };
  legal = slice_legal overlaid;
  segments = record { data_small = omega arith; stack_small = omega arith; heap_small = omega arith };
}
